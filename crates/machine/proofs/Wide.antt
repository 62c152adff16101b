-- The line of a set of any width, as a step takes it. The cursor is carried on from the read addresses to the switch bits and to the write addresses. What is
-- found there are the definition's tests, in its order, and the words of a line that passes them move.
use Prim.Native.Nat.{ℕ, ◌+◌, ◌*◌, ◌-◌, ◌^◌, ◌≤◌}
use mathlib.Core.Path.{◌≡◌, subst, sym, ap, ◌∙◌}
use mathlib.Core.Bool.{Bool, true, false}
use mathlib.Core.List.{List}
use native.Mathlib.Omega.{arith}
use lib.ListN.{length, get_or}
use Rattle.std.specs.Prelude.{Ok, Err}
use Rattle.refusal.specs.declared.Refusal.TheVariants.{ReadAddress, SpareLine, WriteAddress}
use Rattle.bits.specs.Reading.{onward}
use Rattle.bits.specs.inner.Taking.{Room, WithZeros}
use Rattle.bits.specs.declared.reader.Cursor.{Cursor}
use Rattle.tables.specs.Terms.{Dims, cycles, depth, address_bits, switch_bits, line_bits}
use Rattle.tables.specs.Format.{cursor_at, line_at}
use Rattle.tables.specs.Datapath.{carry_strays}
use Rattle.tables.specs.inner.Lines.{Sends, spare_used}
use Rattle.tables.specs.declared.Pass.{Pass}
use Rattle.tables.specs.Shapes.{Size}
use Rattle.tables.specs.declared.Shape.{Shape}
use Rattle.tables.specs.declared.Shape.TheInside.{Inside}
use Rattle.tables.proofs.Cursors.{line-room, room-less, room-behind, carried_on}
use Rattle.tables.proofs.Held.{reads_of, writes_of, read-row, write-row, crossings-held, line-held, spare-held}
use Rattle.tables.proofs.Lined.{Line}
use Rattle.tables.proofs.Passes.{line-parts}
use Rattle.tables.proofs.Shapes.{Fields}
use Rattle.clock.specs.declared.Clock.{Clock}
use Rattle.machine.specs.inner.Ready.{InRange, line_outcome, move_of}
use Rattle.machine.specs.inner.Rows.{row_of, spot_in, word_in, Outside, Taken, Sent, stored}
use Rattle.machine.proofs.Taking.{reads-out, reads_in, writes-out, writes-in, words-sent, words-put}
use Rattle.machine.proofs.Tests.{read-refused, carry-refused, write-refused, line-moves}

-- the spare lines, by the fields of a shape
pub spare-told : {s : Inside} {z : Size} → Fields s z → (sources : List ℕ) {used : Bool} → used ≡ spare_used sources s.width s.lines
    → used ≡ spare_used sources z.width (2 ^ depth z.width)
spare-told F sources told = rw (F.width, F.lines) at told

module _ {shape : Shape} (D : Dims shape.words shape.width) {clock : Clock} (G : InRange (cycles shape.words shape.width) clock) {cursor : Cursor}
    (begun : cursor ≡ cursor_at shape.words shape.width clock.cycle) where
  abbrev n : ℕ
  n = shape.words

  abbrev w : ℕ
  w = shape.width

  abbrev t : ℕ
  t = clock.cycle

  -- the bits of a row of addresses
  abbrev row : ℕ
  row = w * address_bits n w

  -- the bits of its network
  abbrev switches : ℕ
  switches = switch_bits w

  -- ---- the cursor begins at the step's own line, with room for it

  at-line : cursor.at ≡ line_at n w t
  at-line = ap (λ (x : Cursor). x.at) begun

  room : Room cursor (line_bits n w)
  room =
      let none : cursor.handed ≡ 0 = ap (λ (x : Cursor). x.handed) begun in
      line-room D t G.cycle at-line (omega (arith, none))

  pub reads-room : Room cursor row
  reads-room = room-less room (omega (arith, line-parts n w))

  module _ {next : Cursor} (e : next ≡ onward cursor row) where
    pub switches-room : Room next switches
    switches-room = room-behind cursor row e room (omega (arith, line-parts n w))

    pub writes-room : {behind : Cursor} → behind ≡ onward next switches → Room behind row
    writes-room f =
        room-behind cursor (row + switches) (carried_on cursor row e switches f) room (omega (arith, line-parts n w))

  -- ---- what is found, of every file that the bytes read as

  module _ (some : 1 ≤ clock.fill) {file bytes : List ℕ} (Z : WithZeros file bytes) (first second : List ℕ) where
    pub reads-fail : Outside (row_of shape bytes cursor.at) shape
        → line_outcome (Err (ReadAddress t)) second ≡ move_of n w file clock first second
    reads-fail O =
        read-refused n w file clock first second some
        (reads-out shape D file t (subst (λ (x : List ℕ). Outside x shape) (read-row cursor t D Z at-line) O))

    module _ {next : Cursor} {got sources : List ℕ} {pass : Pass} (e : next ≡ onward cursor row)
        (R : Taken (word_in shape first (1 - clock.half)) (row_of shape bytes cursor.at) shape w got)
        (N : Sends shape bytes next pass sources) where
      reads : Taken (word_in shape first (1 - clock.half)) (reads_of n w file t) shape w got
      reads =
          subst (λ (x : List ℕ). Taken (word_in shape first (1 - clock.half)) x shape w got) (read-row cursor t D Z at-line) R

      line : Line n w file t (reads_of n w file t) sources (writes_of n w file t)
      line = line-held cursor t D Z at-line e N.2

      spare : spare_used sources w (2 ^ depth w) ≡ carry_strays n w file t
      spare = spare-held cursor t D Z at-line e N.2

      pub spare-fails : spare_used sources w (2 ^ depth w) ≡ true
          → line_outcome (Err (SpareLine t)) second ≡ move_of n w file clock first second
      spare-fails u = carry-refused n w file clock first second some (reads_in shape D file t reads) (sym spare ∙ u)

      module _ (u : spare_used sources w (2 ^ depth w) ≡ false) where
        behind : pass.cursor ≡ onward cursor (row + switches)
        behind = carried_on cursor row e switches N.0

        pub writes-fail : Outside (row_of shape bytes pass.cursor.at) shape
            → line_outcome (Err (WriteAddress t)) second ≡ move_of n w file clock first second
        writes-fail O =
            write-refused n w file clock first second some (reads_in shape D file t reads) (sym spare ∙ u)
            (writes-out shape D file t (subst (λ (x : List ℕ). Outside x shape) (write-row cursor t D Z at-line behind) O))

        module _ {to : List ℕ} (W : Taken (spot_in shape clock.half) (row_of shape bytes pass.cursor.at) shape w to) where
          writes : Taken (spot_in shape clock.half) (writes_of n w file t) shape w to
          writes =
              subst (λ (x : List ℕ). Taken (spot_in shape clock.half) x shape w to) (write-row cursor t D Z at-line behind) W

          pub line-sent : 2 * n ≤ length second → Sent shape got sources to second
          line-sent long = words-sent shape D file clock G.half first line (sym spare ∙ u) reads writes second long

          pub line-put : {moved : List ℕ} → moved ≡ stored (λ k. get_or to k 0) (λ k. get_or got (get_or sources k 0) 0) w second
              → line_outcome (Ok pass.crossed) moved ≡ move_of n w file clock first second
          line-put put =
              line-moves n w file clock first second some (reads_in shape D file t reads) (sym spare ∙ u) (writes-in shape D file t writes)
              (crossings-held cursor t D Z at-line e N.1)
              (put ∙ words-put shape D file clock G.half first line (sym spare ∙ u) reads writes second)
