-- `lines::switches` meets its contract: each turn takes a field that begins where the one before it ended, puts its bits behind those that are there,
-- and counts its ones. The rest comes last; as the fields before it have whole fours of bits, at most one of its bits is left of fours.
use Rattle.std.proofs.Common.{ℕ, ◌≡◌, ◌+◌, ◌-◌, ◌≤◌, List, refl, sym, ap, ◌∙◌, arith}
use lib.Count.{ones}
use Rattle.limits.specs.Limits.{most_switches}
use Rattle.laws.specs.Sum.{hits}
use Rattle.laws.proofs.Sums.{hits-none, hits_few}
use Rattle.laws.proofs.Tabulates.{Filling}
use Rattle.bits.specs.Bits.{bit, field}
use Rattle.bits.specs.Reading.{onward}
use Rattle.bits.specs.inner.Taking.{field_behind}
use Rattle.bits.specs.declared.reader.Cursor.{Cursor}
use Rattle.bits.specs.declared.reader.Field.{Field}
use Rattle.bits.proofs.OnePass.{onward-none}
use Rattle.tables.specs.inner.Lines.{Spread}
use Rattle.tables.proofs.Cursors.{field-behind}
use Rattle.tables.proofs.Puts.{filling-spread, ones-more}
use Rattle.tables.proofs.lines.switches.Goals as goal

-- a field of k bits is taken behind the first i
module _ (file : List ℕ) (cursor : Cursor) (i k : ℕ) {next : Cursor} {crossed : ℕ} {taken : Field} (here : next ≡ onward cursor i)
    (e : taken ≡ field_behind file next k) (before : crossed ≡ hits i (λ j. bit file (cursor.at + j)) 1) where
  value-known : taken.value ≡ field file (cursor.at + i) k
  value-known = (field-behind cursor i here file k e).0

  moved : taken.rest ≡ onward cursor (i + k)
  moved = (field-behind cursor i here file k e).1

  counted : crossed + ones taken.value ≡ hits (i + k) (λ j. bit file (cursor.at + j)) 1
  counted = ones-more file cursor.at i k value-known before

  counted-few : crossed + ones taken.value ≤ i + k
  counted-few = omega (arith, counted, hits_few (i + k) (λ j. bit file (cursor.at + j)) 1)

  filled : {found after : List ℕ} → Filling (λ j. bit file (cursor.at + j)) most_switches i found → Spread taken.value k i found after
      → Filling (λ j. bit file (cursor.at + j)) most_switches (i + k) after
  filled F S = filling-spread file cursor.at i k value-known F S

pub loop-i-init : goal.loop-i-init
loop-i-init c = (
  omega arith,
  refl,
  sym (onward-none c.args.cursor),
  hits-none _ 1,
  record { long = omega arith; filled = λ i l. absurd (omega arith) },
)

pub overflow_add-crossed : goal.overflow_add-crossed
overflow_add-crossed c =
    let l = c.loop-i in
    record { fits = omega (arith, counted-few c.args.file.now c.args.cursor l.i 56 l.invariant.2 c.next_field-taken.ensures l.invariant.3) }

pub loop-i-preserved : goal.loop-i-preserved
loop-i-preserved c =
    let l = c.loop-i in
    let file = c.args.file.now in
    let cursor = c.args.cursor in
    let taken = c.next_field-taken.ensures in (
      omega (arith, c.loop-i-test.true),
      omega (arith, l.invariant.1),
      moved file cursor l.i 56 l.invariant.2 taken l.invariant.3,
      counted file cursor l.i 56 l.invariant.2 taken l.invariant.3,
      filled file cursor l.i 56 l.invariant.2 taken l.invariant.3 l.invariant.4 c.spread.ensures,
    )

pub overflow_add-crossed-2 : goal.overflow_add-crossed-2
overflow_add-crossed-2 c =
    let l = c.loop-i in
    record {
      fits = omega (arith, counted-few c.args.file.now c.args.cursor l.i (c.args.count - l.i) l.invariant.2 c.next_field-last.ensures l.invariant.3);
    }

pub returns : goal.returns
returns c =
    let l = c.loop-i in
    let file = c.args.file.now in
    let cursor = c.args.cursor in
    let rest = c.args.count - l.i in
    let taken = c.next_field-last.ensures in
    let all : l.i + rest ≡ c.args.count = omega (arith, l.invariant.0) in
    let F = filled file cursor l.i rest l.invariant.2 taken l.invariant.3 l.invariant.4 c.spread-2.ensures in (
      moved file cursor l.i rest l.invariant.2 taken l.invariant.3 ∙ ap (onward cursor) all,
      counted file cursor l.i rest l.invariant.2 taken l.invariant.3 ∙ ap (λ (k : ℕ). hits k (λ j. bit file (cursor.at + j)) 1) all,
      record { long = F.long; each = λ i l. F.filled i (omega (arith, all)) },
    )
