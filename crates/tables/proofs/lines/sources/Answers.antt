-- `lines::sources` meets its contract: a network of one line has no bits, one of two lines is one switch, and through a wider one the numbered lines
-- are sent all at once.
use Rattle.std.proofs.Common.{ℕ, ◌≡◌, ◌+◌, ◌%◌, ◌<◌, ◌≤◌, List, length, get_or, sym, ap, ◌∙◌, arith}
use Rattle.laws.specs.Sum.{hits}
use Rattle.laws.proofs.Sums.{hits-none}
use Rattle.bits.specs.Bits.{bit}
use Rattle.bits.specs.Reading.{onward}
use Rattle.bits.proofs.Fields.{bit-lt}
use Rattle.bits.proofs.OnePass.{onward-none}
use Rattle.tables.specs.inner.Lines.{Switches}
use Rattle.tables.proofs.Puts.{bit_count-fits}
use Rattle.tables.proofs.Passes.{fronts-sized, sources-routed, sources-straight, sources-switched}
use Rattle.tables.proofs.lines.sources.Goals as goal

pub returns-then-count-eq0 : goal.returns-then-count-eq0
returns-then-count-eq0 c =
    let a = c.args in
    let none : a.count ≡ 0 = c.if-count-eq0.true in (
      sym (onward-none a.cursor) ∙ ap (onward a.cursor) (sym none),
      sym (ap (λ (k : ℕ). hits k (λ i. bit a.file.now (a.cursor.at + i)) 1) none ∙ sym (hits-none _ 1)),
      λ depth S. sources-straight depth _ a.standing.now S none (omega arith),
    )

pub switches-next-requires : goal.switches-next-requires
switches-next-requires c =
    let r = c.requires in
    let fours : c.args.count % 4 ≤ 1 = omega (arith, bit_count-fits r.by_index.0, ap (λ (k : ℕ). k % 4) r.by_index.1.1) in
    (r.in_bounds.0, r.in_bounds.2, fours, r.in_bounds.3)

-- ---- two lines

-- a bit that was found is 0 or 1
found-lt : {file found : List ℕ} {at count : ℕ} (i : ℕ) → Switches file at count found → i < count → get_or found i 0 < 2
found-lt {file} {found} {at} i S l = rw (S.each i l) (bit-lt file (at + i))

pub overflow_sub-standing : goal.overflow_sub-standing
overflow_sub-standing c = omega (arith, found-lt 0 c.switches-next.ensures.2 (omega arith))

pub returns-then-count-eq1 : goal.returns-then-count-eq1
returns-then-count-eq1 c =
    let s = c.switches-next in
    let one : c.args.count ≡ 1 = c.if-count-eq1.true in (
      s.ensures.0,
      s.ensures.1,
      λ depth S. sources-switched depth _ c.args.standing.now (get_or s.new.found 0 0) S one (s.ensures.2.each 0 (omega arith)) (omega arith),
    )

-- ---- more lines

pub returns : goal.returns
returns c =
    let s = c.switches-next in
    let standing = c.number.new.standing in
    let wide : c.args.lines ≤ length standing = omega (arith, c.number.array_long, c.requires.in_bounds) in
    let long : c.args.count ≤ length s.new.found = omega (arith, s.ensures.2.long, c.requires.in_bounds) in (
      s.ensures.0,
      s.ensures.1,
      λ depth S. sources-routed standing S c.requires.in_bounds.1 s.ensures.2 (c.number.array_long, c.number.ensures)
          (c.route.ensures depth (fronts-sized depth s.new.found standing S wide long)),
    )
