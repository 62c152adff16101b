-- `move_two`: the four addresses and the switch bit are cut out of the line's field, the addresses are tested, and both words move.
use Rattle.std.proofs.Common.{ℕ, ◌+◌, ◌*◌, ◌-◌, ◌/◌, ◌%◌, ◌^◌, ◌<◌, ◌≤◌, ◌≡◌, List, ◌∙◌, arith}
use native.Mathlib.Nat.{mul-le-mul_right}
use Rattle.bits.specs.Bits.{field}
use Rattle.bits.specs.inner.Taking.{WithZeros, field_behind}
use Rattle.bits.specs.declared.reader.Cursor.{Cursor}
use Rattle.bits.specs.declared.reader.Field.{Field}
use Rattle.tables.specs.Format.{cursor_at, line_at, read_address}
use Rattle.tables.specs.Terms.{cycles, address_bits}
use Rattle.tables.specs.Shapes.{Size}
use Rattle.tables.specs.declared.Shape.TheInside.{Inside}
use Rattle.tables.proofs.Dims.{address_bits-few}
use Rattle.tables.proofs.Narrow.{field_room, field-taken, two-even, two-odd, two-bit, two-write, two-other}
use Rattle.tables.proofs.Shapes.{Fields, shape_fields}
use Rattle.machine.proofs.Narrow.{Pair, read_out, near-out, far-out, two-moved}
use Rattle.machine.proofs.stepping.move_two.Goals as goal

module _ {s : Inside} {z : Size} (F : Fields s z) (t : ℕ) {bytes : List ℕ} {cursor : Cursor} {line : Field}
    (stands : cursor ≡ cursor_at z.words z.width t) (L : line ≡ field_behind bytes cursor (4 * s.addressing + 1))
    {file : List ℕ} (Z : WithZeros file bytes) where
  abbrev n : ℕ
  n = z.words

  abbrev w : ℕ
  w = z.width

  -- all bits of the line
  line-is : line.value ≡ field bytes (line_at n w t) (4 * address_bits n w + 1)
  line-is = field-taken n w t bytes (4 * address_bits n w + 1) stands (rw F.addressing at L)

  -- its numbers, of every file that the bytes read as
  even-is : {even : ℕ} → even ≡ line.value / 2 ^ (3 * s.addressing + 1) % 2 ^ s.addressing → even ≡ read_address n w file t 0
  even-is e = (rw F.addressing at e) ∙ two-even n w Z t line-is

  odd-is : {odd : ℕ} → odd ≡ line.value / 2 ^ (2 * s.addressing + 1) % 2 ^ s.addressing → odd ≡ read_address n w file t 1
  odd-is e = (rw F.addressing at e) ∙ two-odd n w Z t line-is

  numbers : {even odd bit near far : ℕ} → w ≡ 2 → even ≡ line.value / 2 ^ (3 * s.addressing + 1) % 2 ^ s.addressing
      → odd ≡ line.value / 2 ^ (2 * s.addressing + 1) % 2 ^ s.addressing → even < cycles n w → odd < cycles n w
      → bit ≡ line.value / 2 ^ (2 * s.addressing) % 2 ^ 1
      → near ≡ line.value / 2 ^ ((1 - bit) * s.addressing) % 2 ^ s.addressing
      → far ≡ line.value / 2 ^ (bit * s.addressing) % 2 ^ s.addressing
      → Pair n w file t even odd bit near far
  numbers {even} {odd} {bit} two e o l m b n' f =
      let small : bit < 2 = omega (arith, b) in
      record {
        two = two;
        reads-even = even-is e;
        reads-odd = odd-is o;
        even-inside = l;
        odd-inside = m;
        switch = (rw F.addressing at b) ∙ two-bit n w Z t line-is two;
        writes-near = (rw F.addressing at n') ∙ two-write n w Z t line-is two bit small;
        writes-far = (rw F.addressing at f) ∙ two-other n w Z t line-is two bit small;
      }

-- an address has few bits
few : {s : Inside} {z : Size} → Fields s z → s.addressing ≤ 14
few F = omega (arith, F.addressing, address_bits-few F.dims)

-- at most one address lies behind a write address
behind-few : {s : Inside} {z : Size} → Fields s z → (k : ℕ) → k ≤ 1 → k * s.addressing ≤ 14
behind-few {s} F k l = omega (arith, few F, mul-le-mul_right {m = k} {n = 1} s.addressing l)

pub overflow_mul-size : goal.overflow_mul-size
overflow_mul-size c =
    let F = shape_fields c.shape.invariant c.shape.view_is in
    omega (arith, few F)

pub overflow_add-size : goal.overflow_add-size
overflow_add-size c =
    let F = shape_fields c.shape.invariant c.shape.view_is in
    omega (arith, few F)

pub next_field-line-requires : goal.next_field-line-requires
next_field-line-requires c =
    let F = shape_fields c.shape.invariant c.shape.view_is in
    let small = few F in (
      omega (arith, small),
      c.requires.in_bounds.0,
      field_room F.dims c.args.clock.cycle c.requires.in_range.0.cycle c.cursor_at.ensures (omega (arith, small)),
    )

pub address_in-even-requires : goal.address_in-even-requires
address_in-even-requires c =
    let F = shape_fields c.shape.invariant c.shape.view_is in
    let small = few F in (omega (arith, small), omega (arith, small))

pub address_in-odd-requires : goal.address_in-odd-requires
address_in-odd-requires c =
    let F = shape_fields c.shape.invariant c.shape.view_is in
    let small = few F in (omega (arith, small), omega (arith, small))

pub returns-then-shape-even : goal.returns-then-shape-even
returns-then-shape-even c file Z =
    let F = shape_fields c.shape.invariant c.shape.view_is in
    let G = shape_fields c.shape-2.invariant c.shape-2.view_is in
    read_out _ _ file _ _ _ c.requires.in_range.1 0 (omega (arith, c.requires.in_range.2))
    (even-is F c.args.clock.cycle c.cursor_at.ensures c.next_field-line.ensures Z c.address_in-even.ensures)
    (rw G.cycles at c.if-shape-even.true)

pub returns-then-shape-odd : goal.returns-then-shape-odd
returns-then-shape-odd c file Z =
    let F = shape_fields c.shape.invariant c.shape.view_is in
    let G = shape_fields c.shape-2.invariant c.shape-2.view_is in
    read_out _ _ file _ _ _ c.requires.in_range.1 1 (omega (arith, c.requires.in_range.2))
    (odd-is F c.args.clock.cycle c.cursor_at.ensures c.next_field-line.ensures Z c.address_in-odd.ensures)
    (rw G.cycles at c.if-shape-odd.true)

pub address_in-bit-requires : goal.address_in-bit-requires
address_in-bit-requires c =
    let F = shape_fields c.shape.invariant c.shape.view_is in
    (omega (arith, few F), omega arith)

pub address_in-near-requires : goal.address_in-near-requires
address_in-near-requires c =
    let F = shape_fields c.shape.invariant c.shape.view_is in
    (omega (arith, behind-few F (1 - c.address_in-bit.result) (omega arith)), omega (arith, few F))

pub address_in-far-requires : goal.address_in-far-requires
address_in-far-requires c =
    let F = shape_fields c.shape.invariant c.shape.view_is in
    (omega (arith, behind-few F c.address_in-bit.result (omega (arith, c.address_in-bit.ensures))), omega (arith, few F))

pub returns-then-shape-near : goal.returns-then-shape-near
returns-then-shape-near c file Z =
    let F = shape_fields c.shape.invariant c.shape.view_is in
    let G = shape_fields c.shape-2.invariant c.shape-2.view_is in
    let P = numbers F c.args.clock.cycle c.cursor_at.ensures c.next_field-line.ensures Z c.requires.in_range.2 c.address_in-even.ensures
    c.address_in-odd.ensures (rw G.cycles at c.if-shape-even.false) (rw G.cycles at c.if-shape-odd.false) c.address_in-bit.ensures c.address_in-near.ensures
    c.address_in-far.ensures in
    near-out _ _ file _ _ _ c.requires.in_range.1 P (rw G.cycles at c.if-shape-near.true)

pub returns-then-shape-far : goal.returns-then-shape-far
returns-then-shape-far c file Z =
    let F = shape_fields c.shape.invariant c.shape.view_is in
    let G = shape_fields c.shape-2.invariant c.shape-2.view_is in
    let P = numbers F c.args.clock.cycle c.cursor_at.ensures c.next_field-line.ensures Z c.requires.in_range.2 c.address_in-even.ensures
    c.address_in-odd.ensures (rw G.cycles at c.if-shape-even.false) (rw G.cycles at c.if-shape-odd.false) c.address_in-bit.ensures c.address_in-near.ensures
    c.address_in-far.ensures in
    far-out _ _ file _ _ _ c.requires.in_range.1 P (rw G.cycles at c.if-shape-far.true)

pub returns : goal.returns
returns c file Z =
    let F = shape_fields c.shape.invariant c.shape.view_is in
    let G = shape_fields c.shape-2.invariant c.shape-2.view_is in
    let P = numbers F c.args.clock.cycle c.cursor_at.ensures c.next_field-line.ensures Z c.requires.in_range.2 c.address_in-even.ensures
    c.address_in-odd.ensures (rw G.cycles at c.if-shape-even.false) (rw G.cycles at c.if-shape-odd.false) c.address_in-bit.ensures c.address_in-near.ensures
    c.address_in-far.ensures in
    rw (c.move_word-2.ensures, c.move_word.ensures)
    (two-moved _ _ file c.args.clock c.args.first.now c.args.second.now c.requires.in_range.1 P
    (rw G.cycles at c.if-shape-near.false) (rw G.cycles at c.if-shape-far.false))
