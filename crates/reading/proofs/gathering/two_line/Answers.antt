-- `two_line`: the two pairs of addresses and the switch bit stand in the one field of the line, which the scan of the file finds there.
use Rattle.std.proofs.Common.{ℕ, ◌+◌, ◌*◌, ◌/◌, ◌%◌, ◌^◌, ◌<◌, ◌≡◌, List, refl, ap, ◌∙◌, arith}
use Rattle.bits.specs.Bits.{bit, field}
use Rattle.bits.specs.inner.Taking.{field_behind}
use Rattle.bits.specs.declared.reader.Cursor.{Cursor}
use Rattle.bits.specs.declared.reader.Field.{Field}
use Rattle.bits.proofs.Fields.{bit-lt}
use Rattle.tables.specs.Terms.{address_bits, switch_bits, line_bits}
use Rattle.tables.specs.Shapes.{Size}
use Rattle.tables.specs.declared.Shape.TheInside.{Inside}
use Rattle.tables.specs.inner.Lines.{row_at}
use Rattle.tables.proofs.Held.{read-row}
use Rattle.rows.specs.inner.Rows.{Paired}
use Rattle.rows.specs.declared.pairs.Pair.{Pair}
use Rattle.reading.proofs.Known.{read-refused}
use Rattle.reading.proofs.OneField.{
  narrow_two,
  pair_inside,
  both-carried,
  both_first,
  both-second,
  bit-inside,
  crossed-one,
  behind,
  narrow-refused,
  narrow-passes,
}
use Rattle.tables.proofs.Shapes.{Fields, shape_fields}
use Rattle.reading.proofs.gathering.two_line.Goals as goal

-- the parts that are cut out of the line
module _ {s : Inside} {z : Size} (F : Fields s z) (two : z.width ≡ 2) (bytes : List ℕ) (cursor : Cursor) {line : Field}
    (L : line ≡ field_behind bytes cursor s.stride) where
  line-is : {all : ℕ} → line_bits z.words z.width ≡ all → line.value ≡ field bytes cursor.at all
  line-is e = ap (λ (x : Field). x.value) (rw F.stride at L) ∙ ap (field bytes cursor.at) e

  reads-are : {pair : Pair}
      → ((file : List ℕ) (from k at : ℕ)
      → line.value ≡ field file from (k + s.addressing + s.addressing + (2 * s.addressing + 1))
      → at ≡ from + k → Paired (row_at file at s.addressing) pair)
      → Paired (row_at bytes cursor.at (address_bits z.words z.width)) pair
  reads-are cut =
      let N = narrow_two F.dims two in
      (rw F.addressing at cut) bytes cursor.at 0 cursor.at (line-is (omega (arith, N.stride))) (omega arith)

  writes-are : {pair : Pair}
      → ((file : List ℕ) (from k at : ℕ) → line.value ≡ field file from (k + s.addressing + s.addressing + 0)
      → at ≡ from + k → Paired (row_at file at s.addressing) pair)
      → Paired (row_at bytes (behind z.words z.width cursor).at (address_bits z.words z.width)) pair
  writes-are cut =
      let N = narrow_two F.dims two in
      let row = z.width * address_bits z.words z.width + switch_bits z.width in
      (rw F.addressing at cut) bytes cursor.at row (behind z.words z.width cursor).at
      (line-is (omega (arith, N.stride, N.row, N.switches))) refl

  bit-is : {b : ℕ} → b ≡ line.value / 2 ^ (2 * s.addressing) % 2 ^ 1
      → b ≡ bit bytes (cursor.at + z.width * address_bits z.words z.width + 0)
  bit-is cut =
      let N = narrow_two F.dims two in
      let size = address_bits z.words z.width in
      (rw F.addressing at cut)
      ∙ bit-inside bytes cursor.at (z.width * size) (2 * size) (line-is refl) (omega (arith, N.stride, N.row))

  bit-small : {b : ℕ} → b ≡ line.value / 2 ^ (2 * s.addressing) % 2 ^ 1 → b < 2
  bit-small cut = rw (bit-is cut) (bit-lt _ _)

pub next_field-line-requires : goal.next_field-line-requires
next_field-line-requires c =
    let F = shape_fields c.shape.invariant c.shape.view_is in
    let N = narrow_two F.dims c.requires.width_value.0 in
    rw F.stride (omega (arith, N.stride, N.few), c.requires.in_bounds.1, c.requires.in_bounds.0)

pub overflow_mul-size : goal.overflow_mul-size
overflow_mul-size c =
    let F = shape_fields c.shape.invariant c.shape.view_is in
    record { fits = rw F.addressing (omega (arith, (narrow_two F.dims c.requires.width_value.0).few)) }

pub overflow_add-size : goal.overflow_add-size
overflow_add-size c =
    let F = shape_fields c.shape.invariant c.shape.view_is in
    record { fits = rw F.addressing (omega (arith, (narrow_two F.dims c.requires.width_value.0).few)) }

pub pair_in-reads-requires : goal.pair_in-reads-requires
pair_in-reads-requires c =
    let F = shape_fields c.shape.invariant c.shape.view_is in
    let few = (narrow_two F.dims c.requires.width_value.0).few in
    rw F.addressing (omega (arith, few), omega (arith, few))

pub returns-then-pair_unfit : goal.returns-then-pair_unfit
returns-then-pair_unfit c file Z G k refused next =
    let F = shape_fields c.shape.invariant c.shape.view_is in
    let two = c.requires.width_value.0 in
    let reads =
    reads-are F two c.args.bytes.now c.args.cursor c.next_field-line.ensures c.pair_in-reads.ensures in
    read-refused c.args.cursor c.args.t F.dims Z c.requires.at_value G
    ((c.pair_unfit.ensures _ reads).found c.if-pair_unfit.true) k refused next

pub pair_in-writes-requires : goal.pair_in-writes-requires
pair_in-writes-requires c =
    let F = shape_fields c.shape.invariant c.shape.view_is in
    let few = (narrow_two F.dims c.requires.width_value.0).few in
    rw F.addressing (omega (arith, few), omega (arith, few))

pub returns-then-pair_unfit-2 : goal.returns-then-pair_unfit-2
returns-then-pair_unfit-2 c file Z G k refused next =
    let F = shape_fields c.shape.invariant c.shape.view_is in
    let two = c.requires.width_value.0 in
    let N = narrow_two F.dims two in
    let reads =
    reads-are F two c.args.bytes.now c.args.cursor c.next_field-line.ensures c.pair_in-reads.ensures in
    let writes =
    writes-are F two c.args.bytes.now c.args.cursor c.next_field-line.ensures c.pair_in-writes.ensures in
    narrow-refused c.args.cursor c.args.t F.dims N c.requires.at_value (both-carried N c.args.bytes.now _ _ refl) Z G
    ((c.pair_unfit.ensures _ reads).none c.if-pair_unfit.false)
    ((c.pair_unfit-2.ensures _ writes).found c.if-pair_unfit-2.true) k refused next

pub overflow_mul-size-2 : goal.overflow_mul-size-2
overflow_mul-size-2 c =
    let F = shape_fields c.shape.invariant c.shape.view_is in
    record { fits = rw F.addressing (omega (arith, (narrow_two F.dims c.requires.width_value.0).few)) }

pub address_in-bit-requires : goal.address_in-bit-requires
address_in-bit-requires c =
    let F = shape_fields c.shape.invariant c.shape.view_is in
    rw F.addressing (omega (arith, (narrow_two F.dims c.requires.width_value.0).few), omega arith)

pub mark_pair-requires : goal.mark_pair-requires
mark_pair-requires c =
    let F = shape_fields c.shape.invariant c.shape.view_is in
    let two = c.requires.width_value.0 in
    let N = narrow_two F.dims two in
    let reads =
    reads-are F two c.args.bytes.now c.args.cursor c.next_field-line.ensures c.pair_in-reads.ensures in
    let writes =
    writes-are F two c.args.bytes.now c.args.cursor c.next_field-line.ensures c.pair_in-writes.ensures in (
      bit-small F two c.args.bytes.now c.args.cursor c.next_field-line.ensures c.address_in-bit.ensures,
      (
        c.args.shape.words,
        F.dims.few,
        c.requires.width_value.1,
        c.requires.width_value.2,
        pair_inside F.dims N reads ((c.pair_unfit.ensures _ reads).none c.if-pair_unfit.false),
        pair_inside F.dims N writes ((c.pair_unfit-2.ensures _ writes).none c.if-pair_unfit-2.false),
      ),
    )

pub returns : goal.returns
returns c file Z G =
    let F = shape_fields c.shape.invariant c.shape.view_is in
    let two = c.requires.width_value.0 in
    let N = narrow_two F.dims two in
    let stands = c.requires.at_value in
    let reads =
    reads-are F two c.args.bytes.now c.args.cursor c.next_field-line.ensures c.pair_in-reads.ensures in
    let writes =
    writes-are F two c.args.bytes.now c.args.cursor c.next_field-line.ensures c.pair_in-writes.ensures in
    let bit = c.address_in-bit.result in
    let bit-here =
    bit-is F two c.args.bytes.now c.args.cursor c.next_field-line.ensures c.address_in-bit.ensures in
    let small =
    bit-small F two c.args.bytes.now c.args.cursor c.next_field-line.ensures c.address_in-bit.ensures in
    let read = rw (read-row c.args.cursor c.args.t F.dims Z stands) at reads in
    narrow-passes c.args.cursor c.args.t F.dims N stands (both-carried N _ _ bit bit-here) Z G
    ((c.pair_unfit.ensures _ reads).none c.if-pair_unfit.false)
    (ap (λ (x : Field). x.rest) (rw F.stride at c.next_field-line.ensures))
    (crossed-one _ N.switches small bit-here) ((c.pair_unfit-2.ensures _ writes).none c.if-pair_unfit-2.false)
    (c.mark_pair.ensures _ _ _ read writes (both_first bit) (both-second bit))
