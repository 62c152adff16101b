-- `one_line`: the two addresses stand in the one field of the line, which the scan of the file finds there.
use Rattle.std.proofs.Common.{ℕ, ◌+◌, ◌*◌, ◌/◌, ◌%◌, ◌^◌, ◌≡◌, List, get_or, sym, ap, ◌∙◌, arith}
use Rattle.bits.specs.inner.Taking.{field_behind}
use Rattle.bits.specs.declared.reader.Cursor.{Cursor}
use Rattle.bits.specs.declared.reader.Field.{Field}
use Rattle.tables.specs.Terms.{address_bits, switch_bits}
use Rattle.tables.specs.Shapes.{Size}
use Rattle.tables.specs.declared.Shape.TheInside.{Inside}
use Rattle.tables.specs.inner.Lines.{row_at}
use Rattle.tables.proofs.Groups.{row-address}
use Rattle.tables.proofs.Held.{read-row}
use Rattle.rows.proofs.Marks.{sound_none}
use Rattle.reading.proofs.Known.{read-refused}
use Rattle.reading.proofs.OneField.{
  narrow_one,
  narrow_below,
  alone-carried,
  crossed-none,
  marked-alone,
  behind,
  narrow-refused,
  narrow-passes,
}
use Rattle.tables.proofs.Shapes.{Fields, shape_fields}
use Rattle.reading.proofs.gathering.one_line.Goals as goal

-- the addresses that are cut out of the line
module _ {s : Inside} {z : Size} (F : Fields s z) (one : z.width ≡ 1) (bytes : List ℕ) (cursor : Cursor) {line : Field}
    (L : line ≡ field_behind bytes cursor s.stride) where
  word-is : {word : ℕ} → word ≡ line.value / 2 ^ s.addressing % 2 ^ s.addressing
      → get_or (row_at bytes cursor.at (address_bits z.words z.width)) 0 0 ≡ word
  word-is cut =
      let size = address_bits z.words z.width in
      row-address bytes cursor.at size 0 cursor.at 0 size (ap (λ (x : Field). x.value) (rw F.stride at L)) (omega arith)
      (omega arith) (omega (arith, (narrow_one F.dims one).stride)) ∙ sym (rw F.addressing at cut)

  place-is : {place : ℕ} → place ≡ line.value / 2 ^ 0 % 2 ^ s.addressing
      → get_or (row_at bytes (behind z.words z.width cursor).at (address_bits z.words z.width)) 0 0 ≡ place
  place-is cut =
      let N = narrow_one F.dims one in
      let size = address_bits z.words z.width in
      let row = z.width * size + switch_bits z.width in
      row-address bytes (cursor.at + row) size 0 cursor.at row 0 (ap (λ (x : Field). x.value) (rw F.stride at L))
      (omega arith) (omega arith) (omega (arith, N.stride, N.row, N.switches)) ∙ sym (rw F.addressing at cut)

pub next_field-line-requires : goal.next_field-line-requires
next_field-line-requires c =
    let F = shape_fields c.shape.invariant c.shape.view_is in
    let N = narrow_one F.dims c.requires.width_value.0 in
    rw F.stride (omega (arith, N.stride, N.few), c.requires.in_bounds.1, c.requires.in_bounds.0)

pub address_in-word-requires : goal.address_in-word-requires
address_in-word-requires c =
    let F = shape_fields c.shape.invariant c.shape.view_is in
    let few = (narrow_one F.dims c.requires.width_value.0).few in
    rw F.addressing (omega (arith, few), omega (arith, few))

pub returns-then-unfit : goal.returns-then-unfit
returns-then-unfit c file Z G k refused next =
    let F = shape_fields c.shape.invariant c.shape.view_is in
    let one = c.requires.width_value.0 in
    let word =
    word-is F one c.args.bytes.now c.args.cursor c.next_field-line.ensures c.address_in-word.ensures in
    read-refused c.args.cursor c.args.t F.dims Z c.requires.at_value G
    ((c.unfit.ensures.1 _ word (sound_none _ _ _ _)).found c.if-unfit.true) k refused next

pub address_in-place-requires : goal.address_in-place-requires
address_in-place-requires c =
    let F = shape_fields c.shape.invariant c.shape.view_is in
    rw F.addressing (omega arith, omega (arith, (narrow_one F.dims c.requires.width_value.0).few))

pub returns-then-unfit-2 : goal.returns-then-unfit-2
returns-then-unfit-2 c file Z G k refused next =
    let F = shape_fields c.shape.invariant c.shape.view_is in
    let one = c.requires.width_value.0 in
    let N = narrow_one F.dims one in
    let word =
    word-is F one c.args.bytes.now c.args.cursor c.next_field-line.ensures c.address_in-word.ensures in
    let place =
    place-is F one c.args.bytes.now c.args.cursor c.next_field-line.ensures c.address_in-place.ensures in
    narrow-refused c.args.cursor c.args.t F.dims N c.requires.at_value (alone-carried N _ _) Z G
    ((c.unfit.ensures.1 _ word (sound_none _ _ _ _)).none c.if-unfit.false)
    ((c.unfit-2.ensures.1 _ place (sound_none _ _ _ _)).found c.if-unfit-2.true) k refused next

pub mark-requires : goal.mark-requires
mark-requires c =
    let F = shape_fields c.shape.invariant c.shape.view_is in
    let N = narrow_one F.dims c.requires.width_value.0 in
    let word = narrow_below F.dims N _ 0 (c.unfit.ensures.0 c.if-unfit.false) (omega arith) in
    let place = narrow_below F.dims N _ 0 (c.unfit-2.ensures.0 c.if-unfit-2.false) (omega arith) in
    let few = F.dims.few in
    let R = c.requires.width_value in
    (omega (arith, word, few), omega (arith, place, few), omega (arith, word, R.1), omega (arith, place, R.2))

pub returns : goal.returns
returns c file Z G =
    let F = shape_fields c.shape.invariant c.shape.view_is in
    let one = c.requires.width_value.0 in
    let N = narrow_one F.dims one in
    let stands = c.requires.at_value in
    let word =
    word-is F one c.args.bytes.now c.args.cursor c.next_field-line.ensures c.address_in-word.ensures in
    let place =
    place-is F one c.args.bytes.now c.args.cursor c.next_field-line.ensures c.address_in-place.ensures in
    let read = rw (read-row c.args.cursor c.args.t F.dims Z stands) at word in
    let read-below = narrow_below F.dims N _ 0 (c.unfit.ensures.0 c.if-unfit.false) (omega arith) in
    let write-below = narrow_below F.dims N _ 0 (c.unfit-2.ensures.0 c.if-unfit-2.false) (omega arith) in
    narrow-passes c.args.cursor c.args.t F.dims N stands (alone-carried N _ _) Z G
    ((c.unfit.ensures.1 _ word (sound_none _ _ _ _)).none c.if-unfit.false)
    (ap (λ (x : Field). x.rest) (rw F.stride at c.next_field-line.ensures))
    (crossed-none _ N.switches) ((c.unfit-2.ensures.1 _ place (sound_none _ _ _ _)).none c.if-unfit-2.false)
    (marked-alone read place (omega (arith, read-below, c.requires.width_value.1))
    (omega (arith, write-below, c.requires.width_value.2)) c.mark.ensures)
