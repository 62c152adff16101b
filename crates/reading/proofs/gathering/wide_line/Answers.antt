-- `wide_line`: the cursor is carried on from the read addresses to the switch bits and to the write addresses, and what
-- is found there is what the scan of the file finds in line t.
use Rattle.std.proofs.Common.{◌+◌, ◌*◌, ◌≡◌, sym, ap, ◌∙◌, arith}
use Rattle.refusal.specs.declared.Refusal.TheVariants.{ReadAddress, WriteAddress}
use Rattle.std.proofs.lemmas.Result.{err_from_is_err_and}
use Rattle.bits.specs.Reading.{onward}
use Rattle.tables.specs.Terms.{address_bits, switch_bits}
use Rattle.tables.proofs.Dims.{depth-reaches, lines-few}
use Rattle.tables.proofs.Cursors.{room-less, room-behind, carried_on}
use Rattle.tables.proofs.Passes.{line-parts, line-sized}
use Rattle.tables.proofs.Held.{reads_of, zeros-self, crossings-held}
use Rattle.reading.proofs.Known.{send, read-refused, carry-refused, write-refused, line-passes}
use Rattle.tables.proofs.Shapes.{shape_fields}
use Rattle.reading.proofs.gathering.wide_line.Goals as goal

pub take_reads-requires-clause-in_bounds : goal.take_reads-requires-clause-in_bounds
take_reads-requires-clause-in_bounds c =
    let fits = room-less c.requires.in_bounds.0 (omega (arith, line-parts c.args.shape.words c.args.shape.width)) in
    (c.requires.in_bounds.1, fits)

pub returns-in_err-next : goal.returns-in_err-next
returns-in_err-next c =
    let F = shape_fields c.shape.invariant c.shape.view_is in
    let (e, is, same) = err_from_is_err_and c.from_residual.result c.from_residual.ensures.1 in
    let refusal : c.in_err-next.field-0.0 ≡ ReadAddress c.args.t = grind arith in
    let outside = rw c.in_err-next.ensures.ok_part at c.take_reads.ensures in
    rw (is, same, refusal)
    (λ file Z G. read-refused c.args.cursor c.args.t F.dims Z c.requires.at_value G outside)

pub carry-carried-requires : goal.carry-carried-requires
carry-carried-requires c =
    let n = c.args.shape.words in
    let w = c.args.shape.width in
    let told = rw c.in_ok-next.ensures.ok_part at c.take_reads.ensures in
    let row = w * address_bits n w in
    let fits = room-behind c.args.cursor row told.0 c.requires.in_bounds.0 (omega (arith, line-parts n w)) in
    (c.requires.in_bounds.1, fits)

pub spare_used-requires : goal.spare_used-requires
spare_used-requires c =
    let F = shape_fields c.shape.invariant c.shape.view_is in
    let w = c.args.shape.width in
    let sized = line-sized w in
    let long = (c.carry-carried.ensures.2 sized.0 sized.1).long in
    rw (F.width, F.lines) (depth-reaches w, omega (arith, long, lines-few F.dims))

pub returns-then-spare_used : goal.returns-then-spare_used
returns-then-spare_used c file Z G k refused next =
    let F = shape_fields c.shape.invariant c.shape.view_is in
    let told = rw c.in_ok-next.ensures.ok_part at c.take_reads.ensures in
    let spare = sym c.if-spare_used.true ∙ (rw (F.width, F.lines) at c.spare_used.ensures) in
    carry-refused c.args.cursor c.args.t F.dims Z c.requires.at_value G told.0 told.1.sound c.carry-carried.ensures.2 spare
    k refused next

pub take_writes-written-requires-clause-in_bounds : goal.take_writes-written-requires-clause-in_bounds
take_writes-written-requires-clause-in_bounds c =
    let n = c.args.shape.words in
    let w = c.args.shape.width in
    let told = rw c.in_ok-next.ensures.ok_part at c.take_reads.ensures in
    let row = w * address_bits n w in
    let count = switch_bits w in
    let behind = carried_on c.args.cursor row told.0 count c.carry-carried.ensures.0 in
    let fits = room-behind c.args.cursor (row + count) behind c.requires.in_bounds.0 (omega (arith, line-parts n w)) in
    (c.requires.in_bounds.1, fits)

pub take_writes-written-requires-clause-by_index : goal.take_writes-written-requires-clause-by_index
take_writes-written-requires-clause-by_index c =
    let F = shape_fields c.shape.invariant c.shape.view_is in
    let told = rw c.in_ok-next.ensures.ok_part at c.take_reads.ensures in
    let none = sym c.if-spare_used.false ∙ (rw (F.width, F.lines) at c.spare_used.ensures) in (
      reads_of c.args.shape.words c.args.shape.width c.args.bytes.now c.args.t,
      send c.args.cursor c.args.t F.dims (zeros-self c.requires.in_bounds.1) c.requires.at_value told.0
          c.carry-carried.ensures.2 told.1.sound none told.1.kept,
    )

pub returns-in_err-end : goal.returns-in_err-end
returns-in_err-end c =
    let F = shape_fields c.shape.invariant c.shape.view_is in
    let told = rw c.in_ok-next.ensures.ok_part at c.take_reads.ensures in
    let none = sym c.if-spare_used.false ∙ (rw (F.width, F.lines) at c.spare_used.ensures) in
    let carried = c.carry-carried.ensures in
    let n = c.args.shape.words in
    let w = c.args.shape.width in
    let behind = carried_on c.args.cursor (w * address_bits n w) told.0 (switch_bits w) carried.0 in
    let (e, is, same) = err_from_is_err_and c.from_residual-in_err-end.result c.from_residual-in_err-end.ensures.1 in
    let refusal : c.in_err-end.field-0.0 ≡ WriteAddress c.args.t = grind arith in
    let stands = c.requires.at_value in
    rw (is, same, refusal)
    (λ file Z G.
    let sent = send c.args.cursor c.args.t F.dims Z stands told.0 carried.2 told.1.sound none told.1.kept in
    write-refused c.args.cursor c.args.t F.dims Z stands G told.0 told.1.sound carried.2 behind none
    (rw c.in_err-end.ensures.ok_part at (c.take_writes-written.ensures _ sent)))

pub returns : goal.returns
returns c file Z G =
    let F = shape_fields c.shape.invariant c.shape.view_is in
    let told = rw c.in_ok-next.ensures.ok_part at c.take_reads.ensures in
    let none = sym c.if-spare_used.false ∙ (rw (F.width, F.lines) at c.spare_used.ensures) in
    let carried = c.carry-carried.ensures in
    let n = c.args.shape.words in
    let w = c.args.shape.width in
    let row = w * address_bits n w in
    let behind = carried_on c.args.cursor row told.0 (switch_bits w) carried.0 in
    let stands = c.requires.at_value in
    let sent = send c.args.cursor c.args.t F.dims Z stands told.0 carried.2 told.1.sound none told.1.kept in
    let wrote = rw c.in_ok-end.ensures.ok_part at (c.take_writes-written.ensures _ sent) in (
      carried_on c.args.cursor (row + switch_bits w) behind row wrote.0 ∙ ap (onward c.args.cursor) (line-parts n w),
      crossings-held c.args.cursor c.args.t F.dims Z stands told.0 carried.1,
      line-passes c.args.cursor c.args.t F.dims Z stands G told.0 told.1.sound carried.2 behind none wrote.1,
    )
