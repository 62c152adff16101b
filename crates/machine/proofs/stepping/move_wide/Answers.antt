-- `move_wide`: the tests are the definition's, in its order, and the words of a line that passes them move.
use Rattle.std.proofs.Common.{◌≡◌, sym, ◌∙◌, arith}
use Rattle.std.proofs.lemmas.Result.{err_from_is_err_and}
use Rattle.refusal.specs.declared.Refusal.TheVariants.{ReadAddress, WriteAddress}
use Rattle.tables.proofs.Dims.{depth-reaches, lines-few}
use Rattle.tables.proofs.Shapes.{shape_fields}
use Rattle.tables.proofs.Held.{zeros-self}
use Rattle.machine.proofs.Wide.{spare-told, reads-room, switches-room, writes-room, reads-fail, spare-fails, writes-fail, line-sent, line-put}
use Rattle.machine.proofs.stepping.move_wide.Goals as goal

pub fetch-requires-clause-in_file : goal.fetch-requires-clause-in_file
fetch-requires-clause-in_file c =
    let F = shape_fields c.shape.invariant c.shape.view_is in
    (c.requires.in_bounds.0, reads-room F.dims c.requires.in_range.0 c.cursor_at-cursor.ensures)

pub returns-in_err-next : goal.returns-in_err-next
returns-in_err-next c =
    let F = shape_fields c.shape.invariant c.shape.view_is in
    let (e, is, same) = err_from_is_err_and c.from_residual.result c.from_residual.ensures.1 in
    let refusal : c.in_err-next.field-0.0 ≡ ReadAddress c.args.clock.cycle = grind arith in
    let outside = rw c.in_err-next.ensures.ok_part at c.fetch.ensures in
    rw (is, same, refusal)
    (λ file Z. reads-fail F.dims c.requires.in_range.0 c.cursor_at-cursor.ensures c.requires.in_range.1 Z c.args.first.now
    c.args.second.now outside)

pub carry-carried-requires : goal.carry-carried-requires
carry-carried-requires c =
    let F = shape_fields c.shape.invariant c.shape.view_is in
    let told = rw c.in_ok-next.ensures.ok_part at c.fetch.ensures in
    (c.requires.in_bounds.0, switches-room F.dims c.requires.in_range.0 c.cursor_at-cursor.ensures told.0)

pub spare_used-requires : goal.spare_used-requires
spare_used-requires c =
    let F = shape_fields c.shape.invariant c.shape.view_is in (
      omega (arith, F.width, F.lines, depth-reaches c.args.shape.width),
      omega (arith, F.lines, lines-few F.dims, c.carry-carried.array_long),
    )

pub returns-then-spare_used : goal.returns-then-spare_used
returns-then-spare_used c file Z =
    let F = shape_fields c.shape.invariant c.shape.view_is in
    let spare = spare-told F _ c.spare_used.ensures in
    let told = rw c.in_ok-next.ensures.ok_part at c.fetch.ensures in
    spare-fails F.dims c.requires.in_range.0 c.cursor_at-cursor.ensures c.requires.in_range.1 Z c.args.first.now c.args.second.now
    told.0 told.1 c.carry-carried.ensures (sym spare ∙ c.if-spare_used.true)

pub aim-requires-clause-in_file : goal.aim-requires-clause-in_file
aim-requires-clause-in_file c =
    let F = shape_fields c.shape.invariant c.shape.view_is in
    let told = rw c.in_ok-next.ensures.ok_part at c.fetch.ensures in
    (c.requires.in_bounds.0, writes-room F.dims c.requires.in_range.0 c.cursor_at-cursor.ensures told.0 c.carry-carried.ensures.0)

pub returns-in_err-ok_or : goal.returns-in_err-ok_or
returns-in_err-ok_or c =
    let F = shape_fields c.shape.invariant c.shape.view_is in
    let spare = spare-told F _ c.spare_used.ensures in
    let told = rw c.in_ok-next.ensures.ok_part at c.fetch.ensures in
    let (e, is, same) = err_from_is_err_and c.from_residual-in_err-ok_or.result c.from_residual-in_err-ok_or.ensures.1 in
    let refusal : c.in_err-ok_or.field-0.0 ≡ WriteAddress c.args.clock.cycle = grind arith in
    let outside = rw c.in_err-ok_or.ensures.ok_part at c.aim.ensures in
    rw (is, same, refusal)
    (λ file Z. writes-fail F.dims c.requires.in_range.0 c.cursor_at-cursor.ensures c.requires.in_range.1 Z c.args.first.now
    c.args.second.now told.0 told.1 c.carry-carried.ensures (sym spare ∙ c.if-spare_used.false) outside)

pub put_words-requires : goal.put_words-requires
put_words-requires c =
    let F = shape_fields c.shape.invariant c.shape.view_is in
    let spare = spare-told F _ c.spare_used.ensures in
    let told = rw c.in_ok-next.ensures.ok_part at c.fetch.ensures in
    let aimed = rw c.in_ok-ok_or.ensures.ok_part at c.aim.ensures in
    line-sent F.dims c.requires.in_range.0 c.cursor_at-cursor.ensures c.requires.in_range.1 (zeros-self c.requires.in_bounds.0)
    c.args.first.now c.args.second.now told.0 told.1 c.carry-carried.ensures (sym spare ∙ c.if-spare_used.false)
    aimed.1 c.requires.in_bounds.2

pub returns : goal.returns
returns c file Z =
    let F = shape_fields c.shape.invariant c.shape.view_is in
    let spare = spare-told F _ c.spare_used.ensures in
    let told = rw c.in_ok-next.ensures.ok_part at c.fetch.ensures in
    let aimed = rw c.in_ok-ok_or.ensures.ok_part at c.aim.ensures in
    line-put F.dims c.requires.in_range.0 c.cursor_at-cursor.ensures c.requires.in_range.1 Z c.args.first.now c.args.second.now
    told.0 told.1 c.carry-carried.ensures (sym spare ∙ c.if-spare_used.false) aimed.1 c.put_words.ensures
