-- `machine::stepping::step_ready` meets its contract: a line that is refused refuses the step, and after one that moved each call makes one of
-- the effects of an accepted step.
use Rattle.std.proofs.Common.{sym, ap, ◌∙◌, ℕ}
use Rattle.std.specs.Prelude.{Result}
use Rattle.std.proofs.lemmas.Result.{err_from_is_err_and}
use Rattle.refusal.specs.declared.Refusal.{Refusal}
use Rattle.machine.specs.inner.Ready.{line_outcome}
use Rattle.machine.proofs.Tests.{line_refused, line-crossed, line-goes-on}
use Rattle.machine.proofs.stepping.step_ready.Goals as goal

pub returns-in_err-crossed : goal.returns-in_err-crossed
returns-in_err-crossed c =
    let (e, is, same) = err_from_is_err_and c.from_residual.result c.from_residual.ensures.1 in
    rw (is, same) (line_refused c.args.shape.words c.args.shape.width c.args.file.now c.args.clock c.args.first.now
    c.args.second.now c.args.words.now c.args.out.now _ c.move_line.new.second c.in_err-crossed.ensures)

pub returns : goal.returns
returns c =
    let says = ap (λ (z : Result ℕ Refusal). line_outcome z c.move_line.new.second) (sym c.in_ok-crossed.was) ∙ c.move_line.ensures in
    let counted =
    line-crossed c.args.shape.words c.args.shape.width c.args.file.now c.args.clock c.args.first.now
    c.args.second.now c.args.words.now c.args.out.now c.in_ok-crossed.crossed c.move_line.new.second says in
    line-goes-on c.args.shape.words c.args.shape.width c.args.file.now c.args.clock c.args.first.now
    c.args.second.now c.args.words.now c.args.out.now c.requires.in_range c.in_ok-crossed.crossed c.move_line.new.second says
    (c.answer.ensures c.args.file.now counted) c.enter.ensures c.leave.ensures
