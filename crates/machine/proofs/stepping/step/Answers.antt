-- `machine::stepping::step` meets its contract: a file that does not open, or a test that refuses, refuses the step; once the tests are passed
-- the step is ready.
use Rattle.std.proofs.Common.{sym, ◌∙◌}
use Rattle.std.proofs.lemmas.Result.{err_from_is_err_and}
use Rattle.machine.proofs.Tests.{open-refused, open-goes-on, tests-refused, tests-go-on, tests-passed}
use Rattle.machine.proofs.stepping.step.Goals as goal

pub returns-in_err-shape : goal.returns-in_err-shape
returns-in_err-shape c =
    let (e, is, same) = err_from_is_err_and c.from_residual.result c.from_residual.ensures.1 in
    rw (is, same) (open-refused c.args.file.now c.args.clock c.args.first.now c.args.second.now c.args.words.now c.args.out.now _
    (sym c.in_err-shape.ensures))

pub returns-in_err-test : goal.returns-in_err-test
returns-in_err-test c =
    let (e, is, same) = err_from_is_err_and c.from_residual-in_err-test.result c.from_residual-in_err-test.ensures.1 in
    rw (is, same) (tests-refused c.in_ok-shape.shape.words c.in_ok-shape.shape.width c.args.file.now c.args.clock c.args.first.now
    c.args.second.now c.args.words.now c.args.out.now _ c.in_err-test.ensures
    ∙ open-goes-on c.args.file.now c.args.clock c.args.first.now c.args.second.now c.args.words.now
    c.args.out.now c.in_ok-shape.shape (sym c.«open».ensures ∙ c.in_ok-shape.was))

pub step_ready-requires-clause-in_range : goal.step_ready-requires-clause-in_range
step_ready-requires-clause-in_range c =
    let passed = tests-passed c.in_ok-shape.shape.words c.in_ok-shape.shape.width c.args.file.now c.args.clock
    c.args.first.now c.args.second.now c.args.words.now c.args.out.now (sym c.in_ok-test.was ∙ c.test.ensures) in
    passed.0

pub step_ready-requires-clause-room : goal.step_ready-requires-clause-room
step_ready-requires-clause-room c =
    let passed = tests-passed c.in_ok-shape.shape.words c.in_ok-shape.shape.width c.args.file.now c.args.clock
    c.args.first.now c.args.second.now c.args.words.now c.args.out.now (sym c.in_ok-test.was ∙ c.test.ensures) in
    passed.1

pub returns : goal.returns
returns c =
    c.step_ready.ensures
    ∙ tests-go-on c.in_ok-shape.shape.words c.in_ok-shape.shape.width c.args.file.now c.args.clock c.args.first.now
    c.args.second.now c.args.words.now c.args.out.now (sym c.in_ok-test.was ∙ c.test.ensures)
    ∙ open-goes-on c.args.file.now c.args.clock c.args.first.now c.args.second.now c.args.words.now
    c.args.out.now c.in_ok-shape.shape (sym c.«open».ensures ∙ c.in_ok-shape.was)
