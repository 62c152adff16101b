-- `answer`: the test is the definition's, the clock is the next one, and the count is the one given.
use Rattle.std.proofs.Common.{ℕ, ◌≡◌, List, ap, ap₂, ◌∙◌, arith}
use Rattle.std.specs.Prelude.{Ok}
use Rattle.laws.proofs.Choices.{if_lt-yes, if_lt-no}
use Rattle.tables.specs.Terms.{cycles}
use Rattle.tables.proofs.Shapes.{shape_fields}
use Rattle.clock.specs.Clocks.{next_clock}
use Rattle.clock.specs.declared.Clock.{Clock}
use Rattle.machine.specs.Step.{moved_crossings, advance_of, says_of}
use Rattle.machine.specs.declared.Advance.{Advance}
use Rattle.machine.specs.declared.Stepped.TheVariants.{Filling, Wrote}
use Rattle.machine.proofs.stepping.answer.Goals as goal

abbrev advance : Clock → ℕ → Advance
advance clock crossed = record { next = clock; crossed = crossed }

-- the next clock, in frames of c cycles, and the crossed switches that were given
next-is : (n w : ℕ) {cycle : ℕ} {next : Clock} {crossed : ℕ} (clock : Clock) (file : List ℕ) → cycle ≡ cycles n w → next ≡ next_clock cycle clock
    → crossed ≡ moved_crossings n w file clock → advance next crossed ≡ advance_of n w file clock
unfolding advance_of
next-is n w clock file same e counted = ap₂ advance (e ∙ ap (λ (z : ℕ). next_clock z clock) same) counted

pub returns-then-clock-ge2 : goal.returns-then-clock-ge2
unfolding says_of
returns-then-clock-ge2 c file counted =
    let F = shape_fields c.shape.invariant c.shape.view_is in
    if_lt-no _ _ _ _ _ (omega (arith, c.if-clock-ge2.true)) (ap (λ (x : Advance). Ok (Wrote x))
    (next-is c.args.shape.words c.args.shape.width c.args.clock file F.cycles c.next.ensures counted))

pub returns : goal.returns
unfolding says_of
returns c file counted =
    let F = shape_fields c.shape.invariant c.shape.view_is in
    if_lt-yes _ _ _ _ _ (omega (arith, c.if-clock-ge2.false)) (ap (λ (x : Advance). Ok (Filling x))
    (next-is c.args.shape.words c.args.shape.width c.args.clock file F.cycles c.next.ensures counted))
