-- `leave`: before two frames are held nothing is written; then turn k writes the word of port k.
use Rattle.std.proofs.Common.{◌≡◌, refl, arith}
use Rattle.laws.proofs.Choices.{if_lt-yes, if_lt-no}
use Rattle.laws.proofs.Tabulates.{overwrite-none, overwrite-turn}
use Rattle.tables.specs.Terms.{cycles}
use Rattle.tables.proofs.Shapes.{shape_fields}
use Rattle.machine.specs.Step.{leaving}
use Rattle.machine.proofs.stepping.leave.Goals as goal

pub returns-then-clock-lt2 : goal.returns-then-clock-lt2
returns-then-clock-lt2 c = if_lt-yes _ _ _ _ _ (omega (arith, c.if-clock-lt2.true)) refl

pub loop-k-init : goal.loop-k-init
loop-k-init c = overwrite-none _ _

pub loop-k-preserved : goal.loop-k-preserved
unfolding leaving
loop-k-preserved c =
    let F = shape_fields c.shape.invariant c.shape.view_is in
    rw (c.loop-k.invariant, c.spot_of-from.ensures.0)
    (overwrite-turn c.loop-k.k (leaving (cycles c.args.shape.words c.args.shape.width) c.args.clock c.args.second.now) c.args.out.now 0
    (omega (arith, c.requires.words_in_bounds.1, c.loop-k-test.true, F.width)))

pub returns : goal.returns
returns c =
    let F = shape_fields c.shape.invariant c.shape.view_is in
    let all : c.loop-k.k ≡ c.args.shape.width = omega (arith, F.width) in
    if_lt-no _ _ _ _ _ (omega (arith, c.if-clock-lt2.false)) (rw all at c.loop-k.invariant)
