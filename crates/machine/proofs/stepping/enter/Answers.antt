-- `enter`: turn b stores the word of port b.
use Rattle.std.proofs.Common.{refl}
use Rattle.tables.specs.Terms.{cycles}
use Rattle.machine.specs.Step.{entering}
use Rattle.machine.proofs.Indexes.{entering-more}
use Rattle.machine.proofs.stepping.enter.Goals as goal

pub loop-b-init : goal.loop-b-init
unfolding entering
loop-b-init c = refl

pub loop-b-preserved : goal.loop-b-preserved
loop-b-preserved c =
    rw (c.loop-b.invariant, c.spot_of-to.ensures.0)
    (entering-more (cycles c.args.shape.words c.args.shape.width) c.args.clock c.args.words.now c.loop-b.b c.args.first.now)
