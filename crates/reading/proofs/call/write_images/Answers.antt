-- `write_images`: turn i writes image i.
use Rattle.std.proofs.Common.{get_or, arith}
use Rattle.laws.proofs.Tabulates.{overwrite-none, overwrite-turn}
use Rattle.reading.proofs.call.write_images.Goals as goal

pub loop-i-init : goal.loop-i-init
loop-i-init c = overwrite-none _ _

pub loop-i-preserved : goal.loop-i-preserved
loop-i-preserved c =
    rw c.loop-i.invariant
    (overwrite-turn c.loop-i.i (λ i. get_or c.args.places.now i 0) c.args.images.now 0 (omega (arith, c.requires, c.loop-i-test.true)))
