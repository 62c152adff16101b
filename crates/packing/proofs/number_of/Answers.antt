-- `number_of` meets its contract: turn i adds bit i at the low end.
use Rattle.packing.proofs.Numbers.{gathered_none, gathered-more}
use Rattle.packing.proofs.number_of.Goals as goal

pub loop-value-init : goal.loop-value-init
loop-value-init c = gathered_none _

pub loop-value-preserved : goal.loop-value-preserved
loop-value-preserved c =
    let l = c.loop-value in gathered-more l.invariant c.from.ensures (c.requires.by_index l.value-index c.loop-value-test.true)
