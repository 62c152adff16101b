use Rattle.packing.proofs.Numbers.{Gathered}
use Rattle.packing.proofs.number_of.Given as goal

abbrev pub invariant-loop-value : goal.invariant-loop-value
invariant-loop-value l = Gathered l.values l.value-index l.number
