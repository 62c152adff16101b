use Rattle.std.proofs.Common.{◌≡◌, get_or}
use Rattle.laws.specs.Sum.{hits}
use Rattle.network.proofs.counting.ones.Given as goal

abbrev pub invariant-loop-i : goal.invariant-loop-i
invariant-loop-i l = l.total ≡ hits l.i (λ k. get_or l.values k 0) 1
