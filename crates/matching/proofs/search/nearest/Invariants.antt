use Prim.Native.Nat.{ℕ}
use Rattle.sets.specs.Set.{◌∈◌}
use Rattle.matching.proofs.search.nearest.Given as goal

abbrev pub invariant-loop-rest : goal.invariant-loop-rest
invariant-loop-rest l = (k : ℕ) → k ∈ l.rest → k ∈ l.ports

abbrev pub decreases-loop-rest : goal.decreases-loop-rest
decreases-loop-rest l = l.rest
