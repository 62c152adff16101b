use Prim.Native.Nat.{ℕ}
use mathlib.Core.Path.{◌≡◌}
use lib.ListN.{get_or}
use Rattle.sets.specs.Set.{◌∈◌}
use Rattle.matching.proofs.settling.port_of.Given as goal

abbrev pub invariant-loop-ports : goal.invariant-loop-ports
invariant-loop-ports l = ((k : ℕ) → k ∈ l.rest → k ∈ l.ports) × ((k : ℕ) → k ∈ l.ports → get_or l.owner k 0 ≡ l.bank → k ∈ l.rest)

abbrev pub decreases-loop-ports : goal.decreases-loop-ports
decreases-loop-ports l = l.rest
