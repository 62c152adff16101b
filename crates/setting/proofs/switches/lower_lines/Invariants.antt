use Rattle.std.proofs.Common.{length, get_or}
use Rattle.setting.proofs.Walks.{Before}
use Rattle.setting.proofs.Turns.{Walking}
use Rattle.setting.proofs.switches.lower_lines.Given as goal

abbrev pub invariant-walk : goal.invariant-walk
invariant-walk l = Walking (length l.forward) (λ i. get_or l.forward i 0) l.initial.left l.start l.x l.left l.lower

abbrev pub decreases-walk : goal.decreases-walk
decreases-walk l = l.left

abbrev pub invariant-loops : goal.invariant-loops
invariant-loops l = Before (length l.forward) (λ i. get_or l.forward i 0) l.left l.lower l.start

abbrev pub decreases-loops : goal.decreases-loops
decreases-loops l = l.left
