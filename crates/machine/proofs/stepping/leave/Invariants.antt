-- `leave` has written the words of the first k banks.
use Rattle.std.proofs.Common.{◌≡◌}
use Rattle.laws.specs.Tabulate.{overwrite}
use Rattle.tables.specs.Terms.{cycles}
use Rattle.machine.specs.Step.{leaving}
use Rattle.machine.proofs.stepping.leave.Given as goal

abbrev pub invariant-loop-k : goal.invariant-loop-k
invariant-loop-k l = l.out ≡ overwrite l.k (leaving (cycles l.shape.words l.shape.width) l.clock l.second) l.initial.out
