-- `enter` has stored the words of the first b banks.
use Rattle.std.proofs.Common.{◌≡◌}
use Rattle.tables.specs.Terms.{cycles}
use Rattle.machine.specs.Step.{entering}
use Rattle.machine.proofs.stepping.enter.Given as goal

abbrev pub invariant-loop-b : goal.invariant-loop-b
invariant-loop-b l = l.first ≡ entering (cycles l.shape.words l.shape.width) l.clock l.words l.b l.initial.first
