-- `take_words` has the words of the ports below k.
use Rattle.generator.specs.inner.Schedule.{Takes}
use Rattle.generator.proofs.scheduling.take_words.Given as goal

abbrev pub invariant-loop-k : goal.invariant-loop-k
invariant-loop-k l = Takes l.next l.initial.heads l.initial.edges l.owner l.k l.words l.heads l.edges
