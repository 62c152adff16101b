-- `put_words` has stored the words of the first k banks.
use Rattle.std.proofs.Common.{◌≡◌, get_or}
use Rattle.machine.specs.inner.Rows.{stored}
use Rattle.machine.proofs.banks.put_words.Given as goal

abbrev pub invariant-loop-k : goal.invariant-loop-k
invariant-loop-k l = l.second ≡ stored (λ i. get_or l.to i 0) (λ i. get_or l.got (get_or l.sources i 0) 0) l.k l.initial.second
