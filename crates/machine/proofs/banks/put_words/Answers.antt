-- `put_words`: turn k stores the word that bank k gets.
use Rattle.std.proofs.Common.{get_or, refl}
use Rattle.machine.specs.inner.Rows.{stored}
use Rattle.machine.proofs.Takes.{stored_more}
use Rattle.machine.proofs.banks.put_words.Goals as goal

pub loop-k-init : goal.loop-k-init
unfolding stored
loop-k-init c = refl

pub loop-k-preserved : goal.loop-k-preserved
loop-k-preserved c =
    rw c.loop-k.invariant
    (stored_more (λ i. get_or c.args.to.now i 0) (λ i. get_or c.args.got.now (get_or c.args.sources.now i 0) 0) c.loop-k.k c.args.second.now)
