-- `put_leavers` has written the first j numbers, each with its separator.
use Rattle.std.proofs.Common.{length, get_or}
use Rattle.description.proofs.Texts.{Leaving}
use Rattle.description.proofs.put_leavers.Given as goal

abbrev pub invariant-loop-j : goal.invariant-loop-j
invariant-loop-j l = Leaving (length l.words) l.w (λ i. get_or l.words i 0) l.initial.text l.initial.next l.j l.next l.text
