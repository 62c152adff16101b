-- `put_text` has written the first i characters.
use Rattle.std.proofs.Common.{◌+◌, take}
use Rattle.text.specs.inner.Writing.{Wrote}
use Rattle.text.proofs.put_text.Given as goal

abbrev pub invariant-loop-i : goal.invariant-loop-i
invariant-loop-i l = Wrote l.initial.text l.at (take l.i l.characters) (l.at + l.i) l.text
