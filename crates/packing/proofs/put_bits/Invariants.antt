use Rattle.std.proofs.Common.{◌-◌, ◌≤◌, length}
use Rattle.bits.specs.inner.Writing.{whole_of}
use Rattle.packing.proofs.Parts.{Putting}
use Rattle.packing.proofs.put_bits.Given as goal

abbrev pub invariant-loop-i : goal.invariant-loop-i
invariant-loop-i l = (l.i ≤ length l.values) × Putting (whole_of l.initial.file l.at l.held) l.at 1 l.values l.i l.file l.window

abbrev pub decreases-loop-i : goal.decreases-loop-i
decreases-loop-i l = length l.values - l.i
