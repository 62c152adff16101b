use Rattle.std.proofs.Common.{◌≡◌, ◌≤◌, ◌+◌, ◌-◌, ◌%◌}
use Rattle.limits.specs.Limits.{most_switches}
use Rattle.laws.specs.Sum.{hits}
use Rattle.laws.proofs.Tabulates.{Filling}
use Rattle.bits.specs.Bits.{bit}
use Rattle.bits.specs.Reading.{onward}
use Rattle.tables.proofs.lines.switches.Given as goal

abbrev pub invariant-loop-i : goal.invariant-loop-i
invariant-loop-i l =
    (l.i ≤ l.count) × (l.i % 4 ≡ 0) × (l.next ≡ onward l.initial.next l.i) × (l.crossed ≡ hits l.i (λ j. bit l.file (l.initial.next.at + j)) 1)
    × Filling (λ j. bit l.file (l.initial.next.at + j)) most_switches l.i l.found

abbrev pub decreases-loop-i : goal.decreases-loop-i
decreases-loop-i l = l.count - l.i
