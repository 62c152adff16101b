use Rattle.std.proofs.Common.{◌≡◌, ◌≤◌, ◌*◌, ◌-◌}
use Rattle.bits.specs.Reading.{onward}
use Rattle.tables.specs.Terms.{address_bits}
use Rattle.tables.specs.inner.Lines.{row_at}
use Rattle.rows.proofs.row.take_row.Given as goal

abbrev pub invariant-loop-b : goal.invariant-loop-b
invariant-loop-b g l = record {
  within : l.b ≤ l.shape.width;
  behind : l.next ≡ onward l.initial.next (l.b * (address_bits l.shape.words l.shape.width));
  same : g.B.Banks.Same l.initial.banks l.banks;
  taken : g.B.Banks.On l.shape l.initial.banks (row_at l.file l.initial.next.at (address_bits l.shape.words l.shape.width)) 0 l.initial.banks
      → g.B.Banks.On l.shape l.initial.banks (row_at l.file l.initial.next.at (address_bits l.shape.words l.shape.width)) l.b l.banks;
}

abbrev pub decreases-loop-b : goal.decreases-loop-b
decreases-loop-b g l = l.shape.width - l.b
