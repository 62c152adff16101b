use Rattle.std.proofs.Common.{ℕ, ◌≡◌, ◌+◌, ◌*◌, List}
use Rattle.bits.specs.Bits.{field}
use Rattle.tables.specs.Terms.{address_bits}
use Rattle.tables.specs.inner.Lines.{row_at}
use Rattle.rows.proofs.row.take_group.Given as goal

abbrev pub invariant-loop-j : goal.invariant-loop-j
invariant-loop-j g l = record {
  left : l.j * (address_bits l.shape.words l.shape.width) + l.behind ≡ l.count * (address_bits l.shape.words l.shape.width);
  same : g.B.Banks.Same l.initial.banks l.banks;
  taken : (start : _) (file : List ℕ) (at : ℕ) → l.row ≡ field file (at + l.from * (address_bits l.shape.words l.shape.width)) (l.count * (address_bits l.shape.words l.shape.width))
      → g.B.Banks.On l.shape start (row_at file at (address_bits l.shape.words l.shape.width)) l.from l.initial.banks
      → g.B.Banks.On l.shape start (row_at file at (address_bits l.shape.words l.shape.width)) (l.from + l.j) l.banks;
}
