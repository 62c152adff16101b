-- `gather`: the lines below t passed, the cursor stands behind them, and their crossed switches are counted.
use Rattle.std.proofs.Common.{◌≡◌}
use Rattle.laws.specs.Sum.{sum}
use Rattle.tables.specs.Format.{line_crossings}
use Rattle.reading.specs.inner.Gathering.{behind_lines}
use Rattle.reading.proofs.Gathers.{Gathering}
use Rattle.reading.proofs.gathering.gather.Given as goal

abbrev pub invariant-loop-t : goal.invariant-loop-t
invariant-loop-t l = record {
  gathering : Gathering l.shape.words l.shape.width l.file l.t l.places l.words;
  behind : l.cursor ≡ behind_lines l.shape.words l.shape.width l.t;
  counted : l.crossed ≡ sum l.t (line_crossings l.shape.words l.shape.width l.file);
}
