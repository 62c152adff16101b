-- `unrolled::sixteen::last_column` meets its contract: its calls are the first three lines, and the fourth is told as it is.
use Rattle.std.proofs.Common.{refl}
use Rattle.unrolled.proofs.ByValue.{column-three}
use Rattle.unrolled.proofs.sixteen.last_column.Goals as goal

pub returns : goal.returns
returns c = (column-three c.leaving.ensures c.leaving-2.ensures c.leaving-3.ensures, refl)
