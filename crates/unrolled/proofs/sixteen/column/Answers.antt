-- `unrolled::sixteen::column` meets its contract: its calls are the four lines.
use Rattle.unrolled.proofs.ByValue.{column-three, column-four}
use Rattle.unrolled.proofs.sixteen.column.Goals as goal

pub returns : goal.returns
returns c = column-four (column-three c.leaving.ensures c.leaving-2.ensures c.leaving-3.ensures) c.leaving-4.ensures
