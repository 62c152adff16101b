-- `wide::take_reads` meets its contract: what a row says of its banks, said of the arrays.
use Rattle.std.proofs.Common.{refl}
use Rattle.rows.proofs.Groups.{read_none, reads-told}
use Rattle.rows.proofs.wide.take_reads.Goals as goal

pub returns : goal.returns
returns c =
    let row = c.take_row.ensures in
    reads-told c.args.cursor c.args.shape _ _ _ _ (row.told (refl, read_none c.told-reads)) (c.reads-1.given.1 row.same.1)
