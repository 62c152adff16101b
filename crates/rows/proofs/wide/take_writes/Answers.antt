-- `wide::take_writes` meets its contract: what a row says of its banks, said of the arrays.
use Rattle.std.proofs.Common.{refl}
use Rattle.rows.proofs.Groups.{write-none, writes-told}
use Rattle.rows.proofs.wide.take_writes.Goals as goal

pub returns : goal.returns
returns c =
    let row = c.take_row.ensures in
    writes-told c.args.cursor c.args.shape _ _ _ _ _ _ _ _ (row.told (refl, refl, λ addresses S. write-none)) (c.places-1.given.1.1 row.same.4)
    (c.words-1.given.1.1 row.same.5)
