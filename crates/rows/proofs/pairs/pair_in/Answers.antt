-- `rows::pairs::pair_in` meets its contract: in the field the second address stands behind the first.
use Rattle.std.proofs.Common.{◌+◌, sym, ◌∙◌, arith}
use Rattle.tables.proofs.Groups.{row-address}
use Rattle.rows.proofs.pairs.pair_in.Goals as goal

pub returns : goal.returns
returns c file from k at e starts =
    let a = c.args in
    record {
      first = row-address file at a.size 0 from k (a.behind + a.size) e (omega arith) (omega arith) (omega arith) ∙ sym c.address_in.ensures;
      second = row-address file at a.size 1 from (k + a.size) a.behind e (omega arith) (omega arith) (omega arith) ∙ sym c.address_in-2.ensures;
    }
