-- The sixteen lines are stored as they were carried.
use Rattle.std.proofs.Common.{◌-◌, suc, ap, arith}
use Rattle.bits.specs.Bits.{digit}
use Rattle.unrolled.proofs.ByValue.{carried-ext, carried-stored}
use Rattle.tables.proofs.by_number.SixteenLinesUnrolled.carry.Goals as goal

pub returns : goal.returns
returns c =
    let carried = carried-stored c.put_sixteen.new.standing c.carry_sixteen.ensures c.put_sixteen.ensures in
    carried-ext (λ i. digit c.args.number (49 - suc i)) carried (λ i l. ap (digit c.args.number) (omega arith))
