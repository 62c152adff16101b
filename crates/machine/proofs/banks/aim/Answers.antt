-- `aim`: what a row says of its banks, said of the array.
use Rattle.std.proofs.Common.{refl}
use Rattle.machine.proofs.Taking.{taken_none, row-taken}
use Rattle.machine.proofs.banks.aim.Goals as goal

pub returns : goal.returns
returns c =
    let row = c.take_row.ensures in
    row-taken _ c.args.cursor _ c.args.shape _ (λ h. h.1) (row.told (refl, taken_none c.told-to)) (c.to-1.given.1 row.same.1)
