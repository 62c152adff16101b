-- `first_places` meets its contract: from 64 on the number of places is 64, the lesser of two.
use Rattle.std.proofs.Common.{arith, min, ◌≡◌}
use Rattle.places.proofs.first_places.Goals as goal

pub returns : goal.returns
returns c =
    let e : min 64 c.args.rest ≡ 64 = omega arith in
    rw e c.below-2.ensures
