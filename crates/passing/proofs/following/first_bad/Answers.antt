-- `first_bad` meets its contract: `position` tests the values one by one.
use Rattle.std.proofs.Common.{ltb, rules, tests}
use Rattle.std.proofs.lemmas.Iterator.{YieldsList-from_slice}
use Rattle.std.proofs.lemmas.Iterator.Search.{position_from_yields_List}
use Rattle.passing.proofs.Values.{found}
use Rattle.passing.proofs.following.first_bad.Goals as goal

pub returns : goal.returns
returns c =
    found c.args.values.now c.position.result
    (position_from_yields_List (ltb 1) _ _ c.position.result c.position.ensures.ran
    (YieldsList-from_slice c.args.values.now cc) (λ x b q k. search (rules, tests)))
