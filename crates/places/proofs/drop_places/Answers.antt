-- `drop_places` meets its contract: each turn takes the place of one bank more.
use Rattle.std.proofs.Common.{arith, ◌+◌, ◌*◌, ◌≤◌}
use Rattle.places.specs.Places.{place_count}
use Rattle.places.proofs.Fills.{bank-ends, dropped-more}
use Rattle.places.proofs.drop_places.Goals as goal

pub loop-bank-preserved : goal.loop-bank-preserved
loop-bank-preserved c =
    let layout = c.args.layout in
    let bank = c.loop-bank.bank in
    let room : bank * layout.per + layout.per ≤ place_count = omega (arith, bank-ends bank layout.width layout.per c.loop-bank-test.true) in
    dropped-more c.loop-bank.invariant room (c.requires bank c.loop-bank-test.true).0 c.without.ensures
