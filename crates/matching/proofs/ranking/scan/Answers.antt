-- `ranking::scan` meets its contract: it goes over the numbers of the bank, and what it passed has no place in question.
use Rattle.matching.proofs.Scans.{words-few, searched-more, searched-found}
use Rattle.matching.proofs.ranking.scan.Goals as goal

pub first_port-requires : goal.first_port-requires
first_port-requires c = λ j l h. words-few c.requires.ranks c.loop-i.i j c.loop-i-test.true l h

pub returns-in-Port : goal.returns-in-Port
returns-in-Port c =
    let found = searched-found c.requires.ranks c.loop-i.invariant c.in-Port.ensures.1.1 c.loop-i-test.true in
    (c.in-Port.ensures.0, found.0, found.1)

pub loop-i-preserved : goal.loop-i-preserved
loop-i-preserved c = searched-more c.requires.ranks c.loop-i.invariant c.in-NoPort.ensures
