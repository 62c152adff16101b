-- `first` meets its contract: the start is the first matching where no bank is idle; else it is completed, and bank after bank is settled.
use Rattle.std.proofs.Common.{ℕ, ◌<◌, arith}
use lib.ListN.{get_or-replicate}
use Rattle.limits.specs.Limits.{most_width}
use Rattle.matching.proofs.Seats.{seating-first, seating-kept}
use Rattle.matching.proofs.settling.first.Goals as goal

pub seat-rest-requires-clause-seats_value : goal.seat-rest-requires-clause-seats_value
seat-rest-requires-clause-seats_value c = λ d l.
    omega (arith, get_or-replicate {A = ℕ} most_width d 0 0 (omega (arith, l, c.args.layout.few)))

pub returns-then-rest-eq0 : goal.returns-then-rest-eq0
returns-then-rest-eq0 c =
    let S = c.seat-rest.ensures in
    record { long = S.long; outcome = seating-first c.args.layout.few S c.if-rest-eq0.true }

pub settle-requires-clause-placed : goal.settle-requires-clause-placed
settle-requires-clause-placed c =
    let S = c.seat-rest.ensures in
    let low = c.lowest.ensures in
    let C = c.in_ok-complete.ensures in
    let idle : c.lowest.result < c.args.layout.width = (S.waiting.inside c.lowest.result low.1).0 in
    seating-kept c.args.layout.few S C.long C.outcome (omega arith)
    (λ d l h. omega (arith, low.2 d h)) c.keep-kept.ensures
