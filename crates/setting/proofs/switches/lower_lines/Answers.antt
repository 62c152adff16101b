-- `switches::lower_lines` meets its contract: between walks whole loops are settled, a walk settles one loop more and is back at its start, and when
-- no switch is left, each line of the lower half is in the set and no other.
use Rattle.std.proofs.Common.{◌≡◌, ℕ, List, get_or}
use Rattle.network.specs.Network.{partner}
use Rattle.setting.proofs.Walks.{before_more, all_settled}
use Rattle.setting.proofs.Turns.{walking_start, first-start, walking_on, walking-closed}
use Rattle.setting.proofs.switches.lower_lines.Goals as goal

pub loops-init : goal.loops-init
loops-init c =
    let q = c.requires.forward_len in
    first-start _ _ c.requires.inverses q.0 q.2 c.even_lines-left.ensures c.from-start.ensures

pub walk-init : goal.walk-init
walk-init c = walking_start c.loops.invariant

-- where a turn goes
ahead : (forward back : List ℕ) (x : ℕ) {out in-line beside next : ℕ} → out ≡ partner x → in-line ≡ get_or forward out 0 → beside ≡ partner in-line
    → next ≡ get_or back beside 0 → next ≡ get_or back (partner (get_or forward (partner x) 0)) 0
ahead forward back x a b d e = cc

pub walk-preserved : goal.walk-preserved
walk-preserved c =
    let q = c.requires.forward_len in
    let a = ahead c.args.forward.now c.args.back.now c.walk.x c.partner_of.ensures c.from.ensures c.partner_of-in-walk.ensures c.from-x.ensures in
    walking_on _ _ c.requires.inverses q.0 q.2 c.loops.invariant c.walk.invariant c.insert-lower.ensures c.without-left.ensures a c.if-x-start.false

pub loops-preserved : goal.loops-preserved
loops-preserved c =
    let q = c.requires.forward_len in
    let a = ahead c.args.forward.now c.args.back.now c.walk.x c.partner_of.ensures c.from.ensures c.partner_of-in-walk.ensures c.from-x.ensures in
    let L = walking-closed _ _ c.requires.inverses q.0 q.2 c.loops.invariant c.walk.invariant c.insert-lower.ensures c.without-left.ensures a c.if-x-start.true in
    before_more _ _ c.requires.inverses.permutes q.0 _ _ _ L.painted L.last c.lowest-start.ensures.1 c.lowest-start.ensures.2

pub returns : goal.returns
returns c =
    let q = c.requires.forward_len in
    let a = ahead c.args.forward.now c.args.back.now c.walk.x c.partner_of.ensures c.from.ensures c.partner_of-in-walk.ensures c.from-x.ensures in
    let L = walking-closed _ _ c.requires.inverses q.0 q.2 c.loops.invariant c.walk.invariant c.insert-lower.ensures c.without-left.ensures a c.if-x-start.true in
    all_settled _ _ c.requires.inverses.permutes q.0 _ _ c.if-left-eq0.true L.painted.sound
