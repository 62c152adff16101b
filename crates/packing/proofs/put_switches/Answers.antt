-- `put_switches` meets its contract: the bits are set in the front of the array, and packed from there.
use Rattle.std.proofs.Common.{ℕ, ◌≡◌, ◌+◌, List, sym, ap, ◌∙◌, arith}
use lib.Seq.{length-take-le}
use Rattle.bits.specs.inner.Writing.{whole_of}
use Rattle.tables.proofs.Shapes.{shape_fields}
use Rattle.tables.specs.Terms.{switch_bits}
use Rattle.tables.proofs.Passes.{line-sized}
use Rattle.packing.specs.Packing.{put_fields}
use Rattle.packing.proofs.Lines.{line-placed, front_long, bits-known, bits-two, none-put}
use Rattle.packing.proofs.put_switches.Goals as goal

pub returns-then-shape-eq0 : goal.returns-then-shape-eq0
returns-then-shape-eq0 c =
    let a = c.args in
    let F = shape_fields c.shape.invariant c.shape.view_is in
    let none : switch_bits a.shape.width ≡ 0 = sym F.switches ∙ c.if-shape-eq0.true in
    let end : a.at + switch_bits a.shape.width ≡ a.at = omega (arith, none) in
    (rw end c.requires.fact.0, rw end (none-put _ _ 1 _ none))

pub shared_ref_as_front-set_switches : goal.shared_ref_as_front-set_switches
shared_ref_as_front-set_switches c =
    let P = line-placed (shape_fields c.shape.invariant c.shape.view_is) in
    omega (arith, P.few)

pub set_switches-requires-clause-by_index : goal.set_switches-requires-clause-by_index
set_switches-requires-clause-by_index c =
    let r = c.requires.wired in
    let P = line-placed (shape_fields c.shape.invariant c.shape.view_is) in
    let S = line-sized c.args.shape.width in
    (S.0, (front_long P r ∙ P.lines ∙ S.1.0, P.switches ∙ S.1.1))

pub set_switches-requires-clause-forward_len_bound : goal.set_switches-requires-clause-forward_len_bound
set_switches-requires-clause-forward_len_bound c =
    let r = c.requires.wired in
    let P = line-placed (shape_fields c.shape.invariant c.shape.view_is) in
    (omega (arith, P.few, front_long P r), P.switches-few, rw P.lines r.inverses)

pub shared_ref_as_front-put_bits : goal.shared_ref_as_front-put_bits
shared_ref_as_front-put_bits c =
    let P = line-placed (shape_fields c.shape.invariant c.shape.view_is) in
    omega (arith, P.switches-few)

pub put_bits-requires-clause-values_len_bound : goal.put_bits-requires-clause-values_len_bound
put_bits-requires-clause-values_len_bound c =
    let r = c.requires.wired in
    let P = line-placed (shape_fields c.shape.invariant c.shape.view_is) in
    let known = bits-known P r c.set_switches.ensures in
    let long = length-take-le c.shape.inside.switches c.set_switches.new.switches
    (omega (arith, P.switches-few, c.set_switches.array_long)) in
    (omega (arith, P.switches-few, long), λ i l. bits-two P r _ known i)

pub returns : goal.returns
returns c =
    let a = c.args in
    let r = c.requires.wired in
    let P = line-placed (shape_fields c.shape.invariant c.shape.view_is) in
    let known = bits-known P r c.set_switches.ensures in
    let long = length-take-le c.shape.inside.switches c.set_switches.new.switches
    (omega (arith, P.switches-few, c.set_switches.array_long)) in
    let put = rw long at c.put_bits.ensures in
    let whole = whole_of a.file.now a.at a.held in
    rw (← P.switches) (put.0, put.1 ∙ ap (λ (y : List ℕ). put_fields whole a.at 1 y c.shape.inside.switches) known)
