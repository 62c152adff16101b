-- `switches::set_outer` meets its contract: the lines of the lower half are those of the rule, the switches are set by them, and what each half has
-- to perform is read off as the switches are set.
use Rattle.std.proofs.Common.{refl, arith}
use Rattle.network.proofs.Sizes.{parted}
use Rattle.setting.proofs.Outers.{wirable, outer, inner-pair}
use Rattle.setting.proofs.switches.set_outer.Goals as goal

pub overflow_sub-from-2 : goal.overflow_sub-from-2
overflow_sub-from-2 c =
    let r = c.requires in
    let P = parted _ _ _ r.by_index.1 (λ e. omega (arith, r.in_bounds.0)) in
    omega (arith, P.count-all)

pub lower_lines-low-requires-clause-forward_len : goal.lower_lines-low-requires-clause-forward_len
lower_lines-low-requires-clause-forward_len c =
    let r = c.requires in
    let P = parted _ _ _ r.by_index.1 (λ e. omega (arith, r.in_bounds.0)) in
    (omega (arith, P.width-all), r.in_bounds.1, omega (arith, r.in_bounds.0))

pub set_inputs-requires : goal.set_inputs-requires
set_inputs-requires c =
    let r = c.requires in
    let P = parted _ _ _ r.by_index.1 (λ e. omega (arith, r.in_bounds.0)) in
    (r.in_bounds.1, omega (arith, P.count-all, P.some))

pub set_outputs-requires : goal.set_outputs-requires
set_outputs-requires c =
    let r = c.requires in
    wirable _ _ r.lines _ _ r.by_index.1 r.in_bounds.0 _ c.lower_lines-low.ensures c.set_inputs.ensures.bits.long r.in_bounds.1

pub returns-clause-outer : goal.returns-clause-outer
returns-clause-outer c =
    let r = c.requires in
    let P = parted _ _ _ r.by_index.1 (λ e. omega (arith, r.in_bounds.0)) in
    let inputs = c.set_inputs.ensures in
    outer _ _ r.lines _ _ r.by_index.1 r.in_bounds.0 c.lower_lines-low.result c.lower_lines-low.ensures refl inputs.bits c.set_outputs.ensures.bits
    (omega (arith, P.count-all, inputs.bits.long))

pub returns-clause-upper : goal.returns-clause-upper
returns-clause-upper c =
    let r = c.requires in
    inner-pair _ _ r.lines _ _ r.by_index.1 r.in_bounds.0 0 (omega arith) c.lower_lines-low.result c.lower_lines-low.ensures
    c.set_inputs.ensures.above c.set_outputs.ensures.above (omega (arith, r.lines.long))

pub returns-clause-lower : goal.returns-clause-lower
returns-clause-lower c =
    let r = c.requires in
    inner-pair _ _ r.lines _ _ r.by_index.1 r.in_bounds.0 1 (omega arith) c.lower_lines-low.result c.lower_lines-low.ensures
    c.set_inputs.ensures.beneath c.set_outputs.ensures.beneath (omega (arith, r.lines.long))
