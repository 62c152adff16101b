-- `set_bits` meets its contract. One, two, four and eight lines are set at once. For more the outer switches are set, then each inner network, and
-- `both-set` puts the setting together.
use Rattle.std.proofs.Common.{◌≡◌, ℕ, ◌/◌, length, take, sym, ◌∙◌, arith, length-take-le}
use Rattle.network.proofs.Sizes.{parted, parted-more}
use Rattle.setting.proofs.Fours.{four-sized}
use Rattle.setting.proofs.Eights.{eight-sized}
use Rattle.setting.proofs.Outers.{one-setting, two-setting, inner-inverses, upper-sized, upper_long, lower-sized, both-set}
use Rattle.setting.proofs.switches.+set_bits.Goals as goal

pub returns-in-1 : goal.returns-in-1
returns-in-1 t c = λ d q. one-setting d _ _ (sym c.in-1.is ∙ q.0, q.1)

pub bounds-bits-0 : goal.bounds-bits-0
bounds-bits-0 t c =
    let P = parted _ _ _ c.requires.by_index.1 (λ e. omega arith) in
    omega (arith, P.count-all, c.in-2.is)

pub returns-in-2 : goal.returns-in-2
returns-in-2 t c = λ d q. two-setting _ _ c.requires.inverses d c.args.bits.now c.in-2.is q

pub set_four-requires-clause-forward_len : goal.set_four-requires-clause-forward_len
set_four-requires-clause-forward_len t c = (c.in-4.is, (four-sized c.requires.by_index.1 c.in-4.is).1)

pub returns-in-4 : goal.returns-in-4
returns-in-4 t c = λ d q. rw (four-sized q c.in-4.is).0 c.set_four.ensures

pub set_eight-requires : goal.set_eight-requires
set_eight-requires t c = (c.in-8.is, (eight-sized c.requires.by_index.1 c.in-8.is).1, c.requires.inverses)

pub returns-in-8 : goal.returns-in-8
returns-in-8 t c = λ d q. rw (eight-sized q c.in-8.is).0 c.set_eight.ensures

pub overflow_sub-inner-in_default : goal.overflow_sub-inner-in_default
overflow_sub-inner-in_default t c =
    let P = parted _ _ _ c.requires.by_index.1 (λ e. omega arith) in
    omega (arith, P.count-all, P.width-all)

pub slice_bounds-set_bits-end-in_default-2 : goal.slice_bounds-set_bits-end-in_default-2
slice_bounds-set_bits-end-in_default-2 t c =
    let P = parted _ _ _ c.requires.by_index.1 (λ e. omega arith) in
    omega (arith, P.count-all, P.some, c.set_outer.auto.bits)

pub set_bits-requires : goal.set_bits-requires
set_bits-requires t c =
    let r = c.requires in
    let s = r.by_index.1 in
    let few = r.forward_len_bound in
    let P = parted _ _ _ s (λ e. omega arith) in
    let up = c.set_outer.ensures.upper in
    let down = c.set_outer.ensures.lower in
    let inverses = inner-inverses _ _ r.inverses _ _ s (parted-more P) 0 (omega arith) up few in
    let m : ℕ = length c.args.forward.now / 2 in
    let long : length (take m c.set_outer.new.images.upper) ≡ m = length-take-le m _ (omega (arith, up.long, few)) in (
      omega (arith, c.decreases, long, P.width-all, P.some),
      (
        (_, upper-sized _ _ r.inverses _ _ s (parted-more P) up down few _ c.set_outer.auto.bits),
        (omega (arith, long), inverses),
      ),
    )

pub slice_bounds-set_bits-end-in_default-5 : goal.slice_bounds-set_bits-end-in_default-5
slice_bounds-set_bits-end-in_default-5 t c =
    let r = c.requires in
    let s = r.by_index.1 in
    let P = parted _ _ _ s (λ e. omega arith) in
    let outer = c.set_outer.ensures in
    let long = upper_long _ _ r.inverses _ _ s (parted-more P) outer.upper outer.lower r.forward_len_bound _
    c.set_outer.auto.bits _ c.set_bits.ensures in
    omega (arith, P.count-all, P.some, long)

pub set_bits-requires-in_default : goal.set_bits-requires-in_default
set_bits-requires-in_default t c =
    let r = c.requires in
    let s = r.by_index.1 in
    let few = r.forward_len_bound in
    let P = parted _ _ _ s (λ e. omega arith) in
    let up = c.set_outer.ensures.upper in
    let down = c.set_outer.ensures.lower in
    let inverses = inner-inverses _ _ r.inverses _ _ s (parted-more P) 1 (omega arith) down few in
    let m : ℕ = length c.args.forward.now / 2 in
    let long : length (take m c.set_outer.new.images.lower) ≡ m = length-take-le m _ (omega (arith, down.long, few)) in (
      omega (arith, c.decreases, long, P.width-all, P.some),
      (
        (_, lower-sized _ _ r.inverses _ _ s (parted-more P) up down few _ c.set_outer.auto.bits _ c.set_bits.ensures),
        (omega (arith, long), inverses),
      ),
    )

pub returns-in_default : goal.returns-in_default
returns-in_default t c = λ d q.
    let r = c.requires in
    let P = parted _ _ _ r.by_index.1 (λ e. omega arith) in
    let o = c.set_outer.ensures in
    both-set _ _ r.inverses d _ q (parted-more P) o.upper o.lower r.forward_len_bound _
    c.set_outer.auto.bits _ c.set_bits.ensures _ o.outer c.set_bits-in_default.ensures
