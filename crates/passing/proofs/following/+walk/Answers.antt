-- `walk` meets its contract: one level of the network is `leaves-level`.
use Rattle.std.proofs.Common.{◌≡◌, ℕ, ◌+◌, ◌-◌, ◌*◌, ◌/◌, ◌%◌, ◌<◌, List, length, get_or, take, drop, sym, ap, ◌∙◌, arith}
use Rattle.laws.proofs.Splices.{length_part}
use Rattle.network.specs.Network.{leaves}
use Rattle.network.specs.inner.Sizes.{inner_count}
use Rattle.network.proofs.Sizes.{parted, one-leaves, half-times, lent-part, leaves-level}
use Rattle.passing.proofs.following.+walk.Goals as goal

pub returns-then-width-eq1-clause-by_index_2 : goal.returns-then-width-eq1-clause-by_index_2
returns-then-width-eq1-clause-by_index_2 t c = λ d s. one-leaves d _ _ (sym c.if-width-eq1.true ∙ s.0)

pub overflow_sub-inner-2 : goal.overflow_sub-inner-2
overflow_sub-inner-2 t c = let S = parted _ _ _ c.requires.by_index.1 c.if-width-eq1.false in omega (arith, S.count-all, S.width-all)

pub overflow_add-half : goal.overflow_add-half
overflow_add-half t c =
    let S = parted _ _ _ c.requires.by_index.1 c.if-width-eq1.false in
    omega (arith, S.count-all, S.width-all, c.requires.line_lt_width)

-- the part of the bits that an inner network is lent
lent-long : (m half n all : ℕ) (bits : List ℕ) → half < 2 → m + n + n + all ≡ length bits
    → length (take (m + half * n + n - (m + half * n)) (drop (m + half * n) bits)) ≡ n
lent-long m half n all bits l e =
    ap length (lent-part (m + half * n) n bits) ∙ length_part (m + half * n) n bits (omega (arith, half-times half n l))

pub slice_bounds-walk-end : goal.slice_bounds-walk-end
slice_bounds-walk-end t c =
    let S = parted _ _ _ c.requires.by_index.1 c.if-width-eq1.false in
    let within = half-times ((c.args.line + c.value_at.result) % 2) (inner_count c.args.width (length c.args.bits.now)) (omega arith) in
    omega (arith, S.count-all, S.width-all, within)

pub walk-y-requires : goal.walk-y-requires
walk-y-requires t c =
    let S = parted _ _ _ c.requires.by_index.1 c.if-width-eq1.false in
    let m = c.args.width / 2 in
    let n = inner_count c.args.width (length c.args.bits.now) in
    let long = lent-long m ((c.args.line + c.value_at.result) % 2) n (m - 1) c.args.bits.now (omega arith) (omega (arith, S.count-all, S.some)) in
    (omega (arith, S.width-all, S.some, c.decreases), ((S.e, (S.half-width, long ∙ S.inner)), omega (arith, S.width-all, c.requires.line_lt_width)))

pub returns-clause-by_index_2 : goal.returns-clause-by_index_2
returns-clause-by_index_2 t c = λ d s.
    let S = parted _ _ d s c.if-width-eq1.false in
    let m = c.args.width / 2 in
    let n = inner_count c.args.width (length c.args.bits.now) in
    let half = (c.args.line + c.value_at.result) % 2 in
    let long = lent-long m half n (m - 1) c.args.bits.now (omega arith) (omega (arith, S.count-all, S.some)) in
    let same = ap (λ (xs : List ℕ). leaves S.e (λ i. get_or xs i 0) (c.args.line / 2)) (lent-part (m + half * n) n c.args.bits.now) in
    leaves-level c.args.bits.now S c.args.line _ _ _ c.requires.line_lt_width c.value_at.ensures.0
    (c.walk-y.ensures.by_index_2 S.e (S.half-width, long ∙ S.inner) ∙ same) c.value_at-2.ensures.0
