-- `chain`: each turn chains one word more, from the last down, and draws its edge.
use Rattle.std.proofs.Common.{ℕ, ◌+◌, ◌-◌, ◌*◌, ◌/◌, ◌%◌, ◌<◌, ◌≡◌, length, List, sym, ap, subst, ◌∙◌, arith, rules}
use native.Mathlib.Nat.{mod-lt}
use Rattle.division.proofs.Quotients.{multiple-le, remainder_is}
use Rattle.limits.specs.Limits.{most_width}
use Rattle.images.specs.Images.{order_of}
use Rattle.tables.specs.Terms.{Dims}
use Rattle.generator.proofs.Chains.{Chaining, chaining-none, chaining-more, chaining-all}
use Rattle.generator.specs.inner.Schedule.{head_count}
use Rattle.generator.proofs.Drawings.{drawn-none, drawn-more}
use Rattle.generator.proofs.scheduling.chain.Goals as goal

-- word i stands in a bank and goes to a port, and their head is one of the heads
record Stands (w : ℕ) (p : ℕ → ℕ) (i bank port : ℕ) : Type 0 where
  bank-is : bank ≡ i % w
  port-is : port ≡ p i % w
  port-few : port < w
  bank-below : bank < most_width
  port-below : port < most_width
  inside : bank * most_width + port < head_count

stands : {n w i bank before image q : ℕ} (images : List ℕ) → Dims n w → 0 < i → before ≡ i % w → ((j : ℕ) → before ≡ (j + 1) % w → bank ≡ j % w)
    → image ≡ order_of (length images) images (i - 1) → q ≡ image / w
    → Stands w (order_of (length images) images) (i - 1) bank (image - q * w)
stands {w = w} {i} {bank} {image = image} {q} images D some b step m e =
    let bank-is : bank ≡ (i - 1) % w = step (i - 1) (b ∙ ap (λ (z : ℕ). z % w) (omega arith)) in
    let port-is : image - q * w ≡ order_of (length images) images (i - 1) % w = remainder_is image w e ∙ ap (λ (z : ℕ). z % w) m in
    let bank-few : bank < w = rw bank-is (mod-lt (i - 1) D.wide) in
    let port-few : image - q * w < w = rw port-is (mod-lt (order_of (length images) images (i - 1)) D.wide) in
    let narrow = D.narrow in
    record {
      bank-is = bank-is;
      port-is = port-is;
      port-few = port-few;
      bank-below = omega arith;
      port-below = omega arith;
      inside = omega arith;
    }

pub loop-i-init : goal.loop-i-init
loop-i-init c =
    let D = c.requires.dims.0 in
    record {
      banked = sym D.even;
      chaining = rw c.requires.edges_value.1 (chaining-none D);
      drawn = rw (c.requires.edges_value.0, c.requires.edges_value.1) (drawn-none D.narrow);
    }

pub overflow_sub-port : goal.overflow_sub-port
overflow_sub-port c = multiple-le c.image_at-image.result c.args.w (c.quotient.ensures _ c.reciprocal-reciprocal.ensures)

pub bounds-heads-place : goal.bounds-heads-place
bounds-heads-place c =
    (stands c.args.images.now c.requires.dims.0 c.loop-i-test.true c.loop-i.invariant.banked c.bank_before-bank.ensures c.image_at-image.ensures.0
    (c.quotient.ensures _ c.reciprocal-reciprocal.ensures)).inside

pub bounds-heads-place-in-loop-i : goal.bounds-heads-place-in-loop-i
bounds-heads-place-in-loop-i c =
    (stands c.args.images.now c.requires.dims.0 c.loop-i-test.true c.loop-i.invariant.banked c.bank_before-bank.ensures c.image_at-image.ensures.0
    (c.quotient.ensures _ c.reciprocal-reciprocal.ensures)).inside

pub join-requires : goal.join-requires
join-requires c =
    let S = stands c.args.images.now c.requires.dims.0 c.loop-i-test.true c.loop-i.invariant.banked c.bank_before-bank.ensures c.image_at-image.ensures.0
    (c.quotient.ensures _ c.reciprocal-reciprocal.ensures) in
    search (rules, S.bank-below, S.port-below)

pub loop-i-preserved : goal.loop-i-preserved
loop-i-preserved c =
    let D = c.requires.dims.0 in
    let l = c.loop-i in
    let S = stands c.args.images.now D c.loop-i-test.true l.invariant.banked c.bank_before-bank.ensures c.image_at-image.ensures.0
    (c.quotient.ensures _ c.reciprocal-reciprocal.ensures) in
    let e : l.i ≡ l.i - 1 + 1 = omega (arith, c.loop-i-test.true) in
    let C = subst (λ (z : ℕ). Chaining c.args.n c.args.w (order_of (length c.args.images.now) c.args.images.now) c.args.next.now z l.next l.heads)
    e l.invariant.chaining in
    record {
      banked = S.bank-is;
      chaining = rw (S.bank-is, S.port-is) (chaining-more D c.requires.dims.1 C);
      drawn = drawn-more D.narrow S.port-few (omega (arith, S.inside, C.headed.long)) (λ n. omega (arith, l.invariant.chaining.upto, D.few))
          l.invariant.drawn c.join.ensures;
    }

pub returns : goal.returns
returns c =
    let e : c.loop-i.i ≡ 0 = omega arith in
    (chaining-all c.requires.dims.0 (rw e at c.loop-i.invariant.chaining), c.loop-i.invariant.drawn)
