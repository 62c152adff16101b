-- `ones` meets its contract: each turn adds one value more, and a value of 0 or 1 is the count of ones in it.
use Rattle.std.proofs.Common.{◌≡◌, ℕ, ◌+◌, ◌<◌, sym, ap₂, ◌∙◌, get_or, arith}
use Rattle.laws.specs.Sum.{hits}
use Rattle.laws.proofs.Sums.{is-bit, hits-none, hits_more, hits_few}
use Rattle.network.proofs.counting.ones.Goals as goal

-- one value more is counted
counted : {total i : ℕ} (f : ℕ → ℕ) → total ≡ hits i f 1 → f i < 2 → total + f i ≡ hits (i + 1) f 1
counted {total} {i} f so_far bit = ap₂ ◌+◌ so_far (sym (is-bit (f i) bit)) ∙ hits_more i f 1

pub loop-i-init : goal.loop-i-init
loop-i-init c = hits-none _ _

pub overflow_add-total : goal.overflow_add-total
overflow_add-total c =
    let value : ℕ → ℕ = λ k. get_or c.args.values.now k 0 in
    let more = counted value c.loop-i.invariant (c.requires.by_index c.loop-i.i c.loop-i-test.true) in
    omega (arith, more, hits_few (c.loop-i.i + 1) value 1)

pub loop-i-preserved : goal.loop-i-preserved
loop-i-preserved c = counted _ c.loop-i.invariant (c.requires.by_index c.loop-i.i c.loop-i-test.true)
