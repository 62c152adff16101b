-- `put_addresses` meets its contract: each turn puts two values more as one field, and a last one by itself.
use Rattle.std.proofs.Common.{ℕ, ◌≡◌, ◌+◌, ◌*◌, ◌%◌, ◌^◌, ◌<◌, ◌≤◌, length, get_or, refl, sym, arith}
use native.Mathlib.Nat.{add-mul, mul-le-mul_right}
use Rattle.bits.proofs.Stores.{joined-lt, moved-exact}
use Rattle.packing.proofs.Parts.{pair_put, put_fields-more, putting-none, putting-more}
use Rattle.packing.proofs.put_addresses.Goals as goal

-- two values as one: the shift to the left loses no digit, and both together fit in twice their digits
exact : {a b : ℕ} (size : ℕ) → size ≤ 16 → a < 2 ^ size → b < 2 ^ size → a * 2 ^ size % 2 ^ 64 ≡ a * 2 ^ size
exact size l f s = moved-exact _ _ f s (omega arith)

pair-fits : {a b : ℕ} (size : ℕ) → size ≤ 16 → a < 2 ^ size → b < 2 ^ size → a * 2 ^ size + b < 2 ^ (2 * size)
pair-fits size l f s =
    let both : 2 * size ≡ size + size = omega arith in
    rw both (joined-lt _ _ f s (omega arith))

-- the fields that are put end where the last one does, or before
within : (i m count size : ℕ) → i + m ≤ count → i * size + m * size ≤ count * size
within i m count size l = omega (arith, add-mul i m size, mul-le-mul_right {m = i + m} {n = count} size l)

pub loop-i-init : goal.loop-i-init
loop-i-init c = (omega arith, putting-none _ _ c.requires.fact.0)

pub write-window-requires-clause-width_bound : goal.write-window-requires-clause-width_bound
write-window-requires-clause-width_bound c =
    let size = c.args.size in
    let few = c.requires.size_bound.0 in
    let first = rw (sym c.from.ensures) at (c.requires.size_bound.1 c.loop-i.i (omega arith)) in
    let second = rw (sym c.from-in-loop-i.ensures) at (c.requires.size_bound.1 (c.loop-i.i + 1) (omega arith)) in
    (omega arith, rw (exact size few first second) (pair-fits size few first second))

pub write-window-requires-clause-fact : goal.write-window-requires-clause-fact
write-window-requires-clause-fact c =
    let l = c.loop-i in
    (l.invariant.1.opened, omega (arith, within l.i 2 (length c.args.values.now) c.args.size c.loop-i-test.true, c.requires.fact.1))

pub loop-i-preserved : goal.loop-i-preserved
loop-i-preserved c =
    let l = c.loop-i in
    let size = c.args.size in
    let values = c.args.values.now in
    let few = c.requires.size_bound.0 in
    let first = c.requires.size_bound.1 l.i (omega arith) in
    let second = c.requires.size_bound.1 (l.i + 1) (omega arith) in
    let put = rw (exact size few first second) at (rw (c.from.ensures, c.from-in-loop-i.ensures) at c.write-window.ensures) in
    (c.loop-i-test.true, putting-more refl l.invariant.1 2 _ _ refl (pair_put _ c.args.at size values l.i second) put)

pub returns-then-i-values : goal.returns-then-i-values
returns-then-i-values c =
    let l = c.loop-i in
    let size = c.args.size in
    let values = c.args.values.now in
    let all : l.i + 1 ≡ length values = omega (arith, c.loop-i-test.false, c.if-i-values.true) in
    let put = rw c.from-then-i-values.ensures at c.write.ensures in
    let P = rw all at (putting-more refl l.invariant.1 1 size (get_or values l.i 0) (omega arith) (sym (put_fields-more _ c.args.at size values l.i)) put) in
    (P.opened, P.put)
