-- `with_digits` meets its contract: its terms are those of `with_digits`, as no shift to the left loses a digit.
use Rattle.std.proofs.Common.{ℕ, ◌+◌, ◌-◌, ◌*◌, ◌/◌, ◌%◌, ◌^◌, ◌<◌, ◌≤◌, ◌≡◌, refl, arith}
use lib.Dec.{lit≤}
use lib.Pow.{pow_pos, pow_mono, shl_lt, add-lt-pow}
use native.Mathlib.Nat.{mod-eq_of_lt, mod-lt, lt_of_lt_of_le}
use Rattle.bits.specs.Bits.{with_digits}
use Rattle.bits.proofs.Digits.{one_shl, with_digits-high-lt, with_digits-lt}
use Rattle.bits.proofs.with_digits.Goals as goal

module _ {n v : ℕ} (k w : ℕ) (hn : n < 2 ^ 24) (h : k + w ≤ 24) (hv : v < 2 ^ w) where
  -- The value with the digits above it is below 2^24.
  high_lt : n / 2 ^ (w + k) * 2 ^ w + v < 2 ^ 24
  high_lt = lt_of_lt_of_le (with_digits-high-lt n k w v 24 hn hv h) (pow_mono {j = 24} (omega arith))

  -- Moved up by k digits it still is.
  moved-lt : (n / 2 ^ (w + k) * 2 ^ w + v) * 2 ^ k < 2 ^ 24
  moved-lt = lt_of_lt_of_le (shl_lt (24 - k) k (with_digits-high-lt n k w v 24 hn hv h)) (pow_mono {j = 24} (omega arith))

  -- So both shifts to the left, of 32 bits, lose no digit.
  shifts : (n / 2 ^ (w + k) * 2 ^ w % 2 ^ 32 + v) * 2 ^ k % 2 ^ 32 ≡ (n / 2 ^ (w + k) * 2 ^ w + v) * 2 ^ k
  shifts =
      let first : n / 2 ^ (w + k) * 2 ^ w % 2 ^ 32 ≡ n / 2 ^ (w + k) * 2 ^ w = mod-eq_of_lt (omega (arith, high_lt)) in
      rw first (mod-eq_of_lt (omega (arith, moved-lt)))

pub overflow_add-result : goal.overflow_add-result
overflow_add-result c =
    let p = c.requires in
    omega (arith, high_lt c.args.below c.args.width p.bound p.width_bound p.value_bound)

pub overflow_add-result-2 : goal.overflow_add-result-2
overflow_add-result-2 c =
    let a = c.args in
    let p = c.requires in
    let high = moved-lt a.below a.width p.bound p.width_bound p.value_bound in
    let small : 2 ^ a.below ≤ 2 ^ 24 = pow_mono {j = 24} (omega arith) in
    rw (shifts a.below a.width p.bound p.width_bound p.value_bound, one_shl 32 a.below (omega arith))
    (record { fits = lt_of_lt_of_le (add-lt-pow 24 high (lt_of_lt_of_le (mod-lt _ (pow_pos a.below)) small)) (lit≤ tt) })

pub returns : goal.returns
unfolding with_digits
returns c =
    let a = c.args in
    let p = c.requires in
    rw (shifts a.below a.width p.bound p.width_bound p.value_bound, one_shl 32 a.below (omega arith))
    (refl, with_digits-lt a.old a.below a.width a.value 24 p.bound p.value_bound p.width_bound)
