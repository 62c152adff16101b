-- `with_zeros` meets its contract: byte i of the number is byte i of the slice (`field-inside`).
use Rattle.std.proofs.Common.{ℕ, zero, suc, ◌+◌, ◌-◌, ◌*◌, ◌/◌, ◌%◌, ◌^◌, ◌<◌, ◌≤◌, List, length, get_or, ◌≡◌, refl, sym, ap, ◌∙◌, arith}
use native.Mathlib.Decide.{dec_lt}
use native.Mathlib.Nat.{div-one, mod-eq_of_lt, pow-suc, zero-add}
use lib.ListN.{get_or-eq_default}
use lib.Pow.{pow-add}
use Rattle.std.specs.Int.{byte_at, bytes_high_first}
use Rattle.bits.specs.Bits.{Bytes, field}
use Rattle.bits.proofs.Fields.{field-byte, field-inside}
use Rattle.bits.proofs.with_zeros.Goals as goal

-- the bytes of a number, the highest first
byte-high-first : (k i j n : ℕ) → i + suc j ≡ k → get_or (bytes_high_first k n) i 0 ≡ byte_at j n
byte-high-first zero i j n e = absurd (omega arith)
byte-high-first (suc k) zero j n e = let last : k ≡ j = omega arith in ap (λ (x : ℕ). byte_at x n) last
byte-high-first (suc k) (suc i) j n e = byte-high-first k i j n (omega arith)

bytes-power : (j : ℕ) → 2 ^ (8 * j) ≡ 256 ^ j
bytes-power zero = refl
bytes-power (suc j) =
    let e : 8 * suc j ≡ 8 * j + 8 = omega arith in
    ap (λ (x : ℕ). 2 ^ x) e ∙ pow-add 2 (8 * j) 8 ∙ ap (λ (x : ℕ). x * 256) (bytes-power j) ∙ sym (pow-suc 256 j)

byte_placed : (j n : ℕ) → byte_at j n ≡ n / 2 ^ (8 * j) % 256
byte_placed zero n = rw div-one refl
byte_placed (suc j) n = ap (λ (x : ℕ). n / x % 256) (sym (bytes-power (suc j)))

placed-byte : {xs : List ℕ} → Bytes xs → (i j : ℕ) → i + suc j ≡ 8 → field xs 0 64 / 2 ^ (8 * j) % 256 ≡ get_or xs i 0
placed-byte {xs} bx i j e =
    let all : 8 * i + 8 + 8 * j ≡ 64 = omega arith in
    sym (rw (all, zero-add) at (field-inside xs 0 (8 * i) 8 (8 * j))) ∙ field-byte xs i (8 * i) 8 (omega arith) (omega arith)
    ∙ mod-eq_of_lt (bx.byte i)

-- they are the bytes of the slice, and zeros behind them
same_bytes : {xs : List ℕ} → Bytes xs → length xs < 8 → (i : ℕ) → get_or (bytes_high_first 8 (field xs 0 64)) i 0 ≡ get_or xs i 0
same_bytes {xs} bx short i = elim (dec_lt i 8) [
  | yes l ↦
      let e : i + suc (7 - i) ≡ 8 = omega arith in
      byte-high-first 8 i (7 - i) (field xs 0 64) e ∙ byte_placed (7 - i) (field xs 0 64) ∙ placed-byte bx i (7 - i) e
  | no m ↦
      let past : length xs ≤ i = omega arith in
      get_or-eq_default (bytes_high_first 8 (field xs 0 64)) 0 (omega arith) ∙ sym (get_or-eq_default xs 0 past)
]

pub returns : goal.returns
returns c =
    let xs = c.args.bytes.now in
    let bytes : Bytes xs = record { byte = λ i. (c.type_inv.bytes i).fits } in
    let is = c.to_be_bytes.ensures ∙ ap (bytes_high_first 8) c.short_number.ensures in
    record { long = omega (arith, ap length is); same = λ i. ap (λ (z : List ℕ). get_or z i 0) is ∙ same_bytes bytes c.requires i }
