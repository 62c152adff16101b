-- `short_number` meets its contract: the shifts lose nothing of the number of all bytes, and put the zeros behind it (`field-short`).
use Rattle.std.proofs.Common.{ℕ, ◌+◌, ◌-◌, ◌*◌, ◌%◌, ◌^◌, ◌<◌, ◌≤◌, List, length, ◌≡◌, sym, ap, ◌∙◌, arith}
use native.Mathlib.Nat.{lt_of_lt_of_le, mul_assoc}
use lib.Pow.{pow-add, pow_mono, shl_exact}
use Rattle.bits.specs.Bits.{field}
use Rattle.bits.proofs.Fields.{field_lt, field-short}
use Rattle.bits.proofs.short_number.Goals as goal

-- the number of all bytes, shifted up twice
raised : (xs : List ℕ) → length xs < 8
    → field xs 0 (8 * length xs) * 2 ^ 8 % 2 ^ 64 * 2 ^ (56 - 8 * length xs) % 2 ^ 64 ≡ field xs 0 64
raised xs short =
    let own = 8 * length xs in
    let number = field xs 0 own in
    let few : own ≤ 56 = omega arith in
    let up : 8 + (56 - own) ≡ 64 - own = omega arith in
    let first : number * 2 ^ 8 % 2 ^ 64 ≡ number * 2 ^ 8 = shl_exact 56 8 64 (lt_of_lt_of_le (field_lt xs 0 own) (pow_mono few)) (omega arith) in
    let both : number * 2 ^ 8 * 2 ^ (56 - own) ≡ number * 2 ^ (64 - own) =
    mul_assoc number (2 ^ 8) (2 ^ (56 - own)) ∙ ap (λ (x : ℕ). number * x) (sym (pow-add 2 8 (56 - own)) ∙ ap (λ (e : ℕ). 2 ^ e) up) in
    rw (first, both) (shl_exact own (64 - own) 64 (field_lt xs 0 own) (omega arith) ∙ sym (field-short xs short))

pub returns : goal.returns
returns c = rw c.bytes_from-number.ensures (raised c.args.bytes.now c.requires)
