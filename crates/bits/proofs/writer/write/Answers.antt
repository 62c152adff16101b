-- `write` meets its contract: what is held and the value behind it are one number, of which 32 bits are stored once it has them.
use Rattle.std.proofs.Common.{ℕ, ◌+◌, ◌-◌, ◌*◌, ◌%◌, ◌^◌, List, ap, ◌∙◌, arith}
use Rattle.bits.specs.inner.Writing.{whole_of}
use Rattle.bits.proofs.Digits.{one_shl}
use Rattle.bits.proofs.Stores.{moved-exact, open-held, whole-held, stored-lt, open-stored, whole-stored}
use Rattle.bits.proofs.writer.write.Goals as goal

pub returns-then-held-lt32 : goal.returns-then-held-lt32
returns-then-held-lt32 c =
    let a = c.args in
    let O = c.requires.fact.0 in
    let p = c.requires.width_bound in
    let l = c.if-held-lt32.true in
    rw (moved-exact (a.at % 32) a.width O.small p.1 (omega arith))
    (open-held a.width O p.0 p.1 l, whole-held a.width O p.0 p.1 l a.bytes.now)

pub store_four-requires-clause-short : goal.store_four-requires-clause-short
store_four-requires-clause-short c =
    let a = c.args in
    let O = c.requires.fact.0 in
    let p = c.requires.width_bound in
    rw (moved-exact (a.at % 32) a.width O.small p.1 (omega arith)) (stored-lt a.width O p.0 p.1 c.if-held-lt32.false)

pub returns : goal.returns
returns c =
    let a = c.args in
    let O = c.requires.fact.0 in
    let p = c.requires.width_bound in
    let l = c.if-held-lt32.false in
    let rest = a.at % 32 + a.width - 32 in
    let exact = moved-exact (a.at % 32) a.width O.small p.1 (omega arith) in
    rw (one_shl 64 rest (omega arith), exact) (
      open-stored a.width O p.0 p.1 l,
      ap (λ (z : List ℕ). whole_of z (a.at + a.width) ((a.window * 2 ^ a.width + a.value) % 2 ^ rest)) (rw exact at c.store_four.ensures)
          ∙ whole-stored a.width O p.0 p.1 l a.bytes.now,
    )
