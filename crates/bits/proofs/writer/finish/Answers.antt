-- `finish` meets its contract: what is held is put as one field, or as two where it has more than 16 bits.
use Rattle.std.proofs.Common.{ℕ, ◌+◌, ◌-◌, ◌*◌, ◌/◌, ◌%◌, ◌^◌, List, ap, ◌∙◌, arith}
use Rattle.bits.specs.Bits.{put_field}
use Rattle.bits.proofs.Digits.{one_shl}
use Rattle.bits.proofs.Stores.{front-lt, whole-two}
use Rattle.bits.proofs.writer.finish.Goals as goal

pub overflow_cast-window-2 : goal.overflow_cast-window-2
overflow_cast-window-2 c = record { fits = front-lt c.requires.0 (omega (arith, c.if-held-le16.false)) }

pub put_field-requires-2-clause-value_bound : goal.put_field-requires-2-clause-value_bound
put_field-requires-2-clause-value_bound c = front-lt c.requires.0 (omega (arith, c.if-held-le16.false))

pub returns : goal.returns
returns c =
    let a = c.args in
    let rest = a.at % 32 - 16 in
    rw (one_shl 64 rest (omega arith)) at c.put_field-3.ensures
    ∙ ap (λ (z : List ℕ). put_field z (a.at / 32 * 32 + 16) rest (a.window % 2 ^ rest)) c.put_field-2.ensures
    ∙ whole-two c.requires.0 (omega (arith, c.if-held-le16.false)) a.bytes.now
