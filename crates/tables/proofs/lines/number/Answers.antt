-- `lines::number` meets its contract: the turn at x fills the eight entries from x on, each with its own number.
use Rattle.std.proofs.Common.{refl, arith}
use Rattle.laws.proofs.Puts.{filling-put}
use Rattle.tables.proofs.Puts.{eight-first, eight-next, eight-lt, byte-eight}
use Rattle.tables.proofs.lines.number.Goals as goal

pub loop-x-init : goal.loop-x-init
loop-x-init c = (omega arith, refl, eight-first, record { long = omega arith; filled = λ i l. absurd (omega arith) })

pub overflow_add-eight : goal.overflow_add-eight
overflow_add-eight c = let l = c.loop-x in record { fits = omega (arith, l.invariant.2, eight-lt l.x l.invariant.0) }

pub loop-x-preserved : goal.loop-x-preserved
loop-x-preserved c =
    let l = c.loop-x in (
      omega (arith, l.invariant.1, c.requires),
      omega (arith, l.invariant.1),
      omega (arith, l.invariant.2, eight-next l.x),
      filling-put l.invariant.3 c.put_eight.ensures (byte-eight l.x l.invariant.0 l.invariant.2),
    )

pub returns-2 : goal.returns-2
returns-2 c = λ x m.
    let l = c.loop-x in
    let F = filling-put l.invariant.3 c.put_eight.ensures (byte-eight l.x l.invariant.0 l.invariant.2) in
    F.filled x (omega arith)
