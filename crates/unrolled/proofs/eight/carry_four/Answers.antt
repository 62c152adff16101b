-- `unrolled::eight::carry_four` meets its contract: its calls are the two lines of each of the network's five switches.
use Rattle.std.proofs.Common.{◌-◌}
use native.Mathlib.Nat.{sub-zero}
use Rattle.bits.specs.Bits.{digit}
use Rattle.unrolled.proofs.ByValue.{four-lines, digit-switch}
use Rattle.unrolled.proofs.eight.carry_four.Goals as goal

pub returns : goal.returns
returns c =
    let number = c.args.number in
    let top = c.args.top in
    four-lines (λ i. digit number (top - i)) c.args.lines _
    (rw sub-zero (digit-switch number top c.leaving-upper.ensures c.leaving-lower.ensures))
    (digit-switch number (top - 1) c.leaving-next_upper.ensures c.leaving-next_lower.ensures)
    (digit-switch number (top - 2) c.leaving-above.ensures c.leaving-3.ensures)
    (digit-switch number (top - 3) c.leaving-beneath.ensures c.leaving-4.ensures)
    (digit-switch number (top - 4) c.leaving.ensures c.leaving-2.ensures)
