-- `unrolled::sixteen::carry_values` meets its contract: two columns are the input switches, and its calls are the two lines of each output switch.
use Rattle.std.proofs.Common.{◌-◌, ap, refl, arith}
use Rattle.bits.specs.Bits.{digit}
use Rattle.unrolled.specs.inner.ByValue.{eight_of}
use Rattle.unrolled.proofs.ByValue.{straight, eight-lines, carried-ext, digit-switch-at, column-switch}
use Rattle.unrolled.proofs.sixteen.carry_values.Goals as goal

pub returns : goal.returns
returns c =
    let number = c.args.number in
    let top = c.args.top in
    let input = column-switch c.column.ensures c.column-2.ensures in
    eight-lines (λ i. digit number (top - i)) (eight_of c.args.lines) _
    (input 0 (omega arith)) (input 1 (omega arith)) (input 2 (omega arith)) (input 3 (omega arith))
    (carried-ext _ c.carry_four-upper.ensures (λ i l. ap (digit number) (omega arith)))
    (carried-ext _ c.carry_four-lower.ensures (λ i l. ap (digit number) (omega arith)))
    (digit-switch-at number (top - 14) c.leaving.ensures c.leaving-2.ensures (omega arith) (omega arith))
    (digit-switch-at number (top - 15) c.leaving-3.ensures c.leaving-4.ensures (omega arith) (omega arith))
    (digit-switch-at number (top - 16) c.leaving-5.ensures c.leaving-6.ensures (omega arith) (omega arith)) (straight refl refl)
