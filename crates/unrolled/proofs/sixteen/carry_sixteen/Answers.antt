-- `unrolled::sixteen::carry_sixteen` meets its contract: its columns are the input switches, where each line enters with its own number, and the output
-- switches but the last.
use Rattle.std.proofs.Common.{◌-◌, ap, arith}
use Rattle.bits.specs.Bits.{digit}
use Rattle.unrolled.proofs.ByValue.{straight, sixteen-lines, carried-ext, column-switch}
use Rattle.unrolled.proofs.sixteen.carry_sixteen.Goals as goal

pub returns : goal.returns
returns c =
    let number = c.args.number in
    let first = c.last_column.ensures in
    let second = c.last_column-2.ensures in
    let input = column-switch c.column.ensures c.column-3.ensures in
    let input' = column-switch c.column-2.ensures c.column-4.ensures in
    let output = column-switch c.column-5.ensures c.column-6.ensures in
    let output' = column-switch first.0 second.0 in
    rw (c.beside.ensures, c.beside-2.ensures)
    (sixteen-lines (λ i. digit number (48 - i)) (λ x. x) _ _ _ c.carry_values-upper.result c.carry_values-lower.result
    (input 0 (omega arith)) (input 1 (omega arith)) (input 2 (omega arith)) (input 3 (omega arith))
    (input' 0 (omega arith)) (input' 1 (omega arith)) (input' 2 (omega arith)) (input' 3 (omega arith))
    (carried-ext _ c.carry_values-upper.ensures (λ i l. ap (digit number) (omega arith)))
    (carried-ext _ c.carry_values-lower.ensures (λ i l. ap (digit number) (omega arith)))
    (output 0 (omega arith)) (output 1 (omega arith)) (output 2 (omega arith)) (output 3 (omega arith))
    (output' 0 (omega arith)) (output' 1 (omega arith)) (output' 2 (omega arith)) (straight first.1 second.1))
