-- `lines::spread` meets its contract: each turn puts the four digits that stand at the top of the row, and moves the others up. The count is so that
-- at most one is left.
use Rattle.std.proofs.Common.{◌≡◌, ◌+◌, ◌-◌, arith}
use Rattle.tables.proofs.Puts.{spreading-none, spreading-four, spread-last}
use Rattle.tables.proofs.lines.spread.Goals as goal

pub loop-i-init : goal.loop-i-init
loop-i-init c =
    let a = c.args in
    let none : a.from - a.from ≡ 0 = omega arith in
    (omega arith, rw none (spreading-none a.number a.count a.from a.found.now c.requires.0))

pub loop-i-preserved : goal.loop-i-preserved
loop-i-preserved c =
    let l = c.loop-i in
    let from = c.args.from in
    let more : l.i - from + 4 ≡ l.i + 4 - from = omega (arith, l.invariant.0) in
    let behind : l.i ≡ from + (l.i - from) = omega (arith, l.invariant.0) in (
      omega (arith, l.invariant.0),
      rw more at
          (spreading-four l.invariant.1 behind (omega (arith, l.invariant.0, c.loop-i-test.true)) c.four_bytes.ensures
          c.put_four.ensures),
    )

pub returns-then-i-end : goal.returns-then-i-end
returns-then-i-end c =
    let l = c.loop-i in
    let S = l.invariant.1 in
    let from = c.args.from in
    let behind : l.i ≡ from + (l.i - from) = omega (arith, l.invariant.0) in
    let one : l.i - from + 1 ≡ c.args.count = omega (arith, l.invariant.0, S.fours, c.requires.1, c.if-i-end.true, c.loop-i-test.false) in
    spread-last S behind one (omega (arith, S.put.long, c.requires, c.if-i-end.true))
