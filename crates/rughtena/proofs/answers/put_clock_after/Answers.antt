-- `answers::put_clock_after` meets its contract: after a refusal the numbers already are those of the clock.
use Rattle.std.proofs.Common.{sym}
use Rattle.machine.specs.Machine.{clock_after}
use Rattle.rughtena.proofs.Clocks.{clock-kept}
use Rattle.rughtena.proofs.answers.put_clock_after.Goals as goal

pub returns-in-Err : goal.returns-in-Err
unfolding clock_after
returns-in-Err c = rw c.in-Err.is (sym (clock-kept c.args.numbers.now))
