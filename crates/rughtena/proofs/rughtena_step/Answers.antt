-- `rughtena_step`: the core answers for the lent clock, the clock is moved on as the answer says, and the answer is put into integers.
use Rattle.rughtena.specs.Answers.{clock_of}
use Rattle.rughtena.proofs.Device.{exported-says}
use Rattle.rughtena.proofs.rughtena_step.Goals as goal

pub returns : goal.returns
unfolding clock_of
returns c = exported-says _ _ _ _ _ _ c.of_step.ensures c.put_clock_after.ensures c.step-stepped.ensures
