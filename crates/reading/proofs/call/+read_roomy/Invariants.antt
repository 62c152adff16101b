-- `read_roomy` calls itself with the most room, and only where there is less.
use Rattle.std.proofs.Common.{◌-◌}
use Rattle.limits.specs.Limits.{most_words}
use Rattle.reading.proofs.call.+read_roomy.Given as goal

abbrev pub decreases-read_roomy : goal.decreases-read_roomy
decreases-read_roomy l = most_words - l.room
