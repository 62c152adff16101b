use Rattle.std.proofs.Common.{◌-◌}
use Rattle.limits.specs.Limits.{most_words}
use Rattle.request.proofs.+check_roomy.Given as goal

abbrev pub decreases-check_roomy : goal.decreases-check_roomy
decreases-check_roomy l = most_words - l.room
