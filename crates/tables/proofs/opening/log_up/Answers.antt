-- `opening::log_up` meets its contract: the digits of x - 1 are those below its leading zeros.
use native.Mathlib.Omega.{arith}
use Rattle.tables.proofs.Opens.{log-up-digits}
use Rattle.tables.proofs.opening.log_up.Goals as goal

pub returns : goal.returns
returns c = log-up-digits c.args.x c.requires (omega (arith, c.ranges.x.fits))
