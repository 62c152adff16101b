-- `set_bits` ends since each call halves the width.
use Rattle.std.proofs.Common.{length}
use Rattle.setting.proofs.switches.+set_bits.Given as goal

abbrev pub decreases-set_bits : goal.decreases-set_bits
decreases-set_bits l = length l.forward.now
