-- `walk` ends since each call halves the width.
use Rattle.passing.proofs.following.+walk.Given as goal

abbrev pub decreases-walk : goal.decreases-walk
decreases-walk l = l.width
