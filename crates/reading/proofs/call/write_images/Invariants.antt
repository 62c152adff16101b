-- `write_images` has written the first i images.
use Rattle.std.proofs.Common.{◌≡◌, get_or}
use Rattle.laws.specs.Tabulate.{overwrite}
use Rattle.reading.proofs.call.write_images.Given as goal

abbrev pub invariant-loop-i : goal.invariant-loop-i
invariant-loop-i l = l.images ≡ overwrite l.i (λ i. get_or l.places i 0) l.initial.images
