-- The switch bits of four lines, of eight and of sixteen.
use Rattle.std.specs.Prelude.{◌≡◌, refl}
use Rattle.network.specs.Network.{bit_count}

pub four-count : 5 ≡ bit_count 2
unfolding bit_count
four-count = refl

pub eight-count : 17 ≡ bit_count 3
unfolding bit_count
eight-count = refl

pub sixteen-count : 49 ≡ bit_count 4
unfolding bit_count
sixteen-count = refl
