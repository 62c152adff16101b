-- `pad` meets its contract: it is the definition, and no part of it overflows.
use Rattle.std.proofs.Common.{ℕ, ◌*◌, ◌/◌, ◌^◌, ◌<◌, refl, arith}
use native.Mathlib.Nat.{div-add-mod'}
use Rattle.tables.specs.Terms.{padded}
use Rattle.request.proofs.pad.Goals as goal

-- the whole part of a division, multiplied again, is not above what was divided
whole_below : (x w limit : ℕ) → x < limit → x / w * w < limit
whole_below x w limit l = omega (arith, div-add-mod' x w)

pub overflow_mul-result : goal.overflow_mul-result
overflow_mul-result c = let fits = whole_below _ c.args.w (2 ^ 64) in record { fits = fits (omega (arith, c.requires.few, c.requires.narrow)) }

pub returns : goal.returns
unfolding padded
returns c = refl
