-- `put_front` meets its contract: three fields, one behind the other, from bit 0 on, where a writer holds nothing.
use Rattle.std.proofs.Common.{ℕ, List, ap, ◌∙◌}
use Rattle.bits.specs.Bits.{put_field}
use Rattle.bits.proofs.Stores.{whole-start}
use Rattle.packing.specs.Packing.{put_front}
use Rattle.packing.proofs.put_front.Goals as goal

pub returns : goal.returns
unfolding put_front
returns c =
    let a = c.args in
    let first = c.write-behind_first.ensures.1 ∙ ap (λ (z : List ℕ). put_field z 0 13 a.first) (whole-start a.file.now) in
    let second = c.write-behind_width.ensures.1 ∙ ap (λ (z : List ℕ). put_field z 13 7 a.width) first in
    (c.write.ensures.0, c.write.ensures.1 ∙ ap (λ (z : List ℕ). put_field z 20 4 a.mark) second)
