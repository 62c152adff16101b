-- `set_images` meets its contract: the images and their inverse, as bytes, are what `set_bits` asks for.
use Rattle.std.proofs.Common.{◌∙◌}
use Rattle.images.proofs.Orders.{listed-permutes}
use Rattle.setting.proofs.Fronts.{length_front, front-permutes, front-inverses, front-setting}
use Rattle.setting.proofs.set_images.Goals as goal

pub narrow-forward-requires-clause-by_index : goal.narrow-forward-requires-clause-by_index
narrow-forward-requires-clause-by_index c = (listed-permutes _ c.args.images.now c.requires.permutes).below

pub invert-back-requires-clause-permutes : goal.invert-back-requires-clause-permutes
invert-back-requires-clause-permutes c =
    let r = c.requires in
    front-permutes _ _ _ r.width_le_most_width.0 (listed-permutes _ c.args.images.now r.permutes) c.narrow-forward.ensures

pub set_bits-requires-clause-inverses : goal.set_bits-requires-clause-inverses
set_bits-requires-clause-inverses c =
    let r = c.requires in
    let few = r.width_le_most_width.0 in
    front-inverses _ _ _ few (listed-permutes _ c.args.images.now r.permutes) c.narrow-forward.ensures _ c.invert-back.ensures

pub returns : goal.returns
returns c =
    let r = c.requires in
    let few = r.width_le_most_width.0 in
    let N = c.narrow-forward.ensures in λ d q.
    c.set_bits.ensures d (length_front _ _ few N.long ∙ q.0, q.1)
    ∙ front-setting _ _ _ few (listed-permutes _ c.args.images.now r.permutes) N d q.0
