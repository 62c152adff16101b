-- `switches::set_eight` meets its contract: the lines of the lower half give the bits of the outer switches and what each half has to perform, and
-- `eight-setting` puts the setting together.
use Rattle.std.proofs.Common.{ℕ, List, ap, ◌∙◌, arith}
use Rattle.setting.specs.inner.Four.{put_five, put_outputs}
use Rattle.setting.proofs.Outers.{back_below}
use Rattle.setting.proofs.Fours.{coded-permutes}
use Rattle.setting.proofs.Eights.{inner-permutation, eight-setting}
use Rattle.setting.proofs.switches.set_eight.Goals as goal

pub inner_code-requires : goal.inner_code-requires
inner_code-requires c =
    let r = c.requires in
    (r.0, omega arith, inner-permutation _ _ r.2 r.0 _ c.lower_lines-low.ensures 0 (omega arith))

pub setting_of_four-upper-requires : goal.setting_of_four-upper-requires
setting_of_four-upper-requires c =
    let r = c.requires in
    coded-permutes _ (inner-permutation _ _ r.2 r.0 _ c.lower_lines-low.ensures 0 (omega arith)) _ c.inner_code.ensures

pub inner_code-requires-2 : goal.inner_code-requires-2
inner_code-requires-2 c =
    let r = c.requires in
    (r.0, omega arith, inner-permutation _ _ r.2 r.0 _ c.lower_lines-low.ensures 1 (omega arith))

pub setting_of_four-lower-requires : goal.setting_of_four-lower-requires
setting_of_four-lower-requires c =
    let r = c.requires in
    coded-permutes _ (inner-permutation _ _ r.2 r.0 _ c.lower_lines-low.ensures 1 (omega arith)) _ c.inner_code-2.ensures

pub put_outputs-requires : goal.put_outputs-requires
put_outputs-requires c =
    let r = c.requires in
    (omega arith, r.2.long ∙ r.0, λ y l. rw r.0 at (back_below _ _ r.2 y (rw r.0 l)))

pub returns : goal.returns
returns c =
    let r = c.requires in
    c.put_outputs.ensures
    ∙ ap (λ (z : List ℕ). put_outputs z c.lower_lines-low.result c.args.back.now)
    (c.put_five-2.ensures
    ∙ ap (λ (z : List ℕ). put_five z 9 c.setting_of_four-lower.result)
    (c.put_five.ensures ∙ ap (λ (z : List ℕ). put_five z 4 c.setting_of_four-upper.result) c.put_inputs.ensures))
    ∙ eight-setting _ _ r.2 r.0 _ c.lower_lines-low.ensures c.args.bits.now r.1 _ _ _ _
    c.inner_code.ensures c.setting_of_four-upper.ensures c.inner_code-2.ensures c.setting_of_four-lower.ensures
