-- `set` meets its contract: each return stands at its place in the chain of checks, and images that pass are set.
use Rattle.std.proofs.Common.{◌≡◌, ℕ, ◌≤◌, Result, Ok, List, ◌++◌, length, get_or, take, drop, refl, sym, ap, ap₂, ◌∙◌, length-take-le}
use Rattle.std.specs.Prelude.{⊤}
use Rattle.std.proofs.lemmas.Result.{err_from_is_err_and}
use Rattle.laws.specs.Tabulate.{tabulate, overwrite}
use Rattle.laws.proofs.Choices.{if_lt-yes, if_lt-no}
use Rattle.laws.proofs.Tabulates.{tabulate-get_or}
use Rattle.images.specs.Images.{check_of, order_of}
use Rattle.images.proofs.Checks.{unseen-zeros}
use Rattle.images.proofs.Exact.{check-permutes}
use Rattle.refusal.specs.declared.Refusal.{Refusal}
use Rattle.network.specs.Network.{bit_count, depth_of}
use Rattle.network.specs.Setting.{setting}
use Rattle.network.specs.inner.Sizes.{Sized}
use Rattle.network.proofs.Depths.{depth-width, depth-narrow}
use Rattle.network.proofs.Performs.{length-setting}
use Rattle.setting.specs.Calls.{SetOutcome, set_outcome, settled_of, written, setting_of}
use Rattle.setting.proofs.set.Goals as goal

-- what is left of the chain once all lengths are tested
told : {o : SetOutcome} (width : ℕ) (images values : List ℕ) → depth_of width ≤ 6 → width ≤ length images → bit_count (depth_of width) ≤ length values
    → o ≡ written (check_of images width) width images values → o ≡ setting_of width images values
unfolding setting_of
told width images values deep long room e = if_lt-no 6 _ _ _ _ deep (if_lt-no _ _ _ _ _ long (if_lt-no _ _ _ _ _ room e))

-- the values that are lent to `set_images` are as many as the network has bits
sized : (width count : ℕ) (values : List ℕ) → count ≡ bit_count (depth_of width) → depth_of width ≤ 6 → count ≤ length values
    → Sized width (length (take count values)) (depth_of width)
sized width count values e deep room = (depth-width width deep, length-take-le _ _ room ∙ e)

-- the B values that are written
values-known : (width : ℕ) (images : List ℕ) {bits : List ℕ} → bits ≡ setting (depth_of width) (order_of width images)
    → bits ≡ tabulate (bit_count (depth_of width)) (λ i. get_or (setting (depth_of width) (order_of width images)) i 0)
values-known width images e =
    let d : ℕ = depth_of width in
    let s : List ℕ = setting d (order_of width images) in
    e ∙ tabulate-get_or s 0 ∙ ap (λ (k : ℕ). tabulate k (λ i. get_or s i 0)) (length-setting d (order_of width images))

pub returns-then-depth-gt6 : goal.returns-then-depth-gt6
unfolding setting_of
returns-then-depth-gt6 c = if_lt-yes 6 (depth_of c.args.width) _ _ _ (rw c.depth_of-depth.ensures at c.if-depth-gt6.true) refl

pub returns-then-images-width : goal.returns-then-images-width
unfolding setting_of
returns-then-images-width c =
    if_lt-no 6 _ _ _ _ (rw c.depth_of-depth.ensures at c.if-depth-gt6.false) (if_lt-yes _ _ _ _ _ c.if-images-width.true refl)

pub returns-then-values-count : goal.returns-then-values-count
unfolding setting_of
returns-then-values-count c =
    let count = c.bit_count-count.ensures ∙ ap bit_count c.depth_of-depth.ensures in
    if_lt-no 6 _ _ _ _ (rw c.depth_of-depth.ensures at c.if-depth-gt6.false)
    (if_lt-no _ _ _ _ _ c.if-images-width.false (if_lt-yes _ _ _ _ _ (rw count at c.if-values-count.true) refl))

pub check-requires : goal.check-requires
check-requires c =
    (c.if-images-width.false, unseen-zeros _ _ refl (depth-narrow _ (rw c.depth_of-depth.ensures at c.if-depth-gt6.false)))

pub returns-in_err-check : goal.returns-in_err-check
unfolding written
returns-in_err-check c =
    let a = c.args in
    let deep = rw c.depth_of-depth.ensures at c.if-depth-gt6.false in
    let count = c.bit_count-count.ensures ∙ ap bit_count c.depth_of-depth.ensures in
    let (e, is, same) = err_from_is_err_and c.from_residual.result c.from_residual.ensures.1 in
    rw (is, same) (told a.width a.images.now a.values.now deep c.if-images-width.false (rw count at c.if-values-count.false)
    (ap (λ (z : Result ⊤ Refusal). written z a.width a.images.now a.values.now) c.in_err-check.ensures))

pub set_images-requires-clause-by_index : goal.set_images-requires-clause-by_index
set_images-requires-clause-by_index c =
    let deep = rw c.depth_of-depth.ensures at c.if-depth-gt6.false in
    let count = c.bit_count-count.ensures ∙ ap bit_count c.depth_of-depth.ensures in
    (depth_of c.args.width, sized c.args.width c.bit_count-count.result c.args.values.now count deep c.if-values-count.false)

pub set_images-requires-clause-width_le_most_width : goal.set_images-requires-clause-width_le_most_width
set_images-requires-clause-width_le_most_width c =
    (depth-narrow _ (rw c.depth_of-depth.ensures at c.if-depth-gt6.false), c.if-images-width.false)

pub set_images-requires-clause-permutes : goal.set_images-requires-clause-permutes
set_images-requires-clause-permutes c =
    check-permutes c.args.images.now c.args.width (sym c.check.ensures ∙ c.in_ok-check.was)

pub returns : goal.returns
unfolding written settled_of overwrite
returns c =
    let a = c.args in
    let deep = rw c.depth_of-depth.ensures at c.if-depth-gt6.false in
    let count = c.bit_count-count.ensures ∙ ap bit_count c.depth_of-depth.ensures in
    let set = c.set_images.ensures (depth_of a.width) (sized a.width c.bit_count-count.result a.values.now count deep c.if-values-count.false) in
    told a.width a.images.now a.values.now deep c.if-images-width.false (rw count at c.if-values-count.false) (
    ap₂ (λ (n : ℕ) (xs : List ℕ). set_outcome (Ok (record { count = n })) (xs ++ drop n a.values.now)) count
    (values-known a.width a.images.now set)
    ∙ ap (λ (z : Result ⊤ Refusal). written z a.width a.images.now a.values.now) (sym c.in_ok-check.was ∙ c.check.ensures))
