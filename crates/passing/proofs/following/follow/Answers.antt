-- `follow` meets its contract: a line that passes the tests is followed through the first values, of which the ones are counted.
use Rattle.std.proofs.Common.{◌≡◌, refl, ℕ, ◌^◌, ◌≤◌, ◌<◌, List, length, get_or, take, sym, ap, ap₂, ◌∙◌, Result, Ok, Err, arith}
use lib.Seq.{length-take-le, get_or-take}
use Rattle.laws.proofs.Choices.{if_lt-yes, if_lt-no, if_le-yes, if_le-no}
use Rattle.laws.specs.Choice.{if_le}
use Rattle.laws.specs.Sum.{hits}
use Rattle.refusal.specs.declared.Refusal.{Refusal}
use Rattle.refusal.specs.declared.Refusal.TheVariants.{SwitchValue, OutOfRange}
use Rattle.passing.specs.declared.following.Passage.{Passage}
use Rattle.network.specs.Network.{bit_count, leaves, depth_of}
use Rattle.network.specs.inner.Sizes.{Sized}
use Rattle.network.proofs.Counts.{bit_count-few}
use Rattle.network.proofs.Crossings.{crossings-ext, ones-crossings}
use Rattle.network.proofs.Leaves.{leaves-ext}
use Rattle.network.proofs.Depths.{depth-width}
use Rattle.passing.specs.Calls.{first_bad, passage_of, follow_of}
use Rattle.passing.proofs.Values.{first_bad-front, first-all}
use Rattle.passing.proofs.following.follow.Goals as goal

-- the first values are as many as the network has bits
sized : (width d n : ℕ) (values : List ℕ) → d ≡ depth_of width → n ≡ bit_count d → d ≤ 6 → n ≤ length values → Sized width (length (take n values)) d
sized width d n values ed en deep room = (depth-width width (rw ed at deep) ∙ ap (λ (x : ℕ). 2 ^ x) (sym ed), length-take-le n values room ∙ en)

pub walk-leaves_on-requires-clause-by_index : goal.walk-leaves_on-requires-clause-by_index
walk-leaves_on-requires-clause-by_index c =
    (_, sized c.args.width _ _ c.args.values.now c.depth_of-depth.ensures c.bit_count-count.ensures c.if-depth-gt6.false c.if-values-count.false)

pub ones-requires-clause-count_in_bounds : goal.ones-requires-clause-count_in_bounds
ones-requires-clause-count_in_bounds c = (
  omega (arith, length-take-le c.bit_count-count.result c.args.values.now c.if-values-count.false),
  omega (arith, c.bit_count-count.ensures, bit_count-few _ c.if-depth-gt6.false),
)

pub ones-requires-clause-by_index : goal.ones-requires-clause-by_index
ones-requires-clause-by_index c =
    let bits = take c.bit_count-count.result c.args.values.now in
    let long = length-take-le c.bit_count-count.result c.args.values.now c.if-values-count.false in
    λ i l. first-all bits (length bits) 0 (omega (arith, c.in_default.ensures)) i (omega arith) (omega (arith, l, long))

-- the tests of the values: the one that is bad is told
told : (width line d n bad : ℕ) (values : List ℕ) → d ≡ depth_of width → n ≡ bit_count d → d ≤ 6 → n ≤ length values
    → bad ≡ first_bad values n 0 → bad < n → Err (SwitchValue bad) ≡ follow_of width values line
unfolding follow_of
told width line d n bad values ed en deep room e l =
    let count : n ≡ bit_count (depth_of width) = en ∙ ap bit_count ed in
    let first : bad ≡ first_bad values (bit_count (depth_of width)) 0 = rw count at e in
    if_lt-no 6 (depth_of width) _ _ _ (rw ed at deep)
    (if_lt-no (length values) (bit_count (depth_of width)) _ _ _ (rw count at room)
    (if_lt-yes (first_bad values (bit_count (depth_of width)) 0) (bit_count (depth_of width)) _ _ _ (omega (arith, first, count, l))
    (ap (λ (z : ℕ). Err (SwitchValue z)) first)))

-- and where none is, the line is tested
goes_on : (width line d n : ℕ) (values : List ℕ) (r : Result Passage Refusal) → d ≡ depth_of width → n ≡ bit_count d → d ≤ 6 → n ≤ length values
    → n ≤ first_bad values n 0 → r ≡ if_le width line (Err (OutOfRange line)) (Ok (passage_of width values line)) → r ≡ follow_of width values line
unfolding follow_of
goes_on width line d n values r ed en deep room good e =
    let count : n ≡ bit_count (depth_of width) = en ∙ ap bit_count ed in
    if_lt-no 6 (depth_of width) _ _ _ (rw ed at deep)
    (if_lt-no (length values) (bit_count (depth_of width)) _ _ _ (rw count at room)
    (if_lt-no (first_bad values (bit_count (depth_of width)) 0) (bit_count (depth_of width)) _ _ _ (rw count at good) e))

-- what the line that passes tells: the bits are the first n values
abbrev accepted : ℕ → ℕ → Result Passage Refusal
accepted on crossed = Ok (record { line = on; crossed = crossed })

passage : (width line d n on crossed : ℕ) (values bits : List ℕ) → d ≡ depth_of width → n ≡ bit_count d → d ≤ 6 → line < width
    → ((i : ℕ) → i < n → get_or bits i 0 ≡ get_or values i 0)
    → on ≡ leaves d (λ i. get_or bits i 0) line → crossed ≡ hits n (λ i. get_or bits i 0) 1
    → accepted on crossed ≡ Ok (passage_of width values line)
unfolding passage_of
passage width line d n on crossed values bits ed en deep inside same eo ec =
    let f : ℕ → ℕ = λ i. get_or bits i 0 in
    let g : ℕ → ℕ = λ i. get_or values i 0 in
    let count : n ≡ bit_count (depth_of width) = en ∙ ap bit_count ed in
    let wide = depth-width width (rw ed at deep) in
    let alike : (i : ℕ) → i < bit_count (depth_of width) → f i ≡ g i = λ i l. same i (omega (arith, l, count)) in
    ap₂ accepted
    (eo ∙ ap (λ (x : ℕ). leaves x f line) ed ∙ leaves-ext (depth_of width) f g alike line (omega (arith, wide, inside)))
    (ec ∙ ones-crossings (depth_of width) f count ∙ crossings-ext (depth_of width) f g alike)

-- what the scan of the first values says of the values
none-bad : (n : ℕ) (values : List ℕ) → n ≤ length values → length (take n values) ≤ first_bad (take n values) (length (take n values)) 0
    → n ≤ first_bad values n 0
none-bad n values room l = omega (arith, l, first_bad-front values n room, length-take-le n values room)

pub returns-in-Some : goal.returns-in-Some
returns-in-Some c =
    let values = c.args.values.now in
    let n = c.bit_count-count.result in
    told c.args.width c.args.line _ n c.in-Some.bad values c.depth_of-depth.ensures c.bit_count-count.ensures c.if-depth-gt6.false
    c.if-values-count.false (c.in-Some.ensures.0 ∙ first_bad-front values n c.if-values-count.false)
    (omega (arith, c.in-Some.ensures.1, length-take-le n values c.if-values-count.false))

pub returns-then-width-line : goal.returns-then-width-line
returns-then-width-line c =
    let values = c.args.values.now in
    let n = c.bit_count-count.result in
    goes_on c.args.width c.args.line _ n values _ c.depth_of-depth.ensures c.bit_count-count.ensures c.if-depth-gt6.false c.if-values-count.false
    (none-bad n values c.if-values-count.false c.in_default.ensures)
    (if_le-yes c.args.width c.args.line (Err (OutOfRange c.args.line)) _ _ c.if-width-line.true refl)

pub returns : goal.returns
returns c =
    let values = c.args.values.now in
    let d = c.depth_of-depth.result in
    let n = c.bit_count-count.result in
    let S = sized c.args.width d n values c.depth_of-depth.ensures c.bit_count-count.ensures c.if-depth-gt6.false c.if-values-count.false in
    goes_on c.args.width c.args.line d n values _ c.depth_of-depth.ensures c.bit_count-count.ensures c.if-depth-gt6.false c.if-values-count.false
    (none-bad n values c.if-values-count.false c.in_default.ensures) (if_le-no c.args.width c.args.line _ _ _ c.if-width-line.false
    (passage c.args.width c.args.line d n _ _ values (take n values) c.depth_of-depth.ensures c.bit_count-count.ensures c.if-depth-gt6.false
    c.if-width-line.false (λ i l. get_or-take n values i 0 l) (c.walk-leaves_on.ensures.by_index_2 d S) c.ones.ensures))
