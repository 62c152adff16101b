-- `store_four` meets its contract: the field of four bytes is their stores, one after the other, and so a copy of them.
use Rattle.std.proofs.Common.{◌≡◌, ℕ, suc, ◌+◌, ◌/◌, ◌%◌, ◌^◌, ◌<◌, ◌≤◌, List, length, set, refl, sym, ap, ◌∙◌, arith}
use Rattle.std.proofs.lemmas.List.{append_assoc, drop-drop}
use Rattle.std.proofs.lemmas.List.Edits.{sets, sets-eq}
use Rattle.std.specs.Int.{bytes_high_first}
use borrow.Rule.Slice.PartMut.{put_mid}
use Rattle.bits.proofs.Stores.{put_field-four}
use Rattle.bits.proofs.writer.store_four.Goals as goal

-- a part that was replaced
part-sets : (xs ys part : List ℕ) (f k : ℕ) → part ≡ ys → k ≡ length ys → f + length ys ≤ length xs → put_mid f k xs part ≡ sets xs f ys
part-sets xs ys part f k same e fits = rw (same, e) (rw (drop-drop, ← append_assoc) (sym (sets-eq ys xs f fits)))

-- the four bytes stored
sets-four : (xs : List ℕ) (f v : ℕ) → v < 2 ^ 32
    → sets xs f (bytes_high_first 4 v) ≡ set (set (set (set xs f (v / 2 ^ 24)) (f + 1) (v / 2 ^ 16 % 256)) (f + 2) (v / 2 ^ 8 % 256)) (f + 3) (v % 256)
sets-four xs f v small =
    let top : v / 2 ^ 24 % 256 ≡ v / 2 ^ 24 = omega arith in
    let second : f + 1 ≡ suc f = omega arith in
    let third : f + 2 ≡ suc (suc f) = omega arith in
    let fourth : f + 3 ≡ suc (suc (suc f)) = omega arith in
    rw (top, second, third, fourth) refl

pub returns : goal.returns
returns c =
    let xs = c.args.bytes.now in
    let f = c.args.first in
    let v = c.args.value in
    part-sets xs (bytes_high_first 4 v) c.copy_from_slice.new.self f _
    (c.copy_from_slice.ensures.after ∙ c.to_be_bytes.ensures ∙ ap (bytes_high_first 4) (omega (arith, c.requires.short))) (omega arith)
    (omega (arith, c.requires.room))
    ∙ sets-four xs f v c.requires.short ∙ put_field-four c.requires.bytes f v c.requires.room c.requires.short
