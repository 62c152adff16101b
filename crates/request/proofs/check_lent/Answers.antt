-- `check_lent` meets its contract: each return stands at its place in the chain of tests.
use Rattle.std.proofs.Common.{ℕ, ◌+◌, ◌*◌, ◌≡◌, ◌≤◌, List, length, refl, ap, ◌∙◌, arith}
use Rattle.std.specs.Prelude.{Result, Err, ⊤}
use Rattle.laws.specs.Choice.{if_lt}
use Rattle.laws.proofs.Choices.{if_lt-yes, if_lt-no}
use Rattle.refusal.specs.declared.Refusal.{Refusal}
use Rattle.refusal.specs.declared.Refusal.TheVariants.{BufferShort}
use Rattle.images.specs.Images.{check_of}
use Rattle.tables.specs.Terms.{file_length}
use Rattle.tables.specs.declared.Shape.{Shape}
use Rattle.request.specs.Request.{lent_test, scratch_need}
use Rattle.request.proofs.check_lent.Goals as goal

-- what is left of the chain once the file's length is known
measured : (n words w room scratch : ℕ) {size : ℕ} (images : List ℕ) {r : Result ⊤ Refusal} → n ≤ length images → size ≡ file_length words w
    → r ≡ if_lt room size (Err BufferShort) (if_lt scratch (scratch_need words) (Err BufferShort) (check_of images n))
    → r ≡ lent_test n words w images room scratch
unfolding lent_test
measured n words w room scratch images listed e h = if_lt-no _ _ _ _ _ listed (rw e at h)

-- and once all that is lent is tested
tested : (n words w room scratch : ℕ) {size : ℕ} (images : List ℕ) {r : Result ⊤ Refusal} → n ≤ length images → size ≡ file_length words w
    → size ≤ room → scratch_need words ≤ scratch → r ≡ check_of images n → r ≡ lent_test n words w images room scratch
tested n words w room scratch images listed e roomy spacious h =
    measured n words w room scratch images listed e (if_lt-no _ _ _ _ _ roomy (if_lt-no _ _ _ _ _ spacious h))

needed : (words scratch : ℕ) → 2 * words + 256 ≤ scratch → scratch_need words ≤ scratch
unfolding scratch_need
needed words scratch l = l

pub returns-then-images-n : goal.returns-then-images-n
unfolding lent_test
returns-then-images-n c = if_lt-yes _ _ _ _ _ c.if-images-n.true refl

pub returns-then-room-file_length : goal.returns-then-room-file_length
returns-then-room-file_length c =
    let e = c.file_length.ensures ∙ ap (λ (z : Shape). file_length z.words z.width) c.shape_of.ensures in
    measured _ _ _ _ _ c.args.images.now c.if-images-n.false e (if_lt-yes _ _ _ _ _ c.if-room-file_length.true refl)

pub returns-then-scratch-words : goal.returns-then-scratch-words
unfolding scratch_need
returns-then-scratch-words c =
    let e = c.file_length.ensures ∙ ap (λ (z : Shape). file_length z.words z.width) c.shape_of.ensures in
    measured _ _ _ _ _ c.args.images.now c.if-images-n.false e
    (if_lt-no _ _ _ _ _ c.if-room-file_length.false (if_lt-yes _ _ _ _ _ (omega (arith, c.if-scratch-words.true)) refl))

pub returns-then-n-le-SHORT_WORDS : goal.returns-then-n-le-SHORT_WORDS
returns-then-n-le-SHORT_WORDS c =
    let e = c.file_length.ensures ∙ ap (λ (z : Shape). file_length z.words z.width) c.shape_of.ensures in
    tested _ _ _ _ _ c.args.images.now c.if-images-n.false e c.if-room-file_length.false (needed _ _ (omega arith)) c.check_sized.ensures

pub returns : goal.returns
returns c =
    let e = c.file_length.ensures ∙ ap (λ (z : Shape). file_length z.words z.width) c.shape_of.ensures in
    tested _ _ _ _ _ c.args.images.now c.if-images-n.false e c.if-room-file_length.false (needed _ _ (omega arith)) c.check_roomy.ensures
