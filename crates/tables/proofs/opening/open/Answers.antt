-- `opening::open` meets its contract: the numbers that are tested are what the definition reads from the header, and each return is what the
-- tests of such a header come to.
use Rattle.std.proofs.Common.{ℕ, Bool, true, false, ◌≡◌, ◌/◌, ◌%◌, ◌^◌, ◌≤◌, List, length, refl, sym, ap, ◌∙◌, arith}
use native.Mathlib.Nat.{div-one}
use Rattle.laws.proofs.Choices.{if_lt-yes}
use Rattle.bits.specs.Bits.{field}
use Rattle.bits.proofs.Fields.{field-front, field-inside}
use Rattle.refusal.specs.declared.Refusal.{Refusal}
use Rattle.refusal.specs.declared.Refusal.TheVariants.{Header}
use Rattle.tables.specs.Terms.{limits_of, dims_test}
use Rattle.tables.specs.Header.{header_first, header_width, header_mark, short_bytes}
use Rattle.tables.specs.Format.{length_test, open_of}
use Rattle.tables.specs.inner.Opening.{needed_of, words_of}
use Rattle.std.specs.Prelude.{Result, Ok, Err, ⊤}
use Rattle.std.specs.Result.{is_err}
use Rattle.std.proofs.lemmas.Bool.{false≢true}
use Rattle.tables.proofs.LimitTests.{limits-kept, limited-dims, dims-passes}
use Rattle.tables.proofs.Opens.{dims-broken, dims-uneven, opened-cut, opened-said}
use Rattle.tables.proofs.opening.open.Goals as goal

-- ---- the header's numbers are the front, two inner parts and the end of one field

module _ (file : List ℕ) {header : ℕ} (taken : header ≡ field file 0 40) where
  first-read : header / 2 ^ 27 ≡ header_first file
  unfolding header_first
  first-read = ap (λ (x : ℕ). x / 2 ^ 27) taken ∙ field-front file 0 13 27

  width-read : header / 2 ^ 20 % 2 ^ 7 ≡ header_width file
  unfolding header_width
  width-read = ap (λ (x : ℕ). x / 2 ^ 20 % 2 ^ 7) taken ∙ sym (field-inside file 0 13 7 20)

  mark-read : header / 2 ^ 16 % 2 ^ 4 ≡ header_mark file
  unfolding header_mark
  mark-read = ap (λ (x : ℕ). x / 2 ^ 16 % 2 ^ 4) taken ∙ sym (field-inside file 0 20 4 16)

  words-read : header % 2 ^ 16 ≡ field file 24 16
  words-read = ap (λ (x : ℕ). x % 2 ^ 16) taken ∙ sym (rw div-one at (field-inside file 0 24 16 0))

  -- what is left of the tests, by the n that the header says
  said : {needed words : ℕ} → short_bytes ≤ length file → needed ≡ needed_of (header / 2 ^ 27) (header / 2 ^ 16 % 2 ^ 4) → needed ≤ length file
      → words ≡ words_of (header / 2 ^ 27) (header / 2 ^ 16 % 2 ^ 4) (header % 2 ^ 16)
      → let width = header / 2 ^ 20 % 2 ^ 7 in open_of file ≡ dims_test words width (Err Header) (length_test words width file)
  said {needed} {words} enough e reaches n =
      let width = header / 2 ^ 20 % 2 ^ 7 in
      opened-said _ first-read width-read mark-read enough words-read (rw e at reaches)
      ∙ ap (λ (m : ℕ). dims_test m width (Err Header) (length_test m width file)) (sym n)

-- ---- n and w that keep the limits, and that break one

kept : (n w : ℕ) {failed : Bool} (r : Result ⊤ Refusal) → r ≡ limits_of n w → failed ≡ is_err r → failed ≡ false → limits_of n w ≡ Ok tt
kept n w (Ok u) e f g = sym e
kept n w (Err r) e f g = absurd (false≢true (sym g ∙ f))

broken : (n w : ℕ) {failed : Bool} {X : Type 0} (refused next : X) (r : Result ⊤ Refusal) → r ≡ limits_of n w → failed ≡ is_err r → failed ≡ true
    → dims_test n w refused next ≡ refused
broken n w refused next (Ok u) e f g = absurd (false≢true (sym f ∙ g))
broken n w refused next (Err r) e f g = dims-broken n w refused next r (sym e)

-- ---- the goals

pub returns-then-file-lt-SHORT_BYTES : goal.returns-then-file-lt-SHORT_BYTES
unfolding open_of
returns-then-file-lt-SHORT_BYTES c = if_lt-yes _ _ _ _ _ c.if-file-lt-SHORT_BYTES.true refl

pub returns-then-file-needed_bytes : goal.returns-then-file-needed_bytes
returns-then-file-needed_bytes c =
    let file = c.args.file.now in
    let taken = c.header_of-header.ensures in
    sym (opened-cut _ (first-read file taken) (width-read file taken) (mark-read file taken) (omega (arith, c.if-file-lt-SHORT_BYTES.false))
    (rw c.needed_bytes.ensures at c.if-file-needed_bytes.true))

pub nonzero_rem-words : goal.nonzero_rem-words
nonzero_rem-words c = (limits-kept _ _ (kept _ _ _ c.test_limits.ensures c.is_err.ensures.value c.if-is_err.false)).wide

pub shape_of-requires : goal.shape_of-requires
shape_of-requires c =
    limited-dims (limits-kept _ _ (kept _ _ _ c.test_limits.ensures c.is_err.ensures.value c.if-is_err.false)) c.if-words-width-ne0.false

pub returns : goal.returns
returns c =
    let L = limits-kept _ _ (kept _ _ _ c.test_limits.ensures c.is_err.ensures.value c.if-is_err.false) in
    let D = limited-dims L c.if-words-width-ne0.false in
    let rest = said c.args.file.now c.header_of-header.ensures (omega (arith, c.if-file-lt-SHORT_BYTES.false)) c.needed_bytes.ensures
    c.if-file-needed_bytes.false c.words_of-words.ensures in
    c.open_whole.ensures ∙ rw c.shape_of.ensures (sym (rest ∙ dims-passes _ _ D))

pub returns-then-is_err : goal.returns-then-is_err
returns-then-is_err c =
    let rest = said c.args.file.now c.header_of-header.ensures (omega (arith, c.if-file-lt-SHORT_BYTES.false)) c.needed_bytes.ensures
    c.if-file-needed_bytes.false c.words_of-words.ensures in
    sym (rest ∙ broken _ _ _ _ _ c.test_limits.ensures c.is_err.ensures.value c.if-is_err.true)

pub returns-then-words-width-ne0 : goal.returns-then-words-width-ne0
returns-then-words-width-ne0 c =
    let rest = said c.args.file.now c.header_of-header.ensures (omega (arith, c.if-file-lt-SHORT_BYTES.false)) c.needed_bytes.ensures
    c.if-file-needed_bytes.false c.words_of-words.ensures in
    sym (rest ∙ dims-uneven _ _ _ _ (kept _ _ _ c.test_limits.ensures c.is_err.ensures.value c.if-is_err.false) c.if-words-width-ne0.true)
