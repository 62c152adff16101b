-- `describe_by`: what reading answers decides what is written, and the words that it gives are those that leave.
use Rattle.std.proofs.Common.{ℕ, ◌*◌, ◌<◌, ◌≤◌, ◌≡◌, List, length, get_or, replicate, sym, ap, ◌∙◌, arith}
use Rattle.std.specs.Prelude.{Result, Ok}
use lib.ListN.{length-replicate}
use lib.Seq.{length-take-le, get_or-take}
use Rattle.limits.specs.Limits.{most_words}
use Rattle.laws.specs.Permutation.{inverse}
use Rattle.text.proofs.Texts.{wrote-same}
use Rattle.refusal.specs.declared.Refusal.{Refusal}
use Rattle.tables.specs.Format.{open_of, shape_of}
use Rattle.tables.specs.declared.Shape.{Shape}
use Rattle.tables.proofs.Form.{opened-shape}
use Rattle.reading.specs.Reading.{read_outcome, read_lines}
use Rattle.reading.specs.declared.Contents.{Contents}
use Rattle.reading.proofs.Exact.{read-shaped}
use Rattle.description.specs.Description.{refusal_text}
use Rattle.description.proofs.Texts.{number_short, ReadLeavers, SetRead, set-read, refusal-read, set_text-taken}
use Rattle.description.proofs.describe_by.Goals as goal

-- what reading tells, with the memory of the definition
told : (file words : List ℕ) {shape : Shape} {r : Result Contents Refusal} → open_of file ≡ Ok shape
    → ((images scratch : List ℕ) → shape.words ≤ length images → 2 * shape.words ≤ length scratch
    → (after : List ℕ) × (read_outcome r after ≡ read_lines shape.words shape.width file images scratch)
    × ((contents : Contents) → r ≡ Ok contents → (j : ℕ) → j < contents.words
    → get_or words j 0 ≡ inverse contents.words (λ i. get_or after i 0) j))
    → ReadLeavers file r words
told file words opened reads =
    let few = (opened-shape _ _ opened).few in
    let read = reads (replicate most_words 0) (replicate (2 * most_words) 0) (omega (arith, few, length-replicate {A = ℕ} most_words 0))
    (omega (arith, few, length-replicate {A = ℕ} (2 * most_words) 0)) in
    (read.0, read.1 ∙ sym (read-shaped _ _ _ _ opened), read.2)

pub put_refusal-requires : goal.put_refusal-requires
put_refusal-requires c = (rw c.number.ensures (number_short c.in-Err.refusal), c.requires.file_value.1)

-- the words that are read are as many as the shape says
enough : {file words : List ℕ} {shape : Shape} {contents : Contents} → open_of file ≡ Ok shape → SetRead file contents words
    → shape.words ≤ length words → contents.words ≤ length words
enough {shape = shape} {contents} opened A long =
    let same : shape ≡ shape_of contents.words contents.width = cc (sym opened ∙ A.opened) in
    rw same at long

pub slice_bounds-put_set-end : goal.slice_bounds-put_set-end
slice_bounds-put_set-end c =
    let A = set-read _ _ (told c.args.file.now c.read_leavers.new.leavers c.requires.file_value.0 c.read_leavers.ensures) c.in-Ok.is in
    let long = enough c.requires.file_value.0 A (omega (arith, c.requires.unmarked.1.long, c.read_leavers.auto.leavers)) in
    long

pub slice_bounds-put_set-end-in-Ok : goal.slice_bounds-put_set-end-in-Ok
slice_bounds-put_set-end-in-Ok c =
    let A = set-read _ _ (told c.args.file.now c.read_leavers.new.leavers c.requires.file_value.0 c.read_leavers.ensures) c.in-Ok.is in
    let long = enough c.requires.file_value.0 A (omega (arith, c.requires.unmarked.1.long, c.read_leavers.auto.leavers)) in
    sym (length-take-le _ _ long)

pub put_set-requires : goal.put_set-requires
put_set-requires c =
    let A = set-read _ _ (told c.args.file.now c.read_leavers.new.leavers c.requires.file_value.0 c.read_leavers.ensures) c.in-Ok.is in
    let long = enough c.requires.file_value.0 A (omega (arith, c.requires.unmarked.1.long, c.read_leavers.auto.leavers)) in
    let e = length-take-le c.in-Ok.contents.words c.read_leavers.new.leavers long in
    record {
      room = rw e (A.dims.few, A.dims.wide, A.dims.narrow, c.requires.file_value.1);
      by_index = rw e (λ j l. rw (get_or-take c.in-Ok.contents.words c.read_leavers.new.leavers j 0 l) (A.below j l));
    }

pub returns-in-Err : goal.returns-in-Err
returns-in-Err c =
    let text = ap refusal_text c.number.ensures in
    wrote-same (text ∙ sym (refusal-read _ _ (told c.args.file.now c.read_leavers.new.leavers c.requires.file_value.0 c.read_leavers.ensures) c.in-Err.is)) c.put_refusal.ensures

pub returns-in-Ok : goal.returns-in-Ok
returns-in-Ok c =
    let A = set-read _ _ (told c.args.file.now c.read_leavers.new.leavers c.requires.file_value.0 c.read_leavers.ensures) c.in-Ok.is in
    let long = enough c.requires.file_value.0 A (omega (arith, c.requires.unmarked.1.long, c.read_leavers.auto.leavers)) in
    wrote-same (set_text-taken _ _ _ long ∙ sym A.described) c.put_set.ensures
