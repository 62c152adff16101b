-- `read_by`: all lines passed, and what was gathered are the images.
use Rattle.std.proofs.Common.{ℕ, ◌≤◌, ◌≡◌, List, length, get_or, take, sym, ap₂, ◌∙◌, arith}
use Rattle.std.specs.Prelude.{Ok, Err}
use lib.Seq.{take_all, length-take-le, get_or-take}
use Rattle.laws.specs.Tabulate.{overwrite}
use Rattle.laws.proofs.Tabulates.{overwrite-ext}
use Rattle.tables.specs.Datapath.{image_of}
use Rattle.reading.specs.Reading.{read_outcome}
use Rattle.reading.specs.declared.Contents.{Contents}
use Rattle.reading.proofs.Gathers.{gather-images, gather-scan}
use Rattle.tables.proofs.Shapes.{shape_fields}
use Rattle.reading.proofs.call.read_by.Goals as goal

-- the places of a part are those of the list
copied : (n : ℕ) (xs before : List ℕ) → n ≤ length xs
    → overwrite (length (take n xs)) (λ i. get_or (take n xs) i 0) before ≡ overwrite n (λ i. get_or xs i 0) before
copied n xs before l =
    rw (length-take-le n xs l)
    (overwrite-ext n (λ i. get_or (take n xs) i 0) (λ i. get_or xs i 0) before (λ i m. get_or-take n xs i 0 m))

pub returns : goal.returns
returns c =
    let file = c.args.file.now in
    let images = c.args.images.now in
    let F = shape_fields c.shape.invariant c.shape.view_is in
    let n = c.args.shape.words in
    let told = rw (take_all (length file) file (omega arith)) at c.in_ok-pass.ensures in
    let made = rw F.words at c.write_images.ensures
    ∙ copied n c.gather.new.places images (omega (arith, c.gather.auto.places, c.requires.unmarked.0.long))
    ∙ overwrite-ext n _ (image_of n c.args.shape.width file) images (gather-images F.dims told.1) in
    ap₂ (λ (k : Contents) (xs : List ℕ). read_outcome (Ok k) xs) (c.contents_of.ensures.told file told.0) made
    ∙ sym (gather-scan told.1 (λ r. read_outcome (Err r) images) _)
