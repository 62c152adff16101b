-- `read_leavers`: a line is refused, or all lines passed and the gathered words are the inverse of the images that reading writes.
use Rattle.std.proofs.Common.{sym, ap, ◌∙◌}
use Rattle.std.specs.Prelude.{Ok}
use Rattle.std.proofs.lemmas.Result.{err_from_is_err_and}
use Rattle.laws.proofs.Choices.{zero-not-one}
use Rattle.laws.specs.Tabulate.{overwrite}
use Rattle.tables.specs.Datapath.{image_of}
use Rattle.reading.specs.Reading.{read_outcome}
use Rattle.reading.specs.declared.Contents.{Contents}
use Rattle.reading.proofs.Gathers.{stopped-reads, gathered-reads, leavers-inverse}
use Rattle.reading.proofs.gathering.read_leavers.Goals as goal

pub returns-in_err-pass : goal.returns-in_err-pass
returns-in_err-pass c =
    let (e, is, same) = err_from_is_err_and c.from_residual.result c.from_residual.ensures.1 in
    rw (is, same) (λ images scratch l m. (
      images,
      stopped-reads c.args.shape.words c.args.shape.width c.args.file.now images scratch l m c.in_err-pass.ensures,
      λ contents e. absurd (zero-not-one (cc e)),
    ))

pub returns : goal.returns
returns c = λ images scratch l m.
    let file = c.args.file.now in
    let n = c.args.shape.words in
    let w = c.args.shape.width in
    let all = c.in_ok-pass.ensures in
    let same = c.contents_of.ensures.told file all.0 in
    let after = overwrite n (image_of n w file) images in (
      after,
      ap (λ (x : Contents). read_outcome (Ok x) after) same ∙ gathered-reads n w file images scratch l m all.1,
      λ contents e. leavers-inverse c.contents_of.ensures.dims all.1 images contents (ap Ok (sym same) ∙ e),
    )
