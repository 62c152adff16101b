-- `read`: the file has no form of a set, or the set is read.
use Rattle.std.proofs.Common.{sym, ap, ◌∙◌}
use Rattle.std.specs.Prelude.{Result}
use Rattle.std.proofs.lemmas.Result.{err_from_is_err_and}
use Rattle.refusal.specs.declared.Refusal.{Refusal}
use Rattle.reading.specs.Reading.{read_of_opened, read_of}
use Rattle.tables.specs.declared.Shape.{Shape}
use Rattle.reading.proofs.call.read.Goals as goal

pub returns-in_err-shape : goal.returns-in_err-shape
unfolding read_of read_of_opened
returns-in_err-shape c =
    let (e, is, same) = err_from_is_err_and c.from_residual.result c.from_residual.ensures.1 in
    rw (is, same)
    (ap (λ (o : Result Shape Refusal). read_of_opened o c.args.file.now c.args.images.now c.args.scratch.now) c.in_err-shape.ensures)

pub returns : goal.returns
unfolding read_of read_of_opened
returns c =
    c.read_set.ensures
    ∙ ap (λ (o : Result Shape Refusal). read_of_opened o c.args.file.now c.args.images.now c.args.scratch.now) (sym c.in_ok-shape.was ∙ c.«open».ensures)
