-- `make`: the set is put for the words and the width of its shape, which are those that were given.
use Rattle.std.proofs.Common.{ℕ, ap, ◌∙◌, arith}
use Rattle.tables.specs.declared.Shape.{Shape}
use Rattle.tables.specs.Terms.{file_length}
use Rattle.generator.proofs.generating.make.Goals as goal

pub put_set-requires : goal.put_set-requires
put_set-requires c =
    rw c.shape_of-shape.ensures (record {
      permutes = c.requires.permutes;
      words_in_bounds = (omega (arith, c.chain.ensures.0.long, c.requires.dims.1), c.requires.dims.2);
      by_index = ((_, c.chain.ensures.0), c.chain.ensures.1);
    })

pub returns : goal.returns
returns c =
    let e = c.shape_of-shape.ensures in (
      ap (λ (k : ℕ). record { length = k }) (c.file_length-length.ensures ∙ ap (λ (z : Shape). file_length z.words z.width) e),
      record {
        made = rw e at c.put_set.ensures;
        scratch-long = c.chain.ensures.0.long;
        scratch-kept = c.chain.ensures.0.behind;
      },
    )
