-- `take_line` meets its contract: what is left is regular, so the search ends with the first matching, and its words are taken.
use Rattle.std.proofs.Common.{ℕ, arith}
use lib.ListN.{get_or-replicate}
use Rattle.limits.specs.Limits.{most_width}
use Rattle.matching.specs.Matching.{unowned}
use Rattle.generator.proofs.Taking.{due-foremost, due-takeable, due-took}
use Rattle.generator.proofs.scheduling.take_line.Goals as goal

pub first-requires-clause-by_index : goal.first-requires-clause-by_index
first-requires-clause-by_index c = λ k l.
    get_or-replicate {A = ℕ} most_width k unowned 0 (omega (arith, l, c.requires.by_index.4.dims.narrow))

pub take_words-requires : goal.take_words-requires
take_words-requires c =
    let U = c.requires.by_index.4 in
    due-takeable U (due-foremost U c.first.result c.first.ensures) c.first.ensures.long

pub returns : goal.returns
returns c = λ n p reads t U. due-took U (due-foremost U c.first.result c.first.ensures) c.take_words.ensures
