-- `checks` meets its contract: the limits are told first, then the padded n, and where they are kept the rest is asked.
use Rattle.std.proofs.Common.{refl, sym, ◌∙◌}
use Rattle.std.specs.Prelude.{Err}
use Rattle.std.proofs.lemmas.Result.{err_from_is_err_and}
use Rattle.limits.specs.Limits.{most_words}
use Rattle.laws.proofs.Choices.{if_lt-yes, if_lt-no}
use Rattle.tables.proofs.LimitTests.{limits-kept, limits-refused, limit-passes}
use Rattle.tables.proofs.Padded.{padded-above, padded-dims}
use Rattle.request.specs.Request.{checks_of}
use Rattle.request.proofs.checks.Goals as goal

pub returns-in_err-test_limits : goal.returns-in_err-test_limits
unfolding checks_of
returns-in_err-test_limits c =
    let (e, is, same) = err_from_is_err_and c.from_residual.result c.from_residual.ensures.1 in
    rw (is, same) (sym (limits-refused _ _ _ Err _ (sym c.test_limits.ensures ∙ c.in_err-test_limits.was)))

pub pad-words-requires : goal.pad-words-requires
pad-words-requires c = limits-kept _ _ (sym c.test_limits.ensures ∙ c.in_ok-test_limits.was)

pub returns-then-words-gt-MOST_WORDS : goal.returns-then-words-gt-MOST_WORDS
unfolding checks_of
returns-then-words-gt-MOST_WORDS c =
    let L = limits-kept _ _ (sym c.test_limits.ensures ∙ c.in_ok-test_limits.was) in
    let long = rw c.pad-words.ensures at c.if-words-gt-MOST_WORDS.true in
    sym (limit-passes Err _ L ∙ sym (if_lt-yes most_words _ _ _ _ long refl))

pub check_lent-requires : goal.check_lent-requires
check_lent-requires c =
    let L = limits-kept _ _ (sym c.test_limits.ensures ∙ c.in_ok-test_limits.was) in
    rw c.pad-words.ensures (padded-dims L (rw c.pad-words.ensures at c.if-words-gt-MOST_WORDS.false), padded-above _ L.wide)

pub returns : goal.returns
unfolding checks_of
returns c =
    let L = limits-kept _ _ (sym c.test_limits.ensures ∙ c.in_ok-test_limits.was) in
    let short = rw c.pad-words.ensures at c.if-words-gt-MOST_WORDS.false in
    c.check_lent.ensures
    ∙ rw c.pad-words.ensures (sym (limit-passes Err _ L ∙ sym (if_lt-no most_words _ _ _ _ short refl)))
