-- `generate`: where the tests pass, the first n images are lent and give the order for which a set is made.
use Rattle.std.proofs.Common.{sym, ◌∙◌, arith}
use Rattle.std.proofs.lemmas.Result.{err_from_is_err_and}
use lib.Seq.{length-take-le}
use Rattle.images.proofs.Orders.{order-cut}
use Rattle.request.proofs.Checking.{checks-passed, generable-dims, generable-permutes, scratch-enough}
use Rattle.generator.proofs.Ends.{generates-refused, generates-made}
use Rattle.generator.proofs.generating.generate.Goals as goal

pub returns-in_err-checks : goal.returns-in_err-checks
returns-in_err-checks c =
    let (e, is, same) = err_from_is_err_and c.from_residual.result c.from_residual.ensures.1 in
    rw (is, same) (generates-refused (sym c.in_err-checks.ensures))

pub slice_bounds-make-end : goal.slice_bounds-make-end
slice_bounds-make-end c = sym (length-take-le _ _ (checks-passed _ _ _ _ _ (sym c.checks.ensures ∙ c.in_ok-checks.was)).listed)

pub pad-requires : goal.pad-requires
pad-requires c =
    let L = (checks-passed _ _ _ _ _ (sym c.checks.ensures ∙ c.in_ok-checks.was)).limited in
    record { some = L.some; few = L.few; wide = omega (arith, L.wide); narrow = omega (arith, L.narrow) }

pub make-requires : goal.make-requires
make-requires c =
    let K = checks-passed _ _ _ _ _ (sym c.checks.ensures ∙ c.in_ok-checks.was) in
    rw (c.pad.ensures, order-cut _ _ K.listed)
    (record { dims = (generable-dims K, scratch-enough K, K.roomy); permutes = generable-permutes K })

pub returns : goal.returns
returns c =
    let told = sym c.checks.ensures ∙ c.in_ok-checks.was in
    let made = rw (c.pad.ensures, order-cut _ _ (checks-passed _ _ _ _ _ told).listed) at c.make.ensures in
    generates-made told made.0 made.1
