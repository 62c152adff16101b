-- `put_number` meets its contract: `decimal-more` puts the last figure behind those of the rest.
use Rattle.std.proofs.Common.{◌≡◌, ℕ, ◌+◌, ◌/◌, ◌≤◌, [], ◌∷◌, ap, ◌∙◌, length, length-append, arith}
use Rattle.text.specs.Text.{figure, decimal}
use Rattle.text.proofs.Texts.{wrote-length, wrote_one, wrote-more}
use Rattle.text.proofs.Decimals.{decimal-one, decimal-more}
use Rattle.text.proofs.+put_number.Goals as goal

-- the characters of a number of more than one figure are those of the rest and one
more-long : (x : ℕ) → 10 ≤ x → length (decimal x) ≡ length (decimal (x / 10)) + 1
more-long x l = ap length (decimal-more x l) ∙ length-append (decimal (x / 10)) (figure x ∷ [])

pub bounds-text-at : goal.bounds-text-at
bounds-text-at t c = omega (arith, c.requires, ap length (decimal-one c.args.x c.if-x-lt10.true))

pub returns-then-x-lt10 : goal.returns-then-x-lt10
returns-then-x-lt10 t c = rw (decimal-one _ c.if-x-lt10.true) (wrote_one _ _ _)

pub put_number-last-requires : goal.put_number-last-requires
put_number-last-requires t c = (omega (arith, c.decreases), omega (arith, c.requires, more-long c.args.x c.if-x-lt10.false))

pub bounds-text-last : goal.bounds-text-last
bounds-text-last t c =
    omega (arith, c.requires, more-long c.args.x c.if-x-lt10.false, c.put_number-last.ensures.end, wrote-length c.put_number-last.ensures)

pub overflow_add-result-2 : goal.overflow_add-result-2
overflow_add-result-2 t c =
    omega (arith, c.requires, more-long c.args.x c.if-x-lt10.false, c.put_number-last.ensures.end, wrote-length c.put_number-last.ensures)

pub returns : goal.returns
returns t c = rw (decimal-more _ c.if-x-lt10.false) (wrote-more _ c.put_number-last.ensures)
