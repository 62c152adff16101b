-- `put_text` meets its contract: turn i writes character i.
use Rattle.std.proofs.Common.{ℕ, ◌+◌, ◌≡◌, take, subst, arith}
use lib.ListN.{length}
use lib.Seq.{take-length}
use Rattle.text.specs.inner.Writing.{Wrote}
use Rattle.text.proofs.Texts.{wrote-length, wrote_none, front-more, wrote-same}
use Rattle.text.proofs.put_text.Goals as goal

pub loop-i-init : goal.loop-i-init
loop-i-init c = let e : c.args.at + 0 ≡ c.args.at = omega arith in rw e (wrote_none _ _)

pub bounds-text-at : goal.bounds-text-at
bounds-text-at c = omega (arith, c.requires, c.loop-i-test.true, wrote-length c.loop-i.invariant)

pub loop-i-preserved : goal.loop-i-preserved
loop-i-preserved c = front-more _ _ c.loop-i-test.true c.loop-i.invariant

pub returns : goal.returns
returns c =
    let a = c.args in
    let xs = a.characters.now in
    let l = c.loop-i in
    let all : l.i ≡ length xs = omega arith in
    wrote-same (take-length xs) (subst (λ (k : ℕ). Wrote a.text.now a.at (take k xs) (a.at + k) l.text) all l.invariant)
