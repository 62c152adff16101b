-- `give_out` meets its contract: the last output switch is one turn more, with a bit that counts as 0.
use Rattle.std.proofs.Common.{◌≡◌, ◌-◌, length, refl, arith}
use Rattle.passing.proofs.Routes.{joined-more, joined-last}
use Rattle.passing.proofs.routing.give_out.Goals as goal

pub loop-j-preserved : goal.loop-j-preserved
loop-j-preserved c = joined-more c.loop-j.invariant (omega (arith, c.requires.pairs)) refl c.leaving.ensures c.leaving-in-loop-j.ensures

pub returns : goal.returns
returns c =
    let all : c.loop-j.j ≡ length c.args.bits.now - c.args.from = omega arith in
    joined-last (rw all at c.loop-j.invariant) (omega (arith, c.requires.pairs)) (omega (arith, c.requires.behind)) (omega (arith, c.requires.pairs))
