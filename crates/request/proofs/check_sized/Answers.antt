-- `check_sized` meets its contract: an array of zeros has an unset mark for each image of the frame.
use Rattle.std.proofs.Common.{ℕ, sym, ap, arith}
use lib.ListN.{replicate, length-replicate}
use Rattle.images.proofs.Checks.{unseen-zeros}
use Rattle.request.proofs.check_sized.Goals as goal

pub check-requires : goal.check-requires
check-requires g c =
    let long = length-replicate {A = ℕ} g.row.N 0 in
    (c.requires.2, unseen-zeros c.args.n (replicate g.row.N 0) (ap (λ (k : ℕ). replicate k 0) (sym long)) (omega (arith, long)))
