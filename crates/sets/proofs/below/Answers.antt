-- `below` meets its contract: the digits of 2 ^ n - 1 are 1 below n and 0 from n on.
use Rattle.std.proofs.Common.{◌≡◌, arith}
use native.Mathlib.Nat.{one-mul}
use Rattle.sets.proofs.Members.{shifted, ones-collect}
use Rattle.sets.proofs.below.Goals as goal

pub returns-then-n-lt64 : goal.returns-then-n-lt64
returns-then-n-lt64 c = rw (shifted 1 c.args.n (omega arith) (omega arith), one-mul) (ones-collect c.args.n)

pub returns-else-n-lt64 : goal.returns-else-n-lt64
returns-else-n-lt64 c =
    let e : c.args.n ≡ 64 = omega arith in
    rw e (ones-collect 64)
