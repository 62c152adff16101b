-- `opening::last_bits` meets its contract: the last bits of the last byte are its remainder (`field-byte`).
use Prim.Native.Nat.{◌*◌, ◌-◌}
use mathlib.Core.Path.{sym}
use native.Mathlib.Omega.{arith}
use lib.ListN.{length}
use Rattle.bits.proofs.Digits.{one_shl}
use Rattle.bits.proofs.Fields.{field-byte}
use Rattle.tables.proofs.opening.last_bits.Goals as goal

pub returns : goal.returns
returns c =
    let s = c in
    let k = s.args.count in
    let long = length s.args.file.now in
    rw (one_shl 8 k (omega arith)) (sym (field-byte s.args.file.now (long - 1) (8 * long - k) k (omega arith) (omega arith)))
