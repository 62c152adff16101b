-- `lines::put_four` meets its contract: the part becomes the number's bytes.
use Rattle.std.proofs.Common.{◌≡◌, ◌+◌, ◌-◌, ◌∙◌, arith}
use Rattle.tables.proofs.Puts.{put-four}
use Rattle.tables.proofs.lines.put_four.Goals as goal

pub returns : goal.returns
returns c =
    let a = c.args in
    let long : a.from + 4 - a.from ≡ 4 = omega arith in
    let part = c.copy_from_slice.ensures.after ∙ c.to_le_bytes.ensures in
    rw (long, part) (put-four a.four a.from a.found.now (omega (arith, c.requires)))
