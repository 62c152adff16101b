-- `lines::put_eight` meets its contract: the part becomes the number's bytes.
use Rattle.std.proofs.Common.{◌≡◌, ◌+◌, ◌-◌, ◌∙◌, arith}
use Rattle.tables.proofs.Puts.{put-eight}
use Rattle.tables.proofs.lines.put_eight.Goals as goal

pub returns : goal.returns
returns c =
    let a = c.args in
    let long : a.from + 8 - a.from ≡ 8 = omega arith in
    let part = c.copy_from_slice.ensures.after ∙ c.to_le_bytes.ensures in
    rw (long, part) (put-eight a.eight a.from a.found.now (omega (arith, c.requires)))
