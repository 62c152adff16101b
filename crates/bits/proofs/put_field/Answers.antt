-- `put_field` meets its contract: to read the window, change its digits and store it is `put_field-window`.
use Rattle.std.proofs.Common.{◌∙◌, rules, arith}
use Rattle.bits.specs.Bits.{Bytes}
use Rattle.bits.proofs.Window.{put_field-window}
use Rattle.bits.proofs.put_field.Goals as goal

pub returns : goal.returns
returns c =
    let a = c.args in
    let p = c.requires in
    let bytes : Bytes a.bytes.now = search rules in
    c.put_window.ensures
    ∙ rw (c.with_digits.ensures.0, c.window_at-old.ensures.0)
    (put_field-window bytes a.at a.width a.value (omega arith) p.width_bound_2 p.value_bound)
