-- `switches::set_four` meets its contract: the bits are those that the table has for the permutation's code.
use Rattle.std.proofs.Common.{◌∙◌}
use Rattle.setting.proofs.Fours.{coded-setting, four-stored}
use Rattle.setting.proofs.switches.set_four.Goals as goal

pub returns : goal.returns
returns c =
    let r = c.requires in
    c.put_five.ensures ∙ four-stored c.args.bits.now _ r.forward_len.1 ∙ c.setting_of_four.ensures
    ∙ coded-setting _ r.permutes _ c.code_of.ensures
