-- `pass_four` meets its contract: its five calls are the switches of the network in the order of their bits.
use Rattle.passing.proofs.InPlace.{in_order, four-lines, routed}
use Rattle.passing.proofs.routing.pass_four.Goals as goal

pub returns : goal.returns
returns c =
    routed (four-lines in_order c.pass_switch.ensures c.pass_switch-2.ensures c.pass_switch-3.ensures c.pass_switch-4.ensures c.pass_switch-5.ensures)
