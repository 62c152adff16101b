-- `pass_eight` meets its contract: its 17 calls are the switches of the network in the order of their bits. They are one level, whose two inner
-- networks are networks of four lines in place.
use Rattle.laws.specs.Choice.{if_lt}
use Rattle.network.specs.Network.{bit_count}
use Rattle.passing.proofs.InPlace.{in_order, inner-apart, straight, column-none, column-more, level, four-lines, routed}
use Rattle.passing.proofs.routing.pass_eight.Goals as goal

pub returns : goal.returns
unfolding bit_count if_lt
returns c =
    routed (level
    (column-more (column-more (column-more (column-more (column-none in_order) c.pass_switch.ensures) c.pass_switch-2.ensures)
    c.pass_switch-3.ensures) c.pass_switch-4.ensures)
    (four-lines (inner-apart 0 in_order) c.pass_switch-5.ensures c.pass_switch-6.ensures c.pass_switch-7.ensures
    c.pass_switch-8.ensures c.pass_switch-9.ensures)
    (four-lines (inner-apart 1 in_order) c.pass_switch-10.ensures c.pass_switch-11.ensures c.pass_switch-12.ensures
    c.pass_switch-13.ensures c.pass_switch-14.ensures)
    (column-more (column-more (column-more (column-more (column-none in_order) c.pass_switch-15.ensures) c.pass_switch-16.ensures)
    c.pass_switch-17.ensures) straight))
