-- `ranking::first_port` meets its contract: each turn looks at the lowest place that is left, and takes it out.
use Rattle.std.proofs.Common.{arith, ap, ◌∙◌}
use Rattle.sets.specs.Set.{member}
use Rattle.matching.proofs.Scans.{skipped-more, skipped-end}
use Rattle.matching.proofs.ranking.first_port.Goals as goal

pub loop-left-preserved : goal.loop-left-preserved
loop-left-preserved c =
    let low = c.lowest.ensures in (
      skipped-more c.loop-left.invariant.0 low.1 low.2 (c.tail-left.ensures c.lowest.result low.1 low.2) (λ s.
          c.if-member_of-eq1.false (c.member_of.ensures ∙ ap (member c.args.ports) c.port_of_word-port.ensures.0 ∙ s)),
      omega (arith, c.if-looks-eq-LOOKS.false),
    )

pub returns : goal.returns
returns c = skipped-end c.loop-left.invariant.0 c.loop-left-test.false
