-- `check` meets its contract: a turn decides the scan at i or passes it on to i + 1.
use Rattle.std.proofs.Common.{arith}
use Rattle.images.proofs.Checks.{scanned-none, refused-large, refused-repeated, scanned-more, scanned-all}
use Rattle.images.proofs.check.Goals as goal

pub loop-i-init : goal.loop-i-init
loop-i-init c = scanned-none _ _ c.requires.1

pub returns-then-n-image : goal.returns-then-n-image
returns-then-n-image c = refused-large _ _ c.loop-i.invariant c.loop-i-test.true c.if-n-image.true

pub returns-then-before-eq1 : goal.returns-then-before-eq1
returns-then-before-eq1 c =
    refused-repeated _ _ c.loop-i.invariant c.loop-i-test.true c.if-n-image.false c.if-before-eq1.true

pub loop-i-preserved : goal.loop-i-preserved
loop-i-preserved c = scanned-more _ _ c.loop-i.invariant c.loop-i-test.true c.if-n-image.false c.if-before-eq1.false

pub returns : goal.returns
returns c = scanned-all _ _ c.loop-i.invariant (omega arith)
