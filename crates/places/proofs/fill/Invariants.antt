use Rattle.places.specs.Places.{Filled}
use Rattle.places.proofs.fill.Given as goal

abbrev pub invariant-loop-bank : goal.invariant-loop-bank
invariant-loop-bank l = Filled l.bank l.layout.per l.c l.places
