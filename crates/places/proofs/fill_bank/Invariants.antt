use Rattle.places.specs.Places.{Filling}
use Rattle.places.proofs.fill_bank.Given as goal

abbrev pub invariant-loop-i : goal.invariant-loop-i
invariant-loop-i l = Filling l.bank l.per l.c l.i l.initial.places l.places
