use Rattle.places.specs.Places.{Dropped}
use Rattle.places.proofs.drop_places.Given as goal

abbrev pub invariant-loop-bank : goal.invariant-loop-bank
invariant-loop-bank l = Dropped l.bank l.per l.reads l.initial.places l.places
