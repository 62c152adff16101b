-- The fields of a shape are given back by its n and w.
use Rattle.std.specs.Prelude.{◌≡◌, refl}
use Rattle.tables.specs.Shapes.{Shaped, fields_of}
use Rattle.tables.specs.declared.Shape.TheInside.{Inside}

pub shape_same : {s : Inside} → Shaped s → fields_of s.words s.width ≡ s
shape_same S = rw (← S.cycles, ← S.addressing, ← S.lines, ← S.switches, ← S.start, ← S.stride) refl
