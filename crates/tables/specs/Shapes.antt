-- The shape of a set: what contracts see of one is its n and w, and the fields that the code reads follow from these.
use Rattle.std.specs.Prelude.{ℕ, ◌^◌, ◌≡◌}
use Rattle.tables.specs.Header.{header_bits}
use Rattle.tables.specs.Terms.{Dims, cycles, address_bits, depth, switch_bits, line_bits}
use Rattle.tables.specs.declared.Shape.TheInside.{Inside}

-- n and w of a set
pub record Size : Type 0 where
  pub words : ℕ
  pub width : ℕ

-- what a set of n words and width w is like
abbrev pub shape_of : ℕ → ℕ → Size
shape_of n w = record { words = n; width = w }

-- the fields of its shape
abbrev pub fields_of : ℕ → ℕ → Inside
fields_of n w = record {
  words = n;
  width = w;
  cycles = cycles n w;
  addressing = address_bits n w;
  lines = 2 ^ depth w;
  switches = switch_bits w;
  start = header_bits n;
  stride = line_bits n w;
}

-- the shape of a set: its n and w keep the limits, and the other numbers follow from them
pub record Shaped (s : Inside) : Type 0 where
  pub dims : Dims s.words s.width
  pub cycles : s.cycles ≡ cycles s.words s.width
  pub addressing : s.addressing ≡ address_bits s.words s.width
  pub lines : s.lines ≡ 2 ^ depth s.width
  pub switches : s.switches ≡ switch_bits s.width
  pub start : s.start ≡ header_bits s.words
  pub stride : s.stride ≡ line_bits s.words s.width
