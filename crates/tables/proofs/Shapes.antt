-- The fields of a shape, by the n and w that contracts see of it.
use Prim.Native.Nat.{ℕ, ◌+◌, ◌*◌, ◌/◌, ◌^◌}
use mathlib.Core.Path.{◌≡◌, refl, sym, ap}
use native.Mathlib.Omega.{arith}
use Rattle.tables.specs.Header.{header_bytes, header_bits}
use Rattle.tables.specs.Terms.{Dims, cycles, address_bits, depth, switch_bits, line_bits, file_length}
use Rattle.tables.specs.Format.{line_at}
use Rattle.tables.specs.Shapes.{Size, Shaped, fields_of}
use Rattle.tables.specs.inner.Given.{shape_same}
use Rattle.tables.specs.declared.Shape.TheInside.{Inside}

-- the fields of a shape that is seen as z
pub record Fields (s : Inside) (z : Size) : Type 0 where
  pub dims : Dims z.words z.width
  pub words : s.words ≡ z.words
  pub width : s.width ≡ z.width
  pub cycles : s.cycles ≡ cycles z.words z.width
  pub addressing : s.addressing ≡ address_bits z.words z.width
  pub lines : s.lines ≡ 2 ^ depth z.width
  pub switches : s.switches ≡ switch_bits z.width
  pub start : s.start ≡ header_bits z.words
  pub stride : s.stride ≡ line_bits z.words z.width

module _ {s : Inside} {z : Size} (S : Shaped s) (seen : record { words = s.words; width = s.width } ≡ z) where
  pub shape_fields : Fields s z
  shape_fields = rw (← seen) (record {
    dims = S.dims;
    words = refl;
    width = refl;
    cycles = S.cycles;
    addressing = S.addressing;
    lines = S.lines;
    switches = S.switches;
    start = S.start;
    stride = S.stride;
  })

  -- all of them at once
  pub shape_known : s ≡ fields_of z.words z.width
  shape_known = rw (← seen) (sym (shape_same S))

  pub shape_dims : Dims z.words z.width
  shape_dims = shape_fields.dims

-- n and w that keep the limits have a shape
pub shape-own : {n w : ℕ} → Dims n w → Shaped (fields_of n w)
shape-own D = record {
  dims = D;
  cycles = refl;
  addressing = refl;
  lines = refl;
  switches = refl;
  start = refl;
  stride = refl;
}

module _ {s : Inside} {z : Size} (F : Fields s z) where
  -- where line t starts
  pub shape-line : (t : ℕ) → s.start + t * s.stride ≡ line_at z.words z.width t
  unfolding line_at
  shape-line t = rw (F.start, F.stride)

  -- the bits of all lines, and where the last one ends
  pub shape-total : s.cycles * s.stride ≡ cycles z.words z.width * line_bits z.words z.width
  shape-total = rw (F.cycles, F.stride)

  pub shape-end : s.start + s.cycles * s.stride ≡ line_at z.words z.width (cycles z.words z.width)
  unfolding line_at
  shape-end = rw (F.cycles, F.start, F.stride)

  -- the bytes of a set
  pub shape-length : s.start / 8 + (s.cycles * s.stride + 7) / 8 ≡ file_length z.words z.width
  unfolding file_length
  shape-length =
      rw (F.cycles, F.start, F.stride)
      (ap (λ (x : ℕ). x + (cycles z.words z.width * line_bits z.words z.width + 7) / 8)
      (let whole : header_bits z.words / 8 ≡ header_bytes z.words = omega arith in whole))
