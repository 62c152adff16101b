-- `begin` meets its contract: the fields that are put, one behind the other, are the header of the form that n decides.
use Rattle.std.proofs.Common.{ℕ, ◌≡◌, ◌≤◌, List, length, sym, ap, subst, ◌∙◌, arith, rules}
use Rattle.bits.specs.Bits.{Bytes}
use Rattle.bits.specs.inner.Writing.{Open, whole_of}
use Rattle.tables.specs.Header.{header_bits, header_bytes}
use Rattle.tables.specs.Terms.{file_length}
use Rattle.tables.proofs.Header.{bytes-long, bytes-short, bytes-few}
use Rattle.tables.proofs.Dims.{file_length-header}
use Rattle.tables.proofs.Shapes.{shape_fields}
use Rattle.packing.proofs.Putting.{short-put, long-put}
use Rattle.packing.proofs.begin.Goals as goal

-- the file has room for the header
room : (n w : ℕ) (file : List ℕ) → file_length n w ≤ length file → header_bytes n ≤ length file
room n w file l = omega (arith, file_length-header n w)

pub put_front-front-requires : goal.put_front-front-requires
put_front-front-requires c =
    let shape = c.args.shape in
    let F = shape_fields c.shape.invariant c.shape.view_is in (
      omega arith,
      omega (arith, F.dims.narrow),
      omega arith,
      omega (arith, room shape.words shape.width _ c.requires, bytes-few shape.words),
    )

pub write-requires-clause-fact : goal.write-requires-clause-fact
write-requires-clause-fact c =
    let F = shape_fields c.shape.invariant c.shape.view_is in
    let shape = c.args.shape in
    let fits = room shape.words shape.width _ c.requires in
    let many = rw F.words at c.if-shape-gt-SHORT_WORDS.true in
    (c.put_front-front.ensures.0, omega (arith, fits, bytes-long many, c.put_front-front.auto.file))

pub returns-then-shape-gt-SHORT_WORDS : goal.returns-then-shape-gt-SHORT_WORDS
returns-then-shape-gt-SHORT_WORDS c =
    let shape = c.args.shape in
    let F = shape_fields c.shape.invariant c.shape.view_is in
    let many = rw F.words at c.if-shape-gt-SHORT_WORDS.true in
    let end : 40 ≡ header_bits shape.words = omega (arith, bytes-long many) in
    let bytes : Bytes c.args.file.now = record { byte = λ i. search rules } in (
      subst (λ (x : ℕ). Open x c.write.result) end c.write.ensures.0,
      long-put shape.width many bytes (omega (arith, room shape.words shape.width _ c.requires, bytes-long many))
          (rw F.width at c.put_front-front.ensures.1)
          (ap (λ (x : ℕ). whole_of c.write.new.bytes x c.write.result) (sym end) ∙ rw F.words at c.write.ensures.1),
    )

pub put_front-requires : goal.put_front-requires
put_front-requires c =
    let shape = c.args.shape in
    let F = shape_fields c.shape.invariant c.shape.view_is in (
      omega (arith, c.if-shape-gt-SHORT_WORDS.false),
      omega (arith, F.dims.narrow),
      omega arith,
      omega (arith, room shape.words shape.width _ c.requires, bytes-few shape.words),
    )

pub returns : goal.returns
returns c =
    let shape = c.args.shape in
    let F = shape_fields c.shape.invariant c.shape.view_is in
    let few = rw F.words at c.if-shape-gt-SHORT_WORDS.false in
    let end : 24 ≡ header_bits shape.words = omega (arith, bytes-short few) in
    let bytes : Bytes c.args.file.now = record { byte = λ i. search rules } in (
      subst (λ (x : ℕ). Open x c.put_front.result) end c.put_front.ensures.0,
      short-put shape.width few bytes (omega (arith, room shape.words shape.width _ c.requires, bytes-short few))
          (ap (λ (x : ℕ). whole_of c.put_front.new.file x c.put_front.result) (sym end)
          ∙ rw (F.words, F.width) at c.put_front.ensures.1),
    )
