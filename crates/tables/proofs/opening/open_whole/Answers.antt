-- `opening::open_whole` meets its contract: each return stands at its place in the chain of tests. The last byte is filled by fewer than
-- eight bits.
use Rattle.std.proofs.Common.{ℕ, ◌≡◌, ◌+◌, ◌*◌, ◌-◌, List, length, refl, ap₂, ◌∙◌, arith}
use Rattle.laws.proofs.Choices.{if_lt-yes, if_lt-no, if_eq-yes, if_eq-no}
use Rattle.bits.specs.Bits.{field}
use Rattle.tables.specs.Terms.{cycles, file_length}
use Rattle.tables.specs.Format.{line_at, filling, length_test}
use Rattle.tables.specs.Shapes.{Size}
use Rattle.tables.specs.declared.Shape.TheInside.{Inside}
use Rattle.tables.proofs.Dims.{line_at-few, file_length-reaches, file_length-tight, file_length-header}
use Rattle.tables.proofs.Header.{bytes-few}
use Rattle.tables.proofs.Longest.{lines-longest, file_length-longest}
use Rattle.tables.proofs.Shapes.{Fields, shape_fields, shape-total, shape-end}
use Rattle.tables.proofs.opening.open_whole.Goals as goal

-- the bits behind the lines
filling-known : {s : Inside} {z : Size} (file : List ℕ) {known last : ℕ} → Fields s z
    → known ≡ file_length z.words z.width → length file ≡ known → last ≡ field file (8 * length file - (8 * known - (s.start + s.cycles * s.stride)))
    (8 * known - (s.start + s.cycles * s.stride))
    → last ≡ filling z.words z.width file
unfolding filling
filling-known {s} {z} file {known} F e whole told =
    let end = s.start + s.cycles * s.stride in
    let long : 8 * known - end ≡ 8 * file_length z.words z.width - line_at z.words z.width (cycles z.words z.width) =
    omega (arith, shape-end F) in
    let at : 8 * length file - (8 * known - end) ≡ line_at z.words z.width (cycles z.words z.width) =
    omega (arith, shape-end F, file_length-reaches z.words z.width) in
    told ∙ ap₂ (λ (at long : ℕ). field file at long) at long

pub returns-then-file-length : goal.returns-then-file-length
unfolding length_test
returns-then-file-length c = if_lt-yes _ _ _ _ _ (rw c.file_length-length.ensures at c.if-file-length.true) refl

pub returns-then-length-file : goal.returns-then-length-file
unfolding length_test
returns-then-length-file c =
    let long = c.file_length-length.ensures in
    if_lt-no _ _ _ _ _ (rw long at c.if-file-length.false) (if_lt-yes _ _ _ _ _ (rw long at c.if-length-file.true) refl)

pub overflow_mul-end : goal.overflow_mul-end
overflow_mul-end c =
    let F = shape_fields c.shape.invariant c.shape.view_is in
    omega (arith, lines-longest F.dims, shape-total F)

pub overflow_add-end : goal.overflow_add-end
overflow_add-end c =
    let shape = c.args.shape in
    let F = shape_fields c.shape.invariant c.shape.view_is in
    omega (arith, shape-end F, line_at-few F.dims (cycles shape.words shape.width) (omega arith))

pub overflow_mul-length : goal.overflow_mul-length
overflow_mul-length c =
    let F = shape_fields c.shape.invariant c.shape.view_is in
    omega (arith, c.file_length-length.ensures, file_length-longest F.dims)

pub overflow_sub-length : goal.overflow_sub-length
overflow_sub-length c =
    let shape = c.args.shape in
    let F = shape_fields c.shape.invariant c.shape.view_is in
    omega (arith, shape-end F, c.file_length-length.ensures, file_length-reaches shape.words shape.width)

pub last_bits-requires : goal.last_bits-requires
last_bits-requires c =
    let shape = c.args.shape in
    let F = shape_fields c.shape.invariant c.shape.view_is in
    let long = c.file_length-length.ensures in (
      omega (arith, long, file_length-header shape.words shape.width, bytes-few shape.words),
      omega (arith, shape-end F, long, file_length-tight shape.words shape.width),
    )

pub returns : goal.returns
unfolding length_test
returns c =
    let long = c.file_length-length.ensures in
    let F = shape_fields c.shape.invariant c.shape.view_is in
    let filled = filling-known c.args.file.now F long (omega arith) c.last_bits.ensures in
    if_lt-no _ _ _ _ _ (rw long at c.if-file-length.false) (if_lt-no _ _ _ _ _ (rw long at c.if-length-file.false)
    (if_eq-yes _ _ _ _ _ (rw filled at c.if-last_bits-ne0.false) refl))

pub returns-then-last_bits-ne0 : goal.returns-then-last_bits-ne0
unfolding length_test
returns-then-last_bits-ne0 c =
    let long = c.file_length-length.ensures in
    let F = shape_fields c.shape.invariant c.shape.view_is in
    let filled = filling-known c.args.file.now F long (omega arith) c.last_bits.ensures in
    if_lt-no _ _ _ _ _ (rw long at c.if-file-length.false) (if_lt-no _ _ _ _ _ (rw long at c.if-length-file.false)
    (if_eq-no _ _ _ _ _ (rw filled at c.if-last_bits-ne0.true) refl))
