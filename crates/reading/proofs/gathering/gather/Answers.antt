-- `gather`: a line is refused, which stops the scan there, or the scan goes on behind it, by the cursor that stands there.
use Rattle.std.proofs.Common.{ℕ, ◌+◌, ◌<◌, ◌≤◌, ◌≡◌, refl, ap, ap₂, ◌∙◌, add-one, arith}
use Rattle.std.proofs.lemmas.Result.{err_from_is_err_and}
use Rattle.laws.specs.Sum.{sum}
use Rattle.bits.specs.Reading.{onward}
use Rattle.bits.specs.declared.reader.Cursor.{Cursor}
use Rattle.tables.specs.Terms.{cycles, line_bits}
use Rattle.tables.specs.Format.{line_crossings}
use Rattle.tables.proofs.Dims.{cycles-positive, cycles-few}
use Rattle.tables.proofs.Crossings.{crossings-fit}
use Rattle.reading.specs.inner.Gathering.{behind_lines}
use Rattle.reading.proofs.Counts.{behind-stands, behind-none, behind_more, behind-room}
use Rattle.reading.proofs.Gathers.{gather_none, gathering-none, gathering-more, gathering-refused, gathering-all}
use Rattle.tables.proofs.Shapes.{shape_fields}
use Rattle.reading.proofs.gathering.gather.Goals as goal

-- the crossed switches of a line are added to those of the lines before it
counted-more : {t before here : ℕ} (crossings : ℕ → ℕ) → before ≡ sum t crossings → here ≡ crossings t → before + here ≡ sum (t + 1) crossings
unfolding sum
counted-more crossings e f = rw add-one (ap₂ ◌+◌ e f)

pub cursor_at-cursor-requires : goal.cursor_at-cursor-requires
cursor_at-cursor-requires c = cycles-positive (shape_fields c.shape.invariant c.shape.view_is).dims

pub loop-t-init : goal.loop-t-init
unfolding sum
loop-t-init c = record {
  gathering =
      let F = shape_fields c.shape.invariant c.shape.view_is in
      gathering-none (gather_none c.args.file.now F.dims c.requires.unmarked.0 c.requires.unmarked.1);
  behind = c.cursor_at-cursor.ensures ∙ behind-none c.args.shape.words c.args.shape.width;
  counted = refl;
}

pub gather_line-requires-clause-in_bounds : goal.gather_line-requires-clause-in_bounds
gather_line-requires-clause-in_bounds c =
    let F = shape_fields c.shape.invariant c.shape.view_is in
    let fits = behind-room F.dims c.loop-t.t (rw F.cycles at c.loop-t-test.true) in
    (rw c.loop-t.invariant.behind fits, c.long_enough-bytes.ensures.long)

pub gather_line-requires-clause-at_value : goal.gather_line-requires-clause-at_value
gather_line-requires-clause-at_value c =
    ap (λ (x : Cursor). x.at) c.loop-t.invariant.behind ∙ behind-stands _ _ c.loop-t.t

pub returns-in_err-line : goal.returns-in_err-line
returns-in_err-line c =
    let l = c.loop-t.invariant in
    let (e, is, same) = err_from_is_err_and c.from_residual.result c.from_residual.ensures.1 in
    rw (is, same) (gathering-refused l.gathering (rw (shape_fields c.shape.invariant c.shape.view_is).cycles at c.loop-t-test.true)
    (c.in_err-line.ensures c.args.file.now c.long_enough-bytes.ensures l.gathering.gathered))

pub overflow_add-crossed : goal.overflow_add-crossed
overflow_add-crossed c =
    let F = shape_fields c.shape.invariant c.shape.view_is in
    let l = c.loop-t.invariant in
    let told = c.in_ok-line.ensures c.args.file.now c.long_enough-bytes.ensures l.gathering.gathered in
    let left : c.loop-t.t < cycles c.args.shape.words c.args.shape.width = rw F.cycles at c.loop-t-test.true in
    record {
      fits = omega (
        arith,
        counted-more (line_crossings c.args.shape.words c.args.shape.width c.args.file.now) l.counted told.1,
        crossings-fit F.dims c.args.file.now (c.loop-t.t + 1),
        left,
        cycles-few F.dims,
      );
    }

pub loop-t-preserved : goal.loop-t-preserved
loop-t-preserved c =
    let n = c.args.shape.words in
    let w = c.args.shape.width in
    let l = c.loop-t.invariant in
    let told = c.in_ok-line.ensures c.args.file.now c.long_enough-bytes.ensures l.gathering.gathered in
    record {
      gathering = gathering-more l.gathering (rw (shape_fields c.shape.invariant c.shape.view_is).cycles at c.loop-t-test.true) told.2;
      behind = told.0 ∙ ap (λ (x : Cursor). onward x (line_bits n w)) l.behind ∙ behind_more n w c.loop-t.t;
      counted = counted-more (line_crossings n w c.args.file.now) l.counted told.1;
    }

pub returns : goal.returns
returns c =
    let n = c.args.shape.words in
    let w = c.args.shape.width in
    let l = c.loop-t.invariant in
    let over : cycles n w ≤ c.loop-t.t = rw (shape_fields c.shape.invariant c.shape.view_is).cycles at c.loop-t-test.false in
    let last : c.loop-t.t ≡ cycles n w = omega (arith, l.gathering.upto) in (
      record {
        behind = l.behind ∙ ap (behind_lines n w) last;
        counted = l.counted ∙ ap (λ (k : ℕ). sum k (line_crossings n w c.args.file.now)) last;
      },
      gathering-all l.gathering over,
    )
