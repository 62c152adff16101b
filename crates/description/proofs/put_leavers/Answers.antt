-- `put_leavers`: a turn writes one number and its separator behind the earlier ones.
use Rattle.std.proofs.Common.{ℕ, ◌+◌, ◌*◌, ◌<◌, ◌≤◌, ◌≡◌, List, length, get_or, refl, subst, arith}
use Rattle.limits.specs.Limits.{most_words}
use Rattle.text.specs.Text.{decimal}
use Rattle.text.specs.inner.Writing.{Wrote}
use Rattle.text.proofs.Texts.{wrote-length}
use Rattle.description.specs.Description.{leavers}
use Rattle.description.proofs.Texts.{decimal-short, Leaving, leaving-none, leaving-more}
use Rattle.description.proofs.put_leavers.Goals as goal

-- there is room for a number and its separator
room : {n w at j next x : ℕ} {word : ℕ → ℕ} {before after : List ℕ} → Leaving n w word before at j next after → j < n → n ≤ most_words
    → at + 6 * n ≤ length before → x < n → next + length (decimal x) + 1 ≤ length after
room {x = x} L l few long small = omega (arith, L.short, wrote-length L.wrote, decimal-short x (omega arith))

pub loop-j-init : goal.loop-j-init
loop-j-init c = leaving-none _ _ _ _ _

pub put_number-next-requires : goal.put_number-next-requires
put_number-next-requires c =
    let R = c.requires.room in
    omega (arith, room c.loop-j.invariant c.loop-j-test.true R.0 R.2 (c.requires.by_index c.loop-j.j c.loop-j-test.true))

pub bounds-text-next : goal.bounds-text-next
bounds-text-next c =
    let R = c.requires.room in
    let W = c.put_number-next.ensures in
    omega (arith, room c.loop-j.invariant c.loop-j-test.true R.0 R.2 (c.requires.by_index c.loop-j.j c.loop-j-test.true), W.end, wrote-length W)

pub overflow_add-next : goal.overflow_add-next
overflow_add-next c =
    let R = c.requires.room in
    let W = c.put_number-next.ensures in
    omega (
      arith,
      room c.loop-j.invariant c.loop-j-test.true R.0 R.2 (c.requires.by_index c.loop-j.j c.loop-j-test.true),
      W.end,
      wrote-length W,
      wrote-length c.loop-j.invariant.wrote,
    )

pub loop-j-preserved : goal.loop-j-preserved
loop-j-preserved c =
    leaving-more c.loop-j.invariant c.loop-j-test.true c.put_number-next.ensures
    (omega (arith, c.requires.by_index c.loop-j.j c.loop-j-test.true, c.requires.room.0)) refl c.separator_of.ensures

pub returns : goal.returns
returns c =
    let a = c.args in
    let l = c.loop-j in
    let all : l.j ≡ length a.words.now = omega (arith, l.invariant.upto) in
    subst (λ (k : ℕ). Wrote a.text.now a.at (leavers a.w (λ i. get_or a.words.now i 0) k) l.next l.text) all l.invariant.wrote
