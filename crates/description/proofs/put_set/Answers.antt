-- `put_set`: six texts, one behind the other.
use Rattle.std.proofs.Common.{length, arith}
use Rattle.text.proofs.Texts.{wrote-append}
use Rattle.description.specs.Description.{words_text, width_text, set_text}
use Rattle.description.proofs.Texts.{decimal-short, room-more}
use Rattle.description.proofs.put_set.Goals as goal

pub put_number-at-requires : goal.put_number-at-requires
put_number-at-requires c =
    let R = c.requires.room in
    let words = room-more 0 6 (omega arith, R.3) (omega arith) c.put_text-at.ensures in
    omega (arith, words, decimal-short (length c.args.words.now) (omega (arith, R.0)))

pub put_text-at-requires-2 : goal.put_text-at-requires-2
put_text-at-requires-2 c =
    let R = c.requires.room in
    let words = room-more 0 6 (omega arith, R.3) (omega arith) c.put_text-at.ensures in
    omega (arith, room-more 6 5 words (decimal-short (length c.args.words.now) (omega (arith, R.0))) c.put_number-at.ensures)

pub put_number-at-requires-2 : goal.put_number-at-requires-2
put_number-at-requires-2 c =
    let R = c.requires.room in
    let words = room-more 0 6 (omega arith, R.3) (omega arith) c.put_text-at.ensures in
    let count = room-more 6 5 words (decimal-short (length c.args.words.now) (omega (arith, R.0))) c.put_number-at.ensures in
    omega (arith, room-more 11 7 count (omega arith) c.put_text-at-2.ensures, decimal-short c.args.w (omega (arith, R.2)))

pub put_text-at-requires-3 : goal.put_text-at-requires-3
put_text-at-requires-3 c =
    let R = c.requires.room in
    let words = room-more 0 6 (omega arith, R.3) (omega arith) c.put_text-at.ensures in
    let count = room-more 6 5 words (decimal-short (length c.args.words.now) (omega (arith, R.0))) c.put_number-at.ensures in
    let width = room-more 11 7 count (omega arith) c.put_text-at-2.ensures in
    omega (arith, room-more 18 5 width (decimal-short c.args.w (omega (arith, R.2))) c.put_number-at-2.ensures)

pub put_leavers-requires-clause-room : goal.put_leavers-requires-clause-room
put_leavers-requires-clause-room c =
    let R = c.requires.room in
    let words = room-more 0 6 (omega arith, R.3) (omega arith) c.put_text-at.ensures in
    let count = room-more 6 5 words (decimal-short (length c.args.words.now) (omega (arith, R.0))) c.put_number-at.ensures in
    let width = room-more 11 7 count (omega arith) c.put_text-at-2.ensures in
    let number = room-more 18 5 width (decimal-short c.args.w (omega (arith, R.2))) c.put_number-at-2.ensures in
    (R.0, R.1, omega (arith, room-more 23 1 number (omega arith) c.put_text-at-3.ensures, R.0))

pub returns : goal.returns
unfolding words_text width_text set_text
returns c =
    wrote-append c.put_text-at.ensures (wrote-append c.put_number-at.ensures (wrote-append c.put_text-at-2.ensures
    (wrote-append c.put_number-at-2.ensures (wrote-append c.put_text-at-3.ensures c.put_leavers.ensures))))
