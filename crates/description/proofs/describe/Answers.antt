-- `describe`: a file without the right form is told by its refusal, and any other is described as a set.
use Rattle.std.proofs.Common.{refl, sym, ap}
use Rattle.limits.specs.Limits.{text_room}
use Rattle.laws.proofs.Choices.{if_lt-yes}
use Rattle.text.proofs.Texts.{wrote-same}
use Rattle.description.specs.Description.{refusal_text, tell_of}
use Rattle.description.proofs.Texts.{number_short, unopened-read, tells}
use Rattle.description.proofs.describe.Goals as goal

pub returns-then-text-lt-TEXT_ROOM : goal.returns-then-text-lt-TEXT_ROOM
unfolding tell_of
returns-then-text-lt-TEXT_ROOM c = if_lt-yes _ text_room _ _ _ c.if-text-lt-TEXT_ROOM.true refl

pub put_refusal-requires : goal.put_refusal-requires
put_refusal-requires c = (rw c.number.ensures (number_short c.in-Err.refusal), c.if-text-lt-TEXT_ROOM.false)

pub returns-in-Err : goal.returns-in-Err
returns-in-Err c =
    tells _ _ c.if-text-lt-TEXT_ROOM.false (unopened-read _ _ (sym c.in-Err.ensures))
    (wrote-same (ap refusal_text c.number.ensures) c.put_refusal.ensures)

pub returns-in-Ok : goal.returns-in-Ok
returns-in-Ok c = tells _ _ c.if-text-lt-TEXT_ROOM.false refl c.describe_set.ensures
