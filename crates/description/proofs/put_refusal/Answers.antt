-- `put_refusal`: three texts, one behind the other.
use Rattle.std.proofs.Common.{arith}
use Rattle.text.proofs.Texts.{wrote-append}
use Rattle.description.specs.Description.{refused_text, refusal_text}
use Rattle.description.proofs.Texts.{decimal-short, room-more}
use Rattle.description.proofs.put_refusal.Goals as goal

pub put_number-at-requires : goal.put_number-at-requires
put_number-at-requires c =
    let refused = room-more 0 8 (omega arith, c.requires.1) (omega arith) c.put_text-at.ensures in
    omega (arith, refused, decimal-short c.args.number (omega (arith, c.requires.0)))

pub put_text-requires : goal.put_text-requires
put_text-requires c =
    let refused = room-more 0 8 (omega arith, c.requires.1) (omega arith) c.put_text-at.ensures in
    omega (arith, room-more 8 5 refused (decimal-short c.args.number (omega (arith, c.requires.0))) c.put_number-at.ensures)

pub returns : goal.returns
unfolding refused_text refusal_text
returns c = wrote-append c.put_text-at.ensures (wrote-append c.put_number-at.ensures c.put_text.ensures)
