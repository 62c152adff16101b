-- `unrolled::sixteen::put_sixteen` meets its contract: each call fills the front by four lines more.
use Rattle.std.proofs.Common.{refl, arith}
use Rattle.limits.specs.Limits.{most_width}
use Rattle.laws.proofs.Tabulates.{Filling}
use Rattle.unrolled.specs.inner.ByValue.{sixteen_of}
use Rattle.unrolled.proofs.ByValue.{filling-four}
use Rattle.unrolled.proofs.sixteen.put_sixteen.Goals as goal

pub returns : goal.returns
returns c =
    let none : Filling (sixteen_of c.args.lines) most_width 0 c.args.standing.now =
    record { long = omega arith; filled = λ i l. absurd (omega arith) } in
    let four = filling-four none c.put_lines.ensures refl refl refl refl in
    let eight = filling-four four c.put_lines-2.ensures refl refl refl refl in
    let twelve = filling-four eight c.put_lines-3.ensures refl refl refl refl in
    (filling-four twelve c.put_lines-4.ensures refl refl refl refl).filled
