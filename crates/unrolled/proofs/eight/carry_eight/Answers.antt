-- `unrolled::eight::carry_eight` meets its contract: what stands behind the network is stored as it stands.
use Rattle.std.proofs.Common.{refl, arith}
use Rattle.limits.specs.Limits.{most_width}
use Rattle.laws.proofs.Tabulates.{Filling}
use Rattle.unrolled.specs.inner.ByValue.{eight_of}
use Rattle.unrolled.proofs.ByValue.{carried-eight, carried-stored, filling-four}
use Rattle.unrolled.proofs.eight.carry_eight.Goals as goal

pub returns : goal.returns
returns c =
    let none : Filling (eight_of c.carry_values-lines.result) most_width 0 c.args.standing.now =
    record { long = omega arith; filled = λ i l. absurd (omega arith) } in
    let four = filling-four none c.put_lines.ensures refl refl refl refl in
    let all = filling-four four c.put_lines-2.ensures refl refl refl refl in
    carried-stored c.put_lines-2.new.standing (carried-eight c.carry_values-lines.ensures) all.filled
