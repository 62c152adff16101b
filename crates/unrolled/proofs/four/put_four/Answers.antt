-- `unrolled::four::put_four` meets its contract: what stands behind the network is stored as it stands.
use Rattle.std.proofs.Common.{refl, arith}
use Rattle.limits.specs.Limits.{most_width}
use Rattle.laws.proofs.Tabulates.{Filling}
use Rattle.unrolled.specs.inner.ByValue.{line_of}
use Rattle.unrolled.proofs.ByValue.{carried-numbers, carried-stored, filling-four}
use Rattle.unrolled.proofs.four.put_four.Goals as goal

pub returns : goal.returns
returns c =
    let none : Filling (line_of c.carry_four.result) most_width 0 c.args.standing.now =
    record { long = omega arith; filled = λ i l. absurd (omega arith) } in
    let all = filling-four none c.put_lines.ensures refl refl refl refl in
    carried-stored c.put_lines.new.standing (carried-numbers c.carry_four.ensures) all.filled
