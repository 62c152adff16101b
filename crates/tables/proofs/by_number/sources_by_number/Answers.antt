-- `by_number::sources_by_number` meets its contract: the digits of the field are the bits of the network, and the ones among them its crossed switches.
use Rattle.tables.proofs.ByNumber.{field-passes}
use Rattle.tables.proofs.by_number.sources_by_number.Goals as goal

pub returns : goal.returns
returns g c =
    let taken = rw c.BITS.ensures at c.next_field-taken.ensures in
    field-passes g.N.Unrolled.depth c.args.file.now c.args.cursor g.met.N.Unrolled.counted taken c.carry.array_long c.carry.ensures
