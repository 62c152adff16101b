-- `cut` meets its contract: one set loses one member.
use Rattle.std.proofs.Common.{arith}
use Rattle.matching.proofs.Graphs.{edge-cut}
use Rattle.matching.proofs.cut.Goals as goal

pub returns : goal.returns
returns c = edge-cut c.args.edges.now c.args.bank c.args.port c.without.result (omega arith) c.without.ensures
