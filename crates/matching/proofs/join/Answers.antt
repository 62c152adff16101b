-- `join` meets its contract: one set gains one member.
use Rattle.std.proofs.Common.{arith}
use Rattle.matching.proofs.Graphs.{edge-joined}
use Rattle.matching.proofs.join.Goals as goal

pub returns : goal.returns
returns c = edge-joined c.args.edges.now c.args.bank c.args.port c.insert.result (omega arith) c.insert.ensures
