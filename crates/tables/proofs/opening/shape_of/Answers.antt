-- `opening::shape_of` meets its contract: each part is worked out as `shape_of` says, and all are far from any overflow.
use Rattle.std.proofs.Common.{arith}
use Rattle.tables.specs.Terms.{depth}
use Rattle.tables.proofs.Dims.{depth-few}
use Rattle.tables.proofs.Header.{bytes-few}
use Rattle.tables.proofs.Opens.{parts-few, shape-made}
use Rattle.tables.proofs.opening.shape_of.Goals as goal

pub bit_count-switches-requires : goal.bit_count-switches-requires
unfolding depth
bit_count-switches-requires c = omega (arith, c.log_up-depth.ensures, depth-few c.requires)

pub overflow_mul-row : goal.overflow_mul-row
overflow_mul-row c =
    omega (arith, parts-few c.requires c.log_up-addressing.ensures c.log_up-depth.ensures c.bit_count-switches.ensures)

pub overflow_shl-result : goal.overflow_shl-result
unfolding depth
overflow_shl-result c = omega (arith, c.log_up-depth.ensures, depth-few c.requires)

pub overflow_mul-result : goal.overflow_mul-result
overflow_mul-result c = omega (arith, c.header_bytes-header.ensures, bytes-few c.args.words)

pub overflow_add-result : goal.overflow_add-result
overflow_add-result c =
    omega (arith, parts-few c.requires c.log_up-addressing.ensures c.log_up-depth.ensures c.bit_count-switches.ensures)

pub overflow_add-result-2 : goal.overflow_add-result-2
overflow_add-result-2 c =
    omega (arith, parts-few c.requires c.log_up-addressing.ensures c.log_up-depth.ensures c.bit_count-switches.ensures)

pub invariant_of-result : goal.invariant_of-result
invariant_of-result c =
    shape-made c.requires c.log_up-addressing.ensures c.log_up-depth.ensures c.bit_count-switches.ensures c.header_bytes-header.ensures
