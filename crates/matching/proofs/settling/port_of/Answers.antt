-- `port_of` meets its contract: the bank's port is among those that are left to look at.
use Rattle.std.proofs.Common.{◌≡◌, ℕ, get_or, ap, sym, ◌∙◌, arith}
use Rattle.sets.specs.Set.{member, ◌∈◌}
use Rattle.sets.proofs.Members.{member-zero, without-only, without-kept}
use Rattle.matching.proofs.settling.port_of.Goals as goal

-- a set with a member is not empty
some : {set : ℕ} (port : ℕ) → port ∈ set → set ≡ 0 → ⊥
some {set} port h e = omega (arith, h, ap (λ (x : ℕ). member x port) e, member-zero port)

pub lowest-port-requires : goal.lowest-port-requires
lowest-port-requires c = let o = c.requires in some o.0 (c.loop-ports.invariant.1 o.0 o.1 o.2)

pub tail-rest-requires : goal.tail-rest-requires
tail-rest-requires c = let o = c.requires in some o.0 (c.loop-ports.invariant.1 o.0 o.1 o.2)

pub loop-ports-preserved : goal.loop-ports-preserved
loop-ports-preserved c =
    let l = c.lowest-port in
    let i = c.loop-ports.invariant in
    let cut = c.tail-rest.ensures l.result l.ensures.1 l.ensures.2 in (
      λ k h. i.0 k (without-only cut k h),
      λ k h e. without-kept cut k (i.1 k h e) (λ z. c.if-owner-port.false (ap (λ (x : ℕ). get_or c.args.owner.now x 0) (sym z) ∙ e)),
    )
