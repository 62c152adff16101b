-- `settling::choose` meets its contract: where the seat is in the set, a port that is left aside has no lesser key than the seat, which is compared.
use Rattle.std.proofs.Common.{◌≡◌, ℕ, sym, ap, ◌∙◌, arith}
use native.Mathlib.Decide.{ℕ_discrete}
use Rattle.sets.specs.Set.{member, ◌∈◌, Minus}
use Rattle.sets.proofs.Members.{member-le, member-zero}
use Rattle.matching.proofs.settling.choose.Goals as goal

-- a member that is not in the other set is left
compared : {set other rest : ℕ} → Minus set other rest → (port : ℕ) → port ∈ set → (port ∈ other → ⊥) → port ∈ rest
compared {set} {other} D port inside out =
    let gone : member other port ≡ 0 = elim (ℕ_discrete (member other port) 1) [
      | yes e ↦ absurd (out e)
      | no ne ↦ omega (arith, member-le other port)
    ] in
    omega (arith, D.members port, inside, gone)

pub least_key-requires : goal.least_key-requires
least_key-requires c =
    let seat = c.args.seat.port in
    let here = compared c.minus.ensures seat (sym c.member_of.ensures ∙ c.if-member_of-eq1.true) c.requires.preferred.gone in
    (λ e. omega (arith, here, ap (λ (x : ℕ). member x seat) e, member-zero seat), omega (arith, c.args.graph.layout.few))

pub returns-then-member_of-eq1 : goal.returns-then-member_of-eq1
returns-then-member_of-eq1 c =
    let a = c.args in
    let r = c.least_key.ensures in
    let here = compared c.minus.ensures a.seat.port (sym c.member_of.ensures ∙ c.if-member_of-eq1.true) c.requires.preferred.gone in (
      r.0,
      omega (arith, c.minus.ensures.members c.least_key.result, r.1, member-le a.ports c.least_key.result),
      λ k h. elim (ℕ_discrete (member a.seat.unseated k) 1) [
        | yes u ↦ omega (arith, r.2 a.seat.port here, c.requires.preferred.least k h u)
        | no ne ↦ r.2 k (compared c.minus.ensures k h ne)
      ],
    )
