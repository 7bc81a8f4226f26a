use Rattle.std.proofs.Common.{◌≡◌, Some, Bool, cond, subst}
use Rattle.std.specs.Map.{lookup}
use Rattle.dae_unit.specs.declared.identities.Identity.{Identity}
use Rattle.dae_unit.proofs.Same.{equals_are_same}
use Rattle.dae_unit.proofs.numbers.put_number.Goals as goal

pub returns-in_ok-insert : goal.returns-in_ok-insert
returns-in_ok-insert c =
    let i = c.in-Some.identity in
    let old = c.args.numbers.now.entries in
    let new = c.insert.new.self.entries in (
      Some i,
      c.in-Some.ensures,
      subst (λ (eq : Identity → Identity → Bool). (q : Identity) → lookup (eq q) new ≡ cond (eq i q) (Some c.args.number) (lookup (eq q) old)) equals_are_same (λ q. c.in_ok-insert.ensures.updates.0 q),
    )
