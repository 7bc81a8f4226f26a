use Rattle.std.proofs.Common.{◌≡◌, ◌∙◌, Bool, true, cond, not, Some, subst}
use Rattle.std.specs.List.{list_any}
use Rattle.dae_unit.specs.declared.identities.Identity.{Identity}
use Rattle.dae_unit.proofs.Same.{equals_are_same, keys_stay}
use Rattle.dae_unit.proofs.givers.add_identity.Goals as goal

pub returns-in_ok-fresh-in-Some : goal.returns-in_ok-fresh-in-Some
returns-in_ok-fresh-in-Some c =
    let i = c.in-Some.identity in
    let old = c.args.seen.now.keys in
    let new = c.insert_full.new.self.keys in
    let done = c.in_ok-fresh-in-Some.ensures in
    let fresh = subst (λ (eq : Identity → Identity → Bool). c.in_ok-fresh-in-Some.fresh ≡ not (list_any (eq i) old)) equals_are_same done.added in (
      Some i,
      c.in-Some.ensures,
      record {
        among = subst (λ (eq : Identity → Identity → Bool). (q : Identity) → list_any (eq q) new ≡ cond (eq i q) true (list_any (eq q) old)) equals_are_same (λ q. done.updates.0 q);
        fresh = fresh;
        same = λ fails. done.keys ∙ keys_stay i old c.in_ok-fresh-in-Some.fresh done.added fails;
      },
    )
