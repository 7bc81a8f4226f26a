use Rattle.std.proofs.Common.{ℕ, List, ◌∷◌, refl, sym, subst}
use Rattle.std.specs.Prelude.{IfOk}
use Rattle.dae_ir.specs.Classes.{VariableSet}
use Rattle.dae_regalloc.specs.Seen.{AreSeen, SeesPlace}
use Rattle.dae_regalloc.proofs.places.see_action.Goals as goal

pub see_with-requires-clause-absent : goal.see_with-requires-clause-absent
see_with-requires-clause-absent c = c.in-Some.ensures.some.0

pub returns-in-Some-clause-seen : goal.returns-in-Some-clause-seen
returns-in-Some-clause-seen c =
    subst (λ (here : VariableSet). IfOk c.see_with.result (λ (set : List ℕ). SeesPlace here c.args.spans.now c.see_with.new.spans)) c.in-Some.ensures.some.1 c.see_with.ensures.seen

pub returns-in_ok-see-in-None-clause-same : goal.returns-in_ok-see-in-None-clause-same
returns-in_ok-see-in-None-clause-same c = refl

pub returns-in_ok-see-in-None-clause-seen : goal.returns-in_ok-see-in-None-clause-seen
returns-in_ok-see-in-None-clause-seen c = record {
  seen = λ places sb. subst (λ (l : VariableSet). AreSeen (l ∷ places) c.see.new.self) (sym c.in-None.ensures.none) (c.in_ok-see-in-None.ensures.seen places sb);
  count = c.in_ok-see-in-None.ensures.count;
}
