-- The replies to a step, and to turns.
use Rattle.std.proofs.Common.{◌≡◌, ◌<◌, ◌≤◌, false, List, ℕ, refl, ap, sym, ◌∙◌, subst}
use Rattle.std.specs.Prelude.{Option, Some, None, codes, is_some}
use Rattle.dae_machine.specs.declared.Pick.{Pick}
use Rattle.dae_machine.specs.Held.{HeldMachine}
use Rattle.dae_machine.specs.Machine.{State, step}
use Rattle.dae_trace.specs.Lines.{line}
use Rattle.dae_debug.specs.Breaks.{HeldBreaks}
use Rattle.dae_debug.specs.Sessions.{GoesTo, HeldSession, StepsTo, Went, goes, most_steps, no_step_left, no_turn_left, session, spent_text, steps, steps_not}
use Rattle.dae_debug.specs.Texts.{taken_text}

none_is : (o : Option State) → is_some o ≡ false → o ≡ None
none_is None e = refl
none_is (Some t) e = absurd (cc)

module _ (s : HeldSession) (m : HeldMachine) (b : HeldBreaks) (pick : Pick) (text : List ℕ) (is : session m b ≡ s) where
  pub step_spent : most_steps ≤ m.state.steps → text ≡ spent_text → StepsTo s pick text s
  step_spent most e = subst (λ (z : HeldSession). StepsTo z pick text z) is (subst (λ (t : List ℕ). StepsTo (session m b) pick t (session m b)) (sym e) (no_step_left most))

  pub step_made : (n : HeldMachine) (piece : List ℕ) → m.state.steps < most_steps → n.setup ≡ m.setup → step m.setup m.state pick ≡ Some (record n.state { printed = piece })
      → text ≡ line m.state pick → StepsTo s pick text (session n b)
  step_made n piece few setup to e =
      subst (λ (z : HeldSession). StepsTo z pick text (session n b)) is
      (subst (λ (t : List ℕ). StepsTo (session m b) pick t (session n b)) (sym e) (steps few (record { setup = setup; state = to })))

  pub step_not : m.state.steps < most_steps → is_some (step m.setup m.state pick) ≡ false → text ≡ codes "not enabled\n" → StepsTo s pick text s
  step_not few none e =
      subst (λ (z : HeldSession). StepsTo z pick text z) is
      (subst (λ (t : List ℕ). StepsTo (session m b) pick t (session m b)) (sym e) (steps_not few (none_is (step m.setup m.state pick) none)))

module _ (s : HeldSession) (m : HeldMachine) (b : HeldBreaks) (turns : ℕ) (text : List ℕ) (is : session m b ≡ s) where
  pub go_spent : most_steps ≤ m.state.steps → text ≡ spent_text → GoesTo s turns text s
  go_spent most e = subst (λ (z : HeldSession). GoesTo z turns text z) is (subst (λ (t : List ℕ). GoesTo (session m b) turns t (session m b)) (sym e) (no_turn_left most))

  pub go_made : (n : HeldMachine) (taken : ℕ) → m.state.steps < most_steps → Went b turns m n → taken ≡ n.state.steps → text ≡ taken_text taken → GoesTo s turns text (session n b)
  go_made n taken few went count e =
      subst (λ (z : HeldSession). GoesTo z turns text (session n b)) is
      (subst (λ (t : List ℕ). GoesTo (session m b) turns t (session n b)) (sym (e ∙ ap taken_text count)) (goes few went))
