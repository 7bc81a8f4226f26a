-- Statements are walked over one after the other.
use Rattle.std.proofs.Common.{◌≡◌, ℕ, ◌+◌, ◌<◌, ◌≤◌, List, [], ◌∷◌, ◌++◌, length, drop, get_or, refl, ap, sym, ◌∙◌}
use Rattle.std.specs.Prelude.{Vec}
use Rattle.std.specs.declared.alloc.Global.{Global}
use Rattle.dae_base.specs.declared.Place.{Place}
use Rattle.dae_ir.specs.Classes.{VariableSet}
use Rattle.dae_ir.specs.Form.{Form, form_of}
use Rattle.dae_ir.specs.Streams.{actions_of, onto, mark}
use Rattle.dae_ir.specs.declared.form.Function.{Function}
use Rattle.dae_ir.specs.declared.form.Test.{Test}
use Rattle.dae_ir.specs.declared.form.Statement.{Statement}
use Rattle.dae_ir.specs.declared.form.Statement.TheVariants as statement
use Rattle.dae_ir.specs.declared.stream.Branch.TheVariants.{Silent}
use Rattle.dae_ir.specs.declared.stream.Step.{Step}
use Rattle.dae_ir.specs.declared.stream.Step.TheVariants as step
use Rattle.dae_ir.proofs.Laws.{before_if, before_loop, onto_if, onto_loop, rest, rest_one, rest_end, all_before, before_end, form_before, onto_push}
use Rattle.dae_select_walks.specs.Facts.{Facts, facts_in_first, facts_in_second, facts_past_if, facts_at_turn, facts_behind_turn, facts_past_loop}
use Rattle.dae_elide.specs.Elided.{as_actions, elided}
use Rattle.dae_elide.specs.Forms.{IsElidedFunction, AreElidedFunctions}
use Rattle.dae_elide.specs.Walked.{IsLike, IsElided}

-- ---- steps like statements

pub if_like : (place : Place) (t : Test) (then_list else_list : Vec Statement Global) (first second : Vec Step Global) → actions_of first.items ≡ as_actions (form_of then_list.items) → actions_of second.items ≡ as_actions (form_of else_list.items)
    → IsLike (statement.If place t then_list else_list) (step.If (mark place 0) (Silent t) first second)
if_like place t then_list else_list first second e h k =
    ap as_actions (before_if place t then_list else_list k) ∙ sym (onto_if (mark place 0) (Silent t) first second (as_actions k) ∙ rw (e, h) refl)

pub loop_like : (place : Place) (body again : Vec Statement Global) (first second : Vec Step Global) → actions_of first.items ≡ as_actions (form_of body.items) → actions_of second.items ≡ as_actions (form_of again.items)
    → IsLike (statement.Loop place body again) (step.Loop (mark place 0) first second)
loop_like place body again first second e h k =
    ap as_actions (before_loop place body again k) ∙ sym (onto_loop (mark place 0) first second (as_actions k) ∙ rw (e, h) refl)

-- steps like the first i statements
abbrev pub AreLike : List Statement → ℕ → List Step → Type 0
AreLike ss i steps = onto steps (as_actions (form_of (drop i ss))) ≡ as_actions (form_of ss)

pub like_next : (ss : List Statement) (i : ℕ) (s : Statement) (s' : Step) (steps steps' : List Step) → i < length ss → s ≡ get_or ss i s → IsLike s s' → steps' ≡ steps ++ s' ∷ [] → AreLike ss i steps → AreLike ss (i + 1) steps'
like_next ss i s s' steps steps' lt is like longer so_far =
    ap (λ (xs : List Step). onto xs (as_actions (rest (i + 1) ss))) longer
    ∙ onto_push steps s' (as_actions (rest (i + 1) ss))
    ∙ ap (onto steps) (sym (ap as_actions (rest_one ss i s lt is) ∙ like (rest (i + 1) ss)))
    ∙ so_far

pub like_end : (ss : List Statement) (i : ℕ) (steps : List Step) → length ss ≤ i → AreLike ss i steps → actions_of steps ≡ as_actions (form_of ss)
like_end ss i steps le so_far = sym (ap (λ (c : Form). onto steps (as_actions c)) (rest_end ss i le)) ∙ so_far

-- ---- statements without their known checks

module _ (memory : ℕ) (chosen : VariableSet) (facts : Facts) where
  -- the lists of steps are like those of statements
  pub if_elided : (place : Place) (t : Test) (then_list else_list first second : Vec Statement Global) (p q : List Step) (in_first in_second behind : Facts)
      → actions_of p ≡ as_actions (form_of then_list.items) → actions_of q ≡ as_actions (form_of else_list.items)
      → in_first ≡ facts_in_first (Silent t) facts → in_second ≡ facts_in_second (Silent t) facts → behind ≡ facts_past_if (Silent t) (actions_of p) (actions_of q) facts
      → form_of first.items ≡ elided memory chosen in_first (form_of then_list.items) → form_of second.items ≡ elided memory chosen in_second (form_of else_list.items)
      → IsElided memory chosen facts (statement.If place t then_list else_list) (statement.If place t first second) behind
  if_elided place t then_list else_list first second p q in_first in_second behind e h one two past f g k =
      ap (elided memory chosen facts) (before_if place t then_list else_list k)
      ∙ sym (before_if place t first second (elided memory chosen behind k) ∙ rw (f, g, one, two, past, e, h) refl)

  pub loop_elided : (place : Place) (body again first second : Vec Statement Global) (p q : List Step) (at_turn at_step behind : Facts)
      → actions_of p ≡ as_actions (form_of body.items) → actions_of q ≡ as_actions (form_of again.items)
      → at_turn ≡ facts_at_turn memory (actions_of p) (actions_of q) facts → at_step ≡ facts_behind_turn (actions_of p) at_turn → behind ≡ facts_past_loop (actions_of p) (actions_of q) facts
      → form_of first.items ≡ elided memory chosen at_turn (form_of body.items) → form_of second.items ≡ elided memory chosen at_step (form_of again.items)
      → IsElided memory chosen facts (statement.Loop place body again) (statement.Loop place first second) behind
  loop_elided place body again first second p q at_turn at_step behind e h one two past f g k =
      ap (elided memory chosen facts) (before_loop place body again k)
      ∙ sym (before_loop place first second (elided memory chosen behind k) ∙ rw (f, g, two, one, past, e, h) refl)

  -- the first i statements, behind which this is known
  abbrev pub AreElided : List Statement → ℕ → Facts → List Statement → Type 0
  AreElided ss i known out = all_before out (elided memory chosen known (form_of (drop i ss))) ≡ elided memory chosen facts (form_of ss)

  pub elided_next : (ss : List Statement) (i : ℕ) (s s' : Statement) (known behind : Facts) (out out' : List Statement) → i < length ss → s ≡ get_or ss i s → IsElided memory chosen known s s' behind → out' ≡ out ++ s' ∷ []
      → AreElided ss i known out → AreElided ss (i + 1) behind out'
  elided_next ss i s s' known behind out out' lt is one longer so_far =
      ap (λ (xs : List Statement). all_before xs (elided memory chosen behind (rest (i + 1) ss))) longer
      ∙ before_end out s' (elided memory chosen behind (rest (i + 1) ss))
      ∙ ap (all_before out) (sym (ap (elided memory chosen known) (rest_one ss i s lt is) ∙ one (rest (i + 1) ss)))
      ∙ so_far

  pub elided_end : (ss : List Statement) (i : ℕ) (known : Facts) (out : List Statement) → length ss ≤ i → AreElided ss i known out → form_of out ≡ elided memory chosen facts (form_of ss)
  elided_end ss i known out le so_far = form_before out ∙ sym (ap (λ (c : Form). all_before out (elided memory chosen known c)) (rest_end ss i le)) ∙ so_far

-- ---- functions

pub elided_push : (memory : ℕ) (fs gs : List Function) (f g : Function) → AreElidedFunctions memory fs gs → IsElidedFunction memory f g → AreElidedFunctions memory (fs ++ f ∷ []) (gs ++ g ∷ [])
elided_push memory [] [] f g a r = (r, tt)
elided_push memory [] (y ∷ ys) f g a r = absurd a
elided_push memory (x ∷ xs) [] f g a r = absurd a
elided_push memory (x ∷ xs) (y ∷ ys) f g a r = (a.0, elided_push memory xs ys f g a.1 r)
