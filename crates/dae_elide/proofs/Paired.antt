-- Statements and steps that are like them are walked along together.
use Rattle.std.proofs.Common.{◌≡◌, ℕ, zero, suc, ◌+◌, ◌<◌, List, [], ◌∷◌, length, drop, get_or, refl, ap, sym, ◌∙◌}
use Rattle.std.specs.Prelude.{Vec}
use Rattle.std.specs.declared.alloc.Global.{Global}
use Rattle.dae_base.specs.declared.Place.{Place}
use Rattle.dae_base.proofs.Laws.{drop_at}
use Rattle.dae_ir.specs.Code.{Done}
use Rattle.dae_ir.specs.Form.{Form, before, form_of}
use Rattle.dae_ir.specs.Streams.{Actions, actions_of, step_onto}
use Rattle.dae_ir.specs.declared.form.Test.{Test}
use Rattle.dae_ir.specs.declared.form.Statement.{Statement, Simple, If', Loop'}
use Rattle.dae_ir.specs.declared.form.Statement.TheVariants as statement
use Rattle.dae_ir.specs.declared.stream.Action.{Action}
use Rattle.dae_ir.specs.declared.stream.Branch.{Branch}
use Rattle.dae_ir.specs.declared.stream.Mark.{Mark}
use Rattle.dae_ir.specs.declared.stream.Step.{Step}
use Rattle.dae_ir.specs.declared.stream.Step.TheVariants as step
use Rattle.dae_ir.proofs.Laws.{before_if, before_loop, onto_if, onto_loop}
use Rattle.dae_elide.specs.LikeSteps.{first_list, second_list, code_after, BeginsAlike}
use Rattle.dae_elide.specs.Elided.{as_actions}

-- ---- the lists of a step

pub first_in_if : (s : Step) (m : Mark) (b : Branch) (p q : Vec Step Global) → s ≡ step.If m b p q → actions_of p.items ≡ first_list (step_onto s Done)
first_in_if s m b p q is = sym (ap (λ (z : Step). first_list (step_onto z Done)) is ∙ ap first_list (onto_if m b p q Done))

pub first_in_loop : (s : Step) (m : Mark) (p q : Vec Step Global) → s ≡ step.Loop m p q → actions_of p.items ≡ first_list (step_onto s Done)
first_in_loop s m p q is = sym (ap (λ (z : Step). first_list (step_onto z Done)) is ∙ ap first_list (onto_loop m p q Done))

pub first_in_act : (s : Step) (m : Mark) (a : Action) → s ≡ step.Act m a → Done ≡ first_list (step_onto s Done)
first_in_act s m a is = sym (ap (λ (z : Step). first_list (step_onto z Done)) is)

pub second_in_if : (s : Step) (m : Mark) (b : Branch) (p q : Vec Step Global) → s ≡ step.If m b p q → actions_of q.items ≡ second_list (step_onto s Done)
second_in_if s m b p q is = sym (ap (λ (z : Step). second_list (step_onto z Done)) is ∙ ap second_list (onto_if m b p q Done))

pub second_in_loop : (s : Step) (m : Mark) (p q : Vec Step Global) → s ≡ step.Loop m p q → actions_of q.items ≡ second_list (step_onto s Done)
second_in_loop s m p q is = sym (ap (λ (z : Step). second_list (step_onto z Done)) is ∙ ap second_list (onto_loop m p q Done))

pub second_in_act : (s : Step) (m : Mark) (a : Action) → s ≡ step.Act m a → Done ≡ second_list (step_onto s Done)
second_in_act s m a is = sym (ap (λ (z : Step). second_list (step_onto z Done)) is)

-- whatever comes behind it
first_stays : (s : Step) (k : Actions) → first_list (step_onto s Done) ≡ first_list (step_onto s k)
first_stays (step.Act m a) k = refl
first_stays (step.If' m b i p j q) k = refl
first_stays (step.Loop' m i p j q) k = refl

second_stays : (s : Step) (k : Actions) → second_list (step_onto s Done) ≡ second_list (step_onto s k)
second_stays (step.Act m a) k = refl
second_stays (step.If' m b i p j q) k = refl
second_stays (step.Loop' m i p j q) k = refl

-- ---- are like the lists of the statement

module _ (s : Statement) (s' : Step) (h : BeginsAlike s s') where
  pub first_like_if : (place : Place) (t : Test) (p q : Vec Statement Global) → s ≡ statement.If place t p q → first_list (step_onto s' Done) ≡ as_actions (form_of p.items)
  first_like_if place t p q is =
      first_stays s' h.actions ∙ ap first_list (h.alike ∙ ap (λ (x : Statement). as_actions (before x h.form)) is ∙ ap as_actions (before_if place t p q h.form))

  pub second_like_if : (place : Place) (t : Test) (p q : Vec Statement Global) → s ≡ statement.If place t p q → second_list (step_onto s' Done) ≡ as_actions (form_of q.items)
  second_like_if place t p q is =
      second_stays s' h.actions ∙ ap second_list (h.alike ∙ ap (λ (x : Statement). as_actions (before x h.form)) is ∙ ap as_actions (before_if place t p q h.form))

  pub first_like_loop : (place : Place) (p q : Vec Statement Global) → s ≡ statement.Loop place p q → first_list (step_onto s' Done) ≡ as_actions (form_of p.items)
  first_like_loop place p q is =
      first_stays s' h.actions ∙ ap first_list (h.alike ∙ ap (λ (x : Statement). as_actions (before x h.form)) is ∙ ap as_actions (before_loop place p q h.form))

  pub second_like_loop : (place : Place) (p q : Vec Statement Global) → s ≡ statement.Loop place p q → second_list (step_onto s' Done) ≡ as_actions (form_of q.items)
  second_like_loop place p q is =
      second_stays s' h.actions ∙ ap second_list (h.alike ∙ ap (λ (x : Statement). as_actions (before x h.form)) is ∙ ap as_actions (before_loop place p q h.form))

-- ---- lists of statements and of steps

rest_of_step : (s : Step) (k : Actions) → code_after (step_onto s k) ≡ k
rest_of_step (step.Act m a) k = refl
rest_of_step (step.If' m b i p j q) k = refl
rest_of_step (step.Loop' m i p j q) k = refl

rest_of_statement : (s : Statement) (k : Form) → code_after (as_actions (before s k)) ≡ as_actions k
rest_of_statement (Simple place item) k = refl
rest_of_statement (If' place t i p j q) k = refl
rest_of_statement (Loop' place i p j q) k = refl

step_not_done : (s : Step) (k : Actions) → step_onto s k ≡ Done → ⊥
step_not_done (step.Act m a) k e = absurd cc
step_not_done (step.If' m b i p j q) k e = absurd cc
step_not_done (step.Loop' m i p j q) k e = absurd cc

statement_not_done : (s : Statement) (k : Form) → Done ≡ as_actions (before s k) → ⊥
statement_not_done (Simple place item) k e = absurd cc
statement_not_done (If' place t i p j q) k e = absurd cc
statement_not_done (Loop' place i p j q) k e = absurd cc

rests_alike : (s : Statement) (ss : List Statement) (s' : Step) (steps : List Step) → actions_of (s' ∷ steps) ≡ as_actions (form_of (s ∷ ss)) → actions_of steps ≡ as_actions (form_of ss)
rests_alike s ss s' steps e =
    sym (rest_of_step s' (actions_of steps)) ∙ ap code_after e ∙ rest_of_statement s (form_of ss)

pub as_long : (ss : List Statement) (steps : List Step) → actions_of steps ≡ as_actions (form_of ss) → length steps ≡ length ss
as_long [] [] e = refl
as_long [] (s' ∷ steps) e = absurd (step_not_done s' (actions_of steps) e)
as_long (s ∷ ss) [] e = absurd (statement_not_done s (form_of ss) e)
as_long (s ∷ ss) (s' ∷ steps) e = ap suc (as_long ss steps (rests_alike s ss s' steps e))

alike_from : (ss : List Statement) (steps : List Step) (i : ℕ) → actions_of steps ≡ as_actions (form_of ss) → actions_of (drop i steps) ≡ as_actions (form_of (drop i ss))
alike_from ss steps zero e = e
alike_from [] [] (suc i) e = refl
alike_from [] (s' ∷ steps) (suc i) e = absurd (step_not_done s' (actions_of steps) e)
alike_from (s ∷ ss) [] (suc i) e = absurd (statement_not_done s (form_of ss) e)
alike_from (s ∷ ss) (s' ∷ steps) (suc i) e = alike_from ss steps i (rests_alike s ss s' steps e)

pub begins_alike : (ss : List Statement) (steps : List Step) (i : ℕ) (s : Statement) (s' : Step) → i < length ss → s ≡ get_or ss i s → i < length steps → s' ≡ get_or steps i s' → actions_of steps ≡ as_actions (form_of ss) → BeginsAlike s s'
begins_alike ss steps i s s' lt is lt' is' e = record {
  form = form_of (drop (i + 1) ss);
  actions = actions_of (drop (i + 1) steps);
  alike = sym (ap (λ (l : List Step). actions_of l) (drop_at steps i s' lt' is')) ∙ alike_from ss steps i e ∙ ap (λ (l : List Statement). as_actions (form_of l)) (drop_at ss i s lt is);
}
