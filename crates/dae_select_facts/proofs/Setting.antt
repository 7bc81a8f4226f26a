-- Which variables steps and lists set.
use Rattle.std.proofs.Common.{◌≡◌, ℕ, ◌+◌, ◌<◌, ◌≤◌, Bool, true, false, ◌||◌, List, [], ◌∷◌, ◌++◌, length, drop, get_or, refl, ap, sym, ◌∙◌, arith}
use Rattle.std.specs.Prelude.{Vec, if◌then◌else◌}
use Rattle.std.specs.declared.alloc.Global.{Global}
use Rattle.std.proofs.lemmas.List.{drop_all, append-nil}
use Rattle.dae_base.proofs.Laws.{drop_at, or_nothing, or_along}
use Rattle.dae_ir.specs.Classes.{VariableSet}
use Rattle.dae_ir.specs.Streams.{Actions, actions_of, step_onto}
use Rattle.dae_ir.specs.declared.stream.Mark.{Mark}
use Rattle.dae_ir.specs.declared.stream.Action.{Action}
use Rattle.dae_ir.specs.declared.stream.Branch.{Branch}
use Rattle.dae_ir.specs.declared.stream.Step.{Step}
use Rattle.dae_ir.specs.declared.stream.Step.TheVariants as step
use Rattle.dae_select_live.proofs.Laws.{onto_if, onto_loop}
use Rattle.dae_select_walks.specs.Live.{sets, none}
use Rattle.dae_select_walks.specs.declared.Fact.{Fact}
use Rattle.dae_select_walks.specs.declared.Fact.TheVariants.{Within, Equals}
use Rattle.dae_select_walks.specs.Facts.{is_set, in_either, is_about, less}

pub sets_if : (s : Step) (m : Mark) (b : Branch) (p q : Vec Step Global) (k : Actions) (v : ℕ) → s ≡ step.If m b p q
    → is_set (step_onto s k) v ≡ ((is_set (actions_of p.items) v || is_set (actions_of q.items) v) || is_set k v)
sets_if s m b p q k v is =
    ap (λ (z : Step). is_set (step_onto z k) v) is ∙ ap (λ (c : Actions). is_set c v) (onto_if m b p q k) ∙ or_along (is_set (actions_of p.items) v) (is_set (actions_of q.items) v) (is_set k v)

pub sets_loop : (s : Step) (m : Mark) (p q : Vec Step Global) (k : Actions) (v : ℕ) → s ≡ step.Loop m p q
    → is_set (step_onto s k) v ≡ ((is_set (actions_of p.items) v || is_set (actions_of q.items) v) || is_set k v)
sets_loop s m p q k v is =
    ap (λ (z : Step). is_set (step_onto z k) v) is ∙ ap (λ (c : Actions). is_set c v) (onto_loop m p q k) ∙ or_along (is_set (actions_of p.items) v) (is_set (actions_of q.items) v) (is_set k v)

-- the steps from the i-th on set it as all do
abbrev pub SetsFrom : List Step → ℕ → ℕ → Type 0
SetsFrom steps i v = is_set (actions_of (drop i steps)) v ≡ is_set (actions_of steps) v

-- ---- a set of the variables that are set

-- an action that sets nothing, one that sets a variable, and two lists
pub adds_none : (s : Step) (m : Mark) (a : Action) (v : ℕ) (k : Actions) (old : Bool) → s ≡ step.Act m a → false ≡ sets a v → (is_set (step_onto s k) v || old) ≡ (is_set k v || old)
adds_none s m a v k old is e =
    ap (λ (z : Step). is_set (step_onto z k) v || old) is ∙ ap (λ (b : Bool). (b || is_set k v) || old) (sym e)

first_last : (a b c : Bool) → ((a || b) || c) ≡ (b || (a || c))
first_last true true c = refl
first_last true false c = refl
first_last false b c = refl

pub adds_one : (s : Step) (m : Mark) (a : Action) (v : ℕ) (k : Actions) (here old new : Bool) → s ≡ step.Act m a → here ≡ sets a v → new ≡ (here || old) → (is_set (step_onto s k) v || old) ≡ (is_set k v || new)
adds_one s m a v k here old new is e h =
    ap (λ (z : Step). is_set (step_onto z k) v || old) is ∙ ap (λ (b : Bool). (b || is_set k v) || old) (sym e) ∙ first_last here (is_set k v) old
    ∙ ap (λ (b : Bool). is_set k v || b) (sym h)

two_last : (p q k old : Bool) → (((p || q) || k) || old) ≡ (k || (q || (p || old)))
two_last p q true old = both p q old
  where
    both : (p q old : Bool) → (((p || q) || true) || old) ≡ true
    both true q old = refl
    both false true old = refl
    both false false old = refl
two_last true true false old = refl
two_last true false false old = refl
two_last false q false old = ap (λ (b : Bool). b || old) (or_nothing q)

pub adds_two : (p q k old one both : Bool) → one ≡ (p || old) → both ≡ (q || one) → (((p || q) || k) || old) ≡ (k || both)
adds_two p q k old one both e h = two_last p q k old ∙ ap (λ (b : Bool). k || (q || b)) (sym e) ∙ ap (λ (b : Bool). k || b) (sym h)

-- the steps from the i-th on are still to be added
abbrev pub AddsFrom : List Step → ℕ → VariableSet → VariableSet → Type 0
AddsFrom steps i old set = (v : ℕ) → (is_set (actions_of (drop i steps)) v || set v) ≡ (is_set (actions_of steps) v || old v)

pub one_added : (steps : List Step) (i : ℕ) (s : Step) (first old new : VariableSet) → i < length steps → s ≡ get_or steps i s → ((v : ℕ) (k : Actions) → (is_set (step_onto s k) v || old v) ≡ (is_set k v || new v)) → AddsFrom steps i first old
    → AddsFrom steps (i + 1) first new
one_added steps i s first old new lt is h so_far v =
    sym (h v (actions_of (drop (i + 1) steps))) ∙ sym (ap (λ (l : List Step). is_set (actions_of l) v || old v) (drop_at steps i s lt is)) ∙ so_far v

pub all_added : (steps : List Step) (i : ℕ) (old new : VariableSet) → length steps ≤ i → AddsFrom steps i old new → (v : ℕ) → new v ≡ (is_set (actions_of steps) v || old v)
all_added steps i old new le so_far v = ap (λ (l : List Step). is_set (actions_of l) v || new v) (sym (drop_all i steps le)) ∙ so_far v

-- ---- facts of variables that aren't in a set

-- with the same variables in it
about_same : (s t : VariableSet) (f : Fact) → ((v : ℕ) → s v ≡ t v) → is_about s f ≡ is_about t f
about_same s t (Within v b) e = e v
about_same s t (Equals v x) e = ap (λ (c : Bool). c || s x.base) (e v) ∙ ap (λ (c : Bool). t v || c) (e x.base)

pub less_same : (s t : VariableSet) (facts : List Fact) → ((v : ℕ) → s v ≡ t v) → less s facts ≡ less t facts
less_same s t [] e = refl
less_same s t (f ∷ fs) e =
    ap (λ (b : Bool). if b then less s fs else f ∷ less s fs) (about_same s t f e) ∙ ap (λ (l : List Fact). if is_about t f then l else f ∷ l) (less_same s t fs e)

pub less_none : (s : VariableSet) (xs facts : List Fact) → length facts ≡ 0 → xs ≡ xs ++ less s facts
less_none s xs [] e = sym (append-nil xs)
less_none s xs (f ∷ fs) e = absurd (omega arith)

pub less_by_one : (steps : List Step) (facts : List Fact) (begin end : VariableSet) → begin ≡ none → ((v : ℕ) → end v ≡ (is_set (actions_of steps) v || begin v)) → less end facts ≡ less (is_set (actions_of steps)) facts
less_by_one steps facts begin end e h =
    less_same end (is_set (actions_of steps)) facts (λ v. h v ∙ ap (λ (s : VariableSet). is_set (actions_of steps) v || s v) e ∙ or_nothing (is_set (actions_of steps) v))

other_first : (p q : Bool) → (q || (p || false)) ≡ (p || q)
other_first true true = refl
other_first true false = refl
other_first false q = or_nothing q

pub less_by_two : (one other : List Step) (facts : List Fact) (begin mid end : VariableSet) → begin ≡ none → ((v : ℕ) → mid v ≡ (is_set (actions_of one) v || begin v)) → ((v : ℕ) → end v ≡ (is_set (actions_of other) v || mid v))
    → less end facts ≡ less (in_either (is_set (actions_of one)) (is_set (actions_of other))) facts
less_by_two one other facts begin mid end e h g =
    let P : VariableSet = is_set (actions_of one) in let Q : VariableSet = is_set (actions_of other) in
    less_same end (in_either P Q) facts (λ v. g v ∙ ap (λ (b : Bool). Q v || b) (h v) ∙ ap (λ (s : VariableSet). Q v || (P v || s v)) e ∙ other_first (P v) (Q v))

-- ---- one of two lists sets it, or what comes behind

pub first_sets : (p q k r : Bool) → r ≡ p → r ≡ true → ((p || q) || k) ≡ (r || k)
first_sets true q k r e h = sym (ap (λ (b : Bool). b || k) e)
first_sets false q k r e h = absurd cc

pub second_sets : (p q k r r' : Bool) → r ≡ p → r ≡ false → r' ≡ q → ((p || q) || k) ≡ (r' || k)
second_sets true q k r r' e h g = absurd cc
second_sets false q k r r' e h g = sym (ap (λ (b : Bool). b || k) g)
