-- What a plan leads to from tables of which something is known: the literals stay, and something is known of what comes.
use Rattle.std.proofs.Common.{◌≡◌, ℕ, ◌≤◌, List, Result, Ok, Err, Option, Some, None, ◌∙◌}
use Rattle.std.specs.Prelude.{IfOk}
use Rattle.dae_tree.specs.declared.expressions.Name.{Name}
use Rattle.dae_types_kinds.specs.declared.rules.Breach.{Breach}
use Rattle.dae_types_kinds.specs.Tables.{Tables}
use Rattle.dae_types_rules.specs.Sites.{Site}
use Rattle.dae_types_rules.specs.Plan.{CheckPlan, pure, node, maps, chain, ask_all, check_of}
use Rattle.dae_types_plans.specs.Steps.{settles_name}
use Rattle.dae_void_laws.proofs.Laws.{bind, all_asked}
use Rattle.dae_sizes.proofs.Within.{Grown, Got, Within}

-- the tables have these literals, and After holds of them and of the value
pub record Come {A : Type 0} (ls : List (List ℕ)) (After : Tables → A → Type 0) (x : Tables × A) : Type 0 where
  pub literals : x.0.literals ≡ ls
  pub so : After x.0 x.1

pub record Leads {A : Type 0} (ls : List (List ℕ)) (Before : Tables → Type 0) (After : Tables → A → Type 0) (m : CheckPlan A) : Type 0 where
  pub leads : (s : Tables) → s.literals ≡ ls → Before s → IfOk (check_of m s) (Come ls After)

module _ {ls : List (List ℕ)} where
  pub leads_pure : {A : Type 0} {Before : Tables → Type 0} {After : Tables → A → Type 0} (x : A) → ((s : Tables) → Before s → After s x) → Leads ls Before After (pure x)
  leads_pure x h = record { leads = λ s e b. record { literals = e; so = h s b } }

  pub leads_maps : {A B : Type 0} {Before : Tables → Type 0} {Between : Tables → A → Type 0} {After : Tables → B → Type 0} {g : Tables → A → Tables × B} {m : CheckPlan A} →
      Leads ls Before Between m → ((s : Tables) (x : A) → s.literals ≡ ls → Between s x → Come ls After (g s x)) → Leads ls Before After (maps g m)
  leads_maps {A} {B} {Before} {Between} {After} {g} {m} h step = record {
    leads = λ s e b.
        bind (check_of m s) (λ x. Ok (g x.0 x.1)) (Come ls Between) (Come ls After) (h.leads s e b) (λ x q. step x.0 x.1 q.literals q.so);
  }

  pub leads_node : {A B : Type 0} {Before : Tables → Type 0} {Between : Tables → A → Type 0} {After : Tables → B → Type 0} {f : Tables → A → List Site} {g : Tables → A → Tables × B} {m : CheckPlan A} →
      Leads ls Before Between m → ((s : Tables) (x : A) → s.literals ≡ ls → Between s x → Come ls After (g s x)) → Leads ls Before After (node f g m)
  leads_node {A} {B} {Before} {Between} {After} {f} {g} {m} h step = record {
    leads = λ s e b.
        bind (check_of m s) (λ x. ask_all (f x.0 x.1) (Ok (g x.0 x.1))) (Come ls Between) (Come ls After) (h.leads s e b)
        (λ x q. all_asked (f x.0 x.1) (Ok (g x.0 x.1)) (Come ls After) (λ u. step x.0 x.1 q.literals q.so));
  }

  pub leads_chain : {A B : Type 0} {Before : Tables → Type 0} {Between : Tables → A → Type 0} {After : Tables → B → Type 0} {d : A} {m : CheckPlan A} {l : A → CheckPlan B} →
      Leads ls Before Between m → ((x : A) → Leads ls (λ s. Between s x) After (l x)) → Leads ls Before After (chain d m l)
  leads_chain {A} {B} {Before} {Between} {After} {d} {m} {l} h k = record {
    leads = λ s e b.
        bind (check_of m s) (λ x. check_of (l x.1) x.0) (Come ls Between) (Come ls After) (h.leads s e b) (λ x q. (k x.1).leads x.0 q.literals q.so);
  }

  pub leads_settled : {A : Type 0} {Before : Tables → Type 0} {After : Tables → A → Type 0} {m : CheckPlan A} (n : Option Name) → Leads ls Before After m → Leads ls Before After (settles_name n m)
  leads_settled None h = h
  leads_settled (Some x) h = record { leads = h.leads }

  -- from what a plan gives within bounds
  pub leads_within : {A : Type 0} {μ : A → ℕ} {n w : ℕ} {m : CheckPlan A} {Before : Tables → Type 0} {After : Tables → A → Type 0} →
      Within ls μ n w m → ((s t : Tables) (x : A) → Before s → Grown n s t → μ x ≤ w → After t x) → Leads ls Before After m
  leads_within {A} {μ} {n} {w} {m} {Before} {After} h k = record { leads = λ s e b. by s e b (check_of m s) (h.comes s e) } where
    by : (s : Tables) → s.literals ≡ ls → Before s → (r : Result (Tables × A) Breach) → IfOk r (Got μ n w s) → IfOk r (Come ls After)
    by s e b (Ok x) q = record { literals = q.grown.literals ∙ e; so = k s x.0 x.1 b q.grown q.small }
    by s e b (Err f) q = tt

  -- what is known before is not of the tables
  pub leads_if : {A : Type 0} {P : Type 0} {After : Tables → A → Type 0} {m : CheckPlan A} → (P → Leads ls (λ s. Unit {0}) After m) → Leads ls (λ s. P) After m
  leads_if h = record { leads = λ s e b. (h b).leads s e tt }

  pub leads_after : {A : Type 0} {Before : Tables → Type 0} {After Then : Tables → A → Type 0} {m : CheckPlan A} → ((s : Tables) (x : A) → After s x → Then s x) → Leads ls Before After m → Leads ls Before Then m
  leads_after {A} {Before} {After} {Then} {m} k h = record { leads = λ s e b. by (check_of m s) (h.leads s e b) } where
    by : (r : Result (Tables × A) Breach) → IfOk r (Come ls After) → IfOk r (Come ls Then)
    by (Ok x) q = record { literals = q.literals; so = k x.0 x.1 q.so }
    by (Err f) q = tt

  -- two things that are known of what comes
  pub leads_both : {A : Type 0} {Before : Tables → Type 0} {After Also : Tables → A → Type 0} {m : CheckPlan A} → Leads ls Before After m → Leads ls Before Also m → Leads ls Before (λ s x. After s x × Also s x) m
  leads_both {A} {Before} {After} {Also} {m} h k = record { leads = λ s e b. by (check_of m s) (h.leads s e b) (k.leads s e b) } where
    by : (r : Result (Tables × A) Breach) → IfOk r (Come ls After) → IfOk r (Come ls Also) → IfOk r (Come ls (λ s x. After s x × Also s x))
    by (Ok x) p q = record { literals = p.literals; so = (p.so, q.so) }
    by (Err f) p q = tt
