-- Going through a tree: one plan for each tree, and two readings of plans.
use Rattle.std.specs.Prelude.{◌≡◌, ℕ, List, [], ◌∷◌, ◌++◌, Option, Some, None, Result, Ok, Err, Bool, true, false, ◌⊎◌, nat_eq, if◌then◌else◌}
use Rattle.dae_base.specs.declared.Place.{Place}
use Rattle.dae_types_kinds.specs.declared.rules.Rule.{Rule}
use Rattle.dae_types_kinds.specs.declared.rules.Breach.{Breach}
use Rattle.dae_types_kinds.specs.declared.rules.CheckError.{CheckError}
use Rattle.dae_types_kinds.specs.declared.rules.CheckError.TheVariants as errors
use Rattle.dae_types_kinds.specs.Tables.{Tables}
use Rattle.dae_types_rules.specs.Sites.{Site, place}
use Rattle.dae_types_rules.specs.Table.{breaks, asked, is_broken}

-- what a declaration that broke a rule leaves without a meaning
pub data BrokenName : Type 0 where
  OfName : ℕ → BrokenName
  OfTag : ℕ → BrokenName
  OfMember : ℕ → BrokenName

-- parts in their order; at a node the sites where rules are asked, and what is written; what is written with no rule; a part that needs what another
-- gives, with what stands for it where that has none; what a faulty part counts as; what is noted as faulty
pub data CheckPlan : Type 0 → Type 1 where
  pure : {A : Type 0} → A → CheckPlan A
  both : {A B : Type 0} → CheckPlan A → CheckPlan B → CheckPlan (A × B)
  node : {A B : Type 0} → (Tables → A → List Site) → (Tables → A → Tables × B) → CheckPlan A → CheckPlan B
  maps : {A B : Type 0} → (Tables → A → Tables × B) → CheckPlan A → CheckPlan B
  chain : {A B : Type 0} → A → CheckPlan A → (A → CheckPlan B) → CheckPlan B
  pardons : {A : Type 0} → A → CheckPlan A → CheckPlan A
  settles : {A : Type 0} → BrokenName → CheckPlan A → CheckPlan A
  unless_spoiled : {A : Type 0} → BrokenName → CheckPlan A → CheckPlan A

-- ---- every site

pub record PlanWalked (A : Type 0) : Type 0 where
  pub state : Tables
  pub value : Option A
  pub sites : List Site
  pub spoiled : List BrokenName

abbrev pub pair : {A B : Type 0} → Option A → Option B → Option (A × B)
pair None y = None
pair (Some x) None = None
pair (Some x) (Some y) = Some (x, y)

abbrev pub behind : {A B : Type 0} → Option A → Option B → Option B
behind None y = None
behind (Some x) y = y

abbrev pub or_else : {A : Type 0} → A → Option A → A
or_else d None = d
or_else d (Some x) = x

abbrev pub followed : {A B : Type 0} → PlanWalked A → PlanWalked B → PlanWalked (A × B)
followed w v = record { state = v.state; value = pair w.value v.value; sites = w.sites ++ v.sites; spoiled = v.spoiled }

abbrev pub chained : {A B : Type 0} → PlanWalked A → PlanWalked B → PlanWalked B
chained w v = record { state = v.state; value = behind w.value v.value; sites = w.sites ++ v.sites; spoiled = v.spoiled }

abbrev pub some_broken : List Site → Bool
some_broken [] = false
some_broken (s ∷ ss) = if is_broken s then true else some_broken ss

abbrev pub kept : {A : Type 0} → Bool → A → Option A
kept true x = None
kept false x = Some x

abbrev pub at_node : {A B : Type 0} → (Tables → A → List Site) → (Tables → A → Tables × B) → Option A → PlanWalked A → PlanWalked B
at_node f g None w = record { state = w.state; value = None; sites = w.sites; spoiled = w.spoiled }
at_node f g (Some x) w = record { state = (g w.state x).0; value = kept (some_broken (f w.state x)) (g w.state x).1; sites = w.sites ++ f w.state x; spoiled = w.spoiled }

abbrev pub mapped : {A B : Type 0} → (Tables → A → Tables × B) → Option A → PlanWalked A → PlanWalked B
mapped g None w = record { state = w.state; value = None; sites = w.sites; spoiled = w.spoiled }
mapped g (Some x) w = record { state = (g w.state x).0; value = Some (g w.state x).1; sites = w.sites; spoiled = w.spoiled }

abbrev pub pardoned : {A : Type 0} → A → PlanWalked A → PlanWalked A
pardoned d w = record { state = w.state; value = Some (or_else d w.value); sites = w.sites; spoiled = w.spoiled }

abbrev pub same_mark : BrokenName → BrokenName → Bool
same_mark (OfName m) (OfName n) = nat_eq m n
same_mark (OfTag m) (OfTag n) = nat_eq m n
same_mark (OfMember m) (OfMember n) = nat_eq m n
same_mark _ _ = false

abbrev pub is_spoiled : BrokenName → List BrokenName → Bool
is_spoiled n [] = false
is_spoiled n (m ∷ ms) = if same_mark n m then true else is_spoiled n ms

abbrev pub without : BrokenName → List BrokenName → List BrokenName
without n [] = []
without n (m ∷ ms) = if same_mark n m then without n ms else m ∷ without n ms

abbrev pub noted : {A : Type 0} → Option A → BrokenName → List BrokenName → List BrokenName
noted None n ms = n ∷ ms
noted (Some x) n ms = without n ms

abbrev pub settled : {A : Type 0} → BrokenName → PlanWalked A → PlanWalked A
settled n w = record { state = w.state; value = w.value; sites = w.sites; spoiled = noted w.value n w.spoiled }

abbrev pub silent : {A : Type 0} → Bool → Tables → List BrokenName → PlanWalked A → PlanWalked A
silent true s ms w = record { state = s; value = None; sites = []; spoiled = ms }
silent false s ms w = w

abbrev pub walk_of : {A : Type 0} → CheckPlan A → Tables → List BrokenName → PlanWalked A
walk_of (pure x) s ms = record { state = s; value = Some x; sites = []; spoiled = ms }
walk_of (both m n) s ms = followed (walk_of m s ms) (walk_of n (walk_of m s ms).state (walk_of m s ms).spoiled)
walk_of (node f g m) s ms = at_node f g (walk_of m s ms).value (walk_of m s ms)
walk_of (maps g m) s ms = mapped g (walk_of m s ms).value (walk_of m s ms)
walk_of (chain d m k) s ms = chained (walk_of m s ms) (walk_of (k (or_else d (walk_of m s ms).value)) (walk_of m s ms).state (walk_of m s ms).spoiled)
walk_of (pardons d m) s ms = pardoned d (walk_of m s ms)
walk_of (settles n m) s ms = settled n (walk_of m s ms)
walk_of (unless_spoiled n m) s ms = silent (is_spoiled n ms) s ms (walk_of m s ms)

abbrev pub BrokenIn : List Site → Rule → Place → Type 0
BrokenIn [] r p = ⊥
BrokenIn (s ∷ ss) r p = ((breaks r s ≡ true) × (place s ≡ p)) ⊎ BrokenIn ss r p

-- a rule is broken at a place
abbrev pub Broken : {A : Type 0} → CheckPlan A → Tables → Rule → Place → Type 0
Broken m s r p = BrokenIn (walk_of m s []).sites r p

-- the one typed tree, and what is declared after it
abbrev pub IsTyped : {A : Type 0} → CheckPlan A → Tables → Tables × A → Type 0
IsTyped m s x = ((walk_of m s []).state ≡ x.0) × ((walk_of m s []).value ≡ Some x.1)

abbrev pub IsChecked : {A : Type 0} → CheckPlan A → Tables → Result (Tables × A) Breach → Type 0
IsChecked m s (Ok x) = IsTyped m s x × ((r : Rule) (p : Place) → Broken m s r p → ⊥)
IsChecked m s (Err f) = Broken m s f.rule f.place

-- ---- up to the first broken rule

infixl 10 ◌>>=◌
abbrev pub ◌>>=◌ : {A B : Type 0} → Result A Breach → (A → Result B Breach) → Result B Breach
(Ok x) >>= f = f x
(Err e) >>= f = Err e

abbrev pub ask_in : {A : Type 0} → List Rule → Site → Result A Breach → Result A Breach
ask_in [] s after = after
ask_in (r ∷ rs) s after = elim (breaks r s) [ true ↦ Err (record { rule = r; place = place s }) | false ↦ ask_in rs s after ]

unfoldable pub ask_all : {A : Type 0} → List Site → Result A Breach → Result A Breach
ask_all [] after = after
ask_all (s ∷ ss) after = ask_in (asked s) s (ask_all ss after)

abbrev pub check_of : {A : Type 0} → CheckPlan A → Tables → Result (Tables × A) Breach
check_of (pure x) s = Ok (s, x)
check_of (both m n) s = check_of m s >>= λ x. check_of n x.0 >>= λ y. Ok (y.0, (x.1, y.1))
check_of (node f g m) s = check_of m s >>= λ x. ask_all (f x.0 x.1) (Ok (g x.0 x.1))
check_of (maps g m) s = check_of m s >>= λ x. Ok (g x.0 x.1)
check_of (chain d m k) s = check_of m s >>= λ x. check_of (k x.1) x.0
check_of (pardons d m) s = check_of m s
check_of (settles n m) s = check_of m s
check_of (unless_spoiled n m) s = check_of m s

-- ---- what code answers

abbrev pub Fails : {Y : Type 0} → CheckError → Result Y Breach → Type 0
Fails errors.Memory read = Unit {0}
Fails errors.Unsound read = Unit {0}
Fails (errors.Rule f) read = read ≡ Err f

-- what a function returned, seen by view, is what checking gives, unless memory ran out
abbrev pub Gives : {X Y : Type 0} → (X → Y) → Result X CheckError → Result Y Breach → Type 0
Gives view (Ok x) read = read ≡ Ok (view x)
Gives view (Err e) read = Fails e read
