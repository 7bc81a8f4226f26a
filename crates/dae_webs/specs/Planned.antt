-- What is known of a renaming on its way: what its plan says, the webs that are current, and the definitions so far.
use Rattle.std.specs.Prelude.{◌≡◌, ℕ, ◌-◌, Bool, false, nat_eq, nat_lt, if◌then◌else◌, List, slice_get, Option, Some, None}
use Rattle.dae_ir.specs.Form.{Form, before, form_of}
use Rattle.dae_ir.specs.declared.form.Statement.{Statement}
use Rattle.dae_webs.specs.declared.plan.WebPlan.{WebPlan}
use Rattle.dae_webs.specs.declared.plan.Renaming.{Renaming}
use Rattle.dae_webs.specs.Current.{Current, web_of}
use Rattle.dae_webs.specs.Renamed.{Starts, number_behind, without_started, webs_behind, renamed_code}
use Rattle.dae_webs.specs.Known.{Owns, IsKnown}

-- ---- a plan

abbrev pub starts_in : WebPlan → Starts
starts_in plan = web_of (let xs = plan.starts in xs.items)

abbrev pub is_entry : Option ℕ → ℕ → Bool
is_entry None v = false
is_entry (Some w) v = nat_eq w v

-- each of the function's variables is for its own webs, and each further one for those of its owner
abbrev pub owns_web : ℕ → List ℕ → Owns
owns_web variables owners u v =
    if nat_lt u variables then nat_eq u v else is_entry (slice_get owners (u - variables)) v

abbrev pub owns_in : WebPlan → Owns
owns_in plan = owns_web plan.variables (let xs = plan.owners in xs.items)

abbrev pub current_in : Renaming → Current
current_in r = let xs = r.webs in xs.items

-- ---- webs that start inside

-- behind a statement
pub record StatementForgets (b : Starts) (s : Statement) (n n' : ℕ) (m m' : Current)
    : Type 0 where
  pub webs : (k : Form) → without_started b n m (before s k) ≡ without_started b n' m' k
  pub number : (k : Form) → number_behind n (before s k) ≡ number_behind n' k

-- behind a list of statements
pub record ListForgets (b : Starts) (ss : List Statement) (n n' : ℕ) (m m' : Current)
    : Type 0 where
  pub webs : m' ≡ without_started b n m (form_of ss)
  pub number : n' ≡ number_behind n (form_of ss)

-- ---- renaming

abbrev pub renamed_from : WebPlan → Renaming → Form → Form
renamed_from plan r code = renamed_code (starts_in plan) r.definitions (current_in r) code

abbrev pub IsKnownFrom : WebPlan → Renaming → Form → Type 0
IsKnownFrom plan r code = IsKnown (owns_in plan) (starts_in plan) r.definitions (current_in r) code

abbrev pub webs_from : WebPlan → Renaming → Form → Current
webs_from plan r code = webs_behind (starts_in plan) r.definitions (current_in r) code

-- a statement is renamed to s'
pub record StatementRenamed (plan : WebPlan) (s : Statement) (old new : Renaming) (s' : Statement)
    : Type 0 where
  pub code : (k : Form) → renamed_from plan old (before s k) ≡ before s' (renamed_from plan new k)
  pub known : (k : Form) → IsKnownFrom plan new k → IsKnownFrom plan old (before s k)
  pub webs : (k : Form) → webs_from plan old (before s k) ≡ webs_from plan new k
  pub number : (k : Form)
      → number_behind old.definitions (before s k) ≡ number_behind new.definitions k

-- a list of statements is renamed to ss'
pub record ListRenamed (plan : WebPlan) (ss : List Statement) (old new : Renaming)
    (ss' : List Statement) : Type 0 where
  pub code : form_of ss' ≡ renamed_from plan old (form_of ss)
  pub known : IsKnownFrom plan old (form_of ss)
  pub webs : current_in new ≡ webs_from plan old (form_of ss)
  pub number : new.definitions ≡ number_behind old.definitions (form_of ss)
