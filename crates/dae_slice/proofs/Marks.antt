-- The links of the first functions.
use Rattle.std.proofs.Common.{◌≡◌, ◌↔◌, ◌⊎◌, inl, inr, ℕ, ◌+◌, ◌<◌, ◌≤◌, false, List, length, get_or, ap, sym, ◌∙◌, subst, arith}
use Rattle.std.specs.Prelude.{slice_get}
use Rattle.std.proofs.lemmas.Option.{slice_get_past}
use Rattle.std.proofs.lemmas.Bool.{cases_eq, cases_lt}
use Rattle.dae_ir.specs.Form.{Form, form_of}
use Rattle.dae_ir.specs.Programs.{body_in}
use Rattle.dae_ir.specs.declared.form.Function.{Function}
use Rattle.dae_slice.specs.Graphs.{Family, exists, marked, Keeps, Adds, in_range, IsFresh, IsSettled, IsLeastKept}
use Rattle.dae_slice.specs.Links.{CodeKept, CodeHasTargets, IsLeastFor}
use Rattle.dae_slice.specs.declared.items.Sought.{Sought}
use Rattle.dae_slice.specs.declared.graph.Graph.{Graph}
use Rattle.dae_slice.proofs.Lists.{get_read}

pub record HasLinks (sought : Sought) (functions : List Function) (i : ℕ) (g : Graph) : Type 0 where
  pub exists : (f v : ℕ) → exists g f v ≡ in_range functions f v
  pub marked : (f v : ℕ) → marked g f v ≡ false
  pub keeps : (c : Family) → Keeps g c ↔ ((f : ℕ) → f < i → CodeKept sought c f (body_in (slice_get functions f)))

pub links_first : (sought : Sought) (functions : List Function) (g : Graph) → IsFresh functions g → HasLinks sought functions 0 g
links_first sought functions g h = record {
  exists = h.exists;
  marked = h.marked;
  keeps = λ c. (λ k f lt. absurd (omega arith), λ k. h.keeps c);
}

same_range : (sought : Sought) (functions : List Function) (i : ℕ) (g : Graph) → HasLinks sought functions i g → exists g ≡ in_range functions
same_range sought functions i g h = λ j f v. h.exists f v j

body_there : (functions : List Function) (i : ℕ) (function : Function) → i < length functions → function ≡ get_or functions i function → body_in (slice_get functions i) ≡ form_of function.body
body_there functions i function lt is = ap body_in (get_read functions i function lt is)

pub function_targets : (sought : Sought) (functions : List Function) (i : ℕ) (function : Function) (g : Graph) → i < length functions → function ≡ get_or functions i function → HasLinks sought functions i g
    → ((f : ℕ) → CodeHasTargets (in_range functions) f (body_in (slice_get functions f))) → CodeHasTargets (exists g) i (form_of function.body)
function_targets sought functions i function g lt is h targets =
    let t : CodeHasTargets (in_range functions) i (form_of function.body) = subst (λ (code : Form). CodeHasTargets (in_range functions) i code) (body_there functions i function lt is) (targets i) in
    subst (λ (there : Family). CodeHasTargets there i (form_of function.body)) (sym (same_range sought functions i g h)) t

pub links_next : (sought : Sought) (functions : List Function) (i : ℕ) (function : Function) (old new : Graph) → i < length functions → function ≡ get_or functions i function → HasLinks sought functions i old
    → Adds (λ c. CodeKept sought c i (form_of function.body)) old new → HasLinks sought functions (i + 1) new
links_next sought functions i function old new lt is h k = record {
  exists = λ f v. k.like.exists f v ∙ h.exists f v;
  marked = λ f v. k.like.marked f v ∙ h.marked f v;
  keeps = λ c. (one c, other c);
}
  where
    body : body_in (slice_get functions i) ≡ form_of function.body
    body = body_there functions i function lt is

    pick : (c : Family) → ((f : ℕ) → f < i → CodeKept sought c f (body_in (slice_get functions f))) → CodeKept sought c i (form_of function.body) → (f : ℕ) → f < i + 1 → (f ≡ i) ⊎ (f ≡ i → ⊥) → CodeKept sought c f (body_in (slice_get functions f))
    pick c before here f less (inl e) = rw (e, body) here
    pick c before here f less (inr ne) = before f (omega arith)

    one : (c : Family) → Keeps new c → (f : ℕ) → f < i + 1 → CodeKept sought c f (body_in (slice_get functions f))
    one c x f less = let y = (k.keeps c).0 x in pick c ((h.keeps c).0 y.0) y.1 f less (cases_eq f i)

    other : (c : Family) → ((f : ℕ) → f < i + 1 → CodeKept sought c f (body_in (slice_get functions f))) → Keeps new c
    other c all = (k.keeps c).1 ((h.keeps c).1 (λ f less. all f (omega arith)), subst (λ (code : Form). CodeKept sought c i code) body (all i (omega arith)))

pub links_settled : (sought : Sought) (functions : List Function) (i : ℕ) (g : Graph) → HasLinks sought functions i g → IsSettled g
links_settled sought functions i g h f v m = let n = h.marked f v in cc

pub range_keeps : (sought : Sought) (functions : List Function) (i : ℕ) (g : Graph) → HasLinks sought functions i g
    → ((f : ℕ) → CodeKept sought (in_range functions) f (body_in (slice_get functions f))) → Keeps g (exists g)
range_keeps sought functions i g h range = subst (λ (c : Family). Keeps g c) (sym (same_range sought functions i g h)) ((h.keeps (in_range functions)).1 (λ f lt. range f))

pub least_found : (sought : Sought) (functions : List Function) (i : ℕ) (g : Graph) (s : Family) → length functions ≤ i → HasLinks sought functions i g → IsLeastKept g s → IsLeastFor sought functions s
least_found sought functions i g s le h k = record {
  kept = λ f. by_number f (cases_lt f i);
  least = λ c all f. k.least c ((h.keeps c).1 (λ f lt. all f)) f;
}
  where
    by_number : (f : ℕ) → (f < i) ⊎ (i ≤ f) → CodeKept sought s f (body_in (slice_get functions f))
    by_number f (inl lt) = (h.keeps s).0 k.kept f lt
    by_number f (inr past) = rw (slice_get_past functions f (omega arith)) tt
