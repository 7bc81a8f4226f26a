-- The links of statements, put together.
use Rattle.std.proofs.Common.{◌≡◌, ◌↔◌, ℕ, ◌+◌, ◌<◌, ◌≤◌, List, length, drop, get_or, ap, sym, ◌∙◌, subst}
use Rattle.std.specs.Prelude.{Vec}
use Rattle.std.specs.declared.alloc.Global.{Global}
use Rattle.std.proofs.lemmas.List.{drop_all}
use Rattle.dae_base.specs.declared.Place.{Place}
use Rattle.dae_ir.specs.Code.{Done, Do, If, Loop}
use Rattle.dae_ir.specs.Form.{Form, form_of, before}
use Rattle.dae_ir.specs.declared.form.Test.{Test}
use Rattle.dae_ir.specs.declared.form.Item.{Item}
use Rattle.dae_ir.specs.declared.form.Statement.{Statement}
use Rattle.dae_ir.specs.declared.form.Statement.TheVariants.{If as Branching, Loop as Repeating}
use Rattle.dae_slice.specs.Graphs.{Family, exists, IsLike, Adds}
use Rattle.dae_slice.specs.Links.{ItemKept, ConditionKept, CodeKept, HasTargets, CodeHasTargets}
use Rattle.dae_slice.specs.declared.items.Sought.{Sought}
use Rattle.dae_slice.specs.declared.graph.Graph.{Graph}
use Rattle.dae_slice.proofs.Adds.{adds_both, adds_as}
use Rattle.dae_slice.proofs.Arguments.{Reaches, reach_next, reach_last}
use Rattle.dae_base.proofs.Laws.{drop_at}
use Rattle.dae_ir.proofs.Laws.{before_if, before_loop, each_before}

-- ---- where links may end

pub like_targets : (f : ℕ) (code : Form) (a b : Graph) → IsLike a b → CodeHasTargets (exists a) f code → CodeHasTargets (exists b) f code
like_targets f code a b like h =
    let same : exists a ≡ exists b = λ i g v. sym (like.exists g v) i in
    subst (λ (there : Family). CodeHasTargets there f code) same h

pub if_targets : (there : Family) (f : ℕ) (s : Statement) (place : Place) (t : Test) (p q : Vec Statement Global) → s ≡ Branching place t p q → CodeHasTargets there f (before s Done) → CodeHasTargets there f (form_of p.items) × CodeHasTargets there f (form_of q.items)
if_targets there f s place t p q is h =
    let e : before s Done ≡ If place t (form_of p.items) (form_of q.items) Done = ap (λ (x : Statement). before x Done) is ∙ before_if place t p q Done in
    let k = subst (λ (code : Form). CodeHasTargets there f code) e h in
    (k.1, k.2)

pub loop_targets : (there : Family) (f : ℕ) (s : Statement) (place : Place) (p q : Vec Statement Global) → s ≡ Repeating place p q → CodeHasTargets there f (before s Done) → CodeHasTargets there f (form_of p.items) × CodeHasTargets there f (form_of q.items)
loop_targets there f s place p q is h =
    let e : before s Done ≡ Loop place (form_of p.items) (form_of q.items) Done = ap (λ (x : Statement). before x Done) is ∙ before_loop place p q Done in
    let k = subst (λ (code : Form). CodeHasTargets there f code) e h in
    (k.0, k.1)

-- ---- one statement

module _ (sought : Sought) (f : ℕ) where
  abbrev Kept : Form → Family → Type 0
  Kept code c = CodeKept sought c f code

  pub item_linked : (place : Place) (item : Item) (a b : Graph) → Adds (λ c. ItemKept sought c f item) a b → Adds (Kept (Do place item Done)) a b
  item_linked place item a b h = adds_as (λ c. ItemKept sought c f item) (Kept (Do place item Done)) a b (λ c. (λ k. (k, tt), λ k. k.0)) h

  pub if_linked : (s : Statement) (place : Place) (t : Test) (p q : Vec Statement Global) (a b c d : Graph) → s ≡ Branching place t p q
      → Adds (λ x. ConditionKept sought x f t) a b → Adds (Kept (form_of p.items)) b c → Adds (Kept (form_of q.items)) c d → Adds (Kept (before s Done)) a d
  if_linked s place t p q a b c d is h k l =
      let e : before s Done ≡ If place t (form_of p.items) (form_of q.items) Done = ap (λ (x : Statement). before x Done) is ∙ before_if place t p q Done in
      let cond = λ (x : Family). ConditionKept sought x f t in
      let two = adds_both (Kept (form_of p.items)) (Kept (form_of q.items)) b c d k l in
      let three = adds_both cond (λ x. Kept (form_of p.items) x × Kept (form_of q.items) x) a b d h two in
      subst (λ (code : Form). Adds (Kept code) a d) (sym e)
      (adds_as (λ x. cond x × (Kept (form_of p.items) x × Kept (form_of q.items) x)) (Kept (If place t (form_of p.items) (form_of q.items) Done)) a d
      (λ x. (λ u. (u.0, u.1.0, u.1.1, tt), λ u. (u.0, (u.1, u.2)))) three)

  pub loop_linked : (s : Statement) (place : Place) (p q : Vec Statement Global) (a b c : Graph) → s ≡ Repeating place p q
      → Adds (Kept (form_of p.items)) a b → Adds (Kept (form_of q.items)) b c → Adds (Kept (before s Done)) a c
  loop_linked s place p q a b c is h k =
      let e : before s Done ≡ Loop place (form_of p.items) (form_of q.items) Done = ap (λ (x : Statement). before x Done) is ∙ before_loop place p q Done in
      subst (λ (code : Form). Adds (Kept code) a c) (sym e)
      (adds_as (λ x. Kept (form_of p.items) x × Kept (form_of q.items) x) (Kept (Loop place (form_of p.items) (form_of q.items) Done)) a c
      (λ x. (λ u. (u.0, u.1, tt), λ u. (u.0, u.1)))
      (adds_both (Kept (form_of p.items)) (Kept (form_of q.items)) a b c h k))

-- ---- a list of statements, as far as it has been walked

pub record Walked (sought : Sought) (f : ℕ) (body : List Statement) (i : ℕ) (old new : Graph) : Type 0 where
  pub targets : CodeHasTargets (exists new) f (form_of (drop i body))
  pub reaches : Reaches (λ c. CodeKept sought c f (form_of body)) (λ c. CodeKept sought c f (form_of (drop i body))) old new

module _ (sought : Sought) (f : ℕ) (body : List Statement) (i : ℕ) (s : Statement) (old now : Graph) (lt : i < length body) (is : s ≡ get_or body i s) (so_far : Walked sought f body i old now) where
  split : form_of (drop i body) ≡ before s (form_of (drop (i + 1) body))
  split = ap form_of (drop_at body i s lt is)

  both : CodeHasTargets (exists now) f (before s Done) × CodeHasTargets (exists now) f (form_of (drop (i + 1) body))
  both = (each_before (HasTargets (exists now) f) (λ t. Unit {0}) s (form_of (drop (i + 1) body))).0 (subst (λ (code : Form). CodeHasTargets (exists now) f code) split so_far.targets)

  pub statement_targets : CodeHasTargets (exists now) f (before s Done)
  statement_targets = both.0

  pub walked_next : (new : Graph) → Adds (λ c. CodeKept sought c f (before s Done)) now new → Walked sought f body (i + 1) old new
  walked_next new h = record {
    targets = like_targets f (form_of (drop (i + 1) body)) now new h.like both.1;
    reaches = reach_next (λ c. CodeKept sought c f (form_of body)) (λ c. CodeKept sought c f (form_of (drop i body))) (λ c. CodeKept sought c f (before s Done)) (λ c. CodeKept sought c f (form_of (drop (i + 1) body))) old now new
        (λ c. subst (λ (code : Form). CodeKept sought c f code ↔ (CodeKept sought c f (before s Done) × CodeKept sought c f (form_of (drop (i + 1) body)))) (sym split) (each_before (ItemKept sought c f) (ConditionKept sought c f) s (form_of (drop (i + 1) body))))
        so_far.reaches h;
  }

pub walked_last : (sought : Sought) (f : ℕ) (body : List Statement) (i : ℕ) (old new : Graph) → length body ≤ i → Walked sought f body i old new → Adds (λ c. CodeKept sought c f (form_of body)) old new
walked_last sought f body i old new le h =
    reach_last (λ c. CodeKept sought c f (form_of body)) (λ c. CodeKept sought c f (form_of (drop i body))) old new
    (λ c. rw (drop_all i body le) tt) h.reaches
