-- Loops around nested statements, and the names in them.
use Rattle.std.proofs.Common.{◌≡◌, ◌↔◌, Bool, true, false, ◌&&◌, ap, subst, sym, ◌∙◌}
use Rattle.std.specs.Prelude.{Vec, IsTrue}
use Rattle.std.specs.declared.alloc.Global.{Global}
use Rattle.dae_base.specs.declared.Place.{Place}
use Rattle.dae_base.proofs.Laws.{and_along}
use Rattle.dae_ir.specs.Code.{Each, Done, If, Loop}
use Rattle.dae_ir.specs.Form.{Form, before, form_of}
use Rattle.dae_ir.specs.Rounds.{stays}
use Rattle.dae_ir.specs.Scope.{never_returns}
use Rattle.dae_ir.specs.declared.form.Item.{Item}
use Rattle.dae_ir.specs.declared.form.Statement.{Statement}
use Rattle.dae_ir.specs.declared.form.Statement.TheVariants as statement
use Rattle.dae_ir.specs.declared.form.Test.{Test}
use Rattle.dae_ir.proofs.Laws.{before_if, before_loop}

pub stays_in_if : (inside : Bool) (m : Place) (t : Test) (p q : Vec Statement Global) (s : Statement) (k : Form) → s ≡ statement.If m t p q
    → stays inside (before s k) ≡ ((stays inside (form_of p.items) && stays inside (form_of q.items)) && stays inside k)
stays_in_if inside m t p q s k e =
    ap (λ (x : Statement). stays inside (before x k)) e ∙ ap (stays inside) (before_if m t p q k)
    ∙ and_along (stays inside (form_of p.items)) (stays inside (form_of q.items)) (stays inside k)

pub stays_in_loop : (inside : Bool) (m : Place) (p q : Vec Statement Global) (s : Statement) (k : Form) → s ≡ statement.Loop m p q
    → stays inside (before s k) ≡ ((stays true (form_of p.items) && stays true (form_of q.items)) && stays inside k)
stays_in_loop inside m p q s k e =
    ap (λ (x : Statement). stays inside (before x k)) e ∙ ap (stays inside) (before_loop m p q k)
    ∙ and_along (stays true (form_of p.items)) (stays true (form_of q.items)) (stays inside k)

module _ (I : Item → Type 0) (J : Test → Type 0) where
  pub each_in_if : (m : Place) (t : Test) (p q : Vec Statement Global) (s : Statement) → s ≡ statement.If m t p q
      → Each I J (before s Done) ↔ (J t × (Each I J (form_of p.items) × Each I J (form_of q.items)))
  each_in_if m t p q s e =
      let same : before s Done ≡ If m t (form_of p.items) (form_of q.items) Done = ap (λ (x : Statement). before x Done) e ∙ before_if m t p q Done in
      subst (λ (code : Form). Each I J code ↔ (J t × (Each I J (form_of p.items) × Each I J (form_of q.items)))) (sym same)
      (λ h. (h.0, (h.1, h.2)), λ h. (h.0, h.1.0, h.1.1, tt))

  pub each_in_loop : (m : Place) (p q : Vec Statement Global) (s : Statement) → s ≡ statement.Loop m p q
      → Each I J (before s Done) ↔ (Each I J (form_of p.items) × Each I J (form_of q.items))
  each_in_loop m p q s e =
      let same : before s Done ≡ Loop m (form_of p.items) (form_of q.items) Done = ap (λ (x : Statement). before x Done) e ∙ before_loop m p q Done in
      subst (λ (code : Form). Each I J code ↔ (Each I J (form_of p.items) × Each I J (form_of q.items))) (sym same)
      (λ h. (h.0, h.1), λ h. (h.0, h.1, tt))

-- ---- tests of two things, one after the other

-- W is X and Y, and Y is tested where X holds
module _ (W X Y : Type 0) (parts : W ↔ (X × Y)) where
  pub both_tested : (a b : Bool) → IsTrue a ↔ X → a ≡ true → IsTrue b ↔ Y → IsTrue b ↔ W
  both_tested a b x e y = (λ t. parts.1 (x.0 e, y.0 t), λ w. y.1 (parts.0 w).1)

  pub first_fails : (a : Bool) → IsTrue a ↔ X → a ≡ false → IsTrue a ↔ W
  first_fails a x e = (λ t. absurd (let f : a ≡ true = t in cc), λ w. x.1 (parts.0 w).0)

pub then_both : (W X Y Z : Type 0) → W ↔ (X × (Y × Z)) → X → W ↔ (Y × Z)
then_both W X Y Z parts x = (λ w. (parts.0 w).1, λ h. parts.1 (x, h))

pub returns_in_if : (m : Place) (t : Test) (p q : Vec Statement Global) (s : Statement) (k : Form) → s ≡ statement.If m t p q
    → never_returns (before s k) ≡ ((never_returns (form_of p.items) && never_returns (form_of q.items)) && never_returns k)
returns_in_if m t p q s k e =
    ap (λ (x : Statement). never_returns (before x k)) e ∙ ap never_returns (before_if m t p q k)
    ∙ and_along (never_returns (form_of p.items)) (never_returns (form_of q.items)) (never_returns k)

pub returns_in_loop : (m : Place) (p q : Vec Statement Global) (s : Statement) (k : Form) → s ≡ statement.Loop m p q
    → never_returns (before s k) ≡ ((never_returns (form_of p.items) && never_returns (form_of q.items)) && never_returns k)
returns_in_loop m p q s k e =
    ap (λ (x : Statement). never_returns (before x k)) e ∙ ap never_returns (before_loop m p q k)
    ∙ and_along (never_returns (form_of p.items)) (never_returns (form_of q.items)) (never_returns k)
