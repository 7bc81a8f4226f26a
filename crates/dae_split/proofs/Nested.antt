-- Regions of nested statements.
use Rattle.std.proofs.Common.{◌≡◌, Bool, true, false, ◌&&◌, ◌||◌, refl, ap, ◌∙◌}
use Rattle.std.specs.Prelude.{Vec}
use Rattle.std.specs.declared.alloc.Global.{Global}
use Rattle.dae_base.specs.declared.Place.{Place}
use Rattle.dae_ir.specs.Code.{If, Loop, every}
use Rattle.dae_ir.specs.Form.{Form, before, form_of}
use Rattle.dae_ir.specs.Classes.{Classes}
use Rattle.dae_ir.specs.Rounds.{stays}
use Rattle.dae_ir.specs.Streams.{has_loop}
use Rattle.dae_ir.specs.declared.form.Test.{Test}
use Rattle.dae_ir.specs.declared.form.Statement.{Statement}
use Rattle.dae_ir.specs.declared.form.Statement.TheVariants as statement
use Rattle.dae_split.specs.Making.{item_of, test_of, fits}
use Rattle.dae_ir.proofs.Laws.{before_if, before_loop}

-- ---- loops

pub loop_in_if : (m : Place) (t : Test) (p q : Vec Statement Global) (s : Statement) (k : Form) → s ≡ statement.If m t p q → has_loop (before s k) ≡ (has_loop (form_of p.items) || (has_loop (form_of q.items) || has_loop k))
loop_in_if m t p q s k e = ap (λ (x : Statement). has_loop (before x k)) e ∙ ap has_loop (before_if m t p q k)

-- ---- what fits

three_and : (t p q k x y z : Bool) → ((t && (p && (q && k))) && (x && (y && z))) ≡ ((t && ((p && x) && (q && y))) && (k && z))
three_and false p q k x y z = refl
three_and true false q k x y z = refl
three_and true true false k false y z = refl
three_and true true false k true false z = refl
three_and true true false k true true z = refl
three_and true true true k false y z = no_first k y z
  where
    no_first : (k y z : Bool) → (k && false) ≡ false
    no_first true y z = refl
    no_first false y z = refl
three_and true true true false true false z = refl
three_and true true true true true false z = refl
three_and true true true k true true z = refl

pub fits_if : (by_a : Bool) (c : Classes) (inside : Bool) (m : Place) (t : Test) (p q k : Form) → fits by_a c inside (If m t p q k) ≡ ((test_of by_a c t && (fits by_a c inside p && fits by_a c inside q)) && fits by_a c inside k)
fits_if by_a c inside m t p q k =
    three_and (test_of by_a c t) (every (item_of by_a c) (test_of by_a c) p) (every (item_of by_a c) (test_of by_a c) q) (every (item_of by_a c) (test_of by_a c) k) (stays inside p) (stays inside q) (stays inside k)

pub fits_loop : (by_a : Bool) (c : Classes) (inside : Bool) (m : Place) (p q k : Form) → fits by_a c inside (Loop m p q k) ≡ ((fits by_a c true p && fits by_a c true q) && fits by_a c inside k)
fits_loop by_a c inside m p q k =
    three_and true (every (item_of by_a c) (test_of by_a c) p) (every (item_of by_a c) (test_of by_a c) q) (every (item_of by_a c) (test_of by_a c) k) (stays true p) (stays true q) (stays inside k)

pub fits_in_if : (by_a : Bool) (c : Classes) (inside : Bool) (m : Place) (t : Test) (p q : Vec Statement Global) (s : Statement) (k : Form) → s ≡ statement.If m t p q
    → fits by_a c inside (before s k) ≡ ((test_of by_a c t && (fits by_a c inside (form_of p.items) && fits by_a c inside (form_of q.items))) && fits by_a c inside k)
fits_in_if by_a c inside m t p q s k e =
    ap (λ (x : Statement). fits by_a c inside (before x k)) e ∙ ap (fits by_a c inside) (before_if m t p q k) ∙ fits_if by_a c inside m t (form_of p.items) (form_of q.items) k

pub fits_in_loop : (by_a : Bool) (c : Classes) (inside : Bool) (m : Place) (p q : Vec Statement Global) (s : Statement) (k : Form) → s ≡ statement.Loop m p q
    → fits by_a c inside (before s k) ≡ ((fits by_a c true (form_of p.items) && fits by_a c true (form_of q.items)) && fits by_a c inside k)
fits_in_loop by_a c inside m p q s k e =
    ap (λ (x : Statement). fits by_a c inside (before x k)) e ∙ ap (fits by_a c inside) (before_loop m p q k) ∙ fits_loop by_a c inside m (form_of p.items) (form_of q.items) k
