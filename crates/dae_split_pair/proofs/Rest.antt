-- A test of a list that goes on as long as each item passes.
use Rattle.std.proofs.Common.{◌≡◌, ◌↔◌, ℕ, ◌+◌, ◌<◌, Bool, true, false, List, length, drop, get_or}
use Rattle.std.specs.Prelude.{IsTrue}
use Rattle.std.specs.List.{AllByRecursion}
use Rattle.std.proofs.lemmas.Bool.{iff_false}
use Rattle.dae_ir.specs.Code.{Each, Done}
use Rattle.dae_ir.specs.Form.{before, form_of}
use Rattle.dae_ir.specs.declared.form.Item.{Item}
use Rattle.dae_ir.specs.declared.form.Statement.{Statement}
use Rattle.dae_ir.specs.declared.form.Test.{Test}
use Rattle.dae_base.proofs.Laws.{drop_at}
use Rattle.dae_ir.proofs.Laws.{each_before}

-- of the whole W, R is still to be tested: X of the next item, and S of the items behind it
module _ (W R X S : Type 0) (next : R ↔ (X × S)) (so_far : R ↔ W) (b : Bool) (test : IsTrue b ↔ X) where
  pub goes_on : b ≡ true → S ↔ W
  goes_on e = (λ s. so_far.0 (next.1 (test.0 e, s)), λ w. (next.0 (so_far.1 w)).1)

  pub gives_up : b ≡ false → IsTrue false ↔ W
  gives_up e = (λ t. absurd (let f : false ≡ true = t in cc), λ w. absurd (iff_false test e (next.0 (so_far.1 w)).0))

-- ---- what is still to be tested

pub all_next : {A : Type 0} (P : A → Type 0) (xs : List A) (i : ℕ) (x : A) → i < length xs → x ≡ get_or xs i x
    → AllByRecursion P (drop i xs) ↔ (P x × AllByRecursion P (drop (i + 1) xs))
all_next P xs i x lt is = rw (drop_at xs i x lt is) (λ h. h, λ h. h)

pub each_next : (I : Item → Type 0) (J : Test → Type 0) (ss : List Statement) (i : ℕ) (s : Statement) → i < length ss → s ≡ get_or ss i s
    → Each I J (form_of (drop i ss)) ↔ (Each I J (before s Done) × Each I J (form_of (drop (i + 1) ss)))
each_next I J ss i s lt is = rw (drop_at ss i s lt is) (each_before I J s (form_of (drop (i + 1) ss)))
