-- Functions of a form, one after the other.
use Rattle.std.proofs.Common.{◌≡◌, ℕ, zero, suc, ◌+◌, ◌<◌, Bool, List, [], ◌∷◌, ◌++◌, length, get_or, arith, sym, subst}
use Rattle.std.specs.List.{AllByRecursion}
use Rattle.dae_ir.specs.Code.{Done, Do, If, Loop, Each}
use Rattle.dae_ir.specs.Form.{Form, form_of}
use Rattle.dae_ir.specs.Classes.{Classes}
use Rattle.dae_ir.specs.Programs.{IsFunctionOf, AreFunctionsOf}
use Rattle.dae_ir.specs.Scope.{ItemIn, TestIn, FunctionIn, IsScoped}
use Rattle.dae_ir.specs.declared.form.Function.{Function}
use Rattle.dae_ir.specs.declared.form.Ir.{Ir}
use Rattle.dae_ir.specs.declared.form.Item.{Item}
use Rattle.dae_ir.specs.declared.form.Item.TheVariants.{Assign, Load, Store, Print, Expect, Break, Continue, Call, Return, Halt}
use Rattle.dae_ir.specs.declared.stream.StreamFunction.{StreamFunction}
use Rattle.dae_split.specs.Making.{ArgumentsFit, CallsFit, AllCallsFit}

-- ---- the calls of a form in scope

arguments_fit : (fs : List Function) (n : ℕ) (item : Item) → ItemIn fs n item → ArgumentsFit fs item
arguments_fit fs n (Assign v x) h = tt
arguments_fit fs n (Load v kind x) h = tt
arguments_fit fs n (Store width x y) h = tt
arguments_fit fs n (Print spelling x) h = tt
arguments_fit fs n (Expect check) h = tt
arguments_fit fs n Break h = tt
arguments_fit fs n Continue h = tt
arguments_fit fs n (Call v f xs) h = h.1
arguments_fit fs n (Return x) h = tt
arguments_fit fs n (Halt x) h = tt

calls_fit : (fs : List Function) (n : ℕ) (code : Form) → Each (ItemIn fs n) (TestIn n) code → CallsFit fs code
calls_fit fs n Done h = tt
calls_fit fs n (Do m item k) h = (arguments_fit fs n item h.0, calls_fit fs n k h.1)
calls_fit fs n (If m t p q k) h = (tt, calls_fit fs n p h.1, calls_fit fs n q h.2, calls_fit fs n k h.3)
calls_fit fs n (Loop m body step k) h = (calls_fit fs n body h.0, calls_fit fs n step h.1, calls_fit fs n k h.2)

all_fit : (fs gs : List Function) → AllByRecursion (FunctionIn fs) gs → AllCallsFit fs gs
all_fit fs [] h = tt
all_fit fs (g ∷ gs) h = (calls_fit fs g.variables (form_of g.body) (h.0).names, all_fit fs gs h.1)

pub scoped_calls : (ir : Ir) (fs : List Function) → fs ≡ ir.functions → IsScoped ir → AllCallsFit fs fs
scoped_calls ir fs e h = subst (λ (l : List Function). AllCallsFit l l) (sym e) (all_fit ir.functions ir.functions h.functions)

pub all_at : {A : Type 0} (P : A → Type 0) (xs : List A) (i : ℕ) (d : A) → i < length xs → AllByRecursion P xs → P (get_or xs i d)
all_at P [] i d lt h = absurd (omega (arith, lt))
all_at P (x ∷ xs) zero d lt h = h.0
all_at P (x ∷ xs) (suc i) d lt h = all_at P xs i d (omega (arith, lt)) h.1

pub calls_of_function : (fs : List Function) (i : ℕ) (f : Function) → i < length fs → f ≡ get_or fs i f → AllCallsFit fs fs → CallsFit fs (form_of f.body)
calls_of_function fs i f lt e h =
    subst (λ (g : Function). CallsFit fs (form_of g.body)) (sym e) (all_at (λ (g : Function). CallsFit fs (form_of g.body)) fs i f lt h)

-- ---- streams that grow by a function

module _ (by_a : Bool) (of : ℕ → Classes) (cap : ℕ) where
  pub are_more : (k j : ℕ) (fs : List Function) (gs : List StreamFunction) (f : Function) (g : StreamFunction) → j ≡ k + length fs
      → AreFunctionsOf by_a of cap k fs gs → IsFunctionOf by_a of (of j) cap f g → AreFunctionsOf by_a of cap k (fs ++ f ∷ []) (gs ++ g ∷ [])
  are_more k j [] [] f g e h is = let same : j ≡ k = omega (arith, e) in (subst (λ (n : ℕ). IsFunctionOf by_a of (of n) cap f g) same is, tt)
  are_more k j [] (y ∷ ys) f g e h is = absurd h
  are_more k j (x ∷ xs) [] f g e h is = absurd h
  are_more k j (x ∷ xs) (y ∷ ys) f g e h is = (h.0, are_more (k + 1) j xs ys f g (omega (arith, e)) h.1 is)
