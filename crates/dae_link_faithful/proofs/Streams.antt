-- The two streams of a scoped form whose functions end with a return or a halt.
use Rattle.std.proofs.Common.{◌≡◌, ℕ, ◌<◌, Bool, true, false, List, length, refl, sym, subst, inl, inr, arith}
use Rattle.std.specs.Prelude.{Option, Some, None, slice_get}
use Rattle.std.proofs.lemmas.Option.{slice_get_cases, slice_get_within}
use Rattle.dae_base.proofs.Laws.{all_at}
use Rattle.dae_ir.specs.Code.{Code, Done, Do, If, Loop, Each}
use Rattle.dae_ir.specs.Form.{form_of, Program}
use Rattle.dae_ir.specs.Classes.{Classes, classes_of, AddressesKept, NeedsKept, TestKept, AreClosed}
use Rattle.dae_ir.specs.Rounds.{stays}
use Rattle.dae_ir.specs.Scope.{ItemIn, TestIn, TakesArguments, FunctionIn, IsScoped}
use Rattle.dae_ir.specs.Streams.{set_of}
use Rattle.dae_ir.specs.Programs.{program_of, body_in}
use Rattle.dae_ir.specs.declared.form.Ir.{Ir}
use Rattle.dae_ir.specs.declared.form.Function.{Function}
use Rattle.dae_ir.specs.declared.form.Item.{Item}
use Rattle.dae_ir.specs.declared.form.Item.TheVariants.{Assign, Load, Store, Print, Expect, Break as Leave, Continue as Skip, Call as Enter, Return as Give, Halt}
use Rattle.dae_ir.specs.declared.stream.Class.{Class}
use Rattle.dae_link_faithful.specs.Made.{AreWhole, stream}
use Rattle.dae_link_faithful.proofs.Usable.{FormCloses, FormsClose}
use Rattle.dae_link_faithful.proofs.Whole.{ItemFits, FormFits, stream_fits, stream_tight, stream_closes}

pub each_both : {M L T : Type 0} (I I' J : L → Type 0) (K K' H : T → Type 0) → ((x : L) → I x → I' x → J x) → ((t : T) → H t) → (code : Code M L T) → Each I K code → Each I' K' code → Each J H code
each_both I I' J K K' H f g Done h i = tt
each_both I I' J K K' H f g (Do m x k) h i = (f x h.0 i.0, each_both I I' J K K' H f g k h.1 i.1)
each_both I I' J K K' H f g (If m t p q k) h i = (g t, each_both I I' J K K' H f g p h.1 i.1, each_both I I' J K K' H f g q h.2 i.2, each_both I I' J K K' H f g k h.3 i.3)
each_both I I' J K K' H f g (Loop m p q k) h i = (each_both I I' J K K' H f g p h.0 i.0, each_both I I' J K K' H f g q h.1 i.1, each_both I I' J K K' H f g k h.2 i.2)

there : (functions : List Function) (o : Option Function) (g n : ℕ) → slice_get functions g ≡ o → TakesArguments o n → g < length functions
there functions None g n e h = absurd h
there functions (Some x) g n e h = slice_get_within functions g x e

module _ (ir : Ir) (tables : List (List Class)) (cap : ℕ) (closed : AreClosed (program_of ir) (classes_of tables)) where
  abbrev of : ℕ → Classes
  of = classes_of tables

  abbrev p : Program
  p = program_of ir

  abbrev Fit : Bool → ℕ → Item → Type 0
  Fit by_a f item = ItemFits by_a of cap (length ir.functions) f item

  -- what A's sets keep, and what E's keep
  a_fits : (f n : ℕ) (item : Item) → AddressesKept (λ g. (of g).s) (of f).s item → ItemIn ir.functions n item → Fit true f item
  a_fits f n (Assign v x) h i = tt
  a_fits f n (Load v kind x) h i = tt
  a_fits f n (Store width x y) h i = tt
  a_fits f n (Print spelling x) h i = tt
  a_fits f n (Expect check) h i = tt
  a_fits f n Leave h i = tt
  a_fits f n Skip h i = tt
  a_fits f n (Enter v g xs) h i = (there ir.functions (slice_get ir.functions g) g (length xs) refl i.1, h.result)
  a_fits f n (Give x) h i = tt
  a_fits f n (Halt x) h i = tt

  e_fits : (f n : ℕ) (item : Item) → NeedsKept (λ g. (of g).needs) (of f).s (of f).needs item → ItemIn ir.functions n item → Fit false f item
  e_fits f n (Assign v x) h i = tt
  e_fits f n (Load v kind x) h i = tt
  e_fits f n (Store width x y) h i = tt
  e_fits f n (Print spelling x) h i = tt
  e_fits f n (Expect check) h i = tt
  e_fits f n Leave h i = tt
  e_fits f n Skip h i = tt
  e_fits f n (Enter v g xs) h i = (there ir.functions (slice_get ir.functions g) g (length xs) refl i.1, h.result)
  e_fits f n (Give x) h i = tt
  e_fits f n (Halt x) h i = tt

  body_fits : (by_a : Bool) (f n : ℕ) → Each (ItemIn ir.functions n) (TestIn n) (p.body f) → FormFits by_a of cap (length ir.functions) f (p.body f)
  body_fits true f n i = each_both (AddressesKept (λ g. (of g).s) (of f).s) (ItemIn ir.functions n) (Fit true f) (λ t. Unit {0}) (TestIn n) (λ t. Unit {0}) (a_fits f n) (λ t. tt) (p.body f) (closed.addresses f) i
  body_fits false f n i = each_both (NeedsKept (λ g. (of g).needs) (of f).s (of f).needs) (ItemIn ir.functions n) (Fit false f) (TestKept (of f).s (of f).needs) (TestIn n) (λ t. Unit {0}) (e_fits f n) (λ t. tt) (p.body f) (closed.needs f) i

  pub record Found (f : ℕ) : Type 0 where
    pub function : Function
    pub is : slice_get ir.functions f ≡ Some function

  pub found : (f : ℕ) → f < length ir.functions → Found f
  found f small = elim ((slice_get_cases ir.functions f).1) [
    | inl h ↦ record { function = h.0; is = h.2 }
    | inr h ↦ (let past = h.0 in absurd (omega arith))
  ]

  pub are_whole : (by_a : Bool) → IsScoped ir → FormsClose ir → AreWhole (length ir.functions) (λ g. set_of by_a (of g) 0) (stream ir tables cap by_a)
  are_whole by_a scoped ends = record {
    fits = λ f small. (let x = found f small in let i = all_at (FunctionIn ir.functions) ir.functions f x.function scoped.functions x.is in stream_fits by_a of cap (length ir.functions) f (p.body f) (body_fits by_a f x.function.variables (subst (λ (o : Option Function). Each (ItemIn ir.functions x.function.variables) (TestIn x.function.variables) (body_in o)) (sym x.is) i.names)));
    tight = λ f small. (let x = found f small in let i = all_at (FunctionIn ir.functions) ir.functions f x.function scoped.functions x.is in stream_tight by_a of cap (length ir.functions) f (p.body f) (subst (λ (o : Option Function). stays false (body_in o) ≡ true) (sym x.is) i.loops));
    closed = λ f small. (let x = found f small in let i = all_at (λ (function : Function). FormCloses (form_of function.body)) ir.functions f x.function ends x.is in stream_closes by_a of cap (length ir.functions) f (p.body f) (subst (λ (o : Option Function). FormCloses (body_in o)) (sym x.is) i));
  }
