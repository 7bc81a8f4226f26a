-- Tables of classes.
use Rattle.std.proofs.Common.{◌≡◌, ◌⊎◌, inl, inr, ℕ, ◌<◌, ◌≤◌, true, false, List, length, refl, ap, sym, ◌∙◌, subst, arith}
use Rattle.std.specs.Prelude.{slice_get, Some, None, Result, Ok, Err, IfOk}
use Rattle.std.proofs.lemmas.Option.{slice_get_past}
use Rattle.std.proofs.lemmas.Bool.{cases_lt, cases_Bool}
use Rattle.std.proofs.lemmas.Bool.Decides.{nat_tests}
use Rattle.dae_ir.specs.Classes.{Classes, row_of, in_a, in_e, classes_of, AreLeast}
use Rattle.dae_ir.specs.Programs.{body_in, program_of, AreClassesOf}
use Rattle.dae_ir.specs.declared.form.Function.{Function}
use Rattle.dae_ir.specs.declared.form.Ir.{Ir}
use Rattle.dae_ir.specs.declared.stream.Class.{Class}
use Rattle.dae_slice.specs.Graphs.{Family, marked, variables_of, in_range}
use Rattle.dae_slice.specs.Links.{CodeKept, IsLeastFor, IsTable, HasRows}
use Rattle.dae_slice.specs.declared.items.Sought.TheVariants.{Addresses, Needs}
use Rattle.dae_slice.specs.declared.graph.Graph.{Graph}
use Rattle.std.specs.Borrow.{Bor}

-- ---- what a table says of each variable

module _ (functions : List Function) (a e : Family) (tables : List (List Class)) (h : IsTable (length functions) functions a e tables) where
  -- an entry with these classes, or none where there is no such variable
  abbrev Entry : ℕ → ℕ → Type 0
  Entry f v = (slice_get (row_of (slice_get tables f)) v ≡ Some (record { a = a f v; e = e f v })) ⊎ ((in_range functions f v ≡ false) × (slice_get (row_of (slice_get tables f)) v ≡ None))

  at : (f v : ℕ) → Entry f v
  at f v = by_function (cases_lt f (length functions))
    where
      by_variable : f < length functions → (v < variables_of (slice_get functions f)) ⊎ (variables_of (slice_get functions f) ≤ v) → Entry f v
      by_variable lt (inl less) = inl ((h.row f lt).classes v less)
      by_variable lt (inr past) =
          let count = (h.row f lt).count in
          inr (grind (arith, nat_tests), slice_get_past (row_of (slice_get tables f)) v (omega arith))

      by_function : (f < length functions) ⊎ (length functions ≤ f) → Entry f v
      by_function (inl lt) = by_variable lt (cases_lt v (variables_of (slice_get functions f)))
      by_function (inr past) =
          let n = h.rows in
          inr (rw (slice_get_past functions f past) (grind (arith, nat_tests)), rw (slice_get_past tables f (omega arith)) refl)

  module _ (s : Family) (inside : (f v : ℕ) → s f v ≡ true → in_range functions f v ≡ true) where
    -- what is not there is not in the set
    outside : (f v : ℕ) → in_range functions f v ≡ false → s f v ≡ false
    outside f v out = elim (cases_Bool (s f v)) [ inl is ↦ (let k = inside f v is in cc) | inr other ↦ other ]

  pub a_is : ((f v : ℕ) → a f v ≡ true → in_range functions f v ≡ true) → (f v : ℕ) → in_a (slice_get (row_of (slice_get tables f)) v) ≡ a f v
  a_is inside f v = elim (at f v) [ inl here ↦ ap in_a here | inr none ↦ ap in_a none.1 ∙ sym (outside a inside f v none.0) ]

  pub e_is : ((f v : ℕ) → e f v ≡ true → in_range functions f v ≡ true) → (f v : ℕ) → in_e (slice_get (row_of (slice_get tables f)) v) ≡ e f v
  e_is inside f v = elim (at f v) [ inl here ↦ ap in_e here | inr none ↦ ap in_e none.1 ∙ sym (outside e inside f v none.0) ]

  pub has_rows : HasRows functions tables
  has_rows = record { count = h.rows; lengths = λ f. by_function f (cases_lt f (length functions)) }
    where
      by_function : (f : ℕ) → (f < length functions) ⊎ (length functions ≤ f) → length (row_of (slice_get tables f)) ≡ variables_of (slice_get functions f)
      by_function f (inl lt) = (h.row f lt).count
      by_function f (inr past) =
          let n = h.rows in
          rw (slice_get_past functions f past, slice_get_past tables f (omega arith)) refl

-- ---- the classes of the whole

pub are_classes : (ir : Ir) (a : Bor Graph) (e : Family) (tables : List (List Class))
    → IsLeastFor Addresses ir.functions (marked a.now) → IsLeastFor (Needs a) ir.functions e
    → ((f : ℕ) → CodeKept Addresses (in_range ir.functions) f (body_in (slice_get ir.functions f)))
    → ((f : ℕ) → CodeKept (Needs a) (in_range ir.functions) f (body_in (slice_get ir.functions f)))
    → IsTable (length ir.functions) ir.functions (marked a.now) e tables → AreClassesOf ir tables
are_classes ir a e tables ha he ra re t =
    let of : ℕ → Classes = λ f. record { s = marked a.now f; needs = e f } in
    let least : AreLeast (program_of ir) of = record {
      closed = record { addresses = ha.kept; needs = he.kept };
      addresses = ha.least;
      needs = he.least;
    } in
    let sa = a_is ir.functions (marked a.now) e tables t (λ f v m. ha.least (in_range ir.functions) ra f v m) in
    let se = e_is ir.functions (marked a.now) e tables t (λ f v m. he.least (in_range ir.functions) re f v m) in
    let same : classes_of tables ≡ of = λ i f. record { s = λ v. sa f v i; needs = λ v. se f v i } in
    subst (AreLeast (program_of ir)) (sym same) least

pub if_ok_more : {A E : Type 0} (P Q : A → Type 0) (r : Result A E) → IfOk r P → ((x : A) → P x → Q x) → IfOk r Q
if_ok_more P Q (Ok x) h f = f x h
if_ok_more P Q (Err e) h f = tt
