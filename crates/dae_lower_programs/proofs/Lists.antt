-- The forms of a program's functions, in order, and the parameters of these.
use Rattle.std.proofs.Common.{◌≡◌, ℕ, zero, suc, ◌+◌, ◌%◌, ◌^◌, ◌<◌, ◌≤◌, true, false, ◌&&◌, Some, List, [], ◌∷◌, ◌++◌, length, drop, get_or, ap, sym, ◌∙◌, subst, arith, append-nil, append_assoc}
use Rattle.std.proofs.lemmas.Bool.{leb-true}
use Rattle.std.proofs.lemmas.List.{drop_all}
use Rattle.std.specs.Prelude.{nat_eq, nat_le, slice_get}
use Rattle.std.specs.List.{AllByRecursion, list_all}
use Rattle.dae_base.proofs.Laws.{and_first, and_second, drop_at}
use Rattle.dae_lower_formed.specs.Formed.{AreFormsOf, IsFunctionFormOf}
use Rattle.dae_ir.specs.declared.form.Function.{Function as FormFunction}
use Rattle.dae_lower_programs.specs.Sound.{IsNumbered}
use Rattle.dae_program.specs.Lawful.{FunctionBounds, are_inside, are_sound_statements, is_lawful_in, is_lawful_memory, is_main, is_ready, is_sound_slot, is_well_placed, parameter_count, spares}
use Rattle.dae_program.specs.Resolved.{function_in}
use Rattle.dae_program.specs.declared.program.Function.{Function}
use Rattle.dae_program.specs.declared.program.Links.{Links}
use Rattle.dae_program.specs.declared.program.Program.{Program}

-- so far there are these, and with those of the functions from an index on they are all
pub record Starts (p : Program) (fs : List Function) (i : ℕ) (forms : List FormFunction) : Type 0 where
  pub ends : (rest : List FormFunction) → AreFormsOf p i (drop i fs) rest → AreFormsOf p 0 fs (forms ++ rest)

pub first_forms : (p : Program) (fs : List Function) (forms : List FormFunction) → forms ≡ [] → Starts p fs 0 forms
first_forms p fs forms e = record { ends = λ rest h. subst (λ (gs : List FormFunction). AreFormsOf p 0 fs (gs ++ rest)) (sym e) h }

pub next_forms : (p : Program) (fs : List Function) (i : ℕ) (f : Function) (g : FormFunction) (forms new : List FormFunction) → i < length fs → f ≡ get_or fs i f
    → Starts p fs i forms → IsFunctionFormOf p i f g → new ≡ forms ++ g ∷ [] → Starts p fs (i + 1) new
next_forms p fs i f g forms new lt is h k e = record {
  ends = λ rest r.
      subst (λ (gs : List FormFunction). AreFormsOf p 0 fs gs)
      (sym (append_assoc forms (g ∷ []) rest) ∙ ap (λ (gs : List FormFunction). gs ++ rest) (sym e))
      (h.ends (g ∷ rest) (subst (λ (xs : List Function). AreFormsOf p i xs (g ∷ rest)) (sym (drop_at fs i f lt is)) (k, r)));
}

pub last_forms : (p : Program) (fs : List Function) (i : ℕ) (forms : List FormFunction) → length fs ≤ i → Starts p fs i forms → AreFormsOf p 0 fs forms
last_forms p fs i forms le h =
    subst (λ (gs : List FormFunction). AreFormsOf p 0 fs gs) (append-nil forms)
    (h.ends [] (subst (λ (xs : List Function). AreFormsOf p i xs []) (sym (drop_all i fs le)) tt))

pub there : (fs : List Function) (i : ℕ) (f : Function) → i < length fs → f ≡ get_or fs i f → slice_get fs i ≡ Some f
there [] i f lt is = absurd (omega (arith, lt))
there (g ∷ gs) zero f lt is = ap Some (sym is)
there (g ∷ gs) (suc i) f lt is = there gs i f (omega (arith, lt)) is

-- ---- parameters

pub below_word : (f : Function) → IsNumbered f → f.variables < 2 ^ 32 → 1 + length f.parameters < 2 ^ 32
below_word f h word = omega (arith, h.parameters, word)

pub numbered_at : (fs : List Function) (i : ℕ) (f : Function) → i < length fs → f ≡ get_or fs i f → AllByRecursion IsNumbered fs → IsNumbered f
numbered_at [] i f lt is all = absurd (omega (arith, lt))
numbered_at (g ∷ gs) zero f lt is all = subst IsNumbered (sym is) all.0
numbered_at (g ∷ gs) (suc i) f lt is all = numbered_at gs i f (omega (arith, lt)) is all.1

lawful_numbers : (memory : ℕ) (links : List Links) (functions : List Function) (f : Function) → is_lawful_in memory links functions true f ≡ true → IsNumbered f
lawful_numbers memory links functions f h =
    let g = function_in (length functions) links (Some f) in
    let b : FunctionBounds = record { variables = f.variables; parameters = λ k. parameter_count (slice_get functions (g.callee k)); address = g.address; memory = memory; frame = g.frame } in
    let sound = list_all (is_sound_slot g.frame) g.parameters && are_sound_statements b g.body in
    let first = nat_eq (g.frame % 4) 0 && nat_le (1 + length g.parameters) f.variables in
    let both = and_first (first && sound) (are_inside false false true g.body) h in
    record {
      parameters = leb-true (1 + length f.parameters) f.variables (and_second (nat_eq (g.frame % 4) 0) _ (and_first first sound both));
      statements = record { bounds = b; sound = and_second (list_all (is_sound_slot g.frame) g.parameters) _ (and_second first sound both) };
    }

all_numbered : (memory : ℕ) (links : List Links) (functions fs : List Function) → list_all (is_lawful_in memory links functions true) fs ≡ true → AllByRecursion IsNumbered fs
all_numbered memory links functions [] h = tt
all_numbered memory links functions (f ∷ fs) h = (
  lawful_numbers memory links functions f (and_first (is_lawful_in memory links functions true f) (list_all (is_lawful_in memory links functions true) fs) h),
  all_numbered memory links functions fs (and_second (is_lawful_in memory links functions true f) _ h),
)

-- a lawful program
pub functions_numbered : (p : Program) → AllByRecursion IsNumbered p.functions
functions_numbered p =
    all_numbered p.memory p.links p.functions p.functions
    (and_second (list_all (spares p.main) p.links) _
    (and_second (is_lawful_memory p.memory p.frames (length p.content) && is_main p.memory p.links p.functions (slice_get p.functions p.main)) _
    (and_first (is_well_placed p.memory p.frames p.content p.links p.functions p.main) (list_all (is_ready p.links p.functions) p.functions) p.lawful)))
