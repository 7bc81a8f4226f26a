-- What is live where a function begins is given by its calls, and main reads nothing.
use Rattle.std.proofs.Common.{◌≡◌, ℕ, ◌+◌, ◌≤◌, ◌<◌, Bool, true, false, ◌&&◌, List, [], ◌∷◌, length, refl, sym, subst, arith}
use Rattle.std.specs.Prelude.{Option, Some, slice_get, nat_eq, nat_lt, nat_le, if◌then◌else◌}
use Rattle.std.proofs.lemmas.Bool.Decides.{nat_tests}
use Rattle.std.proofs.lemmas.Bool.{and_parts}
use Rattle.dae_ir.specs.Classes.{VariableSet, classes_of, AreClosed}
use Rattle.dae_ir.specs.SetFirst.{IsSetFirst, form_flow, parameters_set, IsFunctionSetFirst}
use Rattle.dae_ir.specs.Streams.{set_of, arguments_in}
use Rattle.dae_ir.specs.Programs.{program_of, body_in}
use Rattle.dae_ir.specs.declared.form.Ir.{Ir}
use Rattle.dae_ir.specs.declared.form.Function.{Function}
use Rattle.dae_ir.specs.declared.form.Operand.{Operand}
use Rattle.dae_ir.specs.declared.stream.Class.{Class}
use Rattle.dae_ir_pair.proofs.Laws.{streams_set_first}
use Rattle.dae_select_walks.specs.Live.{live, nowhere}
use Rattle.dae_select_walks.specs.Agrees.{Plan}
use Rattle.dae_select_walks.proofs.LawsOfWalks.{live_set}
use Rattle.dae_select_blocks.specs.Wanted.{gives, HaveHomes}
use Rattle.dae_link_faithful.specs.Made.{stream}

-- arguments for the parameters from k on that are in the set
gives_all : (callee : VariableSet) (k : ℕ) (xs : List Operand) (u : ℕ) → k ≤ u → u < k + length xs → callee u ≡ true → gives (arguments_in callee k xs) u ≡ true
gives_all callee k [] u low high h = absurd (omega arith)
gives_all callee k (x ∷ xs) u low high h = by (nat_eq u k) (callee k) refl refl (λ l. gives_all callee (k + 1) xs u l (omega arith) h)
  where
    by : (same has : Bool) → nat_eq u k ≡ same → callee k ≡ has → (k + 1 ≤ u → gives (arguments_in callee (k + 1) xs) u ≡ true) → gives (if has then record { parameter = k; operand = x } ∷ arguments_in callee (k + 1) xs else arguments_in callee (k + 1) xs) u ≡ true
    by true true e f later = rw e refl
    by true false e f later = let same : u ≡ k = grind (arith, nat_tests) in absurd (let z : callee k ≡ true = subst (λ (j : ℕ). callee j ≡ true) same h in cc)
    by false true e f later = let r = later (grind (arith, nat_tests)) in rw (e, r) refl
    by false false e f later = later (grind (arith, nat_tests))

gives_within : (callee : VariableSet) (k : ℕ) (xs : List Operand) (u : ℕ) → gives (arguments_in callee k xs) u ≡ true → (k ≤ u) × (u < k + length xs)
gives_within callee k [] u h = absurd cc
gives_within callee k (x ∷ xs) u h = by (nat_eq u k) (callee k) refl h (λ i. gives_within callee (k + 1) xs u i)
  where
    by : (same has : Bool) → nat_eq u k ≡ same → gives (if has then record { parameter = k; operand = x } ∷ arguments_in callee (k + 1) xs else arguments_in callee (k + 1) xs) u ≡ true
        → (gives (arguments_in callee (k + 1) xs) u ≡ true → (k + 1 ≤ u) × (u < k + 1 + length xs)) → (k ≤ u) × (u < k + length (x ∷ xs))
    by true has e h later = (let same : u ≡ k = grind (arith, nat_tests) in (omega arith, omega arith))
    by false true e h later = (let r = later (rw e at h) in let low = r.0 in let high = r.1 in (omega arith, omega arith))
    by false false e h later = (let r = later h in let low = r.0 in let high = r.1 in (omega arith, omega arith))

module _ (ir : Ir) (tables : List (List Class)) (cap : ℕ) (closed : AreClosed (program_of ir) (classes_of tables)) (b : Bool) where
  -- only parameters that the side has are live
  pub entry_reads : (g : ℕ) (function : Function) → slice_get ir.functions g ≡ Some function → IsFunctionSetFirst function → (u : ℕ) → live (stream ir tables cap b g) nowhere u ≡ true → (parameters_set function.parameters u ≡ true) × (set_of b (classes_of tables g) u ≡ true)
  entry_reads g function is first u h =
      let d : VariableSet = λ v. parameters_set function.parameters v && set_of b (classes_of tables g) v in
      let form = subst (λ (o : Option Function). IsSetFirst form_flow (parameters_set function.parameters) (body_in o)) (sym is) first in
      and_parts (parameters_set function.parameters u) (set_of b (classes_of tables g) u) (live_set (stream ir tables cap b g) d nowhere (streams_set_first (program_of ir) (classes_of tables) closed b cap g (parameters_set function.parameters) form) (λ v e. absurd cc) (λ v e. absurd cc) (λ v e. absurd cc) u h)

  -- and a call gives them
  pub entry_given : (g : ℕ) (function : Function) → slice_get ir.functions g ≡ Some function → IsFunctionSetFirst function → (xs : List Operand) → length xs ≡ function.parameters → (u : ℕ) → live (stream ir tables cap b g) nowhere u ≡ true → gives (arguments_in (set_of b (classes_of tables g)) 1 xs) u ≡ true
  entry_given g function is first xs count u h =
      let r = entry_reads g function is first u h in
      let s = and_parts (nat_lt 0 u) (nat_le u function.parameters) r.0 in
      let low = s.0 in let high = s.1 in
      gives_all (set_of b (classes_of tables g)) 1 xs u (grind (arith, nat_tests)) (grind (arith, nat_tests)) r.1

  -- main has no parameters
  pub main_reads : (g : ℕ) (function : Function) → slice_get ir.functions g ≡ Some function → IsFunctionSetFirst function → function.parameters ≡ 0 → (u : ℕ) → live (stream ir tables cap b g) nowhere u ≡ false
  main_reads g function is first none u = by (live (stream ir tables cap b g) nowhere u) refl
    where
      by : (t : Bool) → live (stream ir tables cap b g) nowhere u ≡ t → live (stream ir tables cap b g) nowhere u ≡ false
      by false e = e
      by true e =
          let r = entry_reads g function is first u e in
          let s = and_parts (nat_lt 0 u) (nat_le u function.parameters) r.0 in
          let low = s.0 in let high = s.1 in
          absurd (grind (arith, nat_tests))

-- what the parameters' homes are, so are those of the arguments
pub arguments_homes : (plan : Plan) (g : ℕ) (callee : VariableSet) (xs : List Operand) (count : ℕ) → length xs ≡ count → HaveHomes plan g (parameters_set count) → HaveHomes plan g (gives (arguments_in callee 1 xs))
arguments_homes plan g callee xs count same homes =
    record { apart = λ u v hu hv other. homes.apart u v (inside u hu) (inside v hv) other; free = λ u n r hu. homes.free u n r (inside u hu); unspared = λ u r hu. homes.unspared u r (inside u hu) }
  where
    inside : (u : ℕ) → gives (arguments_in callee 1 xs) u ≡ true → parameters_set count u ≡ true
    inside u h =
        let r = gives_within callee 1 xs u h in
        let low = r.0 in let high = r.1 in
        let one : nat_lt 0 u ≡ true = grind (arith, nat_tests) in
        let two : nat_le u count ≡ true = grind (arith, nat_tests) in
        rw (one, two) refl
