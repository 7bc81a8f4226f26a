-- A function that is the same in two files has as many parameters in both.
use Rattle.std.proofs.Common.{◌≡◌, ℕ, zero, suc, ◌+◌, ◌<◌, Bool, true, false, List, [], ◌∷◌, ◌++◌, length, inl, inr, refl, sym, ap, ◌∙◌, arith}
use Rattle.std.proofs.lemmas.Bool.{false≢true, and_parts, cases_lt}
use Rattle.std.proofs.lemmas.List.{length-append}
use Rattle.dae_types_kinds.specs.declared.types.Shape.{Shape}
use Rattle.dae_types_kinds.specs.declared.types.Shape.TheVariants as shape
use Rattle.dae_types_kinds.specs.Tables.{Tables}
use Rattle.dae_types_kinds.specs.Types.{shape_of, is_function}
use Rattle.dae_types_kinds.specs.Values.{parameters_of}
use Rattle.dae_types_plans.specs.Steps.{parameters_from}
use Rattle.dae_types_typed.specs.declared.files.FileParts.{FileParts}
use Rattle.dae_types_typed.specs.Sound.{tables_of, IsSound}
use Rattle.dae_unit.specs.Across.{same_within_files, shape_across}
use Rattle.dae_unit_join.proofs.Layouts.{past_shapes}

-- the counter is above a list of parameters
abbrev Suffices : Tables → (counter n : ℕ) → Type 0
Suffices s counter n = (before' t : ℕ) → shape_of s n ≡ shape.Parameter before' t → n < counter

no_list : (before' t : ℕ) → shape.Void ≡ shape.Parameter before' t → ⊥
no_list before' t p = cc

all_suffice : (s : Tables) (n : ℕ) → Suffices s (length s.shapes) n
all_suffice s n before' t p = elim (cases_lt n (length s.shapes)) [ inl l ↦ l | inr l ↦ absurd (no_list before' t (sym (past_shapes s n l) ∙ p)) ]

abbrev is_list : Shape → Bool
is_list (shape.Parameter before' t) = true
is_list _ = false

none_from : (a : ℕ) (s : Tables) (x : Shape) → is_list x ≡ false → parameters_from a s x ≡ []
none_from zero s x h = refl
none_from (suc a) s (shape.Parameter before' t) h = absurd cc
none_from (suc a) s x h = refl

one_longer : (xs ys : List ℕ) (t u : ℕ) → length xs ≡ length ys → length (xs ++ t ∷ []) ≡ length (ys ++ u ∷ [])
one_longer xs ys t u e = length-append xs (t ∷ []) ∙ ap (λ n. n + 1) e ∙ sym (length-append ys (u ∷ []))

-- how many parameters a type of functions has
abbrev pub count_of : FileParts → ℕ → ℕ
count_of f t = length (parameters_from (length f.shapes) (tables_of f) (shape_of (tables_of f) (parameters_of (shape_of (tables_of f) t))))

module _ (f g : FileParts) (sf : IsSound f) (sg : IsSound g) where
  abbrev Longer : (k : ℕ) → Type 0
  Longer k = (a b m n : ℕ) → Suffices (tables_of f) a m → Suffices (tables_of g) b n → same_within_files k f g false m n ≡ true →
      length (parameters_from a (tables_of f) (shape_of (tables_of f) m)) ≡ length (parameters_from b (tables_of g) (shape_of (tables_of g) n))

  by_shapes : (k : ℕ) → Longer k → (a b m n : ℕ) → Suffices (tables_of f) a m → Suffices (tables_of g) b n → (x : Shape) → shape_of (tables_of f) m ≡ x → (y : Shape) → shape_of (tables_of g) n ≡ y → shape_across (same_within_files k f g) f g false x y ≡ true → length (parameters_from a (tables_of f) x) ≡ length (parameters_from b (tables_of g) y)
  by_shapes k later zero b m n i j (shape.Parameter ps t) p (shape.Parameter qs u) q h = let l = i ps t p in absurd (omega arith)
  by_shapes k later (suc a) zero m n i j (shape.Parameter ps t) p (shape.Parameter qs u) q h = let l = j qs u q in absurd (omega arith)
  by_shapes k later (suc a) (suc b) m n i j (shape.Parameter ps t) p (shape.Parameter qs u) q h =
      let parts = and_parts (same_within_files k f g false ps qs) (same_within_files k f g false t u) h in
      let left : ps < a = (let l = i ps t p in let c = sf.chains m ps t p in omega arith) in
      let right : qs < b = (let l = j qs u q in let c = sg.chains n qs u q in omega arith) in
      one_longer (parameters_from a (tables_of f) (shape_of (tables_of f) ps)) (parameters_from b (tables_of g) (shape_of (tables_of g) qs)) t u
      (later a b ps qs (λ before' t p. left) (λ before' t p. right) parts.0)
  by_shapes k later a b m n i j (shape.Parameter ps t) p y q h = absurd (false≢true h)
  by_shapes k later a b m n i j x p (shape.Parameter qs u) q h = absurd (false≢true h)
  by_shapes k later a b m n i j x p y q h = ap length (none_from a (tables_of f) x refl) ∙ sym (ap length (none_from b (tables_of g) y refl))

  longer : (k : ℕ) → Longer k
  longer zero a b m n i j h = absurd (false≢true h)
  longer (suc k) a b m n i j h = by_shapes k (longer k) a b m n i j (shape_of (tables_of f) m) refl (shape_of (tables_of g) n) refl h

  functions_alike : (k : ℕ) (x : Shape) (y : Shape) → is_function x ≡ true → is_function y ≡ true → shape_across (same_within_files k f g) f g false x y ≡ true →
      length (parameters_from (length f.shapes) (tables_of f) (shape_of (tables_of f) (parameters_of x))) ≡ length (parameters_from (length g.shapes) (tables_of g) (shape_of (tables_of g) (parameters_of y)))
  functions_alike k (shape.Function r ps) (shape.Function t qs) a b h =
      let parts = and_parts (same_within_files k f g false r t) (same_within_files k f g false ps qs) h in
      longer k (length f.shapes) (length g.shapes) ps qs (all_suffice (tables_of f) ps) (all_suffice (tables_of g) qs) parts.1
  functions_alike k (shape.Function r ps) y a b h = absurd (false≢true b)
  functions_alike k x y a b h = absurd (false≢true a)

  pub parameters_alike : (k m n : ℕ) → is_function (shape_of (tables_of f) m) ≡ true → is_function (shape_of (tables_of g) n) ≡ true → same_within_files k f g false m n ≡ true → count_of f m ≡ count_of g n
  parameters_alike zero m n a b h = absurd (false≢true h)
  parameters_alike (suc k) m n a b h = functions_alike k (shape_of (tables_of f) m) (shape_of (tables_of g) n) a b h
