-- Names that are different one after the other stand for one object or one function each.
use Rattle.std.proofs.Common.{◌≡◌, ◌⊎◌, ℕ, zero, suc, ◌+◌, ◌<◌, Bool, true, false, inl, inr, List, [], ◌∷◌, ◌++◌, length, Option, Some, None, refl, ap, sym, ◌∙◌, subst, arith}
use Rattle.std.proofs.lemmas.Bool.{and_from, false≢true, or_cases, or_left, or_right, cases_order}
use Rattle.std.proofs.lemmas.Slice.Eq.{bytes_eq-Decides}
use Rattle.std.specs.Prelude.{slice_get, not}
use Rattle.std.specs.List.{list_any}
use Rattle.std.specs.Str.{bytes_eq}
use Rattle.dae_base.proofs.Laws.{and_first, and_second}
use Rattle.dae_types_kinds.specs.declared.tables.Entity.{Entity}
use Rattle.dae_types_kinds.specs.declared.tables.Entity.TheVariants as entity
use Rattle.dae_types_kinds.specs.declared.tables.StaticObject.{StaticObject}
use Rattle.dae_types_kinds.specs.declared.tables.Routine.{Routine}
use Rattle.dae_types_typed.specs.declared.files.FileParts.{FileParts}
use Rattle.dae_types_typed.specs.Linkage.{name_in, object_name, routine_name, same_name}
use Rattle.dae_types_sound.specs.Distinct.{is_new, with_name, are_new, with_names, object_names, routine_names, have_own_names}

any_behind : (p : List ℕ → Bool) (xs ys : List (List ℕ)) → list_any p xs ≡ true → list_any p (xs ++ ys) ≡ true
any_behind p [] ys h = absurd (false≢true h)
any_behind p (x ∷ xs) ys h = elim (or_cases (p x) (list_any p xs) h) [
  | inl g ↦ or_left (p x) (list_any p (xs ++ ys)) g
  | inr g ↦ or_right (p x) (list_any p (xs ++ ys)) (any_behind p xs ys g)
]

any_last : (p : List ℕ → Bool) (xs : List (List ℕ)) (x : List ℕ) → p x ≡ true → list_any p (xs ++ x ∷ []) ≡ true
any_last p [] x h = or_left (p x) false h
any_last p (y ∷ ys) x h = or_right (p y) (list_any p (ys ++ x ∷ [])) (any_last p ys x h)

still_any : (p : List ℕ → Bool) (done : List (List ℕ)) (o : Option (List ℕ)) → list_any p done ≡ true → list_any p (with_name done o) ≡ true
still_any p done None h = h
still_any p done (Some x) h = any_behind p done (x ∷ []) h

-- a name that is seen doesn't come again
not_again : (done : List (List ℕ)) (xs : List (Option (List ℕ))) (i : ℕ) (x : List ℕ) → are_new done xs ≡ true → slice_get xs i ≡ Some (Some x) → list_any (bytes_eq x) done ≡ true → ⊥
not_again done [] i x h g a = absurd cc
not_again done (y ∷ ys) zero x h g a =
    let e : y ≡ Some x = cc in
    let n : not (list_any (bytes_eq x) done) ≡ true = subst (λ z. is_new done z ≡ true) e (and_first _ _ h) in
    false≢true (subst (λ b. not b ≡ true) a n)
not_again done (y ∷ ys) (suc i) x h g a = not_again (with_name done y) ys i x (and_second _ _ h) g (still_any (bytes_eq x) done y a)

apart : (done : List (List ℕ)) (xs : List (Option (List ℕ))) (i j : ℕ) (x y : List ℕ) → are_new done xs ≡ true → slice_get xs i ≡ Some (Some x) → slice_get xs j ≡ Some (Some y) → bytes_eq y x ≡ true → i < j → ⊥
apart done [] i j x y h g k e l = absurd cc
apart done (z ∷ zs) i zero x y h g k e l = absurd (omega (arith, l))
apart done (z ∷ zs) zero (suc j) x y h g k e l =
    let q : z ≡ Some x = cc in
    not_again (with_name done z) zs j y (and_second _ _ h) k (subst (λ o. list_any (bytes_eq y) (with_name done o) ≡ true) (sym q) (any_last (bytes_eq y) done x e))
apart done (z ∷ zs) (suc i) (suc j) x y h g k e l = apart (with_name done z) zs i j x y (and_second _ _ h) g k e (omega (arith, l))

flip : (x y : List ℕ) → bytes_eq x y ≡ true → bytes_eq y x ≡ true
flip x y h = let e : x ≡ y = grind (arith, bytes_eq-Decides x y) in subst (λ z. bytes_eq z x ≡ true) e (subst (λ z. bytes_eq x z ≡ true) (sym e) h)

pub one_place : (xs : List (Option (List ℕ))) (i j : ℕ) (x y : List ℕ) → are_new [] xs ≡ true → slice_get xs i ≡ Some (Some x) → slice_get xs j ≡ Some (Some y) → bytes_eq x y ≡ true → i ≡ j
one_place xs i j x y h g k e = elim (cases_order i j) [
  | inl q ↦ q
  | inr q ↦ elim q [
    | inl l ↦ absurd (apart [] xs i j x y h g k (flip x y e) l)
    | inr l ↦ absurd (apart [] xs j i y x h k g e l)
  ]
]

-- ---- both lists

abbrev all_names : FileParts → List (Option (List ℕ))
all_names f = object_names f f.objects ++ routine_names f f.routines

both_new : (done : List (List ℕ)) (xs ys : List (Option (List ℕ))) → are_new done xs ≡ true → are_new (with_names done xs) ys ≡ true → are_new done (xs ++ ys) ≡ true
both_new done [] ys h g = g
both_new done (x ∷ xs) ys h g = and_from (is_new done x) (are_new (with_name done x) (xs ++ ys)) (and_first _ _ h) (both_new (with_name done x) xs ys (and_second _ _ h) g)

object_at_front : (f : FileParts) (os : List StaticObject) (ys : List (Option (List ℕ))) (n : ℕ) (x : List ℕ) → object_name f (slice_get os n) ≡ Some x → (slice_get (object_names f os ++ ys) n ≡ Some (Some x)) × (n < length os)
object_at_front f [] ys n x h = absurd cc
object_at_front f (o ∷ os) ys zero x h = (ap Some h, omega arith)
object_at_front f (o ∷ os) ys (suc n) x h = let q = object_at_front f os ys n x h in let l = q.1 in (q.0, omega (arith, l))

routine_there : (f : FileParts) (rs : List Routine) (n : ℕ) (x : List ℕ) → routine_name f (slice_get rs n) ≡ Some x → slice_get (routine_names f rs) n ≡ Some (Some x)
routine_there f [] n x h = absurd cc
routine_there f (r ∷ rs) zero x h = ap Some h
routine_there f (r ∷ rs) (suc n) x h = routine_there f rs n x h

routine_behind : (f : FileParts) (os : List StaticObject) (ys : List (Option (List ℕ))) (n : ℕ) → slice_get (object_names f os ++ ys) (length os + n) ≡ slice_get ys n
routine_behind f [] ys n = let z : 0 + n ≡ n = omega arith in ap (slice_get ys) z
routine_behind f (o ∷ os) ys n = let z : suc (length os) + n ≡ suc (length os + n) = omega arith in ap (slice_get (object_name f (Some o) ∷ (object_names f os ++ ys))) z ∙ routine_behind f os ys n

-- where the name of an entity stands
record Stands (f : FileParts) (e : Entity) (x : List ℕ) : Type 0 where
  pub place : ℕ
  pub there : slice_get (all_names f) place ≡ Some (Some x)
  pub entity : ((n : ℕ) × (e ≡ entity.Object n) × (place ≡ n) × (n < length f.objects)) ⊎ ((n : ℕ) × (e ≡ entity.Function n) × (place ≡ length f.objects + n))

stands : (f : FileParts) (e : Entity) (x : List ℕ) → name_in f e ≡ Some x → Stands f e x
stands f (entity.Object n) x h = let q = object_at_front f f.objects (routine_names f f.routines) n x h in record { place = n; there = q.0; entity = inl (n, refl, refl, q.1) }
stands f (entity.Function n) x h = record { place = length f.objects + n; there = routine_behind f f.objects (routine_names f f.routines) n ∙ routine_there f f.routines n x h; entity = inr (n, refl, refl) }
stands f (entity.Local n) x h = absurd cc
stands f (entity.Type n) x h = absurd cc
stands f (entity.Enumerator w) x h = absurd cc

one_entity : (f : FileParts) (d e : Entity) (x y : List ℕ) (a : Stands f d x) (b : Stands f e y) → a.place ≡ b.place → d ≡ e
one_entity f d e x y a b h = by a.entity b.entity
  where
    by : ((n : ℕ) × (d ≡ entity.Object n) × (a.place ≡ n) × (n < length f.objects)) ⊎ ((n : ℕ) × (d ≡ entity.Function n) × (a.place ≡ length f.objects + n)) → ((n : ℕ) × (e ≡ entity.Object n) × (b.place ≡ n) × (n < length f.objects)) ⊎ ((n : ℕ) × (e ≡ entity.Function n) × (b.place ≡ length f.objects + n)) → d ≡ e
    by (inl p) (inl q) = let i = p.2 in let j = q.2 in let m : p.0 ≡ q.0 = omega (arith, h, i, j) in p.1 ∙ ap entity.Object m ∙ sym q.1
    by (inl p) (inr q) = let i = p.2 in let j = q.2 in let l = p.3 in absurd (omega (arith, h, i, j, l))
    by (inr p) (inl q) = let i = p.2 in let j = q.2 in let l = q.3 in absurd (omega (arith, h, i, j, l))
    by (inr p) (inr q) = let i = p.2 in let j = q.2 in let m : p.0 ≡ q.0 = omega (arith, h, i, j) in p.1 ∙ ap entity.Function m ∙ sym q.1

pub own_names : (f : FileParts) → have_own_names f ≡ true → (x y : Entity) → same_name (name_in f x) (name_in f y) ≡ true → x ≡ y
own_names f h x y g = by (name_in f x) (name_in f y) refl refl g
  where
    all : are_new [] (all_names f) ≡ true
    all = both_new [] (object_names f f.objects) (routine_names f f.routines) (and_first (are_new [] (object_names f f.objects)) (are_new (with_names [] (object_names f f.objects)) (routine_names f f.routines)) h) (and_second (are_new [] (object_names f f.objects)) (are_new (with_names [] (object_names f f.objects)) (routine_names f f.routines)) h)

    by : (a b : Option (List ℕ)) → name_in f x ≡ a → name_in f y ≡ b → same_name a b ≡ true → x ≡ y
    by None b p q k = absurd (false≢true k)
    by (Some a) None p q k = absurd (false≢true k)
    by (Some a) (Some b) p q k =
        let s = stands f x a p in
        let t = stands f y b q in
        one_entity f x y a b s t (one_place (all_names f) s.place t.place a b all s.there t.there k)
