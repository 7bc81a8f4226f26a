-- Rows that have names: the row of a name that came last stands where the latest of the name does, and behind that none has it.
use Rattle.std.proofs.Common.{◌≡◌, ℕ, zero, suc, ◌+◌, ◌-◌, ◌<◌, Bool, true, false, cond, nat_eq, List, [], ◌∷◌, ◌++◌, map, reverse, length, take, drop, slice_get, find, Option, Some, None, refl, ap, sym, subst, ◌∙◌, arith}
use Rattle.std.proofs.lemmas.List.{drop_all, length-append, length-map, length-reverse, length_push, map_push, reverse-reverse, take_all, take-append-le}
use mathlib.Core.List.{reverse-cons}
use Rattle.dae_names.specs.Latest.{latest_of}

latest_within : (ns : List ℕ) (n at : ℕ) → latest_of ns n ≡ Some at → at < length ns
latest_within [] n at e = (let none : None ≡ Some at = e in absurd cc)
latest_within (m ∷ ns) n at e = by (nat_eq m n) (latest_within ns n at) e
  where
    by : (b : Bool) → (latest_of ns n ≡ Some at → at < length ns) → cond b (Some (length ns)) (latest_of ns n) ≡ Some at → at < length (m ∷ ns)
    by true rest e = (let here : length ns ≡ at = cc in omega arith)
    by false rest e = (let behind : at < length ns = rest e in omega arith)

get_before : {X : Type 0} (xs ys : List X) (k : ℕ) → k < length xs → slice_get (xs ++ ys) k ≡ slice_get xs k
get_before [] ys k lt = absurd (omega arith)
get_before (x ∷ xs) ys zero lt = refl
get_before (x ∷ xs) ys (suc k) lt = get_before xs ys k (omega arith)

get_behind : {X : Type 0} (xs : List X) (x : X) → slice_get (xs ++ x ∷ []) (length xs) ≡ Some x
get_behind [] x = refl
get_behind (y ∷ xs) x = get_behind xs x

-- what is pushed and popped leaves what was there
pub pop_undoes_push : {X : Type 0} (xs all rest : List X) (x : X) (len : ℕ) → len ≡ length all → all ≡ xs ++ x ∷ [] → rest ≡ take (len - 1) all → rest ≡ xs
pop_undoes_push xs all rest x len long is cut =
    let one : len - 1 ≡ length xs = omega (arith, long, ap length is, length_push xs x) in
    cut ∙ ap (λ (k : ℕ). take k all) one ∙ ap (take (length xs)) is ∙ take-append-le (length xs) xs (x ∷ []) (omega arith) ∙ take_all (length xs) xs (omega arith)

-- the row at a place, if one is told
abbrev pub row_at : {X : Type 0} → List X → Option ℕ → Option X
row_at rows None = None
row_at rows (Some at) = slice_get rows at

-- a place, if one is told, is before this one
abbrev pub IsBefore : ℕ → Option ℕ → Type 0
IsBefore start None = Unit {0}
IsBefore start (Some at) = at < start

module _ {X : Type 0} (f : X → ℕ) where
  pub map_reverse : (xs : List X) → map f (reverse xs) ≡ reverse (map f xs)
  map_reverse [] = refl
  map_reverse (x ∷ xs) =
      ap (map f) (reverse-cons x xs) ∙ map_push f (reverse xs) x ∙ ap (λ (ns : List ℕ). ns ++ f x ∷ []) (map_reverse xs) ∙ sym (reverse-cons (f x) (map f xs))

  -- ---- of rows, the latest first

  latest_row : (rs : List X) (n : ℕ) → find (λ x. nat_eq (f x) n) rs ≡ row_at (reverse rs) (latest_of (map f rs) n)
  latest_row [] n = refl
  latest_row (r ∷ rs) n = by (nat_eq (f r) n) (latest_row rs n) ∙ sym (ap (λ (xs : List X). row_at xs (latest_of (map f (r ∷ rs)) n)) (reverse-cons r rs))
    where
      long : length (map f rs) ≡ length (reverse rs)
      long = length-map rs f ∙ sym (length-reverse rs)

      before : (o : Option ℕ) → latest_of (map f rs) n ≡ o → row_at (reverse rs) o ≡ row_at (reverse rs ++ r ∷ []) o
      before None e = refl
      before (Some at) e = sym (get_before (reverse rs) (r ∷ []) at (omega (arith, latest_within (map f rs) n at e, long)))

      by : (b : Bool) → find (λ x. nat_eq (f x) n) rs ≡ row_at (reverse rs) (latest_of (map f rs) n) → cond b (Some r) (find (λ x. nat_eq (f x) n) rs) ≡ row_at (reverse rs ++ r ∷ []) (cond b (Some (length (map f rs))) (latest_of (map f rs) n))
      by true rest = sym (ap (slice_get (reverse rs ++ r ∷ [])) long ∙ get_behind (reverse rs) r)
      by false rest = rest ∙ before (latest_of (map f rs) n) refl

  none_in_nothing : (start n : ℕ) → find (λ (x : X). nat_eq (f x) n) (drop start []) ≡ None
  none_in_nothing start n = ap (find (λ (x : X). nat_eq (f x) n)) (drop_all start [] (omega arith))

  none_push : (xs : List X) (start n : ℕ) (r : X) → find (λ x. nat_eq (f x) n) (drop start xs) ≡ None → nat_eq (f r) n ≡ false → find (λ x. nat_eq (f x) n) (drop start (xs ++ r ∷ [])) ≡ None
  none_push [] zero n r none other = ap (λ (b : Bool). cond b (Some r) None) other
  none_push [] (suc start) n r none other = none_in_nothing start n
  none_push (x ∷ xs) (suc start) n r none other = none_push xs start n r none other
  none_push (x ∷ xs) zero n r none other = by (nat_eq (f x) n) (λ e. none_push xs zero n r e other) none
    where
      by : (b : Bool) → (find (λ x. nat_eq (f x) n) xs ≡ None → find (λ x. nat_eq (f x) n) (xs ++ r ∷ []) ≡ None) → cond b (Some x) (find (λ x. nat_eq (f x) n) xs) ≡ None → cond b (Some x) (find (λ x. nat_eq (f x) n) (xs ++ r ∷ [])) ≡ None
      by true rest e = (let some : Some x ≡ None = e in absurd cc)
      by false rest e = rest e

  none_behind : (rs : List X) (start n : ℕ) → IsBefore start (latest_of (map f rs) n) → find (λ x. nat_eq (f x) n) (drop start (reverse rs)) ≡ None
  none_behind [] start n h = none_in_nothing start n
  none_behind (r ∷ rs) start n h = ap (λ (xs : List X). find (λ x. nat_eq (f x) n) (drop start xs)) (reverse-cons r rs) ∙ by (nat_eq (f r) n) (none_behind rs start n) refl h
    where
      by : (b : Bool) → (IsBefore start (latest_of (map f rs) n) → find (λ x. nat_eq (f x) n) (drop start (reverse rs)) ≡ None) → nat_eq (f r) n ≡ b → IsBefore start (cond b (Some (length (map f rs))) (latest_of (map f rs) n)) → find (λ x. nat_eq (f x) n) (drop start (reverse rs ++ r ∷ [])) ≡ None
      by true rest same before =
          let lt : length (map f rs) < start = before in
          ap (find (λ x. nat_eq (f x) n)) (drop_all start (reverse rs ++ r ∷ []) (omega (arith, length-append (reverse rs) (r ∷ []), length-reverse rs, length-map rs f)))
      by false rest other before = none_push (reverse rs) start n r (rest before) other

  -- ---- of rows in their order

  pub latest_inside : (xs : List X) (n at : ℕ) → Some at ≡ latest_of (reverse (map f xs)) n → at < length xs
  latest_inside xs n at e = omega (arith, latest_within (reverse (map f xs)) n at (sym e), length-reverse (map f xs), length-map xs f)

  pub latest_found : (xs : List X) (n : ℕ) (o : Option ℕ) → o ≡ latest_of (reverse (map f xs)) n → row_at xs o ≡ find (λ x. nat_eq (f x) n) (reverse xs)
  latest_found xs n o e =
      sym
      (latest_row (reverse xs) n ∙ ap (λ (ys : List X). row_at ys (latest_of (map f (reverse xs)) n)) (reverse-reverse xs)
      ∙ ap (λ (ns : List ℕ). row_at xs (latest_of ns n)) (map_reverse xs) ∙ ap (row_at xs) (sym e))

  pub none_from : (xs : List X) (start n : ℕ) (o : Option ℕ) → o ≡ latest_of (reverse (map f xs)) n → IsBefore start o → find (λ x. nat_eq (f x) n) (drop start xs) ≡ None
  none_from xs start n o e before =
      ap (λ (ys : List X). find (λ x. nat_eq (f x) n) (drop start ys)) (sym (reverse-reverse xs))
      ∙ none_behind (reverse xs) start n (subst (IsBefore start) (e ∙ ap (λ (ns : List ℕ). latest_of ns n) (sym (map_reverse xs))) before)
