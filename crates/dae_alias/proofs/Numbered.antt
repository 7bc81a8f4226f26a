-- Variables for the loads that are marked.
use Rattle.std.proofs.Common.{◌≡◌, ℕ, zero, suc, ◌+◌, ◌^◌, ◌<◌, ◌≤◌, Bool, true, false, List, [], ◌∷◌, ◌++◌, length, take, get_or, Option, Some, None, refl, ap, sym, ◌∙◌, arith}
use Rattle.std.proofs.lemmas.List.{length-take-le}
use Rattle.dae_alias.specs.Laws.{sum_from, one}
use Rattle.dae_alias.specs.Marking.{marked}
use Rattle.dae_alias.specs.Reuse.{bit}
use Rattle.dae_alias.specs.Tables.{numbered, marks_in}
use Rattle.dae_alias.specs.Turning.{holders_of}
use Rattle.dae_alias.proofs.Facts.{some_is}
use Rattle.dae_alias.proofs.Lists.{take_one}

-- ---- one mark more

abbrev pub entry : ℕ → Bool → Option ℕ
entry n true = Some n
entry n false = None

numbered_end : (n : ℕ) (xs : List Bool) (x : Bool) → numbered n (xs ++ x ∷ []) ≡ numbered n xs ++ entry (n + marks_in xs) x ∷ []
numbered_end n [] true = let e : n ≡ n + 0 = omega arith in ap (λ (k : ℕ). Some k ∷ []) e
numbered_end n [] false = refl
numbered_end n (true ∷ xs) x = let e : suc n + marks_in xs ≡ n + suc (marks_in xs) = omega arith in
    ap (λ (l : List (Option ℕ)). Some n ∷ l) (numbered_end (suc n) xs x ∙ ap (λ (k : ℕ). numbered (suc n) xs ++ entry k x ∷ []) e)
numbered_end n (false ∷ xs) x = ap (λ (l : List (Option ℕ)). None ∷ l) (numbered_end n xs x)

marks_end : (xs : List Bool) (x : Bool) → marks_in (xs ++ x ∷ []) ≡ marks_in xs + bit x
marks_end [] true = refl
marks_end [] false = refl
marks_end (true ∷ xs) x = let e = marks_end xs x in omega (arith, e)
marks_end (false ∷ xs) x = marks_end xs x

-- the table and the variables so far, where a mark is met
pub record IsNumbered (n : ℕ) (xs : List Bool) (holders : List (Option ℕ)) (variables : ℕ) : Type 0 where
  pub holders_are : holders ≡ numbered n xs
  pub variables_are : variables ≡ n + marks_in xs

pub numbered_next : (n : ℕ) (xs : List Bool) (i : ℕ) (d x : Bool) (hs hs' : List (Option ℕ)) (v v' : ℕ) → i < length xs → get_or xs i d ≡ x → IsNumbered n (take i xs) hs v
    → hs' ≡ hs ++ entry v x ∷ [] → v' ≡ v + bit x → IsNumbered n (take (i + 1) xs) hs' v'
numbered_next n xs i d x hs hs' v v' lt is so_far longer more =
    let split : take (i + 1) xs ≡ take i xs ++ x ∷ [] = take_one xs i d lt ∙ ap (λ (y : Bool). take i xs ++ y ∷ []) is in
    record {
      holders_are = longer ∙ rw (so_far.holders_are, so_far.variables_are, split) (sym (numbered_end n (take i xs) x));
      variables_are = more ∙ rw (so_far.variables_are, split, marks_end (take i xs) x) (omega arith);
    }

few_marks : (xs : List Bool) → marks_in xs ≤ length xs
few_marks [] = omega arith
few_marks (true ∷ xs) = let h = few_marks xs in omega (arith, h)
few_marks (false ∷ xs) = let h = few_marks xs in omega (arith, h)

pub room_for_one : (n : ℕ) (xs : List Bool) (i v : ℕ) → i < length xs → v ≡ n + marks_in (take i xs) → n + length xs < 2 ^ 32 → v + 1 < 2 ^ 32
room_for_one n xs i v lt is room =
    let few = few_marks (take i xs) in let l = length-take-le i xs (omega (arith, lt)) in omega (arith, lt, is, room, few, l)

-- ---- what the table has

pub length_numbered : (n : ℕ) (xs : List Bool) → length (numbered n xs) ≡ length xs
length_numbered n [] = refl
length_numbered n (true ∷ xs) = ap suc (length_numbered (suc n) xs)
length_numbered n (false ∷ xs) = ap suc (length_numbered n xs)

pub entry_marked : (n : ℕ) (xs : List Bool) (i u : ℕ) → holders_of (numbered n xs) i ≡ Some u → marked xs i ≡ true
entry_marked n [] i u is = cc
entry_marked n (true ∷ xs) zero u is = refl
entry_marked n (true ∷ xs) (suc i) u is = entry_marked (suc n) xs i u is
entry_marked n (false ∷ xs) zero u is = cc
entry_marked n (false ∷ xs) (suc i) u is = entry_marked n xs i u is

pub marked_entry : (n : ℕ) (xs : List Bool) (i : ℕ) → marked xs i ≡ true → (u : ℕ) × (holders_of (numbered n xs) i ≡ Some u)
marked_entry n [] i is = cc
marked_entry n (true ∷ xs) zero is = (n, refl)
marked_entry n (true ∷ xs) (suc i) is = marked_entry (suc n) xs i is
marked_entry n (false ∷ xs) zero is = cc
marked_entry n (false ∷ xs) (suc i) is = marked_entry n xs i is

pub entry_within : (n : ℕ) (xs : List Bool) (i u : ℕ) → holders_of (numbered n xs) i ≡ Some u → (n ≤ u) × (u < n + marks_in xs)
entry_within n [] i u is = cc
entry_within n (true ∷ xs) zero u is = let e = some_is n u is in (omega (arith, e), omega (arith, e))
entry_within n (true ∷ xs) (suc i) u is = let w = entry_within (suc n) xs i u is in let a = w.0 in let b = w.1 in (omega (arith, a), omega (arith, b))
entry_within n (false ∷ xs) zero u is = cc
entry_within n (false ∷ xs) (suc i) u is = entry_within n xs i u is

pub entry_apart : (n : ℕ) (xs : List Bool) (i j u : ℕ) → holders_of (numbered n xs) i ≡ Some u → holders_of (numbered n xs) j ≡ Some u → i ≡ j
entry_apart n [] i j u is also = cc
entry_apart n (true ∷ xs) zero zero u is also = refl
entry_apart n (true ∷ xs) zero (suc j) u is also = let w = entry_within (suc n) xs j u also in let a = w.0 in let e = some_is n u is in absurd (omega (arith, a, e))
entry_apart n (true ∷ xs) (suc i) zero u is also = let w = entry_within (suc n) xs i u is in let a = w.0 in let e = some_is n u also in absurd (omega (arith, a, e))
entry_apart n (true ∷ xs) (suc i) (suc j) u is also = ap suc (entry_apart (suc n) xs i j u is also)
entry_apart n (false ∷ xs) zero j u is also = cc
entry_apart n (false ∷ xs) (suc i) zero u is also = cc
entry_apart n (false ∷ xs) (suc i) (suc j) u is also = ap suc (entry_apart n xs i j u is also)

sum_shifted : (f g : ℕ → ℕ) → ((i : ℕ) → f (suc i) ≡ g i) → (l c : ℕ) → sum_from f (suc l) c ≡ sum_from g l c
sum_shifted f g is l zero = refl
sum_shifted f g is l (suc c) = rw (is l, sum_shifted f g is (suc l) c) refl

pub sum_numbered : (n : ℕ) (xs : List Bool) → sum_from (λ i. one (holders_of (numbered n xs) i)) 0 (length xs) ≡ marks_in xs
sum_numbered n [] = refl
sum_numbered n (true ∷ xs) =
    let e = sum_shifted (λ i. one (holders_of (numbered n (true ∷ xs)) i)) (λ i. one (holders_of (numbered (suc n) xs) i)) (λ i. refl) 0 (length xs) in
    let d = sum_numbered (suc n) xs in omega (arith, e, d)
sum_numbered n (false ∷ xs) =
    let e = sum_shifted (λ i. one (holders_of (numbered n (false ∷ xs)) i)) (λ i. one (holders_of (numbered n xs) i)) (λ i. refl) 0 (length xs) in
    let d = sum_numbered n xs in omega (arith, e, d)
