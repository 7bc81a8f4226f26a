-- Numbers that stay in registers are where no variable is.
use Rattle.std.proofs.Common.{◌≡◌, ◌≢◌, ◌⊎◌, inl, inr, ℕ, zero, suc, ◌+◌, ◌-◌, ◌*◌, ◌%◌, ◌^◌, ◌≤◌, ◌<◌, Bool, true, false, List, [], ◌∷◌, length, get_or, Some, None, refl, sym, subst, ◌∙◌, arith, length-append}
use Rattle.std.specs.Prelude.{nat_lt, nat_eq, if◌then◌else◌, slice_get}
use Rattle.std.specs.List.{AllByRecursion}
use Rattle.std.proofs.lemmas.Bool.Decides.{nat_tests}
use Rattle.std.proofs.lemmas.Bool.{or_parts}
use Rattle.dae_base.proofs.Laws.{and_true}
use Rattle.dae_ir.specs.Classes.{VariableSet}
use Rattle.dae_regalloc.specs.Seen.{AreBelow}
use Rattle.dae_select_walks.specs.declared.Home.{Home}
use Rattle.dae_select_walks.specs.declared.Home.TheVariants.{Register, Slot}
use Rattle.dae_select_walks.specs.Homes.{IsHome, AreApart, home_in, home_among, resident_home, resident_register}
use Rattle.dae_select_walks.proofs.LawsOfWalks.{variable_home}
use Rattle.dae_encode.specs.declared.Inst.TheVariants.{Lui, Addi}
use Rattle.dae_select_blocks.specs.Blocks.{upper, lower, number_code, is_immediate, is_register, residents_code}
use Rattle.dae_select_blocks.proofs.LawsOfBlocks.{resident_high}
use Rattle.dae_select_calls.specs.Layouts.{homes_at, has_home}
use Rattle.dae_select_calls.specs.declared.layouts.FunctionLayout.{FunctionLayout}
use Rattle.dae_link.specs.Residents.{IsWord, is_low, all_low, each_low}
use Rattle.dae_link.specs.Settled.{has_register, have_registers}

pub words_small : (xs : List ℕ) → ((i : ℕ) → i < length xs → get_or xs i 0 < 2 ^ 32) → AllByRecursion IsWord xs
words_small [] h = tt
words_small (x ∷ xs) h = (h 0 (omega arith), words_small xs (λ i l. h (suc i) (omega arith)))

number_some : (r n : ℕ) → 1 ≤ length (number_code r n)
number_some r n = by (is_immediate n) (nat_eq (n % 2 ^ 12) 0)
  where
    by : (a b : Bool) → 1 ≤ length (if a then Addi r 0 (lower n) ∷ [] else (if b then Lui r (upper n) ∷ [] else Lui r (upper n) ∷ (Addi r r (lower n) ∷ [])))
    by true b = omega arith
    by false true = omega arith
    by false false = omega arith

-- there are no more of them than words of their code
pub residents_few : (r : ℕ) (numbers : List ℕ) → length numbers ≤ length (residents_code r numbers)
residents_few r [] = omega arith
residents_few r (n ∷ ns) = let one = number_some r n in let rest = residents_few (r - 1) ns in let both = length-append (number_code r n) (residents_code (r - 1) ns) in omega arith

-- ---- homes

pub resident_is_home : (count r : ℕ) (numbers : List ℕ) (n : ℕ) → length numbers + 17 ≤ r → r < 28 → IsHome count (resident_home r numbers n)
resident_is_home count r [] n l h = refl
resident_is_home count r (x ∷ xs) n l h = by (resident_is_home count (r - 1) xs n (omega arith) (omega arith)) (nat_eq n x)
  where
    by : IsHome count (resident_home (r - 1) xs n) → (b : Bool) → IsHome count (if b then Register r else resident_home (r - 1) xs n)
    by below true = let low : 17 < r = omega arith in grind (arith, nat_tests)
    by below false = below

pub among_is_home : (count : ℕ) (homes : List Home) (numbers : List ℕ) → length numbers ≤ 3 → ((v : ℕ) → IsHome count (home_in homes v)) → (v : ℕ) → IsHome count (home_among homes numbers v)
unfolding home_among
among_is_home count homes numbers few good v = by (nat_lt v (2 ^ 32))
  where
    by : (b : Bool) → IsHome count (if b then home_in homes v else resident_home 27 numbers (v - 2 ^ 32))
    by true = good v
    by false = resident_is_home count 27 numbers (v - 2 ^ 32) (omega arith) (omega arith)

-- nor is any of them a slot, where no variable's is
resident_no_slot : (r : ℕ) (numbers : List ℕ) (n i : ℕ) → resident_home r numbers n ≢ Slot i
resident_no_slot r [] n i = λ same. (let no : Register 8 ≡ Slot i = same in cc)
resident_no_slot r (x ∷ xs) n i = by (resident_no_slot (r - 1) xs n i) (nat_eq n x)
  where
    by : resident_home (r - 1) xs n ≢ Slot i → (b : Bool) → (if b then Register r else resident_home (r - 1) xs n) ≢ Slot i
    by below true = λ same. (let no : Register r ≡ Slot i = same in cc)
    by below false = below

home_no_slot : (homes : List Home) → have_registers homes ≡ true → (v i : ℕ) → home_in homes v ≢ Slot i
home_no_slot [] e v i = λ same. (let no : Register 8 ≡ Slot i = same in cc)
home_no_slot (h ∷ hs) e zero i = by h (and_true (has_register h) (have_registers hs) e).0
  where
    by : (g : Home) → has_register g ≡ true → g ≢ Slot i
    by (Register q) is = λ same. (let no : Register q ≡ Slot i = same in cc)
    by (Slot j) is = absurd (let no : false ≡ true = is in cc)
home_no_slot (h ∷ hs) e (suc v) i = home_no_slot hs (and_true (has_register h) (have_registers hs) e).1 v i

pub among_no_slot : (homes : List Home) (numbers : List ℕ) → have_registers homes ≡ true → (v i : ℕ) → home_among homes numbers v ≢ Slot i
unfolding home_among
among_no_slot homes numbers e v i = by (nat_lt v (2 ^ 32))
  where
    by : (b : Bool) → (if b then home_in homes v else resident_home 27 numbers (v - 2 ^ 32)) ≢ Slot i
    by true = home_no_slot homes e v i
    by false = resident_no_slot 27 numbers (v - 2 ^ 32) i

-- where none of the homes is a register, no variable is there
no_home : (homes : List Home) (r v : ℕ) → v < length homes → has_home r homes ≡ false → home_in homes v ≢ Register r
no_home [] r v l e = absurd (omega arith)
no_home (h ∷ hs) r zero l e = by h (or_parts (is_register r h) (has_home r hs) e).0
  where
    by : (g : Home) → is_register r g ≡ false → g ≢ Register r
    by (Register q) other = λ is. (let same : q ≡ r = cc in let yes : nat_eq r q ≡ true = grind (arith, nat_tests) in let no : true ≡ false = sym yes ∙ other in cc)
    by (Slot i) other = λ is. (let no : Slot i ≡ Register r = is in cc)
no_home (h ∷ hs) r (suc v) l e = no_home hs r v (omega arith) (or_parts (is_register r h) (has_home r hs) e).1

pub among_no_home : (homes : List Home) (numbers : List ℕ) (r v : ℕ) → v < length homes → v < 2 ^ 32 → has_home r homes ≡ false → home_among homes numbers v ≢ Register r
among_no_home homes numbers r v l few e = λ same. no_home homes r v l e (sym (variable_home homes numbers v few) ∙ same)

-- the homes of variables that are below a number are what they are alone
pub among_apart : (homes : List Home) (numbers : List ℕ) (count : ℕ) (lives : VariableSet) → count ≤ 2 ^ 26 → AreBelow count lives → AreApart (home_in homes) lives → AreApart (home_among homes numbers) lives
among_apart homes numbers count lives few below apart = λ u v a b ne same.
    let l = below u a in let k = below v b in
    apart u v a b ne (sym (variable_home homes numbers u (omega arith)) ∙ (same ∙ variable_home homes numbers v (omega arith)))

-- ---- low homes

low_home : (homes : List Home) → all_low homes ≡ true → (v r : ℕ) → home_in homes v ≡ Register r → r < 25
low_home [] e v r is = let same : 8 ≡ r = cc in omega arith
low_home (h ∷ hs) e zero r is = by h is (and_true (is_low h) (all_low hs) e).0
  where
    by : (g : Home) → g ≡ Register r → is_low g ≡ true → r < 25
    by (Register q) is low = let same : q ≡ r = cc in let l : q < 25 = grind (arith, nat_tests) in omega arith
    by (Slot i) is low = absurd cc
low_home (h ∷ hs) e (suc v) r is = low_home hs (and_true (is_low h) (all_low hs) e).1 v r is

low_at : (ls : List FunctionLayout) → each_low ls ≡ true → (f v r : ℕ) → home_in (homes_at (slice_get ls f)) v ≡ Register r → r < 25
low_at [] e f v r is = let same : 8 ≡ r = cc in omega arith
low_at (l ∷ ls) e zero v r is = low_home l.homes (and_true (all_low l.homes) (each_low ls) e).0 v r is
low_at (l ∷ ls) e (suc f) v r is = low_at ls (and_true (all_low l.homes) (each_low ls) e).1 f v r is

pub residents_apart : (ls : List FunctionLayout) (numbers : List ℕ) → (numbers ≡ []) ⊎ ((each_low ls ≡ true) × (1 ≤ length ls)) → (f v n r : ℕ) → v < 2 ^ 32 → resident_register (resident_home 27 numbers n) ≡ Some r → home_among (homes_at (slice_get ls f)) numbers v ≢ Register r
residents_apart ls numbers (inl none) f v n r l e =
    absurd (let bad : resident_register (resident_home 27 [] n) ≡ Some r = subst (λ (xs : List ℕ). resident_register (resident_home 27 xs n) ≡ Some r) none e in let no : None ≡ Some r = bad in cc)
residents_apart ls numbers (inr low) f v n r l e = λ same.
    let high = resident_high (resident_home 27 numbers n) r e in
    let below = low_at ls low.0 f v r (sym (variable_home (homes_at (slice_get ls f)) numbers v l) ∙ same) in omega arith

-- three words a function are more than what they take
pub residents_within : (ls : List FunctionLayout) (numbers : List ℕ) → length (residents_code 27 numbers) ≤ 3 → (numbers ≡ []) ⊎ ((each_low ls ≡ true) × (1 ≤ length ls)) → length (residents_code 27 numbers) ≤ 3 * length ls
residents_within ls numbers brief (inl none) = subst (λ (xs : List ℕ). length (residents_code 27 xs) ≤ 3 * length ls) (sym none) (omega arith)
residents_within ls numbers brief (inr low) = let some = low.1 in omega arith
