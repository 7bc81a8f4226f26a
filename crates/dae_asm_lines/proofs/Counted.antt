-- How many numbers a line has.
use Rattle.std.proofs.Common.{◌≡◌, ℕ, ◌+◌, ◌<◌, ◌≤◌, min, nat_le, true, ℤ, List, [], ◌∷◌, length, Option, Some, None, refl, sym, ap, ◌∙◌, arith}
use Rattle.std.specs.Option.{option_map}
use Rattle.std.proofs.lemmas.Bool.Decides.{nat_tests}
use Rattle.dae_asm_lines.specs.Tokens.{LineToken, Word, Number, Sign, Other}
use Rattle.dae_asm_lines.specs.Items as items
use Rattle.dae_asm_lines.specs.Lines.{numbers_in}
use Rattle.dae_asm_lines.specs.Reading.{◌>>=◌, number, first, end, all_numbers, if_few, bytes_at, name_at}
use Rattle.dae_asm_lines.proofs.Steps.{came_map, began, ended}

-- the numbers of these tokens behind so many, where more than 16 count as 17
abbrev pub counted : ℕ → Option (List ℤ) → Option ℕ
counted count zs = option_map (λ zs. min (count + length zs) 17) zs

-- the contract's words for none before
abbrev pub clipped : Option (List ℤ) → Option ℕ
clipped zs = option_map (λ zs. min (length zs) 17) zs

pub from_none : (o : Option (List ℤ)) → counted 0 o ≡ clipped o
from_none None = refl
from_none (Some zs) = let same : min (0 + length zs) 17 ≡ min (length zs) 17 = omega arith in ap (λ (n : ℕ). Some n) same

pub shorter : (ts rest : List LineToken) (z : ℤ) → first number ts ≡ Some (z, rest) → length rest < length ts
shorter ts rest z e = let b = began number ts (z, rest) e in let w = ap length b.whole in omega arith

one_more : (count : ℕ) (o : Option (List ℤ)) (z : ℤ) → counted count (option_map (λ zs. z ∷ zs) o) ≡ counted (min (count + 1) 17) o
one_more count None z = refl
one_more count (Some zs) z = let same : min (count + length (z ∷ zs)) 17 ≡ min (min (count + 1) 17 + length zs) 17 = omega arith in ap (λ (n : ℕ). Some n) same

pub more : (count : ℕ) (ts rest : List LineToken) (z : ℤ) → first number ts ≡ Some (z, rest) → counted count (all_numbers ts) ≡ counted (min (count + 1) 17) (all_numbers rest)
more count ts rest z e =
    let b = began number ts (z, rest) e in
    let all : all_numbers ts ≡ all_numbers (b.token ∷ rest) = ap all_numbers b.whole in
    let is = b.is in
    let here : all_numbers (b.token ∷ rest) ≡ option_map (λ zs. z ∷ zs) (all_numbers rest) = rw is refl in
    ap (counted count) (all ∙ here) ∙ one_more count (all_numbers rest) z

pub none_left : (count : ℕ) (ts : List LineToken) (u : Unit {0}) → count ≤ 17 → end ts ≡ Some u → counted count (all_numbers ts) ≡ Some count
none_left count ts u few e =
    let no = ended ts u e in
    let same : min (count + 0) 17 ≡ count = omega arith in
    ap (λ (us : List LineToken). counted count (all_numbers us)) no ∙ ap (λ (n : ℕ). Some n) same

no_number : (t : LineToken) (ts : List LineToken) → first number (t ∷ ts) ≡ None → number t ≡ None
unfolding first
no_number (Word w) ts e = refl
no_number (Number z) ts e = absurd cc
no_number (Sign b) ts e = refl
no_number Other ts e = refl

pub another : (count : ℕ) (ts : List LineToken) → first number ts ≡ None → end ts ≡ None → counted count (all_numbers ts) ≡ None
unfolding end
another count [] e n = absurd cc
another count (t ∷ ts) e n = let no = no_number t ts e in rw no refl

-- ---- the numbers themselves

pub numbers_same : (ts : List LineToken) (zs : List ℤ) → all_numbers ts ≡ Some zs → numbers_in ts ≡ zs
numbers_same [] zs e = cc
numbers_same (Word w ∷ ts) zs e = absurd cc
numbers_same (Number z ∷ ts) zs e =
    let b = came_map (all_numbers ts) (λ (ys : List ℤ). z ∷ ys) zs e in
    ap (λ (ys : List ℤ). z ∷ ys) (numbers_same ts b.0 b.1.0) ∙ b.1.1
numbers_same (Sign b ∷ ts) zs e = absurd cc
numbers_same (Other ∷ ts) zs e = absurd cc

pub name_said : (ts : List LineToken) (count : ℕ) → clipped (all_numbers ts) ≡ Some count → name_at ts ≡ Some (items.Name (numbers_in ts))
unfolding name_at
name_said ts count e =
    let b = came_map (all_numbers ts) (λ (zs : List ℤ). min (length zs) 17) count e in
    let same = numbers_same ts b.0 b.1.0 in
    ap (option_map (λ zs. items.Name zs)) b.1.0 ∙ ap (λ (zs : List ℤ). Some (items.Name zs)) (sym same)

few_said : (zs : List ℤ) → 1 ≤ length zs → length zs ≤ 16 → if_few zs ≡ Some (items.Bytes zs)
few_said zs low high =
    let one : nat_le 1 (length zs) ≡ true = grind (arith, nat_tests) in
    let two : nat_le (length zs) 16 ≡ true = grind (arith, nat_tests) in
    rw (one, two) refl

pub bytes_said : (ts : List LineToken) (count : ℕ) → clipped (all_numbers ts) ≡ Some count → 1 ≤ count → count ≤ 16 → bytes_at ts ≡ Some (items.Bytes (numbers_in ts))
unfolding bytes_at
bytes_said ts count e low high =
    let b = came_map (all_numbers ts) (λ (zs : List ℤ). min (length zs) 17) count e in
    let n = b.1.1 in
    let same = numbers_same ts b.0 b.1.0 in
    let few = few_said b.0 (omega arith) (omega arith) in
    ap (λ (o : Option (List ℤ)). o >>= if_few) b.1.0 ∙ few ∙ ap (λ (zs : List ℤ). Some (items.Bytes zs)) (sym same)
