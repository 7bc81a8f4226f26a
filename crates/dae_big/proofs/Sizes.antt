-- How long the source of a number is.
use Rattle.std.proofs.Common.{◌≡◌, ℕ, zero, suc, ◌+◌, ◌*◌, ◌%◌, ◌<◌, ◌≤◌, List, ◌++◌, codes, decimal, length, ap, sym, subst, ◌∙◌, arith}
use Rattle.std.proofs.lemmas.Fmt.{length-decimal-le}
use Rattle.std.proofs.lemmas.List.{length-append}
use Rattle.dae_big.specs.Texts.{big_text, call_line, first_lines, function_line, last_line, lines_below, main_line}

joined : (xs ys : List ℕ) (a b : ℕ) → length xs ≤ a → length ys ≤ b → length (xs ++ ys) ≤ a + b
joined xs ys a b h k = let l = length-append xs ys in omega (arith, h, k, l)

at_most : (a b c : ℕ) → a ≤ b → b ≤ c → a ≤ c
at_most a b c h k = omega (arith, h, k)

-- a number of three digits
three : (k : ℕ) → k < 1000 → length (decimal k) ≤ 3
three k h = length-decimal-le 3 k (omega arith) h (omega (arith, h))

seven : (a b c d e f g : List ℕ) (i j k l m n o : ℕ) → length a ≤ i → length b ≤ j → length c ≤ k → length d ≤ l → length e ≤ m → length f ≤ n → length g ≤ o
    → length (a ++ b ++ c ++ d ++ e ++ f ++ g) ≤ i + j + k + l + m + n + o
seven a b c d e f g i j k l m n o p q r s t u v =
    let x = joined a b i j p q in
    let y = joined (a ++ b) c (i + j) k x r in
    let z = joined (a ++ b ++ c) d (i + j + k) l y s in
    let x' = joined (a ++ b ++ c ++ d) e (i + j + k + l) m z t in
    let y' = joined (a ++ b ++ c ++ d ++ e) f (i + j + k + l + m) n x' u in
    joined (a ++ b ++ c ++ d ++ e ++ f) g (i + j + k + l + m + n) o y' v

five : (a b c d e : List ℕ) (i j k l m : ℕ) → length a ≤ i → length b ≤ j → length c ≤ k → length d ≤ l → length e ≤ m
    → length (a ++ b ++ c ++ d ++ e) ≤ i + j + k + l + m
five a b c d e i j k l m p q r s t =
    let x = joined a b i j p q in
    let y = joined (a ++ b) c (i + j) k x r in
    let z = joined (a ++ b ++ c) d (i + j + k) l y s in
    joined (a ++ b ++ c ++ d) e (i + j + k + l) m z t

function_short : (k : ℕ) → k < 1000 → length (function_line k) ≤ 90
function_short k h =
    seven (codes "static int f") (decimal k) (codes "(int x){int i;for(i=0;i<64;i++)a[i]=a[i]+x*") (decimal ((7 * k + 3) % 11)) (codes ";return a[") (decimal (k % 64)) (codes "];}\n")
    12 3 50 3 10 3 9 (omega arith) (three k h) (omega arith) (three ((7 * k + 3) % 11) (omega arith)) (omega arith) (three (k % 64) (omega arith)) (omega arith)

call_short : (k : ℕ) → k < 1000 → length (call_line k) ≤ 90
call_short k h =
    five (codes "s=s+f") (decimal k) (codes "(") (decimal k) (codes ");\n") 5 3 1 3 78 (omega arith) (three k h) (omega arith) (three k h) (omega arith)

lines_short : (line : ℕ → List ℕ) → ((k : ℕ) → k < 1000 → length (line k) ≤ 90) → (n : ℕ) → n ≤ 900 → length (lines_below line n) ≤ 90 * n
lines_short line short zero h = omega arith
lines_short line short (suc n) h =
    let a = joined (lines_below line n) (line n) (90 * n) 90 (lines_short line short n (omega (arith, h))) (short n (omega (arith, h))) in
    omega (arith, a)

big_short : (n : ℕ) → n ≤ 900 → length (big_text n) ≤ 1048576
big_short n h =
    at_most (length (big_text n)) (50 + 90 * n + 50 + 90 * n + 50) 1048576
    (five first_lines (lines_below function_line n) main_line (lines_below call_line n) last_line 50 (90 * n) 50 (90 * n) 50 (omega arith) (lines_short function_line function_short n h) (omega arith)
    (lines_short call_line call_short n h) (omega arith)) (omega (arith, h))

-- what is put part by part
pub parts_short : (n : ℕ) (v0 v1 v2 v3 v4 : List ℕ) → n ≤ 900 → v0 ≡ first_lines → v1 ≡ v0 ++ lines_below function_line n
    → v2 ≡ v1 ++ main_line → v3 ≡ v2 ++ lines_below call_line n → v4 ≡ v3 ++ last_line → length v4 ≤ 1048576
parts_short n v0 v1 v2 v3 v4 h e0 e1 e2 e3 e4 =
    let f1 : v1 ≡ first_lines ++ lines_below function_line n = e1 ∙ ap (λ (l : List ℕ). l ++ lines_below function_line n) e0 in
    let f2 : v2 ≡ (first_lines ++ lines_below function_line n) ++ main_line = e2 ∙ ap (λ (l : List ℕ). l ++ main_line) f1 in
    let f3 : v3 ≡ ((first_lines ++ lines_below function_line n) ++ main_line) ++ lines_below call_line n = e3 ∙ ap (λ (l : List ℕ). l ++ lines_below call_line n) f2 in
    let f4 : v4 ≡ (((first_lines ++ lines_below function_line n) ++ main_line) ++ lines_below call_line n) ++ last_line = e4 ∙ ap (λ (l : List ℕ). l ++ last_line) f3 in
    let is : v4 ≡ big_text n = f4 in
    subst (λ (l : List ℕ). length l ≤ 1048576) (sym is) (big_short n h)
