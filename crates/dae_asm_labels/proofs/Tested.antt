-- The first line that fails, among the lines of the head and of both codes.
use Rattle.std.proofs.Common.{◌≡◌, ℕ, Bool, true, false, ◌&&◌, if◌then◌else◌, List, [], ◌∷◌, ◌++◌, Option, Some, None, refl, sym, ap, ◌∙◌}
use Rattle.dae_asm_order.specs.Sheets.{Sheet}
use Rattle.dae_asm_labels.specs.Labels.{Look, labels_a, labels_e, is_known, label_tests, all_label_tests, first_false}
use Rattle.dae_asm_labels.specs.Tables.{or_else}

by_test : (t : Bool) (n : ℕ) (x y z : Option ℕ) → x ≡ or_else y z → (if t then x else Some n) ≡ or_else (if t then y else Some n) z
by_test true n x y z e = e
by_test false n x y z e = refl

first_of_both : (xs ys : List (ℕ × Bool)) → first_false (xs ++ ys) ≡ or_else (first_false xs) (first_false ys)
first_of_both [] ys = refl
first_of_both (x ∷ xs) ys = by_test x.1 x.0 (first_false (xs ++ ys)) (first_false xs) (first_false ys) (first_of_both xs ys)

both_true : (t u : Bool) → t ≡ true → u ≡ true → (t && u) ≡ true
both_true t u e f = rw (e, f) refl

passes : (t : Bool) (n : ℕ) (x : Option ℕ) → t ≡ true → (if t then x else Some n) ≡ x
passes t n x e = rw e refl

-- where the entries are known, the first fault is that of the code of A, or else that of E
pub behind_entries : (s : Sheet) (a e : Look) → a ≡ labels_a s → e ≡ labels_e s → is_known a s.entry.1 ≡ true → is_known e s.entry.2 ≡ true → (o : Option ℕ) → o ≡ first_false (label_tests a s.code_a) → first_false (all_label_tests s) ≡ or_else o (first_false (label_tests e s.code_e))
behind_entries s a e same_a same_e known_a known_e o found =
    let ka : is_known (labels_a s) s.entry.1 ≡ true = ap (λ (l : Look). is_known l s.entry.1) (sym same_a) ∙ known_a in
    let ke : is_known (labels_e s) s.entry.2 ≡ true = ap (λ (l : Look). is_known l s.entry.2) (sym same_e) ∙ known_e in
    let here : o ≡ first_false (label_tests (labels_a s) s.code_a) = found ∙ ap (λ (l : Look). first_false (label_tests l s.code_a)) same_a in
    let there : first_false (label_tests e s.code_e) ≡ first_false (label_tests (labels_e s) s.code_e) = ap (λ (l : Look). first_false (label_tests l s.code_e)) same_e in
    passes (is_known (labels_a s) s.entry.1 && is_known (labels_e s) s.entry.2) s.entry.0 (first_false (label_tests (labels_a s) s.code_a ++ label_tests (labels_e s) s.code_e)) (both_true (is_known (labels_a s) s.entry.1) (is_known (labels_e s) s.entry.2) ka ke)
    ∙ first_of_both (label_tests (labels_a s) s.code_a) (label_tests (labels_e s) s.code_e)
    ∙ ap (λ (x : Option ℕ). or_else x (first_false (label_tests (labels_e s) s.code_e))) (sym here)
    ∙ ap (λ (x : Option ℕ). or_else o x) (sym there)
