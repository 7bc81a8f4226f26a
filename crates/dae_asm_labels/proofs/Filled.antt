-- A table of labels, filled row by row.
use Rattle.std.proofs.Common.{◌≡◌, ℕ, ◌+◌, ◌<◌, Bool, true, false, cond, if◌then◌else◌, List, ◌∷◌, Option, Some, None, refl, sym, ap, ◌∙◌}
use Rattle.std.specs.Option.{is_some}
use Rattle.std.specs.Str.{bytes_eq}
use Rattle.std.proofs.lemmas.Slice.Eq.{bytes_eq-Decides}
use Rattle.dae_asm_lines.specs.Items as items
use Rattle.dae_asm_sheet.specs.declared.rows.Row as code
use Rattle.dae_asm_labels.specs.Tables.{or_else}

same_bytes : (a b : List ℕ) → bytes_eq a b ≡ true → a ≡ b
same_bytes a b e = (bytes_eq-Decides a b).0 e

same_test : (a b : List ℕ) (t u : Bool) → bytes_eq a b ≡ t → bytes_eq b a ≡ u → t ≡ u
same_test a b true true x y = refl
same_test a b false false x y = refl
same_test a b true false x y = sym ((bytes_eq-Decides b a).1 (sym (same_bytes a b x))) ∙ y
same_test a b false true x y = sym x ∙ (bytes_eq-Decides a b).1 (sym (same_bytes b a y))

pub bytes_eq_sym : (a b : List ℕ) → bytes_eq a b ≡ bytes_eq b a
bytes_eq_sym a b = same_test a b (bytes_eq a b) (bytes_eq b a) refl refl

-- a label that the table has already
here : {X : Type 0} (p f : Option X) (d : X) (t : Bool) → (t ≡ true → is_some p ≡ true) → or_else p (if t then Some d else f) ≡ or_else p f
here {X} (Some x) f d t h = refl
here {X} None f d true h = absurd (let e = h refl in cc)
here {X} None f d false h = refl

pub kept : {X : Type 0} (p : List ℕ → Option X) (f : Option X) (d : X) (label name : List ℕ) → is_some (p label) ≡ true → or_else (p name) (if bytes_eq name label then Some d else f) ≡ or_else (p name) f
kept {X} p f d label name has = here (p name) f d (bytes_eq name label) (λ e. ap (λ (l : List ℕ). is_some (p l)) (same_bytes name label e) ∙ has)

-- a label that the table gets
gets : {X : Type 0} (p q f : Option X) (d : X) (t : Bool) → (t ≡ true → is_some p ≡ false) → q ≡ cond t (Some d) p → or_else p (if t then Some d else f) ≡ or_else q f
gets {X} p q f d false h e = rw e refl
gets {X} None q f d true h e = rw e refl
gets {X} (Some x) q f d true h e = absurd (let n = h refl in cc)

pub added : {X : Type 0} (p q : List ℕ → Option X) (f : Option X) (d : X) (label name : List ℕ) → is_some (p label) ≡ false → q name ≡ cond (bytes_eq label name) (Some d) (p name) → or_else (p name) (if bytes_eq name label then Some d else f) ≡ or_else (q name) f
added {X} p q f d label name has e =
    gets (p name) (q name) f d (bytes_eq name label) (λ h. ap (λ (l : List ℕ). is_some (p l)) (same_bytes name label h) ∙ has)
    (e ∙ ap (λ (t : Bool). cond t (Some d) (p name)) (bytes_eq_sym label name))

-- a table when no rows are left
pub nothing_left : {X : Type 0} (p : Option X) → or_else p None ≡ p
nothing_left {X} None = refl
nothing_left {X} (Some x) = refl
