-- A text has one outcome.
use Rattle.std.proofs.Common.{◌≡◌, inl, inr, ℕ, List, [], ◌∷◌, refl, sym, ap, ◌∙◌, subst}
use Rattle.std.specs.Prelude.{◌≢◌, Some}
use Rattle.dae_image.specs.declared.Image.{Image}
use Rattle.dae_asm_order.specs.Sheets.{Sheet}
use Rattle.dae_asm_labels.specs.Labels.{all_label_tests, first_false}
use Rattle.dae_asm_data.specs.Bounds.{Bound, IsFirstBroken}
use Rattle.dae_asm.specs.Assembly.{Asm, HasLabels, bounds, IsLabelFault, IsBadValue, IsCauseOf}
use Rattle.dae_asm.specs.declared.errors.AsmError.{AsmError}
use Rattle.dae_asm.specs.declared.errors.AsmError.TheVariants as errors
use Rattle.dae_asm_laws.proofs.Ordered.{bad_or_ordered, one_bad_line, one_sheet}
use Rattle.dae_asm_laws.proofs.Kept.{Kept, all_kept}

none_broken : (bs : List (ℕ × Bound)) (n : ℕ) → Kept bs → IsFirstBroken bs n → ⊥
none_broken [] n h f = f
none_broken (b ∷ bs) n h (inl f) = f.1 h.0
none_broken (b ∷ bs) n h (inr f) = none_broken bs n h.1 f.1

one_broken : (bs : List (ℕ × Bound)) (n m : ℕ) → IsFirstBroken bs n → IsFirstBroken bs m → n ≡ m
one_broken [] n m f g = absurd f
one_broken (b ∷ bs) n m (inl f) (inl g) = sym f.0 ∙ g.0
one_broken (b ∷ bs) n m (inl f) (inr g) = absurd (f.1 g.0)
one_broken (b ∷ bs) n m (inr f) (inl g) = absurd (g.1 f.0)
one_broken (b ∷ bs) n m (inr f) (inr g) = one_broken bs n m f.1 g.1

one_label : (text : List ℕ) (n m : ℕ) → IsLabelFault text n → IsLabelFault text m → n ≡ m
one_label text n m f g =
    let same = one_sheet text f.sheet g.sheet f.ordered g.ordered in
    let a = f.first in
    let b : first_false (all_label_tests f.sheet) ≡ Some m = subst (λ (s : Sheet). first_false (all_label_tests s) ≡ Some m) (sym same) g.first in
    cc

labels_first : (text : List ℕ) (n m : ℕ) → IsLabelFault text n → IsBadValue text m → ⊥
labels_first text n m f g =
    let same = one_sheet text f.sheet g.sheet f.ordered g.ordered in
    let a = f.first in
    let b : HasLabels f.sheet = subst HasLabels (sym same) g.labelled in
    cc

one_value : (text : List ℕ) (n m : ℕ) → IsBadValue text n → IsBadValue text m → n ≡ m
one_value text n m f g =
    let same = one_sheet text f.sheet g.sheet f.ordered g.ordered in
    one_broken (bounds f.sheet) n m f.first (subst (λ (s : Sheet). IsFirstBroken (bounds s) m) (sym same) g.first)

pub one_cause : (text : List ℕ) (e f : AsmError) → IsCauseOf text e → IsCauseOf text f → e ≢ errors.Memory → f ≢ errors.Memory → e ≡ f
one_cause text (errors.BadLine n) (errors.BadLine m) h k a b = ap errors.BadLine (one_bad_line text n m h k)
one_cause text (errors.BadLine n) (errors.Label m) h k a b = absurd (bad_or_ordered text k.sheet n k.ordered h)
one_cause text (errors.BadLine n) (errors.BadValue m) h k a b = absurd (bad_or_ordered text k.sheet n k.ordered h)
one_cause text (errors.Label n) (errors.BadLine m) h k a b = absurd (bad_or_ordered text h.sheet m h.ordered k)
one_cause text (errors.Label n) (errors.Label m) h k a b = ap errors.Label (one_label text n m h k)
one_cause text (errors.Label n) (errors.BadValue m) h k a b = absurd (labels_first text n m h k)
one_cause text (errors.BadValue n) (errors.BadLine m) h k a b = absurd (bad_or_ordered text h.sheet m h.ordered k)
one_cause text (errors.BadValue n) (errors.Label m) h k a b = absurd (labels_first text m n k h)
one_cause text (errors.BadValue n) (errors.BadValue m) h k a b = ap errors.BadValue (one_value text n m h k)
one_cause text errors.Memory f h k a b = absurd (a refl)
one_cause text e errors.Memory h k a b = absurd (b refl)

-- a text that says an image has no fault
pub no_cause : (text : List ℕ) (i : Image) (e : AsmError) → Asm text i → IsCauseOf text e → e ≡ errors.Memory
no_cause text i (errors.BadLine n) h k = absurd (bad_or_ordered text h.sheet n h.ordered k)
no_cause text i (errors.Label n) h k =
    absurd (let same = one_sheet text h.sheet k.sheet h.ordered k.ordered in
    let a = h.labelled in
    let b : first_false (all_label_tests h.sheet) ≡ Some n = subst (λ (s : Sheet). first_false (all_label_tests s) ≡ Some n) (sym same) k.first in
    cc)
no_cause text i (errors.BadValue n) h k =
    absurd (let same = one_sheet text h.sheet k.sheet h.ordered k.ordered in
    none_broken (bounds h.sheet) n (all_kept h.sheet i h.says) (subst (λ (s : Sheet). IsFirstBroken (bounds s) n) (sym same) k.first))
no_cause text i errors.Memory h k = refl
