-- The bounds at the head of a text, one by one.
use Rattle.std.proofs.Common.{◌≡◌, ℕ, ℤ, List, [], ◌∷◌, inl, inr, refl, sym, ap, subst}
use Rattle.std.proofs.lemmas.List.Elements.{All-nil, All-cons}
use Rattle.dae_base.specs.declared.Depths.{Depths}
use Rattle.dae_image.specs.declared.fields.FieldRange.{FieldRange}
use Rattle.dae_image.specs.Ranges.{memory_range, calls_range, private_range}
use Rattle.dae_asm_lines.specs.Targets.{JumpTarget}
use Rattle.dae_asm_order.specs.Sheets.{Sheet}
use Rattle.dae_asm_labels.specs.Labels.{Look, words, labels_a, labels_e}
use Rattle.dae_asm_values.specs.Values.{IsFor, IsBudget, IsEntry}
use Rattle.dae_asm_data.specs.declared.marks.TextCounts.{TextCounts}
use Rattle.dae_asm_data.specs.Bounds.{Bound, Budget, Number, Entry, IsKept, AreKept, IsFirstBroken}
use Rattle.dae_asm.specs.declared.head.Head.{Head}
use Rattle.dae_asm.specs.Assembly.{counts_of, head_bounds}
use Rattle.dae_asm.specs.Making.{IsHead}
use Rattle.dae_asm.proofs.Coded.{kept_on}

kept_next : (n : ℕ) (b : Bound) (rest : List (ℕ × Bound)) → IsKept b → AreKept rest → AreKept ((n, b) ∷ rest)
kept_next n b rest k more = All-cons kept_on (n, b) rest k more

abbrev Lines : Type 0
Lines = List (ℕ × Bound)

-- the bounds from each number on
abbrev from_entry_e : Sheet → Lines
from_entry_e s = (s.entry.0, Entry (labels_e s) (words s.code_e) s.entry.2) ∷ []

abbrev from_entry_a : Sheet → Lines
from_entry_a s = (s.entry.0, Entry (labels_a s) (words s.code_a) s.entry.1) ∷ from_entry_e s

abbrev from_private_e : Sheet → Lines
from_private_e s = (s.private.0, Number private_range s.private.2) ∷ from_entry_a s

abbrev from_private_a : Sheet → Lines
from_private_a s = (s.private.0, Number private_range s.private.1) ∷ from_private_e s

abbrev from_calls : Sheet → Lines
from_calls s = (s.calls.0, Number calls_range s.calls.1) ∷ from_private_a s

abbrev from_memory : Sheet → Lines
from_memory s = (s.memory.0, Number memory_range s.memory.1) ∷ from_calls s

pub head_kept : (s : Sheet) (h : Head) → IsHead s h → AreKept (head_bounds s)
head_kept s h k =
    kept_next s.budget.0 (Budget s.budget.1) (from_memory s) (h.budget, k.budget)
    (kept_next s.memory.0 (Number memory_range s.memory.1) (from_calls s) (h.memory, k.memory)
    (kept_next s.calls.0 (Number calls_range s.calls.1) (from_private_a s) (h.calls, k.calls)
    (kept_next s.private.0 (Number private_range s.private.1) (from_private_e s) (h.private_a, k.private_a)
    (kept_next s.private.0 (Number private_range s.private.2) (from_entry_a s) (h.private_e, k.private_e)
    (kept_next s.entry.0 (Entry (labels_a s) (words s.code_a) s.entry.1) (from_entry_e s) (h.entry_a, k.entry_a)
    (kept_next s.entry.0 (Entry (labels_e s) (words s.code_e) s.entry.2) [] (h.entry_e, k.entry_e) (All-nil kept_on)))))))

entry_is : (found known : Look) (n count : ℕ) (t : JumpTarget) (x : ℕ) → found ≡ known → n ≡ count → IsEntry found n t x → IsEntry known count t x
entry_is found known n count t x same e h =
    subst (λ (k : ℕ). IsEntry known k t x) e (subst (λ (l : Look). IsEntry l n t x) same h)

for_is : (range : FieldRange) (z y : ℤ) (n : ℕ) → IsFor range z n → z ≡ y → IsFor range y n
for_is range z y n h same = subst (λ (x : ℤ). IsFor range x n) same h

-- the last of them is broken, with the labels, the counts and the numbers as code found them
pub bad_entry_e : (s : Sheet) (in_a in_e : Look) (counts : TextCounts) (d : Depths) (m c a e x : ℕ) (zm zc za ze : ℤ) → in_a ≡ labels_a s → in_e ≡ labels_e s → counts ≡ counts_of s
    → IsBudget s.budget.1 d → IsFor memory_range zm m → IsFor calls_range zc c → IsFor private_range za a → IsFor private_range ze e
    → zm ≡ s.memory.1 → zc ≡ s.calls.1 → za ≡ s.private.1 → ze ≡ s.private.2
    → IsEntry in_a counts.words_a s.entry.1 x → ((n : ℕ) → IsEntry in_e counts.words_e s.entry.2 n → ⊥) → IsFirstBroken (head_bounds s) s.entry.0
bad_entry_e s in_a in_e counts d m c a e x zm zc za ze ka ke kc b h g p q sm sc sa se r none =
    let whole : IsEntry (labels_a s) (words s.code_a) s.entry.1 x = entry_is in_a (labels_a s) counts.words_a (words s.code_a) s.entry.1 x ka (ap (λ (k : TextCounts). k.words_a) kc) r in
    let broken : ((n : ℕ) × IsEntry (labels_e s) (words s.code_e) s.entry.2 n) → ⊥ = λ k. none k.0 (entry_is (labels_e s) in_e (words s.code_e) counts.words_e s.entry.2 k.0 (sym ke) (sym (ap (λ (z : TextCounts). z.words_e) kc)) k.1) in
    inr ((d, b), inr ((m, for_is memory_range zm s.memory.1 m h sm), inr ((c, for_is calls_range zc s.calls.1 c g sc), inr ((a, for_is private_range za s.private.1 a p sa), inr ((e, for_is private_range ze s.private.2 e q se), inr ((x, whole), inl (refl, broken)))))))
