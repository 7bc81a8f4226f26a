-- A fault of one part of a text is one of the text, where the parts before are in their bounds.
use Rattle.std.proofs.Common.{◌≡◌, ℕ, ℤ, pos, List, ◌++◌, None, subst, sym}
use Rattle.dae_asm_order.specs.Sheets.{Sheet}
use Rattle.dae_asm_labels.specs.Labels.{Look, labels_a, labels_e}
use Rattle.dae_asm_data.specs.declared.faults.ValueFault.{ValueFault}
use Rattle.dae_asm_data.specs.declared.faults.ValueFault.TheVariants as faults
use Rattle.dae_asm_data.specs.declared.marks.TextCounts.{TextCounts}
use Rattle.dae_asm_data.specs.Bounds.{Bound, AreKept, data_bounds, mark_bounds, name_bounds, IsFirstBroken, IsValueFault}
use Rattle.dae_asm_data.specs.Walking.{Leads}
use Rattle.dae_asm_data.proofs.Laws.{starts, past_part, breaks_in}
use Rattle.dae_asm.specs.Assembly.{head_bounds, code_bounds, counts_of, bounds}

abbrev Lines : Type 0
Lines = List (ℕ × Bound)

abbrev from_names : Sheet → Lines
from_names s = name_bounds 0 s.names

abbrev the_marks : Sheet → Lines
the_marks s = mark_bounds (counts_of s) 0 None s.marks

abbrev from_marks : Sheet → Lines
from_marks s = the_marks s ++ from_names s

abbrev the_data : Sheet → Lines
the_data s = data_bounds s.memory.1 0 s.bytes

abbrev from_data : Sheet → Lines
from_data s = the_data s ++ from_marks s

abbrev the_e : Sheet → Lines
the_e s = code_bounds s.begin_e (labels_e s) s.code_e

abbrev from_e : Sheet → Lines
from_e s = the_e s ++ from_data s

abbrev the_a : Sheet → Lines
the_a s = code_bounds s.begin_a (labels_a s) s.code_a

abbrev from_a : Sheet → Lines
from_a s = the_a s ++ from_e s

fault_in : (all part rest : Lines) (e : ValueFault) → Leads all (part ++ rest) → IsValueFault part e → IsValueFault all e
fault_in all part rest (faults.Line n) l h = breaks_in all part rest n l h
fault_in all part rest faults.Memory l h = tt

last_fault : (all part : Lines) (e : ValueFault) → Leads all part → IsValueFault part e → IsValueFault all e
last_fault all part (faults.Line n) l h = l.broken n h
last_fault all part faults.Memory l h = tt

pub record Kept (s : Sheet) : Type 0 where
  pub head : AreKept (head_bounds s)
  pub a : AreKept (the_a s)
  pub e : AreKept (the_e s)

at_a : (s : Sheet) → AreKept (head_bounds s) → Leads (bounds s) (from_a s)
at_a s h = past_part (bounds s) (head_bounds s) (from_a s) (starts (bounds s)) h

at_e : (s : Sheet) → AreKept (head_bounds s) → AreKept (the_a s) → Leads (bounds s) (from_e s)
at_e s h a = past_part (bounds s) (the_a s) (from_e s) (at_a s h) a

at_data : (s : Sheet) → Kept s → Leads (bounds s) (from_data s)
at_data s k = past_part (bounds s) (the_e s) (from_data s) (at_e s k.head k.a) k.e

at_marks : (s : Sheet) → Kept s → AreKept (the_data s) → Leads (bounds s) (from_marks s)
at_marks s k d = past_part (bounds s) (the_data s) (from_marks s) (at_data s k) d

at_names : (s : Sheet) → Kept s → AreKept (the_data s) → AreKept (the_marks s) → Leads (bounds s) (from_names s)
at_names s k d m = past_part (bounds s) (the_marks s) (from_names s) (at_marks s k d) m

pub head_fault : (s : Sheet) (e : ValueFault) → IsValueFault (head_bounds s) e → IsValueFault (bounds s) e
head_fault s e h = fault_in (bounds s) (head_bounds s) (from_a s) e (starts (bounds s)) h

-- with the labels and the counts as code found them
pub a_fault : (s : Sheet) (e : ValueFault) (found : Look) → found ≡ labels_a s → AreKept (head_bounds s) → IsValueFault (code_bounds s.begin_a found s.code_a) e → IsValueFault (bounds s) e
a_fault s e found same k h = fault_in (bounds s) (the_a s) (from_e s) e (at_a s k) (subst (λ (l : Look). IsValueFault (code_bounds s.begin_a l s.code_a) e) same h)

pub e_fault : (s : Sheet) (e : ValueFault) (found : Look) → found ≡ labels_e s → AreKept (head_bounds s) → AreKept (the_a s) → IsValueFault (code_bounds s.begin_e found s.code_e) e → IsValueFault (bounds s) e
e_fault s e found same k a h = fault_in (bounds s) (the_e s) (from_data s) e (at_e s k a) (subst (λ (l : Look). IsValueFault (code_bounds s.begin_e l s.code_e) e) same h)

-- with the number of the memory as it was read
abbrev pub data_of : Sheet → ℕ → Lines
data_of s memory = data_bounds (pos memory) 0 s.bytes

data_is : (s : Sheet) (memory : ℕ) → s.memory.1 ≡ pos memory → AreKept (data_of s memory) → AreKept (the_data s)
data_is s memory e k = subst (λ (z : ℤ). AreKept (data_bounds z 0 s.bytes)) (sym e) k

pub data_fault : (s : Sheet) (e : ValueFault) (memory : ℕ) → Kept s → s.memory.1 ≡ pos memory → IsValueFault (data_of s memory) e → IsValueFault (bounds s) e
data_fault s e memory k same h = fault_in (bounds s) (the_data s) (from_marks s) e (at_data s k) (subst (λ (z : ℤ). IsValueFault (data_bounds z 0 s.bytes) e) (sym same) h)

pub marks_fault : (s : Sheet) (e : ValueFault) (memory : ℕ) (found : TextCounts) → found ≡ counts_of s → Kept s → s.memory.1 ≡ pos memory → AreKept (data_of s memory) → IsValueFault (mark_bounds found 0 None s.marks) e → IsValueFault (bounds s) e
marks_fault s e memory found counted k same d h = fault_in (bounds s) (the_marks s) (from_names s) e (at_marks s k (data_is s memory same d)) (subst (λ (n : TextCounts). IsValueFault (mark_bounds n 0 None s.marks) e) counted h)

pub names_fault : (s : Sheet) (e : ValueFault) (memory : ℕ) → Kept s → s.memory.1 ≡ pos memory → AreKept (data_of s memory) → AreKept (the_marks s) → IsValueFault (from_names s) e → IsValueFault (bounds s) e
names_fault s e memory k same d m h = last_fault (bounds s) (from_names s) e (at_names s k (data_is s memory same d) m) h

pub first_line : (bounds : Lines) (e : ValueFault) (n : ℕ) → e ≡ faults.Line n → IsValueFault bounds e → IsFirstBroken bounds n
first_line bounds e n same h = subst (λ (f : ValueFault). IsValueFault bounds f) same h
