-- Variables and operands are looked at one after the other.
use Rattle.std.proofs.Common.{◌≡◌, ℕ, ◌+◌, ◌<◌, ◌≤◌, Bool, true, false, List, length, take, get_or, refl, sym, subst, arith}
use Rattle.std.proofs.lemmas.Bool.{ltb-true, ltb-false}
use Rattle.std.specs.Prelude.{nat_lt}
use Rattle.dae_ir.specs.Classes.{VariableSet, has}
use Rattle.dae_ir.specs.SetFirst.{AllRead}
use Rattle.dae_ir.specs.declared.form.Operand.{Operand}
use Rattle.dae_ir.proofs.Laws.{read_end, take_one}

-- those below n + 1 pass, and then all up to a last one
pub passes_next : (s : VariableSet) (n : ℕ) → ((v : ℕ) → v < n → s v ≡ true) → s n ≡ true → (v : ℕ) → v < n + 1 → s v ≡ true
passes_next s n all last v lt = by (nat_lt v n) refl where
  by : (b : Bool) → nat_lt v n ≡ b → s v ≡ true
  by true is = all v (ltb-true v n is)
  by false is = let le = ltb-false v n is in let same : n ≡ v = omega (arith, le, lt) in subst (λ (u : ℕ). s u ≡ true) same last

pub passes_all : (s : VariableSet) (n m : ℕ) → ((v : ℕ) → v < n → s v ≡ true) → m ≤ n → s m ≡ true → (v : ℕ) → v ≤ m → s v ≡ true
passes_all s n m all le last v l = passes_next s m (λ u lt. all u (omega (arith, le, lt))) last v (omega (arith, l))

-- one operand more is read
pub read_next : (s : VariableSet) (xs : List Operand) (i : ℕ) (d : Operand) → i < length xs → has s (get_or xs i d) ≡ true → AllRead s (take i xs) → AllRead s (take (i + 1) xs)
read_next s xs i d lt h all = subst (λ (ys : List Operand). AllRead s ys) (sym (take_one xs i d lt)) (read_end s (take i xs) (get_or xs i d) all h)
