-- Lists of statements that are walked over one after the other, and steps that grow at their end.
use Rattle.std.proofs.Common.{◌≡◌, ℕ, suc, ◌+◌, ◌<◌, ◌≤◌, true, List, [], ◌∷◌, ◌++◌, length, drop, drop_of_length-le, take, get_or, refl, ap, subst, arith}
use Rattle.std.proofs.Math.Seq.{take-suc}
use Rattle.dae_base.proofs.Laws.{drop_at}
use Rattle.dae_ir.specs.Code.{Done}
use Rattle.dae_ir.specs.Form.{Form, before, form_of}
use Rattle.dae_ir.specs.Classes.{VariableSet, has}
use Rattle.dae_ir.specs.SetFirst.{AllRead}
use Rattle.dae_ir.specs.Streams.{Actions, onto, step_onto}
use Rattle.dae_ir.specs.declared.form.Operand.{Operand}
use Rattle.dae_ir.specs.declared.form.Statement.{Statement}
use Rattle.dae_ir.specs.declared.stream.Step.{Step}

-- the form of the statements from number i on
abbrev pub rest : ℕ → List Statement → Form
rest i ss = form_of (drop i ss)

pub rest_one : (ss : List Statement) (i : ℕ) (s : Statement) → i < length ss → s ≡ get_or ss i s → rest i ss ≡ before s (rest (i + 1) ss)
rest_one ss i s lt is = ap form_of (drop_at ss i s lt is)

pub rest_end : (ss : List Statement) (i : ℕ) → length ss ≤ i → rest i ss ≡ Done
rest_end ss i le = ap form_of (drop_of_length-le ss {i = i} le)

-- the form of statements, and then k
abbrev pub all_before : List Statement → Form → Form
all_before [] k = k
all_before (s ∷ ss) k = before s (all_before ss k)

pub before_end : (xs : List Statement) (s : Statement) (k : Form) → all_before (xs ++ s ∷ []) k ≡ all_before xs (before s k)
before_end [] s k = refl
before_end (x ∷ xs) s k = ap (before x) (before_end xs s k)

pub form_before : (xs : List Statement) → form_of xs ≡ all_before xs Done
form_before [] = refl
form_before (x ∷ xs) = ap (before x) (form_before xs)

pub onto_push : (xs : List Step) (s : Step) (k : Actions) → onto (xs ++ s ∷ []) k ≡ onto xs (step_onto s k)
onto_push [] s k = refl
onto_push (x ∷ xs) s k = ap (step_onto x) (onto_push xs s k)

-- ---- operands, one after the other

pub read_end : (d : VariableSet) (xs : List Operand) (x : Operand) → AllRead d xs → has d x ≡ true → AllRead d (xs ++ x ∷ [])
read_end d [] x all h = (h, tt)
read_end d (y ∷ xs) x all h = (all.0, read_end d xs x all.1 h)

pub take_one : (xs : List Operand) (i : ℕ) (d : Operand) → i < length xs → take (i + 1) xs ≡ take i xs ++ get_or xs i d ∷ []
take_one xs i d lt = let one : suc i ≡ i + 1 = omega arith in subst (λ (k : ℕ). take k xs ≡ take i xs ++ get_or xs i d ∷ []) one (take-suc xs i d lt)
