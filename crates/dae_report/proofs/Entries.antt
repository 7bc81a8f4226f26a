-- The entries of a report, one by one.
use Rattle.std.proofs.Common.{◌≡◌, ℕ, suc, ◌+◌, true, List, [], ◌∷◌, ◌++◌, length, take, get_or, ◌<◌, ◌≤◌, refl, ap, sym, ◌∙◌, subst, arith}
use Rattle.std.specs.List.{list_all}
use Rattle.std.proofs.lemmas.List.{length-take-le}
use Rattle.std.proofs.lemmas.Option.{slice_get_read}
use Rattle.dae_base.proofs.Laws.{passes_at}
use Rattle.dae_ir.specs.Classes.{classes_of}
use Rattle.dae_ir.specs.declared.form.Function.{Function}
use Rattle.dae_ir.specs.declared.stream.Class.{Class}
use Rattle.dae_report.specs.declared.reports.FunctionReport.{FunctionReport}
use Rattle.dae_report.proofs.Sums.{take_one}
use Rattle.dae_report.specs.Counting.{is_countable}
use Rattle.dae_report.specs.Reports.{function_report, reports_from}

-- 32 bits count what the function at a place has, where they do for each
pub countable_at : (fs gs : List Function) (i : ℕ) (f : Function) → gs ≡ fs → list_all is_countable fs ≡ true → i < length gs → f ≡ get_or gs i f → is_countable f ≡ true
countable_at fs gs i f same all lt is =
    passes_at is_countable gs i f (subst (λ (xs : List Function). list_all is_countable xs ≡ true) (sym same) all) (slice_get_read gs (length gs) i f refl lt is)

pub reports_end : (tables : List (List Class)) (k : ℕ) (fs : List Function) (f : Function)
    → reports_from tables k (fs ++ f ∷ []) ≡ reports_from tables k fs ++ function_report (classes_of tables (k + length fs)) f ∷ []
reports_end tables k [] f = let e : k ≡ k + 0 = omega arith in ap (λ (n : ℕ). function_report (classes_of tables n) f ∷ []) e
reports_end tables k (x ∷ xs) f =
    let e : suc k + length xs ≡ k + suc (length xs) = omega arith in
    ap (λ (rs : List FunctionReport). function_report (classes_of tables k) x ∷ rs)
    (reports_end tables (suc k) xs f ∙ ap (λ (n : ℕ). reports_from tables (suc k) xs ++ function_report (classes_of tables n) f ∷ []) e)

pub reports_next : (tables : List (List Class)) (fs : List Function) (i : ℕ) (f : Function) (rs rs' : List FunctionReport) (r : FunctionReport) → i < length fs → f ≡ get_or fs i f
    → r ≡ function_report (classes_of tables i) f → rs ≡ reports_from tables 0 (take i fs) → rs' ≡ rs ++ r ∷ [] → rs' ≡ reports_from tables 0 (take (i + 1) fs)
reports_next tables fs i f rs rs' r lt is one so_far longer =
    let le : i ≤ length fs = omega (arith, lt) in
    let many : 0 + length (take i fs) ≡ i = (let e = length-take-le i fs le in omega (arith, e)) in
    let split : take (i + 1) fs ≡ take i fs ++ f ∷ [] = take_one fs i f lt is in
    longer
    ∙ ap (λ (xs : List FunctionReport). xs ++ r ∷ []) so_far
    ∙ ap (λ (x : FunctionReport). reports_from tables 0 (take i fs) ++ x ∷ []) (one ∙ ap (λ (n : ℕ). function_report (classes_of tables n) f) (sym many))
    ∙ sym (reports_end tables 0 (take i fs) f)
    ∙ ap (λ (xs : List Function). reports_from tables 0 xs) (sym split)
