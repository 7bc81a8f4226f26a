-- What several operands read.
use Rattle.std.proofs.Common.{◌≡◌, ℕ, zero, suc, ◌-◌, ◌<◌, ◌≤◌, List, [], ◌∷◌, length, drop, get_or, refl, ap, sym, ◌∙◌, arith}
use Rattle.std.proofs.Math.Path.{fun_ext}
use Rattle.dae_base.proofs.Laws.{or_along}
use Rattle.dae_ir.specs.Classes.{VariableSet}
use Rattle.dae_ir.specs.declared.stream.Argument.{Argument}
use Rattle.dae_select_walks.specs.Live.{with_all, in_operand, in_arguments}

pub all_of_two : (c d e : VariableSet) → with_all c (with_all d e) ≡ with_all (with_all c d) e
all_of_two c d e = fun_ext (λ u. or_along (c u) (d u) (e u))

pub drop_get : {X : Type 0} (list : List X) (i : ℕ) (other : X) → i < length list → drop i list ≡ get_or list i other ∷ drop (suc i) list
drop_get [] i other lt = absurd (omega arith)
drop_get (x ∷ list) zero other lt = refl
drop_get (x ∷ list) (suc i) other lt = drop_get list i other (omega arith)

pub one_argument : (list : List Argument) (j : ℕ) (other : Argument) (old set new : VariableSet) → 0 < j → j ≤ length list → set ≡ with_all (in_arguments (drop j list)) old
    → new ≡ with_all (in_operand (get_or list (j - 1) other).operand) set → new ≡ with_all (in_arguments (drop (j - 1) list)) old
one_argument list j other old set new some le so_far e =
    let back : suc (j - 1) ≡ j = omega arith in
    let x = get_or list (j - 1) other in
    let here : drop (j - 1) list ≡ x ∷ drop j list = drop_get list (j - 1) other (omega arith) ∙ ap (λ (n : ℕ). x ∷ drop n list) back in
    e ∙ ap (with_all (in_operand x.operand)) so_far ∙ all_of_two (in_operand x.operand) (in_arguments (drop j list)) old
    ∙ ap (λ (l : List Argument). with_all (in_arguments l) old) (sym here)
