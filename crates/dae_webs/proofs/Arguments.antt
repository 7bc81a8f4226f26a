-- Arguments are renamed one after the other.
use Rattle.std.proofs.Common.{◌≡◌, ℕ, ◌+◌, ◌<◌, true, List, [], ◌∷◌, ◌++◌, length, take, get_or, refl, ap, sym, ◌∙◌, subst}
use Rattle.dae_ir.specs.Classes.{has}
use Rattle.dae_ir.specs.SetFirst.{AllRead}
use Rattle.dae_ir.specs.declared.form.Operand.{Operand}
use Rattle.dae_ir.proofs.Laws.{read_end, take_one}
use Rattle.dae_webs.specs.Current.{Current, has_web}
use Rattle.dae_webs.specs.Renamed.{renamed_operand, renamed_operands}

renamed_end : (m : Current) (xs : List Operand) (x : Operand) → renamed_operands m (xs ++ x ∷ []) ≡ renamed_operands m xs ++ renamed_operand m x ∷ []
renamed_end m [] x = refl
renamed_end m (y ∷ xs) x = ap (λ (l : List Operand). renamed_operand m y ∷ l) (renamed_end m xs x)

-- the first i arguments are renamed
pub record OperandsTo (m : Current) (xs : List Operand) (i : ℕ) (ys : List Operand) : Type 0 where
  pub renamed : ys ≡ renamed_operands m (take i xs)
  pub known : AllRead (has_web m) (take i xs)

pub operands_next : (m : Current) (xs : List Operand) (i : ℕ) (d y : Operand) (ys ys' : List Operand) → i < length xs → y ≡ renamed_operand m (get_or xs i d) → has (has_web m) (get_or xs i d) ≡ true
    → ys' ≡ ys ++ y ∷ [] → OperandsTo m xs i ys → OperandsTo m xs (i + 1) ys'
operands_next m xs i d y ys ys' lt is there longer so_far =
    let split = take_one xs i d lt in
    record {
      renamed =
          longer ∙ ap (λ (l : List Operand). l ++ y ∷ []) so_far.renamed ∙ ap (λ (z : Operand). renamed_operands m (take i xs) ++ z ∷ []) is
          ∙ sym (renamed_end m (take i xs) (get_or xs i d)) ∙ ap (λ (l : List Operand). renamed_operands m l) (sym split);
      known = subst (λ (l : List Operand). AllRead (has_web m) l) (sym split) (read_end (has_web m) (take i xs) (get_or xs i d) so_far.known there);
    }
