-- Operands whose targets are offsets.
use Rattle.std.proofs.Common.{◌≡◌, ℕ, ℤ, pos, Option, Some, None, refl, sym, ap, ◌∙◌, subst}
use Rattle.dae_asm_lines.specs.declared.Operands.{Operands}
use Rattle.dae_asm_lines.specs.declared.Operands.TheVariants.{Registers, Immediate, Based, Branch, Upper, Jump, Alone}
use Rattle.dae_asm_lines.specs.Targets.{JumpTarget, Given, Named}
use Rattle.dae_asm_lines.specs.Names.{AreAlike}
use Rattle.dae_asm_labels.specs.Labels.{Look}
use Rattle.dae_asm_values.specs.Values.{IsOffset, AreOperands}

-- resolved operands have the form of those that they are made of
pub alike_still : (labels : Look) (here : ℕ) (form : Operands ℤ) (t : Operands JumpTarget) (o : Operands ℤ) → AreAlike form t → AreOperands labels here t o → AreAlike form o
alike_still labels here (Registers x y z) (Registers a b c) o h e = let P : Operands ℤ → Type 0 = λ p. AreAlike {S = ℤ} (Registers x y z) p in subst P (sym e) tt
alike_still labels here (Immediate x y z) (Immediate a b c) o h e = let P : Operands ℤ → Type 0 = λ p. AreAlike {S = ℤ} (Immediate x y z) p in subst P (sym e) tt
alike_still labels here (Based x y z) (Based a b c) o h e = let P : Operands ℤ → Type 0 = λ p. AreAlike {S = ℤ} (Based x y z) p in subst P (sym e) tt
alike_still labels here (Branch x y z) (Branch a b c) o h e = let P : Operands ℤ → Type 0 = λ p. AreAlike {S = ℤ} (Branch x y z) p in subst P (sym e.1.0) tt
alike_still labels here (Upper x y) (Upper a b) o h e = let P : Operands ℤ → Type 0 = λ p. AreAlike {S = ℤ} (Upper x y) p in subst P (sym e) tt
alike_still labels here (Jump x y) (Jump a b) o h e = let P : Operands ℤ → Type 0 = λ p. AreAlike {S = ℤ} (Jump x y) p in subst P (sym e.1.0) tt
alike_still labels here Alone Alone o h e = let P : Operands ℤ → Type 0 = λ p. AreAlike {S = ℤ} Alone p in subst P (sym e) tt
alike_still labels here form t o h e = absurd h

one_offset : (labels : Look) (here : ℕ) (t : JumpTarget) (x y : ℤ) → IsOffset labels here t x → IsOffset labels here t y → x ≡ y
one_offset labels here (Given z) x y e f = sym e ∙ f
one_offset labels here (Named name) x y e f =
    let same : e.0 ≡ f.0 = given e.0 f.0 (sym e.1.0 ∙ f.1.0) in
    cc (same, e.1.1, f.1.1)
  where
    given : (a b : ℕ) → Some a ≡ Some b → a ≡ b
    given a b h = cc

-- operands are resolved in one way
pub one_way : (labels : Look) (here : ℕ) (t : Operands JumpTarget) (o p : Operands ℤ) → AreOperands labels here t o → AreOperands labels here t p → o ≡ p
one_way labels here (Registers a b c) o p e f = e ∙ sym f
one_way labels here (Immediate a b c) o p e f = e ∙ sym f
one_way labels here (Based a b c) o p e f = e ∙ sym f
one_way labels here (Branch a b t) o p e f = e.1.0 ∙ ap (λ (x : ℤ). Branch a b x) (one_offset labels here t e.0 f.0 e.1.1 f.1.1) ∙ sym f.1.0
one_way labels here (Upper a b) o p e f = e ∙ sym f
one_way labels here (Jump a t) o p e f = e.1.0 ∙ ap (λ (x : ℤ). Jump a x) (one_offset labels here t e.0 f.0 e.1.1 f.1.1) ∙ sym f.1.0
one_way labels here Alone o p e f = e ∙ sym f
