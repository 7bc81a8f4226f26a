-- Turns of the loops that lowering adds, as the form has them.
use Rattle.std.specs.Prelude.{ℕ}
use Rattle.dae_base.specs.declared.LoadKind.TheVariants.{U8}
use Rattle.dae_base.specs.declared.Place.{Place}
use Rattle.dae_base.specs.declared.Width.TheVariants.{B1}
use Rattle.dae_ir.specs.Code.{Do, Done, If}
use Rattle.dae_ir.specs.Form.{Form}
use Rattle.dae_ir.specs.declared.form.Operand.{Operand}
use Rattle.dae_ir.specs.declared.form.Check.TheVariants.{Place as Good}
use Rattle.dae_ir.specs.declared.form.Item.TheVariants.{Expect, Load, Print, Assign, Store, Break}
use Rattle.dae_ir.specs.declared.form.Operand.TheVariants.{Variable, Number}
use Rattle.dae_ir.specs.declared.form.Value.TheVariants.{Binary, Same}
use Rattle.dae_lower.specs.Lowering.{leaves_if_not, one, test_of, turn_bytes, zeros_at}
use Rattle.dae_meaning.specs.declared.Comparison.TheVariants.{Equal, NotEqual}
use Rattle.dae_meaning.specs.declared.Operator.TheVariants.{Add}
use Rattle.dae_meaning.specs.declared.Spelling.TheVariants.{Byte}

-- the byte at an address is printed, but a 0 leaves the loop
abbrev pub text_turn : Place → (address byte : ℕ) → Form
text_turn p n m =
    Do p (Expect (Good B1 (Variable n))) (
    Do p (Load m U8 (Variable n)) (
    leaves_if_not p (test_of NotEqual (Variable m) (Number 0)) (
    one p (Print Byte (Variable m)))))

-- the byte at the address in a variable becomes 0, and the address goes up
abbrev pub zero_then : Place → ℕ → Form → Form
zero_then p v rest =
    Do p (Store B1 (Variable v) (Number 0)) (Do p (Assign v (Binary Add (Variable v) (Number 1))) rest)

-- as many bytes as a turn clears become 0, unless the address is the end
abbrev pub zero_turn : Place → (size address end : ℕ) → Form
zero_turn p size n m = leaves_if_not p (test_of NotEqual (Variable n) (Variable m)) (zeros_at p n (turn_bytes size))

-- the search ends at an equal label, with the number of its arm, or goes on
abbrev pub label_then : Place → Operand → (v number label : ℕ) → Form → Form
label_then p x v number label rest =
    If p (test_of Equal x (Number label)) (Do p (Assign v (Same (Number number))) (one p Break)) Done rest
