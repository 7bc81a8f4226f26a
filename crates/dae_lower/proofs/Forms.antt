-- The form of a small program, item by item.
use Rattle.std.proofs.Common.{◌≡◌, ◌∷◌, [], refl}
use Rattle.dae_base.specs.declared.Place.{Place}
use Rattle.dae_base.specs.declared.Width.TheVariants.{B4}
use Rattle.dae_base.specs.declared.LoadKind.TheVariants.{I32}
use Rattle.dae_ir.specs.Code.{Done, Do}
use Rattle.dae_meaning.specs.declared.Operator.TheVariants.{Multiply}
use Rattle.dae_ir.specs.declared.form.Operand.TheVariants.{Variable, Number}
use Rattle.dae_ir.specs.declared.form.Value.TheVariants.{Binary}
use Rattle.dae_meaning.specs.declared.Spelling.TheVariants.{Byte, Signed}
use Rattle.dae_ir.specs.declared.form.Check.TheVariants.{Place as Good}
use Rattle.dae_ir.specs.declared.form.Item.TheVariants.{Assign, Load, Store, Print, Expect, Halt}
use Rattle.dae_program.specs.declared.statements.FormatPiece.TheVariants as piece
use Rattle.dae_program.specs.Trees as tree
use Rattle.dae_program.specs.Trees.{Function, Statements}
use Rattle.dae_lower.specs.Lowering.{function_code}
use Rattle.std.specs.Prelude.{true, false}

abbrev here : Place
here = record { file = 0; line = 1; col = 1 }

abbrev main : Statements → Function
main body = record { address = λ k. 16; callee = λ g. g; parameters = []; frame = 0; body = body }

-- int g; int h; int main(void) { g = 6; h = g * 7; printf("%d\n", h); return 0; }
product_form :
    function_code here true (main (
    tree.Evaluate here (tree.Assign here I32 (tree.AtAddress false (tree.Number 16)) (tree.Number 6)) (
    tree.Evaluate here (tree.Assign here I32 (tree.AtAddress false (tree.Number 20)) (tree.Binary here Multiply (tree.Read here I32 false (tree.Number 16)) (tree.Number 7))) (
    tree.Print here (tree.expression_then (tree.Read here I32 false (tree.Number 20)) tree.no_expressions) (piece.Word Signed 0 ∷ piece.Byte 10 ∷ []) (
    tree.Evaluate here (tree.Exit here (tree.Number 0)) tree.Done))))) 1 ≡
    Do here (Store B4 (Number 16) (Number 6)) (
    Do here (Load 1 I32 (Number 16)) (
    Do here (Assign 2 (Binary Multiply (Variable 1) (Number 7))) (
    Do here (Store B4 (Number 20) (Variable 2)) (
    Do here (Load 3 I32 (Number 20)) (
    Do here (Print Signed (Variable 3)) (
    Do here (Print Byte (Number 10)) (
    Do here (Halt (Number 0)) Done)))))))
product_form = refl

-- int main(void) { *(int *)18 = 1; return 0; }
checked_form :
    function_code here true (main (
    tree.Evaluate here (tree.Assign here I32 (tree.AtAddress true (tree.Number 18)) (tree.Number 1)) (
    tree.Evaluate here (tree.Exit here (tree.Number 0)) tree.Done))) 1 ≡
    Do here (Expect (Good B4 (Number 18))) (
    Do here (Store B4 (Number 18) (Number 1)) (
    Do here (Halt (Number 0)) Done))
checked_form = refl
