-- Values that are equal by the derived test are the same.
use Rattle.std.proofs.Common.{◌≡◌, true, ◌&&◌, refl, ap}
use Rattle.std.proofs.lemmas.Bool.{false≢true, eqb-true, and_parts}
use Rattle.dae_base.specs.contracts.LoadKindPartialEq.TheImpl.{ghosts as of_kinds}
use Rattle.dae_base.specs.declared.LoadKind.{LoadKind}
use Rattle.dae_base.specs.declared.LoadKind.TheVariants.{I8, U8, I16, U16, I32}
use Rattle.dae_meaning.specs.contracts.OperatorPartialEq.TheImpl.{ghosts as of_operators}
use Rattle.dae_meaning.specs.contracts.ComparisonPartialEq.TheImpl.{ghosts as of_comparisons}
use Rattle.dae_meaning.specs.declared.Operator.{Operator}
use Rattle.dae_meaning.specs.declared.Operator.TheVariants.{Add, Subtract, Multiply, DivideSigned, DivideUnsigned, RemainderSigned, RemainderUnsigned, And, Or, Xor, ShiftLeft, ShiftRightSigned, ShiftRightUnsigned}
use Rattle.dae_meaning.specs.declared.Comparison.{Comparison}
use Rattle.dae_meaning.specs.declared.Comparison.TheVariants.{Equal, NotEqual, LessSigned, AtLeastSigned, LessUnsigned, AtLeastUnsigned}
use Rattle.dae_ir.specs.contracts.form.OperandPartialEq.TheImpl.{ghosts as of_operands}
use Rattle.dae_ir.specs.contracts.form.TestPartialEq.TheImpl.{ghosts as of_tests}
use Rattle.dae_ir.specs.contracts.form.ValuePartialEq.TheImpl.{ghosts as of_values}
use Rattle.dae_ir.specs.declared.form.Operand.{Operand}
use Rattle.dae_ir.specs.declared.form.Operand.TheVariants.{Variable, Number}
use Rattle.dae_ir.specs.declared.form.Value.{Value}
use Rattle.dae_ir.specs.declared.form.Value.TheVariants.{Same, Extended, Binary, Holds, FrameAddress}
use Rattle.dae_ir.specs.declared.form.Test.{Test}

kinds_same : (x y : LoadKind) → of_kinds.eq x y ≡ true → x ≡ y
kinds_same I8 I8 h = refl
kinds_same U8 U8 h = refl
kinds_same I16 I16 h = refl
kinds_same U16 U16 h = refl
kinds_same I32 I32 h = refl
kinds_same x y h = absurd (false≢true h)

operators_same : (x y : Operator) → of_operators.eq x y ≡ true → x ≡ y
operators_same Add Add h = refl
operators_same Subtract Subtract h = refl
operators_same Multiply Multiply h = refl
operators_same DivideSigned DivideSigned h = refl
operators_same DivideUnsigned DivideUnsigned h = refl
operators_same RemainderSigned RemainderSigned h = refl
operators_same RemainderUnsigned RemainderUnsigned h = refl
operators_same And And h = refl
operators_same Or Or h = refl
operators_same Xor Xor h = refl
operators_same ShiftLeft ShiftLeft h = refl
operators_same ShiftRightSigned ShiftRightSigned h = refl
operators_same ShiftRightUnsigned ShiftRightUnsigned h = refl
operators_same x y h = absurd (false≢true h)

comparisons_same : (x y : Comparison) → of_comparisons.eq x y ≡ true → x ≡ y
comparisons_same Equal Equal h = refl
comparisons_same NotEqual NotEqual h = refl
comparisons_same LessSigned LessSigned h = refl
comparisons_same AtLeastSigned AtLeastSigned h = refl
comparisons_same LessUnsigned LessUnsigned h = refl
comparisons_same AtLeastUnsigned AtLeastUnsigned h = refl
comparisons_same x y h = absurd (false≢true h)

operands_same : (x y : Operand) → of_operands.eq x y ≡ true → x ≡ y
operands_same (Variable u) (Variable v) h = ap Variable (eqb-true u v h)
operands_same (Number j) (Number k) h = ap Number (eqb-true j k h)
operands_same x y h = absurd (false≢true h)

conditions_same : (t u : Test) → of_tests.eq t u ≡ true → t ≡ u
conditions_same t u h =
    let a = and_parts (of_comparisons.eq t.comparison u.comparison) (of_operands.eq t.left u.left && of_operands.eq t.right u.right) h in
    let b = and_parts (of_operands.eq t.left u.left) (of_operands.eq t.right u.right) a.1 in
    let comparison : t.comparison ≡ u.comparison = comparisons_same t.comparison u.comparison a.0 in
    let left : t.left ≡ u.left = operands_same t.left u.left b.0 in
    let right : t.right ≡ u.right = operands_same t.right u.right b.1 in
    λ i. record { comparison = comparison i; left = left i; right = right i }

pub values_same : (x y : Value) → of_values.eq x y ≡ true → x ≡ y
values_same (Same x) (Same y) h = ap Same (operands_same x y h)
values_same (Extended k x) (Extended l y) h =
    let a = and_parts (of_kinds.eq k l) (of_operands.eq x y) h in
    let kind : k ≡ l = kinds_same k l a.0 in
    let operand : x ≡ y = operands_same x y a.1 in
    λ i. Extended (kind i) (operand i)
values_same (Binary o x u) (Binary p y v) h =
    let a = and_parts (of_operators.eq o p) (of_operands.eq x y && of_operands.eq u v) h in
    let b = and_parts (of_operands.eq x y) (of_operands.eq u v) a.1 in
    let operator : o ≡ p = operators_same o p a.0 in
    let left : x ≡ y = operands_same x y b.0 in
    let right : u ≡ v = operands_same u v b.1 in
    λ i. Binary (operator i) (left i) (right i)
values_same (Holds t) (Holds u) h = ap Holds (conditions_same t u h)
values_same (FrameAddress j) (FrameAddress k) h = ap FrameAddress (eqb-true j k h)
values_same x y h = absurd (false≢true h)
