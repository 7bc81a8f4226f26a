-- When two types are the same, by their shapes (C90 6.1.2.6).
use Rattle.std.specs.Prelude.{true, false, if◌then◌else◌, nat_eq}
use Rattle.dae_types_kinds.specs.declared.types.Shape.{Shape}
use Rattle.dae_types_kinds.specs.declared.types.Shape.TheVariants as shape
use Rattle.dae_types_kinds.specs.Types.{counts_agree}
use Rattle.dae_types_tables.specs.declared.sameness.Question.{Question}
use Rattle.dae_types_tables.specs.declared.sameness.Question.TheVariants as question

abbrev pub question_of : Shape → Shape → Question
question_of shape.Void shape.Void = question.Settled true
question_of shape.Char shape.Char = question.Settled true
question_of shape.SignedChar shape.SignedChar = question.Settled true
question_of shape.UnsignedChar shape.UnsignedChar = question.Settled true
question_of shape.Short shape.Short = question.Settled true
question_of shape.UnsignedShort shape.UnsignedShort = question.Settled true
question_of shape.Int shape.Int = question.Settled true
question_of shape.Unsigned shape.Unsigned = question.Settled true
question_of (shape.Pointer m) (shape.Pointer n) = question.One m n
question_of (shape.Array m c) (shape.Array n d) = if counts_agree c d then question.One m n else question.Settled false
question_of (shape.Struct m) (shape.Struct n) = question.Settled (nat_eq m n)
question_of (shape.Function r ps) (shape.Function t qs) = question.Both r t ps qs
question_of shape.NoParameters shape.NoParameters = question.Settled true
question_of (shape.Parameter ps m) (shape.Parameter qs n) = question.Both ps qs m n
question_of x y = question.Settled false
