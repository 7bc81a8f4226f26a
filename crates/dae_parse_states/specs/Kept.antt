-- What the machine's stack keeps, out of its boxes.
use Rattle.dae_parse_states.specs.declared.frames.ExpressionFrame.{ExpressionFrame}
use Rattle.dae_parse_states.specs.declared.frames.SpecifiersFrame.{SpecifiersFrame}
use Rattle.dae_parse_states.specs.declared.frames.DeclaratorFrame.{DeclaratorFrame}
use Rattle.dae_parse_states.specs.declared.frames.InitialiserFrame.{InitialiserFrame}
use Rattle.dae_parse_states.specs.declared.frames.DeclarationFrame.{DeclarationFrame}
use Rattle.dae_parse_states.specs.declared.frames.StatementFrame.{StatementFrame}
use Rattle.dae_parse_states.specs.declared.frames.Frame.{Frame as FrameInMemory}
use Rattle.dae_parse_states.specs.declared.frames.Frame.TheVariants as boxed

pub data Frame : Type 0 where
  Expression : ExpressionFrame → Frame
  Specifiers : SpecifiersFrame → Frame
  Declarator : DeclaratorFrame → Frame
  Initialiser : InitialiserFrame → Frame
  Declaration : DeclarationFrame → Frame
  Statement : StatementFrame → Frame

abbrev pub out_of_box : FrameInMemory → Frame
out_of_box (boxed.Expression b) = Expression b.value
out_of_box (boxed.Specifiers b) = Specifiers b.value
out_of_box (boxed.Declarator b) = Declarator b.value
out_of_box (boxed.Initialiser b) = Initialiser b.value
out_of_box (boxed.Declaration b) = Declaration b.value
out_of_box (boxed.Statement b) = Statement b.value
