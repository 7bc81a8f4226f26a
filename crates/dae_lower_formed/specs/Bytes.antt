-- Each byte that a `printf` prints from its format is a byte, as each value of its type is.
use Rattle.std.specs.Prelude.{◌<◌, ◌^◌}
use Rattle.std.specs.List.{AllByRecursion}
use Rattle.dae_program.specs.declared.statements.FormatPiece.{FormatPiece}
use Rattle.dae_program.specs.declared.statements.FormatPiece.TheVariants as piece
use Rattle.dae_program.specs.Trees.{Statements, Arms, Done, Evaluate, Initialise, Print, If, Loop, Do, Switch, Break, Continue, Return, no_arms, arm_then}

abbrev pub IsByte : FormatPiece → Type 0
IsByte (piece.Byte b) = b < 2 ^ 8
IsByte (piece.Word spelling k) = Unit {0}
IsByte (piece.String k) = Unit {0}

abbrev mutual
  pub PrintBytes : Statements → Type 0
  PrintBytes Done = Unit {0}
  PrintBytes (Evaluate p e k) = PrintBytes k
  PrintBytes (Initialise p offset size items k) = PrintBytes k
  PrintBytes (Print p xs pieces k) = AllByRecursion IsByte pieces × PrintBytes k
  PrintBytes (If p e t u k) = PrintBytes t × PrintBytes u × PrintBytes k
  PrintBytes (Loop p test body step k) = PrintBytes body × PrintBytes k
  PrintBytes (Do p body test k) = PrintBytes body × PrintBytes k
  PrintBytes (Switch p e arms k) = ArmsPrintBytes arms × PrintBytes k
  PrintBytes (Break p k) = PrintBytes k
  PrintBytes (Continue p k) = PrintBytes k
  PrintBytes (Return p e k) = PrintBytes k

  pub ArmsPrintBytes : Arms → Type 0
  ArmsPrintBytes no_arms = Unit {0}
  ArmsPrintBytes (arm_then labels t rest) = PrintBytes t × ArmsPrintBytes rest
