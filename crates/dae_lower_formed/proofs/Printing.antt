-- What a format of a lawful program prints itself are bytes.
use Rattle.std.proofs.Common.{◌≡◌, true, ◌&&◌, List, [], ◌∷◌, arith}
use Rattle.std.proofs.lemmas.Bool.Decides.{nat_tests}
use Rattle.std.specs.List.{list_all, AllByRecursion}
use Rattle.dae_base.proofs.Laws.{and_first, and_second}
use Rattle.dae_program.specs.declared.statements.FormatPiece.{FormatPiece}
use Rattle.dae_program.specs.declared.statements.FormatPiece.TheVariants as piece
use Rattle.dae_program.specs.Lawful.{is_byte, prints_bytes, arms_print_bytes}
use Rattle.dae_program.specs.Trees.{Statements, Arms, Done, Evaluate, Initialise, Print, If, Loop, Do, Switch, Break, Continue, Return, no_arms, arm_then}
use Rattle.dae_lower_formed.specs.Bytes.{IsByte, PrintBytes, ArmsPrintBytes}

piece_is : (x : FormatPiece) → is_byte x ≡ true → IsByte x
piece_is (piece.Byte b) h = grind (arith, nat_tests)
piece_is (piece.Word spelling k) h = tt
piece_is (piece.String k) h = tt

pieces_are : (xs : List FormatPiece) → list_all is_byte xs ≡ true → AllByRecursion IsByte xs
pieces_are [] h = tt
pieces_are (x ∷ xs) h = (piece_is x (and_first (is_byte x) (list_all is_byte xs) h), pieces_are xs (and_second (is_byte x) (list_all is_byte xs) h))

mutual
  pub print_bytes : (t : Statements) → prints_bytes t ≡ true → PrintBytes t
  print_bytes Done h = tt
  print_bytes (Evaluate p e k) h = print_bytes k h
  print_bytes (Initialise p offset size items k) h = print_bytes k h
  print_bytes (Print p xs pieces k) h =
      (pieces_are pieces (and_first (list_all is_byte pieces) (prints_bytes k) h), print_bytes k (and_second (list_all is_byte pieces) (prints_bytes k) h))
  print_bytes (If p e t u k) h =
      let rest = and_second (prints_bytes t) (prints_bytes u && prints_bytes k) h in
      (print_bytes t (and_first (prints_bytes t) (prints_bytes u && prints_bytes k) h), print_bytes u (and_first (prints_bytes u) (prints_bytes k) rest), print_bytes k (and_second (prints_bytes u) (prints_bytes k) rest))
  print_bytes (Loop p test body step k) h =
      (print_bytes body (and_first (prints_bytes body) (prints_bytes k) h), print_bytes k (and_second (prints_bytes body) (prints_bytes k) h))
  print_bytes (Do p body test k) h =
      (print_bytes body (and_first (prints_bytes body) (prints_bytes k) h), print_bytes k (and_second (prints_bytes body) (prints_bytes k) h))
  print_bytes (Switch p e arms k) h =
      (arms_bytes arms (and_first (arms_print_bytes arms) (prints_bytes k) h), print_bytes k (and_second (arms_print_bytes arms) (prints_bytes k) h))
  print_bytes (Break p k) h = print_bytes k h
  print_bytes (Continue p k) h = print_bytes k h
  print_bytes (Return p e k) h = print_bytes k h

  arms_bytes : (arms : Arms) → arms_print_bytes arms ≡ true → ArmsPrintBytes arms
  arms_bytes no_arms h = tt
  arms_bytes (arm_then labels t rest) h =
      (print_bytes t (and_first (prints_bytes t) (arms_print_bytes rest) h), arms_bytes rest (and_second (prints_bytes t) (arms_print_bytes rest) h))
