-- What `printf` prints (C90 7.9.6.1, 7.9.6.3): the pieces of its format from left to right, once all arguments are evaluated.
-- Each byte that is printed is a unit of work, and so is each argument.
use Rattle.std.specs.Prelude.{ℕ, zero, suc, ◌+◌, ◌^◌, nat_eq, if◌then◌else◌, List, [], ◌∷◌, length}
use Rattle.dae_base.specs.Words.{plus, loaded}
use Rattle.dae_base.specs.declared.LoadKind.TheVariants.{U8}
use Rattle.dae_base.specs.declared.Width.TheVariants.{B1}
use Rattle.dae_meaning.specs.Worlds.{ticked}
use Rattle.dae_meaning.specs.Results.{At, Over, Next, Trapped, Run, ◌▷◌}
use Rattle.dae_meaning.specs.Variables.{Env}
use Rattle.dae_meaning.specs.Operations.{spelled, misplaced}
use Rattle.dae_meaning.specs.declared.Spelling.TheVariants.{Byte}
use Rattle.dae_program.specs.declared.statements.FormatPiece.{FormatPiece}
use Rattle.dae_program.specs.declared.statements.FormatPiece.TheVariants as piece
use Rattle.dae_program.specs.Outcomes.{Gives, ◌⊳◌, unless, with_read}
use Rattle.dae_program.specs.Expressions.{with_printed}

-- among so many addresses that follow one another one is below 16, so that no text is longer
unfoldable pub most_bytes : ℕ
most_bytes = 2 ^ 32 + 2

-- `%s`: the bytes from an address up to the first zero byte, each read, and checked, before it is printed
abbrev pub print_text : ℕ → ℕ → Run Env
print_text zero x env w = Over (Trapped 2) w
print_text (suc most) x env w =
    unless (misplaced B1 x (length w.memory)) (Gives (loaded U8 x w.memory) env (with_read w)) w ⊳ λ b env w.
    if nat_eq b 0 then At Next env w else print_text most (plus x 1) env (with_printed (spelled Byte b) w)

-- the argument of this number, from 0, and where there is none the other
abbrev pub argument : {X : Type 0} → X → List X → ℕ → X
argument other [] k = other
argument other (x ∷ xs) zero = x
argument other (x ∷ xs) (suc k) = argument other xs k

-- the pieces in order, with the values of the arguments
abbrev pub print_pieces : List FormatPiece → List ℕ → Run Env
print_pieces [] words env w = At Next env w
print_pieces (piece.Byte b ∷ ps) words env w = print_pieces ps words env (with_printed (spelled Byte b) w)
print_pieces (piece.Word spelling k ∷ ps) words env w =
    print_pieces ps words env (with_printed (spelled spelling (argument 0 words k)) (ticked w))
print_pieces (piece.String k ∷ ps) words env w = print_text most_bytes (argument 0 words k) env (ticked w) ▷ print_pieces ps words
