-- How a line is read from left to right, token by token.
use Rattle.std.specs.Prelude.{◌≡◌, ℕ, Bool, false, not, ◌&&◌, ◌==◌, List, [], ◌∷◌, Option, Some, None}
use Rattle.dae_asm_lines.specs.declared.tokens.Scanned.{Scanned}
use Rattle.dae_asm_lines.specs.declared.tokens.Scanned.TheVariants as scans
use Rattle.dae_asm_lines.specs.Tokens.{LineToken, Word, Number, Sign, Other, is_blank, is_sign}

abbrev pub scanned : Scanned → LineToken
scanned (scans.Word word) = Word word.now
scanned (scans.Number z) = Number z
scanned (scans.Sign b) = Sign b
scanned scans.Other = Other

-- what a function returned, seen by view, is what reading gives
abbrev pub Gives : {X Y : Type 0} → (X → Y) → Option X → Option Y → Type 0
Gives view None read = read ≡ None
Gives view (Some x) read = read ≡ Some (view x)

abbrev pub first_token : List LineToken → Option (LineToken × List LineToken)
first_token [] = None
first_token (t ∷ ts) = Some (t, ts)

abbrev pub is_word_byte : ℕ → Bool
is_word_byte b = not (is_blank b) && not (is_sign b)

abbrev pub is_spoken : ℕ → Bool
is_spoken b = not (b == 59)

abbrev pub BeginsNoBlank : List ℕ → Type 0
BeginsNoBlank [] = Unit {0}
BeginsNoBlank (b ∷ bs) = is_blank b ≡ false
