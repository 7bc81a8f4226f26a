-- Texts are read in one way alone.
use Rattle.std.specs.Prelude.{◌≡◌, ℕ, List}
use Rattle.dae_tree.specs.declared.faults.LexError.{LexError}
use Rattle.dae_tree.specs.Files.{FileContents}
use Rattle.dae_parse.specs.declared.error.ParseError.{ParseError}
use Rattle.dae_accept.specs.Alike.{AreLike}
use Rattle.dae_accept.specs.Read.{AreRead, HasNoTokens, IsTreeRefusal}

-- whatever files texts are read to, they are alike
abbrev pub AreReadAlike : Type 0
AreReadAlike = (texts : List (List ℕ)) (fs gs : List FileContents) → AreRead texts fs → AreRead texts gs → AreLike fs gs

-- texts that are read are not refused for their tokens
abbrev pub IsNoLexErrorOfRead : LexError → Type 0
IsNoLexErrorOfRead e = (texts : List (List ℕ)) (fs : List FileContents) → AreRead texts fs → ¬ HasNoTokens texts e

-- nor for a tree
abbrev pub IsNoParseErrorOfRead : ParseError → Type 0
IsNoParseErrorOfRead e = (texts : List (List ℕ)) (fs : List FileContents) → AreRead texts fs → ¬ IsTreeRefusal texts e

-- of texts without tokens one cause is told
abbrev pub AreCutOnce : Type 0
AreCutOnce = (texts : List (List ℕ)) (d e : LexError) → HasNoTokens texts d → HasNoTokens texts e → d ≡ e

-- of texts without a tree one cause is told
abbrev pub AreParsedOnce : Type 0
AreParsedOnce = (texts : List (List ℕ)) (d e : ParseError) → IsTreeRefusal texts d → IsTreeRefusal texts e → d ≡ e

-- a tree is lacking only of texts that have tokens
abbrev pub AreCutFirst : Type 0
AreCutFirst = (texts : List (List ℕ)) (d : LexError) (e : ParseError) → HasNoTokens texts d → ¬ IsTreeRefusal texts e
