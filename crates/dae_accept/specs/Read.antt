-- What is read of several texts, and what they are parsed into.
use Rattle.std.specs.Prelude.{◌≡◌, ◌⊎◌, ℕ, ◌+◌, List, [], ◌∷◌, ◌≤◌, length, map, Vec, Result, Ok, Err}
use Rattle.std.specs.declared.alloc.Global.{Global}
use Rattle.dae_tree.specs.declared.faults.LexError.{LexError}
use Rattle.dae_tree.specs.declared.faults.LexError.TheVariants as lex_errors
use Rattle.dae_tree.specs.declared.tokens.Room.{Room}
use Rattle.dae_tree.specs.Reading.{Reading}
use Rattle.dae_tree.specs.Tokens.{tokens_of}
use Rattle.dae_tree.specs.Files.{FileContents}
use Rattle.dae_tree.specs.Trees.{External}
use Rattle.dae_parse.specs.declared.error.ParseError.{ParseError}
use Rattle.dae_parse.specs.Parsed.{IsCause, IsFileOf, IsRefused, IsWithinLimits}
use Rattle.dae_accept.specs.declared.reading.FileError.{FileError}
use Rattle.dae_accept.specs.declared.reading.FileError.TheVariants.{Lex, Tree, Memory}

-- the limits on what is read of a job
abbrev pub whole_room : Room
whole_room = record { tokens = 65536; replacements = 65536; literal_bytes = 65536 }

abbrev pub texts_in : List (Vec ℕ Global) → List (List ℕ)
texts_in texts = map (λ text. text.items) texts

-- a text is at most that long
abbrev pub IsShort : Vec ℕ Global → Type 0
IsShort text = length text.items ≤ 1048576

abbrev pub with_first : Reading → Result (List Reading) LexError → Result (List Reading) LexError
with_first r (Ok rs) = Ok (r ∷ rs)
with_first r (Err e) = Err e

-- What is read of texts, which have the numbers from this one on: of each in the room that those before it left; or
-- the first refusal.
abbrev pub readings_from : ℕ → Room → List (List ℕ) → Result (List Reading) LexError
readings_from file room [] = Ok []
readings_from file room (text ∷ texts) =
    elim (tokens_of file text room) [ Ok x ↦ with_first x.0 (readings_from (file + 1) x.1 texts) | Err e ↦ Err e ]

abbrev pub readings_of : List (List ℕ) → Result (List Reading) LexError
readings_of texts = readings_from 0 whole_room texts

-- each file is that of its reading
abbrev pub AreFilesOf : List Reading → List FileContents → Type 0
AreFilesOf [] [] = Unit {0}
AreFilesOf [] (f ∷ fs) = ⊥
AreFilesOf (r ∷ rs) [] = ⊥
AreFilesOf (r ∷ rs) (f ∷ fs) = IsFileOf r f × AreFilesOf rs fs

-- one is refused so, and those before it have trees within the limits
abbrev pub IsFirstRefused : List Reading → ParseError → Type 0
IsFirstRefused [] e = ⊥
IsFirstRefused (r ∷ rs) e =
    (IsCause e × IsRefused r e) ⊎ ((file : List External) × IsWithinLimits r.tokens file × IsFirstRefused rs e)

-- what a refusal of one text is for all
abbrev pub lexed : LexError → FileError
lexed lex_errors.Memory = Memory
lexed e = Lex e

-- ---- what functions answer; nothing is said of want of memory

-- readings, or the first refusal
abbrev pub Cuts : Result (Vec Reading Global) FileError → Result (List Reading) LexError → Type 0
Cuts (Ok all) answer = answer ≡ Ok all.items
Cuts (Err (Lex e)) answer = answer ≡ Err e
Cuts (Err (Tree e)) answer = ⊥
Cuts (Err Memory) answer = Unit {0}

-- the files of these readings, or the first refusal
abbrev pub Parses : Result (Vec FileContents Global) FileError → List Reading → Type 0
Parses (Ok files) readings = AreFilesOf readings files.items
Parses (Err (Lex e)) readings = ⊥
Parses (Err (Tree e)) readings = IsFirstRefused readings e
Parses (Err Memory) readings = Unit {0}

-- the files of these texts
pub record AreRead (texts : List (List ℕ)) (files : List FileContents) : Type 0 where
  pub readings : List Reading
  pub tokens : readings_of texts ≡ Ok readings
  pub trees : AreFilesOf readings files

-- one has no tokens in the room that is left
abbrev pub HasNoTokens : List (List ℕ) → LexError → Type 0
HasNoTokens texts e = readings_of texts ≡ Err e

-- each has tokens, and those of one have no tree within the limits
pub record IsTreeRefusal (texts : List (List ℕ)) (e : ParseError) : Type 0 where
  pub readings : List Reading
  pub tokens : readings_of texts ≡ Ok readings
  pub first : IsFirstRefused readings e

abbrev pub Reads : Result (Vec FileContents Global) FileError → List (List ℕ) → Type 0
Reads (Ok files) texts = AreRead texts files.items
Reads (Err (Lex e)) texts = HasNoTokens texts e
Reads (Err (Tree e)) texts = IsTreeRefusal texts e
Reads (Err Memory) texts = Unit {0}
