-- The files that a program comes from, and how large they are.
use Rattle.std.specs.Prelude.{◌≡◌, ℕ, ◌≤◌, List, []}
use Rattle.dae_tree.specs.Files.{FileContents}
use Rattle.dae_program.specs.declared.program.Program.{Program}
use Rattle.dae_types_typed.specs.declared.files.FileParts.{FileParts}
use Rattle.dae_unit.specs.Meanings.{functions_from}
use Rattle.dae_sizes.specs.Sources.{AreTypedAs, tokens_in, bytes_in}
use Rattle.dae_accept.specs.Read.{AreRead, whole_room}

-- the texts are read as files, in which no rule is broken, and the program has the functions that they join to
pub record IsOfFiles (texts : List (List ℕ)) (p : Program) : Type 0 where
  pub files : List FileContents
  pub read : AreRead texts files
  pub typed : List FileParts
  pub from : AreTypedAs files typed
  pub functions : p.functions ≡ functions_from [] 0 typed

-- files that are read have at most 65,536 tokens and 65,536 bytes of literals
abbrev pub ReadAreWithin : Type 0
ReadAreWithin =
    (texts : List (List ℕ)) (files : List FileContents) → AreRead texts files →
    (tokens_in files ≤ whole_room.tokens) × (bytes_in files ≤ whole_room.literal_bytes)
