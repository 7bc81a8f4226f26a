-- What a check of several files answers.
use Rattle.std.specs.Prelude.{List, Vec, Result, Ok, Err}
use Rattle.std.specs.declared.alloc.Global.{Global}
use Rattle.dae_tree.specs.Files.{FileContents}
use Rattle.dae_types_kinds.specs.declared.rules.CheckError.{CheckError}
use Rattle.dae_types_kinds.specs.declared.rules.CheckError.TheVariants.{Rule, Memory, Unsound}
use Rattle.dae_types_typed.specs.declared.files.FileParts.{FileParts}
use Rattle.dae_accept.specs.Accepted.{AreTyped, IsFirstBroken}

-- the typed files, or a rule that is broken in the first file that breaks one; nothing is said of want of memory
abbrev pub Checks : Result (Vec FileParts Global) CheckError → List FileContents → Type 0
Checks (Ok all) files = AreTyped files all.items
Checks (Err (Rule b)) files = IsFirstBroken files b
Checks (Err Memory) files = Unit {0}
Checks (Err Unsound) files = Unit {0}
