-- What the refusal of a stage is for all.
use Rattle.dae_types_kinds.specs.declared.rules.CheckError.{CheckError}
use Rattle.dae_types_kinds.specs.declared.rules.CheckError.TheVariants as rules
use Rattle.dae_accept.specs.declared.reading.FileError.{FileError}
use Rattle.dae_accept.specs.declared.reading.FileError.TheVariants as files
use Rattle.dae_unit.specs.declared.errors.JoinError.{JoinError}
use Rattle.dae_unit.specs.declared.errors.JoinError.TheVariants as joins
use Rattle.dae_accept.specs.declared.error.CompileError.{CompileError}
use Rattle.dae_accept.specs.declared.error.CompileError.TheVariants.{Lex, Tree, Rule, Join, Memory}

abbrev pub from_reading : FileError → CompileError
from_reading (files.Lex e) = Lex e
from_reading (files.Tree e) = Tree e
from_reading files.Memory = Memory

abbrev pub from_checking : CheckError → CompileError
from_checking (rules.Rule b) = Rule b
from_checking rules.Memory = Memory
from_checking rules.Unsound = Memory

abbrev pub from_joining : JoinError → CompileError
from_joining joins.Memory = Memory
from_joining e = Join e
