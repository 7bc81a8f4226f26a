-- Where parameters and local objects are kept, from a room in memory on.
use Rattle.std.specs.Prelude.{List}
use Rattle.dae_types_kinds.specs.declared.tables.Local.{Local}
use Rattle.dae_types_kinds.specs.declared.tables.Storage.{Storage}
use Rattle.dae_types_kinds.specs.Tables.{Tables}
use Rattle.dae_types_file_plans.specs.Files.{kept_from}
use Rattle.dae_types_linkage.specs.declared.frames.FrameRoom.{FrameRoom}

abbrev pub kept_in : Tables → FrameRoom → List Local → List Storage
kept_in s x locals = kept_from s x.variable x.offset x.parameters locals
