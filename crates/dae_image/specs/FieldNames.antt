-- The names of the fields, as notes print them.
use Rattle.std.specs.Prelude.{ℕ, List, codes}
use Rattle.dae_image.specs.declared.fault.Field.{Field}
use Rattle.dae_image.specs.declared.fault.Field.TheVariants.{Magic, Version, Ld, Al, Sa, Sd, Ab, Eb, Cq, Memory, Calls, PrivateA, PrivateE, EntryA, EntryE, WordsA, WordsE, DataLength, LineCount, NameCount, CodeA, CodeE, Data, Line, Name}

abbrev pub field_name : Field → List ℕ
field_name Magic = codes "magic"
field_name Version = codes "version"
field_name Ld = codes "ld"
field_name Al = codes "al"
field_name Sa = codes "sa"
field_name Sd = codes "sd"
field_name Ab = codes "ab"
field_name Eb = codes "eb"
field_name Cq = codes "cq"
field_name Memory = codes "memory"
field_name Calls = codes "calls"
field_name PrivateA = codes "private-a"
field_name PrivateE = codes "private-e"
field_name EntryA = codes "entry-a"
field_name EntryE = codes "entry-e"
field_name WordsA = codes "words-a"
field_name WordsE = codes "words-e"
field_name DataLength = codes "data-length"
field_name LineCount = codes "line-count"
field_name NameCount = codes "name-count"
field_name CodeA = codes "code-a"
field_name CodeE = codes "code-e"
field_name Data = codes "data"
field_name Line = codes "line"
field_name Name = codes "name"
