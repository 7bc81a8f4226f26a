-- The numbers of names in memory, as plain data.
use Rattle.dae_types_file_plans.specs.Files.{LibraryNames}
use Rattle.dae_types_linkage.specs.declared.headers.LibraryNames.{LibraryNames as NumbersInMemory}

abbrev pub view_numbers : NumbersInMemory → LibraryNames
view_numbers n = record { printf = n.printf; putchar = n.putchar; exit = n.exit; abort = n.abort; main = n.main }
