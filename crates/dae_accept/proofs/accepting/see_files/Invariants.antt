use Rattle.std.proofs.Common.{take}
use Rattle.std.specs.List.{All}
use Rattle.dae_tree.specs.Files.{IsFile}
use Rattle.dae_accept.proofs.accepting.see_files.Given as goal

abbrev pub invariant-loop-file : goal.invariant-loop-file
invariant-loop-file l = All IsFile (take l.file-index l.files)
