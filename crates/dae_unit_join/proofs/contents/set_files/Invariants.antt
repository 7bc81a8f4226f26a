use Rattle.std.proofs.Common.{◌≡◌, drop}
use Rattle.dae_unit_join.specs.Contents.{files_set}
use Rattle.dae_unit_join.proofs.contents.set_files.Given as goal

abbrev pub invariant-loop-number : goal.invariant-loop-number
invariant-loop-number l =
    files_set l.links l.content l.number (drop l.number l.files) ≡ files_set l.links l.initial.content 0 l.files
