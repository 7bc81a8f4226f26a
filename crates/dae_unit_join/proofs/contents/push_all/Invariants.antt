use Rattle.std.proofs.Common.{◌≡◌, drop}
use Rattle.dae_unit_join.specs.Contents.{all_behind}
use Rattle.dae_unit_join.proofs.contents.push_all.Given as goal

abbrev pub invariant-loop-file : goal.invariant-loop-file
invariant-loop-file l =
    all_behind l.content.items (drop l.file-index l.files) ≡ all_behind l.initial.content.items l.files
