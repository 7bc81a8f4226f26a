use Rattle.std.proofs.Common.{◌≡◌, drop}
use Rattle.std.specs.List.{list_all}
use Rattle.dae_program.specs.Lawful.{is_label_word}
use Rattle.dae_types_sound.proofs.statements.are_label_words.Given as goal

abbrev pub invariant-loop-label : goal.invariant-loop-label
invariant-loop-label l = list_all is_label_word (drop l.label-index l.labels) ≡ list_all is_label_word l.labels
