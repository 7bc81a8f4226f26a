use Rattle.std.proofs.Common.{◌≡◌, map, string_bytes, drop}
use Rattle.std.specs.List.{list_all}
use Rattle.dae_cli_options.specs.Names.{is_file_name}
use Rattle.dae_cli_words.proofs.parts.are_named.Given as goal

-- the words that are left decide
abbrev pub invariant-loop-word : goal.invariant-loop-word
invariant-loop-word l = list_all is_file_name (map string_bytes (drop l.word-index l.words)) ≡ list_all is_file_name (map string_bytes l.words)
