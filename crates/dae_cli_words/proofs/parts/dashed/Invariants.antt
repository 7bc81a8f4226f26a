use Rattle.std.proofs.Common.{◌≡◌, ◌+◌, map, string_bytes, drop}
use Rattle.std.specs.List.{prefix_len}
use Rattle.dae_cli_options.specs.Names.{begins_with_dash}
use Rattle.dae_cli_words.proofs.parts.dashed.Given as goal

-- those so far, and those from here on
abbrev pub invariant-loop-word : goal.invariant-loop-word
invariant-loop-word l = record {
  so_far : l.count ≡ l.word-index;
  left : l.count + prefix_len begins_with_dash (map string_bytes (drop l.word-index l.words)) ≡ prefix_len begins_with_dash (map string_bytes l.words);
}
