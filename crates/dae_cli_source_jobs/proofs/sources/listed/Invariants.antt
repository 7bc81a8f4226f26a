use Rattle.std.proofs.Common.{◌≡◌, ◌++◌, true, map, string_bytes, drop}
use Rattle.std.specs.List.{list_all}
use Rattle.std.specs.Str.{is_utf8}
use Rattle.dae_cli_source_jobs.proofs.sources.listed.Given as goal

-- the names so far, and those that are left
abbrev pub invariant-loop-name : goal.invariant-loop-name
invariant-loop-name l = record {
  names : l.listed.items ++ map string_bytes (drop l.name-index l.names) ≡ map string_bytes l.names;
  utf8 : list_all is_utf8 l.listed.items ≡ true;
}
