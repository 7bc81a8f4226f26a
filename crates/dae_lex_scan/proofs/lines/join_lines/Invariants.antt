use Rattle.std.proofs.Common.{◌≡◌, ◌++◌, drop}
use Rattle.dae_tree.specs.Lines.{bytes_of, spots_of, start_of, spot_behind, joined_lines}
use Rattle.dae_lex_scan.proofs.Joining.{from, Within}
use Rattle.dae_lex_scan.proofs.lines.join_lines.Given as goal

abbrev pub invariant-loop-i : goal.invariant-loop-i
invariant-loop-i l = record {
  within : Within l.spot l.i;
  bytes : l.bytes.items ++ bytes_of (from l.skip l.spot l.i l.text) ≡ bytes_of (joined_lines l.file l.text);
  spots : l.spots.items ++ spots_of (from l.skip l.spot l.i l.text) ≡ spots_of (joined_lines l.file l.text);
  behind : spot_behind l.spot (drop l.i l.text) ≡ spot_behind (start_of l.file) l.text;
}
