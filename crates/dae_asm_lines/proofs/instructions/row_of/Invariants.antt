use Rattle.std.proofs.Common.{◌≡◌, drop, map}
use Rattle.dae_asm_lines.specs.Names.{row_of}
use Rattle.dae_asm_lines.proofs.instructions.row_of.Given as goal

abbrev pub invariant-loop-known : goal.invariant-loop-known
invariant-loop-known l = row_of (map (λ r. (r.0.now, r.1)) (drop l.known-index l.rows)) l.name ≡ row_of (map (λ r. (r.0.now, r.1)) l.rows) l.name
