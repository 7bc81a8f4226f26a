use Rattle.std.specs.Prelude.{◌≡◌, ◌+◌, ◌≤◌, drop}
use Rattle.dae_ir.specs.Classes.{classes_of}
use Rattle.dae_ir.specs.Rounds.{how_many, is_copied}
use Rattle.dae_split.proofs.parts.copies.Given as goal

abbrev pub invariant-loop-part : goal.invariant-loop-part
invariant-loop-part l = record {
  counted : l.count + how_many (is_copied (classes_of l.tables l.function)) (drop l.part-index l.group) ≡ how_many (is_copied (classes_of l.tables l.function)) l.group;
  few : l.count ≤ l.part-index;
}
