use Rattle.std.proofs.Common.{◌≡◌, find, drop}
use Rattle.dae_types_kinds.specs.Tables.{is_component}
use Rattle.dae_types_tables.proofs.checker.Checker.found_component.Given as goal

abbrev pub invariant-loop-component : goal.invariant-loop-component
invariant-loop-component l = find (is_component l.structure l.name) (drop l.component-index l.self.components.items) ≡ find (is_component l.structure l.name) l.self.components.items
