use Rattle.std.proofs.Common.{◌≡◌, drop, map}
use Rattle.dae_tree.specs.Directives.{definition_items, with_definitions, number_macro}
use Rattle.dae_lex.specs.Numbers.{Keeps, AreDefined, definitions_of}
use Rattle.dae_lex.specs.Settling.{LexState, settle}
use Rattle.dae_lex.specs.Rows.{rows_of}
use Rattle.dae_lex.proofs.directives.define_numbers.Given as goal

abbrev pub invariant-loop-name : goal.invariant-loop-name
invariant-loop-name l = record {
  settles : (s : LexState) → settle s (definition_items l.hash (definitions_of l.macros) (map (number_macro l.hash) (rows_of (drop l.name-index l.rows))))
      ≡ settle s (definition_items l.hash (definitions_of l.fn.macros) (map (number_macro l.hash) (rows_of l.rows)));
  macros : with_definitions (definitions_of l.macros) (map (number_macro l.hash) (rows_of (drop l.name-index l.rows)))
      ≡ with_definitions (definitions_of l.fn.macros) (map (number_macro l.hash) (rows_of l.rows));
  defined : AreDefined l.numbers l.macros;
  keeps : Keeps l.fn.numbers l.numbers;
}
