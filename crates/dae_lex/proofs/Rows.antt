-- The macros of a header, row by row.
use Rattle.std.proofs.Common.{◌≡◌, ℕ, ◌+◌, ◌<◌, List, [], ◌++◌, map, drop, get_or, length, ap}
use Rattle.std.specs.Borrow.{Bor}
use Rattle.std.proofs.lemmas.List.{drop_more}
use Rattle.dae_base.specs.declared.Place.{Place}
use Rattle.dae_tree.specs.Replacing.{Definition}
use Rattle.dae_tree.specs.Directives.{known_as, conflict_items, definition_items, with_definition, with_definitions, number_macro}
use Rattle.dae_lex.specs.Rows.{rows_of}

abbrev pub no_row : Bor (List ℕ) × Bor (List ℕ)
no_row = (record { ref_ptr = (0, 0); now = [] }, record { ref_ptr = (0, 0); now = [] })

module _ (hash : Place) (macros : List Definition) (rows : List (Bor (List ℕ) × Bor (List ℕ))) (i : ℕ) (h : i < length rows) where
  abbrev pub row : Definition
  row = number_macro hash ((get_or rows i no_row).0.now, (get_or rows i no_row).1.now)

  pub items_more : definition_items hash macros (map (number_macro hash) (rows_of (drop i rows)))
      ≡ conflict_items (known_as macros row) hash ++ definition_items hash (with_definition macros row) (map (number_macro hash) (rows_of (drop (i + 1) rows)))
  items_more = ap (λ rs. definition_items hash macros (map (number_macro hash) (rows_of rs))) (drop_more rows i no_row h)

  pub macros_more : with_definitions macros (map (number_macro hash) (rows_of (drop i rows)))
      ≡ with_definitions (with_definition macros row) (map (number_macro hash) (rows_of (drop (i + 1) rows)))
  macros_more = ap (λ rs. with_definitions macros (map (number_macro hash) (rows_of rs))) (drop_more rows i no_row h)
