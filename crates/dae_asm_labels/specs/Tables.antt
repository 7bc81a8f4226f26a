-- How a table of labels is filled row by row. What it holds at the end is defined by `IsTable`; only
-- the functions that fill it speak of this.
use Rattle.std.specs.Prelude.{ℕ, List, Option, Some, None}
use denote.Ref.{Bor}
use Rattle.indexmap.specs.IndexMap.{IndexMap}
use Rattle.dae_asm_order.specs.Sheets.{Row}
use Rattle.dae_asm_labels.specs.declared.definitions.LabelDefinition.{LabelDefinition}
use Rattle.dae_asm_labels.specs.Labels.{labels_from, found, looks}

abbrev pub or_else : {X : Type 0} → Option X → Option X → Option X
or_else None other = other
or_else (Some x) other = Some x

-- the definition of a label that a table has, or else the first in rows from an address on
abbrev pub found_or : {S : Type 0} → List ℕ → IndexMap (Bor (List ℕ)) LabelDefinition S → ℕ → List Row
    → Option LabelDefinition
found_or name table address rows =
    or_else (looks table name) (found name (labels_from address rows))
