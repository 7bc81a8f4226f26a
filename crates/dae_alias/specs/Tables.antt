-- The variables for the loads that are marked: one after the other, in the order of the text.
use Rattle.std.specs.Prelude.{◌≡◌, ℕ, suc, ◌+◌, Bool, true, false, List, [], ◌∷◌, Option, Some, None}
use Rattle.dae_alias.specs.declared.tables.Table.{Table}

-- those from n on
abbrev pub numbered : ℕ → List Bool → List (Option ℕ)
numbered n [] = []
numbered n (true ∷ marks) = Some n ∷ numbered (suc n) marks
numbered n (false ∷ marks) = None ∷ numbered n marks

abbrev pub marks_in : List Bool → ℕ
marks_in [] = 0
marks_in (true ∷ marks) = suc (marks_in marks)
marks_in (false ∷ marks) = marks_in marks

pub record IsTable (marks : List Bool) (first : ℕ) (table : Table) : Type 0 where
  pub holders : (let xs = table.holders in xs.items) ≡ numbered first marks
  pub variables : table.variables ≡ first + marks_in marks
