-- The edges of a branch.
use Rattle.std.specs.Prelude.{Bool, true, false}
use Rattle.dae_select_walks.specs.declared.Edge.{Edge}
use Rattle.dae_select_walks.specs.declared.Edge.TheVariants.{Then, Else}

-- its test holds, or it hears a number other than 0
abbrev pub is_then : Edge → Bool
is_then Then = true
is_then Else = false
