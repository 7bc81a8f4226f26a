-- Where a declaration stands.
use Rattle.std.specs.Prelude.{Bool, false, true}
use Rattle.dae_types_kinds.specs.declared.tables.Context.{Context}
use Rattle.dae_types_kinds.specs.declared.tables.Context.TheVariants as context

abbrev pub is_in_block : Context → Bool
is_in_block context.Block = true
is_in_block _ = false
