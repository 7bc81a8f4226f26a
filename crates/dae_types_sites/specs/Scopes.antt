-- Where a tag is looked for.
use Rattle.std.specs.Prelude.{Bool, false, true}
use Rattle.dae_types_sites.specs.declared.structures.TagScope.{TagScope}
use Rattle.dae_types_sites.specs.declared.structures.TagScope.TheVariants as scope

abbrev pub is_innermost : TagScope → Bool
is_innermost scope.Innermost = true
is_innermost scope.Any = false
