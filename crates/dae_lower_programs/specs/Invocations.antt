-- How a function is invoked.
use Rattle.std.specs.Prelude.{Bool, true, false}
use Rattle.dae_lower_programs.specs.declared.functions.Invocation.{Invocation}
use Rattle.dae_lower_programs.specs.declared.functions.Invocation.TheVariants.{Startup, Call}

abbrev pub at_startup : Invocation → Bool
at_startup Startup = true
at_startup Call = false
