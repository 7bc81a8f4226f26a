-- What is known in a stretch, by a map of the variables that were set since its start.
use Rattle.std.specs.Prelude.{ℕ, nat_eq, Option, Some, None}
use Rattle.indexmap.specs.IndexMap.{IndexMap, get}
use Rattle.dae_alias.specs.declared.addresses.Base.TheVariants.{Variable}
use Rattle.dae_alias.specs.declared.addresses.SymAddr.{SymAddr}
use Rattle.dae_alias.specs.declared.stretch.Latest.{Latest}
use Rattle.dae_alias.specs.Stretches.{KnownInStretch}

-- what a variable holds, where it was set and where it wasn't
abbrev pub value_in : ℕ → Option Latest → SymAddr
value_in v None = record { base = Variable v 0; offset = 0 }
value_in v (Some x) = x.value

abbrev pub times_in : Option Latest → ℕ
times_in None = 0
times_in (Some x) = x.times

abbrev pub known_of : {S : Type 0} → IndexMap ℕ Latest S → KnownInStretch
known_of sets = record {
  value = λ v. value_in v (get nat_eq sets v);
  times = λ v. times_in (get nat_eq sets v);
}
