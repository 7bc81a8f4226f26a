-- The kinds of actions that queues are for.
use Rattle.std.specs.Prelude.{Bool}
use Rattle.dae_ir.specs.Budgets.{is_load_for_e, is_copy, is_own_load, is_address, is_datum, is_message, is_told, never}
use Rattle.dae_ir.specs.declared.stream.Action.{Action}
use Rattle.dae_ir.specs.declared.stream.Branch.{Branch}
use Rattle.dae_split_pair.specs.declared.kinds.Counted.{Counted}
use Rattle.dae_split_pair.specs.declared.kinds.Counted.TheVariants.{Loads, Copies}
use Rattle.dae_split_pair.specs.declared.kinds.Wanted.{Wanted}
use Rattle.dae_split_pair.specs.declared.kinds.Wanted.TheVariants.{OwnLoad, StoreAddress, StoreDatum, Message}

abbrev pub is_counted : Counted → Action → Bool
is_counted Loads = is_load_for_e
is_counted Copies = is_copy

abbrev pub is_wanted : Wanted → Action → Bool
is_wanted OwnLoad = is_own_load
is_wanted StoreAddress = is_address
is_wanted StoreDatum = is_datum
is_wanted Message = is_message

abbrev pub is_wanted_branch : Wanted → Branch → Bool
is_wanted_branch OwnLoad = never
is_wanted_branch StoreAddress = never
is_wanted_branch StoreDatum = never
is_wanted_branch Message = is_told
