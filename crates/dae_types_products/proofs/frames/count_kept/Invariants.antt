use Rattle.std.proofs.Common.{◌≡◌, ◌+◌, ◌<◌, ◌^◌, drop}
use Rattle.std.specs.List.{count_by}
use Rattle.dae_types_kinds.specs.Types.{word_for}
use Rattle.dae_types_typed.specs.Frames.{is_variable}
use Rattle.dae_types_products.proofs.frames.count_kept.Given as goal

abbrev pub invariant-loop-storage : goal.invariant-loop-storage
invariant-loop-storage l = (word_for (l.count + count_by is_variable (drop l.storage-index l.storages)) ≡ word_for (l.fn.count + count_by is_variable l.storages)) × (l.count < 2 ^ 32)
