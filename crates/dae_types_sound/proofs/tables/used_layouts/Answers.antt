use Rattle.std.proofs.Common.{subst, List}
use Rattle.dae_types_kinds.specs.declared.tables.Entity.TheVariants as entity
use Rattle.dae_types_kinds.specs.declared.tables.EntityUse.{EntityUse}
use Rattle.dae_types_sound.specs.Used.{AreUsed}
use Rattle.dae_types_sound.proofs.tables.used_layouts.Goals as goal

pub used_layout-requires : goal.used_layout-requires
used_layout-requires c = subst (λ (us : List EntityUse). AreUsed us entity.Object c.in_ok-used.used) c.as_slice.ensures c.in_ok-used.ensures
