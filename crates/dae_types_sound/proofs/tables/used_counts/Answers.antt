use Rattle.std.proofs.Common.{◌∙◌, sym, subst, List}
use Rattle.dae_types_kinds.specs.declared.tables.Entity.TheVariants as entity
use Rattle.dae_types_kinds.specs.declared.tables.EntityUse.{EntityUse}
use Rattle.dae_types_sound.specs.Used.{AreUsed}
use Rattle.dae_types_sound.proofs.Steps.{counts_on}
use Rattle.dae_types_sound.proofs.tables.used_counts.Goals as goal

pub loop-number-preserved : goal.loop-number-preserved
loop-number-preserved c =
    rw (c.in_ok-push.ensures.items, c.used_count.ensures) (sym (counts_on c.args.parts.now c.loop-number.counts.items c.args.routines.now c.loop-number.number c.loop-number.number c.loop-number-test.true) ∙ c.loop-number.invariant)

pub used_count-requires : goal.used_count-requires
used_count-requires c = subst (λ (us : List EntityUse). AreUsed us entity.Function c.in_ok-used.used) c.as_slice.ensures c.in_ok-used.ensures
