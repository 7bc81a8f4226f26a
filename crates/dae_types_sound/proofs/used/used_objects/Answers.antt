use Rattle.std.proofs.Common.{ℕ, ◌||◌, nat_eq, Option, ap, ◌∙◌}
use Rattle.indexmap.specs.IndexSet.{contains}
use Rattle.dae_types_kinds.specs.declared.tables.Entity.TheVariants as entity
use Rattle.dae_types_sound.specs.Used.{has_number, used_object}
use Rattle.dae_types_sound.proofs.UsedNumbers.{object_tells, used_begin, used_end, used_more}
use Rattle.dae_types_sound.proofs.used.used_objects.Goals as goal

pub loop-used-init : goal.loop-used-init
loop-used-init c = used_begin c.args.uses.now entity.Object c.new-numbers.result c.new-numbers.ensures.empty

pub loop-used-preserved : goal.loop-used-preserved
loop-used-preserved c =
    let l = c.loop-used in
    used_more c.args.uses.now entity.Object used_object object_tells l.used-index _ l.numbers c.add_number.new.numbers c.loop-used-test.true
    (λ n. c.in_ok-add_number.ensures n ∙ ap (λ (o : Option ℕ). contains nat_eq l.numbers n || has_number o n) c.used_object.ensures) l.invariant

pub returns : goal.returns
returns c =
    let l = c.loop-used in
    used_end c.args.uses.now entity.Object l.used-index l.numbers c.loop-used-test.false l.invariant
