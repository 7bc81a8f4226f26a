use Rattle.std.proofs.Common.{◌+◌, [], ◌∷◌, drop, get_or, refl, ap, arith}
use Rattle.std.specs.Prelude.{None}
use Rattle.dae_lower.specs.Lowering.{parameters_stored}
use Rattle.dae_lower_expressions.specs.Lowered.{state_of}
use Rattle.dae_lower_programs.proofs.Wholes.{slots_at, slots_end}
use Rattle.dae_lower_programs.proofs.Laws.{any_default, first_leads, last_leads, next_leads}
use Rattle.dae_lower_programs.proofs.functions.store_parameters.Goals as goal

pub loop-slot-init : goal.loop-slot-init
loop-slot-init c = (refl, first_leads (parameters_stored c.args.place c.args.slots.now 1) (state_of c.args.lowerer.now))

pub overflow_add-number : goal.overflow_add-number
overflow_add-number c = let same = c.loop-slot.invariant.0 in omega (arith, same, c.loop-slot-test.true, c.requires)

pub loop-slot-preserved : goal.loop-slot-preserved
loop-slot-preserved c =
    let p = c.args.place in
    let xs = c.args.slots.now in
    let i = c.loop-slot.slot-index in
    let k = c.loop-slot.number in (
      ap (λ n. n + 1) c.loop-slot.invariant.0,
      next_leads (parameters_stored p xs 1) (parameters_stored p (drop i xs) k) (parameters_stored p (get_or xs i None ∷ []) k) (parameters_stored p (drop (i + 1) xs) (k + 1)) (state_of c.args.lowerer.now) (state_of c.loop-slot.lowerer) (state_of c.store_parameter.new.lowerer)
          (slots_at p xs i (get_or xs i None) k c.loop-slot-test.true (any_default xs i None c.loop-slot-test.true)) c.loop-slot.invariant.1 c.in_ok-store_parameter.ensures,
    )

pub returns : goal.returns
returns c =
    let p = c.args.place in
    let xs = c.args.slots.now in
    let i = c.loop-slot.slot-index in
    last_leads (parameters_stored p xs 1) (parameters_stored p (drop i xs) c.loop-slot.number) (state_of c.args.lowerer.now) (state_of c.loop-slot.lowerer) (slots_end p xs i c.loop-slot.number c.loop-slot-test.false) c.loop-slot.invariant.1
