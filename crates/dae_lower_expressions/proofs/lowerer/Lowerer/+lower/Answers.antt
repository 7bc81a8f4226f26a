use Rattle.std.proofs.Common.{drop, ◌+◌, refl}
use Rattle.std.specs.Prelude.{false, Some}
use Rattle.dae_base.specs.Words.{plus}
use Rattle.dae_base.specs.declared.LoadKind.TheVariants.{U8}
use Rattle.dae_ir.specs.declared.form.Check.TheVariants.{Abort}
use Rattle.dae_ir.specs.declared.form.Item.TheVariants.{Expect, Halt, Print, Assign}
use Rattle.dae_ir.specs.declared.form.Operand.TheVariants.{Number}
use Rattle.dae_ir.specs.declared.form.Value.TheVariants.{Same, Holds, Extended, FrameAddress}
use Rattle.dae_meaning.specs.declared.Spelling.TheVariants.{Byte}
use Rattle.dae_meaning.specs.declared.Comparison.TheVariants.{Equal}
use Rattle.dae_lower.specs.Lowering.{emit, ◌≫◌, nothing, only, one, or, assigned, fetched, narrowed, operands, operated, put_in, related, set, spot, test_of, turn, variable, ways, Placed}
use Rattle.dae_lower_expressions.proofs.Chains.{leaf_lowered, nothing_lowered, then_lowered, dropped_lowered, given_lowered, both_lowered}
use Rattle.dae_lower_expressions.proofs.Counting.{assigned_told, both_told}
use Rattle.dae_lower_expressions.proofs.Nodes.{removed_lowered, truth_lowered, and_lowered, or_lowered, chosen_lowered, picked_lowered, block_made, step_lowered, update_lowered, plain_lowered, tested_lowered, first_listed, next_listed, last_listed}
use Rattle.dae_lower_expressions.proofs.Otherwise.{otherwise_plain, otherwise_tested}
use Rattle.dae_program.proofs.LawsOfTrees.{by_call, view_at, view_end}
use Rattle.dae_lower_expressions.specs.Assignments.{assignments}
use Rattle.dae_lower_expressions.specs.Lowered.{Lowers, state_of, links_in, used}
use Rattle.dae_lower_expressions.specs.declared.leaves.BranchPurpose.TheVariants.{Value, Effect}
use Rattle.dae_lower_maker.specs.Making.{called_with, spot_of, so_far}
use Rattle.dae_lower_maker.proofs.Laws.{item_given, nothing_written, written_on}
use Rattle.dae_program.specs.Resolved.{address_in, callee_in}
use Rattle.dae_program.specs.Views.{is_prefix, view, view_target, view_expressions}
use Rattle.dae_lower_expressions.proofs.lowerer.Lowerer.+lower.Goals as goal

pub value-returns-in-Number : goal.value-returns-in-Number
value-returns-in-Number t c =
    rw (c.in-Number.is) (nothing_lowered (state_of c.args.self.now) (Number c.in-Number.number))

pub value-returns-in-Address : goal.value-returns-in-Address
value-returns-in-Address t c =
    rw (c.in-Address.is, c.address.ensures) (nothing_lowered (state_of c.args.self.now) (Number (plus (address_in (Some c.args.links.now) c.in-Address.object) c.in-Address.offset)))

pub value-returns-in_ok-x-in-Frame : goal.value-returns-in_ok-x-in-Frame
value-returns-in_ok-x-in-Frame t c =
    rw (c.in-Frame.is) (leaf_lowered (λ later. set c.in-Frame.place (FrameAddress c.in-Frame.offset)) _ _ _ refl c.in_ok-x-in-Frame.ensures)

pub value-returns-in_ok-x-in-Variable : goal.value-returns-in_ok-x-in-Variable
value-returns-in_ok-x-in-Variable t c =
    rw (c.in-Variable.is) (leaf_lowered (λ later. variable (later c.in-Variable.v) c.in-Variable.place c.in-Variable.v) _ _ _ refl c.in_ok-x-in-Variable.ensures)

pub value-returns-in_ok-z-in-Read : goal.value-returns-in_ok-z-in-Read
value-returns-in_ok-z-in-Read t c =
    rw (c.in-Read.is, ← c.deref.ensures) (then_lowered (ways (links_in c.args.none c.args.links.now) (view c.deref.result.now)).value (fetched c.in-Read.place c.in-Read.kind c.in-Read.checked) _ _ _ _ _ _ c.in_ok-x-in-Read.ensures refl c.in_ok-z-in-Read.ensures)

pub value-returns-in_ok-z-in-Convert : goal.value-returns-in_ok-z-in-Convert
value-returns-in_ok-z-in-Convert t c =
    rw (c.in-Convert.is, ← c.deref-in-Convert.ensures) (then_lowered (ways (links_in c.args.none c.args.links.now) (view c.deref-in-Convert.result.now)).value (narrowed c.in-Convert.place c.in-Convert.kind) _ _ _ _ _ _ c.in_ok-x-in-Convert.ensures refl c.in_ok-z-in-Convert.ensures)

pub value-returns-in_ok-z-in-Not : goal.value-returns-in_ok-z-in-Not
value-returns-in_ok-z-in-Not t c =
    rw (c.in-Not.is, ← c.deref-in-Not.ensures) (then_lowered (ways (links_in c.args.none c.args.links.now) (view c.deref-in-Not.result.now)).value (λ x. set c.in-Not.place (Holds (test_of Equal x (Number 0)))) _ _ _ _ _ _ c.in_ok-x-in-Not.ensures refl c.in_ok-z-in-Not.ensures)

pub value-returns-in_ok-z-in-Binary : goal.value-returns-in_ok-z-in-Binary
value-returns-in_ok-z-in-Binary t c =
    rw (c.in-Binary.is, ← c.deref-in-Binary.ensures, ← c.deref-in-Binary-2.ensures) (both_lowered (ways (links_in c.args.none c.args.links.now) (view c.deref-in-Binary.result.now)).value (λ x later n. (ways (links_in c.args.none c.args.links.now) (view c.deref-in-Binary-2.result.now)).value later n ≫ operated c.in-Binary.place c.in-Binary.operator x) _ _ (assigned (view c.deref-in-Binary-2.result.now)) _ _ _ _ _ (assigned_told (view c.deref-in-Binary-2.result.now)) c.in_ok-x-in-Binary.ensures
    (then_lowered (ways (links_in c.args.none c.args.links.now) (view c.deref-in-Binary-2.result.now)).value (operated c.in-Binary.place c.in-Binary.operator c.in_ok-x-in-Binary.x) _ _ _ _ _ _ c.in_ok-y-in-Binary.ensures refl c.in_ok-z-in-Binary.ensures))

pub value-returns-in_ok-z-in-Compare : goal.value-returns-in_ok-z-in-Compare
value-returns-in_ok-z-in-Compare t c =
    rw (c.in-Compare.is, ← c.deref-in-Compare.ensures, ← c.deref-in-Compare-2.ensures) (both_lowered (ways (links_in c.args.none c.args.links.now) (view c.deref-in-Compare.result.now)).value (λ x later n. (ways (links_in c.args.none c.args.links.now) (view c.deref-in-Compare-2.result.now)).value later n ≫ (λ y. set c.in-Compare.place (Holds (related c.in-Compare.comparison c.in-Compare.turned x y)))) _ _ (assigned (view c.deref-in-Compare-2.result.now)) _ _ _ _ _ (assigned_told (view c.deref-in-Compare-2.result.now)) c.in_ok-x-in-Compare.ensures
    (then_lowered (ways (links_in c.args.none c.args.links.now) (view c.deref-in-Compare-2.result.now)).value ((λ y. set c.in-Compare.place (Holds (related c.in-Compare.comparison c.in-Compare.turned c.in_ok-x-in-Compare.x y)))) _ _ _ _ _ _ c.in_ok-y-in-Compare.ensures refl (rw (c.test_of-test.ensures) at (c.in_ok-z-in-Compare.ensures))))

pub value-returns-in_ok-branch-in-And : goal.value-returns-in_ok-branch-in-And
value-returns-in_ok-branch-in-And t c =
    rw (c.in-And.is, ← c.deref-in-And.ensures, ← c.deref-in-And-2.ensures) (and_lowered c.in-And.place (ways (links_in c.args.none c.args.links.now) (view c.deref-in-And.result.now)).condition (ways (links_in c.args.none c.args.links.now) (view c.deref-in-And-2.result.now)) _ _ (assigned (view c.deref-in-And-2.result.now)) (state_of c.args.self.now) (state_of (record { alloc = c.args.self.now.alloc; maker = c.reserve-v.new.self; later = c.args.self.now.later })) _ _ _ c.reserve-v.result _ _ _ (assigned_told (view c.deref-in-And-2.result.now)) c.in_ok-condition-in-And.ensures c.in_ok-holds-in-And.ensures c.in_ok-fails-in-And.ensures
    c.reserve-v.ensures.given c.reserve-v.ensures.after refl refl c.in_ok-branch-in-And.ensures)

pub value-returns-in_ok-branch-in-Or : goal.value-returns-in_ok-branch-in-Or
value-returns-in_ok-branch-in-Or t c =
    rw (c.in-Or.is, ← c.deref-in-Or.ensures, ← c.deref-in-Or-2.ensures) (or_lowered c.in-Or.place (ways (links_in c.args.none c.args.links.now) (view c.deref-in-Or.result.now)).condition (ways (links_in c.args.none c.args.links.now) (view c.deref-in-Or-2.result.now)) _ _ (assigned (view c.deref-in-Or-2.result.now)) (state_of c.args.self.now) (state_of (record { alloc = c.args.self.now.alloc; maker = c.reserve-v-in-Or.new.self; later = c.args.self.now.later })) _ _ _ c.reserve-v-in-Or.result _ _ _ (assigned_told (view c.deref-in-Or-2.result.now)) c.in_ok-condition-in-Or.ensures c.in_ok-fails-in-Or.ensures c.in_ok-holds-in-Or.ensures
    c.reserve-v-in-Or.ensures.given c.reserve-v-in-Or.ensures.after refl refl c.in_ok-branch-in-Or.ensures)

pub value-returns-in_ok-branch-in-Conditional : goal.value-returns-in_ok-branch-in-Conditional
value-returns-in_ok-branch-in-Conditional t c =
    rw (c.in-Conditional.is, ← c.deref-in-Conditional.ensures, ← c.deref-in-Conditional-3.ensures, ← c.deref-in-Conditional-5.ensures) (picked_lowered c.in-Conditional.place (ways (links_in c.args.none c.args.links.now) (view c.deref-in-Conditional.result.now)) (ways (links_in c.args.none c.args.links.now) (view c.deref-in-Conditional-3.result.now)) (ways (links_in c.args.none c.args.links.now) (view c.deref-in-Conditional-5.result.now)) _ (or (assigned (view c.deref-in-Conditional-3.result.now)) (assigned (view c.deref-in-Conditional-5.result.now))) (state_of c.args.self.now) (state_of (record { alloc = c.args.self.now.alloc; maker = c.reserve-v-in-Conditional.new.self; later = c.args.self.now.later })) _ c.reserve-v-in-Conditional.result
    (chosen_lowered c.in-Conditional.place (Value c.in-Conditional.place c.reserve-v-in-Conditional.result) (ways (links_in c.args.none c.args.links.now) (view c.deref-in-Conditional.result.now)) (ways (links_in c.args.none c.args.links.now) (view c.deref-in-Conditional-3.result.now)) (ways (links_in c.args.none c.args.links.now) (view c.deref-in-Conditional-5.result.now)) _ _ _ (or (assigned (view c.deref-in-Conditional-3.result.now)) (assigned (view c.deref-in-Conditional-5.result.now))) _ _ _ _ _ _ _ _ _ _ _ _ _ (both_told (view c.deref-in-Conditional-3.result.now) (view c.deref-in-Conditional-5.result.now)) c.in_ok-condition-in-Conditional.ensures (rw (c.deref-in-Conditional-2.ensures, ← c.deref-in-Conditional-5.ensures) at (c.in_ok-count-in-Conditional.ensures)) c.in_ok-holds-in-Conditional.ensures (rw (c.deref-in-Conditional-4.ensures, ← c.deref-in-Conditional-5.ensures) at (c.in_ok-count-in-Conditional-2.ensures)) c.in_ok-fails-in-Conditional.ensures refl c.in_ok-branch-in-Conditional.ensures)
    c.reserve-v-in-Conditional.ensures.given c.reserve-v-in-Conditional.ensures.after refl)

pub value-returns-in_ok-y-in-Comma : goal.value-returns-in_ok-y-in-Comma
value-returns-in_ok-y-in-Comma t c =
    rw (c.in-Comma.is, ← c.deref-in-Comma.ensures, ← c.deref-in-Comma-2.ensures) (both_lowered (ways (links_in c.args.none c.args.links.now) (view c.deref-in-Comma.result.now)).effect (λ x. (ways (links_in c.args.none c.args.links.now) (view c.deref-in-Comma-2.result.now)).value) _ _ (assigned (view c.deref-in-Comma-2.result.now)) _ _ _ _ _ (assigned_told (view c.deref-in-Comma-2.result.now)) c.in_ok-effect-in-Comma.ensures c.in_ok-y-in-Comma.ensures)

pub value-returns-in_ok-z-in-Assign : goal.value-returns-in_ok-z-in-Assign
value-returns-in_ok-z-in-Assign t c =
    rw (c.in-Assign.is, ← c.deref-in-Assign.ensures) (both_lowered (spot (links_in c.args.none c.args.links.now) (view_target c.in-Assign.t)) (λ o later n. (ways (links_in c.args.none c.args.links.now) (view c.deref-in-Assign.result.now)).value later n ≫ put_in c.in-Assign.place c.in-Assign.kind o) _ _ (assigned (view c.deref-in-Assign.result.now)) _ _ _ _ _ (assigned_told (view c.deref-in-Assign.result.now)) c.in_ok-spot-in-Assign.ensures
    (then_lowered (ways (links_in c.args.none c.args.links.now) (view c.deref-in-Assign.result.now)).value (put_in c.in-Assign.place c.in-Assign.kind (spot_of c.in_ok-spot-in-Assign.spot)) _ _ _ _ _ _ c.in_ok-y-in-Assign.ensures refl c.in_ok-z-in-Assign.ensures))

pub value-returns-in_ok-z-in-Update : goal.value-returns-in_ok-z-in-Update
value-returns-in_ok-z-in-Update t c =
    rw (c.in-Update.is, ← c.deref-in-Update.ensures) (update_lowered (links_in c.args.none c.args.links.now) c.in-Update.place c.in-Update.kind (view_target c.in-Update.t) c.in-Update.operator (view c.deref-in-Update.result.now) _ _ _ _ _ _ _ _ _ c.in_ok-spot-in-Update.ensures refl c.in_ok-x-in-Update.ensures c.in_ok-y-in-Update.ensures refl c.in_ok-z-in-Update.ensures)

pub value-returns-in_ok-z-in-Step : goal.value-returns-in_ok-z-in-Step
value-returns-in_ok-z-in-Step t c =
    rw (c.in-Step.is) (c.in_ok-z-in-Step.ensures)

pub value-returns-in_ok-z-in-Call : goal.value-returns-in_ok-z-in-Call
value-returns-in_ok-z-in-Call t c =
    by_call (λ e. Lowers (ways (links_in c.args.none c.args.links.now) e).value (assignments e) (state_of c.args.self.now) (state_of (record { alloc = c.operands.new.self.alloc; maker = c.call.new.self; later = c.operands.new.self.later })) c.in_ok-z-in-Call.z) c.args.e.now c.in-Call.place c.in-Call.function c.in-Call.xs c.in-Call.is
    (then_lowered (operands (links_in c.args.none c.args.links.now) (view_expressions c.in-Call.xs.items)) (called_with c.in-Call.place (callee_in c.args.none (Some c.args.links.now) c.in-Call.function)) _ _ _ _ _ _ (rw (c.deref-in-Call.ensures.value) at (c.in_ok-arguments-in-Call.ensures)) refl (rw (c.callee.ensures, c.from_vec.ensures) at (c.in_ok-z-in-Call.ensures)))

pub value-returns-in_ok-z-in-Putchar : goal.value-returns-in_ok-z-in-Putchar
value-returns-in_ok-z-in-Putchar t c =
    let x = c.in_ok-x-in-Putchar.x in
    rw (c.in-Putchar.is, ← c.deref-in-Putchar.ensures) (then_lowered (ways (links_in c.args.none c.args.links.now) (view c.deref-in-Putchar.result.now)).value (λ x n. only (one c.in-Putchar.place (Print Byte x)) x n ≫ λ x. set c.in-Putchar.place (Extended U8 x)) _ _ (state_of c.value-in-Putchar.new.self) _ x _ c.in_ok-x-in-Putchar.ensures refl
    (written_on (only (one c.in-Putchar.place (Print Byte x)) x c.value-in-Putchar.new.self.maker.next) (λ x. set c.in-Putchar.place (Extended U8 x)) (so_far c.value-in-Putchar.new.self.maker) (so_far c.item.new.self) (so_far c.set-in-Putchar.new.self) x c.in_ok-z-in-Putchar.z
    (item_given c.in-Putchar.place (Print Byte x) (so_far c.value-in-Putchar.new.self.maker) (so_far c.item.new.self) tt x c.in_ok-item-in-Putchar.ensures) c.in_ok-z-in-Putchar.ensures))

pub value-returns-in_ok-item-in-Exit : goal.value-returns-in_ok-item-in-Exit
value-returns-in_ok-item-in-Exit t c =
    rw (c.in-Exit.is, ← c.deref-in-Exit.ensures) (then_lowered (ways (links_in c.args.none c.args.links.now) (view c.deref-in-Exit.result.now)).value (λ x. only (one c.in-Exit.place (Halt x)) (Number 0)) _ _ (state_of c.value-in-Exit.new.self) _ _ _ c.in_ok-x-in-Exit.ensures refl (item_given c.in-Exit.place (Halt c.in_ok-x-in-Exit.x) (so_far c.value-in-Exit.new.self.maker) (so_far c.item-in-Exit.new.self) tt (Number 0) c.in_ok-item-in-Exit.ensures))

pub value-returns-in_ok-item-in-Abort : goal.value-returns-in_ok-item-in-Abort
value-returns-in_ok-item-in-Abort t c =
    rw (c.in-Abort.is) (leaf_lowered (λ later. only (one c.in-Abort.place (Expect Abort)) (Number 0)) _ _ _ refl (item_given c.in-Abort.place (Expect Abort) (so_far c.args.self.now.maker) (so_far c.item-in-Abort.new.self) tt (Number 0) c.in_ok-item-in-Abort.ensures))

pub effect-returns-in-Variable : goal.effect-returns-in-Variable
effect-returns-in-Variable t c =
    rw (c.in-Variable.is) (nothing_lowered (state_of c.args.self.now) tt)

pub effect-returns-in_ok-effect-in-Convert : goal.effect-returns-in_ok-effect-in-Convert
effect-returns-in_ok-effect-in-Convert t c =
    rw (c.in-Convert.is, ← c.deref.ensures) (c.in_ok-effect-in-Convert.ensures)

pub effect-returns-in_ok-effect-in-Not : goal.effect-returns-in_ok-effect-in-Not
effect-returns-in_ok-effect-in-Not t c =
    rw (c.in-Not.is, ← c.deref-in-Not.ensures) (c.in_ok-effect-in-Not.ensures)

pub effect-returns-in_ok-effect-in-Compare-2 : goal.effect-returns-in_ok-effect-in-Compare-2
effect-returns-in_ok-effect-in-Compare-2 t c =
    rw (c.in-Compare.is, ← c.deref-in-Compare.ensures, ← c.deref-in-Compare-2.ensures) (both_lowered (ways (links_in c.args.none c.args.links.now) (view c.deref-in-Compare.result.now)).effect (λ x. (ways (links_in c.args.none c.args.links.now) (view c.deref-in-Compare-2.result.now)).effect) _ _ (assigned (view c.deref-in-Compare-2.result.now)) _ _ _ _ _ (assigned_told (view c.deref-in-Compare-2.result.now)) c.in_ok-effect-in-Compare.ensures c.in_ok-effect-in-Compare-2.ensures)

pub effect-returns-in_ok-branch-in-Conditional : goal.effect-returns-in_ok-branch-in-Conditional
effect-returns-in_ok-branch-in-Conditional t c =
    rw (c.in-Conditional.is, ← c.deref-in-Conditional.ensures, ← c.deref-in-Conditional-3.ensures, ← c.deref-in-Conditional-5.ensures)
    (chosen_lowered c.in-Conditional.place Effect (ways (links_in c.args.none c.args.links.now) (view c.deref-in-Conditional.result.now)) (ways (links_in c.args.none c.args.links.now) (view c.deref-in-Conditional-3.result.now)) (ways (links_in c.args.none c.args.links.now) (view c.deref-in-Conditional-5.result.now)) _ _ _ (or (assigned (view c.deref-in-Conditional-3.result.now)) (assigned (view c.deref-in-Conditional-5.result.now))) _ _ _ _ _ _ _ _ _ _ _ _ _ (both_told (view c.deref-in-Conditional-3.result.now) (view c.deref-in-Conditional-5.result.now)) c.in_ok-condition-in-Conditional.ensures (rw (c.deref-in-Conditional-2.ensures, ← c.deref-in-Conditional-5.ensures) at (c.in_ok-count-in-Conditional.ensures)) c.in_ok-holds-in-Conditional.ensures (rw (c.deref-in-Conditional-4.ensures, ← c.deref-in-Conditional-5.ensures) at (c.in_ok-count-in-Conditional-2.ensures)) c.in_ok-fails-in-Conditional.ensures refl c.in_ok-branch-in-Conditional.ensures)

pub effect-returns-in_ok-effect-in-Comma-2 : goal.effect-returns-in_ok-effect-in-Comma-2
effect-returns-in_ok-effect-in-Comma-2 t c =
    rw (c.in-Comma.is, ← c.deref-in-Comma.ensures, ← c.deref-in-Comma-2.ensures) (both_lowered (ways (links_in c.args.none c.args.links.now) (view c.deref-in-Comma.result.now)).effect (λ x. (ways (links_in c.args.none c.args.links.now) (view c.deref-in-Comma-2.result.now)).effect) _ _ (assigned (view c.deref-in-Comma-2.result.now)) _ _ _ _ _ (assigned_told (view c.deref-in-Comma-2.result.now)) c.in_ok-effect-in-Comma.ensures c.in_ok-effect-in-Comma-2.ensures)

pub effect-returns-in_ok-step-in-Step : goal.effect-returns-in_ok-step-in-Step
effect-returns-in_ok-step-in-Step t c =
    rw (c.in-Step.is) (dropped_lowered _ _ _ _ _ c.in_ok-step-in-Step.ensures)

pub effect-returns-in_ok-item-in-Putchar : goal.effect-returns-in_ok-item-in-Putchar
effect-returns-in_ok-item-in-Putchar t c =
    rw (c.in-Putchar.is, ← c.deref-in-Putchar.ensures) (then_lowered (ways (links_in c.args.none c.args.links.now) (view c.deref-in-Putchar.result.now)).value (λ x n. emit (one c.in-Putchar.place (Print Byte x)) n) _ _ _ _ _ _ c.in_ok-x-in-Putchar.ensures refl c.in_ok-item-in-Putchar.ensures)

pub effect-returns-in_ok-value-in_default : goal.effect-returns-in_ok-value-in_default
effect-returns-in_ok-value-in_default t c =
    let other = c.in_default in
    let plain = otherwise_plain c.args.e.now other.not-Variable other.not-Convert other.not-Not other.not-Compare other.not-Conditional other.not-Comma other.not-Step other.not-Putchar in
    plain_lowered (links_in c.args.none c.args.links.now) (view c.args.e.now) _ _ _ _ plain c.in_ok-value-in_default.ensures

pub condition-returns-in_ok-condition-in-Not : goal.condition-returns-in_ok-condition-in-Not
condition-returns-in_ok-condition-in-Not t c =
    rw (c.in-Not.is, ← c.deref.ensures, c.turn.ensures) (given_lowered (ways (links_in c.args.none c.args.links.now) (view c.deref.result.now)).condition turn _ _ _ _ c.in_ok-condition-in-Not.ensures)

pub condition-returns-in_ok-y-in-Compare : goal.condition-returns-in_ok-y-in-Compare
condition-returns-in_ok-y-in-Compare t c =
    rw (c.in-Compare.is, ← c.deref-in-Compare.ensures, ← c.deref-in-Compare-2.ensures) (both_lowered (ways (links_in c.args.none c.args.links.now) (view c.deref-in-Compare.result.now)).value (λ x later n. (ways (links_in c.args.none c.args.links.now) (view c.deref-in-Compare-2.result.now)).value later n ≫ (λ y. nothing (record { test = related c.in-Compare.comparison c.in-Compare.turned x y; turned = false }))) _ _ (assigned (view c.deref-in-Compare-2.result.now)) _ _ _ _ _ (assigned_told (view c.deref-in-Compare-2.result.now)) c.in_ok-x-in-Compare.ensures
    (then_lowered (ways (links_in c.args.none c.args.links.now) (view c.deref-in-Compare-2.result.now)).value ((λ y. nothing (record { test = related c.in-Compare.comparison c.in-Compare.turned c.in_ok-x-in-Compare.x y; turned = false }))) _ _ _ _ _ _ c.in_ok-y-in-Compare.ensures refl (rw (c.test_of.ensures) (nothing_written _ _))))

pub condition-returns-in_ok-condition-in-Comma : goal.condition-returns-in_ok-condition-in-Comma
condition-returns-in_ok-condition-in-Comma t c =
    rw (c.in-Comma.is, ← c.deref-in-Comma.ensures, ← c.deref-in-Comma-2.ensures) (both_lowered (ways (links_in c.args.none c.args.links.now) (view c.deref-in-Comma.result.now)).effect (λ x. (ways (links_in c.args.none c.args.links.now) (view c.deref-in-Comma-2.result.now)).condition) _ _ (assigned (view c.deref-in-Comma-2.result.now)) _ _ _ _ _ (assigned_told (view c.deref-in-Comma-2.result.now)) c.in_ok-effect-in-Comma.ensures c.in_ok-condition-in-Comma.ensures)

pub condition-returns-in_ok-x-in_default : goal.condition-returns-in_ok-x-in_default
condition-returns-in_ok-x-in_default t c =
    let other = c.in_default in
    let tested = otherwise_tested c.args.e.now other.not-Not other.not-Compare other.not-Comma in
    rw (c.nonzero.ensures) (tested_lowered (links_in c.args.none c.args.links.now) (view c.args.e.now) _ _ _ _ tested c.in_ok-x-in_default.ensures)

pub spot-returns-in_ok-change-in-Variable : goal.spot-returns-in_ok-change-in-Variable
spot-returns-in_ok-change-in-Variable t c =
    rw (c.in-Variable.is) (removed_lowered c.in-Variable.v _ _ refl c.in_ok-change-in-Variable.ensures)

pub spot-returns-in_ok-x-in-Object : goal.spot-returns-in_ok-x-in-Object
spot-returns-in_ok-x-in-Object t c =
    rw (c.in-Object.is, ← c.deref.ensures) (given_lowered (ways (links_in c.args.none c.args.links.now) (view c.deref.result.now)).value (Placed c.in-Object.checked) _ _ _ _ c.in_ok-x-in-Object.ensures)

pub step-returns : goal.step-returns
step-returns t c =
    step_lowered (links_in c.args.none c.args.links.now) c.args.increment.place c.args.increment.kind (view_target c.args.t.now) c.args.increment.change (is_prefix c.args.increment.fixity) _ _ _ _ _ c.in_ok-spot.ensures refl c.in_ok-z.ensures

pub part-returns-in_ok-item-in-Value : goal.part-returns-in_ok-item-in-Value
part-returns-in_ok-item-in-Value t c =
    rw (c.in-Value.is) (then_lowered (ways (links_in c.args.none c.args.links.now) (view c.args.e.now)).value (λ x n. emit (one c.in-Value.place (Assign c.in-Value.v (Same x))) n) _ _ _ _ _ _ c.in_ok-x-in-Value.ensures refl c.in_ok-item-in-Value.ensures)

pub part-returns-in_ok-branch-in-Truth : goal.part-returns-in_ok-branch-in-Truth
part-returns-in_ok-branch-in-Truth t c =
    rw (c.in-Truth.is) (truth_lowered c.in-Truth.place c.in-Truth.v (ways (links_in c.args.none c.args.links.now) (view c.args.e.now)) _ _ _ _ _ _ _ c.in_ok-condition-in-Truth.ensures c.in_ok-holds-in-Truth.ensures c.in_ok-fails-in-Truth.ensures refl c.in_ok-branch-in-Truth.ensures)

pub part-returns-in_ok-effect-in-Effect : goal.part-returns-in_ok-effect-in-Effect
part-returns-in_ok-effect-in-Effect t c =
    rw (c.in-Effect.is) (c.in_ok-effect-in-Effect.ensures)

pub block-returns : goal.block-returns
block-returns t c =
    block_made (used c.args.part (ways (links_in c.args.none c.args.links.now) (view c.args.e.now))) _ _ (state_of (record { alloc = c.args.self.now.alloc; maker = c.begin_block-outer.new.self; later = c.args.self.now.later })) (state_of c.part.new.self) _ c.begin_block-outer.result.items _ c.begin_block-outer.ensures.after refl c.begin_block-outer.ensures.outer c.in_ok-part.ensures c.end_block.ensures.block c.end_block.ensures.after refl

pub operands-loop-e-init : goal.operands-loop-e-init
operands-loop-e-init t c = first_listed (links_in c.args.none c.args.links.now) (view_expressions c.args.xs.now) (state_of c.args.self.now) c.new-operands.result.items c.new-operands.ensures.items

pub operands-loop-e-preserved : goal.operands-loop-e-preserved
operands-loop-e-preserved t c =
    next_listed (links_in c.args.none c.args.links.now) (view_expressions c.args.xs.now) (state_of c.args.self.now) (state_of c.loop-e.self) (state_of c.value.new.self) c.loop-e.operands.items _ (view c.e-item.result) (view_expressions (drop (c.loop-e.e-index + 1) c.args.xs.now)) (view_expressions (drop c.loop-e.e-index c.args.xs.now)) c.in_ok-x.x (view_at c.args.xs.now c.loop-e.e-index c.e-item.result c.loop-e-test.true c.e-item.is) c.in_ok-push.ensures.items c.loop-e.invariant c.in_ok-x.ensures

pub operands-returns : goal.operands-returns
operands-returns t c =
    last_listed (links_in c.args.none c.args.links.now) (view_expressions c.args.xs.now) (state_of c.args.self.now) (state_of c.loop-e.self) c.loop-e.operands.items (view_expressions (drop c.loop-e.e-index c.args.xs.now)) (view_end c.args.xs.now c.loop-e.e-index c.loop-e-test.false) c.loop-e.invariant
