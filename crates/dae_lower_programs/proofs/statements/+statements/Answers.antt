use Rattle.std.proofs.Common.{refl, drop, ◌+◌, ap, sym, subst, ◌∙◌, arith, rules, List}
use Rattle.std.specs.Prelude.{None}
use Rattle.dae_ir.specs.declared.form.Item.TheVariants.{Break, Continue}
use Rattle.dae_lower.specs.Lowering.{arms_continue, arms_from, branches, effect_of_some, emit, headed_loop, leave_unless, leave_unless_some, loop, nowhere, one, operands, preheader, prints, statements, ways, ◌≫◌}
use Rattle.dae_lower_expressions.specs.Lowered.{Whole, links_in, state_of}
use Rattle.dae_lower_programs.proofs.Firsts.{made_at, made_end}
use Rattle.dae_lower_programs.proofs.Rows.{block_whole, branches_whole, first_leads, last_leads, last_whole, leaf_whole, loop_whole, next_leads, then_whole}
use Rattle.dae_lower_programs.proofs.Turns.{arm_made, arm_whole, made_arms_at, made_arms_end, switch_whole}
use Rattle.dae_program.proofs.LawsOfTrees.{no_below, view_do, view_if, view_loop, view_switch}
use Rattle.dae_lower_programs.specs.Switching.{switch_on}
use Rattle.dae_lower_maker.specs.Making.{condition_of}
use Rattle.dae_program.specs.Switches.{arm_with, count_arms}
use Rattle.dae_program.specs.Trees as tree
use Rattle.dae_program.specs.Trees.{Done}
use Rattle.dae_lower_programs.proofs.Sound.{arm_sound, arms_sound, done_sound, few_arms, no_sound, sound_at, turn_sound, yes_sound}
use Rattle.dae_lower_programs.specs.Sound.{AreArmsSound, AreSound}
use Rattle.dae_program.specs.declared.statements.Arm.{Arm}
use Rattle.dae_program.specs.declared.statements.Statement.{Statement, the_lemmas}
use Rattle.dae_program.specs.Views.{statement_then, view, view_expressions, view_some, view_statements, arms_of}
use Rattle.dae_lower_programs.proofs.statements.+statements.Goals as goal

pub make_statements-make_statement-requires : goal.make_statements-make_statement-requires
make_statements-make_statement-requires t c = (search (rules, the_lemmas), sound_at c.args.ss.now c.loop-s.s-index c.s-item.result c.loop-s-test.true c.s-item.is c.requires)

pub make_statement-block-requires : goal.make_statement-block-requires
make_statement-block-requires t c = (
  search (rules, the_lemmas),
  subst (λ (ss : List Statement). AreSound (view_statements ss)) (sym c.deref-in-If-2.ensures.value)
      (yes_sound (subst AreSound (ap (λ (s : Statement). statement_then s Done) c.in-If.is ∙ view_if c.in-If.place c.in-If.e c.in-If.yes c.in-If.no Done) c.requires)),
)

pub make_statement-block-requires-in-If : goal.make_statement-block-requires-in-If
make_statement-block-requires-in-If t c = (
  let below = no_below c.in-If.place c.in-If.e c.in-If.yes c.in-If.no c.deref-in-If-3.result.now c.args.s.now c.in-If.is c.deref-in-If-3.ensures.value in search (rules, below, c.decreases),
  subst (λ (ss : List Statement). AreSound (view_statements ss)) (sym c.deref-in-If-3.ensures.value)
      (no_sound (subst AreSound (ap (λ (s : Statement). statement_then s Done) c.in-If.is ∙ view_if c.in-If.place c.in-If.e c.in-If.yes c.in-If.no Done) c.requires)),
)

pub make_statement-make_statements-requires : goal.make_statement-make_statements-requires
make_statement-make_statements-requires t c = (
  search (rules, the_lemmas),
  subst (λ (ss : List Statement). AreSound (view_statements ss)) (sym c.deref-in-Loop.ensures.value)
      (turn_sound (subst AreSound (ap (λ (s : Statement). statement_then s Done) c.in-Loop.is ∙ view_loop c.in-Loop.place c.in-Loop.test c.in-Loop.body c.in-Loop.step Done) c.requires)),
)

pub make_statement-block-requires-in-Do : goal.make_statement-block-requires-in-Do
make_statement-block-requires-in-Do t c = (
  search (rules, the_lemmas),
  subst (λ (ss : List Statement). AreSound (view_statements ss)) (sym c.deref-in-Do.ensures.value)
      (done_sound (subst AreSound (ap (λ (s : Statement). statement_then s Done) c.in-Do.is ∙ view_do c.in-Do.place c.in-Do.body c.in-Do.test Done) c.requires)),
)

pub make_statement-make_switch-requires : goal.make_statement-make_switch-requires
make_statement-make_switch-requires t c = (
  search (rules, the_lemmas),
  subst (λ (xs : List Arm). AreArmsSound (arms_of xs)) (sym c.deref-in-Switch-2.ensures.value)
      (arms_sound (subst AreSound (ap (λ (s : Statement). statement_then s Done) c.in-Switch.is ∙ view_switch c.in-Switch.place c.in-Switch.e c.in-Switch.arms Done) c.requires)),
)

pub make_switch-begin_switch-requires : goal.make_switch-begin_switch-requires
make_switch-begin_switch-requires t c = few_arms c.args.arms.now c.requires

pub make_arms-block-requires : goal.make_arms-block-requires
make_arms-block-requires t c = (
  search (rules, the_lemmas),
  subst (λ (ss : List Statement). AreSound (view_statements ss)) (sym c.deref.ensures.value)
      (arm_sound c.args.arms.now c.loop-arm.arm-index c.arm-item.result c.loop-arm-test.true c.arm-item.is c.requires),
)

pub make_arms-overflow_add-number : goal.make_arms-overflow_add-number
make_arms-overflow_add-number t c = let same = c.loop-arm.invariant.0 in let few = few_arms c.args.arms.now c.requires in omega (arith, same, c.loop-arm-test.true, few)

pub make_statements-loop-s-init : goal.make_statements-loop-s-init
make_statements-loop-s-init t c = first_leads (statements (links_in c.args.none c.args.links.now) (view_statements c.args.ss.now)) (state_of c.args.lowerer.now)

pub make_statements-loop-s-preserved : goal.make_statements-loop-s-preserved
make_statements-loop-s-preserved t c =
    let l = links_in c.args.none c.args.links.now in
    let xs = c.args.ss.now in
    let i = c.loop-s.s-index in
    next_leads (statements l (view_statements xs)) (statements l (view_statements (drop i xs))) (statements l (statement_then c.s-item.result Done)) (statements l (view_statements (drop (i + 1) xs))) (state_of c.args.lowerer.now) (state_of c.loop-s.lowerer) (state_of c.make_statement.new.lowerer)
    (made_at l xs i c.s-item.result c.loop-s-test.true c.s-item.is) c.loop-s.invariant c.in_ok-make_statement.ensures

pub make_statements-returns : goal.make_statements-returns
make_statements-returns t c =
    let l = links_in c.args.none c.args.links.now in
    let xs = c.args.ss.now in
    let i = c.loop-s.s-index in
    last_leads (statements l (view_statements xs)) (statements l (view_statements (drop i xs))) (state_of c.args.lowerer.now) (state_of c.loop-s.lowerer) (made_end l xs i c.loop-s-test.false) c.loop-s.invariant

pub make_statement-returns-in_ok-whole_effect-in-Evaluate : goal.make_statement-returns-in_ok-whole_effect-in-Evaluate
make_statement-returns-in_ok-whole_effect-in-Evaluate t c =
    rw (c.in-Evaluate.is) (last_whole ((ways (links_in c.args.none c.args.links.now) (view c.in-Evaluate.e.value)).effect nowhere) (state_of c.args.lowerer.now) (state_of c.whole_effect.new.self) tt (rw (c.deref.ensures) at (c.in_ok-whole_effect-in-Evaluate.ensures)))

pub make_statement-returns-in_ok-initialise-in-Initialise : goal.make_statement-returns-in_ok-initialise-in-Initialise
make_statement-returns-in_ok-initialise-in-Initialise t c =
    rw (c.in-Initialise.is) (rw (c.deref-in-Initialise.ensures.value) at (c.in_ok-initialise-in-Initialise.ensures))

pub make_statement-returns-in_ok-give_back-in-Return : goal.make_statement-returns-in_ok-give_back-in-Return
make_statement-returns-in_ok-give_back-in-Return t c = rw (c.in-Return.is) (c.in_ok-give_back-in-Return.ensures)

pub make_statement-returns-in_ok-item-in-Break : goal.make_statement-returns-in_ok-item-in-Break
make_statement-returns-in_ok-item-in-Break t c =
    let last = state_of (record { alloc = c.args.lowerer.now.alloc; maker = c.item.new.self; later = c.args.lowerer.now.later }) in
    let made = emit (one c.in-Break.place Break) in
    rw (c.in-Break.is) (last_whole made (state_of c.args.lowerer.now) last tt (leaf_whole made (state_of c.args.lowerer.now) last tt refl c.in_ok-item-in-Break.ensures))

pub make_statement-returns-in_ok-item-in-Continue : goal.make_statement-returns-in_ok-item-in-Continue
make_statement-returns-in_ok-item-in-Continue t c =
    let last = state_of (record { alloc = c.args.lowerer.now.alloc; maker = c.item-in-Continue.new.self; later = c.args.lowerer.now.later }) in
    let made = emit (one c.in-Continue.place Continue) in
    rw (c.in-Continue.is) (last_whole made (state_of c.args.lowerer.now) last tt (leaf_whole made (state_of c.args.lowerer.now) last tt refl c.in_ok-item-in-Continue.ensures))

pub block-returns : goal.block-returns
block-returns t c =
    block_whole (statements (links_in c.args.none c.args.links.now) (view_statements c.args.ss.now)) (state_of c.args.lowerer.now) (state_of (record { alloc = c.args.lowerer.now.alloc; maker = c.begin_block-outer.new.self; later = c.args.lowerer.now.later })) (state_of c.make_statements.new.lowerer) _ c.begin_block-outer.result.items _ c.begin_block-outer.ensures.after refl c.begin_block-outer.ensures.outer c.in_ok-make_statements.ensures c.end_block.ensures.block c.end_block.ensures.after refl

pub make_statement-returns-in_ok-print-in-Print : goal.make_statement-returns-in_ok-print-in-Print
make_statement-returns-in_ok-print-in-Print t c =
    let l = links_in c.args.none c.args.links.now in
    let a = state_of c.args.lowerer.now in
    let z = state_of c.print.new.lowerer in
    let xs = operands l (view_expressions c.in-Print.xs.items) nowhere in
    let ps = prints c.in-Print.place c.in-Print.pieces.items in
    rw (c.in-Print.is) (last_whole (λ n. xs n ≫ ps) a z tt (then_whole xs ps a (state_of c.whole_operands.new.self) z c.in_ok-operands-in-Print.operands.items tt
    (rw (c.deref-in-Print.ensures.value) at (c.in_ok-operands-in-Print.ensures))
    (rw (c.deref-in-Print-2.ensures.value, c.deref-in-Print-3.ensures.value) at (c.in_ok-print-in-Print.ensures))))

pub make_statement-returns-in_ok-branch-in-If : goal.make_statement-returns-in_ok-branch-in-If
make_statement-returns-in_ok-branch-in-If t c =
    let l = links_in c.args.none c.args.links.now in
    let a = state_of c.args.lowerer.now in
    let e = c.block-in-If.new.lowerer in
    let z = state_of (record { alloc = e.alloc; maker = c.branch-lowerer.new.self; later = e.later }) in
    let p = c.in-If.place in
    let cond = (ways l (view c.in-If.e.value)).condition nowhere in
    let yes = statements l (view_statements c.in-If.yes.items) in
    let no = statements l (view_statements c.in-If.no.items) in
    subst (λ (ss : tree.Statements). Whole (statements l ss) a z tt) (sym (ap (λ (s : Statement). statement_then s Done) c.in-If.is ∙ view_if p c.in-If.e c.in-If.yes c.in-If.no Done))
    (last_whole (λ n. branches p (cond n) yes no) a z tt
    (branches_whole p cond yes no a (state_of c.whole_condition.new.self) (state_of c.block.new.lowerer) (state_of e) z (condition_of c.in_ok-condition-in-If.condition) c.in_ok-holds-in-If.holds.items c.in_ok-fails-in-If.fails.items
    (rw (c.deref-in-If.ensures) at (c.in_ok-condition-in-If.ensures)) (rw (c.deref-in-If-2.ensures.value) at (c.in_ok-holds-in-If.ensures)) (rw (c.deref-in-If-3.ensures.value) at (c.in_ok-fails-in-If.ensures)) refl c.in_ok-branch-in-If.ensures))

pub make_statement-returns-in_ok-repeat-in-Loop : goal.make_statement-returns-in_ok-repeat-in-Loop
make_statement-returns-in_ok-repeat-in-Loop t c =
    let l = links_in c.args.none c.args.links.now in
    let old = c.preheader.new.lowerer in
    let a = state_of c.args.lowerer.now in
    let h = state_of old in
    let inner = c.make_statements.new.lowerer in
    let begun = state_of (record { alloc = old.alloc; maker = c.begin_block-outer.new.self; later = old.later }) in
    let b = state_of (record { alloc = inner.alloc; maker = c.end_block-turn.new.self; later = inner.later }) in
    let e = c.step_block.new.lowerer in
    let z = state_of (record { alloc = e.alloc; maker = c.repeat.new.self; later = e.later }) in
    let p = c.in-Loop.place in
    let test = leave_unless_some l p (view_some c.in-Loop.test) in
    let body = statements l (view_statements c.in-Loop.body.items) in
    let step = effect_of_some l (view_some c.in-Loop.step) in
    subst (λ (ss : tree.Statements). Whole (statements l ss) a z tt) (sym (ap (λ (s : Statement). statement_then s Done) c.in-Loop.is ∙ view_loop p c.in-Loop.test c.in-Loop.body c.in-Loop.step Done))
    (last_whole (headed_loop p (λ n. test n ≫ λ u. body) step) a z tt
    (then_whole (preheader p) (λ x n. loop p (test n ≫ λ u. body) step) a h z tt tt c.in_ok-preheader-in-Loop.ensures
    (loop_whole p (λ n. test n ≫ λ u. body) step h b (state_of e) z c.end_block-turn.result.items c.in_ok-after-in-Loop.after.items
    (block_whole (λ n. test n ≫ λ u. body) h begun (state_of inner) b c.begin_block-outer.result.items c.end_block-turn.result.items c.begin_block-outer.ensures.after refl c.begin_block-outer.ensures.outer
    (then_whole test (λ u. body) begun (state_of c.leave_unless_some.new.lowerer) (state_of inner) tt tt c.in_ok-leave_unless_some-in-Loop.ensures (rw (c.deref-in-Loop.ensures.value) at (c.in_ok-make_statements-in-Loop.ensures)))
    c.end_block-turn.ensures.block c.end_block-turn.ensures.after refl)
    c.in_ok-after-in-Loop.ensures refl c.in_ok-repeat-in-Loop.ensures)))

pub make_statement-returns-in_ok-repeat-in-Do : goal.make_statement-returns-in_ok-repeat-in-Do
make_statement-returns-in_ok-repeat-in-Do t c =
    let l = links_in c.args.none c.args.links.now in
    let a = state_of c.args.lowerer.now in
    let h = state_of c.preheader-in-Do.new.lowerer in
    let e = c.test_block.new.lowerer in
    let z = state_of (record { alloc = e.alloc; maker = c.repeat-in-Do.new.self; later = e.later }) in
    let p = c.in-Do.place in
    let body = statements l (view_statements c.in-Do.body.items) in
    let step = leave_unless l p (view c.in-Do.test.value) in
    subst (λ (ss : tree.Statements). Whole (statements l ss) a z tt) (sym (ap (λ (s : Statement). statement_then s Done) c.in-Do.is ∙ view_do p c.in-Do.body c.in-Do.test Done))
    (last_whole (headed_loop p body step) a z tt
    (then_whole (preheader p) (λ x n. loop p (body n) step) a h z tt tt c.in_ok-preheader-in-Do.ensures
    (loop_whole p body step h (state_of c.block-in-Do.new.lowerer) (state_of e) z c.in_ok-turn-in-Do.turn.items c.in_ok-after-in-Do.after.items
    (rw (c.deref-in-Do.ensures.value) at (c.in_ok-turn-in-Do.ensures)) (rw (c.deref-in-Do-2.ensures) at (c.in_ok-after-in-Do.ensures)) refl c.in_ok-repeat-in-Do.ensures)))

pub make_statement-returns-in_ok-make_switch-in-Switch : goal.make_statement-returns-in_ok-make_switch-in-Switch
make_statement-returns-in_ok-make_switch-in-Switch t c =
    let l = links_in c.args.none c.args.links.now in
    let a = state_of c.args.lowerer.now in
    let z = state_of c.make_switch.new.lowerer in
    let p = c.in-Switch.place in
    let arms = arms_of c.in-Switch.arms.items in
    let x = c.in_ok-x-in-Switch.x in
    let value = (ways l (view c.in-Switch.e.value)).value nowhere in
    subst (λ (ss : tree.Statements). Whole (statements l ss) a z tt) (sym (ap (λ (s : Statement). statement_then s Done) c.in-Switch.is ∙ view_switch p c.in-Switch.e c.in-Switch.arms Done))
    (last_whole (λ n. value n ≫ switch_on l p arms) a z tt (then_whole value (switch_on l p arms) a (state_of c.whole_value.new.self) z x tt (rw (c.deref-in-Switch.ensures) at (c.in_ok-x-in-Switch.ensures))
    (rw (c.deref-in-Switch-2.ensures.value) at (c.in_ok-make_switch-in-Switch.ensures))))

pub make_switch-returns : goal.make_switch-returns
make_switch-returns t c =
    let l = links_in c.args.none c.args.links.now in
    let a = state_of c.args.lowerer.now in
    let first = c.begin_switch.new.lowerer in
    let begun = state_of (record { alloc = first.alloc; maker = c.begin_block-outer.new.self; later = first.later }) in
    let inner = c.make_arms.new.lowerer in
    let done = state_of (record { alloc = inner.alloc; maker = c.item.new.self; later = inner.later }) in
    let ended = state_of (record { alloc = inner.alloc; maker = c.end_block-body.new.self; later = inner.later }) in
    let z = state_of c.end_switch.new.lowerer in
    let p = c.args.place in
    let arms = arms_of c.args.arms.now in
    let v = c.in_ok-switch.switch.arm in
    let turns = arms_from l p v 0 arms in
    switch_whole l p c.args.x (arm_with None 0 arms (count_arms arms)) arms (arms_continue arms) a (state_of first) ended z v c.in_ok-switch.switch.flag c.end_block-body.result.items c.in_ok-switch.ensures.flag
    (rw (c.in_ok-switch.ensures.continues) at (c.in_ok-switch.ensures.made))
    (block_whole (λ n. turns n ≫ λ u. emit (one p Break)) (state_of first) begun done ended c.begin_block-outer.result.items c.end_block-body.result.items c.begin_block-outer.ensures.after refl c.begin_block-outer.ensures.outer
    (then_whole turns (λ u. emit (one p Break)) begun (state_of inner) done tt tt c.in_ok-make_arms.ensures (leaf_whole (emit (one p Break)) (state_of inner) done tt refl c.in_ok-item.ensures))
    c.end_block-body.ensures.block c.end_block-body.ensures.after refl)
    (rw (c.in_ok-switch.ensures.place, c.in_ok-switch.ensures.continues) at (c.in_ok-end_switch.ensures))

pub make_arms-loop-arm-init : goal.make_arms-loop-arm-init
make_arms-loop-arm-init t c = (refl, first_leads (arms_from (links_in c.args.none c.args.links.now) c.args.place c.args.v 0 (arms_of c.args.arms.now)) (state_of c.args.lowerer.now))

pub make_arms-loop-arm-preserved : goal.make_arms-loop-arm-preserved
make_arms-loop-arm-preserved t c =
    let l = links_in c.args.none c.args.links.now in
    let p = c.args.place in
    let v = c.args.v in
    let xs = c.args.arms.now in
    let i = c.loop-arm.arm-index in
    let a = c.arm-item.result in
    let t = view_statements a.statements.items in (
      ap (λ n. n + 1) c.loop-arm.invariant.0,
      next_leads (arms_from l p v 0 (arms_of xs)) (arms_from l p v i (arms_of (drop i xs))) (arm_made l p v i t) (arms_from l p v (i + 1) (arms_of (drop (i + 1) xs))) (state_of c.args.lowerer.now) (state_of c.loop-arm.lowerer) (state_of c.do_arm.new.lowerer)
          (made_arms_at l p v i xs a c.loop-arm-test.true c.arm-item.is) c.loop-arm.invariant.1
          (arm_whole l p v c.loop-arm.number i t (state_of c.loop-arm.lowerer) (state_of c.block.new.lowerer) (state_of c.do_arm.new.lowerer) c.in_ok-body.body.items c.loop-arm.invariant.0 (rw (c.deref.ensures.value) at (c.in_ok-body.ensures)) c.in_ok-do_arm.ensures),
    )

pub make_arms-returns : goal.make_arms-returns
make_arms-returns t c =
    let l = links_in c.args.none c.args.links.now in
    let xs = c.args.arms.now in
    let i = c.loop-arm.arm-index in
    last_leads (arms_from l c.args.place c.args.v 0 (arms_of xs)) (arms_from l c.args.place c.args.v i (arms_of (drop i xs))) (state_of c.args.lowerer.now) (state_of c.loop-arm.lowerer) (made_arms_end l c.args.place c.args.v i xs c.loop-arm-test.false) c.loop-arm.invariant.1
