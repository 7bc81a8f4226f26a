use Rattle.std.proofs.Common.{◌≡◌, List, length, ap, sym, ◌∙◌, subst, arith, rules}
use Rattle.dae_ir.specs.Form.{form_of}
use Rattle.dae_ir.specs.Streams.{actions_of}
use Rattle.dae_ir.specs.declared.form.Statement.{Statement, the_lemmas}
use Rattle.dae_ir.specs.declared.form.Statement.TheVariants as statement
use Rattle.dae_ir.specs.declared.stream.Step.{Step}
use Rattle.dae_select_facts.specs.Knowns.{facts_by}
use Rattle.dae_elide.specs.Elided.{as_actions, elided}
use Rattle.dae_elide.specs.Walked.{IsElided, chosen_by}
use Rattle.dae_elide.proofs.Paired.{as_long, begins_alike, first_like_if, first_like_loop, second_like_if, second_like_loop}
use Rattle.dae_elide.proofs.Walked.{if_elided, loop_elided, elided_next, elided_end}
use Rattle.dae_elide.proofs.eliding.+elide.Goals as goal

pub elide_list-loop-index-preserved : goal.elide_list-loop-index-preserved
elide_list-loop-index-preserved t c =
    let e = c.in_ok-elided.elided in
    let lt = c.loop-index-test.true in
    elided_next c.args.memory (chosen_by c.args.classes.now) (facts_by c.args.known) c.args.statements.now c.loop-index.index c.index-statements-index.result e.statement (facts_by c.loop-index.known) (facts_by e.known) c.loop-index.new.items c.push.new.self.items
    (omega arith) c.index-statements-index.is c.in_ok-elided.ensures c.in_ok-push.ensures.items c.loop-index.invariant

pub elide_list-returns : goal.elide_list-returns
elide_list-returns t c =
    let end = c.loop-index-test.false in
    elided_end c.args.memory (chosen_by c.args.classes.now) (facts_by c.args.known) c.args.statements.now c.loop-index.index (facts_by c.loop-index.known) c.loop-index.new.items (omega arith) c.loop-index.invariant

-- ---- steps alike

pub elide_list-elide_statement-requires : goal.elide_list-elide_statement-requires
elide_list-elide_statement-requires t c =
    let lt = c.loop-index-test.true in let long = c.requires.long in (
      search (rules, the_lemmas),
      begins_alike c.args.statements.now c.args.steps.now c.loop-index.index c.index-statements-index.result c.index-steps-index.result (omega arith) c.index-statements-index.is (omega (arith, long)) c.index-steps-index.is c.requires.alike,
    )

-- like a list of statements, and as long
both_alike : (ss xs : List Statement) (steps : List Step) → ss ≡ xs → actions_of steps ≡ as_actions (form_of xs) → (actions_of steps ≡ as_actions (form_of ss)) × (length steps ≡ length ss)
both_alike ss xs steps e h =
    let alike : actions_of steps ≡ as_actions (form_of ss) = h ∙ ap (λ (l : List Statement). as_actions (form_of l)) (sym e) in
    (alike, as_long ss steps alike)

pub elide_statement-elide_list-requires : goal.elide_statement-elide_list-requires
elide_statement-elide_list-requires t c =
    let w = c.in-If in
    let both = both_alike c.deref.result.now w.yes.items c.first_list-one.result.now c.deref.ensures.value (c.first_list-one.ensures ∙ first_like_if c.args.statement.now c.args.like.now c.requires w.place w.test w.yes w.no w.is) in
    (search (rules, the_lemmas), (both.0, both.1))

pub elide_statement-elide_list-requires-in-If : goal.elide_statement-elide_list-requires-in-If
elide_statement-elide_list-requires-in-If t c =
    let w = c.in-If in
    let both = both_alike c.deref-in-If.result.now w.no.items c.second_list-other.result.now c.deref-in-If.ensures.value (c.second_list-other.ensures ∙ second_like_if c.args.statement.now c.args.like.now c.requires w.place w.test w.yes w.no w.is) in
    (search (rules, the_lemmas), (both.0, both.1))

pub elide_statement-elide_list-requires-in-Loop : goal.elide_statement-elide_list-requires-in-Loop
elide_statement-elide_list-requires-in-Loop t c =
    let w = c.in-Loop in
    let both = both_alike c.deref-in-Loop.result.now w.body.items c.first_list-turn.result.now c.deref-in-Loop.ensures.value (c.first_list-turn.ensures ∙ first_like_loop c.args.statement.now c.args.like.now c.requires w.place w.body w.step w.is) in
    (search (rules, the_lemmas), (both.0, both.1))

pub elide_statement-elide_list-requires-in-Loop-2 : goal.elide_statement-elide_list-requires-in-Loop-2
elide_statement-elide_list-requires-in-Loop-2 t c =
    let w = c.in-Loop in
    let both = both_alike c.deref-in-Loop-2.result.now w.step.items c.second_list-again.result.now c.deref-in-Loop-2.ensures.value (c.second_list-again.ensures ∙ second_like_loop c.args.statement.now c.args.like.now c.requires w.place w.body w.step w.is) in
    (search (rules, the_lemmas), (both.0, both.1))

-- ---- what is elided

pub elide_statement-returns-in_ok-past-in-If : goal.elide_statement-returns-in_ok-past-in-If
elide_statement-returns-in_ok-past-in-If t c =
    let w = c.in-If in
    let m = c.args.memory in
    let chosen = chosen_by c.args.classes.now in
    let facts = facts_by c.args.known in
    let in_first = facts_by c.in_ok-in_first-in-If.in_first in
    let in_second = facts_by c.in_ok-in_second-in-If.in_second in
    let behind = facts_by c.in_ok-past-in-If.past in
    let first = c.in_ok-first-in-If.first in
    let second = c.in_ok-second-in-If.second in
    let p = c.first_list-one.result.now in
    let q = c.second_list-other.result.now in
    let one : actions_of p ≡ as_actions (form_of w.yes.items) = c.first_list-one.ensures ∙ first_like_if c.args.statement.now c.args.like.now c.requires w.place w.test w.yes w.no w.is in
    let other : actions_of q ≡ as_actions (form_of w.no.items) = c.second_list-other.ensures ∙ second_like_if c.args.statement.now c.args.like.now c.requires w.place w.test w.yes w.no w.is in
    let f : form_of first.items ≡ elided m chosen in_first (form_of w.yes.items) = c.in_ok-first-in-If.ensures ∙ ap (λ (xs : List Statement). elided m chosen in_first (form_of xs)) c.deref.ensures.value in
    let g : form_of second.items ≡ elided m chosen in_second (form_of w.no.items) = c.in_ok-second-in-If.ensures ∙ ap (λ (xs : List Statement). elided m chosen in_second (form_of xs)) c.deref-in-If.ensures.value in
    subst (λ (s : Statement). IsElided m chosen facts s (statement.If w.place w.test first second) behind) (sym w.is)
    (if_elided m chosen facts w.place w.test w.yes w.no first second p q in_first in_second behind one other c.in_ok-in_first-in-If.ensures c.in_ok-in_second-in-If.ensures c.in_ok-past-in-If.ensures f g)

pub elide_statement-returns-in_ok-second-in-Loop : goal.elide_statement-returns-in_ok-second-in-Loop
elide_statement-returns-in_ok-second-in-Loop t c =
    let w = c.in-Loop in
    let m = c.args.memory in
    let chosen = chosen_by c.args.classes.now in
    let facts = facts_by c.args.known in
    let at_turn = facts_by c.in_ok-at_turn-in-Loop.at_turn in
    let at_step = facts_by c.in_ok-at_step-in-Loop.at_step in
    let behind = facts_by c.in_ok-past-in-Loop.past in
    let first = c.in_ok-first-in-Loop.first in
    let second = c.in_ok-second-in-Loop.second in
    let p = c.first_list-turn.result.now in
    let q = c.second_list-again.result.now in
    let one : actions_of p ≡ as_actions (form_of w.body.items) = c.first_list-turn.ensures ∙ first_like_loop c.args.statement.now c.args.like.now c.requires w.place w.body w.step w.is in
    let other : actions_of q ≡ as_actions (form_of w.step.items) = c.second_list-again.ensures ∙ second_like_loop c.args.statement.now c.args.like.now c.requires w.place w.body w.step w.is in
    let f : form_of first.items ≡ elided m chosen at_turn (form_of w.body.items) = c.in_ok-first-in-Loop.ensures ∙ ap (λ (xs : List Statement). elided m chosen at_turn (form_of xs)) c.deref-in-Loop.ensures.value in
    let g : form_of second.items ≡ elided m chosen at_step (form_of w.step.items) = c.in_ok-second-in-Loop.ensures ∙ ap (λ (xs : List Statement). elided m chosen at_step (form_of xs)) c.deref-in-Loop-2.ensures.value in
    subst (λ (s : Statement). IsElided m chosen facts s (statement.Loop w.place first second) behind) (sym w.is)
    (loop_elided m chosen facts w.place w.body w.step first second p q at_turn at_step behind one other c.in_ok-at_turn-in-Loop.ensures c.in_ok-at_step-in-Loop.ensures c.in_ok-past-in-Loop.ensures f g)
