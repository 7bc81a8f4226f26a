-- The core's try tells whether A has a step, and what came of it.
use Rattle.std.proofs.Common.{rules, ◌+◌, [], sym, ◌∙◌}
use Rattle.dae_machine.specs.declared.Pick.TheVariants.{A}
use Rattle.dae_machine.proofs.Steps.{Moved, a_stay, a_step, answer_of, done_by, told_by}
use Rattle.dae_machine.proofs.machine.Machine.try_a.Goals as goal

moved : (c : goal.After-self-1) → Moved c.args.self.now A [] c.try_step-piece.new.self c.self.inside.e c.try_step-piece.new.ports c.self.inside.memory.items (c.self.inside.taken + 1)
moved c =
    a_step c.self.inside.a c.self.inside.e c.self.inside.queues c.self.inside.memory.items c.self.inside.taken c.self.invariant c.args.self.now c.self.view_is
    c.len-memory.result (answer_of c.try_step-piece.result) c.try_step-piece.new.self c.try_step-piece.new.ports
    (search rules)
    c.try_step-piece.ensures.held
    (told_by c.len-memory.result c.self.inside.a c.try_step-piece.new.self c.self.inside.queues c.try_step-piece.new.ports c.try_step-piece.result c.try_step-piece.ensures.came)
    (done_by c.try_step-piece.result ∙ sym c.is_some-done.ensures ∙ c.if-done.true)

pub invariant_of-self : goal.invariant_of-self
invariant_of-self c = (moved c).sound

pub returns-then-done-clause-done : goal.returns-then-done-clause-done
returns-then-done-clause-done c = λ _. record { setup = (moved c).setup; state = (moved c).state }

pub returns-else-done-clause-none : goal.returns-else-done-clause-none
returns-else-done-clause-none c = λ none.
    a_stay c.self.inside.a c.self.inside.e c.self.inside.queues c.self.inside.memory.items c.self.inside.taken c.self.invariant c.args.self.now c.self.view_is
    c.len-memory.result (answer_of c.try_step-piece.result) c.try_step-piece.new.self c.try_step-piece.new.ports
    (search rules)
    c.try_step-piece.ensures.held
    (told_by c.len-memory.result c.self.inside.a c.try_step-piece.new.self c.self.inside.queues c.try_step-piece.new.ports c.try_step-piece.result c.try_step-piece.ensures.came)
    (done_by c.try_step-piece.result ∙ sym c.is_some-done.ensures ∙ none)
