use Rattle.std.proofs.Common.{Bool, true, subst}
use Rattle.dae_guard.specs.Sets.{Waiting}
use Rattle.dae_guard.specs.Moves.{or_else}
use Rattle.dae_guard.specs.Waiting.{drain_next, fill_al, fill_ld}
use Rattle.dae_guard.specs.Kept.{IsMade, waiting_of}
use Rattle.dae_guard.proofs.QueueLaws.{made_else, made_first}
use Rattle.dae_guard.proofs.queues.RangeQueues.serve.Goals as goal

pub returns-then-drain-clause-made : goal.returns-then-drain-clause-made
returns-then-drain-clause-made c =
    let w = waiting_of c.args.self.now in
    let x = waiting_of c.drain.new.self in
    made_first drain_next (λ (v : Waiting). or_else (fill_al v) (fill_ld v)) w x (subst (λ (b : Bool). IsMade b (drain_next w) w x) c.if-drain.true c.drain.ensures.made)

pub returns-then-fill_al-clause-made : goal.returns-then-fill_al-clause-made
returns-then-fill_al-clause-made c =
    let w = waiting_of c.args.self.now in
    let x = waiting_of c.drain.new.self in
    let y = waiting_of c.fill_al.new.self in
    made_else drain_next (λ (v : Waiting). or_else (fill_al v) (fill_ld v)) true w x y
    (subst (λ (b : Bool). IsMade b (drain_next w) w x) c.if-drain.false c.drain.ensures.made)
    (made_first fill_al fill_ld x y (subst (λ (b : Bool). IsMade b (fill_al x) x y) c.if-fill_al.true c.fill_al.ensures.made))

pub returns-clause-made : goal.returns-clause-made
returns-clause-made c =
    let w = waiting_of c.args.self.now in
    let x = waiting_of c.drain.new.self in
    let y = waiting_of c.fill_al.new.self in
    let z = waiting_of c.fill_ld.new.self in
    made_else drain_next (λ (v : Waiting). or_else (fill_al v) (fill_ld v)) c.fill_ld.result w x z
    (subst (λ (b : Bool). IsMade b (drain_next w) w x) c.if-drain.false c.drain.ensures.made)
    (made_else fill_al fill_ld c.fill_ld.result x y z (subst (λ (b : Bool). IsMade b (fill_al x) x y) c.if-fill_al.false c.fill_al.ensures.made) c.fill_ld.ensures.made)
