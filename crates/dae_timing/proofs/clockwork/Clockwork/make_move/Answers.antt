use Rattle.std.proofs.Common.{◌≡◌, refl, subst, arith}
use Rattle.std.specs.Prelude.{Some}
use Rattle.dae_machine.specs.declared.Pick.{Pick}
use Rattle.dae_machine.specs.Machine.{State, step}
use Rattle.dae_timing.specs.Ticks.{move_of}
use Rattle.dae_timing.proofs.Counting.{move_shift, room_where_grown}
use Rattle.dae_timing.proofs.Kept.{sound_after}
use Rattle.dae_timing.proofs.clockwork.Clockwork.make_move.Goals as goal

pub follow_queue-requires-2 : goal.follow_queue-requires-2
follow_queue-requires-2 c = λ more.
    let m = c.self.inside.machine in
    let n = c.step-piece.new.self in
    let t : State = let s = n.state in record s { printed = c.step-piece.result } in
    let steps : step m.setup m.state (move_of c.args.side) ≡ Some t = subst (λ (p : Pick). step m.setup m.state p ≡ Some t) c.requires.moves c.step-piece.ensures.state in
    let shift = move_shift m.setup m.state t c.args.side steps in
    let before = c.len-al.ensures in let after = c.len-2.ensures in
    let each = c.self.invariant.each_al in let deep = c.self.invariant.deep_al in
    let room = room_where_grown _ _ _ shift.al (omega (arith, more, before, after)) in
    omega (arith, room, each, deep)

pub invariant_of-self : goal.invariant_of-self
invariant_of-self c =
    let m = c.self.inside.machine in
    let n = c.step-piece.new.self in
    let t : State = let s = n.state in record s { printed = c.step-piece.result } in
    let steps : step m.setup m.state (move_of c.args.side) ≡ Some t = subst (λ (p : Pick). step m.setup m.state p ≡ Some t) c.requires.moves c.step-piece.ensures.state in
    sound_after m n _ _ c.self.inside.ld c.self.inside.al c.follow_queue.new.issues c.follow_queue-2.new.issues c.self.inside.ticks c.args.side t c.self.invariant c.step-piece.ensures.setup steps refl
    (rw (← c.len-ld.ensures, ← c.len.ensures) c.follow_queue.ensures.held) c.follow_queue.ensures.depth (rw (← c.len-al.ensures, ← c.len-2.ensures) c.follow_queue-2.ensures.held) c.follow_queue-2.ensures.depth

pub invariant_of-self-in-E : goal.invariant_of-self-in-E
invariant_of-self-in-E c =
    let m = c.self.inside.machine in
    let n = c.step-piece.new.self in
    let t : State = let s = n.state in record s { printed = c.step-piece.result } in
    let steps : step m.setup m.state (move_of c.args.side) ≡ Some t = subst (λ (p : Pick). step m.setup m.state p ≡ Some t) c.requires.moves c.step-piece.ensures.state in
    sound_after m n _ _ c.self.inside.ld c.self.inside.al c.follow_queue.new.issues c.follow_queue-2.new.issues c.self.inside.ticks c.args.side t c.self.invariant c.step-piece.ensures.setup steps refl
    (rw (← c.len-ld.ensures, ← c.len.ensures) c.follow_queue.ensures.held) c.follow_queue.ensures.depth (rw (← c.len-al.ensures, ← c.len-2.ensures) c.follow_queue-2.ensures.held) c.follow_queue-2.ensures.depth
