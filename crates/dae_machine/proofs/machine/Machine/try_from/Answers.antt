-- The first kind whose try takes a step is that of the pick.
use Rattle.dae_machine.proofs.Tries.{tried_first, tried_second, tried_third, tried_last}
use Rattle.dae_machine.proofs.machine.Machine.try_from.Goals as goal

pub returns-in-Some : goal.returns-in-Some
returns-in-Some c =
    tried_first c.args.word c.args.self.now c.try_kind.result c.in-Some.done c.try_kind.new.self
    (rw (← c.requires.place) at c.try_kind.ensures) c.in-Some.is

pub returns-in-Some-try_kind : goal.returns-in-Some-try_kind
returns-in-Some-try_kind c =
    tried_second c.args.word c.args.self.now c.try_kind.result c.try_kind-2.result c.in-Some-try_kind.done c.try_kind.new.self c.try_kind-2.new.self
    (rw (← c.requires.place) at c.try_kind.ensures) c.in_default.is
    (rw (← c.requires.place) at c.try_kind-2.ensures) c.in-Some-try_kind.is

pub returns-in-Some-try_kind-2 : goal.returns-in-Some-try_kind-2
returns-in-Some-try_kind-2 c =
    tried_third c.args.word c.args.self.now c.try_kind.result c.try_kind-2.result c.try_kind-3.result c.in-Some-try_kind-2.done c.try_kind.new.self c.try_kind-2.new.self c.try_kind-3.new.self
    (rw (← c.requires.place) at c.try_kind.ensures) c.in_default.is
    (rw (← c.requires.place) at c.try_kind-2.ensures) c.in_default-try_kind.is
    (rw (← c.requires.place) at c.try_kind-3.ensures) c.in-Some-try_kind-2.is

pub returns : goal.returns
returns c =
    tried_last c.args.word c.args.self.now c.try_kind.result c.try_kind-2.result c.try_kind-3.result c.try_kind-4.result c.try_kind.new.self c.try_kind-2.new.self c.try_kind-3.new.self c.try_kind-4.new.self
    (rw (← c.requires.place) at c.try_kind.ensures) c.in_default.is
    (rw (← c.requires.place) at c.try_kind-2.ensures) c.in_default-try_kind.is
    (rw (← c.requires.place) at c.try_kind-3.ensures) c.in_default-try_kind-2.is
    (rw (← c.requires.place) at c.try_kind-4.ensures)
