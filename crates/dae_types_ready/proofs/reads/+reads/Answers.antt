use Rattle.std.proofs.Common.{◌≡◌, Bool, IfOk, Some}
use Rattle.std.specs.Prelude.{Vec}
use Rattle.std.specs.declared.alloc.Global.{Global}
use Rattle.dae_types_ready.specs.Reads.{reading}
use Rattle.dae_program.proofs.LawsOfTrees.{by_call}
use Rattle.dae_types_ready.proofs.reads.+reads.Goals as goal

pub read-returns-in-Call : goal.read-returns-in-Call
read-returns-in-Call t c =
    by_call (λ e. IfOk c.read_all.result (λ (after : Vec Bool Global). reading e c.args.set.items ≡ Some after.items)) c.args.e.now c.in-Call.field-0 c.in-Call.field-1 c.in-Call.xs c.in-Call.is (rw (c.deref-in-Call.ensures.value) at (c.read_all.ensures))
