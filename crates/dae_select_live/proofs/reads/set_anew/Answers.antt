use Rattle.std.proofs.Common.{ℕ, not, ◌&&◌, ap}
use Rattle.dae_ir.specs.Classes.{VariableSet}
use Rattle.dae_select_walks.specs.Live.{with_all, reads}
use Rattle.dae_select_live.proofs.Anew.{left_anew}
use Rattle.dae_select_live.proofs.reads.set_anew.Goals as goal

pub returns-in-Set : goal.returns-in-Set
returns-in-Set c =
    left_anew c.args.action.now c.in-Set.variable c.in-Set.value c.unless_read.result c.in-Set.is c.unless_read.ensures

pub returns-in_default : goal.returns-in_default
returns-in_default c = λ s.
    ap (λ (out : VariableSet). with_all (reads c.args.action.now) (λ (u : ℕ). s u && not (out u))) c.set_by.ensures
