use Rattle.std.proofs.Common.{◌∷◌, ap, subst, ◌∙◌}
use Rattle.dae_ir.specs.Classes.{VariableSet}
use Rattle.dae_select_live.specs.Members.{member, without}
use Rattle.dae_regalloc.specs.Seen.{AreSeen}
use Rattle.dae_regalloc.proofs.Entering.{without_added}
use Rattle.dae_regalloc.proofs.places.see_with.Goals as goal

pub returns-clause-same : goal.returns-clause-same
returns-clause-same c =
    c.remove.ensures ∙ ap (λ (l : VariableSet). without c.args.variable l) c.in_ok-insert.ensures ∙ without_added c.args.variable (member c.args.before) c.requires.absent

pub returns-clause-seen : goal.returns-clause-seen
returns-clause-seen c = record {
  seen = λ places sb. subst (λ (l : VariableSet). AreSeen (l ∷ places) c.see.new.self) c.in_ok-insert.ensures (c.in_ok-see.ensures.seen places sb);
  count = c.in_ok-see.ensures.count;
}
