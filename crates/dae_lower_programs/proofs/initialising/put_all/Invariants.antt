use Rattle.std.proofs.Common.{drop}
use Rattle.dae_lower.specs.Lowering.{settings}
use Rattle.dae_lower_expressions.specs.Lowered.{links_in, state_of}
use Rattle.dae_lower_programs.proofs.Rows.{Leads}
use Rattle.dae_program.specs.Views.{view_settings}
use Rattle.dae_lower_programs.proofs.initialising.put_all.Given as goal

abbrev pub invariant-loop-item : goal.invariant-loop-item
invariant-loop-item l = Leads (settings (links_in l.none l.links) l.place l.v (view_settings l.items)) (settings (links_in l.none l.links) l.place l.v (view_settings (drop l.item-index l.items))) (state_of l.initial.lowerer) (state_of l.lowerer)
