use Rattle.std.proofs.Common.{◌≡◌, drop}
use Rattle.dae_lower.specs.Lowering.{arms_from, statements}
use Rattle.dae_lower_expressions.specs.Lowered.{links_in, state_of}
use Rattle.dae_lower_programs.proofs.Rows.{Leads}
use Rattle.dae_program.specs.Views.{view_statements, arms_of}
use Rattle.dae_lower_programs.proofs.statements.+statements.Given as goal

abbrev pub invariant-make_statements-loop-s : goal.invariant-make_statements-loop-s
invariant-make_statements-loop-s l = Leads (statements (links_in l.none l.links) (view_statements l.ss)) (statements (links_in l.none l.links) (view_statements (drop l.s-index l.ss))) (state_of l.initial.lowerer) (state_of l.lowerer)

abbrev pub invariant-make_arms-loop-arm : goal.invariant-make_arms-loop-arm
invariant-make_arms-loop-arm l = (l.number ≡ l.arm-index) × Leads (arms_from (links_in l.none l.links) l.place l.v 0 (arms_of l.arms)) (arms_from (links_in l.none l.links) l.place l.v l.arm-index (arms_of (drop l.arm-index l.arms))) (state_of l.initial.lowerer) (state_of l.lowerer)
