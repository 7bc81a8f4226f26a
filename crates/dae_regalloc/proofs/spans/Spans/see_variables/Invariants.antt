use Rattle.std.specs.Prelude.{◌≡◌, take, true}
use Rattle.dae_select_live.specs.Members.{member}
use Rattle.dae_regalloc.specs.Seen.{IsFurther}
use Rattle.dae_regalloc.proofs.spans.Spans.see_variables.Given as goal

abbrev pub invariant-loop-variable : goal.invariant-loop-variable
invariant-loop-variable l = IsFurther (λ v. member (take l.variable-index l.set) v ≡ true) l.initial.self l.self
