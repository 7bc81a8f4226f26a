use Rattle.std.specs.Prelude.{◌≡◌, drop}
use Rattle.dae_ir.specs.Streams.{actions_of}
use Rattle.dae_select_walks.specs.Live.{ways}
use Rattle.dae_select_facts.specs.Knowns.{facts_by}
use Rattle.dae_select_facts.specs.Along.{facts_at}
use Rattle.dae_select_live.specs.Members.{member}
use Rattle.dae_select.specs.Growing.{IsCodeOf, step_before, standing_before}
use Rattle.dae_select_calls.specs.Makings.{plan_by, variables_by, by_jal}
use Rattle.dae_select.proofs.walking.+code.Given as goal

abbrev pub invariant-list_code-loop-index : goal.invariant-list_code-loop-index
invariant-list_code-loop-index l =
    IsCodeOf (by_jal l.making) (plan_by l.making) (variables_by l.making) l.making.function l.after (facts_at l.making.layouts.now.memory (facts_by l.fn.known) l.steps l.index) l.fn.code l.exits.leaves l.exits.skips (ways (member l.fn.next) (member l.exits.leaves_live) (member l.exits.skips_live)) (actions_of (drop l.index l.steps)) l.code l.set
    × (l.after ≡ standing_before (step_before l.steps l.index) (actions_of (drop l.index l.steps)) (ways (member l.fn.next) (member l.exits.leaves_live) (member l.exits.skips_live)))
