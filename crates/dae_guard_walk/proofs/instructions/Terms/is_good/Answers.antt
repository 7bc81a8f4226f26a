use Rattle.std.proofs.Common.{◌≡◌, ◌∙◌, ℕ, sym, ap}
use Rattle.dae_encode.specs.Processor.{is_shared, is_within}
use Rattle.dae_ranges.specs.Ranges.{each}
use Rattle.dae_guard_walk.proofs.InstructionLaws.{else_good}
use Rattle.dae_guard_walk.proofs.instructions.Terms.is_good.Goals as goal

pub returns-else-is_shared : goal.returns-else-is_shared
returns-else-is_shared c =
    else_good (is_shared c.args.step.access) _ _ c.all_fit-else-is_shared.result (sym c.is_shared.ensures ∙ c.if-is_shared.false)
    (c.all_fit-else-is_shared.ensures ∙ ap (λ (p : ℕ). each (is_within 0 p c.args.width) c.args.addr) c.private.ensures)
