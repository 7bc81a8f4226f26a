use Rattle.std.proofs.Common.{◌≡◌, ◌-◌}
use Rattle.dae_ir.specs.Form.{form_of}
use Rattle.dae_lower.specs.Lowering.{zeros_at, ◌⨾◌}
use Rattle.dae_lower_programs.proofs.initialising.push_zeros.Given as goal

-- what is there, and the zeros that are left, are what was there and all of them
abbrev pub invariant-loop : goal.invariant-loop
invariant-loop l = (form_of l.block.items ⨾ zeros_at l.place l.address (l.count - l.counter)) ≡ (form_of l.initial.block.items ⨾ zeros_at l.place l.address l.count)
