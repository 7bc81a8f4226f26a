use Rattle.std.proofs.Common.{◌≡◌, ◌-◌, ◌^◌, take}
use Rattle.std.specs.Prelude.{min}
use Rattle.dae_ir.specs.Form.{form_of}
use Rattle.dae_report.specs.Counting.{parts_of_form}
use Rattle.dae_report.proofs.fitting.+parts.Given as goal

abbrev pub invariant-parts_in_list-loop-statement : goal.invariant-parts_in_list-loop-statement
invariant-parts_in_list-loop-statement l = l.parts ≡ min (parts_of_form (form_of (take l.statement-index l.statements))) (2 ^ 64 - 1)
