use Rattle.std.proofs.Common.{ap, sym, ◌∙◌}
use Rattle.dae_tree.specs.Operators.{reach}
use Rattle.dae_parse_parts.proofs.Reaching.{assignment_reaches, member_reaches, step_reaches}
use Rattle.dae_parse_parts.proofs.operators.reach.Goals as goal

pub returns-in-Member : goal.returns-in-Member
returns-in-Member c = member_reaches c.in-Member.field-0 ∙ sym (ap reach c.in-Member.is)

pub returns-in-Step : goal.returns-in-Step
returns-in-Step c = step_reaches c.in-Step.field-0 ∙ sym (ap reach c.in-Step.is)

pub returns-in-Binary : goal.returns-in-Binary
returns-in-Binary c = c.strength.ensures ∙ sym (ap reach c.in-Binary.is)

pub returns-in-Assignment : goal.returns-in-Assignment
returns-in-Assignment c = assignment_reaches c.in-Assignment.field-0 ∙ sym (ap reach c.in-Assignment.is)
