use Rattle.std.proofs.Common.{List, ap, ◌∙◌}
use Rattle.dae_ir.specs.Streams.{actions_of}
use Rattle.dae_ir.specs.declared.stream.Step.{Step}
use Rattle.dae_elide.proofs.Paired.{first_in_if, first_in_loop, first_in_act}
use Rattle.dae_elide.proofs.likes.first_list.Goals as goal

pub returns-in-If : goal.returns-in-If
returns-in-If c =
    let i = c.in-If in
    ap (λ (l : List Step). actions_of l) c.as_slice.ensures.value ∙ first_in_if c.args.step.now i.field-0 i.field-1 i.first i.field-3 i.is

pub returns-in-Loop : goal.returns-in-Loop
returns-in-Loop c =
    let i = c.in-Loop in
    ap (λ (l : List Step). actions_of l) c.as_slice-in-Loop.ensures.value ∙ first_in_loop c.args.step.now i.field-0 i.first i.field-2 i.is

pub returns-in-Act : goal.returns-in-Act
returns-in-Act c = first_in_act c.args.step.now c.in-Act.field-0 c.in-Act.field-1 c.in-Act.is
