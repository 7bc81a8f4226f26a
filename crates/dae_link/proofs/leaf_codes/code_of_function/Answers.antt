use Rattle.std.proofs.Common.{◌∙◌}
use Rattle.dae_ir.specs.Streams.{actions_of}
use Rattle.dae_select_calls.specs.Layouts.{plan_of, variables_of}
use Rattle.dae_link.proofs.Codes.{kept_code, copy_within}
use Rattle.dae_link.proofs.leaf_codes.code_of_function.Goals as goal

pub returns-in_ok-copy-in-Some-clause-code : goal.returns-in_ok-copy-in-Some-clause-code
returns-in_ok-copy-in-Some-clause-code c =
    let a = c.args in
    let has = kept_code (plan_of a.layouts.now) (variables_of a.layouts.now) a.function (actions_of a.body.now) a.kept.now _ c.requires.kept c.in-Some.is in
    c.in_ok-copy-in-Some.ensures.code ∙ has.code

pub returns-in_ok-copy-in-Some-clause-entry : goal.returns-in_ok-copy-in-Some-clause-entry
returns-in_ok-copy-in-Some-clause-entry c =
    let a = c.args in
    let has = kept_code (plan_of a.layouts.now) (variables_of a.layouts.now) a.function (actions_of a.body.now) a.kept.now _ c.requires.kept c.in-Some.is in
    c.in_ok-copy-in-Some.ensures.entry ∙ has.entry

pub returns-in_ok-copy-in-Some-clause-places : goal.returns-in_ok-copy-in-Some-clause-places
returns-in_ok-copy-in-Some-clause-places c =
    let a = c.args in
    let has = kept_code (plan_of a.layouts.now) (variables_of a.layouts.now) a.function (actions_of a.body.now) a.kept.now _ c.requires.kept c.in-Some.is in
    c.in_ok-copy-in-Some.ensures.places ∙ has.places

pub returns-in_ok-copy-in-Some-clause-within : goal.returns-in_ok-copy-in-Some-clause-within
returns-in_ok-copy-in-Some-clause-within c =
    let a = c.args in
    let has = kept_code (plan_of a.layouts.now) (variables_of a.layouts.now) a.function (actions_of a.body.now) a.kept.now _ c.requires.kept c.in-Some.is in
    copy_within _ _ _ _ c.in_ok-copy-in-Some.ensures.code c.in_ok-copy-in-Some.ensures.places has.within
