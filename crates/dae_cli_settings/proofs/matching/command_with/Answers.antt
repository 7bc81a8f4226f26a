use Rattle.std.proofs.Common.{◌≡◌, rules, arith}
use Rattle.std.proofs.lemmas.Result.{IfOk-weaker}
use Rattle.clap.specs.Walk.{rule_of}
use Rattle.dae_cli_settings.specs.Commands.{option_rule}
use Rattle.dae_cli_settings.proofs.Building.{all_added, files_is, one_more}
use Rattle.dae_cli_settings.proofs.matching.command_with.Goals as goal

pub loop-name-preserved : goal.loop-name-preserved
loop-name-preserved c =
    let rule_is : rule_of c.long.result ≡ option_rule c.new-in-loop-name.result.id.now = search rules in
    one_more c.args.names.now c.loop-name.name-index c.new-in-loop-name.result.id _ _ _ _ (omega arith) c.new-in-loop-name.ensures.id c.loop-name.invariant rule_is (c.in_ok-command.ensures.shape (search rules))

pub returns : goal.returns
returns c =
    IfOk-weaker c.arg-2.result _ _ (λ r h.
    all_added c.args.names.now c.loop-name.name-index _ _ _ (omega arith) c.loop-name.invariant
    (files_is c.new-2.result c.num_args.result c.new-2.ensures.rule c.num_args.ensures.0 c.num_args.ensures.1) (h.shape (search rules))) c.arg-2.ensures
