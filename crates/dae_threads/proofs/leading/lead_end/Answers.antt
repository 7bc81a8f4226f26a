use Rattle.dae_threads.proofs.Walked.{led_end}
use Rattle.dae_threads.proofs.leading.lead_end.Goals as goal

pub returns : goal.returns
returns c =
    led_end c.args.variable c.args.number c.args.place c.args.yes.now c.args.no.now c.new-statements.result.items c.push.new.self.items c.copy_list_for.new.out.items c.firsts_at.result c.seconds_at.result
    c.new-statements.ensures.items c.in_ok-push.ensures.items c.in_ok-copy_list_for.ensures c.firsts_at.ensures c.seconds_at.ensures
