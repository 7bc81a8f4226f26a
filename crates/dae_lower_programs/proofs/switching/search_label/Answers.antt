use Rattle.dae_lower_programs.proofs.Searching.{label_asked}
use Rattle.dae_lower_programs.proofs.switching.search_label.Goals as goal

pub returns-in_ok-push-in-Some : goal.returns-in_ok-push-in-Some
returns-in_ok-push-in-Some c = λ rest. rw (c.in-Some.is) (label_asked c.args.block.now.items c.push.new.self.items c.in_ok-branch-in-Some.branch c.args.dispatch.place c.args.dispatch.value c.args.dispatch.arm c.args.number c.in-Some.label c.in_ok-push-in-Some.ensures.items c.in_ok-branch-in-Some.ensures rest)
