use Rattle.dae_accept.proofs.Seen.{last_files, next_files}
use Rattle.dae_accept.proofs.reading.parse_all.Goals as goal

pub loop-tokens-preserved : goal.loop-tokens-preserved
loop-tokens-preserved c =
    next_files c.args.readings.now c.loop-tokens.tokens-index c.tokens-item.result c.in-Ok.file c.loop-tokens.files.items c.push.new.self.items
    c.loop-tokens-test.true c.tokens-item.is c.loop-tokens.invariant c.in-Ok.ensures.answer c.in_ok-push-in-Ok.ensures.items

pub returns : goal.returns
returns c = last_files c.args.readings.now c.loop-tokens.tokens-index c.loop-tokens.files.items c.loop-tokens-test.false c.loop-tokens.invariant
