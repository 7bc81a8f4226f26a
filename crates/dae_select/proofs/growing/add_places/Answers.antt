use Rattle.std.proofs.Common.{◌++◌, drop, map}
use Rattle.dae_select.specs.Grown.{advance}
use Rattle.dae_select.proofs.Words.{in_part}
use Rattle.dae_select.proofs.growing.add_places.Goals as goal

pub returns-in_err-push-clause-within : goal.returns-in_err-push-clause-within
returns-in_err-push-clause-within c = λ n all.
    let words = c.args.words in
    in_part n c.push.new.self.items (map (advance words) (drop c.loop-placed.placed-index c.args.more.now)) (c.args.places.now.items ++ map (advance words) c.args.more.now)
    (rw c.in_err-push.ensures.items c.loop-placed.invariant) all

pub returns-clause-within : goal.returns-clause-within
returns-clause-within c = λ n all.
    let words = c.args.words in
    in_part n c.loop-placed.places.items (map (advance words) (drop c.loop-placed.placed-index c.args.more.now)) (c.args.places.now.items ++ map (advance words) c.args.more.now)
    c.loop-placed.invariant all
