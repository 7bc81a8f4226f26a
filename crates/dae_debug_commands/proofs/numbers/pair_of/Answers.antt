use Rattle.std.proofs.Common.{arith}
use Rattle.dae_debug_commands.proofs.Spelled.{no_first, no_parts, no_second, one_pair}
use Rattle.dae_debug_commands.proofs.numbers.pair_of.Goals as goal

pub returns-in_err-first : goal.returns-in_err-first
returns-in_err-first c = rw c.from_residual.ensures (no_parts c.args.text.now c.args.most_first c.args.least c.args.most (omega arith) c.in_err-first.ensures.cases)

pub returns-in_err-first-2 : goal.returns-in_err-first-2
returns-in_err-first-2 c =
    rw c.from_residual-in_err-first-2.ensures
    (no_first c.args.text.now c.args.most_first c.args.least c.args.most (omega arith) (c.in_ok-first.first, c.in_ok-first.second)
    c.in_ok-first.ensures.cases c.in_err-first-2.ensures)

pub returns-in_err-second : goal.returns-in_err-second
returns-in_err-second c =
    rw c.from_residual-in_err-second.ensures
    (no_second c.args.text.now c.args.most_first c.args.least c.args.most (omega arith) (c.in_ok-first.first, c.in_ok-first.second)
    c.in_ok-first.ensures.cases c.in_err-second.ensures)

pub returns : goal.returns
returns c =
    one_pair c.args.text.now c.args.most_first c.args.least c.args.most (omega arith) (c.in_ok-first.first, c.in_ok-first.second)
    c.in_ok-first.ensures.cases c.in_ok-first-2.first c.in_ok-second.second c.in_ok-first-2.ensures c.in_ok-second.ensures
