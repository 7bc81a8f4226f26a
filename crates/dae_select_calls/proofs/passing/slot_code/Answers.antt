use Rattle.std.proofs.Common.{arith}
use Rattle.dae_select_calls.proofs.passing.slot_code.Goals as goal

pub store_code-requires : goal.store_code-requires
store_code-requires c =
    let words = c.requires.sound.small.words c.args.making.now.function in
    let variables = c.variables-words.ensures in
    let near = c.requires.near in
    omega arith
