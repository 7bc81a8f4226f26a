use Rattle.dae_split.proofs.Functions.{scoped_calls}
use Rattle.dae_split.proofs.streams.stream.Goals as goal

pub split_functions-requires : goal.split_functions-requires
split_functions-requires c = scoped_calls c.args.ir.now _ c.as_slice.ensures c.requires
