-- How long the code of a stream is at most.
use Rattle.std.specs.Prelude.{ℕ, ◌+◌, List, [], ◌∷◌}
use Rattle.dae_ir.specs.Streams.{actions_of}
use Rattle.dae_ir.specs.declared.stream.Stream.{Stream}
use Rattle.dae_ir.specs.declared.stream.StreamFunction.{StreamFunction}
use Rattle.dae_select_blocks.specs.Sizes.{most_words_in}

-- of each function what its actions have, and 25 words for what it begins and ends with
abbrev pub most_of_functions : List StreamFunction → ℕ
most_of_functions [] = 0
most_of_functions (f ∷ fs) = most_words_in (actions_of f.body) + 25 + most_of_functions fs

abbrev pub most_words : Stream → ℕ
most_words stream = 8 + most_of_functions stream.functions
