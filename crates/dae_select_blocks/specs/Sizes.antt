-- How long the code of actions is at most, and which code is short.
use Rattle.std.specs.Prelude.{ℕ, ◌+◌, ◌*◌, ◌^◌, Bool, nat_lt}
use Rattle.dae_ir.specs.Sizes.{tally, actions_size}
use Rattle.dae_ir.specs.Streams.{Actions}
use Rattle.dae_ir.specs.declared.stream.Action.{Action}
use Rattle.dae_ir.specs.declared.stream.Action.TheVariants.{Call}

abbrev pub one_call : Action → ℕ
one_call (Call v g xs) = 1
one_call action = 0

abbrev pub calls_in : Actions → ℕ
calls_in code = tally one_call (λ b. 0) code

-- 14 words a unit of size, and 42 more a call
abbrev pub most_words_in : Actions → ℕ
most_words_in code = 14 * actions_size code + 42 * calls_in code

-- a function whose code makes no call is a leaf
abbrev pub is_leaf : Actions → Bool
is_leaf code = nat_lt (calls_in code) 1

-- code so short that JAL reaches from anywhere in it to anywhere
abbrev pub is_short : Actions → Bool
is_short code = nat_lt (most_words_in code) (2 ^ 17)
