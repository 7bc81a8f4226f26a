-- How much larger a stream is than its form, and how many words its code has at most.
use Rattle.std.specs.Prelude.{ℕ, ◌+◌, ◌*◌, ◌≤◌, Bool, length}
use Rattle.dae_ir.specs.Code as code
use Rattle.dae_ir.specs.declared.form.Item.{Item}
use Rattle.dae_ir.specs.declared.form.Item.TheVariants as item
use Rattle.dae_ir.specs.declared.stream.Action.{Action}
use Rattle.dae_ir.specs.declared.stream.Action.TheVariants.{Call}
use Rattle.dae_ir.specs.Streams.{Actions}
use Rattle.dae_ir.specs.Form.{Form}
use Rattle.dae_ir.specs.Classes.{Classes}
use Rattle.dae_ir.specs.Streams.{stream_of}
use Rattle.dae_ir.specs.Sizes.{tally, form_size, actions_size}

-- a stream is at most twice as large
abbrev pub StreamsAreSmall : Type 0
StreamsAreSmall =
    (by_a : Bool) (of : ℕ → Classes) (c : Classes) (cap : ℕ) (code : Form) → actions_size (stream_of by_a of c cap code) ≤ 2 * form_size code

-- what code weighs: an item, a test and a loop 2 each, a call 3 more, and 2 more for each argument
abbrev pub item_burden : Item → ℕ
item_burden (item.Call v f xs) = 5 + 2 * length xs
item_burden x = 2

abbrev pub burden : Form → ℕ
burden code.Done = 0
burden (code.Do mark x k) = item_burden x + burden k
burden (code.If mark test p q k) = 2 + (burden p + (burden q + burden k))
burden (code.Loop mark body step k) = 2 + (burden body + (burden step + burden k))

abbrev pub one_call : Action → ℕ
one_call (Call v g xs) = 1
one_call action = 0

abbrev pub calls_in : Actions → ℕ
calls_in code = tally one_call (λ b. 0) code

-- 14 words a unit of size, and 42 more a call, as the code of a stream has at most
abbrev pub words_in : Actions → ℕ
words_in code = 14 * actions_size code + 42 * calls_in code

-- a stream has at most 14 words for what its form weighs
abbrev pub WordsAreBounded : Type 0
WordsAreBounded =
    (by_a : Bool) (of : ℕ → Classes) (c : Classes) (cap : ℕ) (code : Form) → words_in (stream_of by_a of c cap code) ≤ 14 * burden code
