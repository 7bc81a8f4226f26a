-- The line of a step: who moves, and what a reader of the trace can check of it.
use Rattle.std.specs.Prelude.{◌≡◌, ℕ, false, zero, suc, ◌/◌, ◌%◌, ◌<◌, ◌^◌, List, [], ◌∷◌, ◌++◌, Option, Some, None, codes, decimal, unwrap_or}
use Rattle.std.specs.Fmt.{digit_glyph}
use Rattle.dae_base.specs.declared.Side.{Side}
use Rattle.dae_base.specs.declared.Side.TheVariants.{A, E}
use Rattle.dae_base.specs.declared.Width.{Width}
use Rattle.dae_base.specs.Words.{size}
use Rattle.dae_queues.specs.declared.StoreAt.{StoreAt}
use Rattle.dae_machine.specs.declared.Pick.{Pick}
use Rattle.dae_machine.specs.declared.Pick.TheVariants.{A as MoveA, E as MoveE, Fill, Drain}
use Rattle.dae_machine.specs.Memory.{draining, filling}
use Rattle.dae_machine.specs.Machine.{State}

-- ---- the texts of a line's parts

-- so many lower-case hexadecimal digits of a number, its last ones
abbrev pub hex_digits : ℕ → ℕ → List ℕ
hex_digits zero w = []
hex_digits (suc k) w = hex_digits k (w / 16) ++ digit_glyph false (w % 16) ∷ []

-- a word or an address: eight of them
unfoldable pub word_text : ℕ → List ℕ
word_text w = hex_digits 8 w

abbrev pub side_text : Side → List ℕ
side_text A = codes "A"
side_text E = codes "E"

-- ---- the four kinds of lines

abbrev pub step_line : Side → ℕ → List ℕ
step_line side counter = side_text side ++ (codes " " ++ (word_text counter ++ codes "\n"))

abbrev pub fill_line : Side → ℕ → ℕ → List ℕ
fill_line side number value =
    codes "F " ++ (side_text side ++ (codes " "
    ++ (decimal number ++ (codes " " ++ (word_text value ++ codes "\n")))))

abbrev pub drain_line : ℕ → Width → ℕ → List ℕ
drain_line addr width datum =
    codes "D " ++ (word_text addr ++ (codes " "
    ++ (decimal (size width) ++ (codes " " ++ (word_text datum ++ codes "\n")))))

abbrev pub line_of_drain : Option (StoreAt × ℕ) → List ℕ
line_of_drain None = []
line_of_drain (Some n) = drain_line n.0.addr n.0.width n.1

-- the line of an enabled pick: the counter before the step; the word that fills; the store that is drained, with its datum
abbrev pub line : State → Pick → List ℕ
line s MoveA = step_line A s.a.counter
line s MoveE = step_line E s.e.counter
line s (Fill side number) =
    fill_line side number (unwrap_or (filling side number s.queues s.memory) 0)
line s Drain = line_of_drain (draining s.queues)

-- ---- what a line names

-- the bytes are the line of some step by this pick. A slot's number is below 2^40; eight digits are those of some word
abbrev pub Names : List ℕ → Pick → Type 0
Names bytes MoveA = (counter : ℕ) × (bytes ≡ step_line A counter)
Names bytes MoveE = (counter : ℕ) × (bytes ≡ step_line E counter)
Names bytes (Fill side number) =
    (value : ℕ) × (number < 2 ^ 40) × (bytes ≡ fill_line side number value)
Names bytes Drain =
    (addr : ℕ) × (width : Width) × (datum : ℕ) × (bytes ≡ drain_line addr width datum)
