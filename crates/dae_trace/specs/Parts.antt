-- The parts of a line behind its letters, as they are read.
use Rattle.std.specs.Prelude.{◌≡◌, ◌⊎◌, ℕ, ◌<◌, ◌≤◌, ◌^◌, List, ◌++◌, codes, decimal}
use Rattle.dae_base.specs.declared.Width.{Width}
use Rattle.dae_base.specs.Words.{size}
use Rattle.dae_trace.specs.Lines.{word_text}

-- a lower-case hexadecimal digit
abbrev pub IsHex : ℕ → Type 0
IsHex b = ((48 ≤ b) × (b ≤ 57)) ⊎ ((97 ≤ b) × (b ≤ 102))

-- what stands behind the side of a fill: a slot's number below 2^40, and a word with its line feed
abbrev pub IsFilling : List ℕ → ℕ → Type 0
IsFilling rest number =
    (value : ℕ) × (number < 2 ^ 40)
    × (rest ≡ decimal number ++ (codes " " ++ (word_text value ++ codes "\n")))

-- a width between its blanks
abbrev pub IsWidth : List ℕ → Type 0
IsWidth text = (width : Width) × (text ≡ codes " " ++ (decimal (size width) ++ codes " "))

-- what stands behind the letter of a drain: an address, a width and a datum with its line feed
abbrev pub IsDrained : List ℕ → Type 0
IsDrained rest =
    (addr : ℕ) × (width : Width) × (datum : ℕ)
    × (rest ≡ word_text addr ++ (codes " " ++ (decimal (size width) ++ (codes " " ++ (word_text datum ++ codes "\n")))))
