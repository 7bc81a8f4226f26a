-- Words of 32 bits, and words in memory as little-endian bytes. A word is a number below 2 ^ 32, and arithmetic on words
-- is modulo 2 ^ 32 (RISC-V unprivileged manual, "RV32I Base Integer Instruction Set"; its memory is little-endian).
use Rattle.std.specs.Prelude.{ℕ, zero, suc, ◌+◌, ◌-◌, ◌*◌, ◌/◌, ◌%◌, ◌^◌, ℤ, Bool, ◌&&◌, nat_lt, if◌then◌else◌, List, [], ◌∷◌, slice_index, slice_set, ◌<◌}
use Rattle.std.specs.Int.{w32, cast_signed, cast_unsigned}
use Rattle.std.specs.List.{AllByRecursion}
use Rattle.dae_base.specs.declared.Width.{Width}
use Rattle.dae_base.specs.declared.Width.TheVariants.{B1, B2, B4}
use Rattle.dae_base.specs.declared.LoadKind.{LoadKind}
use Rattle.dae_base.specs.declared.LoadKind.TheVariants.{I8, U8, I16, U16, I32}

-- the word with the bits of a signed number, and the signed number with the bits of a word (two's complement)
abbrev pub word : ℤ → ℕ
word z = cast_unsigned w32 z

abbrev pub signed : ℕ → ℤ
signed w = cast_signed w32 w

abbrev pub plus : ℕ → ℕ → ℕ
plus x y = (x + y) % 2 ^ 32

abbrev pub minus : ℕ → ℕ → ℕ
minus x y = plus x (2 ^ 32 - y)

abbrev pub times : ℕ → ℕ → ℕ
times x y = (x * y) % 2 ^ 32

-- how many bytes an access moves
abbrev pub size : Width → ℕ
size B1 = 1
size B2 = 2
size B4 = 4

abbrev pub width_of : LoadKind → Width
width_of I8 = B1
width_of U8 = B1
width_of I16 = B2
width_of U16 = B2
width_of I32 = B4

-- the number of k low bits, with its top bit copied upwards
abbrev pub sign_extend : ℕ → ℕ → ℕ
sign_extend k w = if nat_lt w (2 ^ (k - 1)) then w else w + (2 ^ 32 - 2 ^ k)

-- what a load of this kind makes of the low bytes of a word
abbrev pub extended : LoadKind → ℕ → ℕ
extended I8 w = sign_extend 8 (w % 2 ^ 8)
extended U8 w = w % 2 ^ 8
extended I16 w = sign_extend 16 (w % 2 ^ 16)
extended U16 w = w % 2 ^ 16
extended I32 w = w

-- the bytes from an address on
abbrev pub bytes_at : ℕ → ℕ → List ℕ → List ℕ
bytes_at zero addr memory = []
bytes_at (suc count) addr memory = slice_index memory addr ∷ bytes_at count (addr + 1) memory

-- the number that little-endian bytes spell
abbrev pub from_bytes : List ℕ → ℕ
from_bytes [] = 0
from_bytes (b ∷ bs) = b + 256 * from_bytes bs

-- the low bytes of a word, lowest first
abbrev pub low_bytes : ℕ → ℕ → List ℕ
low_bytes zero w = []
low_bytes (suc count) w = w % 256 ∷ low_bytes count (w / 256)

-- the memory after these bytes are written from an address on
abbrev pub written : ℕ → List ℕ → List ℕ → List ℕ
written addr [] memory = memory
written addr (b ∷ bs) memory = written (addr + 1) bs (slice_set memory addr b)

-- the word that a load finds
abbrev pub loaded : LoadKind → ℕ → List ℕ → ℕ
loaded kind addr memory = extended kind (from_bytes (bytes_at (size (width_of kind)) addr memory))

-- the memory after a store
abbrev pub stored : Width → ℕ → ℕ → List ℕ → List ℕ
stored width addr w memory = written addr (low_bytes (size width) w) memory

-- two ranges share a byte
abbrev pub overlap : ℕ → Width → ℕ → Width → Bool
overlap x wx y wy = nat_lt x (y + size wy) && nat_lt y (x + size wx)

-- bytes are numbers below 256
abbrev pub AreBytes : List ℕ → Type 0
AreBytes xs = AllByRecursion (λ (x : ℕ). x < 256) xs
