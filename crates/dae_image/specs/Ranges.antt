-- The range of each number of an image.
use Rattle.std.specs.Prelude.{◌≡◌, ℕ, ◌+◌, ◌-◌, ◌/◌, ◌%◌, ◌≤◌, Bool, ◌&&◌, nat_le, nat_eq}
use Rattle.dae_image.specs.declared.fields.FieldRange.{FieldRange}

abbrev pub IsIn : FieldRange → ℕ → Type 0
IsIn r n = (r.least ≤ n) × (n ≤ r.most) × (n % r.step ≡ 0)

-- the same as a test
abbrev pub is_in : FieldRange → ℕ → Bool
is_in r n = nat_le r.least n && (nat_le n r.most && nat_eq (n % r.step) 0)

-- the letters DAE1, as bytes from the lowest on
abbrev pub magic : ℕ
magic = 0x31454144

abbrev pub magic_range : FieldRange
magic_range = record { least = magic; most = magic; step = 1 }

abbrev pub version_range : FieldRange
version_range = record { least = 1; most = 2; step = 1 }

-- how many items a queue has to hold
abbrev pub depth_range : FieldRange
depth_range = record { least = 0; most = 4096; step = 1 }

-- the bytes of common memory
abbrev pub memory_range : FieldRange
memory_range = record { least = 64; most = 67108864; step = 16 }

-- how deep calls may nest
abbrev pub calls_range : FieldRange
calls_range = record { least = 1; most = 4096; step = 1 }

-- the bytes of a private memory
abbrev pub private_range : FieldRange
private_range = record { least = 0; most = 1073741824; step = 4 }

-- the address of the first instruction
abbrev pub entry_range : FieldRange
entry_range = record { least = 0; most = 134217724; step = 4 }

-- the words of a code, which holds the word at the entry
abbrev pub words_range : ℕ → FieldRange
words_range entry = record { least = entry / 4 + 1; most = 33554432; step = 1 }

-- the bytes of data, which begin at address 16 of the memory
abbrev pub content_range : ℕ → FieldRange
content_range memory = record { least = 0; most = memory - 16; step = 1 }

abbrev pub line_count_range : FieldRange
line_count_range = record { least = 0; most = 262144; step = 1 }

abbrev pub name_count_range : FieldRange
name_count_range = record { least = 0; most = 1024; step = 1 }

-- the bytes of a name
abbrev pub name_range : FieldRange
name_range = record { least = 1; most = 4096; step = 1 }
