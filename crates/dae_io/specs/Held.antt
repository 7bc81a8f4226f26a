-- The texts that a shelf in memory holds, and its room for one more.
use Rattle.std.specs.Prelude.{ℕ, ◌<◌, ◌≤◌, List, reverse, Option, IsSomeAnd, option_map, string_bytes, vec_len}
use Rattle.std.specs.List.{find}
use Rattle.std.specs.Str.{bytes_eq}
use Rattle.std.specs.String.{string_capacity}
use Rattle.std.specs.Vec.{vec_capacity}
use Rattle.dae_io.specs.declared.memory_shelf.HeldText.{HeldText}
use Rattle.dae_io.specs.declared.memory_shelf.MemShelf.{MemShelf}
use Rattle.dae_io.specs.Told.{TellsSameOfOthers}

-- the last text under a name
abbrev pub last_text : List HeldText → List ℕ → Option (List ℕ)
last_text texts name = option_map (λ held. held.text.items) (find (λ held. bytes_eq (string_bytes held.name) name) (reverse texts))

-- under every name but one the last text stays
abbrev pub KeepsOthers : List ℕ → List HeldText → List HeldText → Type 0
KeepsOthers name old new = TellsSameOfOthers name (last_text old) (last_text new)

-- a name and a text of so many bytes fit into this room
abbrev pub Fits : HeldText → ℕ → ℕ → Type 0
Fits room name text = (name ≤ string_capacity room.name) × (text ≤ vec_capacity room.text)

-- the shelf has room to keep a name and a text of so many bytes
abbrev pub HasRoom : MemShelf → ℕ → ℕ → Type 0
HasRoom shelf name text = IsSomeAnd shelf.room (λ room. Fits room name text) × (vec_len shelf.texts < vec_capacity shelf.texts)

-- whatever could be kept before can be kept after
abbrev pub KeepsRoom : MemShelf → MemShelf → Type 0
KeepsRoom old new = (name text : ℕ) → HasRoom old name text → HasRoom new name text
