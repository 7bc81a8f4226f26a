-- The bytes of an image. All numbers are of 32 bits, with the lowest byte first.
use Rattle.std.specs.Prelude.{◌≡◌, ℕ, List, [], ◌∷◌, ◌++◌, length, ◌⊎◌}
use Rattle.std.specs.List.{flat_map}
use Rattle.std.specs.Int.{w32, to_le_bytes}
use Rattle.dae_base.specs.declared.Side.{Side}
use Rattle.dae_base.specs.declared.Side.TheVariants.{A, E}
use Rattle.dae_base.specs.declared.Depths.{Depths}
use Rattle.dae_image.specs.declared.LineMark.{LineMark}
use Rattle.dae_image.specs.declared.header.ImageHeader.{ImageHeader}
use Rattle.dae_image.specs.Ranges.{magic}
use Rattle.dae_image.specs.Contents.{ImageContents, header}

abbrev pub number : ℕ → List ℕ
number n = to_le_bytes w32 n

abbrev pub numbers : List ℕ → List ℕ
numbers ns = flat_map number ns

-- the budget of all queues but that for copies
abbrev pub six_depths : Depths → List ℕ
six_depths d = d.ld ∷ d.al ∷ d.sa ∷ d.sd ∷ d.ab ∷ d.eb ∷ []

-- the fields behind the budget
abbrev pub sizes : ImageHeader → List ℕ
sizes h = h.memory ∷ h.calls ∷ h.private_a ∷ h.private_e ∷ h.entry_a ∷ h.entry_e ∷ h.words_a ∷ h.words_e ∷ h.content ∷ h.lines ∷ h.names ∷ []

-- version 2 tells the budget of the queue for copies, which version 1 does not have
abbrev pub head_1 : ImageHeader → List ℕ
head_1 h = magic ∷ 1 ∷ (six_depths h.budget ++ sizes h)

abbrev pub head_2 : ImageHeader → List ℕ
head_2 h = magic ∷ 2 ∷ (six_depths h.budget ++ h.budget.cq ∷ sizes h)

abbrev pub side_number : Side → ℕ
side_number A = 0
side_number E = 1

abbrev pub line : LineMark → List ℕ
line m = numbers (side_number m.side ∷ m.word ∷ m.file ∷ m.line ∷ [])

abbrev pub name : List ℕ → List ℕ
name bytes = number (length bytes) ++ bytes

-- both codes, the data, the marks and the names
abbrev pub body : ImageContents → List ℕ
body c = numbers c.code_a ++ (numbers c.code_e ++ (c.content ++ (flat_map line c.lines ++ flat_map name c.names)))

abbrev pub spelling_1 : ImageContents → List ℕ
spelling_1 c = numbers (head_1 (header c)) ++ body c

abbrev pub spelling_2 : ImageContents → List ℕ
spelling_2 c = numbers (head_2 (header c)) ++ body c

-- an image has one spelling of version 2; one that sends no copies has one of version 1 too
abbrev pub Spells : List ℕ → ImageContents → Type 0
Spells bytes c = (bytes ≡ spelling_2 c) ⊎ ((c.budget.cq ≡ 0) × (bytes ≡ spelling_1 c))
