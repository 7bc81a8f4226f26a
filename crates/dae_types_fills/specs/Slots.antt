-- Stacks of what is to be filled, in memory, as plain data. The next part of a stack in memory is its last one.
use Rattle.std.specs.Prelude.{ℕ, List, [], ◌∷◌, Option, Some, None, slice_get}
use Rattle.dae_types_kinds.specs.Tables.{Tables}
use Rattle.dae_types_file_plans.specs.Initialisers.{Unfilled, Once, Elements, Members, FillSlot, components_of, member_slot, slot}
use Rattle.dae_types_fills.specs.declared.slots.Unfilled.{Unfilled as RestInMemory}
use Rattle.dae_types_fills.specs.declared.slots.Unfilled.TheVariants as rests
use Rattle.dae_types_fills.specs.declared.slots.FillSlot.{FillSlot as SlotInMemory}
use Rattle.dae_types_fills.specs.declared.slots.Start.{Start}

abbrev pub view_rest : RestInMemory → Unfilled
view_rest (rests.Once o t) = Once o t
view_rest (rests.Elements o t n count) = Elements o t n count
view_rest (rests.Members o k n) = Members o k n

-- parts from the last one on, behind those of another stack
abbrev pub stacked : List RestInMemory → List Unfilled → List Unfilled
stacked [] rest = rest
stacked (x ∷ xs) rest = stacked xs (view_rest x ∷ rest)

abbrev pub view_stack : List RestInMemory → List Unfilled
view_stack xs = stacked xs []

abbrev pub view_slot : SlotInMemory → FillSlot
view_slot z = slot z.offset z.type_id (view_stack z.rest.items)

abbrev pub left_behind : Option RestInMemory → List Unfilled → List Unfilled
left_behind None rest = rest
left_behind (Some x) rest = view_rest x ∷ rest

-- the first object of a part that stands before a stack, or else what is next in that stack
abbrev pub slot_or : Option Start → List Unfilled → Option FillSlot → Option FillSlot
slot_or None rest behind = behind
slot_or (Some x) rest behind = Some (slot x.offset x.type_id (left_behind x.left rest))

-- the next member of a structure at an offset, of which so many are begun, or else what is next behind it
abbrev pub structure_slot : Tables → (offset structure begun : ℕ) → List Unfilled → Option FillSlot → Option FillSlot
structure_slot s o k n rest behind = member_slot o k n (slice_get (components_of s k) n) rest behind
