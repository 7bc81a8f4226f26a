-- How many variables a function has, where its parameters stand and how large its frame is, by where its parameters and
-- locals are kept: objects in the frame don't overlap, and the frame ends at a multiple of 4.
use Rattle.std.specs.Prelude.{ℕ, suc, ◌+◌, ◌*◌, ◌/◌, List, [], ◌∷◌, drop, max, Option, Some, None, Bool, true, false}
use Rattle.std.specs.List.{count_by}
use Rattle.dae_base.specs.Words.{width_of}
use Rattle.dae_program.specs.declared.program.FrameSlot.{FrameSlot}
use Rattle.dae_types_kinds.specs.declared.tables.Local.{Local}
use Rattle.dae_types_kinds.specs.declared.tables.Storage.{Storage}
use Rattle.dae_types_kinds.specs.declared.tables.Storage.TheVariants as storage
use Rattle.dae_types_kinds.specs.Tables.{Tables}
use Rattle.dae_types_kinds.specs.Types.{shape_of, layout_at, word_for}
use Rattle.dae_types_kinds.specs.Values.{load_kind}

abbrev pub is_variable : Storage → Bool
is_variable (storage.Variable v) = true
is_variable (storage.Frame offset) = false

-- variable 0 is the result; each parameter has one, also where it stands in the frame, and each other local that isn't there
abbrev pub variables_of : (parameters : ℕ) → List Storage → ℕ
variables_of parameters storages = word_for (suc parameters + count_by is_variable (drop parameters storages))

-- where a parameter is stored at the entry, if it is
abbrev pub slot_of : Tables → Local → Storage → Option FrameSlot
slot_of s x (storage.Variable v) = None
slot_of s x (storage.Frame offset) = Some (record { offset = offset; width = width_of (load_kind (shape_of s x.type_id)) })

abbrev pub slots_of : Tables → (parameters : ℕ) → List Local → List Storage → List (Option FrameSlot)
slots_of s (suc n) (x ∷ xs) (y ∷ ys) = slot_of s x y ∷ slots_of s n xs ys
slots_of s _ _ _ = []

-- where a local ends in the frame
abbrev pub end_of : Tables → Local → Storage → ℕ
end_of s x (storage.Variable v) = 0
end_of s x (storage.Frame offset) = offset + (let l = layout_at s x.type_id in l.size)

abbrev pub last_end : Tables → List Local → List Storage → ℕ
last_end s (x ∷ xs) (y ∷ ys) = max (end_of s x y) (last_end s xs ys)
last_end s _ _ = 0

abbrev pub frame_of : Tables → List Local → List Storage → ℕ
frame_of s locals storages = ((last_end s locals storages + 3) / 4) * 4
