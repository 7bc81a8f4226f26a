-- The accesses that the fields of an instruction ask for, and its one access. On the decoupled machine the registers from
-- x28 on stand for the ends of queues: an instruction is legal where at most one of its fields has such a register, and it
-- may stand there.
use Rattle.std.specs.Prelude.{ℕ, ◌-◌, Bool, true, false, nat_le, nat_lt, if◌then◌else◌, List, [], ◌∷◌, map, Option, Some, None}
use Rattle.std.specs.List.{filter}
use Rattle.dae_base.specs.declared.Side.{Side}
use Rattle.dae_base.specs.declared.Side.TheVariants.{A, E}
use Rattle.dae_base.specs.declared.Queue.TheVariants.{Ld, Al, Sd, Ab, Eb, Cq}
use Rattle.dae_base.specs.declared.Width.{Width}
use Rattle.dae_base.specs.declared.LoadKind.{LoadKind}
use Rattle.dae_encode.specs.declared.QueueUse.{QueueUse}
use Rattle.dae_encode.specs.declared.QueueUse.TheVariants.{Nothing, Take, Push, Load, StoreAddress}
use Rattle.dae_encode.specs.declared.InstructionForm.{InstructionForm}
use Rattle.dae_encode.specs.declared.InstructionForm.TheVariants.{Computes, Loads, Stores, Calls}
use Rattle.dae_encode.specs.Instructions.{row}

-- a register in a field of an instruction
pub data RegisterField : Type 0 where
  Target : (register : ℕ) → RegisterField
  LoadTarget : (kind : LoadKind) (register : ℕ) → RegisterField
  Source : (register : ℕ) → RegisterField
  Stored : (width : Width) (register : ℕ) → RegisterField

abbrev pub register : RegisterField → ℕ
register (Target r) = r
register (LoadTarget kind r) = r
register (Source r) = r
register (Stored width r) = r

abbrev pub register_fields : InstructionForm → List RegisterField
register_fields (Computes rd first second) = Target rd ∷ (Source first ∷ (Source second ∷ []))
register_fields (Loads kind rd base offset) = LoadTarget kind rd ∷ (Source base ∷ [])
register_fields (Stores width base source offset) = Source base ∷ (Stored width source ∷ [])
register_fields Calls = []

abbrev pub where_copies : Bool → QueueUse → Option QueueUse
where_copies copies use' = if copies then Some use' else None

-- what x28, x29, x30 and x31 ask for in a field: None where that register may not stand there
abbrev pub accesses_of : Bool → Side → RegisterField → List (Option QueueUse)
accesses_of copies A (Target r) = where_copies copies (Push Cq) ∷ (Some (Push Ab) ∷ (None ∷ (None ∷ [])))
accesses_of copies A (LoadTarget kind r) = where_copies copies (Push Cq) ∷ (Some (Push Ab) ∷ (Some (Load Ld kind) ∷ (Some (Load Al kind) ∷ [])))
accesses_of copies A (Source r) = None ∷ (Some (Take Eb) ∷ (None ∷ (Some (Take Al) ∷ [])))
accesses_of copies A (Stored width r) = None ∷ (Some (Take Eb) ∷ (Some (StoreAddress width) ∷ (Some (Take Al) ∷ [])))
accesses_of copies E (Target r) = None ∷ (Some (Push Eb) ∷ (Some (Push Sd) ∷ (None ∷ [])))
accesses_of copies E (LoadTarget kind r) = None ∷ (Some (Push Eb) ∷ (Some (Push Sd) ∷ (None ∷ [])))
accesses_of copies E (Source r) = where_copies copies (Take Cq) ∷ (Some (Take Ab) ∷ (Some (Take Ld) ∷ (None ∷ [])))
accesses_of copies E (Stored width r) = where_copies copies (Take Cq) ∷ (Some (Take Ab) ∷ (Some (Take Ld) ∷ (None ∷ [])))

abbrev pub access : Bool → Side → RegisterField → Option QueueUse
access copies side f = row (accesses_of copies side f) (register f - 28)

-- what the queue registers of an instruction ask for, in the order of its fields
abbrev pub accesses : Bool → Side → InstructionForm → List (Option QueueUse)
accesses copies side form = map (access copies side) (filter (λ f. nat_le 28 (register f)) (register_fields form))

-- the one access of these, or None where there are two or one is forbidden
abbrev pub sole : List (Option QueueUse) → Option QueueUse
sole [] = Some Nothing
sole (o ∷ []) = o
sole (o ∷ (p ∷ rest)) = None

-- the one queue access of an instruction, or None where it is illegal
unfoldable pub queue_use : Bool → Side → InstructionForm → Option QueueUse
queue_use copies side form = sole (accesses copies side form)

-- the access of one field, where a plain register makes none; and two fields make at most one
abbrev pub field_use : Bool → Side → RegisterField → Option QueueUse
field_use copies side f = if nat_lt (register f) 28 then Some Nothing else access copies side f

abbrev pub use_of_both : Option QueueUse → Option QueueUse → Option QueueUse
use_of_both (Some Nothing) y = y
use_of_both x (Some Nothing) = x
use_of_both x y = None

-- the accesses that each side has
abbrev pub belongs : Side → QueueUse → Bool
belongs side Nothing = true
belongs A (Load Ld kind) = true
belongs A (Load Al kind) = true
belongs A (Take Al) = true
belongs A (StoreAddress width) = true
belongs A (Push Ab) = true
belongs A (Push Cq) = true
belongs A (Take Eb) = true
belongs E (Take Ld) = true
belongs E (Push Sd) = true
belongs E (Take Ab) = true
belongs E (Take Cq) = true
belongs E (Push Eb) = true
belongs side use' = false
