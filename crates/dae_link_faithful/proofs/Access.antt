-- The queue of one instruction, by its registers.
use Rattle.std.proofs.Common.{◌≡◌, ℕ, ◌<◌, Bool, true, false, refl, ap, ◌∙◌, arith}
use Rattle.std.specs.Prelude.{Option, Some, None, option_and_then}
use Rattle.dae_base.specs.declared.Side.{Side}
use Rattle.dae_base.specs.declared.Side.TheVariants.{A, E}
use Rattle.dae_base.specs.declared.Queue.{Queue}
use Rattle.dae_base.specs.declared.Queue.TheVariants.{Ld, Al, Sa, Sd, Cq}
use Rattle.dae_base.specs.declared.Width.{Width}
use Rattle.dae_base.specs.declared.LoadKind.{LoadKind}
use Rattle.dae_encode.specs.declared.Inst.{Inst}
use Rattle.dae_encode.specs.declared.InstructionForm.{InstructionForm}
use Rattle.dae_encode.specs.declared.InstructionForm.TheVariants.{Computes, Loads, Stores, Calls}
use Rattle.dae_encode.specs.Instructions.{effect, form_of, form}
use Rattle.dae_encode.specs.Uses.{queue_use}
use Rattle.dae_ir.specs.Deeds.{told_on, heard_on}
use Rattle.dae_ir.specs.Programs.{side}
use Rattle.dae_select_blocks.proofs.LawsOfBlocks.{low}
use Rattle.dae_link_faithful.specs.Uses.{queue_of, queue_in}

-- an instruction of plain registers
abbrev pub IsPlain : InstructionForm → Type 0
IsPlain (Computes rd x y) = (rd < 28) × (x < 28) × (y < 28)
IsPlain (Loads kind rd base offset) = (rd < 28) × (base < 28)
IsPlain (Stores width base source offset) = (base < 28) × (source < 28)
IsPlain Calls = Unit {0}

-- the queue of a form
abbrev used : Side → InstructionForm → Option Queue
used s f = option_and_then queue_of (queue_use true s f)

by_form : (s : Side) (i : Inst) (f : InstructionForm) (o : Option Queue) → form_of (effect i) ≡ f → used s f ≡ o → queue_in s i ≡ o
unfolding queue_in form
by_form s i f o e h = ap (used s) e ∙ h

plain_form : (s : Side) (f : InstructionForm) → IsPlain f → used s f ≡ None
unfolding queue_use
plain_form s (Computes rd x y) h = rw (low rd h.0, low x h.1, low y h.2) refl
plain_form s (Loads kind rd base offset) h = rw (low rd h.0, low base h.1) refl
plain_form s (Stores width base source offset) h = rw (low base h.0, low source h.1) refl
plain_form s Calls h = refl

pub plain : (s : Side) (i : Inst) → IsPlain (form_of (effect i)) → queue_in s i ≡ None
plain s i h = by_form s i (form_of (effect i)) None refl (plain_form s (form_of (effect i)) h)

load_form : (kind : LoadKind) (base offset : ℕ) → base < 28 → used A (Loads kind 30 base offset) ≡ Some Ld
unfolding queue_use
load_form kind base offset h = rw (low base h) refl

own_form : (kind : LoadKind) (base offset : ℕ) → base < 28 → used A (Loads kind 31 base offset) ≡ Some Al
unfolding queue_use
own_form kind base offset h = rw (low base h) refl

address_form : (width : Width) (base offset : ℕ) → base < 28 → used A (Stores width base 30 offset) ≡ Some Sa
unfolding queue_use
address_form width base offset h = rw (low base h) refl

datum_form : (x : ℕ) → x < 28 → used E (Computes 30 x 0) ≡ Some Sd
unfolding queue_use
datum_form x h = rw (low x h) refl

copy_form : (x : ℕ) → x < 28 → used A (Computes 28 x 0) ≡ Some Cq
unfolding queue_use
copy_form x h = rw (low x h) refl

message_form : (by_a : Bool) (x y : ℕ) → x < 28 → y < 28 → used (side by_a) (Computes 29 x y) ≡ Some (told_on by_a)
unfolding queue_use
message_form true x y h k = rw (low x h, low y k) refl
message_form false x y h k = rw (low x h, low y k) refl

taken_load : (t : ℕ) → t < 28 → used E (Computes t 30 0) ≡ Some Ld
unfolding queue_use
taken_load t h = rw (low t h) refl

taken_own : (t : ℕ) → t < 28 → used A (Computes t 31 0) ≡ Some Al
unfolding queue_use
taken_own t h = rw (low t h) refl

taken_copy : (t : ℕ) → t < 28 → used E (Computes t 28 0) ≡ Some Cq
unfolding queue_use
taken_copy t h = rw (low t h) refl

taken_message : (by_a : Bool) (t : ℕ) → t < 28 → used (side by_a) (Computes t 29 0) ≡ Some (heard_on by_a)
unfolding queue_use
taken_message true t h = rw (low t h) refl
taken_message false t h = rw (low t h) refl

-- with another source
load_left : (t r : ℕ) → t < 28 → r < 28 → used E (Computes t 30 r) ≡ Some Ld
unfolding queue_use
load_left t r h k = rw (low t h, low r k) refl

load_right : (t r : ℕ) → t < 28 → r < 28 → used E (Computes t r 30) ≡ Some Ld
unfolding queue_use
load_right t r h k = rw (low t h, low r k) refl

copy_left : (t r : ℕ) → t < 28 → r < 28 → used E (Computes t 28 r) ≡ Some Cq
unfolding queue_use
copy_left t r h k = rw (low t h, low r k) refl

copy_right : (t r : ℕ) → t < 28 → r < 28 → used E (Computes t r 28) ≡ Some Cq
unfolding queue_use
copy_right t r h k = rw (low t h, low r k) refl

datum_of : (x y : ℕ) → x < 28 → y < 28 → used E (Computes 30 x y) ≡ Some Sd
unfolding queue_use
datum_of x y h k = rw (low x h, low y k) refl

-- ---- instructions

pub loads_for_e : (i : Inst) (kind : LoadKind) (base offset : ℕ) → form_of (effect i) ≡ Loads kind 30 base offset → base < 28 → queue_in A i ≡ Some Ld
loads_for_e i kind base offset e h = by_form A i (Loads kind 30 base offset) (Some Ld) e (load_form kind base offset h)

pub loads_own : (i : Inst) (kind : LoadKind) (base offset : ℕ) → form_of (effect i) ≡ Loads kind 31 base offset → base < 28 → queue_in A i ≡ Some Al
loads_own i kind base offset e h = by_form A i (Loads kind 31 base offset) (Some Al) e (own_form kind base offset h)

pub gives_address : (i : Inst) (width : Width) (base offset : ℕ) → form_of (effect i) ≡ Stores width base 30 offset → base < 28 → queue_in A i ≡ Some Sa
gives_address i width base offset e h = by_form A i (Stores width base 30 offset) (Some Sa) e (address_form width base offset h)

pub pushes_datum : (i : Inst) (x : ℕ) → form_of (effect i) ≡ Computes 30 x 0 → x < 28 → queue_in E i ≡ Some Sd
pushes_datum i x e h = by_form E i (Computes 30 x 0) (Some Sd) e (datum_form x h)

pub pushes_copy : (i : Inst) (x : ℕ) → form_of (effect i) ≡ Computes 28 x 0 → x < 28 → queue_in A i ≡ Some Cq
pushes_copy i x e h = by_form A i (Computes 28 x 0) (Some Cq) e (copy_form x h)

pub pushes_flag : (by_a : Bool) (i : Inst) (x y : ℕ) → form_of (effect i) ≡ Computes 29 x y → x < 28 → y < 28 → queue_in (side by_a) i ≡ Some (told_on by_a)
pushes_flag by_a i x y e h k = by_form (side by_a) i (Computes 29 x y) (Some (told_on by_a)) e (message_form by_a x y h k)

pub pushes_message : (by_a : Bool) (i : Inst) (x : ℕ) → form_of (effect i) ≡ Computes 29 x 0 → x < 28 → queue_in (side by_a) i ≡ Some (told_on by_a)
pushes_message by_a i x e h = pushes_flag by_a i x 0 e h (omega arith)

pub takes_load : (i : Inst) (t : ℕ) → form_of (effect i) ≡ Computes t 30 0 → t < 28 → queue_in E i ≡ Some Ld
takes_load i t e h = by_form E i (Computes t 30 0) (Some Ld) e (taken_load t h)

pub takes_own : (i : Inst) (t : ℕ) → form_of (effect i) ≡ Computes t 31 0 → t < 28 → queue_in A i ≡ Some Al
takes_own i t e h = by_form A i (Computes t 31 0) (Some Al) e (taken_own t h)

pub takes_copy : (i : Inst) (t : ℕ) → form_of (effect i) ≡ Computes t 28 0 → t < 28 → queue_in E i ≡ Some Cq
takes_copy i t e h = by_form E i (Computes t 28 0) (Some Cq) e (taken_copy t h)

pub takes_message : (by_a : Bool) (i : Inst) (t : ℕ) → form_of (effect i) ≡ Computes t 29 0 → t < 28 → queue_in (side by_a) i ≡ Some (heard_on by_a)
takes_message by_a i t e h = by_form (side by_a) i (Computes t 29 0) (Some (heard_on by_a)) e (taken_message by_a t h)

pub takes_load_left : (i : Inst) (t r : ℕ) → form_of (effect i) ≡ Computes t 30 r → t < 28 → r < 28 → queue_in E i ≡ Some Ld
takes_load_left i t r e h k = by_form E i (Computes t 30 r) (Some Ld) e (load_left t r h k)

pub takes_load_right : (i : Inst) (t r : ℕ) → form_of (effect i) ≡ Computes t r 30 → t < 28 → r < 28 → queue_in E i ≡ Some Ld
takes_load_right i t r e h k = by_form E i (Computes t r 30) (Some Ld) e (load_right t r h k)

pub takes_copy_left : (i : Inst) (t r : ℕ) → form_of (effect i) ≡ Computes t 28 r → t < 28 → r < 28 → queue_in E i ≡ Some Cq
takes_copy_left i t r e h k = by_form E i (Computes t 28 r) (Some Cq) e (copy_left t r h k)

pub takes_copy_right : (i : Inst) (t r : ℕ) → form_of (effect i) ≡ Computes t r 28 → t < 28 → r < 28 → queue_in E i ≡ Some Cq
takes_copy_right i t r e h k = by_form E i (Computes t r 28) (Some Cq) e (copy_right t r h k)

pub sends_datum : (i : Inst) (x y : ℕ) → form_of (effect i) ≡ Computes 30 x y → x < 28 → y < 28 → queue_in E i ≡ Some Sd
sends_datum i x y e h k = by_form E i (Computes 30 x y) (Some Sd) e (datum_of x y h k)
