-- Which queue an instruction of a block uses.
use Rattle.std.proofs.Common.{◌≡◌, ℕ, ◌<◌, Bool, true, false, refl, arith}
use Rattle.std.specs.Prelude.{nat_le, Some}
use Rattle.std.proofs.lemmas.Bool.Decides.{nat_tests}
use Rattle.dae_base.specs.declared.Side.TheVariants.{A, E}
use Rattle.dae_base.specs.declared.Queue.TheVariants.{Ld, Al, Sd, Cq}
use Rattle.dae_base.specs.declared.Width.{Width}
use Rattle.dae_base.specs.declared.LoadKind.{LoadKind}
use Rattle.dae_encode.specs.declared.QueueUse.TheVariants.{Take, Push, Load, StoreAddress}
use Rattle.dae_encode.specs.declared.InstructionForm.TheVariants.{Computes, Loads, Stores}
use Rattle.dae_encode.specs.Uses.{queue_use}
use Rattle.dae_ir.specs.Programs.{side}
use Rattle.dae_ir.specs.Deeds.{told_on, heard_on}

pub low : (r : ℕ) → r < 28 → nat_le 28 r ≡ false
low r h = grind (arith, nat_tests)

pub takes_load : (copies : Bool) (t : ℕ) → t < 28 → queue_use copies E (Computes t 30 0) ≡ Some (Take Ld)
unfolding queue_use
takes_load copies t h = rw (low t h) refl

pub takes_own : (copies : Bool) (t : ℕ) → t < 28 → queue_use copies A (Computes t 31 0) ≡ Some (Take Al)
unfolding queue_use
takes_own copies t h = rw (low t h) refl

pub takes_copy : (t : ℕ) → t < 28 → queue_use true E (Computes t 28 0) ≡ Some (Take Cq)
unfolding queue_use
takes_copy t h = rw (low t h) refl

pub takes_message : (copies by_a : Bool) (t : ℕ) → t < 28 → queue_use copies (side by_a) (Computes t 29 0) ≡ Some (Take (heard_on by_a))
unfolding queue_use
takes_message copies true t h = rw (low t h) refl
takes_message copies false t h = rw (low t h) refl

-- the same where nothing is kept
pub hears_message : (copies by_a : Bool) → queue_use copies (side by_a) (Computes 0 29 0) ≡ Some (Take (heard_on by_a))
hears_message copies by_a = takes_message copies by_a 0 (omega arith)

pub pushes_datum : (copies : Bool) (x : ℕ) → x < 28 → queue_use copies E (Computes 30 x 0) ≡ Some (Push Sd)
unfolding queue_use
pushes_datum copies x h = rw (low x h) refl

pub pushes_copy : (x : ℕ) → x < 28 → queue_use true A (Computes 28 x 0) ≡ Some (Push Cq)
unfolding queue_use
pushes_copy x h = rw (low x h) refl

-- an instruction on two plain registers
pub pushes_flag : (copies by_a : Bool) (x y : ℕ) → x < 28 → y < 28 → queue_use copies (side by_a) (Computes 29 x y) ≡ Some (Push (told_on by_a))
unfolding queue_use
pushes_flag copies true x y h k = rw (low x h, low y k) refl
pushes_flag copies false x y h k = rw (low x h, low y k) refl

pub pushes_message : (copies by_a : Bool) (x : ℕ) → x < 28 → queue_use copies (side by_a) (Computes 29 x 0) ≡ Some (Push (told_on by_a))
pushes_message copies by_a x h = pushes_flag copies by_a x 0 h (omega arith)

pub issues : (copies : Bool) (kind : LoadKind) (base offset : ℕ) → base < 28 → queue_use copies A (Loads kind 30 base offset) ≡ Some (Load Ld kind)
unfolding queue_use
issues copies kind base offset h = rw (low base h) refl

pub issues_own : (copies : Bool) (kind : LoadKind) (base offset : ℕ) → base < 28 → queue_use copies A (Loads kind 31 base offset) ≡ Some (Load Al kind)
unfolding queue_use
issues_own copies kind base offset h = rw (low base h) refl

pub gives_address : (copies : Bool) (width : Width) (base offset : ℕ) → base < 28 → queue_use copies A (Stores width base 30 offset) ≡ Some (StoreAddress width)
unfolding queue_use
gives_address copies width base offset h = rw (low base h) refl

-- an instruction with two sources, one of which takes a word
pub takes_load_left : (copies : Bool) (t r : ℕ) → t < 28 → r < 28 → queue_use copies E (Computes t 30 r) ≡ Some (Take Ld)
unfolding queue_use
takes_load_left copies t r h k = rw (low t h, low r k) refl

pub takes_load_right : (copies : Bool) (t r : ℕ) → t < 28 → r < 28 → queue_use copies E (Computes t r 30) ≡ Some (Take Ld)
unfolding queue_use
takes_load_right copies t r h k = rw (low t h, low r k) refl

pub takes_copy_left : (t r : ℕ) → t < 28 → r < 28 → queue_use true E (Computes t 28 r) ≡ Some (Take Cq)
unfolding queue_use
takes_copy_left t r h k = rw (low t h, low r k) refl

pub takes_copy_right : (t r : ℕ) → t < 28 → r < 28 → queue_use true E (Computes t r 28) ≡ Some (Take Cq)
unfolding queue_use
takes_copy_right t r h k = rw (low t h, low r k) refl

-- and one whose target is the queue of store data
pub pushes_datum_of : (copies : Bool) (x y : ℕ) → x < 28 → y < 28 → queue_use copies E (Computes 30 x y) ≡ Some (Push Sd)
unfolding queue_use
pushes_datum_of copies x y h k = rw (low x h, low y k) refl
