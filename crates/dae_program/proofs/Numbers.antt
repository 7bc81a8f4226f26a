-- Tests of numbers, and what they must say of objects, so that these are placed.
use Rattle.std.proofs.Common.{◌≡◌, ℕ, zero, suc, ◌+◌, ◌%◌, ◌≤◌, arith}
use Rattle.dae_base.specs.Words.{plus, size}
use Rattle.dae_base.specs.declared.Width.{Width}
use Rattle.dae_base.specs.declared.Width.TheVariants.{B1, B2, B4}
use Rattle.dae_program.specs.Placed.{IsFrame, AreGood, IsInFrame}

pub plus_plus : (x y z : ℕ) → plus (plus x y) z ≡ plus x (plus y z)
plus_plus x y z = omega arith

pub plus_zero : (x y : ℕ) → plus x y ≡ plus x (plus y 0)
plus_zero x y = omega arith

sums_in_frame : (a offset s frame memory : ℕ) → memory ≤ 4294967296 → 1 ≤ s → offset + s ≤ frame → 16 ≤ a → a + frame ≤ memory → (16 ≤ plus a offset) × (plus a offset + s ≤ memory) × (plus a offset ≡ a + offset)
sums_in_frame a offset s frame memory small one h i j = (omega (arith, small, one, h, i, j), omega (arith, small, one, h, i, j), omega (arith, small, one, h, i, j))

-- in the frame, at a multiple of the width
pub in_frame_by_numbers : (memory frame : ℕ) (width : Width) (offset : ℕ) → memory ≤ 4294967296 → offset % size width ≡ 0 → offset + size width ≤ frame → IsInFrame memory frame width offset
in_frame_by_numbers memory frame B1 offset small even h a f = let d = sums_in_frame a offset 1 frame memory small (omega arith) h f.1 f.2 in (omega arith, d.0, d.1)
in_frame_by_numbers memory frame B2 offset small even h a f = let d = sums_in_frame a offset 2 frame memory small (omega arith) h f.1 f.2 in (omega (arith, even, f.0, d.2), d.0, d.1)
in_frame_by_numbers memory frame B4 offset small even h a f = let d = sums_in_frame a offset 4 frame memory small (omega arith) h f.1 f.2 in (omega (arith, even, f.0, d.2), d.0, d.1)

bytes_by_numbers : (memory count x : ℕ) → memory ≤ 4294967296 → 16 ≤ x → x + count ≤ memory → AreGood count x memory
bytes_by_numbers memory zero x small i j = tt
bytes_by_numbers memory (suc zero) x small i j = ((omega arith, i, omega (arith, j)), tt)
bytes_by_numbers memory (suc (suc count)) x small i j = ((omega arith, i, omega (arith, j)), bytes_by_numbers memory (suc count) (plus x 1) small (omega (arith, i, j, small)) (omega (arith, i, j, small)))

-- an aggregate that is initialised lies in the frame
pub aggregate_by_numbers : (memory frame count offset : ℕ) → memory ≤ 4294967296 → offset + count ≤ frame → (a : ℕ) → IsFrame memory frame a → AreGood count (plus a offset) memory
aggregate_by_numbers memory frame zero offset small h a f = tt
aggregate_by_numbers memory frame (suc count) offset small h a f = let d = sums_in_frame a offset (suc count) frame memory small (omega arith) h f.1 f.2 in bytes_by_numbers memory (suc count) (plus a offset) small d.0 d.1
