-- Bytes stay bytes, and what loads find are words of their ranges.
use Rattle.std.proofs.Common.{ℕ, ◌+◌, ◌-◌, ◌%◌, ◌<◌, ◌^◌, Bool, true, false, List, arith}
use Rattle.std.specs.Prelude.{nat_lt, if◌then◌else◌}
use Rattle.dae_base.specs.declared.LoadKind.{LoadKind}
use Rattle.dae_base.specs.declared.LoadKind.TheVariants.{I8, U8, I16, U16, I32}
use Rattle.dae_base.specs.Words.{bytes_at, from_bytes, loaded, AreBytes}
use Rattle.dae_base.proofs.Laws.{byte_at}
use Rattle.dae_ranges.specs.Ranges.{Has, loaded_range}
use Rattle.dae_ranges.proofs.Laws.{has_any}

four : (a : ℕ) (xs : List ℕ) → AreBytes xs → from_bytes (bytes_at 4 a xs) < 2 ^ 32
four a xs h =
    let b0 = byte_at xs a h in let b1 = byte_at xs (a + 1) h in let b2 = byte_at xs (a + 1 + 1) h in let b3 = byte_at xs (a + 1 + 1 + 1) h in
    omega arith

extend_8 : (b : Bool) (w : ℕ) → w < 2 ^ 8 → (if b then w else w + (2 ^ 32 - 2 ^ 8)) < 2 ^ 32
extend_8 true w l = omega arith
extend_8 false w l = omega arith

extend_16 : (b : Bool) (w : ℕ) → w < 2 ^ 16 → (if b then w else w + (2 ^ 32 - 2 ^ 16)) < 2 ^ 32
extend_16 true w l = omega arith
extend_16 false w l = omega arith

pub loaded_has : (kind : LoadKind) (a : ℕ) (xs : List ℕ) → AreBytes xs → Has (loaded_range kind) (loaded kind a xs)
loaded_has I8 a xs h = let w = from_bytes (bytes_at 1 a xs) % 2 ^ 8 in has_any _ (extend_8 (nat_lt w (2 ^ 7)) w (omega arith))
loaded_has I16 a xs h = let w = from_bytes (bytes_at 2 a xs) % 2 ^ 16 in has_any _ (extend_16 (nat_lt w (2 ^ 15)) w (omega arith))
loaded_has I32 a xs h = has_any _ (four a xs h)
loaded_has U8 a xs h = record { at = loaded U8 a xs; fits = (omega arith); is = (omega arith); small = (omega arith) }
loaded_has U16 a xs h = record { at = loaded U16 a xs; fits = (omega arith); is = (omega arith); small = (omega arith) }
