-- Ranges that stay proper: words, which step up.
use Rattle.std.proofs.Common.{◌≡◌, ℕ, ◌+◌, ◌-◌, ◌*◌, ◌/◌, ◌%◌, ◌^◌, ◌<◌, ◌≤◌, Bool, true, false, refl, sym, ◌∙◌, subst, arith}
use Rattle.std.specs.Prelude.{Option, Some, None, IfSome, nat_lt, nat_le, unwrap_or, replicate, if◌then◌else◌}
use Rattle.std.proofs.lemmas.Bool.Decides.{nat_tests}
use Rattle.std.proofs.lemmas.Nat.{mul-le}
use Rattle.dae_base.specs.declared.LoadKind.{LoadKind}
use Rattle.dae_base.specs.declared.LoadKind.TheVariants.{I8, U8, I16, U16, I32}
use Rattle.dae_ranges.specs.declared.Range.{Range}
use Rattle.dae_ranges.specs.Ranges.{single, any_word, highest, raised, lowered, shifted, scaled, loaded_range}
use Rattle.dae_guard.specs.Kept.{AreProper, IsProper}
use Rattle.std.proofs.lemmas.List.{get_or-replicate, length-replicate}

pub proper_single : (n : ℕ) → n < 2 ^ 32 → IsProper (single n)
proper_single n h = record { steps = omega arith; words = omega arith }

pub proper_any : IsProper any_word
proper_any = record { steps = omega arith; words = omega arith }

pub proper_zero : IsProper (single 0)
proper_zero = proper_single 0 (omega arith)

pub proper_replicate : (n : ℕ) (r : Range) → IsProper r → AreProper (replicate n r)
proper_replicate n r h k d l = subst IsProper (sym (get_or-replicate n k r d (omega (arith, length-replicate n r)))) h

pub proper_raised : (n : ℕ) (r : Range) → IsProper r → IfSome (raised n r) IsProper
proper_raised n r h = by (nat_lt (highest r + n) (2 ^ 32)) refl
  where
    by : (b : Bool) → nat_lt (highest r + n) (2 ^ 32) ≡ b → IfSome (if b then Some (record r { lo = r.lo + n }) else None) IsProper
    by false e = tt
    by true e = let l : highest r + n < 2 ^ 32 = grind (arith, nat_tests) in record { steps = h.steps; words = omega arith }

pub proper_lowered : (n : ℕ) (r : Range) → IsProper r → IfSome (lowered n r) IsProper
proper_lowered n r h = by (nat_le n r.lo) refl
  where
    by : (b : Bool) → nat_le n r.lo ≡ b → IfSome (if b then Some (record r { lo = r.lo - n }) else None) IsProper
    by false e = tt
    by true e = let w = h.words in record { steps = h.steps; words = omega arith }

pub proper_shifted : (n : ℕ) (r : Range) → IsProper r → IfSome (shifted n r) IsProper
proper_shifted n r h = by (nat_lt n (2 ^ 31))
  where
    by : (b : Bool) → IfSome (if b then raised n r else lowered (2 ^ 32 - n) r) IsProper
    by true = proper_raised n r h
    by false = proper_lowered (2 ^ 32 - n) r h

pub proper_scaled : (n : ℕ) (r : Range) → 0 < n → IsProper r → IfSome (scaled n r) IsProper
proper_scaled n r p h = by (nat_lt (highest r * n) (2 ^ 32)) refl
  where
    by : (b : Bool) → nat_lt (highest r * n) (2 ^ 32) ≡ b → IfSome (if b then Some (record { lo = r.lo * n; step = r.step * n; count = r.count }) else None) IsProper
    by false e = tt
    by true e =
        let l : highest r * n < 2 ^ 32 = grind (arith, nat_tests) in
        let s = h.steps in
        let same : r.lo * n + r.count * (r.step * n) ≡ highest r * n = grind arith in
        let some : 1 * 1 ≤ r.step * n = mul-le 1 1 r.step n s p in
        record { steps = omega arith; words = omega arith }

pub or_any : (o : Option Range) → IfSome o IsProper → IsProper (unwrap_or o any_word)
or_any None h = proper_any
or_any (Some r) h = h
