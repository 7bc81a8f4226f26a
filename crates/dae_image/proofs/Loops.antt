-- Reading line marks and names one after the other, as loops do.
use Rattle.std.proofs.Common.{◌≡◌, ℕ, suc, ◌-◌, ◌+◌, ◌≤◌, ◌<◌, List, [], ◌∷◌, ◌++◌, Option, Some, Result, Ok, Err, refl, sym, ap, ◌∙◌, append_assoc, arith}
use Rattle.std.proofs.lemmas.List.{append-nil}
use Rattle.dae_image.specs.declared.LineMark.{LineMark}
use Rattle.dae_image.specs.declared.header.ImageHeader.{ImageHeader}
use Rattle.dae_image.specs.declared.fault.ImageError.{ImageError}
use Rattle.dae_image.specs.declared.fault.ImageError.TheVariants as errors
use Rattle.dae_image.specs.Reading.{◌>>=◌, Fails, line_at, lines_at, name_at, names_at}

-- what was read before, and what is still read
abbrev pub with_front : {A : Type 0} → List A → Result (List A × List ℕ) ImageError → Result (List A × List ℕ) ImageError
with_front front read = read >>= λ x. Ok (front ++ x.0, x.1)

regroup : {A : Type 0} (front : List A) (n : A) (read : Result (List A × List ℕ) ImageError) → with_front front (read >>= λ x. Ok (n ∷ x.0, x.1)) ≡ with_front (front ++ n ∷ []) read
regroup {A} front n (Ok x) = ap (λ (ns : List A). Ok (ns, x.1)) (simp append_assoc)
regroup front n (Err f) = refl

fails : {A : Type 0} (e : ImageError) (front : List A) (read : Result (List A × List ℕ) ImageError) → Fails e read → Fails e (with_front front read)
fails errors.Memory front read h = tt
fails (errors.Short n) front read h = rw h refl
fails (errors.BadField field n) front read h = rw h refl
fails (errors.Trailing n) front read h = rw h refl

fails_on : {A B : Type 0} (e : ImageError) (read : Result A ImageError) (f : A → Result B ImageError) → Fails e read → Fails e (read >>= f)
fails_on errors.Memory read f h = tt
fails_on (errors.Short n) read f h = rw h refl
fails_on (errors.BadField field n) read f h = rw h refl
fails_on (errors.Trailing n) read f h = rw h refl

-- ---- line marks

pub line_goes_on : (whole : ℕ) (h : ImageHeader) (last : Option LineMark) (front : List LineMark) (count i : ℕ) (bytes : List ℕ) (m : LineMark) (after : List ℕ) (total : Result (List LineMark × List ℕ) ImageError) → i < count → line_at whole h last bytes ≡ Ok (m, after)
    → with_front front (lines_at whole h last (count - i) bytes) ≡ total → with_front (front ++ m ∷ []) (lines_at whole h (Some m) (count - (i + 1)) after) ≡ total
unfolding lines_at
line_goes_on whole h last front count i bytes m after total lt e so_far =
    let k : count - i ≡ suc (count - (i + 1)) = omega arith in
    let one : with_front front (lines_at whole h last (count - i) bytes) ≡ with_front (front ++ m ∷ []) (lines_at whole h (Some m) (count - (i + 1)) after) = rw (k, e) (regroup front m (lines_at whole h (Some m) (count - (i + 1)) after)) in
    sym one ∙ so_far

pub line_ends : (e : ImageError) (whole : ℕ) (h : ImageHeader) (last : Option LineMark) (front : List LineMark) (count i : ℕ) (bytes : List ℕ) (total : Result (List LineMark × List ℕ) ImageError) → i < count → Fails e (line_at whole h last bytes)
    → with_front front (lines_at whole h last (count - i) bytes) ≡ total → Fails e total
unfolding lines_at
line_ends e whole h last front count i bytes total lt failed so_far =
    let k : count - i ≡ suc (count - (i + 1)) = omega arith in
    let one : Fails e (lines_at whole h last (suc (count - (i + 1))) bytes) = fails_on e (line_at whole h last bytes) _ failed in
    rw (← so_far, k) (fails e front (lines_at whole h last (suc (count - (i + 1))) bytes) one)

pub lines_are_done : (whole : ℕ) (h : ImageHeader) (last : Option LineMark) (front : List LineMark) (count i : ℕ) (bytes : List ℕ) (total : Result (List LineMark × List ℕ) ImageError) → count ≤ i → with_front front (lines_at whole h last (count - i) bytes) ≡ total → total ≡ Ok (front, bytes)
unfolding lines_at
lines_are_done whole h last front count i bytes total le so_far =
    let k : count - i ≡ 0 = omega arith in
    let one : with_front front (lines_at whole h last (count - i) bytes) ≡ Ok (front, bytes) = rw k (ap (λ (ms : List LineMark). Ok (ms, bytes)) (append-nil front)) in
    sym so_far ∙ one

-- ---- names

pub name_goes_on : (whole : ℕ) (front : List (List ℕ)) (count i : ℕ) (bytes : List ℕ) (n : List ℕ) (after : List ℕ) (total : Result (List (List ℕ) × List ℕ) ImageError) → i < count → name_at whole bytes ≡ Ok (n, after)
    → with_front front (names_at whole (count - i) bytes) ≡ total → with_front (front ++ n ∷ []) (names_at whole (count - (i + 1)) after) ≡ total
unfolding names_at
name_goes_on whole front count i bytes n after total lt e so_far =
    let k : count - i ≡ suc (count - (i + 1)) = omega arith in
    let one : with_front front (names_at whole (count - i) bytes) ≡ with_front (front ++ n ∷ []) (names_at whole (count - (i + 1)) after) = rw (k, e) (regroup front n (names_at whole (count - (i + 1)) after)) in
    sym one ∙ so_far

pub name_ends : (e : ImageError) (whole : ℕ) (front : List (List ℕ)) (count i : ℕ) (bytes : List ℕ) (total : Result (List (List ℕ) × List ℕ) ImageError) → i < count → Fails e (name_at whole bytes)
    → with_front front (names_at whole (count - i) bytes) ≡ total → Fails e total
unfolding names_at
name_ends e whole front count i bytes total lt failed so_far =
    let k : count - i ≡ suc (count - (i + 1)) = omega arith in
    let one : Fails e (names_at whole (suc (count - (i + 1))) bytes) = fails_on e (name_at whole bytes) _ failed in
    rw (← so_far, k) (fails e front (names_at whole (suc (count - (i + 1))) bytes) one)

pub names_are_done : (whole : ℕ) (front : List (List ℕ)) (count i : ℕ) (bytes : List ℕ) (total : Result (List (List ℕ) × List ℕ) ImageError) → count ≤ i → with_front front (names_at whole (count - i) bytes) ≡ total → total ≡ Ok (front, bytes)
unfolding names_at
names_are_done whole front count i bytes total le so_far =
    let k : count - i ≡ 0 = omega arith in
    let one : with_front front (names_at whole (count - i) bytes) ≡ Ok (front, bytes) = rw k (ap (λ (ns : List (List ℕ)). Ok (ns, bytes)) (append-nil front)) in
    sym so_far ∙ one
