-- A number that is read is the number that was written, and what was written is read again.
use Rattle.std.proofs.Common.{◌≡◌, ℕ, ◌+◌, ◌-◌, ◌%◌, ◌^◌, ◌<◌, ◌≤◌, Bool, true, false, cond, ltb, leb, eqb, ◌&&◌, List, ◌++◌, length, get_or, take, drop, Result, Ok, Err, refl, sym, ap, subst, ◌∙◌, append_assoc, arith, inl, inr}
use Rattle.std.specs.Int.{w32, from_le_bytes}
use Rattle.std.proofs.lemmas.Bool.{cases_lt, ltb-false, le-ltb, leb-true, eqb-true, le-leb, eq-eqb, and_parts, and_from}
use Rattle.std.proofs.lemmas.List.{take_at, drop_at, take-append-drop, length-append, length-take, get_or-drop, get_or-take, get_or_past}
use Rattle.std.proofs.lemmas.Nat.{le_bytes_4, from_le_bytes-to_le_bytes_4}
use Rattle.dae_image.specs.declared.fields.FieldRange.{FieldRange}
use Rattle.dae_image.specs.declared.fault.Field.{Field}
use Rattle.dae_image.specs.declared.fault.ImageError.{ImageError}
use Rattle.dae_image.specs.declared.fault.ImageError.TheVariants as errors
use Rattle.dae_image.specs.Ranges.{IsIn, is_in}
use Rattle.dae_image.specs.Spelling.{number}
use Rattle.dae_image.specs.Reading.{◌>>=◌, number_at, field_at}

abbrev pub IsBytes : List ℕ → Type 0
IsBytes bytes = (i : ℕ) → get_or bytes i 0 < 256

pub IsBytes-drop : (n : ℕ) (bytes : List ℕ) → IsBytes bytes → IsBytes (drop n bytes)
IsBytes-drop n bytes h i = rw get_or-drop (h (n + i))

pub IsBytes-take : (n : ℕ) (bytes : List ℕ) → IsBytes bytes → IsBytes (take n bytes)
IsBytes-take n bytes h i =
    elim (cases_lt i n) [
      | inl lt ↦ rw (get_or-take n bytes i 0 lt) (h i)
      | inr le ↦ rw (get_or_past (take n bytes) i 0 (omega (arith, length-take n bytes))) (omega arith)
    ]

-- the value of a step that did not fail
pub bind_ok : {A B : Type 0} (r : Result A ImageError) (f : A → Result B ImageError) (y : B) → (r >>= f) ≡ Ok y → (x : A) × (r ≡ Ok x) × (f x ≡ Ok y)
bind_ok (Ok x) f y e = (x, refl, e)
bind_ok (Err d) f y e = absurd cc

pub step : {A B : Type 0} {Q : Type 0} (r : Result A ImageError) (f : A → Result B ImageError) (y : B) → (r >>= f) ≡ Ok y → ((x : A) → r ≡ Ok x → f x ≡ Ok y → Q) → Q
step r f y e k = let b = bind_ok r f y e in k b.0 b.1 b.2

-- a test that did not fail
pub guard_ok : {A : Type 0} (b : Bool) (d : ImageError) (x y : A) → cond b (Err d) (Ok x) ≡ Ok y → (b ≡ false) × (x ≡ y)
guard_ok true d x y e = absurd cc
guard_ok false d x y e = (refl, cc)

pub holds_ok : {A : Type 0} (b : Bool) (d : ImageError) (x y : A) → cond b (Ok x) (Err d) ≡ Ok y → (b ≡ true) × (x ≡ y)
holds_ok true d x y e = (refl, cc)
holds_ok false d x y e = absurd cc

abbrev pub done : {A : Type 0} → A → Result A ImageError
done x = Ok x

pub ok_is : {A : Type 0} (x y : A) → done x ≡ done y → x ≡ y
ok_is x y e = cc

-- what a reader took from the front
pub record Takes (bytes text rest : List ℕ) : Type 0 where
  pub parts : bytes ≡ text ++ rest
  pub fits : IsBytes rest

pub Takes-then : (a x b y c : List ℕ) → Takes a x b → Takes b y c → Takes a (x ++ y) c
Takes-then a x b y c p q = record { parts = p.parts ∙ ap (λ (t : List ℕ). x ++ t) q.parts ∙ sym (append_assoc x y c); fits = q.fits }

-- ---- tests of ranges

pub IsIn-from_test : (r : FieldRange) (n : ℕ) → is_in r n ≡ true → IsIn r n
IsIn-from_test r n e =
    let a = and_parts (leb r.least n) (leb n r.most && eqb (n % r.step) 0) e in
    let b = and_parts (leb n r.most) (eqb (n % r.step) 0) a.1 in
    (leb-true r.least n a.0, leb-true n r.most b.0, eqb-true (n % r.step) 0 b.1)

pub test-from_IsIn : (r : FieldRange) (n : ℕ) → IsIn r n → is_in r n ≡ true
test-from_IsIn r n h = and_from (leb r.least n) (leb n r.most && eqb (n % r.step) 0) (le-leb r.least n h.0) (and_from (leb n r.most) (eqb (n % r.step) 0) (le-leb n r.most h.1) (eq-eqb (n % r.step) 0 h.2))

-- ---- numbers

pub number_takes : (whole : ℕ) (bytes : List ℕ) (n : ℕ) (rest : List ℕ) → IsBytes bytes → number_at whole bytes ≡ Ok (n, rest) → Takes bytes (number n) rest × (n < 2 ^ 32)
number_takes whole bytes n rest fits e =
    let g = guard_ok (ltb (length bytes) 4) (errors.Short whole) (from_le_bytes w32 (take 4 bytes), drop 4 bytes) (n, rest) e in
    let long : 4 ≤ length bytes = ltb-false _ _ g.0 in
    let n-is : from_le_bytes w32 (take 4 bytes) ≡ n = ap (λ (p : ℕ × List ℕ). p.0) g.1 in
    let rest-is : drop 4 bytes ≡ rest = ap (λ (p : ℕ × List ℕ). p.1) g.1 in
    let front-fits = IsBytes-take 4 bytes fits in
    let front : number n ≡ take 4 bytes = le_bytes_4 (take 4 bytes) n (omega (arith, length-take 4 bytes)) front-fits (sym n-is) in
    (record { parts = subst (λ (t : List ℕ). bytes ≡ t ++ rest) (sym front) (sym (take-append-drop 4 bytes) ∙ ap (λ (r : List ℕ). take 4 bytes ++ r) rest-is); fits = rw (← rest-is) (IsBytes-drop 4 bytes fits) }, rw (← n-is) (omega (arith, front-fits 0, front-fits 1, front-fits 2, front-fits 3)))

four_bytes_again : (whole : ℕ) (front rest : List ℕ) → length front ≡ 4 → number_at whole (front ++ rest) ≡ Ok (from_le_bytes w32 front, rest)
four_bytes_again whole front rest len =
    let long : ltb (length (front ++ rest)) 4 ≡ false = le-ltb _ _ (omega (arith, length-append front rest)) in
    rw (long, take_at front rest 4 len, drop_at front rest 4 len) refl

pub number_again : (whole n : ℕ) (rest : List ℕ) → n < 2 ^ 32 → number_at whole (number n ++ rest) ≡ Ok (n, rest)
number_again whole n rest lt = four_bytes_again whole (number n) rest refl ∙ ap (λ (k : ℕ). done (k, rest)) (from_le_bytes-to_le_bytes_4 n lt)

-- ---- fields

pub record FieldRead (range : FieldRange) (bytes : List ℕ) (n : ℕ) (rest : List ℕ) : Type 0 where
  pub takes : Takes bytes (number n) rest
  pub is_in : IsIn range n
  pub small : n < 2 ^ 32

pub field_takes : (whole : ℕ) (field : Field) (range : FieldRange) (bytes : List ℕ) (n : ℕ × List ℕ) → IsBytes bytes → field_at whole field range bytes ≡ Ok n → FieldRead range bytes n.0 n.1
unfolding field_at
field_takes whole field range bytes n fits e =
    let b = bind_ok (number_at whole bytes) _ n e in
    let g = holds_ok (is_in range b.0.0) (errors.BadField field (whole - length bytes)) b.0 n b.2 in
    let t = number_takes whole bytes b.0.0 b.0.1 fits b.1 in
    subst (λ (x : ℕ × List ℕ). FieldRead range bytes x.0 x.1) g.1 (record { takes = t.0; is_in = IsIn-from_test range b.0.0 g.0; small = t.1 })

pub field_again : (whole : ℕ) (field : Field) (range : FieldRange) (n : ℕ) (rest : List ℕ) → IsIn range n → range.most < 2 ^ 32 → field_at whole field range (number n ++ rest) ≡ Ok (n, rest)
unfolding field_at
field_again whole field range n rest h small = rw (number_again whole n rest (omega (arith, h)), test-from_IsIn range n h) refl
