-- What is due for a text with a limit, by what its fetch gave.
use Rattle.std.proofs.Common.{◌≡◌, ◌⊎◌, inl, inr, ℕ, zero, suc, ◌+◌, ◌<◌, ◌≤◌, List, [], ◌∷◌, length, take, refl, ap, sym, ◌∙◌, subst, arith}
use Rattle.std.specs.Prelude.{Option, Some, None, IfSome}
use Rattle.dae_cli_drive.specs.Lines.{memory_line, read_line}
use Rattle.dae_cli_drive.specs.Puts.{Answer, told}
use Rattle.dae_cli_drive.specs.Shelves.{FailsToFetch, ShelfSeen}
use Rattle.dae_cli_drive.specs.TextFiles.{DueOfTextFile, due_not_got, due_long, due_memory_for_text, IsTextOfFile}

take_long : (n : ℕ) (xs : List ℕ) → n ≤ length xs → length (take n xs) ≡ n
take_long zero xs h = refl
take_long (suc n) [] h = absurd (omega arith)
take_long (suc n) (x ∷ xs) h = ap suc (take_long n xs (omega arith))

pub take_short : (n : ℕ) (xs : List ℕ) → length (take n xs) < n → take n xs ≡ xs
take_short zero xs h = absurd (omega arith)
take_short (suc n) [] h = refl
take_short (suc n) (x ∷ xs) h = ap (λ ys. x ∷ ys) (take_short n xs (omega arith))

pub take_least : (n : ℕ) (xs : List ℕ) → length (take n xs) ≤ length xs
take_least zero xs = omega arith
take_least (suc n) [] = omega arith
take_least (suc n) (x ∷ xs) = let h = take_least n xs in omega arith

-- a text that is shorter than was asked for is the whole text
pub whole_text : (held : Option (List ℕ)) (most : ℕ) (text : List ℕ) → IfSome held (λ t. text ≡ take most t) → length text < most → IfSome held (λ t. t ≡ text)
whole_text None most text h short = tt
whole_text (Some t) most text h short = sym (h ∙ take_short most t (omega (arith, ap length h)))

-- a text as long as was asked for is the front of one that is too long
pub longer_text : (held : Option (List ℕ)) (most : ℕ) (text : List ℕ) → IfSome held (λ t. text ≡ take (most + 1) t) → most < length text → (whole : List ℕ) × IfSome held (λ t. t ≡ whole) × (most < length whole)
longer_text None most text h long = (text, tt, long)
longer_text (Some t) most text h long = (t, refl, omega (arith, ap length h, take_least (most + 1) t))

pub text_is : {held : List ℕ → Option (List ℕ)} {name : List ℕ} (most : ℕ) (text : List ℕ) → IfSome (held name) (λ t. text ≡ take (most + 1) t) → length text ≤ most → IsTextOfFile held name most text
text_is {held} {name} most text h short = record { told = whole_text (held name) (most + 1) text h (omega arith); short = short }

-- ---- what is due for a stop

pub text_not_got : {name long : List ℕ} {most : ℕ} {s : ShelfSeen} {DueOf : List ℕ → Answer → Type 0} {x : Answer} → (x ≡ told 7 memory_line) ⊎ ((x ≡ told 5 (read_line name)) × FailsToFetch s name) → DueOfTextFile name most long s DueOf x
text_not_got {name} {long} {most} {s} {DueOf} (inl e) = subst (λ (a : Answer). DueOfTextFile name most long s DueOf a) (sym e) due_memory_for_text
text_not_got {name} {long} {most} {s} {DueOf} (inr f) = subst (λ (a : Answer). DueOfTextFile name most long s DueOf a) (sym f.0) (due_not_got f.1)

pub text_too_long : {name long : List ℕ} {most : ℕ} {s : ShelfSeen} {DueOf : List ℕ → Answer → Type 0} {x : Answer} (text : List ℕ) → IfSome (s.told name) (λ t. text ≡ take (most + 1) t) → most < length text → (x ≡ told 2 long) ⊎ (x ≡ told 7 memory_line) → DueOfTextFile name most long s DueOf x
text_too_long {name} {long} {most} {s} {DueOf} text h more (inl e) =
    let whole = longer_text (s.told name) most text h more in
    subst (λ (a : Answer). DueOfTextFile name most long s DueOf a) (sym e) (due_long whole.0 whole.1 whole.2)
text_too_long {name} {long} {most} {s} {DueOf} text h more (inr e) = subst (λ (a : Answer). DueOfTextFile name most long s DueOf a) (sym e) due_memory_for_text
