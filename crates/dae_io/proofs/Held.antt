-- A shelf in memory after one more text.
use Rattle.std.proofs.Common.{◌≡◌, ◌≢◌, ℕ, List, [], ◌∷◌, ◌++◌, true, false, refl, Some, string_bytes, sym}
use Rattle.std.specs.Str.{bytes_eq}
use Rattle.std.proofs.lemmas.List.{reverse-append}
use Rattle.std.proofs.lemmas.Slice.Eq.{bytes_eq-Decides}
use Rattle.dae_io.specs.declared.memory_shelf.HeldText.{HeldText}
use Rattle.dae_io.specs.Held.{last_text}

bytes_eq-same : (xs ys : List ℕ) → xs ≡ ys → bytes_eq xs ys ≡ true
bytes_eq-same xs ys e = (bytes_eq-Decides xs ys).1 e

bytes_eq-other : (xs ys : List ℕ) → ys ≢ xs → bytes_eq xs ys ≡ false
bytes_eq-other xs ys n =
    elim (bytes_eq xs ys) as (λ b. (b ≡ true → xs ≡ ys) → b ≡ false) [
      | true ↦ λ same. absurd (n (sym (same refl)))
      | false ↦ λ _. refl
    ] (bytes_eq-Decides xs ys).0

pub last_text-here : (texts : List HeldText) (held : HeldText) (name : List ℕ) → string_bytes held.name ≡ name → last_text (texts ++ held ∷ []) name ≡ Some held.text.items
last_text-here texts held name e = rw (reverse-append texts (held ∷ []), bytes_eq-same (string_bytes held.name) name e)

pub last_text-other : (texts : List HeldText) (held : HeldText) (name : List ℕ) → name ≢ string_bytes held.name → last_text (texts ++ held ∷ []) name ≡ last_text texts name
last_text-other texts held name n = rw (reverse-append texts (held ∷ []), bytes_eq-other (string_bytes held.name) name n)
