-- Going along a function's parameters and local objects with where they are kept.
use Rattle.std.proofs.Common.{◌≡◌, ℕ, zero, suc, ◌+◌, ◌<◌, ◌≤◌, arith, List, [], ◌∷◌, ◌++◌, drop, length, max, refl, ap, sym, subst, ◌∙◌, append-nil}
use Rattle.std.proofs.Math.ListN.{get_or}
use Rattle.std.proofs.Math.Nat.{max-zero}
use Rattle.std.proofs.lemmas.List.{drop_more, drop_all}
use Rattle.dae_program.specs.declared.program.FrameSlot.{FrameSlot}
use Rattle.std.specs.Prelude.{Option}
use Rattle.dae_base.proofs.Laws.{append_further}
use Rattle.dae_types_kinds.specs.declared.tables.Local.{Local}
use Rattle.dae_types_kinds.specs.declared.tables.Storage.{Storage}
use Rattle.dae_types_kinds.specs.Tables.{Tables}
use Rattle.dae_types_typed.specs.Frames.{end_of, last_end, slot_of, slots_of}

-- one of each
both_further : {Y : Type 0} (F : List Local → List Storage → Y) (xs : List Local) (i : ℕ) (d : Local) (y : Storage) (rest others : List Storage) → i < length xs → rest ≡ y ∷ others → F (get_or xs i d ∷ drop (i + 1) xs) (y ∷ others) ≡ F (drop i xs) rest
both_further F xs i d y rest others h r = ap (λ zs. F zs (y ∷ others)) (sym (drop_more xs i d h)) ∙ ap (F (drop i xs)) (sym r)

-- ---- ends in the frame

max_behind : (a b c : ℕ) → max (max a b) c ≡ max a (max b c)
max_behind a b c = omega arith

last_without : (s : Tables) (xs : List Local) → last_end s xs [] ≡ 0
last_without s [] = refl
last_without s (x ∷ xs) = refl

pub last_done : (s : Tables) (xs : List Local) (rest : List Storage) (last total : ℕ) → rest ≡ [] → max last (last_end s xs rest) ≡ total → last ≡ total
last_done s xs rest last total r h = sym (ap (λ ys. max last (last_end s xs ys)) r ∙ ap (max last) (last_without s xs) ∙ max-zero last) ∙ h

pub last_further : (s : Tables) (xs : List Local) (i : ℕ) (d : Local) (y : Storage) (rest others : List Storage) (last e next total : ℕ) → i < length xs → rest ≡ y ∷ others → e ≡ end_of s (get_or xs i d) y → next ≡ max last e → max last (last_end s (drop i xs) rest) ≡ total → max next (last_end s (drop (i + 1) xs) others) ≡ total
last_further s xs i d y rest others last e next total h r is n t =
    rw (n, is) (max_behind last (end_of s (get_or xs i d) y) (last_end s (drop (i + 1) xs) others) ∙ both_further (λ zs ys. max last (last_end s zs ys)) xs i d y rest others h r ∙ t)

-- ---- slots

pub slots_without_locals : (s : Tables) (n : ℕ) (ys : List Storage) → slots_of s n [] ys ≡ []
slots_without_locals s zero ys = refl
slots_without_locals s (suc n) ys = refl

slots_without_storages : (s : Tables) (n : ℕ) (xs : List Local) → slots_of s n xs [] ≡ []
slots_without_storages s zero xs = refl
slots_without_storages s (suc n) [] = refl
slots_without_storages s (suc n) (x ∷ xs) = refl

-- none are left to be stored
pub slots_done : (s : Tables) (n : ℕ) (xs : List Local) (rest : List Storage) (done total : List (Option FrameSlot)) → rest ≡ [] → done ++ slots_of s n xs rest ≡ total → total ≡ done
slots_done s n xs rest done total r h = sym h ∙ ap (λ ys. done ++ slots_of s n xs ys) r ∙ ap (λ zs. done ++ zs) (slots_without_storages s n xs) ∙ append-nil done

pub slots_ended : (s : Tables) (n : ℕ) (xs : List Local) (i : ℕ) (rest : List Storage) (done total : List (Option FrameSlot)) → length xs ≤ i → done ++ slots_of s n (drop i xs) rest ≡ total → total ≡ done
slots_ended s n xs i rest done total l h = sym h ∙ ap (λ ys. done ++ slots_of s n ys rest) (drop_all i xs l) ∙ ap (λ zs. done ++ zs) (slots_without_locals s n rest) ∙ append-nil done

pub slots_further : (s : Tables) (left n : ℕ) (xs : List Local) (i : ℕ) (d : Local) (y : Storage) (rest others : List Storage) (done next total : List (Option FrameSlot)) (slot : Option FrameSlot) → i < length xs → left ≡ suc n → rest ≡ y ∷ others → slot ≡ slot_of s (get_or xs i d) y → next ≡ done ++ slot ∷ [] → done ++ slots_of s left (drop i xs) rest ≡ total → next ++ slots_of s n (drop (i + 1) xs) others ≡ total
slots_further s left n xs i d y rest others done next total slot h more r is e t =
    rw (e, is) (append_further done (slot_of s (get_or xs i d) y) (slots_of s n (drop (i + 1) xs) others) ∙ both_further (λ zs ys. done ++ slots_of s (suc n) zs ys) xs i d y rest others h r ∙ ap (λ k. done ++ slots_of s k (drop i xs) rest) (sym more) ∙ t)
