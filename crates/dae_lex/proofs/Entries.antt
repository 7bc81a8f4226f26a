-- Entries by the numbers of their names, as frames of replacements, as macros and as names.
use Rattle.std.proofs.Common.{◌≡◌, ℕ, ◌+◌, ◌≤◌, subst, Bool, true, false, not, ◌||◌, cond, List, [], ◌∷◌, ◌++◌, map, length, refl, ap, sym, ◌∙◌, Option, Some, is_some, option_map, if◌then◌else◌, nat_eq, arith}
use Rattle.std.specs.Borrow.{Bor}
use Rattle.std.specs.List.{list_any, position_or_len, AllByRecursion}
use Rattle.std.specs.Map.{lookup, keys_of, values_of}
use Rattle.std.specs.Str.{bytes_eq}
use Rattle.indexmap.specs.IndexMap.{insert_entry}
use Rattle.indexmap.specs.IndexSet.{insert_key}
use Rattle.std.proofs.lemmas.Slice.Eq.{bytes_eq-Decides}
use Rattle.dae_base.proofs.Laws.{choose_mapped, any_mapped, now_of, same_key}
use Rattle.dae_tree.specs.Pieces.{Cut}
use Rattle.dae_tree.specs.Replacing.{Definition, body_of}
use Rattle.dae_lex.specs.declared.numbers.WordNumbers.{WordNumbers}
use Rattle.dae_lex.specs.Numbers.{IsName}
use Rattle.dae_lex.specs.Pending.{PendingReplacement, names_of}
use Rattle.dae_lex.proofs.Positions.{same_word, with_word}

module _ {V : Type 0} (w : WordNumbers) (name : V → List ℕ) where
  abbrev pub AreByName : List (ℕ × V) → Type 0
  AreByName es = AllByRecursion (λ e. IsName w e.0 (name e.1)) es

  module _ (pieces : V → List Cut) (n : ℕ) (word : List ℕ) (is : IsName w n word) where
    abbrev pub framed : ℕ × V → PendingReplacement
    framed e = record { name = name e.1; rest = pieces e.1 }

    abbrev pub defined : ℕ × V → Definition
    defined e = record { name = name e.1; body = pieces e.1 }

    either : (b x : Bool) (v : V) (o : Option V) → x ≡ is_some o → (b || x) ≡ is_some (cond b (Some v) o)
    either true x v o h = refl
    either false x v o h = h

    pub any_named : (es : List (ℕ × V)) → AreByName es → list_any (bytes_eq word) (names_of (map framed es)) ≡ is_some (lookup (nat_eq n) es)
    any_named [] h = refl
    any_named (e ∷ es) h =
        ap (λ b. b || list_any (bytes_eq word) (names_of (map framed es))) (sym (same_word w n e.0 word (name e.1) is h.0))
        ∙ either (nat_eq n e.0) (list_any (bytes_eq word) (names_of (map framed es))) e.1 (lookup (nat_eq n) es) (any_named es h.1)

    first : (b : Bool) (v : V) (o : Option V) (rest : Option (List Cut)) → option_map pieces o ≡ rest
        → option_map pieces (cond b (Some v) o) ≡ cond b (Some (pieces v)) rest
    first true v o rest h = refl
    first false v o rest h = h

    pub body_named : (es : List (ℕ × V)) → AreByName es → option_map pieces (lookup (nat_eq n) es) ≡ body_of (map defined es) word
    body_named [] h = refl
    body_named (e ∷ es) h =
        first (nat_eq n e.0) e.1 (lookup (nat_eq n) es) (body_of (map defined es) word) (body_named es h.1)
        ∙ ap (λ b. cond b (Some (pieces e.1)) (body_of (map defined es) word)) (same_word w n e.0 word (name e.1) is h.0)

-- names by their numbers, and one more
module _ (w : WordNumbers) (n : ℕ) (k : Bor (List ℕ)) (is : IsName w n k.now) where
  abbrev AreNames : List (ℕ × Bor (List ℕ)) → Type 0
  AreNames es = AreByName w (λ (v : Bor (List ℕ)). v.now) es

  abbrev names : List (ℕ × Bor (List ℕ)) → List (List ℕ)
  names es = map (λ e. e.1.now) es

  pub place_named : (es : List (ℕ × Bor (List ℕ))) → AreNames es → position_or_len (nat_eq n) (keys_of es) ≡ position_or_len (bytes_eq k.now) (names es)
  place_named [] h = refl
  place_named (e ∷ es) h =
      ap (λ b. cond (not b) (1 + position_or_len (nat_eq n) (keys_of es)) 0) (same_word w n e.0 k.now e.1.now is h.0)
      ∙ ap (λ i. cond (not (bytes_eq k.now e.1.now)) (1 + i) 0) (place_named es h.1)

  step_named : (e : ℕ × Bor (List ℕ)) (es : List (ℕ × Bor (List ℕ))) (b : Bool) → nat_eq n e.0 ≡ b → bytes_eq k.now e.1.now ≡ b
      → names (insert_entry nat_eq es n k) ≡ with_word (names es) k.now
      → names (if b then (e.0, k) ∷ es else e ∷ insert_entry nat_eq es n k) ≡ (if b || list_any (bytes_eq k.now) (names es) then e.1.now ∷ names es else (e.1.now ∷ names es) ++ k.now ∷ [])
  step_named e es true a d rest = ap (λ s. s ∷ names es) ((bytes_eq-Decides k.now e.1.now).0 d)
  step_named e es false a d rest = ap (λ ns. e.1.now ∷ ns) rest ∙ pushed (list_any (bytes_eq k.now) (names es))
    where
      pushed : (c : Bool) → e.1.now ∷ (if c then names es else names es ++ k.now ∷ []) ≡ (if c then e.1.now ∷ names es else e.1.now ∷ (names es ++ k.now ∷ []))
      pushed true = refl
      pushed false = refl

  pub names_named : (es : List (ℕ × Bor (List ℕ))) → AreNames es → names (insert_entry nat_eq es n k) ≡ with_word (names es) k.now
  names_named [] h = refl
  names_named (e ∷ es) h =
      let same = same_word w n e.0 k.now e.1.now is h.0 in
      step_named e es (nat_eq n e.0) refl (sym same) (names_named es h.1)
      ∙ ap (λ b. if b || list_any (bytes_eq k.now) (names es) then e.1.now ∷ names es else (e.1.now ∷ names es) ++ k.now ∷ []) same

  step_all : (e : ℕ × Bor (List ℕ)) (es : List (ℕ × Bor (List ℕ))) (b : Bool) → bytes_eq k.now e.1.now ≡ b → AreNames (e ∷ es) → AreNames (insert_entry nat_eq es n k)
      → AreNames (if b then (e.0, k) ∷ es else e ∷ insert_entry nat_eq es n k)
  step_all e es true d h rest = (subst (λ s. IsName w e.0 s) (sym ((bytes_eq-Decides k.now e.1.now).0 d)) h.0, h.1)
  step_all e es false d h rest = (h.0, rest)

  pub all_named : (es : List (ℕ × Bor (List ℕ))) → AreNames es → AreNames (insert_entry nat_eq es n k)
  all_named [] h = (is, tt)
  all_named (e ∷ es) h = step_all e es (nat_eq n e.0) (sym (same_word w n e.0 k.now e.1.now is h.0)) h (all_named es h.1)

-- one entry more at most
fits_step : {V : Type 0} (e : ℕ × V) (es new : List (ℕ × V)) (v : V) (b : Bool) → length new ≤ length es + 1 → length (if b then (e.0, v) ∷ es else e ∷ new) ≤ length es + 2
fits_step e es new v true h = omega arith
fits_step e es new v false h = omega arith

pub entries_fit : {V : Type 0} (n : ℕ) (v : V) (es : List (ℕ × V)) → length (insert_entry nat_eq es n v) ≤ length es + 1
entries_fit n v [] = omega arith
entries_fit n v (e ∷ es) = omega (arith, fits_step e es (insert_entry nat_eq es n v) v (nat_eq n e.0) (entries_fit n v es))

pub place_mapped : (name : List ℕ) (ks : List (Bor (List ℕ))) → position_or_len (λ k. bytes_eq name k.now) ks ≡ position_or_len (bytes_eq name) (now_of ks)
place_mapped name [] = refl
place_mapped name (k ∷ ks) = ap (λ n. cond (not (bytes_eq name k.now)) (1 + n) 0) (place_mapped name ks)

pub insert_mapped : (k : Bor (List ℕ)) (ks : List (Bor (List ℕ))) → now_of (insert_key same_key ks k) ≡ with_word (now_of ks) k.now
insert_mapped k ks =
    choose_mapped k ks (list_any (same_key k) ks)
    ∙ ap (λ b. if b then now_of ks else now_of ks ++ k.now ∷ []) (any_mapped k.now ks)

-- the values of a map of names
pub values_named : (es : List (ℕ × Bor (List ℕ))) → now_of (values_of es) ≡ map (λ e. e.1.now) es
values_named [] = refl
values_named (e ∷ es) = ap (λ ns. e.1.now ∷ ns) (values_named es)
