-- The test of words that set options.
use Rattle.std.proofs.Common.{◌≡◌, ◌≢◌, ℕ, suc, ◌+◌, ◌<◌, Bool, true, false, not, ◌&&◌, ◌||◌, cond, List, [], ◌∷◌, ◌++◌, length, get_or, drop, map, refl, sym, ap, ap₂, ◌∙◌, subst, arith, true≢false}
use Rattle.std.specs.Prelude.{Option, Some, None, ◌==◌, option_and_then, option_map}
use Rattle.std.specs.List.{list_all, list_any}
use Rattle.std.specs.Option.{option_map_or}
use Rattle.std.specs.Str.{bytes_eq}
use Rattle.std.proofs.lemmas.Bool.{and_parts, eqb-true, not-true}
use Rattle.std.proofs.lemmas.List.{at_drop_more}
use Rattle.std.specs.Borrow.{Bor}
use Rattle.std.specs.Str.Pattern.{FindsTextPrefix, StripsPrefix}
use Rattle.std.proofs.lemmas.Str.Pattern.{IsSplitOnceResult, split_parts}
use Rattle.clap.specs.Lexer.{has_byte, long_of_rest, strip_byte}
use Rattle.dae_cli_settings.specs.Settings.{AreSettings, OptionSetting, is_among, is_name, is_new_setting, name_in, sets, sets_name, text_of}
use Rattle.dae_cli_settings.proofs.Words.{parts_of}
use Rattle.dae_cli_settings.proofs.Walking.{named}

abbrev pub test : List (List ℕ) → List (List ℕ) → Bool
test names [] = true
test names (w ∷ ws) = is_new_setting names w ws && test names ws

-- ---- the name in a word

pub name_of : (name value : List ℕ) → has_byte 61 name ≡ false → name_in (45 ∷ 45 ∷ (name ++ 61 ∷ value)) ≡ Some name
name_of [] value h = refl
name_of (x ∷ xs) value h = ap (λ (p : List ℕ × Option (List ℕ)). option_map (λ v. p.0) p.1) (parts_of (x ∷ xs) value h)

abbrev IsCut : List ℕ → Type 0
IsCut text = (a : List ℕ) × (b : List ℕ) × (text ≡ a ++ 61 ∷ b) × (has_byte 61 a ≡ false)

cut : (text : List ℕ) → has_byte 61 text ≡ true → IsCut text
cut [] h = absurd (cc)
cut (x ∷ xs) h = by_first (x == 61) refl h (cut xs) where
  by_first : (t : Bool) → (x == 61) ≡ t → (t || has_byte 61 xs) ≡ true → (has_byte 61 xs ≡ true → IsCut xs) → IsCut (x ∷ xs)
  by_first true e k more = let same : x ≡ 61 = eqb-true x 61 e in ([], xs, ap (λ (y : ℕ). y ∷ xs) same, refl)
  by_first false e k more = let rest = more k in (x ∷ rest.0, rest.1, ap (λ ys. x ∷ ys) rest.2, rw e rest.3)

abbrev IsSet : List ℕ → List ℕ → Type 0
IsSet word n = (value : List ℕ) × (word ≡ 45 ∷ 45 ∷ (n ++ 61 ∷ value)) × (has_byte 61 n ≡ false)

no_name : (text : List ℕ) → has_byte 61 text ≡ false → name_in (45 ∷ 45 ∷ text) ≡ None
no_name [] h = refl
no_name (x ∷ xs) h = rw h refl

dashed_set : (text n : List ℕ) → name_in (45 ∷ 45 ∷ text) ≡ Some n → IsSet (45 ∷ 45 ∷ text) n
dashed_set text n h = by_test (has_byte 61 text) refl where
  by_test : (t : Bool) → has_byte 61 text ≡ t → IsSet (45 ∷ 45 ∷ text) n
  by_test true e =
      let c = cut text e in
      let is : name_in (45 ∷ 45 ∷ text) ≡ Some c.0 = ap (λ ys. name_in (45 ∷ 45 ∷ ys)) c.2 ∙ name_of c.0 c.1 c.3 in
      let same : c.0 ≡ n = cc (sym is ∙ h) in
      subst (λ (m : List ℕ). IsSet (45 ∷ 45 ∷ text) m) same (c.1, ap (λ ys. 45 ∷ 45 ∷ ys) c.2, c.3)
  by_test false e = let none = no_name text e in absurd (cc (sym none ∙ h))

abbrev name_with : Option (List ℕ × Option (List ℕ)) → Option (List ℕ)
name_with o = option_and_then (λ p. option_map (λ v. p.0) p.1) o

behind_dash : (rest n : List ℕ) → name_with (option_and_then long_of_rest (strip_byte 45 rest)) ≡ Some n → IsSet (45 ∷ rest) n
behind_dash [] n h = absurd (cc)
behind_dash (y ∷ text) n h = by_first (y == 45) refl h where
  by_first : (t : Bool) → (y == 45) ≡ t → name_with (option_and_then long_of_rest (cond t (Some text) None)) ≡ Some n → IsSet (45 ∷ y ∷ text) n
  by_first true e k =
      let same : y ≡ 45 = eqb-true y 45 e in
      subst (λ (z : ℕ). IsSet (45 ∷ z ∷ text) n) (sym same) (dashed_set text n k)
  by_first false e k = absurd (cc)

pub is_set : (word n : List ℕ) → name_in word ≡ Some n → IsSet word n
is_set [] n h = absurd (cc)
is_set (x ∷ rest) n h = by_first (x == 45) refl h where
  by_first : (t : Bool) → (x == 45) ≡ t → name_with (option_and_then long_of_rest (option_and_then (strip_byte 45) (cond t (Some rest) None))) ≡ Some n → IsSet (x ∷ rest) n
  by_first true e k =
      let same : x ≡ 45 = eqb-true x 45 e in
      subst (λ (z : ℕ). IsSet (z ∷ rest) n) (sym same) (behind_dash rest n k)
  by_first false e k = absurd (cc)

-- ---- the test

own_name : (names : List (List ℕ)) (s : OptionSetting) → list_all is_name names ≡ true → is_among names s.name ≡ true → name_in (text_of s) ≡ Some s.name
own_name names s ok among =
    let parts = and_parts (not (bytes_eq s.name [])) _ (named names s.name ok among) in
    name_of s.name s.value (not-true (has_byte 61 s.name) (and_parts (not (has_byte 61 s.name)) _ parts.1).0)

some_set : (names : List (List ℕ)) (ss : List OptionSetting) (n : List ℕ) → list_all is_name names ≡ true → AreSettings names ss → list_any (λ w. sets_name w n) (map text_of ss) ≡ sets ss n
some_set names [] n ok h = refl
some_set names (s ∷ ss) n ok h =
    let rest = some_set names ss n ok h.2 in
    rw (own_name names s ok h.0, rest) refl

pub passes : (names : List (List ℕ)) (ss : List OptionSetting) → list_all is_name names ≡ true → AreSettings names ss → test names (map text_of ss) ≡ true
passes names [] ok h = refl
passes names (s ∷ ss) ok h =
    let rest = passes names ss ok h.2 in
    let new : list_any (λ w. sets_name w s.name) (map text_of ss) ≡ false = some_set names ss s.name ok h.2 ∙ h.1 in
    rw (own_name names s ok h.0, h.0, new) rest

abbrev pub IsSettings : List (List ℕ) → List (List ℕ) → Type 0
IsSettings names words = (ss : List OptionSetting) × (words ≡ map text_of ss) × AreSettings names ss

pub set_by : (names words : List (List ℕ)) → list_all is_name names ≡ true → test names words ≡ true → IsSettings names words
set_by names [] ok h = ([], refl, tt)
set_by names (w ∷ ws) ok h = by_name (name_in w) refl parts.0 (set_by names ws ok parts.1) where
  parts : (is_new_setting names w ws ≡ true) × (test names ws ≡ true)
  parts = and_parts (is_new_setting names w ws) (test names ws) h

  by_name : (o : Option (List ℕ)) → name_in w ≡ o → option_map_or (λ n. is_among names n && not (list_any (λ v. sets_name v n) ws)) o false ≡ true → IsSettings names ws → IsSettings names (w ∷ ws)
  by_name None e k rest = absurd (cc)
  by_name (Some n) e k rest =
      let own = and_parts (is_among names n) (not (list_any (λ v. sets_name v n) ws)) k in
      let set = is_set w n e in
      let none : list_any (λ v. sets_name v n) ws ≡ false = not-true _ own.1 in
      let new : sets rest.0 n ≡ false = sym (some_set names rest.0 n ok rest.2) ∙ (sym (ap (λ vs. list_any (λ v. sets_name v n) vs) rest.1) ∙ none) in
      (record { name = n; value = set.0 } ∷ rest.0, ap₂ (λ (v : List ℕ) (vs : List (List ℕ)). v ∷ vs) set.1 rest.1, (own.0, new, rest.2))

-- words that fail the test are no settings
pub none_set : (names words : List (List ℕ)) → list_all is_name names ≡ true → false ≡ test names words → (ss : List OptionSetting) → words ≡ map text_of ss → ¬ (AreSettings names ss)
none_set names words ok h ss e k = true≢false (sym (ap (test names) e ∙ passes names ss ok k) ∙ sym h)

-- ---- loops over words

pub words_from : {X : Type 0} (text : X → List ℕ) (words : List X) (i : ℕ) (w : X) → i < length words → w ≡ get_or words i w → map text (drop i words) ≡ text w ∷ map text (drop (i + 1) words)
words_from text words i w h e = at_drop_more (map text) words i w h ∙ ap (λ x. text x ∷ map text (drop (i + 1) words)) (sym e)

pub or_holds : (b t all : Bool) → b ≡ true → (b || t) ≡ all → true ≡ all
or_holds true t all e h = h
or_holds false t all e h = absurd (cc)

pub or_fails : (b t all : Bool) → b ≡ false → (b || t) ≡ all → t ≡ all
or_fails true t all e h = absurd (cc)
or_fails false t all e h = h

pub first_fails : (b t all : Bool) → b ≡ false → (b && t) ≡ all → false ≡ all
first_fails true t all e h = absurd (cc)
first_fails false t all e h = h

pub first_holds : (b t all : Bool) → b ≡ true → (b && t) ≡ all → t ≡ all
first_holds true t all e h = h
first_holds false t all e h = absurd (cc)

-- ---- the parts of a word

pub stripped : (s x : List ℕ) → StripsPrefix (FindsTextPrefix (45 ∷ 45 ∷ [])) s x → s ≡ 45 ∷ 45 ∷ x
stripped s x h = h.1.1 ∙ ap (λ t. 45 ∷ 45 ∷ t) (sym h.2)

has_none : (c : ℕ) (xs : List ℕ) → ((i : ℕ) → i < length xs → get_or xs i 0 ≢ c) → has_byte c xs ≡ false
has_none c [] h = refl
has_none c (x ∷ xs) h = by_first (x == c) refl (has_none c xs (λ i k. h (suc i) (omega arith))) where
  by_first : (t : Bool) → (x == c) ≡ t → has_byte c xs ≡ false → (t || has_byte c xs) ≡ false
  by_first true e rest = absurd (h 0 (omega arith) (eqb-true x c e))
  by_first false e rest = rest

pub no_equals : (word rest : List ℕ) → word ≡ 45 ∷ 45 ∷ rest → IsSplitOnceResult 61 rest None → None ≡ name_in word
no_equals word rest e split = sym (ap name_in e ∙ no_name rest (has_none 61 rest (split_parts 61 rest None split (omega arith))))

pub named_by : (word rest : List ℕ) (x : Bor (List ℕ) × Bor (List ℕ)) → word ≡ 45 ∷ 45 ∷ rest → IsSplitOnceResult 61 rest (Some x) → Some x.0.now ≡ name_in word
named_by word rest x e split =
    let parts = split_parts 61 rest (Some x) split (omega arith) in
    sym (ap name_in (e ∙ ap (λ t. 45 ∷ 45 ∷ t) parts.0) ∙ name_of x.0.now x.1.now (has_none 61 x.0.now parts.1))
