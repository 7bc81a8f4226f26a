-- The walk of clap over settings and files.
use Rattle.std.proofs.Common.{◌≡◌, ◌≤◌, Bool, true, false, not, ◌&&◌, ◌||◌, cond, List, ◌∷◌, ◌++◌, length, map, refl, sym, ap, ◌∙◌, subst, arith, append-nil, append_assoc, le-leb, [], true≢false}
use Rattle.std.specs.Prelude.{Option, Some, None, is_some, find, fold, option_and_then, option_map, slice_get}
use Rattle.std.specs.List.{list_all}
use Rattle.std.specs.Str.{bytes_eq}
use Rattle.std.proofs.lemmas.Bool.{and_from, and_parts, not-true}
use Rattle.std.proofs.lemmas.Slice.Eq.{bytes_eq-Decides}
use Rattle.clap.specs.Lexer.{has_byte, usize_max}
use Rattle.clap.specs.Walk.{all_of, first_of, rows_after, Held, Row, Text, Waiting, Walk, at_row, has_row, idle, more_values, nothing_held, positional, reacted, used, finished, walk, walk_from, walked, without}
use Rattle.clap.specs.Simple.{App, Shape, entered, matches_of, names_of}
use Rattle.clap.specs.Takes.{built_takes, default_passes, entered_passes, is_given, is_valid, level_passes, settle_passes, takes, values_pass, turn_passes, walk_passes}
use Rattle.clap.specs.declared.parser.matches.ValueSource.TheVariants.{CommandLine}
use Rattle.clap.specs.declared.builder.value_parser.Reading.TheVariants.{AsWritten}
use Rattle.dae_cli_settings.specs.Settings.{AreSettings, OptionSetting, files_id, given, is_among, is_name, is_plain, sets, text_of}
use Rattle.dae_cli_settings.specs.Commands.{app_of_names}
use Rattle.dae_cli_settings.proofs.Words.{IsOther, is_other, long_is, no_end}
use Rattle.dae_cli_settings.proofs.Rules.{all_free, app_built, defaults_pass, none_required, built_shape, built_files, built_is, built_option, found_files, found_first, found_long, no_defaults, rules_for, simple_app}

-- what is found for settings, and for files

abbrev pub row_with : Text → List Text → Row
row_with id values = record { id = id; values = values; count = None; source = Some CommandLine; reading = AsWritten }

abbrev pub row_for : OptionSetting → Row
row_for s = row_with s.name (s.value ∷ [])

abbrev pub rows_with : List Row → Held
rows_with rows = record { rows = rows; pending = None; skip = 0 }

abbrev pub with_files : List Row → List Text → Held
with_files rows files = record { rows = rows; pending = Some (files_id, files); skip = 0 }

abbrev pub at : Held → Waiting → Walk
at h waiting = record { held = h; waiting = waiting; position = 1; is_trailing = false; stopped = None }

-- ---- rows of another name

without_none : (id : Text) (rows : List Row) → has_row id rows ≡ false → without id rows ≡ rows
without_none id [] h = refl
without_none id (r ∷ rs) h = by_first (bytes_eq r.id id) refl h (without_none id rs) where
  by_first : (b : Bool) → bytes_eq r.id id ≡ b → (b || has_row id rs) ≡ false → (has_row id rs ≡ false → without id rs ≡ rs) → without id (r ∷ rs) ≡ r ∷ rs
  by_first true e k more = absurd (cc)
  by_first false e k more = rw e (ap (λ xs. r ∷ xs) (more k))

added : (id : Text) (change : Row → List Row) (missing rows : List Row) → has_row id rows ≡ false → at_row id change missing rows ≡ rows ++ missing
added id change missing [] h = refl
added id change missing (r ∷ rs) h = by_first (bytes_eq r.id id) refl h (added id change missing rs) where
  by_first : (b : Bool) → bytes_eq r.id id ≡ b → (b || has_row id rs) ≡ false → (has_row id rs ≡ false → at_row id change missing rs ≡ rs ++ missing)
      → at_row id change missing (r ∷ rs) ≡ r ∷ (rs ++ missing)
  by_first true e k more = absurd (cc)
  by_first false e k more = rw e (ap (λ xs. r ∷ xs) (more k))

-- neither is another name the first, nor the first another
pub other_way : (a b : Text) → bytes_eq a b ≡ false → bytes_eq b a ≡ false
other_way a b h = by_test (bytes_eq b a) refl where
  by_test : (t : Bool) → bytes_eq b a ≡ t → t ≡ false
  by_test true e =
      let same : bytes_eq a b ≡ true = (bytes_eq-Decides a b).1 (sym ((bytes_eq-Decides b a).0 e)) in
      absurd (true≢false (sym same ∙ h))
  by_test false e = refl

one_more : (id : Text) (rows : List Row) (r : Row) → has_row id rows ≡ false → bytes_eq r.id id ≡ false → has_row id (rows ++ r ∷ []) ≡ false
one_more id [] r h e = rw e refl
one_more id (x ∷ xs) r h e = by_first (bytes_eq x.id id) h (one_more id xs r) where
  by_first : (b : Bool) → (b || has_row id xs) ≡ false → (has_row id xs ≡ false → bytes_eq r.id id ≡ false → has_row id (xs ++ r ∷ []) ≡ false)
      → (b || has_row id (xs ++ r ∷ [])) ≡ false
  by_first true k more = absurd (cc)
  by_first false k more = more k e

-- no row has the name of a setting
abbrev pub AreFresh : List Row → List OptionSetting → Type 0
AreFresh rows [] = Unit {0}
AreFresh rows (s ∷ ss) = (has_row s.name rows ≡ false) × AreFresh rows ss

fresh_still : (rows : List Row) (s : OptionSetting) (ss : List OptionSetting) → sets ss s.name ≡ false → AreFresh rows ss → AreFresh (rows ++ row_for s ∷ []) ss
fresh_still rows s [] new h = tt
fresh_still rows s (t ∷ ts) new h = by_first (bytes_eq t.name s.name) refl new (λ k. fresh_still rows s ts k h.1) where
  by_first : (b : Bool) → bytes_eq t.name s.name ≡ b → (b || sets ts s.name) ≡ false → (sets ts s.name ≡ false → AreFresh (rows ++ row_for s ∷ []) ts)
      → AreFresh (rows ++ row_for s ∷ []) (t ∷ ts)
  by_first true e k more = absurd (cc)
  by_first false e k more = (one_more t.name rows (row_for s) h.0 (other_way t.name s.name e), more k)

pub fresh_at_first : (ss : List OptionSetting) → AreFresh [] ss
fresh_at_first [] = tt
fresh_at_first (s ∷ ss) = (refl, fresh_at_first ss)

not_files : (name : Text) → is_name name ≡ true → bytes_eq name files_id ≡ false
not_files name h = not-true _ (and_parts (not (has_byte 61 name)) _ (and_parts (not (bytes_eq name [])) _ h).1).1

-- ---- one setting

pub named : (names : List Text) (name : Text) → list_all is_name names ≡ true → is_among names name ≡ true → is_name name ≡ true
named [] name h k = absurd (cc)
named (n ∷ ns) name h k = by_first (bytes_eq n name) refl k (named ns name) where
  parts : (is_name n ≡ true) × (list_all is_name ns ≡ true)
  parts = and_parts (is_name n) (list_all is_name ns) h

  by_first : (b : Bool) → bytes_eq n name ≡ b → (b || is_among ns name) ≡ true → (list_all is_name ns ≡ true → is_among ns name ≡ true → is_name name ≡ true) → is_name name ≡ true
  by_first true e k rest = subst (λ (m : Text). is_name m ≡ true) ((bytes_eq-Decides n name).0 e) parts.0
  by_first false e k rest = rest parts.1 k

used_once : (s : OptionSetting) (rows : List Row) → has_row s.name rows ≡ false → used (built_option s.name) (s.value ∷ []) rows ≡ rows ++ row_for s ∷ []
used_once s rows new = rw (without_none s.name rows new) (added s.name (more_values CommandLine (s.value ∷ [])) (row_for s ∷ []) rows new)

step_is : (names : List Text) (s : OptionSetting) (rows : List Row) → is_name s.name ≡ true → is_among names s.name ≡ true
    → walked (rules_for names) [] (at (rows_with rows) idle) (text_of s) ≡ at (reacted (rules_for names) (built_option s.name) (s.value ∷ []) (rows_with rows)) idle
unfolding walked
step_is names s rows named among = rw (no_end s named, long_is s named, found_long names s.name among) refl

setting_walked : (names : List Text) (s : OptionSetting) (rows : List Row) → is_name s.name ≡ true → is_among names s.name ≡ true → has_row s.name rows ≡ false
    → walked (rules_for names) [] (at (rows_with rows) idle) (text_of s) ≡ at (rows_with (rows ++ row_for s ∷ [])) idle
setting_walked names s rows named among new = step_is names s rows named among ∙ ap (λ rs. at (rows_with rs) idle) (used_once s rows new)

setting_passes : (name : Text) (names : List Text) (s : OptionSetting) (rows : List Row) → is_name s.name ≡ true → is_among names s.name ≡ true → has_row s.name rows ≡ false
    → turn_passes (built_shape name names) [] (at (rows_with rows) idle) (text_of s) ≡ true
setting_passes name names s rows named among new = rw (no_end s named, long_is s named, found_long names s.name among, new) refl

-- ---- one file

first_walked : (names : List Text) (rows : List Row) (word : Text) → IsOther word
    → walked (rules_for names) [] (at (rows_with rows) idle) word ≡ at (with_files rows (word ∷ [])) positional
unfolding walked
first_walked names rows word other = rw (other.no_end, other.no_long, other.no_short, found_first names) refl

first_passes : (name : Text) (names : List Text) (rows : List Row) (word : Text) → IsOther word
    → turn_passes (built_shape name names) [] (at (rows_with rows) idle) word ≡ true
first_passes name names rows word other = rw (other.no_end, other.no_long, other.no_short, found_first names) refl

more_walked : (names : List Text) (rows : List Row) (files : List Text) (word : Text) → IsOther word
    → walked (rules_for names) [] (at (with_files rows files) positional) word ≡ at (with_files rows (files ++ word ∷ [])) positional
unfolding walked
more_walked names rows files word other = rw (other.no_end, other.no_long, other.no_short, found_first names) refl

more_passes : (name : Text) (names : List Text) (rows : List Row) (files : List Text) (word : Text) → IsOther word
    → turn_passes (built_shape name names) [] (at (with_files rows files) positional) word ≡ true
more_passes name names rows files word other = rw (other.no_end, other.no_long, other.no_short, found_first names) refl

-- ---- all settings, and all files

append_one : (rows : List Row) (r : Row) (rs : List Row) → (rows ++ r ∷ []) ++ rs ≡ rows ++ r ∷ rs
append_one rows r rs = append_assoc rows (r ∷ []) rs

settings_walked : (names : List Text) (ss : List OptionSetting) (rows : List Row) (rest : List Text) → list_all is_name names ≡ true → AreSettings names ss → AreFresh rows ss
    → fold (walked (rules_for names) []) (at (rows_with rows) idle) (map text_of ss ++ rest) ≡ fold (walked (rules_for names) []) (at (rows_with (rows ++ map row_for ss)) idle) rest
settings_walked names [] rows rest ok h new = ap (λ rs. fold (walked (rules_for names) []) (at (rows_with rs) idle) rest) (sym (append-nil rows))
settings_walked names (s ∷ ss) rows rest ok h new =
    ap (λ w. fold (walked (rules_for names) []) w (map text_of ss ++ rest)) (setting_walked names s rows (named names s.name ok h.0) h.0 new.0)
    ∙ settings_walked names ss (rows ++ row_for s ∷ []) rest ok h.2 (fresh_still rows s ss h.1 new.1)
    ∙ ap (λ rs. fold (walked (rules_for names) []) (at (rows_with rs) idle) rest) (append_one rows (row_for s) (map row_for ss))

passes_next : (s : Shape) (w v : Walk) (word : Text) (rest : List Text) → turn_passes s [] w word ≡ true → walked s.rules [] w word ≡ v → walk_passes s [] v rest ≡ true → walk_passes s [] w (word ∷ rest) ≡ true
unfolding walk_passes
passes_next s w v word rest h e k = rw (h, e) k

settings_pass : (name : Text) (names : List Text) (ss : List OptionSetting) (rows : List Row) (rest : List Text) → list_all is_name names ≡ true → AreSettings names ss → AreFresh rows ss
    → walk_passes (built_shape name names) [] (at (rows_with (rows ++ map row_for ss)) idle) rest ≡ true → walk_passes (built_shape name names) [] (at (rows_with rows) idle) (map text_of ss ++ rest) ≡ true
settings_pass name names [] rows rest ok h new k = subst (λ rs. walk_passes (built_shape name names) [] (at (rows_with rs) idle) rest ≡ true) (append-nil rows) k
settings_pass name names (s ∷ ss) rows rest ok h new k =
    passes_next (built_shape name names) _ _ (text_of s) (map text_of ss ++ rest) (setting_passes name names s rows (named names s.name ok h.0) h.0 new.0)
    (setting_walked names s rows (named names s.name ok h.0) h.0 new.0)
    (settings_pass name names ss (rows ++ row_for s ∷ []) rest ok h.2 (fresh_still rows s ss h.1 new.1)
    (subst (λ rs. walk_passes (built_shape name names) [] (at (rows_with rs) idle) rest ≡ true) (sym (append_one rows (row_for s) (map row_for ss))) k))

more_files_walked : (names : List Text) (rows : List Row) (so_far files : List Text) → list_all is_plain files ≡ true
    → fold (walked (rules_for names) []) (at (with_files rows so_far) positional) files ≡ at (with_files rows (so_far ++ files)) positional
more_files_walked names rows so_far [] h = ap (λ fs. at (with_files rows fs) positional) (sym (append-nil so_far))
more_files_walked names rows so_far (f ∷ fs) h =
    let parts = and_parts (is_plain f) (list_all is_plain fs) h in
    ap (λ w. fold (walked (rules_for names) []) w fs) (more_walked names rows so_far f (is_other f parts.0))
    ∙ more_files_walked names rows (so_far ++ f ∷ []) fs parts.1
    ∙ ap (λ xs. at (with_files rows xs) positional) (append_assoc so_far (f ∷ []) fs)

files_walked : (names : List Text) (rows : List Row) (file : Text) (files : List Text) → list_all is_plain (file ∷ files) ≡ true
    → fold (walked (rules_for names) []) (at (rows_with rows) idle) (file ∷ files) ≡ at (with_files rows (file ∷ files)) positional
files_walked names rows file files h =
    let parts = and_parts (is_plain file) (list_all is_plain files) h in
    ap (λ w. fold (walked (rules_for names) []) w files) (first_walked names rows file (is_other file parts.0)) ∙ more_files_walked names rows (file ∷ []) files parts.1

end_passes : (s : Shape) (w : Walk) → walk_passes s [] w [] ≡ true
unfolding walk_passes
end_passes s w = refl

more_files_pass : (name : Text) (names : List Text) (rows : List Row) (so_far files : List Text) → list_all is_plain files ≡ true
    → walk_passes (built_shape name names) [] (at (with_files rows so_far) positional) files ≡ true
more_files_pass name names rows so_far [] h = end_passes (built_shape name names) (at (with_files rows so_far) positional)
more_files_pass name names rows so_far (f ∷ fs) h =
    let parts = and_parts (is_plain f) (list_all is_plain fs) h in
    passes_next (built_shape name names) _ _ f fs (more_passes name names rows so_far f (is_other f parts.0)) (more_walked names rows so_far f (is_other f parts.0))
    (more_files_pass name names rows (so_far ++ f ∷ []) fs parts.1)

files_pass : (name : Text) (names : List Text) (rows : List Row) (file : Text) (files : List Text) → list_all is_plain (file ∷ files) ≡ true
    → walk_passes (built_shape name names) [] (at (rows_with rows) idle) (file ∷ files) ≡ true
files_pass name names rows file files h =
    let parts = and_parts (is_plain file) (list_all is_plain files) h in
    passes_next (built_shape name names) _ _ file files (first_passes name names rows file (is_other file parts.0)) (first_walked names rows file (is_other file parts.0))
    (more_files_pass name names rows (file ∷ []) files parts.1)

-- ---- the whole

no_files_row : (ss : List OptionSetting) (names : List Text) → list_all is_name names ≡ true → AreSettings names ss → has_row files_id (map row_for ss) ≡ false
no_files_row [] names ok h = refl
no_files_row (s ∷ ss) names ok h =
    let rest = no_files_row ss names ok h.2 in
    let other = not_files s.name (named names s.name ok h.0) in
    rw (other, rest) refl

accepted : (files : List Text) → values_pass built_files files ≡ true
accepted [] = refl
accepted (f ∷ fs) = accepted fs

module _ (name : Text) (names : List Text) (ss : List OptionSetting) (file : Text) (files : List Text) (ok : list_all is_name names ≡ true) (h : AreSettings names ss) (plain : list_all is_plain (file ∷ files) ≡ true) (few : length (file ∷ files) ≤ usize_max) where
  whole_walk : walk (rules_for names) [] nothing_held (map text_of ss ++ file ∷ files) ≡ at (with_files (map row_for ss) (file ∷ files)) positional
  whole_walk = settings_walked names ss [] (file ∷ files) ok h (fresh_at_first ss) ∙ files_walked names (map row_for ss) file files plain

  whole_passes : walk_passes (built_shape name names) [] (walk_from nothing_held) (map text_of ss ++ file ∷ files) ≡ true
  whole_passes = settings_pass name names ss [] (file ∷ files) ok h (fresh_at_first ss) (files_pass name names (map row_for ss) file files plain)

  -- what is found
  abbrev pub all_rows : List Row
  all_rows = map row_for ss ++ row_with files_id (file ∷ files) ∷ []

  end_rows : finished (rules_for names) (with_files (map row_for ss) (file ∷ files)) ≡ all_rows
  end_rows = no_defaults names _ ∙ rw (found_files names ok) (added files_id (more_values CommandLine (file ∷ files)) (row_with files_id (file ∷ files) ∷ []) (map row_for ss) (no_files_row ss names ok h))

  pub words_found : matches_of (app_of_names name names) (map text_of ss ++ file ∷ files) ≡ all_rows
  words_found =
      ap (λ (b : App). rows_after b.top.rules (names_of b) (map text_of ss ++ file ∷ files)) (built_is name names)
      ∙ ap (λ (w : Walk). finished (rules_for names) w.held) whole_walk ∙ end_rows

  settles : settle_passes (rules_for names) false (with_files (map row_for ss) (file ∷ files)) ≡ true
  settles = rw (found_files names ok, le-leb (length (file ∷ files)) usize_max few, le-leb 1 (length (file ∷ files)) (omega arith)) (accepted (file ∷ files))

  valid : is_valid (built_shape name names) all_rows false ≡ true
  valid = rw (all_free names) (none_required names (λ a. is_given a.id all_rows))

  level : level_passes (built_shape name names) [] nothing_held (map text_of ss ++ file ∷ files) false ≡ true
  level = and_from _ _ whole_passes
      (subst (λ (w : Walk). (settle_passes (rules_for names) false w.held && (list_all default_passes (rules_for names) && is_valid (built_shape name names) (finished (rules_for names) w.held) false)) ≡ true)
      (sym whole_walk) (and_from _ _ settles (and_from _ _ (defaults_pass names) (subst (λ rs. is_valid (built_shape name names) rs false ≡ true) (sym end_rows) valid))))

  taken_built : built_takes (app_built name (rules_for names)) nothing_held (map text_of ss ++ file ∷ files) ≡ true
  taken_built =
      let stop : (walk (rules_for names) [] nothing_held (map text_of ss ++ file ∷ files)).stopped ≡ None = ap (λ (w : Walk). w.stopped) whole_walk in
      subst (λ (o : Option (Text × List Text)). (entered_passes (app_built name (rules_for names)) o
      && level_passes (built_shape name names) [] nothing_held (map text_of ss ++ file ∷ files) (is_some (entered (app_built name (rules_for names)) o))) ≡ true)
      (sym stop) level

  pub words_taken : takes (app_of_names name names) (map text_of ss ++ file ∷ files) ≡ true
  words_taken = and_from _ _ (simple_app name names)
      (ap (λ (b : App). built_takes b nothing_held (map text_of ss ++ file ∷ files)) (built_is name names) ∙ taken_built)

-- ---- what is read of it

first_else : (name : Text) (rows : List Row) (r : Row) → bytes_eq r.id name ≡ false → first_of name (rows ++ r ∷ []) ≡ first_of name rows
first_else name [] r h = rw h refl
first_else name (x ∷ xs) r h = by_first (bytes_eq x.id name) (first_else name xs r h) where
  by_first : (b : Bool) → first_of name (xs ++ r ∷ []) ≡ first_of name xs
      → option_and_then (λ (y : Row). slice_get y.values 0) (cond b (Some x) (find (λ y. bytes_eq y.id name) (xs ++ r ∷ [])))
      ≡ option_and_then (λ (y : Row). slice_get y.values 0) (cond b (Some x) (find (λ y. bytes_eq y.id name) xs))
  by_first true e = refl
  by_first false e = e

first_given : (name : Text) (ss : List OptionSetting) → first_of name (map row_for ss) ≡ given ss name
first_given name [] = refl
first_given name (s ∷ ss) = by_first (bytes_eq s.name name) (first_given name ss) where
  by_first : (b : Bool) → first_of name (map row_for ss) ≡ given ss name
      → option_and_then (λ (y : Row). slice_get y.values 0) (cond b (Some (row_for s)) (find (λ y. bytes_eq y.id name) (map row_for ss)))
      ≡ option_map (λ (y : OptionSetting). y.value) (cond b (Some s) (find (λ y. bytes_eq y.name name) ss))
  by_first true e = refl
  by_first false e = e

pub first_in : (name : Text) (ss : List OptionSetting) (files : List Text) → bytes_eq files_id name ≡ false → first_of name (map row_for ss ++ row_with files_id files ∷ []) ≡ given ss name
first_in name ss files other = first_else name (map row_for ss) (row_with files_id files) other ∙ first_given name ss

files_else : (name : Text) (rows : List Row) (r : Row) → has_row name rows ≡ false → all_of name (rows ++ r ∷ []) ≡ all_of name (r ∷ [])
files_else name [] r h = refl
files_else name (x ∷ xs) r h = by_first (bytes_eq x.id name) h (files_else name xs r) where
  by_first : (b : Bool) → (b || has_row name xs) ≡ false → (has_row name xs ≡ false → all_of name (xs ++ r ∷ []) ≡ all_of name (r ∷ []))
      → option_map (λ (y : Row). y.values) (cond b (Some x) (find (λ y. bytes_eq y.id name) (xs ++ r ∷ []))) ≡ all_of name (r ∷ [])
  by_first true e more = absurd (cc)
  by_first false e more = more e

-- no setting has the name of the files
pub none_given : (names : List Text) (ss : List OptionSetting) → list_all is_name names ≡ true → AreSettings names ss → given ss files_id ≡ None
none_given names [] ok h = refl
none_given names (s ∷ ss) ok h =
    let rest = none_given names ss ok h.2 in
    let other = not_files s.name (named names s.name ok h.0) in
    rw other rest
