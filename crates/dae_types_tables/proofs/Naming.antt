-- Rows of names and their index, as a row is added, and what the index finds.
use Rattle.std.proofs.Common.{◌≡◌, ℕ, ◌+◌, ◌<◌, List, [], ◌∷◌, ◌++◌, reverse, length, take, drop, get_or, find, Option, Some, None, ap, sym, ◌∙◌, append_assoc}
use Rattle.std.proofs.lemmas.List.{map_push, take-map, take_more}
use Rattle.std.proofs.lemmas.Option.{slice_get-get_or}
use Rattle.dae_names.specs.Latest.{latest_of}
use Rattle.dae_names.proofs.Rows.{IsBefore, latest_found, latest_inside, none_from}
use Rattle.dae_types_kinds.specs.declared.tables.Designation.{Designation}
use Rattle.dae_types_kinds.specs.Tables.{entity_of, is_named}
use Rattle.dae_types_tables.specs.Named.{number_of, numbers_of}

module _ (rows : List Designation) (index : List ℕ) (is : index ≡ numbers_of rows) where
  told : (name : ℕ) (o : Option ℕ) → o ≡ latest_of (reverse index) name → o ≡ latest_of (reverse (numbers_of rows)) name
  told name o e = e ∙ ap (λ (ns : List ℕ). latest_of (reverse ns) name) is

  pub named_inside : (name at : ℕ) → Some at ≡ latest_of (reverse index) name → at < length rows
  named_inside name at e = latest_inside number_of rows name at (told name (Some at) e)

  pub named_found : (name at : ℕ) (row : Designation) → Some at ≡ latest_of (reverse index) name → row ≡ get_or rows at row → Some row.entity ≡ entity_of (find (is_named name) (reverse rows))
  named_found name at row e read =
      ap entity_of
      (ap Some read ∙ sym (slice_get-get_or rows at row (named_inside name at e)) ∙ latest_found number_of rows name (Some at) (told name (Some at) e))

  pub named_nowhere : (name : ℕ) → None ≡ latest_of (reverse index) name → None ≡ entity_of (find (is_named name) (reverse rows))
  named_nowhere name e = ap entity_of (latest_found number_of rows name None (told name None e))

  pub named_before : (start name : ℕ) (o : Option ℕ) → o ≡ latest_of (reverse index) name → IsBefore start o → None ≡ entity_of (find (is_named name) (drop start rows))
  named_before start name o e before = sym (ap entity_of (none_from number_of rows start name o (told name o e) before))

  pub named_push : (all : List Designation) (row : Designation) (new : List ℕ) → all ≡ rows ++ row ∷ [] → new ≡ index ++ row.name ∷ [] → new ≡ numbers_of all
  named_push all row new more pushed =
      pushed ∙ ap (λ (ns : List ℕ). ns ++ row.name ∷ []) is ∙ sym (map_push number_of rows row) ∙ sym (ap numbers_of more)

  pub named_cut : (front : List Designation) (new : List ℕ) (count : ℕ) → front ≡ take count rows → new ≡ take count index → new ≡ numbers_of front
  named_cut front new count cut fewer =
      fewer ∙ ap (take count) is ∙ take-map number_of count rows ∙ sym (ap numbers_of cut)

-- one row more of those that are added
pub one_more_row : (old new now rows : List Designation) (i : ℕ) (d : Designation) → i < length rows → now ≡ old ++ take i rows → new ≡ now ++ get_or rows i d ∷ [] → new ≡ old ++ take (i + 1) rows
one_more_row old new now rows i d lt so_far pushed =
    pushed ∙ ap (λ (xs : List Designation). xs ++ get_or rows i d ∷ []) so_far ∙ append_assoc old (take i rows) (get_or rows i d ∷ []) ∙ ap (λ (xs : List Designation). old ++ xs) (sym (take_more rows i d lt))
