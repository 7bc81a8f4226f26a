-- The declarations of all files: each is sound in its file, and those of one name in two files have the same type.
use Rattle.std.proofs.Common.{◌≡◌, ◌⊎◌, ℕ, zero, suc, ◌+◌, Bool, true, false, cond, inl, inr, List, [], ◌∷◌, ◌++◌, Option, Some, None, refl, sym, subst, ◌∙◌, arith}
use Rattle.std.specs.Prelude.{slice_get, find}
use Rattle.std.specs.List.{AllByRecursion}
use Rattle.dae_types_file_plans.specs.declared.declarations.FileDeclaration.{FileDeclaration}
use Rattle.dae_types_typed.specs.declared.files.FileParts.{FileParts}
use Rattle.dae_types_typed.specs.Sound.{IsSound}
use Rattle.dae_unit.specs.declared.errors.Clash.{Clash}
use Rattle.dae_unit.specs.declared.rows.FileRow.{FileRow}
use Rattle.dae_unit.specs.Linkage.{rows_of_file, rows_from, rows_of}
use Rattle.dae_unit.specs.Clashes.{clashes, first_clash}
use Rattle.dae_unit_join.proofs.Among.{Among, among_get, all_among, among_front, among_last, all_last}

abbrev pub row : ℕ → FileDeclaration → FileRow
row k d = record { file = k; declaration = d }

-- ---- each declaration has its row

kept_in_file : (done : List FileRow) (k : ℕ) (ds : List FileDeclaration) (x : FileRow) → Among x done → Among x (rows_of_file done k ds)
kept_in_file done k [] x m = m
kept_in_file done k (d ∷ ds) x m = kept_in_file (done ++ row k d ∷ []) k ds x (among_front x done (row k d ∷ []) m)

has_row_in_file : (done : List FileRow) (k : ℕ) (ds : List FileDeclaration) (d : FileDeclaration) → Among d ds → Among (row k d) (rows_of_file done k ds)
has_row_in_file done k [] d m = absurd m
has_row_in_file done k (e ∷ es) d (inl q) = kept_in_file (done ++ row k e ∷ []) k es (row k d) (subst (λ z. Among (row k d) (done ++ row k z ∷ [])) q (among_last (row k d) done))
has_row_in_file done k (e ∷ es) d (inr m) = has_row_in_file (done ++ row k e ∷ []) k es d m

kept : (done : List FileRow) (k : ℕ) (fs : List FileParts) (x : FileRow) → Among x done → Among x (rows_from done k fs)
kept done k [] x m = m
kept done k (f ∷ fs) x m = kept (rows_of_file done k f.declarations) (suc k) fs x (kept_in_file done k f.declarations x m)

has_row_from : (done : List FileRow) (k : ℕ) (fs : List FileParts) (i : ℕ) (f : FileParts) (d : FileDeclaration) → slice_get fs i ≡ Some f → Among d f.declarations → Among (row (k + i) d) (rows_from done k fs)
has_row_from done k [] i f d h m = absurd cc
has_row_from done k (g ∷ gs) zero f d h m =
    let e : g ≡ f = cc in
    let n : k + 0 ≡ k = omega arith in
    rw n (kept (rows_of_file done k g.declarations) (suc k) gs (row k d) (has_row_in_file done k g.declarations d (subst (λ (z : FileParts). Among d z.declarations) (sym e) m)))
has_row_from done k (g ∷ gs) (suc i) f d h m = let n : k + suc i ≡ suc k + i = omega arith in rw n (has_row_from (rows_of_file done k g.declarations) (suc k) gs i f d h m)

pub has_row : (files : List FileParts) (k : ℕ) (f : FileParts) (d : FileDeclaration) → slice_get files k ≡ Some f → Among d f.declarations → Among (row k d) (rows_of files)
has_row files k f d h m = let n : 0 + k ≡ k = omega arith in subst (λ z. Among (row z d) (rows_of files)) n (has_row_from [] 0 files k f d h m)

-- ---- each row is that of a declaration of a sound file

pub record IsRow (files : List FileParts) (d : FileRow) : Type 0 where
  pub parts : FileParts
  pub file : slice_get files d.file ≡ Some parts
  pub sound : IsSound parts
  pub among : Among d.declaration parts.declarations

rows_in_file : (files : List FileParts) (f : FileParts) (k : ℕ) → slice_get files k ≡ Some f → IsSound f → (done : List FileRow) (ds : List FileDeclaration) → ((d : FileDeclaration) → Among d ds → Among d f.declarations) → AllByRecursion (IsRow files) done → AllByRecursion (IsRow files) (rows_of_file done k ds)
rows_in_file files f k h s done [] sub all = all
rows_in_file files f k h s done (d ∷ ds) sub all =
    rows_in_file files f k h s (done ++ row k d ∷ []) ds (λ e m. sub e (inr m)) (all_last (IsRow files) done (row k d) all (record { parts = f; file = h; sound = s; among = sub d (inl refl) }))

rows_sound_from : (files : List FileParts) (done : List FileRow) (k : ℕ) (fs : List FileParts) → ((i : ℕ) (f : FileParts) → slice_get fs i ≡ Some f → slice_get files (k + i) ≡ Some f) → AllByRecursion IsSound fs → AllByRecursion (IsRow files) done → AllByRecursion (IsRow files) (rows_from done k fs)
rows_sound_from files done k [] sub sounds all = all
rows_sound_from files done k (f ∷ fs) sub sounds all =
    let n : k + 0 ≡ k = omega arith in
    let here : slice_get files k ≡ Some f = subst (λ z. slice_get files z ≡ Some f) n (sub 0 f refl) in
    rows_sound_from files (rows_of_file done k f.declarations) (suc k) fs
    (λ i g h. (let n : k + suc i ≡ suc k + i = omega arith in subst (λ z. slice_get files z ≡ Some g) n (sub (suc i) g h))) sounds.1
    (rows_in_file files f k here sounds.0 done f.declarations (λ d m. m) all)

pub rows_sound : (files : List FileParts) → AllByRecursion IsSound files → AllByRecursion (IsRow files) (rows_of files)
rows_sound files sounds = rows_sound_from files [] 0 files (λ i f h. (let n : 0 + i ≡ i = omega arith in rw n h)) sounds tt

pub file_sound : (files : List FileParts) (k : ℕ) (f : FileParts) → AllByRecursion IsSound files → slice_get files k ≡ Some f → IsSound f
file_sound files k f sounds h = all_among IsSound f files sounds (among_get files k f h)

-- ---- no pair clashes

pub none_found : {A : Type 0} (p : A → Bool) (xs : List A) (x : A) → find p xs ≡ None → Among x xs → p x ≡ false
none_found p [] x h m = absurd m
none_found p (y ∷ ys) x h m = by (none_found p ys x) (p y) refl h m
  where
    by : (find p ys ≡ None → Among x ys → p x ≡ false) → (b : Bool) → p y ≡ b → cond b (Some y) (find p ys) ≡ None → Among x (y ∷ ys) → p x ≡ false
    by later true e h m = absurd cc
    by later false e h (inl q) = subst (λ z. p z ≡ false) (sym q) e
    by later false e h (inr m) = later h m

-- two rows are one, or neither clashes with the one that stands behind it
pub apart : (files : List FileParts) (clash : Clash) (ds : List FileRow) → first_clash files clash ds ≡ None → (x y : FileRow) → Among x ds → Among y ds → (x ≡ y) ⊎ ((clashes files clash x y ≡ false) ⊎ (clashes files clash y x ≡ false))
apart files clash [] h x y m n = absurd m
apart files clash (d ∷ ds) h x y m n = by (λ h m n. apart files clash ds h x y m n) (find (clashes files clash d) ds) refl h m n
  where
    by : (first_clash files clash ds ≡ None → Among x ds → Among y ds → (x ≡ y) ⊎ ((clashes files clash x y ≡ false) ⊎ (clashes files clash y x ≡ false))) → (o : Option FileRow) → find (clashes files clash d) ds ≡ o → (let found : Option (FileRow × FileRow) = elim o [ None ↦ first_clash files clash ds | Some e ↦ Some (d, e) ] in found ≡ None) → Among x (d ∷ ds) → Among y (d ∷ ds) → (x ≡ y) ⊎ ((clashes files clash x y ≡ false) ⊎ (clashes files clash y x ≡ false))
    by later (Some e) q h m n = absurd cc
    by later None q h (inl p) (inl r) = inl (p ∙ sym r)
    by later None q h (inl p) (inr n) = inr (inl (subst (λ z. clashes files clash z y ≡ false) (sym p) (none_found (clashes files clash d) ds y q n)))
    by later None q h (inr m) (inl r) = inr (inr (subst (λ z. clashes files clash z x ≡ false) (sym r) (none_found (clashes files clash d) ds x q m)))
    by later None q h (inr m) (inr n) = later h m n
