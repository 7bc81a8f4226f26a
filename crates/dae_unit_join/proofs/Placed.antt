-- The declarations that give room: each is one of an object, in some file, and each object that has room has one.
use Rattle.std.proofs.Common.{◌≡◌, Bool, true, false, ◌&&◌, inl, inr, List, [], ◌∷◌, ◌++◌, refl, subst}
use Rattle.std.proofs.lemmas.Bool.{false≢true, and_parts, not-true}
use Rattle.std.specs.Prelude.{not, if◌then◌else◌}
use Rattle.std.specs.List.{list_any, AllByRecursion}
use Rattle.dae_types_typed.specs.declared.files.FileParts.{FileParts}
use Rattle.dae_types_typed.specs.Linkage.{is_object}
use Rattle.dae_unit.specs.declared.rows.FileRow.{FileRow}
use Rattle.dae_unit.specs.Linkage.{entity_of, refers}
use Rattle.dae_unit.specs.Placing.{is_first, is_same, placed_rows}
use Rattle.dae_unit_join.proofs.Among.{Among, any_among, among_any, among_front, among_last, all_last}
use Rattle.dae_unit_join.proofs.Ones.{one_itself}

-- a declaration of an object that isn't a mere reference
pub record GivesRoom (rows : List FileRow) (d : FileRow) : Type 0 where
  pub among : Among d rows
  pub object : is_object (entity_of d) ≡ true
  pub room : refers d ≡ false

first_parts : (files : List FileParts) (done : List FileRow) (d : FileRow) → is_first files done d ≡ true → (is_object (entity_of d) ≡ true) × (refers d ≡ false)
unfolding is_first
first_parts files done d h =
    let parts = and_parts (is_object (entity_of d) && not (refers d)) (not (list_any (is_same files d) done)) h in
    let more = and_parts (is_object (entity_of d)) (not (refers d)) parts.0 in
    (more.0, not-true (refers d) more.1)

rows_give_room : (files : List FileParts) (rows done ds : List FileRow) → ((d : FileRow) → Among d ds → Among d rows) → AllByRecursion (GivesRoom rows) done → AllByRecursion (GivesRoom rows) (placed_rows files done ds)
rows_give_room files rows done [] sub all = all
rows_give_room files rows done (d ∷ ds) sub all =
    rows_give_room files rows (if is_first files done d then done ++ d ∷ [] else done) ds (λ e m. sub e (inr m)) (by (is_first files done d) refl)
  where
    by : (b : Bool) → is_first files done d ≡ b → AllByRecursion (GivesRoom rows) (if b then done ++ d ∷ [] else done)
    by true h = let parts = first_parts files done d h in all_last (GivesRoom rows) done d all (record { among = sub d (inl refl); object = parts.0; room = parts.1 })
    by false h = all

pub placed_give_room : (files : List FileParts) (rows : List FileRow) → AllByRecursion (GivesRoom rows) (placed_rows files [] rows)
placed_give_room files rows = rows_give_room files rows [] rows (λ d m. m) tt

any_front : (p : FileRow → Bool) (xs ys : List FileRow) → list_any p xs ≡ true → list_any p (xs ++ ys) ≡ true
any_front p xs ys h = let found = any_among p xs h in among_any p found.0 (xs ++ ys) (among_front found.0 xs ys found.1) found.2

stays : (files : List FileParts) (p : FileRow → Bool) (done ds : List FileRow) → list_any p done ≡ true → list_any p (placed_rows files done ds) ≡ true
stays files p done [] h = h
stays files p done (d ∷ ds) h = stays files p (if is_first files done d then done ++ d ∷ [] else done) ds (by (is_first files done d))
  where
    by : (b : Bool) → list_any p (if b then done ++ d ∷ [] else done) ≡ true
    by true = any_front p done (d ∷ []) h
    by false = h

was_there : (files : List FileParts) (done : List FileRow) (d : FileRow) → is_object (entity_of d) ≡ true → refers d ≡ false → is_first files done d ≡ false → list_any (is_same files d) done ≡ true
unfolding is_first
was_there files done d o r h = by (is_object (entity_of d)) (refers d) (list_any (is_same files d) done) o r h
  where
    by : (a b c : Bool) → a ≡ true → b ≡ false → ((a && not b) && not c) ≡ false → c ≡ true
    by false b c o r h = absurd (false≢true o)
    by true true c o r h = absurd cc
    by true false true o r h = refl
    by true false false o r h = absurd cc

pub has_placed : (files : List FileParts) (done ds : List FileRow) (d : FileRow) → is_object (entity_of d) ≡ true → refers d ≡ false → Among d ds → list_any (is_same files d) (placed_rows files done ds) ≡ true
has_placed files done [] d o r m = absurd m
has_placed files done (e ∷ es) d o r (inr m) = has_placed files (if is_first files done e then done ++ e ∷ [] else done) es d o r m
has_placed files done (e ∷ es) d o r (inl q) =
    stays files (is_same files d) (if is_first files done e then done ++ e ∷ [] else done) es (subst (λ z. list_any (is_same files d) (if is_first files done z then done ++ z ∷ [] else done) ≡ true) q (by (is_first files done d) refl))
  where
    by : (b : Bool) → is_first files done d ≡ b → list_any (is_same files d) (if b then done ++ d ∷ [] else done) ≡ true
    by true h = among_any (is_same files d) d (done ++ d ∷ []) (among_last d done) (one_itself files d.file (entity_of d) o)
    by false h = was_there files done d o r h
