-- What the numbers of a file mean, number by number.
use Rattle.std.proofs.Common.{◌≡◌, ◌≢◌, ℕ, zero, suc, ◌+◌, ◌<◌, ◌≤◌, true, List, [], ◌∷◌, ◌++◌, length, take, drop, Some, refl, sym, ap, subst, ◌∙◌, arith}
use Rattle.std.proofs.lemmas.Bool.{and_from}
use Rattle.std.proofs.lemmas.Bool.Decides.{nat_tests}
use Rattle.std.proofs.lemmas.List.{append_assoc, append-nil, length-take-le, length-drop, get_or-append-add}
use Rattle.std.specs.Prelude.{slice_get, slice_index, not, nat_eq}
use Rattle.std.specs.List.{list_all}
use Rattle.dae_program.specs.declared.program.Links.{Links}
use Rattle.dae_program.specs.Lawful.{spares}
use Rattle.dae_types_kinds.specs.declared.tables.Entity.{Entity}
use Rattle.dae_types_kinds.specs.declared.tables.Entity.TheVariants as entity
use Rattle.dae_types_kinds.specs.declared.tables.StaticObject.{StaticObject}
use Rattle.dae_types_kinds.specs.declared.tables.Routine.{Routine}
use Rattle.dae_types_typed.specs.declared.files.FileParts.{FileParts}
use Rattle.dae_unit.specs.declared.rows.FileRow.{FileRow}
use Rattle.dae_unit.specs.Meanings.{object_place, object_places, function_number, function_numbers, links_in, links_from, links_of}

module _ (files : List FileParts) (placed : List FileRow) (places : List ℕ) (k : ℕ) where
  -- addresses without those so far
  abbrev addresses_behind : ℕ → List StaticObject → List ℕ
  addresses_behind o [] = []
  addresses_behind o (x ∷ xs) = object_place files placed places k (entity.Object o) ∷ addresses_behind (suc o) xs

  addresses_apart : (done : List ℕ) (o : ℕ) (xs : List StaticObject) → object_places files placed places k done o xs ≡ done ++ addresses_behind o xs
  addresses_apart done o [] = sym (append-nil done)
  addresses_apart done o (x ∷ xs) = addresses_apart (done ++ object_place files placed places k (entity.Object o) ∷ []) (suc o) xs ∙ append_assoc done (object_place files placed places k (entity.Object o) ∷ []) (addresses_behind (suc o) xs)

  address_behind : (o : ℕ) (xs : List StaticObject) (i : ℕ) → i < length xs → slice_index (addresses_behind o xs) i ≡ object_place files placed places k (entity.Object (o + i))
  address_behind o [] i h = absurd (omega arith)
  address_behind o (x ∷ xs) zero h = let e : o ≡ o + 0 = omega arith in ap (λ n. object_place files placed places k (entity.Object n)) e
  address_behind o (x ∷ xs) (suc i) h = let e : suc o + i ≡ o + suc i = omega arith in address_behind (suc o) xs i (omega arith) ∙ ap (λ n. object_place files placed places k (entity.Object n)) e

  -- an object's address stands behind those of the literals
  pub address_at : (literals : List ℕ) (xs : List StaticObject) (i : ℕ) → i < length xs → slice_index (object_places files placed places k literals 0 xs) (length literals + i) ≡ object_place files placed places k (entity.Object i)
  address_at literals xs i h =
      let e : 0 + i ≡ i = omega arith in
      ap (λ ns. slice_index ns (length literals + i)) (addresses_apart literals 0 xs)
      ∙ (get_or-append-add literals (addresses_behind 0 xs) i 0 ∙ (address_behind 0 xs i h ∙ ap (λ n. object_place files placed places k (entity.Object n)) e))

module _ (files : List FileParts) (bodies : List FileRow) (k : ℕ) where
  abbrev numbers_behind : ℕ → List Routine → List ℕ
  numbers_behind r [] = []
  numbers_behind r (x ∷ xs) = function_number files bodies k (entity.Function r) ∷ numbers_behind (suc r) xs

  numbers_apart : (done : List ℕ) (r : ℕ) (xs : List Routine) → function_numbers files bodies k done r xs ≡ done ++ numbers_behind r xs
  numbers_apart done r [] = sym (append-nil done)
  numbers_apart done r (x ∷ xs) = numbers_apart (done ++ function_number files bodies k (entity.Function r) ∷ []) (suc r) xs ∙ append_assoc done (function_number files bodies k (entity.Function r) ∷ []) (numbers_behind (suc r) xs)

  number_behind : (r : ℕ) (xs : List Routine) (i : ℕ) → i < length xs → slice_get (numbers_behind r xs) i ≡ Some (function_number files bodies k (entity.Function (r + i)))
  number_behind r [] i h = absurd (omega arith)
  number_behind r (x ∷ xs) zero h = let e : r ≡ r + 0 = omega arith in ap (λ n. Some (function_number files bodies k (entity.Function n))) e
  number_behind r (x ∷ xs) (suc i) h = let e : suc r + i ≡ r + suc i = omega arith in number_behind (suc r) xs i (omega arith) ∙ ap (λ n. Some (function_number files bodies k (entity.Function n))) e

  pub number_at : (xs : List Routine) (i : ℕ) → i < length xs → slice_get (function_numbers files bodies k [] 0 xs) i ≡ Some (function_number files bodies k (entity.Function i))
  number_at xs i h = let e : 0 + i ≡ i = omega arith in ap (λ ns. slice_get ns i) (numbers_apart [] 0 xs) ∙ (number_behind 0 xs i h ∙ ap (λ n. Some (function_number files bodies k (entity.Function n))) e)

  none_behind : (main : ℕ) → ((e : Entity) → function_number files bodies k e ≢ main) → (r : ℕ) (xs : List Routine) → list_all (λ (f : ℕ). not (nat_eq f main)) (numbers_behind r xs) ≡ true
  none_behind main spare r [] = refl
  none_behind main spare r (x ∷ xs) =
      let other = spare (entity.Function r) in
      and_from (not (nat_eq (function_number files bodies k (entity.Function r)) main)) (list_all (λ (f : ℕ). not (nat_eq f main)) (numbers_behind (suc r) xs)) (differ (function_number files bodies k (entity.Function r)) main other) (none_behind main spare (suc r) xs)
    where
      differ : (a b : ℕ) → a ≢ b → not (nat_eq a b) ≡ true
      differ a b h = grind (arith, nat_tests)

  pub none_is : (main : ℕ) → ((e : Entity) → function_number files bodies k e ≢ main) → (xs : List Routine) → list_all (λ (f : ℕ). not (nat_eq f main)) (function_numbers files bodies k [] 0 xs) ≡ true
  none_is main spare xs = subst (λ ns. list_all (λ (f : ℕ). not (nat_eq f main)) ns ≡ true) (sym (numbers_apart [] 0 xs)) (none_behind main spare 0 xs)

-- ---- file by file

abbrev pub count_literals : List FileParts → ℕ
count_literals [] = 0
count_literals (f ∷ fs) = length f.literals + count_literals fs

-- the links of a file are those by its literals' places
pub record HasLinks (files : List FileParts) (placed bodies : List FileRow) (places : List ℕ) (links : List Links) (i k : ℕ) (f : FileParts) : Type 0 where
  pub literals : List ℕ
  pub many : length literals ≡ length f.literals
  pub there : slice_get links i ≡ Some (links_in files placed bodies places literals k f)

module _ (files : List FileParts) (placed bodies : List FileRow) (places : List ℕ) where
  abbrev links_behind : List ℕ → ℕ → List FileParts → List Links
  links_behind rest k [] = []
  links_behind rest k (f ∷ fs) = links_in files placed bodies places (take (length f.literals) rest) k f ∷ links_behind (drop (length f.literals) rest) (suc k) fs

  links_apart : (rest : List ℕ) (done : List Links) (k : ℕ) (fs : List FileParts) → links_from files placed bodies places rest done k fs ≡ done ++ links_behind rest k fs
  links_apart rest done k [] = sym (append-nil done)
  links_apart rest done k (f ∷ fs) =
      links_apart (drop (length f.literals) rest) (done ++ links_in files placed bodies places (take (length f.literals) rest) k f ∷ []) (suc k) fs
      ∙ append_assoc done (links_in files placed bodies places (take (length f.literals) rest) k f ∷ []) (links_behind (drop (length f.literals) rest) (suc k) fs)

  link_behind : (rest : List ℕ) (k : ℕ) (fs : List FileParts) (i : ℕ) (f : FileParts) → count_literals fs ≤ length rest → slice_get fs i ≡ Some f → HasLinks files placed bodies places (links_behind rest k fs) i (k + i) f
  link_behind rest k [] i f l h = absurd cc
  link_behind rest k (g ∷ gs) zero f l h =
      let e : g ≡ f = cc in
      let n : k ≡ k + 0 = omega arith in
      record {
        literals = take (length g.literals) rest;
        many = length-take-le (length g.literals) rest (omega arith) ∙ ap (λ (z : FileParts). length z.literals) e;
        there = ap (λ z. Some (links_in files placed bodies places (take (length g.literals) rest) k z)) e ∙ ap (λ z. Some (links_in files placed bodies places (take (length g.literals) rest) z f)) n;
      }
  link_behind rest k (g ∷ gs) (suc i) f l h =
      let left = length-drop (length g.literals) rest in
      let more = link_behind (drop (length g.literals) rest) (suc k) gs i f (omega arith) h in
      let n : suc k + i ≡ k + suc i = omega arith in
      record {
        literals = more.literals;
        many = more.many;
        there = more.there ∙ ap (λ z. Some (links_in files placed bodies places more.literals z f)) n;
      }

  pub link_at : (k : ℕ) (f : FileParts) → length placed + count_literals files ≤ length places → slice_get files k ≡ Some f → HasLinks files placed bodies places (links_of files placed bodies places) k k f
  link_at k f l h =
      let left = length-drop (length placed) places in
      let found = link_behind (drop (length placed) places) 0 files k f (omega arith) h in
      let n : 0 + k ≡ k = omega arith in
      record {
        literals = found.literals;
        many = found.many;
        there = ap (λ ls. slice_get ls k) (links_apart (drop (length placed) places) [] 0 files) ∙ (found.there ∙ ap (λ z. Some (links_in files placed bodies places found.literals z f)) n);
      }

  spared_behind : (main : ℕ) → ((k : ℕ) (e : Entity) → function_number files bodies k e ≢ main) → (rest : List ℕ) (k : ℕ) (fs : List FileParts) → list_all (spares main) (links_behind rest k fs) ≡ true
  spared_behind main spare rest k [] = refl
  spared_behind main spare rest k (f ∷ fs) =
      and_from (list_all (λ (g : ℕ). not (nat_eq g main)) (function_numbers files bodies k [] 0 f.routines)) (list_all (spares main) (links_behind (drop (length f.literals) rest) (suc k) fs))
      (none_is files bodies k main (spare k) f.routines) (spared_behind main spare (drop (length f.literals) rest) (suc k) fs)

  -- no file's name means a function that no name means
  pub links_spare : (main : ℕ) → ((k : ℕ) (e : Entity) → function_number files bodies k e ≢ main) → list_all (spares main) (links_of files placed bodies places) ≡ true
  links_spare main spare = subst (λ ls. list_all (spares main) ls ≡ true) (sym (links_apart (drop (length placed) places) [] 0 files)) (spared_behind main spare (drop (length placed) places) 0 files)
