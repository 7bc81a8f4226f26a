-- Numbers of rows and of functions: what a number leads to.
use Rattle.std.proofs.Common.{◌≡◌, ◌≢◌, ℕ, suc, ◌+◌, ◌<◌, ◌≤◌, Bool, true, false, ◌&&◌, ◌||◌, inl, inr, List, [], ◌∷◌, length, Some, refl, sym, ap, subst, ◌∙◌, arith}
use Rattle.std.proofs.lemmas.Bool.{false≢true, and_parts}
use Rattle.std.specs.Prelude.{slice_get, if◌then◌else◌, codes}
use Rattle.std.specs.List.{list_any}
use Rattle.dae_types_kinds.specs.declared.tables.Entity.{Entity}
use Rattle.dae_types_typed.specs.declared.files.FileParts.{FileParts}
use Rattle.dae_types_typed.specs.Linkage.{is_function, same_name}
use Rattle.dae_unit.specs.declared.rows.FileRow.{FileRow}
use Rattle.dae_unit.specs.Linkage.{entity_of, defines, is_one, external_name}
use Rattle.dae_unit.specs.Clashes.{is_main, name_of}
use Rattle.dae_unit.specs.Meanings.{number_from, main_from, function_number}
use Rattle.dae_unit_join.proofs.Ones.{one_cases, names_equal}

-- a row that passes a test, by its place in the list and behind a number
pub record IsFound (p : FileRow → Bool) (ds : List FileRow) (n number : ℕ) : Type 0 where
  pub index : ℕ
  pub row : FileRow
  pub at : number ≡ n + index
  pub within : index < length ds
  pub there : slice_get ds index ≡ Some row
  pub passes : p row ≡ true

further : (p : FileRow → Bool) (d : FileRow) (ds : List FileRow) (n number : ℕ) → IsFound p ds (suc n) number → IsFound p (d ∷ ds) n number
further p d ds n number f =
    let a = f.at in
    let w = f.within in
    record { index = suc f.index; row = f.row; at = omega arith; within = omega arith; there = f.there; passes = f.passes }

-- the number of the first row that passes
abbrev pub first_from : (FileRow → Bool) → ℕ → List FileRow → ℕ
first_from p n [] = n
first_from p n (d ∷ ds) = if p d then n else first_from p (suc n) ds

pub found_first : (p : FileRow → Bool) (n : ℕ) (ds : List FileRow) → list_any p ds ≡ true → IsFound p ds n (first_from p n ds)
found_first p n [] h = absurd (false≢true h)
found_first p n (d ∷ ds) h = by (p d) refl h (found_first p (suc n) ds)
  where
    by : (b : Bool) → p d ≡ b → (b || list_any p ds) ≡ true → (list_any p ds ≡ true → IsFound p ds (suc n) (first_from p (suc n) ds)) → IsFound p (d ∷ ds) n (if b then n else first_from p (suc n) ds)
    by true e h later = record { index = 0; row = d; at = omega arith; within = omega arith; there = refl; passes = e }
    by false e h later = further p d ds n (first_from p (suc n) ds) (later h)

first_bound : (p : FileRow → Bool) (n : ℕ) (ds : List FileRow) → n ≤ first_from p n ds
first_bound p n [] = omega arith
first_bound p n (d ∷ ds) = by (p d) (first_bound p (suc n) ds)
  where
    by : (b : Bool) → suc n ≤ first_from p (suc n) ds → n ≤ (if b then n else first_from p (suc n) ds)
    by true later = omega arith
    by false later = omega arith

pub number_first : (files : List FileParts) (n k : ℕ) (e : Entity) (ds : List FileRow) → number_from files n k e ds ≡ first_from (λ (d : FileRow). is_one files k e d.file (entity_of d)) n ds
number_first files n k e [] = refl
number_first files n k e (d ∷ ds) = ap (λ m. if is_one files k e d.file (entity_of d) then n else m) (number_first files (suc n) k e ds)

pub main_first : (files : List FileParts) (n : ℕ) (ds : List FileRow) → main_from files n ds ≡ first_from (is_main files) n ds
main_first files n [] = refl
main_first files n (d ∷ ds) = ap (λ m. if is_main files d then n else m) (main_first files (suc n) ds)

-- two tests that find one number pass one row
first_both : (p q : FileRow → Bool) (n : ℕ) (ds : List FileRow) → list_any p ds ≡ true → first_from p n ds ≡ first_from q n ds → (d : FileRow) × (p d ≡ true) × (q d ≡ true)
first_both p q n [] h e = absurd (false≢true h)
first_both p q n (d ∷ ds) h e = by (p d) refl (q d) refl h e (first_both p q (suc n) ds) (first_bound p (suc n) ds) (first_bound q (suc n) ds)
  where
    by : (b : Bool) → p d ≡ b → (c : Bool) → q d ≡ c → (b || list_any p ds) ≡ true → (if b then n else first_from p (suc n) ds) ≡ (if c then n else first_from q (suc n) ds) → (list_any p ds ≡ true → first_from p (suc n) ds ≡ first_from q (suc n) ds → (d : FileRow) × (p d ≡ true) × (q d ≡ true)) → suc n ≤ first_from p (suc n) ds → suc n ≤ first_from q (suc n) ds → (d : FileRow) × (p d ≡ true) × (q d ≡ true)
    by true x true y h e later i j = (d, x, y)
    by true x false y h e later i j = absurd (omega arith)
    by false x true y h e later i j = absurd (omega arith)
    by false x false y h e later i j = later h e

pub main_parts : (files : List FileParts) (d : FileRow) → is_main files d ≡ true → (defines d ≡ true) × (is_function (entity_of d) ≡ true) × (same_name (name_of files d) (Some (codes "main")) ≡ true)
unfolding is_main
main_parts files d h =
    let parts = and_parts (defines d && is_function (entity_of d)) (same_name (name_of files d) (Some (codes "main"))) h in
    let more = and_parts (defines d) (is_function (entity_of d)) parts.0 in
    (more.0, more.1, parts.1)

-- no name means main
pub number_spares : (files : List FileParts) (bodies : List FileRow) (k : ℕ) (e : Entity) → list_any (is_main files) bodies ≡ true → function_number files bodies k e ≢ main_from files 0 bodies
unfolding function_number
number_spares files bodies k e has same = by (same_name (external_name files k e) (Some (codes "main"))) refl same
  where
    called : (d : FileRow) → is_main files d ≡ true → is_one files k e d.file (entity_of d) ≡ true → same_name (external_name files k e) (Some (codes "main")) ≡ true
    called d m one =
        let name = (main_parts files d m).2 in
        elim (one_cases files k e d.file (entity_of d) one) [
          | inl a ↦ subst (λ z. same_name z (Some (codes "main")) ≡ true) (sym (names_equal (external_name files k e) (external_name files d.file (entity_of d)) a)) name
          | inr a ↦ subst (λ z. same_name (external_name files z e) (Some (codes "main")) ≡ true) (sym a.0) (subst (λ z. same_name (external_name files d.file z) (Some (codes "main")) ≡ true) (sym a.1) name)
        ]

    by : (b : Bool) → same_name (external_name files k e) (Some (codes "main")) ≡ b → (if b then length bodies else number_from files 0 k e bodies) ≡ main_from files 0 bodies → ⊥
    by true q same =
        let f = found_first (is_main files) 0 bodies has in
        let at = f.at in
        let within = f.within in
        let e = main_first files 0 bodies in
        absurd (omega arith)
    by false q same =
        let both = first_both (is_main files) (λ (d : FileRow). is_one files k e d.file (entity_of d)) 0 bodies has (sym (main_first files 0 bodies) ∙ sym same ∙ number_first files 0 k e bodies) in
        false≢true (sym q ∙ called both.0 both.1 both.2)
