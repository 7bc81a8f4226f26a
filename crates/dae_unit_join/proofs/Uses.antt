-- What a file uses is declared in it, and some declaration gives it room or a body.
use Rattle.std.proofs.Common.{◌≡◌, ℕ, zero, suc, ◌+◌, true, false, List, [], ◌∷◌, Option, Some, None, refl, sym, ap, subst, ◌∙◌, arith}
use Rattle.std.proofs.lemmas.Bool.{and_parts, not-true}
use Rattle.std.specs.Prelude.{slice_get, find, not}
use Rattle.std.specs.List.{list_any}
use Rattle.dae_types_kinds.specs.declared.tables.Entity.{Entity}
use Rattle.dae_types_kinds.specs.declared.tables.EntityUse.{EntityUse}
use Rattle.dae_types_file_plans.specs.declared.declarations.FileDeclaration.{FileDeclaration}
use Rattle.dae_types_typed.specs.declared.files.FileParts.{FileParts}
use Rattle.dae_types_typed.specs.Linkage.{is_function}
use Rattle.dae_types_typed.specs.Sound.{is_used, is_use_of, is_declared, same_entity, IsSound, IsSoundDeclaration}
use Rattle.dae_unit.specs.declared.errors.Clash.TheVariants.{Types}
use Rattle.dae_unit.specs.declared.rows.FileRow.{FileRow}
use Rattle.dae_unit.specs.Linkage.{entity_of, refers, is_one, rows_of}
use Rattle.dae_unit.specs.Clashes.{first_clash, first_missing, is_missing, is_library_in, gives}
use Rattle.dae_unit.proofs.LawsOfEntities.{entities_same}
use Rattle.dae_unit_join.proofs.Among.{Among, any_among, all_among}
use Rattle.dae_unit_join.proofs.Rows.{row, IsRow, has_row, none_found}
use Rattle.dae_unit_join.proofs.Ones.{AreRelated, related, kinds_alike, then_second}

-- ---- declared

pub record IsDeclaredAs (f : FileParts) (e : Entity) : Type 0 where
  pub declaration : FileDeclaration
  pub among : Among declaration f.declarations
  pub entity : declaration.entity ≡ e

pub declared : (f : FileParts) (e : Entity) → is_declared f e ≡ true → IsDeclaredAs f e
declared f e h =
    let found = any_among (λ (d : FileDeclaration). same_entity e d.entity) f.declarations h in
    record { declaration = found.0; among = found.1; entity = sym (entities_same e (let d = found.0 in d.entity) found.2) }

-- a row that is one with what a file declares has its type and its kind
pub record IsOneOf (f : FileParts) (e : Entity) (g : FileParts) (y : FileRow) : Type 0 where
  pub relation : AreRelated f g e (entity_of y)
  pub kind : is_function e ≡ is_function (entity_of y)

pub one_of : (files : List FileParts) → first_clash files Types (rows_of files) ≡ None → (k : ℕ) (f : FileParts) (e : Entity) → slice_get files k ≡ Some f → IsSound f → IsDeclaredAs f e → (y : FileRow) (r : IsRow files y) → Among y (rows_of files) → is_one files k e y.file (entity_of y) ≡ true → IsOneOf f e r.parts y
one_of files none k f e h sf d y r m one =
    let same : is_one files k (let x = d.declaration in x.entity) y.file (entity_of y) ≡ true = subst (λ z. is_one files k z y.file (entity_of y) ≡ true) (sym d.entity) one in
    let rel = related files none (row k d.declaration) y f r.parts h r.file sf (has_row files k f d.declaration h d.among) m same in
    let kind = kinds_alike f r.parts d.declaration y.declaration (all_among (IsSoundDeclaration f) d.declaration f.declarations sf.declarations d.among) (all_among (IsSoundDeclaration r.parts) y.declaration (let g = r.parts in g.declarations) r.sound.declarations r.among) rel in
    record {
      relation = subst (λ z. AreRelated f r.parts z (entity_of y)) d.entity rel;
      kind = ap is_function (sym d.entity) ∙ kind;
    }

-- ---- given

missing_from : (files : List FileParts) (rows : List FileRow) (k : ℕ) (fs : List FileParts) (i : ℕ) (f : FileParts) → first_missing files rows k fs ≡ None → slice_get fs i ≡ Some f → find (is_missing files rows (k + i)) f.uses ≡ None
missing_from files rows k [] i f none h = absurd cc
missing_from files rows k (g ∷ gs) i f none h = by (find (is_missing files rows k) g.uses) refl none i h (missing_from files rows (suc k) gs)
  where
    by : (o : Option EntityUse) → find (is_missing files rows k) g.uses ≡ o → (let u : Option EntityUse = elim o [ None ↦ first_missing files rows (suc k) gs | Some u ↦ Some u ] in u ≡ None) → (i : ℕ) → slice_get (g ∷ gs) i ≡ Some f → ((i : ℕ) (f : FileParts) → first_missing files rows (suc k) gs ≡ None → slice_get gs i ≡ Some f → find (is_missing files rows (suc k + i)) f.uses ≡ None) → find (is_missing files rows (k + i)) f.uses ≡ None
    by (Some u) e none i h later = absurd cc
    by None e none zero h later = let q : g ≡ f = cc in let n : k ≡ k + 0 = omega arith in subst (λ z. find (is_missing files rows z) f.uses ≡ None) n (subst (λ (z : FileParts). find (is_missing files rows k) z.uses ≡ None) q e)
    by None e none (suc i) h later = let n : suc k + i ≡ k + suc i = omega arith in subst (λ z. find (is_missing files rows z) f.uses ≡ None) n (later i f none h)

is_given : (files : List FileParts) (rows : List FileRow) (k : ℕ) (u : EntityUse) (f : FileParts) → slice_get files k ≡ Some f → is_library_in (Some f) u.entity ≡ false → is_missing files rows k u ≡ false → list_any (gives files k u.entity) rows ≡ true
unfolding is_missing
is_given files rows k u f h library none =
    then_second (is_library_in (slice_get files k) u.entity) (list_any (gives files k u.entity) rows) (ap (λ o. is_library_in o u.entity) h ∙ library) none

-- a declaration that gives what a file uses
pub record IsGiven (files : List FileParts) (k : ℕ) (e : Entity) : Type 0 where
  pub giver : FileRow
  pub among : Among giver (rows_of files)
  pub room : refers giver ≡ false
  pub one : is_one files k e giver.file (entity_of giver) ≡ true

giver_parts : (files : List FileParts) (k : ℕ) (e : Entity) (y : FileRow) → gives files k e y ≡ true → (refers y ≡ false) × (is_one files k e y.file (entity_of y) ≡ true)
unfolding gives
giver_parts files k e y h = let parts = and_parts (not (refers y)) (is_one files k e y.file (entity_of y)) h in (not-true (refers y) parts.0, parts.1)

pub given : (files : List FileParts) (k : ℕ) (f : FileParts) (e : Entity) → first_missing files (rows_of files) 0 files ≡ None → slice_get files k ≡ Some f → is_used f.uses e ≡ true → is_library_in (Some f) e ≡ false → IsGiven files k e
given files k f e none h used library =
    let found = any_among (is_use_of e) f.uses used in
    let u = found.0 in
    let same : e ≡ u.entity = entities_same e u.entity found.2 in
    let n : 0 + k ≡ k = omega arith in
    let all : find (is_missing files (rows_of files) k) f.uses ≡ None = subst (λ z. find (is_missing files (rows_of files) z) f.uses ≡ None) n (missing_from files (rows_of files) 0 files k f none h) in
    let not_missing = none_found (is_missing files (rows_of files) k) f.uses u all found.1 in
    let any = is_given files (rows_of files) k u f h (subst (λ z. is_library_in (Some f) z ≡ false) same library) not_missing in
    let y = any_among (gives files k u.entity) (rows_of files) any in
    let parts = giver_parts files k u.entity y.0 y.2 in
    record { giver = y.0; among = y.1; room = parts.0; one = subst (λ z. is_one files k z (let d = y.0 in d.file) (entity_of y.0) ≡ true) (sym same) parts.1 }
