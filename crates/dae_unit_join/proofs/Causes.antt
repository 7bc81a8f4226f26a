-- Where no cause is told, none is there.
use Rattle.std.proofs.Common.{◌≡◌, ℕ, ◌≤◌, Bool, true, false, List, Option, Some, None, refl, arith}
use Rattle.std.proofs.lemmas.Bool.Decides.{nat_tests}
use Rattle.std.specs.Prelude.{nat_le, if◌then◌else◌}
use Rattle.std.specs.List.{list_any}
use Rattle.dae_types_kinds.specs.declared.tables.EntityUse.{EntityUse}
use Rattle.dae_types_typed.specs.declared.files.FileParts.{FileParts}
use Rattle.dae_unit.specs.declared.errors.Clash.TheVariants.{Definitions, Types}
use Rattle.dae_unit.specs.declared.errors.JoinError.{JoinError}
use Rattle.dae_unit.specs.declared.errors.JoinError.TheVariants.{DataTooLarge}
use Rattle.dae_unit.specs.declared.rows.FileRow.{FileRow}
use Rattle.dae_unit.specs.Linkage.{rows_of}
use Rattle.dae_unit.specs.Clashes.{first_clash, first_missing, is_main}
use Rattle.dae_unit.specs.Joining.{twice, differing, missing, no_main, too_large, or_else, cause}
use Rattle.dae_unit.specs.Placing.{frames_begin}

none_both : (x y : Option JoinError) → or_else x y ≡ None → (x ≡ None) × (y ≡ None)
none_both None y h = (refl, h)
none_both (Some x) y h = absurd cc

none_differs : (x : Option (FileRow × FileRow)) → differing x ≡ None → x ≡ None
none_differs None h = refl
none_differs (Some x) h = absurd cc

none_missing : (x : Option EntityUse) → missing x ≡ None → x ≡ None
none_missing None h = refl
none_missing (Some x) h = absurd cc

has_main : (b : Bool) → no_main b ≡ None → b ≡ true
has_main true h = refl
has_main false h = absurd cc

within : (memory end : ℕ) → too_large memory end ≡ None → end ≤ memory
within memory end h = by (nat_le end memory) refl h
  where
    by : (b : Bool) → nat_le end memory ≡ b → (let o : Option JoinError = if b then None else Some (DataTooLarge end) in o ≡ None) → end ≤ memory
    by true e h = grind (arith, nat_tests)
    by false e h = absurd cc

pub record HasNoCause (files : List FileParts) (memory : ℕ) : Type 0 where
  pub types : first_clash files Types (rows_of files) ≡ None
  pub uses : first_missing files (rows_of files) 0 files ≡ None
  pub main : list_any (is_main files) (rows_of files) ≡ true
  pub fits : frames_begin files (rows_of files) ≤ memory

pub no_cause : (files : List FileParts) (memory : ℕ) → cause files memory ≡ None → HasNoCause files memory
no_cause files memory h =
    let rows = rows_of files in
    let one = none_both (twice (first_clash files Definitions rows)) (or_else (differing (first_clash files Types rows)) (or_else (missing (first_missing files rows 0 files)) (or_else (no_main (list_any (is_main files) rows)) (too_large memory (frames_begin files rows))))) h in
    let two = none_both (differing (first_clash files Types rows)) (or_else (missing (first_missing files rows 0 files)) (or_else (no_main (list_any (is_main files) rows)) (too_large memory (frames_begin files rows)))) one.1 in
    let three = none_both (missing (first_missing files rows 0 files)) (or_else (no_main (list_any (is_main files) rows)) (too_large memory (frames_begin files rows))) two.1 in
    let four = none_both (no_main (list_any (is_main files) rows)) (too_large memory (frames_begin files rows)) three.1 in
    record {
      types = none_differs (first_clash files Types rows) two.0;
      uses = none_missing (first_missing files rows 0 files) three.0;
      main = has_main (list_any (is_main files) rows) four.0;
      fits = within memory (frames_begin files rows) four.1;
    }
