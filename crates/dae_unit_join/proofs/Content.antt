-- How many bytes the memory holds from address 16 on.
use Rattle.std.proofs.Common.{◌≡◌, ℕ, suc, ◌+◌, ◌-◌, List, [], ◌∷◌, ◌++◌, length, refl, ◌∙◌, arith}
use Rattle.std.proofs.lemmas.List.{length-append, length-replicate}
use Rattle.std.specs.Prelude.{slice_get, slice_index, replicate, drop}
use Rattle.dae_base.proofs.Laws.{stored_length}
use Rattle.dae_program.specs.declared.program.Links.{Links}
use Rattle.dae_program.specs.declared.statements.Setting.{Setting}
use Rattle.dae_types_typed.specs.declared.files.Datum.{Datum}
use Rattle.dae_types_typed.specs.declared.files.FileParts.{FileParts}
use Rattle.dae_unit_join.specs.Contents.{word_of, set_at, set_all, objects_set, addresses_in, files_set, literals_behind, all_behind, content_of}
use Rattle.dae_unit.specs.Placing.{first_place}
use Rattle.dae_unit_join.proofs.Rooms.{literals_bytes, files_bytes}

length-settings : (addresses : List ℕ) (start : ℕ) (content : List ℕ) (xs : List Setting) → length (set_all addresses start content xs) ≡ length content
length-settings addresses start content [] = refl
length-settings addresses start content (x ∷ xs) = length-settings addresses start (set_at addresses start content x) xs ∙ stored_length x.width ((start + x.offset) - first_place) (word_of addresses x.value) content

length-objects_set : (addresses : List ℕ) (n : ℕ) (content : List ℕ) (ds : List Datum) → length (objects_set addresses n content ds) ≡ length content
length-objects_set addresses n content [] = refl
length-objects_set addresses n content (d ∷ ds) =
    length-objects_set addresses n (set_all addresses (slice_index (drop n addresses) d.object) content d.settings) ds
    ∙ length-settings addresses (slice_index (drop n addresses) d.object) content d.settings

length-files_set : (links : List Links) (content : List ℕ) (k : ℕ) (fs : List FileParts) → length (files_set links content k fs) ≡ length content
length-files_set links content k [] = refl
length-files_set links content k (f ∷ fs) =
    length-files_set links (objects_set (addresses_in (slice_get links k)) (length f.literals) content f.contents) (suc k) fs
    ∙ length-objects_set (addresses_in (slice_get links k)) (length f.literals) content f.contents

length-literals : (content : List ℕ) (ls : List (List ℕ)) → length (literals_behind content ls) ≡ length content + literals_bytes ls
length-literals content [] = omega arith
length-literals content (l ∷ ls) =
    let later = length-literals ((content ++ l) ++ 0 ∷ []) ls in
    let one = length-append (content ++ l) (0 ∷ []) in
    let two = length-append content l in
    omega arith

length-behind : (content : List ℕ) (fs : List FileParts) → length (all_behind content fs) ≡ length content + files_bytes fs
length-behind content [] = omega arith
length-behind content (f ∷ fs) =
    let later = length-behind (literals_behind content f.literals) fs in
    let here = length-literals content f.literals in
    omega arith

pub length-content : (files : List FileParts) (links : List Links) (end : ℕ) → length (content_of files links end) ≡ (end - 16) + files_bytes files
length-content files links end =
    let all : length (content_of files links end) ≡ length (files_set links (replicate (end - first_place) 0) 0 files) + files_bytes files = length-behind (files_set links (replicate (end - first_place) 0) 0 files) files in
    let set : length (files_set links (replicate (end - first_place) 0) 0 files) ≡ length (replicate {A = ℕ} (end - first_place) 0) = length-files_set links (replicate (end - first_place) 0) 0 files in
    let zeros : length (replicate {A = ℕ} (end - first_place) 0) ≡ end - 16 = length-replicate (end - first_place) 0 in
    omega arith
