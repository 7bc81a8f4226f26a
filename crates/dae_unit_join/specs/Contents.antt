-- What the memory holds from address 16 on when main is called (C90 6.5.7 and 6.1.4): 0 but for what is set in the objects,
-- and behind the objects the literals, each with its zero byte.
use Rattle.std.specs.Prelude.{ℕ, suc, ◌+◌, ◌-◌, List, [], ◌∷◌, ◌++◌, length, drop, replicate, Option, Some, None, slice_get, slice_index}
use Rattle.dae_base.specs.Words.{plus, stored}
use Rattle.dae_program.specs.declared.expressions.Expression.{Expression}
use Rattle.dae_program.specs.declared.expressions.Expression.TheVariants as expression
use Rattle.dae_program.specs.declared.program.Links.{Links}
use Rattle.dae_program.specs.declared.statements.Setting.{Setting}
use Rattle.dae_types_typed.specs.declared.files.Datum.{Datum}
use Rattle.dae_types_typed.specs.declared.files.FileParts.{FileParts}
use Rattle.dae_unit.specs.Placing.{first_place}

-- a constant's word, by the addresses of its file's literals and objects
abbrev pub word_of : (addresses : List ℕ) → Expression → ℕ
word_of addresses (expression.Number w) = w
word_of addresses (expression.Address o k) = plus (slice_index addresses o) k
word_of addresses _ = 0

abbrev pub set_at : (addresses : List ℕ) → (start : ℕ) → List ℕ → Setting → List ℕ
set_at addresses start content x = stored x.width ((start + x.offset) - first_place) (word_of addresses x.value) content

abbrev pub set_all : (addresses : List ℕ) → (start : ℕ) → List ℕ → List Setting → List ℕ
set_all addresses start content [] = content
set_all addresses start content (x ∷ xs) = set_all addresses start (set_at addresses start content x) xs

-- an object's address stands behind those of the literals
abbrev pub objects_set : (addresses : List ℕ) → (literals : ℕ) → List ℕ → List Datum → List ℕ
objects_set addresses n content [] = content
objects_set addresses n content (d ∷ ds) =
    objects_set addresses n (set_all addresses (slice_index (drop n addresses) d.object) content d.settings) ds

abbrev pub addresses_in : Option Links → List ℕ
addresses_in None = []
addresses_in (Some links) = links.addresses

abbrev pub files_set : List Links → List ℕ → (file : ℕ) → List FileParts → List ℕ
files_set links content k [] = content
files_set links content k (f ∷ fs) =
    files_set links (objects_set (addresses_in (slice_get links k)) (length f.literals) content f.contents) (suc k) fs

abbrev pub literals_behind : List ℕ → List (List ℕ) → List ℕ
literals_behind content [] = content
literals_behind content (l ∷ ls) = literals_behind ((content ++ l) ++ 0 ∷ []) ls

abbrev pub all_behind : List ℕ → List FileParts → List ℕ
all_behind content [] = content
all_behind content (f ∷ fs) = all_behind (literals_behind content f.literals) fs

-- by the links, and where the objects end
abbrev pub content_of : List FileParts → List Links → (objects_end : ℕ) → List ℕ
content_of files links objects_end = all_behind (files_set links (replicate (objects_end - first_place) 0) 0 files) files
