-- What is kept of declarations that stand behind others, by name.
use Rattle.std.specs.Prelude.{◌≡◌, ℕ, Bool, ◌&&◌, List, [], ◌∷◌, Option, Some, None, Vec, find, reverse, if◌then◌else◌}
use Rattle.std.specs.Borrow.{Bor}
use Rattle.std.specs.declared.alloc.Global.{Global}
use Rattle.std.specs.Map.{lookup}
use Rattle.std.specs.Str.{bytes_eq}
use Rattle.dae_types_typed.specs.declared.files.FileParts.{FileParts}
use Rattle.dae_types_typed.specs.Linkage.{same_name}
use Rattle.dae_unit.specs.declared.rows.FileRow.{FileRow}
use Rattle.dae_unit.specs.Clashes.{name_of, types_differ}
use Rattle.dae_unit.specs.Linkage.{declares_same, defines}

-- a declaration with one that it clashes with, or else what was found
abbrev pub nearest : FileRow → Option FileRow → Option (FileRow × FileRow) → Option (FileRow × FileRow)
nearest d None found = found
nearest d (Some e) found = Some (d, e)

-- a name's entry
abbrev pub entry_of_name : {X : Type 0} → List (Bor (List ℕ) × X) → Bor (List ℕ) → Option X
entry_of_name entries name = lookup (λ k. bytes_eq name.now k.now) entries

abbrev pub is_called : List FileParts → Bor (List ℕ) → FileRow → Bool
is_called files name d = same_name (Some name.now) (name_of files d)

-- of each name this is the first of its definitions among declarations
abbrev pub AreNextDefinitions : List FileParts → List FileRow → List (Bor (List ℕ) × FileRow) → Type 0
AreNextDefinitions files ds entries = (name : Bor (List ℕ)) → entry_of_name entries name ≡ find (λ d. defines d && is_called files name d) ds

abbrev pub items_or_none : Option (Vec FileRow Global) → List FileRow
items_or_none None = []
items_or_none (Some v) = v.items

-- of each name the first declaration with another type than a given one is the last such of the name's entry
abbrev pub AreLater : List FileParts → List FileRow → List (Bor (List ℕ) × Vec FileRow Global) → Type 0
AreLater files ds entries =
    (name : Bor (List ℕ)) (x : FileRow) →
    find (types_differ files x) (reverse (items_or_none (entry_of_name entries name))) ≡ find (λ d. is_called files name d && types_differ files x d) ds

-- a declaration stands before others, in place of the first where both declare one object or function of one file
abbrev pub put_first : FileRow → List FileRow → List FileRow
put_first d [] = d ∷ []
put_first d (x ∷ xs) = if declares_same x d then d ∷ xs else d ∷ (x ∷ xs)
