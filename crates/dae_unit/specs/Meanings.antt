-- What the numbers of each file mean: its literals and objects by their addresses, its functions by their numbers in the
-- program, where a number that isn't there stands for none. The functions stand in the order of the files and of the text.
use Rattle.std.specs.Prelude.{ℕ, suc, List, [], ◌∷◌, ◌++◌, length, take, drop, Some, nat_lt, if◌then◌else◌, slice_index, codes}
use Rattle.dae_program.specs.declared.program.Function.{Function}
use Rattle.dae_program.specs.declared.program.Links.{Links}
use Rattle.dae_types_kinds.specs.declared.tables.Entity.{Entity}
use Rattle.dae_types_kinds.specs.declared.tables.Entity.TheVariants as entity
use Rattle.dae_types_kinds.specs.declared.tables.StaticObject.{StaticObject}
use Rattle.dae_types_kinds.specs.declared.tables.Routine.{Routine}
use Rattle.dae_types_file_plans.specs.declared.declarations.Role.TheVariants.{Definition}
use Rattle.dae_types_typed.specs.declared.files.FileParts.{FileParts}
use Rattle.dae_types_typed.specs.declared.files.TypedFunction.{TypedFunction}
use Rattle.dae_types_typed.specs.Linkage.{same_name}
use Rattle.dae_unit.specs.declared.rows.FileRow.{FileRow}
use Rattle.dae_unit.specs.Linkage.{external_name, is_one, entity_of}
use Rattle.dae_unit.specs.Clashes.{is_main}

-- ---- numbers of rows: that of the first one that is an object or a function, and that behind all where none is

abbrev pub number_from : List FileParts → (number file : ℕ) → Entity → List FileRow → ℕ
number_from files n k e [] = n
number_from files n k e (d ∷ ds) = if is_one files k e d.file (entity_of d) then n else number_from files (suc n) k e ds

-- where an object stands, by the declarations that give room and their places; 0 where nothing gives it any
abbrev pub object_place : List FileParts → List FileRow → (places : List ℕ) → (file : ℕ) → Entity → ℕ
object_place files placed places k e =
    let n = number_from files 0 k e placed in
    if nat_lt n (length placed) then slice_index places n else 0

abbrev pub object_places : List FileParts → List FileRow → (places : List ℕ) → (file : ℕ) → List ℕ → (object : ℕ) → List StaticObject → List ℕ
object_places files placed places k done o [] = done
object_places files placed places k done o (x ∷ xs) =
    object_places files placed places k (done ++ object_place files placed places k (entity.Object o) ∷ []) (suc o) xs

-- ---- functions

abbrev pub body_row : ℕ → TypedFunction → FileRow
body_row k f = record { file = k; declaration = record { entity = entity.Function f.routine; place = f.place; role = Definition } }

abbrev pub body_rows : List FileRow → (file : ℕ) → List TypedFunction → List FileRow
body_rows done k [] = done
body_rows done k (f ∷ fs) = body_rows (done ++ body_row k f ∷ []) k fs

abbrev pub bodies_from : List FileRow → (file : ℕ) → List FileParts → List FileRow
bodies_from done k [] = done
bodies_from done k (f ∷ fs) = bodies_from (body_rows done k f.functions) (suc k) fs

-- the functions with bodies of all files
abbrev pub bodies_of : List FileParts → List FileRow
bodies_of files = bodies_from [] 0 files

-- nobody calls main, so that its name means no function
unfoldable pub function_number : List FileParts → (bodies : List FileRow) → (file : ℕ) → Entity → ℕ
function_number files bodies k e =
    if same_name (external_name files k e) (Some (codes "main")) then length bodies else number_from files 0 k e bodies

abbrev pub function_numbers : List FileParts → (bodies : List FileRow) → (file : ℕ) → List ℕ → (routine : ℕ) → List Routine → List ℕ
function_numbers files bodies k done r [] = done
function_numbers files bodies k done r (x ∷ xs) =
    function_numbers files bodies k (done ++ function_number files bodies k (entity.Function r) ∷ []) (suc r) xs

abbrev pub main_from : List FileParts → (number : ℕ) → (bodies : List FileRow) → ℕ
main_from files n [] = n
main_from files n (d ∷ ds) = if is_main files d then n else main_from files (suc n) ds

-- ---- the meanings of each file's numbers. Literals have the places behind the objects, those of each file behind those of
-- the files before

abbrev pub links_in : List FileParts → (placed bodies : List FileRow) → (places literals : List ℕ) → (file : ℕ) → FileParts → Links
links_in files placed bodies places literals k f =
    record {
      addresses = object_places files placed places k literals 0 f.objects;
      functions = function_numbers files bodies k [] 0 f.routines;
    }

abbrev pub links_from :
    List FileParts → (placed bodies : List FileRow) → (places rest : List ℕ) → List Links → (file : ℕ) → List FileParts → List Links
links_from files placed bodies places rest done k [] = done
links_from files placed bodies places rest done k (f ∷ fs) =
    links_from files placed bodies places (drop (length f.literals) rest)
    (done ++ links_in files placed bodies places (take (length f.literals) rest) k f ∷ []) (suc k) fs

-- by the declarations that give room, the functions with bodies, and the places of objects and literals
abbrev pub links_of : List FileParts → (placed bodies : List FileRow) → (places : List ℕ) → List Links
links_of files placed bodies places = links_from files placed bodies places (drop (length placed) places) [] 0 files

-- ---- the functions of the program

abbrev pub function_of : ℕ → TypedFunction → Function
function_of k f =
    record {
      name = f.name;
      place = f.place;
      file = k;
      parameters = f.parameters;
      variables = f.variables;
      frame = f.frame;
      body = f.body;
    }

abbrev pub functions_in : List Function → (file : ℕ) → List TypedFunction → List Function
functions_in done k [] = done
functions_in done k (f ∷ fs) = functions_in (done ++ function_of k f ∷ []) k fs

abbrev pub functions_from : List Function → (file : ℕ) → List FileParts → List Function
functions_from done k [] = done
functions_from done k (f ∷ fs) = functions_from (functions_in done k f.functions) (suc k) fs
