-- Files that join and files that don't, by C90.
use Rattle.std.proofs.Common.{◌≡◌, ℕ, List, [], ◌∷◌, ◌++◌, Some, None, Bool, true, false, refl}
use Rattle.std.specs.Prelude.{codes}
use Rattle.dae_base.specs.declared.Place.{Place}
use Rattle.dae_base.specs.declared.Width.TheVariants.{B4}
use Rattle.dae_program.specs.declared.expressions.Expression.TheVariants as expression
use Rattle.dae_program.specs.declared.program.Links.{Links}
use Rattle.dae_types_kinds.specs.declared.types.Shape.{Shape}
use Rattle.dae_types_kinds.specs.declared.types.Shape.TheVariants as shape
use Rattle.dae_types_kinds.specs.declared.tables.Entity.TheVariants as entity
use Rattle.dae_types_kinds.specs.declared.tables.StaticObject.{StaticObject}
use Rattle.dae_types_kinds.specs.declared.tables.Routine.{Routine}
use Rattle.dae_types_kinds.specs.declared.tables.EntityUse.{EntityUse}
use Rattle.dae_types_kinds.specs.Types.{first_shapes, shape_of, layout_of, layout_at}
use Rattle.dae_types_file_plans.specs.declared.declarations.FileDeclaration.{FileDeclaration}
use Rattle.dae_types_file_plans.specs.declared.declarations.Role.{Role}
use Rattle.dae_types_file_plans.specs.declared.declarations.Role.TheVariants.{Reference, Tentative, Definition}
use Rattle.dae_types_file_plans.specs.Files.{header_shapes}
use Rattle.dae_types_typed.specs.declared.files.Datum.{Datum}
use Rattle.dae_types_typed.specs.declared.files.FileParts.{FileParts}
use Rattle.dae_types_typed.specs.declared.files.TypedFunction.{TypedFunction}
use Rattle.dae_unit.specs.declared.errors.JoinError.TheVariants.{DefinedTwice, TypesDiffer, NotDefined, NoMain, DataTooLarge}
use Rattle.dae_unit.specs.Linkage.{external_name, is_one, rows_of}
use Rattle.dae_unit.specs.Across.{same_across}
use Rattle.dae_unit.specs.Clashes.{clashes, gives, is_missing, is_main}
use Rattle.dae_unit.specs.Placing.{is_first, layout_of_row, frames_begin}
use Rattle.dae_unit.specs.Meanings.{bodies_of, links_of, function_number}
use Rattle.dae_unit_join.specs.Contents.{content_of}
use Rattle.dae_unit.specs.Joining.{cause}
use Rattle.dae_unit_join.specs.Joined.{placed_in, places_in, objects_end}

abbrev at : (file line column : ℕ) → Place
at f n k = record { file = f; line = n; col = k }

abbrev object : (name type : ℕ) → (own : Bool) → StaticObject
object n t own = record { name = n; type_id = t; own = own; initialised = false; placed = None }

abbrev routine : (name type : ℕ) → Routine
routine n t = record { name = n; type_id = t; own = false; defined = false; library = None }

abbrev declares : (object : ℕ) → Place → Role → FileDeclaration
declares o p role = record { entity = entity.Object o; place = p; role = role }

abbrev declares_function : (routine : ℕ) → Place → Role → FileDeclaration
declares_function r p role = record { entity = entity.Function r; place = p; role = role }

-- what is set in an int
abbrev sets : (object word : ℕ) → Datum
sets o w = record { object = o; settings = record { offset = 0; width = B4; value = expression.Number w } ∷ [] }

-- an empty body
abbrev body : (routine : ℕ) → List ℕ → Place → TypedFunction
body r name p = record { routine = r; name = name; place = p; parameters = []; variables = 1; frame = 0; body = [] }

-- a file of the types that are there from the start and of others
abbrev file : List Shape → List StaticObject → List Routine → List FileDeclaration → List Datum → List TypedFunction → List EntityUse → List (List ℕ) → List (List ℕ) → FileParts
file shapes objects routines declarations contents functions uses names literals =
    record {
      shapes = (first_shapes ++ header_shapes) ++ shapes;
      structures = [];
      components = [];
      objects = objects;
      routines = routines;
      declarations = declarations;
      contents = contents;
      functions = functions;
      uses = uses;
      names = names;
      literals = literals;
    }

-- int (void), behind the types of every file
abbrev main_shape : Shape
main_shape = shape.Function 6 8

abbrev n_and_main : List (List ℕ)
n_and_main = codes "n" ∷ codes "main" ∷ []

-- int n=5;
abbrev defining : FileParts
defining = file [] (object 0 6 false ∷ []) [] (declares 0 (at 0 1 5) Definition ∷ []) (sets 0 5 ∷ []) [] [] (codes "n" ∷ []) []

-- static int n=5;
abbrev hiding : FileParts
hiding = file [] (object 0 6 true ∷ []) [] (declares 0 (at 0 1 12) Definition ∷ []) (sets 0 5 ∷ []) [] [] (codes "n" ∷ []) []

-- int n;
abbrev tentative : FileParts
tentative = file [] (object 0 6 false ∷ []) [] (declares 0 (at 0 1 5) Tentative ∷ []) [] [] [] (codes "n" ∷ []) []

-- behind a line that includes a header: extern int n;int main(void){printf("%d\n",n);return 0;}
abbrev using : ℕ → FileParts
using k = file (main_shape ∷ []) (object 0 6 false ∷ []) (routine 1 16 ∷ []) (declares 0 (at k 2 12) Reference ∷ declares_function 0 (at k 2 18) Definition ∷ []) [] (body 0 (codes "main") (at k 2 18) ∷ []) (record { entity = entity.Object 0; place = at k 2 43 } ∷ []) n_and_main ((37 ∷ 100 ∷ 10 ∷ []) ∷ [])

-- int n=6;int main(void){return 0;}
abbrev defining_again : FileParts
defining_again = file (main_shape ∷ []) (object 0 6 false ∷ []) (routine 1 16 ∷ []) (declares 0 (at 1 1 5) Definition ∷ declares_function 0 (at 1 1 13) Definition ∷ []) (sets 0 6 ∷ []) (body 0 (codes "main") (at 1 1 13) ∷ []) [] n_and_main []

abbrev contents : List FileParts → List ℕ
contents files = content_of files (links_of files (placed_in files) (bodies_of files) (places_in files)) (objects_end files)

abbrev links : List FileParts → List Links
links files = links_of files (placed_in files) (bodies_of files) (places_in files)

abbrev frames : List FileParts → ℕ
frames files = frames_begin files (rows_of files)

-- An empty file
empty_has_no_main : cause (file [] [] [] [] [] [] [] [] [] ∷ []) 1048576 ≡ Some NoMain
unfolding external_name is_one same_across clashes gives is_missing is_main is_first layout_of_row shape_of layout_of layout_at function_number
empty_has_no_main = refl

-- An object of one file that another uses, and the literal behind it
pair_joins : cause (defining ∷ using 1 ∷ []) 1048576 ≡ None
unfolding external_name is_one same_across clashes gives is_missing is_main is_first layout_of_row shape_of layout_of layout_at function_number
pair_joins = refl

pair_content : contents (defining ∷ using 1 ∷ []) ≡ 5 ∷ 0 ∷ 0 ∷ 0 ∷ 37 ∷ 100 ∷ 10 ∷ 0 ∷ []
unfolding external_name is_one same_across clashes gives is_missing is_main is_first layout_of_row shape_of layout_of layout_at function_number
pair_content = refl

-- The literal stands at 20, and n at 16; main is no function that a number means
pair_links : links (defining ∷ using 1 ∷ []) ≡ record { addresses = 16 ∷ []; functions = [] } ∷ record { addresses = 20 ∷ 16 ∷ []; functions = 1 ∷ [] } ∷ []
unfolding external_name is_one same_across clashes gives is_missing is_main is_first layout_of_row shape_of layout_of layout_at function_number
pair_links = refl

pair_frames : frames (defining ∷ using 1 ∷ []) ≡ 24
unfolding external_name is_one same_across clashes gives is_missing is_main is_first layout_of_row shape_of layout_of layout_at function_number
pair_frames = refl

-- The second file alone
use_is_missing : cause (using 0 ∷ []) 1048576 ≡ Some (NotDefined (at 0 2 43))
unfolding external_name is_one same_across clashes gives is_missing is_main is_first layout_of_row shape_of layout_of layout_at function_number
use_is_missing = refl

-- A tentative definition is one
tentative_defines : cause (tentative ∷ using 1 ∷ []) 1048576 ≡ None
unfolding external_name is_one same_across clashes gives is_missing is_main is_first layout_of_row shape_of layout_of layout_at function_number
tentative_defines = refl

-- A static name is its file's own
static_is_missing : cause (hiding ∷ using 1 ∷ []) 1048576 ≡ Some (NotDefined (at 1 2 43))
unfolding external_name is_one same_across clashes gives is_missing is_main is_first layout_of_row shape_of layout_of layout_at function_number
static_is_missing = refl

-- int n=5; and int n=6;
defined_twice : cause (defining ∷ defining_again ∷ []) 1048576 ≡ Some (DefinedTwice (at 0 1 5) (at 1 1 5))
unfolding external_name is_one same_across clashes gives is_missing is_main is_first layout_of_row shape_of layout_of layout_at function_number
defined_twice = refl

-- A static one beside it is another object, which stands first
static_beside : contents (hiding ∷ defining_again ∷ []) ≡ 5 ∷ 0 ∷ 0 ∷ 0 ∷ 6 ∷ 0 ∷ 0 ∷ 0 ∷ []
unfolding external_name is_one same_across clashes gives is_missing is_main is_first layout_of_row shape_of layout_of layout_at function_number
static_beside = refl

-- int f(int x);int main(void){return f(1);} and int f(char x){return x;}
types_differ : cause (file (main_shape ∷ []) [] (routine 0 13 ∷ routine 1 16 ∷ []) (declares_function 0 (at 0 1 5) Reference ∷ declares_function 1 (at 0 1 18) Definition ∷ []) [] (body 1 (codes "main") (at 0 1 18) ∷ []) (record { entity = entity.Function 0; place = at 0 1 36 } ∷ []) (codes "f" ∷ codes "main" ∷ []) [] ∷ file (shape.Parameter 8 1 ∷ shape.Function 6 16 ∷ []) [] (routine 0 17 ∷ []) (declares_function 0 (at 1 1 5) Definition ∷ []) [] (body 0 (codes "f") (at 1 1 5) ∷ []) [] (codes "f" ∷ []) [] ∷ []) 1048576 ≡ Some (TypesDiffer (at 0 1 5) (at 1 1 5))
unfolding external_name is_one same_across clashes gives is_missing is_main is_first layout_of_row shape_of layout_of layout_at function_number
types_differ = refl

-- int a[1048576];int main(void){return 0;}
data_are_too_large : cause (file (main_shape ∷ shape.Array 6 (Some 1048576) ∷ []) (object 0 17 false ∷ []) (routine 1 16 ∷ []) (declares 0 (at 0 1 5) Tentative ∷ declares_function 0 (at 0 1 20) Definition ∷ []) [] (body 0 (codes "main") (at 0 1 20) ∷ []) [] n_and_main [] ∷ []) 1048576 ≡ Some (DataTooLarge 4194320)
unfolding external_name is_one same_across clashes gives is_missing is_main is_first layout_of_row shape_of layout_of layout_at function_number
data_are_too_large = refl
