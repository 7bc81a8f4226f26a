-- The table of type rules: one definition a rule, which says at which sites it is broken. Rules are named by Rule; what each
-- is for stands beside it.
use Rattle.std.specs.Prelude.{◌≡◌, ◌⊎◌, ℕ, ◌^◌, List, [], ◌∷◌, Option, Some, None, is_none, is_some, slice_get, Bool, true, false, ◌&&◌, ◌||◌, not, nat_eq, nat_lt, if◌then◌else◌}
use Rattle.dae_tree.specs.declared.words.Keyword.{Keyword}
use Rattle.dae_tree.specs.declared.words.Keyword.TheVariants as keyword
use Rattle.dae_types_kinds.specs.declared.rules.Rule.{Rule}
use Rattle.dae_types_kinds.specs.declared.rules.Rule.TheVariants as rule
use Rattle.dae_types_kinds.specs.declared.types.Shape.{Shape}
use Rattle.dae_types_kinds.specs.declared.types.Shape.TheVariants as shape
use Rattle.dae_types_kinds.specs.declared.types.Structure.{Structure}
use Rattle.dae_types_kinds.specs.declared.tables.Context.{Context}
use Rattle.dae_types_kinds.specs.declared.tables.Context.TheVariants as context
use Rattle.dae_types_kinds.specs.declared.tables.Entity.{Entity}
use Rattle.dae_types_kinds.specs.declared.tables.Entity.TheVariants as entity
use Rattle.dae_types_kinds.specs.declared.tables.Tagged.{Tagged}
use Rattle.dae_types_kinds.specs.declared.tables.Tagged.TheVariants as tagged
use Rattle.dae_types_kinds.specs.declared.tables.StaticObject.{StaticObject}
use Rattle.dae_types_kinds.specs.declared.tables.Routine.{Routine}
use Rattle.dae_types_kinds.specs.declared.values.Known.{Known}
use Rattle.dae_types_kinds.specs.declared.values.Known.TheVariants as known
use Rattle.dae_types_kinds.specs.Tables.{Tables, found_component}
use Rattle.dae_types_kinds.specs.Types.{shape_of, is_integer, is_character, is_unsigned, is_pointer, is_void, is_function, is_array, is_structure, is_scalar, pointee, is_complete, same, layout_at, layout_of, most_bytes, is_too_large}
use Rattle.dae_types_kinds.specs.Values.{Typed, is_number, is_division, is_constant, known_as, is_object, is_update, is_printf, fits, result_of, parameters_of}
use Rattle.dae_types_rules.specs.Sites.{Site, AtWord, AtTypeName, AtTag, AtBody, AtEnumeration, AtEnumerationBody, AtEnumerator, AtConstant, AtComponent, AtEnd, AtPointer, AtCount, AtElement, AtResult, AtParameter, AtName, AtValue, AtInteger, AtScalar, AtOperands, AtSized, AtSizeof, AtCast, AtAddress, AtStar, AtIndex, AtMember, AtTarget, AtAssign, AtUpdate, AtBranches, AtCall, AtCalled, AtArgument, AtReturn, AtBreak, AtCase, AtDefault, AtCaseOutside, AtSwitchBody, AtFormat, AtPrinted, AtTypedef, AtLocal, AtFunction, AtObject, AtEndOfFile, AtDefinition, AtSecond, AtUnnamed, AtItem, AtScalarList, AtAggregate, AtString, AtTooMany, AtFilled}

-- ---- questions that the rows ask

abbrev pub names_function : Option Entity → Bool
names_function (Some (entity.Function n)) = true
names_function _ = false

abbrev pub names_type : Option Entity → Bool
names_type (Some (entity.Type t)) = true
names_type _ = false

abbrev pub is_enumeration : Option Tagged → Bool
is_enumeration (Some tagged.Enumeration) = true
is_enumeration _ = false

abbrev pub is_structure_tag : Option Tagged → Bool
is_structure_tag (Some (tagged.Structure n)) = true
is_structure_tag _ = false

abbrev pub begun_or : Option Structure → Bool
begun_or None = false
begun_or (Some s) = s.begun

abbrev pub has_begun : Tables → Option Tagged → Bool
has_begun s (Some (tagged.Structure n)) = begun_or (slice_get s.structures n)
has_begun s _ = false

-- a number from 1, read as its type says
abbrev pub is_size : Bool → Known → Bool
is_size unsigned (known.Number w) = nat_lt 0 w && (unsigned || nat_lt w (2 ^ 31))
is_size unsigned _ = false

abbrev pub points_nowhere : Tables → Option ℕ → Bool
points_nowhere s None = true
points_nowhere s (Some n) = is_void (shape_of s n)

abbrev pub lacks_component : Tables → Option ℕ → ℕ → Bool
lacks_component s None name = false
lacks_component s (Some n) name = is_none (found_component s n name)

-- the structure whose member is asked for is incomplete
abbrev pub lacks_layout : Tables → Option ℕ → Bool
lacks_layout s None = false
lacks_layout s (Some n) = is_none (layout_of s n)

abbrev pub lacks_size : Tables → Option ℕ → Bool
lacks_size s None = false
lacks_size s (Some t) = not (is_complete s t)

abbrev pub fits_some : Tables → Typed → Option ℕ → Bool
fits_some s x None = true
fits_some s x (Some t) = fits s x t

abbrev pub is_structure_value : Tables → Typed → Bool
is_structure_value s x = is_structure (shape_of s x.type_id)

abbrev pub is_storage : Context → Keyword → Bool
is_storage context.Member keyword.Register = true
is_storage context.TypeName keyword.Register = true
is_storage context.Member keyword.Auto = true
is_storage context.TypeName keyword.Auto = true
is_storage context.Parameter keyword.Auto = true
is_storage context.Member keyword.Static = true
is_storage context.TypeName keyword.Static = true
is_storage context.Parameter keyword.Static = true
is_storage context.Member keyword.Extern = true
is_storage context.TypeName keyword.Extern = true
is_storage context.Parameter keyword.Extern = true
is_storage _ _ = false

abbrev pub is_block_storage : Context → Keyword → Bool
is_block_storage context.Block keyword.Static = true
is_block_storage context.Block keyword.Extern = true
is_block_storage _ _ = false

abbrev pub is_stray_typedef : Context → Keyword → Bool
is_stray_typedef context.Member keyword.Typedef = true
is_stray_typedef context.Parameter keyword.Typedef = true
is_stray_typedef context.TypeName keyword.Typedef = true
is_stray_typedef _ _ = false

abbrev pub is_extern : Option Keyword → Bool
is_extern (Some keyword.Extern) = true
is_extern _ = false

abbrev pub is_static : Option Keyword → Bool
is_static (Some keyword.Static) = true
is_static _ = false

abbrev pub is_int : Shape → Bool
is_int shape.Int = true
is_int _ = false

abbrev pub is_empty_list : Shape → Bool
is_empty_list shape.NoParameters = true
is_empty_list _ = false

-- the type of main (C90 5.1.2.2.1)
abbrev pub is_main_type : Tables → ℕ → Bool
is_main_type s t = is_int (shape_of s (result_of (shape_of s t))) && is_empty_list (shape_of s (parameters_of (shape_of s t)))

-- a function may be declared again with the same type, and with static only where it is of the file alone already
abbrev pub is_again : Tables → ℕ → Bool → Option Routine → Bool
is_again s t own None = false
is_again s t own (Some f) = same s f.type_id t && (not own || f.own) && not (is_printf f.library)

abbrev pub clashes_with_function : Tables → ℕ → Bool → Option Entity → Bool
clashes_with_function s t own None = false
clashes_with_function s t own (Some (entity.Function n)) = not (is_again s t own (slice_get s.routines n))
clashes_with_function s t own (Some e) = true

-- an object may be declared again with the same type and linkage, which extern leaves as it is
abbrev pub is_same_object : Tables → ℕ → Option Keyword → Option StaticObject → Bool
is_same_object s t k None = false
is_same_object s t k (Some o) = same s o.type_id t && (is_extern k || (if is_static k then o.own else not o.own))

abbrev pub clashes_with_object : Tables → ℕ → Option Keyword → Option Entity → Bool
clashes_with_object s t k None = false
clashes_with_object s t k (Some (entity.Object n)) = not (is_same_object s t k (slice_get s.objects n))
clashes_with_object s t k (Some e) = true

abbrev pub initialised_or : Option StaticObject → Bool
initialised_or None = false
initialised_or (Some o) = o.initialised

abbrev pub is_initialised : Tables → Option Entity → Bool
is_initialised s (Some (entity.Object n)) = initialised_or (slice_get s.objects n)
is_initialised s _ = false

-- a name may be declared as the same type again, at file scope
abbrev pub clashes_with_type : Bool → Tables → ℕ → Option Entity → Bool
clashes_with_type block s t None = false
clashes_with_type block s t (Some (entity.Type u)) = block || not (same s u t)
clashes_with_type block s t (Some e) = true

abbrev pub is_defined : Option Routine → Bool
is_defined None = false
is_defined (Some f) = f.defined || is_some f.library

abbrev pub is_text : Tables → Option ℕ → Bool
is_text s None = false
is_text s (Some t) = is_character (shape_of s t)

abbrev pub is_longer : ℕ → Option ℕ → Bool
is_longer n None = false
is_longer n (Some count) = nat_lt count n

-- ---- the table

-- a name has no declaration in scope, or stands as that of a type and has none as one, which is a case that the grammar of
-- names in scope leaves out
abbrev pub undeclared : Site → Bool
undeclared (AtName p found) = is_none found
undeclared (AtTypeName p found) = not (names_type found)
undeclared (AtEnumeration p found) = is_none found
undeclared _ = false

-- a name is declared twice in one scope, list or structure, or again at file scope with another type or linkage
abbrev pub redeclared : Site → Bool
redeclared (AtEnumerator p taken) = taken
redeclared (AtParameter p taken t) = taken
redeclared (AtComponent p taken s t) = taken
redeclared (AtLocal p taken given s t) = taken
redeclared (AtTypedef p block given found s t) = clashes_with_type block s t found
redeclared (AtFunction p is_main own given found s t) = clashes_with_function s t own found
redeclared (AtObject p k given found s t) = clashes_with_object s t k found
redeclared _ = false

-- a function or an initialised object is defined twice, or a tag has two bodies
abbrev pub redefined : Site → Bool
redefined (AtBody p s found) = has_begun s found || is_enumeration found
redefined (AtEnumerationBody p s found) = is_enumeration found || has_begun s found
redefined (AtObject p k given found s t) = given && is_initialised s found
redefined (AtSecond p f) = is_defined f
redefined _ = false

-- one tag names a structure and an enumeration
abbrev pub tag_kind : Site → Bool
tag_kind (AtTag p found) = is_enumeration found
tag_kind (AtBody p s found) = is_enumeration found
tag_kind (AtEnumeration p found) = is_structure_tag found
tag_kind (AtEnumerationBody p s found) = is_structure_tag found
tag_kind _ = false

-- an object, member, element or operand needs a complete type
abbrev pub incomplete : Site → Bool
incomplete (AtElement p s t count) = not (is_function (shape_of s t)) && not (is_complete s t)
incomplete (AtParameter p taken t) = is_void t
incomplete (AtComponent p taken s t) = not (is_function (shape_of s t)) && not (is_complete s t)
incomplete (AtEnumeration p found) = is_none found
incomplete (AtSizeof p s t) = not (is_complete s t)
incomplete (AtSized p s t) = lacks_size s t
incomplete (AtMember p s n name) = lacks_layout s n
incomplete (AtValue p s x) = is_structure_value s x && not (is_complete s x.type_id)
incomplete (AtLocal p taken given s t) = not (is_function (shape_of s t)) && not (is_complete s t) && not (given && is_array (shape_of s t))
incomplete (AtObject p k given found s t) = is_void (shape_of s t) || (given && not (is_array (shape_of s t)) && not (is_complete s t))
incomplete (AtEndOfFile p s t) = not (is_complete s t)
incomplete _ = false

-- an object, member or parameter has type void
abbrev pub void_object : Site → Bool
void_object (AtParameter p taken t) = is_void t
void_object (AtComponent p taken s t) = is_void (shape_of s t)
void_object (AtLocal p taken given s t) = is_void (shape_of s t)
void_object (AtObject p k given found s t) = is_void (shape_of s t)
void_object _ = false

-- a function returns a function or an array, an array or member is of functions, or a body follows what is no function
abbrev pub bad_function_type : Site → Bool
bad_function_type (AtElement p s t count) = is_function (shape_of s t)
bad_function_type (AtResult p t) = is_function t || is_array t
bad_function_type (AtComponent p taken s t) = is_function (shape_of s t)
bad_function_type (AtDefinition p is_typedef is_direct t) = not (is_function t)
bad_function_type _ = false

-- a type is a pointer to a function
abbrev pub function_pointer : Site → Bool
function_pointer (AtPointer p t) = is_function t
function_pointer (AtParameter p taken t) = is_function t
function_pointer _ = false

-- a function's name stands other than as called
abbrev pub function_value : Site → Bool
function_value (AtName p found) = names_function found
function_value _ = false

-- an array size isn't a constant from 1
abbrev pub bad_size : Site → Bool
bad_size (AtCount p s x) = not (is_size (is_unsigned (shape_of s x.type_id)) x.known)
bad_size _ = false

-- an object, array or structure is too large; a parameter's outermost array counts as the pointer that it is
abbrev pub object_too_large : Site → Bool
object_too_large (AtElement p s t count) = is_too_large s t count
object_too_large (AtEnd p l) = nat_lt most_bytes l.size
object_too_large (AtFilled p s t) = nat_lt most_bytes (layout_at s t).size
object_too_large _ = false

-- an address, assignment or increment needs an object
abbrev pub not_lvalue : Site → Bool
not_lvalue (AtAddress p c) = not (is_object c)
not_lvalue (AtTarget p t c) = not (is_object c)
not_lvalue _ = false

-- an array is assigned or incremented
abbrev pub not_modifiable : Site → Bool
not_modifiable (AtTarget p t c) = is_object c && is_array t
not_modifiable _ = false

-- a condition or operand isn't a number or pointer
abbrev pub not_scalar : Site → Bool
not_scalar (AtScalar p t) = not (is_scalar t)
not_scalar _ = false

-- an operand, index, size or label isn't an integer
abbrev pub not_integer : Site → Bool
not_integer (AtInteger p t) = not (is_integer t)
not_integer (AtConstant p s x) = not (is_integer (shape_of s x.type_id))
not_integer (AtCount p s x) = not (is_integer (shape_of s x.type_id))
not_integer _ = false

-- the operands of a binary, conditional or compound assignment operator don't fit
abbrev pub bad_operands : Site → Bool
bad_operands (AtOperands p c) = is_none c
bad_operands (AtUpdate p c) = not (is_update c)
bad_operands (AtBranches p t) = is_none t
bad_operands _ = false

-- a value can't be converted to the type that it is assigned to
abbrev pub bad_assign : Site → Bool
bad_assign (AtAssign p s x t) = not (fits s x t)
bad_assign (AtItem p s x t) = not (fits s x t)
bad_assign _ = false

-- a cast to or from a structure, to an array or function, or from void to a value
abbrev pub bad_cast : Site → Bool
bad_cast (AtCast p t u) = not (if is_void u then not (is_structure t) else is_scalar t && is_scalar u)
bad_cast _ = false

-- neither or both of the operands of a subscript are pointers
abbrev pub bad_index : Site → Bool
bad_index (AtIndex p t u) = if is_pointer t then is_pointer u else not (is_pointer u)
bad_index _ = false

-- `*` of what is no pointer to an object
abbrev pub bad_deref : Site → Bool
bad_deref (AtStar p s t) = points_nowhere s (pointee t)
bad_deref _ = false

-- `.` or `->` on another type
abbrev pub not_structure : Site → Bool
not_structure (AtMember p s n name) = is_none n
not_structure _ = false

-- the structure has no such member
abbrev pub bad_member : Site → Bool
bad_member (AtMember p s n name) = lacks_component s n name
bad_member _ = false

-- a structure is assigned, passed, returned or initialises another
abbrev pub structure_value : Site → Bool
structure_value (AtResult p t) = is_structure t
structure_value (AtParameter p taken t) = is_structure t
structure_value (AtAssign p s x t) = is_structure_value s x
structure_value (AtArgument p s x t) = is_some t && is_structure_value s x
structure_value (AtReturn p s t x) = not (is_void (shape_of s t)) && is_structure_value s x
structure_value (AtItem p s x t) = is_structure_value s x
structure_value (AtAggregate p s x t) = is_structure (shape_of s t) && is_structure_value s x
structure_value _ = false

-- a call of what is no function
abbrev pub bad_call : Site → Bool
bad_call (AtCalled p) = true
bad_call _ = false

-- the arguments differ in number from the parameters
abbrev pub argument_count : Site → Bool
argument_count (AtCall p is_main f given wanted) = not (is_printf f) && not (nat_eq given wanted)
argument_count _ = false

-- an argument can't be converted to its parameter's type
abbrev pub bad_argument : Site → Bool
bad_argument (AtArgument p s x t) = not (fits_some s x t)
bad_argument _ = false

-- a return with an expression in a void function, or with a value that can't be converted to the result
abbrev pub bad_return : Site → Bool
bad_return (AtReturn p s t x) = is_void (shape_of s t) || not (fits s x t)
bad_return _ = false

-- an initialiser of static storage or of an aggregate, an enumerator or a label isn't constant
abbrev pub not_constant : Site → Bool
not_constant (AtConstant p s x) = not (is_number x.known)
not_constant (AtItem p s x t) = fits s x t && not (is_constant (known_as (shape_of s x.type_id) (shape_of s t) x.known))
not_constant _ = false

-- a constant expression divides by zero, where a constant is required
abbrev pub constant_division : Site → Bool
constant_division (AtConstant p s x) = is_division x.known
constant_division (AtCount p s x) = is_division x.known
constant_division (AtItem p s x t) = is_division x.known
constant_division _ = false

-- an initialiser of a function, a list with more than one item for a scalar, or an expression for an aggregate
abbrev pub bad_initialiser : Site → Bool
bad_initialiser (AtLocal p taken given s t) = given && is_function (shape_of s t)
bad_initialiser (AtFunction p is_main own given found s t) = given
bad_initialiser (AtScalarList p) = true
bad_initialiser (AtAggregate p s x t) = not (is_structure (shape_of s t) && is_structure_value s x)
bad_initialiser _ = false

-- more items than there is room for
abbrev pub too_many_initialisers : Site → Bool
too_many_initialisers (AtTooMany p) = true
too_many_initialisers (AtString p n count) = is_longer n count
too_many_initialisers _ = false

-- break or continue outside of what it ends
abbrev pub loop_outside : Site → Bool
loop_outside (AtBreak p inside) = not inside
loop_outside _ = false

-- a storage class in the specifiers of a member, parameter or type name
abbrev pub storage_class : Site → Bool
storage_class (AtWord p c k) = is_storage c k
storage_class _ = false

-- static or extern in a block
abbrev pub block_storage : Site → Bool
block_storage (AtWord p c k) = is_block_storage c k
block_storage _ = false

-- a function declared in a block
abbrev pub block_function : Site → Bool
block_function (AtLocal p taken given s t) = is_function (shape_of s t)
block_function _ = false

-- typedef where no type can be named, with an initialiser, or in a definition, or a body whose parameters a type name gives; or
-- the name of a type as a value, which that grammar leaves out too
abbrev pub typedef_misuse : Site → Bool
typedef_misuse (AtWord p c k) = is_stray_typedef c k
typedef_misuse (AtName p found) = names_type found
typedef_misuse (AtTypedef p block given found s t) = given
typedef_misuse (AtDefinition p is_typedef is_direct t) = is_typedef || (is_function t && not is_direct)
typedef_misuse _ = false

-- a definition's parameter has no name
abbrev pub parameter_name : Site → Bool
parameter_name (AtUnnamed p) = true
parameter_name _ = false

-- a format that isn't a literal, has another conversion or a zero byte, or arguments that don't fit
abbrev pub bad_format : Site → Bool
bad_format (AtFormat p None given) = true
bad_format (AtFormat p (Some wanted) given) = not (nat_eq wanted given)
bad_format (AtPrinted p s true x) = not (is_text s (pointee (shape_of s x.type_id)))
bad_format (AtPrinted p s false x) = not (is_integer (shape_of s x.type_id))
bad_format _ = false

-- printf other than as a statement
abbrev pub printf_place : Site → Bool
printf_place (AtCall p is_main f given wanted) = is_printf f
printf_place _ = false

-- main with parameters or another result
abbrev pub bad_main : Site → Bool
bad_main (AtFunction p is_main own given found s t) = is_main && not (is_main_type s t)
bad_main _ = false

-- main is called
abbrev pub main_called : Site → Bool
main_called (AtCall p is_main f given wanted) = is_main
main_called _ = false

-- a label of a switch stands elsewhere than in its body's block
abbrev pub case_outside : Site → Bool
case_outside (AtCaseOutside p) = true
case_outside _ = false

-- two labels of a switch have one value
abbrev pub case_duplicate : Site → Bool
case_duplicate (AtCase p taken) = taken
case_duplicate _ = false

-- a switch has two default labels
abbrev pub default_twice : Site → Bool
default_twice (AtDefault p taken) = taken
default_twice _ = false

-- the body of a switch is no block, or declares something
abbrev pub switch_body : Site → Bool
switch_body (AtSwitchBody p) = true
switch_body _ = false

abbrev pub breaks : Rule → Site → Bool
breaks rule.Undeclared s = undeclared s
breaks rule.Redeclared s = redeclared s
breaks rule.Redefined s = redefined s
breaks rule.TagKind s = tag_kind s
breaks rule.Incomplete s = incomplete s
breaks rule.VoidObject s = void_object s
breaks rule.BadFunctionType s = bad_function_type s
breaks rule.FunctionPointer s = function_pointer s
breaks rule.FunctionValue s = function_value s
breaks rule.BadSize s = bad_size s
breaks rule.ObjectTooLarge s = object_too_large s
breaks rule.NotLvalue s = not_lvalue s
breaks rule.NotModifiable s = not_modifiable s
breaks rule.NotScalar s = not_scalar s
breaks rule.NotInteger s = not_integer s
breaks rule.BadOperands s = bad_operands s
breaks rule.BadAssign s = bad_assign s
breaks rule.BadCast s = bad_cast s
breaks rule.BadIndex s = bad_index s
breaks rule.BadDeref s = bad_deref s
breaks rule.NotStructure s = not_structure s
breaks rule.BadMember s = bad_member s
breaks rule.StructureValue s = structure_value s
breaks rule.BadCall s = bad_call s
breaks rule.ArgumentCount s = argument_count s
breaks rule.BadArgument s = bad_argument s
breaks rule.BadReturn s = bad_return s
breaks rule.NotConstant s = not_constant s
breaks rule.ConstantDivision s = constant_division s
breaks rule.BadInitialiser s = bad_initialiser s
breaks rule.TooManyInitialisers s = too_many_initialisers s
breaks rule.LoopOutside s = loop_outside s
breaks rule.StorageClass s = storage_class s
breaks rule.BlockStorage s = block_storage s
breaks rule.BlockFunction s = block_function s
breaks rule.TypedefMisuse s = typedef_misuse s
breaks rule.ParameterName s = parameter_name s
breaks rule.BadFormat s = bad_format s
breaks rule.PrintfPlace s = printf_place s
breaks rule.BadMain s = bad_main s
breaks rule.MainCalled s = main_called s
breaks rule.CaseOutside s = case_outside s
breaks rule.CaseDuplicate s = case_duplicate s
breaks rule.DefaultTwice s = default_twice s
breaks rule.SwitchBody s = switch_body s

-- the rules that can be broken at a site, in the order in which a check asks them
abbrev pub asked : Site → List Rule
asked (AtWord p c k) = rule.StorageClass ∷ rule.BlockStorage ∷ rule.TypedefMisuse ∷ []
asked (AtTypeName p found) = rule.Undeclared ∷ []
asked (AtTag p found) = rule.TagKind ∷ []
asked (AtBody p s found) = rule.TagKind ∷ rule.Redefined ∷ []
asked (AtEnumeration p found) = rule.TagKind ∷ rule.Incomplete ∷ rule.Undeclared ∷ []
asked (AtEnumerationBody p s found) = rule.TagKind ∷ rule.Redefined ∷ []
asked (AtEnumerator p taken) = rule.Redeclared ∷ []
asked (AtConstant p s x) = rule.NotInteger ∷ rule.ConstantDivision ∷ rule.NotConstant ∷ []
asked (AtComponent p taken s t) = rule.VoidObject ∷ rule.BadFunctionType ∷ rule.Incomplete ∷ rule.Redeclared ∷ []
asked (AtEnd p l) = rule.ObjectTooLarge ∷ []
asked (AtPointer p t) = rule.FunctionPointer ∷ []
asked (AtCount p s x) = rule.NotInteger ∷ rule.ConstantDivision ∷ rule.BadSize ∷ []
asked (AtElement p s t count) = rule.BadFunctionType ∷ rule.Incomplete ∷ rule.ObjectTooLarge ∷ []
asked (AtResult p t) = rule.BadFunctionType ∷ rule.StructureValue ∷ []
asked (AtParameter p taken t) = rule.FunctionPointer ∷ rule.VoidObject ∷ rule.Incomplete ∷ rule.StructureValue ∷ rule.Redeclared ∷ []
asked (AtName p found) = rule.Undeclared ∷ rule.FunctionValue ∷ rule.TypedefMisuse ∷ []
asked (AtValue p s x) = rule.Incomplete ∷ []
asked (AtInteger p t) = rule.NotInteger ∷ []
asked (AtScalar p t) = rule.NotScalar ∷ []
asked (AtOperands p c) = rule.BadOperands ∷ []
asked (AtSized p s t) = rule.Incomplete ∷ []
asked (AtSizeof p s t) = rule.Incomplete ∷ []
asked (AtCast p t u) = rule.BadCast ∷ []
asked (AtAddress p c) = rule.NotLvalue ∷ []
asked (AtStar p s t) = rule.BadDeref ∷ []
asked (AtIndex p t u) = rule.BadIndex ∷ []
asked (AtMember p s n name) = rule.NotStructure ∷ rule.Incomplete ∷ rule.BadMember ∷ []
asked (AtTarget p t c) = rule.NotLvalue ∷ rule.NotModifiable ∷ []
asked (AtAssign p s x t) = rule.BadAssign ∷ rule.StructureValue ∷ []
asked (AtUpdate p c) = rule.BadOperands ∷ []
asked (AtBranches p t) = rule.BadOperands ∷ []
asked (AtCall p is_main f given wanted) = rule.PrintfPlace ∷ rule.MainCalled ∷ rule.ArgumentCount ∷ []
asked (AtCalled p) = rule.BadCall ∷ []
asked (AtArgument p s x t) = rule.BadArgument ∷ rule.StructureValue ∷ []
asked (AtReturn p s t x) = rule.BadReturn ∷ rule.StructureValue ∷ []
asked (AtBreak p inside) = rule.LoopOutside ∷ []
asked (AtCase p taken) = rule.CaseDuplicate ∷ []
asked (AtDefault p taken) = rule.DefaultTwice ∷ []
asked (AtCaseOutside p) = rule.CaseOutside ∷ []
asked (AtSwitchBody p) = rule.SwitchBody ∷ []
asked (AtFormat p wanted given) = rule.BadFormat ∷ []
asked (AtPrinted p s text x) = rule.BadFormat ∷ []
asked (AtTypedef p block given found s t) = rule.TypedefMisuse ∷ rule.Redeclared ∷ []
asked (AtLocal p taken given s t) = rule.BlockFunction ∷ rule.BadInitialiser ∷ rule.VoidObject ∷ rule.Incomplete ∷ rule.Redeclared ∷ []
asked (AtFunction p is_main own given found s t) = rule.BadMain ∷ rule.Redeclared ∷ rule.BadInitialiser ∷ []
asked (AtObject p k given found s t) = rule.VoidObject ∷ rule.Redeclared ∷ rule.Redefined ∷ rule.Incomplete ∷ []
asked (AtEndOfFile p s t) = rule.Incomplete ∷ []
asked (AtDefinition p is_typedef is_direct t) = rule.TypedefMisuse ∷ rule.BadFunctionType ∷ []
asked (AtSecond p f) = rule.Redefined ∷ []
asked (AtUnnamed p) = rule.ParameterName ∷ []
asked (AtItem p s x t) = rule.BadAssign ∷ rule.StructureValue ∷ rule.ConstantDivision ∷ rule.NotConstant ∷ []
asked (AtScalarList p) = rule.BadInitialiser ∷ []
asked (AtAggregate p s x t) = rule.StructureValue ∷ rule.BadInitialiser ∷ []
asked (AtString p n count) = rule.TooManyInitialisers ∷ []
asked (AtTooMany p) = rule.TooManyInitialisers ∷ []
asked (AtFilled p s t) = rule.ObjectTooLarge ∷ []

abbrev pub any_broken : List Rule → Site → Bool
any_broken [] s = false
any_broken (r ∷ rs) s = if breaks r s then true else any_broken rs s

abbrev pub is_broken : Site → Bool
is_broken s = any_broken (asked s) s

-- ---- a law of the table

abbrev pub IsAmong : Rule → List Rule → Type 0
IsAmong r [] = ⊥
IsAmong r (x ∷ xs) = (r ≡ x) ⊎ IsAmong r xs

-- a check asks each rule that is broken
abbrev pub RulesAreAsked : Type 0
RulesAreAsked = (r : Rule) (s : Site) → breaks r s ≡ true → IsAmong r (asked s)
