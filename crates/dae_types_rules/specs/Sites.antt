-- Where rules are asked. A site has its place and what the rules ask of it: types with the tables that they stand in, and
-- typed expressions. A flag `taken` says that the name stands in the innermost scope already, or in the same structure.
use Rattle.std.specs.Prelude.{ℕ, Bool, Option}
use Rattle.dae_base.specs.declared.Place.{Place}
use Rattle.dae_tree.specs.declared.words.Keyword.{Keyword}
use Rattle.dae_types_kinds.specs.declared.types.Shape.{Shape}
use Rattle.dae_types_kinds.specs.declared.types.Layout.{Layout}
use Rattle.dae_types_kinds.specs.declared.tables.Context.{Context}
use Rattle.dae_types_kinds.specs.declared.tables.Entity.{Entity}
use Rattle.dae_types_kinds.specs.declared.tables.Tagged.{Tagged}
use Rattle.dae_types_kinds.specs.declared.tables.LibraryFunction.{LibraryFunction}
use Rattle.dae_types_kinds.specs.declared.tables.Routine.{Routine}
use Rattle.dae_types_kinds.specs.declared.values.Category.{Category}
use Rattle.dae_types_kinds.specs.Tables.{Tables}
use Rattle.dae_types_kinds.specs.Values.{Typed, Combination}

pub data Site : Type 0 where
  -- specifiers: a word; a name of a type; a tag of a structure, and one before members; a tag of an enumeration, and one before enumerators;
  -- an enumerator; and the value of an enumerator or of a label
  AtWord : Place → Context → Keyword → Site
  AtTypeName : Place → Option Entity → Site
  AtTag : Place → Option Tagged → Site
  AtBody : Place → Tables → Option Tagged → Site
  AtEnumeration : Place → Option Tagged → Site
  AtEnumerationBody : Place → Tables → Option Tagged → Site
  AtEnumerator : Place → (taken : Bool) → Site
  AtConstant : Place → Tables → Typed → Site
  -- members, and the end of a structure
  AtComponent : Place → (taken : Bool) → Tables → (type_id : ℕ) → Site
  AtEnd : Place → Layout → Site
  -- parts of declarators: `*`, the size of an array, an array with its elements, the result of a function, a parameter
  AtPointer : Place → Shape → Site
  AtCount : Place → Tables → Typed → Site
  AtElement : Place → Tables → (element : ℕ) → (count : Option ℕ) → Site
  AtResult : Place → Shape → Site
  AtParameter : Place → (taken : Bool) → Shape → Site
  -- expressions: a name; a value that is read; an operand that must be an integer, or a scalar; two operands by how they go
  -- together; a type whose size is needed
  AtName : Place → Option Entity → Site
  AtValue : Place → Tables → Typed → Site
  AtInteger : Place → Shape → Site
  AtScalar : Place → Shape → Site
  AtOperands : Place → Option Combination → Site
  AtSized : Place → Tables → Option ℕ → Site
  AtSizeof : Place → Tables → (type_id : ℕ) → Site
  AtCast : Place → (from to : Shape) → Site
  AtAddress : Place → Category → Site
  AtStar : Place → Tables → Shape → Site
  AtIndex : Place → Shape → Shape → Site
  AtMember : Place → Tables → (structure : Option ℕ) → (name : ℕ) → Site
  AtTarget : Place → Shape → Category → Site
  AtAssign : Place → Tables → Typed → (to : ℕ) → Site
  AtUpdate : Place → Option Combination → Site
  AtBranches : Place → Option (Tables × ℕ) → Site
  -- a call of a function, of what is no function, and an argument with its parameter's type
  AtCall : Place → (is_main : Bool) → Option LibraryFunction → (given wanted : ℕ) → Site
  AtCalled : Place → Site
  AtArgument : Place → Tables → Typed → (to : Option ℕ) → Site
  -- statements: a return with its function's result; `break` or `continue`, where the flag says that it stands in what it
  -- ends; labels, and where a switch has none or its body is no block; the format of printf with the number of its arguments,
  -- and an argument of it, where the flag says that it is text
  AtReturn : Place → Tables → (result : ℕ) → Typed → Site
  AtBreak : Place → (inside : Bool) → Site
  AtCase : Place → (taken : Bool) → Site
  AtDefault : Place → (taken : Bool) → Site
  AtCaseOutside : Place → Site
  AtSwitchBody : Place → Site
  AtFormat : Place → (wanted : Option ℕ) → (given : ℕ) → Site
  AtPrinted : Place → Tables → (text : Bool) → Typed → Site
  -- declarations: of a type, where the first flag says that it stands in a block; of a local object; of a function and of an
  -- object at file scope, with what the name stands for so far. The flag `given` says that there is an initialiser, and `own`
  -- that the word static stands there
  AtTypedef : Place → (block given : Bool) → Option Entity → Tables → (type_id : ℕ) → Site
  AtLocal : Place → (taken given : Bool) → Tables → (type_id : ℕ) → Site
  AtFunction : Place → (is_main own given : Bool) → Option Entity → Tables → (type_id : ℕ) → Site
  AtObject : Place → Option Keyword → (given : Bool) → Option Entity → Tables → (type_id : ℕ) → Site
  AtEndOfFile : Place → Tables → (type_id : ℕ) → Site
  -- definitions: of what has a type, where the flags say that the word typedef stands there, and that the declarator itself
  -- has parameters; of a function that was declared before; and a parameter, with or without a name
  AtDefinition : Place → (is_typedef is_direct : Bool) → Shape → Site
  AtSecond : Place → Option Routine → Site
  AtUnnamed : Place → Site
  -- initialisers: a constant for a scalar; a list with more than one for a scalar; an expression for an aggregate; a literal
  -- for an array; what is too many; and an array that has its size from its initialiser
  AtItem : Place → Tables → Typed → (to : ℕ) → Site
  AtScalarList : Place → Site
  AtAggregate : Place → Tables → Typed → (to : ℕ) → Site
  AtString : Place → (length : ℕ) → (count : Option ℕ) → Site
  AtTooMany : Place → Site
  AtFilled : Place → Tables → (type_id : ℕ) → Site

abbrev pub place : Site → Place
place (AtWord p c k) = p
place (AtTypeName p found) = p
place (AtTag p found) = p
place (AtBody p s found) = p
place (AtEnumeration p found) = p
place (AtEnumerationBody p s found) = p
place (AtEnumerator p taken) = p
place (AtConstant p s x) = p
place (AtComponent p taken s t) = p
place (AtEnd p l) = p
place (AtPointer p t) = p
place (AtCount p s x) = p
place (AtElement p s t count) = p
place (AtResult p t) = p
place (AtParameter p taken t) = p
place (AtName p found) = p
place (AtValue p s x) = p
place (AtInteger p t) = p
place (AtScalar p t) = p
place (AtOperands p c) = p
place (AtSized p s t) = p
place (AtSizeof p s t) = p
place (AtCast p t u) = p
place (AtAddress p c) = p
place (AtStar p s t) = p
place (AtIndex p t u) = p
place (AtMember p s n name) = p
place (AtTarget p t c) = p
place (AtAssign p s x t) = p
place (AtUpdate p c) = p
place (AtBranches p t) = p
place (AtCall p is_main f given wanted) = p
place (AtCalled p) = p
place (AtArgument p s x t) = p
place (AtReturn p s t x) = p
place (AtBreak p inside) = p
place (AtCase p taken) = p
place (AtDefault p taken) = p
place (AtCaseOutside p) = p
place (AtSwitchBody p) = p
place (AtFormat p wanted given) = p
place (AtPrinted p s text x) = p
place (AtTypedef p block given found s t) = p
place (AtLocal p taken given s t) = p
place (AtFunction p is_main own given found s t) = p
place (AtObject p k given found s t) = p
place (AtEndOfFile p s t) = p
place (AtDefinition p is_typedef is_direct t) = p
place (AtSecond p f) = p
place (AtUnnamed p) = p
place (AtItem p s x t) = p
place (AtScalarList p) = p
place (AtAggregate p s x t) = p
place (AtString p n count) = p
place (AtTooMany p) = p
place (AtFilled p s t) = p
