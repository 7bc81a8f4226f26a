-- The lines for texts that are refused.
use Rattle.std.specs.Prelude.{ℕ, List, [], ◌∷◌, ◌++◌, codes, decimal, slice_get, unwrap_or}
use Rattle.dae_base.specs.declared.Place.{Place}
use Rattle.dae_tree.specs.declared.faults.Construct.{Construct}
use Rattle.dae_tree.specs.declared.faults.Construct.TheVariants.{Goto, Union, Volatile, FloatType, FloatConstant, Ellipsis, Directive, FunctionMacro, HashInMacro, MacroRedefined, Trigraph, WideLiteral, LongCharacter, BadEscape, BadConstant, NumberTooLarge, Unterminated, TooManyReplacements, LiteralsTooLong}
use Rattle.dae_tree.specs.declared.faults.LexError.{LexError}
use Rattle.dae_tree.specs.declared.faults.LexError.TheVariants as lex_errors
use Rattle.dae_types_kinds.specs.declared.rules.Rule.{Rule}
use Rattle.dae_types_kinds.specs.declared.rules.Rule.TheVariants.{Undeclared, Redeclared, Redefined, TagKind, Incomplete, VoidObject, BadFunctionType, FunctionPointer, FunctionValue, BadSize, ObjectTooLarge, NotLvalue, NotModifiable, NotScalar, NotInteger, BadOperands, BadAssign, BadCast, BadIndex, BadDeref, NotStructure, BadMember, StructureValue, BadCall, ArgumentCount, BadArgument, BadReturn, NotConstant, ConstantDivision, BadInitialiser, TooManyInitialisers, LoopOutside, StorageClass, BlockStorage, BlockFunction, TypedefMisuse, ParameterName, BadFormat, PrintfPlace, BadMain, MainCalled, CaseOutside, CaseDuplicate, DefaultTwice, SwitchBody}
use Rattle.dae_parse.specs.declared.error.ParseError.{ParseError}
use Rattle.dae_parse.specs.declared.error.ParseError.TheVariants as tree_errors
use Rattle.dae_unit.specs.declared.errors.JoinError.{JoinError}
use Rattle.dae_unit.specs.declared.errors.JoinError.TheVariants as join_errors
use Rattle.dae_accept.specs.declared.error.CompileError.{CompileError}
use Rattle.dae_accept.specs.declared.error.CompileError.TheVariants.{Lex, Tree, Rule as Broken, Join, Memory}
use Rattle.dae_cli_drive.specs.Lines.{memory_line}

-- a place, in the file with its number
abbrev pub place_text : List (List ℕ) → Place → List ℕ
place_text names p = unwrap_or (slice_get names p.file) [] ++ (codes ":" ++ (decimal p.line ++ (codes ":" ++ decimal p.col)))

abbrev pub construct_name : Construct → List ℕ
construct_name Goto = codes "goto"
construct_name Union = codes "union"
construct_name Volatile = codes "volatile"
construct_name FloatType = codes "float-type"
construct_name FloatConstant = codes "float-constant"
construct_name Ellipsis = codes "ellipsis"
construct_name Directive = codes "directive"
construct_name FunctionMacro = codes "function-macro"
construct_name HashInMacro = codes "hash-in-macro"
construct_name MacroRedefined = codes "macro-redefined"
construct_name Trigraph = codes "trigraph"
construct_name WideLiteral = codes "wide-literal"
construct_name LongCharacter = codes "long-character"
construct_name BadEscape = codes "bad-escape"
construct_name BadConstant = codes "bad-constant"
construct_name NumberTooLarge = codes "number-too-large"
construct_name Unterminated = codes "unterminated"
construct_name TooManyReplacements = codes "too-many-replacements"
construct_name LiteralsTooLong = codes "literals-too-long"

abbrev pub rule_name : Rule → List ℕ
rule_name Undeclared = codes "undeclared"
rule_name Redeclared = codes "redeclared"
rule_name Redefined = codes "redefined"
rule_name TagKind = codes "tag-kind"
rule_name Incomplete = codes "incomplete"
rule_name VoidObject = codes "void-object"
rule_name BadFunctionType = codes "bad-function-type"
rule_name FunctionPointer = codes "function-pointer"
rule_name FunctionValue = codes "function-value"
rule_name BadSize = codes "bad-size"
rule_name ObjectTooLarge = codes "object-too-large"
rule_name NotLvalue = codes "not-lvalue"
rule_name NotModifiable = codes "not-modifiable"
rule_name NotScalar = codes "not-scalar"
rule_name NotInteger = codes "not-integer"
rule_name BadOperands = codes "bad-operands"
rule_name BadAssign = codes "bad-assign"
rule_name BadCast = codes "bad-cast"
rule_name BadIndex = codes "bad-index"
rule_name BadDeref = codes "bad-deref"
rule_name NotStructure = codes "not-structure"
rule_name BadMember = codes "bad-member"
rule_name StructureValue = codes "structure-value"
rule_name BadCall = codes "bad-call"
rule_name ArgumentCount = codes "argument-count"
rule_name BadArgument = codes "bad-argument"
rule_name BadReturn = codes "bad-return"
rule_name NotConstant = codes "not-constant"
rule_name ConstantDivision = codes "constant-division"
rule_name BadInitialiser = codes "bad-initialiser"
rule_name TooManyInitialisers = codes "too-many-initialisers"
rule_name LoopOutside = codes "loop-outside"
rule_name StorageClass = codes "storage-class"
rule_name BlockStorage = codes "block-storage"
rule_name BlockFunction = codes "block-function"
rule_name TypedefMisuse = codes "typedef-misuse"
rule_name ParameterName = codes "parameter-name"
rule_name BadFormat = codes "bad-format"
rule_name PrintfPlace = codes "printf-place"
rule_name BadMain = codes "bad-main"
rule_name MainCalled = codes "main-called"
rule_name CaseOutside = codes "case-outside"
rule_name CaseDuplicate = codes "case-duplicate"
rule_name DefaultTwice = codes "default-twice"
rule_name SwitchBody = codes "switch-body"

-- what files with these names are refused for, and where
abbrev pub refused_line : List ℕ → List (List ℕ) → Place → List ℕ
refused_line what names p = codes "refused " ++ (what ++ (codes " " ++ (place_text names p ++ codes "\n")))

-- the same with two places
abbrev pub refused_twice_line : List ℕ → List (List ℕ) → (p q : Place) → List ℕ
refused_twice_line what names p q =
    codes "refused " ++ (what ++ (codes " " ++ (place_text names p ++ (codes " " ++ (place_text names q ++ codes "\n")))))

-- why a text has no tokens
abbrev pub lex_line : List (List ℕ) → LexError → List ℕ
lex_line names (lex_errors.BadByte p) = refused_line (codes "bad-byte") names p
lex_line names (lex_errors.TooManyTokens p) = refused_line (codes "too-many-tokens") names p
lex_line names (lex_errors.Refused construct p) = refused_line (construct_name construct) names p
lex_line names lex_errors.Memory = memory_line

-- why tokens have no tree within the limits
abbrev pub tree_line : List (List ℕ) → ParseError → List ℕ
tree_line names (tree_errors.Syntax p) = refused_line (codes "syntax") names p
tree_line names (tree_errors.TooDeep p) = refused_line (codes "too-deep") names p
tree_line names (tree_errors.FunctionTooLong p) = refused_line (codes "function-too-long") names p
tree_line names tree_errors.Memory = memory_line

-- why files don't join
abbrev pub join_line : List (List ℕ) → JoinError → List ℕ
join_line names (join_errors.DefinedTwice p q) = refused_twice_line (codes "defined-twice") names p q
join_line names (join_errors.TypesDiffer p q) = refused_twice_line (codes "types-differ") names p q
join_line names (join_errors.NotDefined p) = refused_line (codes "not-defined") names p
join_line names join_errors.NoMain = codes "refused no-main\n"
join_line names (join_errors.DataTooLarge n) = codes "refused data-too-large " ++ (decimal n ++ codes "\n")
join_line names join_errors.Memory = memory_line

-- why files with these names are refused
abbrev pub refusal_line : List (List ℕ) → CompileError → List ℕ
refusal_line names (Lex e) = lex_line names e
refusal_line names (Tree e) = tree_line names e
refusal_line names (Broken b) = refused_line (rule_name b.rule) names b.place
refusal_line names (Join e) = join_line names e
refusal_line names Memory = memory_line

-- a file has more bytes than sources may have
abbrev pub too_long_line : List ℕ → List ℕ
too_long_line name = codes "refused source-too-long " ++ (name ++ codes "\n")
