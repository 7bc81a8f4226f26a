-- Lines, and what each of them is: text, or a directive (C90 6.8).
use Rattle.std.specs.Prelude.{ℕ, List, [], ◌∷◌, ◌++◌, Bool, true, false, not, ◌&&◌, if◌then◌else◌, Option, Some, None, filter, map, option_map, codes}
use Rattle.std.specs.List.{flat_map, list_any}
use Rattle.std.specs.Str.{bytes_eq}
use Rattle.dae_base.specs.declared.Place.{Place}
use Rattle.dae_tree.specs.Tables.{header_of}
use Rattle.dae_tree.specs.Forms.{number_kind}
use Rattle.dae_tree.specs.Pieces.{Cut}
use Rattle.dae_tree.specs.Replacing.{Definition, TextItem, refused, error_at, body_of, expand, is_word_kind}
use Rattle.dae_tree.specs.declared.signs.Sign.TheVariants.{LeftParen}
use Rattle.dae_tree.specs.declared.pieces.PieceKind.{PieceKind}
use Rattle.dae_tree.specs.declared.pieces.PieceKind.TheVariants as kinds
use Rattle.dae_tree.specs.declared.headers.Header.{Header}
use Rattle.dae_tree.specs.declared.headers.Header.TheVariants.{Stdio, Stdlib}
use Rattle.dae_tree.specs.declared.headers.TheConstants.{STDIO_MACROS, STDLIB_MACROS}
use Rattle.dae_tree.specs.declared.faults.Construct.TheVariants.{Directive, FunctionMacro, HashInMacro, MacroRedefined}
use Rattle.dae_tree.specs.declared.faults.LexError.{LexError}
use Rattle.dae_tree.specs.declared.faults.LexError.TheVariants.{Refused}

abbrev pub is_blank_kind : PieceKind → Bool
is_blank_kind kinds.Blank = true
is_blank_kind _ = false

abbrev pub is_end_kind : PieceKind → Bool
is_end_kind kinds.LineEnd = true
is_end_kind _ = false

abbrev pub is_hash_kind : PieceKind → Bool
is_hash_kind kinds.Hash = true
is_hash_kind _ = false

abbrev pub is_paren_kind : PieceKind → Bool
is_paren_kind (kinds.Mark LeftParen) = true
is_paren_kind _ = false

-- the lines: a line ends before each line end, and the last one with the text
abbrev pub with_first : Cut → List (List Cut) → List (List Cut)
with_first p [] = (p ∷ []) ∷ []
with_first p (l ∷ ls) = (p ∷ l) ∷ ls

abbrev pub lines_of : List Cut → List (List Cut)
lines_of [] = []
lines_of (p ∷ ps) = if is_end_kind p.kind then [] ∷ lines_of ps else with_first p (lines_of ps)

abbrev pub goes_on : Cut → Bool
goes_on p = not (is_end_kind p.kind)

-- a line's pieces from the first that is no blank, and all that are none
abbrev pub from_mark : List Cut → List Cut
from_mark [] = []
from_mark (p ∷ ps) = if is_blank_kind p.kind then from_mark ps else p ∷ ps

abbrev pub marks_of : List Cut → List Cut
marks_of ps = filter (λ p. not (is_blank_kind p.kind)) ps

-- what a line is: text, an include of a header, a define, or a refusal
pub data DirectiveLine : Type 0 where
  text : List Cut → DirectiveLine
  include : Place → Header → DirectiveLine
  define : Place → Definition → DirectiveLine
  refuse : LexError → DirectiveLine

-- a directive is refused at its number sign, unless a comment with a fault stands here
abbrev pub stray_by : PieceKind → Cut → Place → DirectiveLine
stray_by (kinds.FaultyComment fault) p hash = refuse (error_at fault p.place)
stray_by _ p hash = refuse (Refused Directive hash)

abbrev pub stray : Place → Cut → DirectiveLine
stray hash p = stray_by p.kind p hash

-- what may not stand in a replacement, where it stands
abbrev pub body_fault_by : PieceKind → Cut → Option LexError
body_fault_by (kinds.Faulty fault) p = Some (error_at fault p.place)
body_fault_by (kinds.FaultyComment fault) p = Some (error_at fault p.place)
body_fault_by kinds.Hash p = Some (Refused HashInMacro p.place)
body_fault_by _ p = None

abbrev pub first_fault : List Cut → Option LexError
first_fault [] = None
first_fault (p ∷ ps) = elim (body_fault_by p.kind p) [ None ↦ first_fault ps | Some error ↦ Some error ]

abbrev pub begins_call : List Cut → Bool
begins_call [] = false
begins_call (p ∷ ps) = is_paren_kind p.kind

abbrev pub defined_unless : Option LexError → Place → Definition → DirectiveLine
defined_unless None hash new = define hash new
defined_unless (Some error) hash new = refuse error

-- behind the word define: a name, no parenthesis at once, and the replacement
abbrev pub definition_in : Place → List Cut → DirectiveLine
definition_in hash [] = refuse (Refused Directive hash)
definition_in hash (p ∷ ps) =
    if not (is_word_kind p.kind) then stray hash p
    else (if begins_call ps then refuse (Refused FunctionMacro hash)
    else defined_unless (first_fault ps) hash (record { name = p.spelling; body = marks_of ps }))

-- the header that these pieces name, and what stands behind it
abbrev pub header_in : List Cut → Option (Header × List Cut)
header_in (a ∷ b ∷ c ∷ d ∷ e ∷ ps) =
    if bytes_eq a.spelling (codes "<") && bytes_eq c.spelling (codes ".") && bytes_eq d.spelling (codes "h") && bytes_eq e.spelling (codes ">")
    then elim (header_of b.spelling) [ None ↦ None | Some header ↦ Some (header, ps) ]
    else None
header_in _ = None

abbrev pub alone : Place → Header → List Cut → DirectiveLine
alone hash header [] = include hash header
alone hash header (p ∷ ps) = stray hash p

-- behind the word include: a header, alone
abbrev pub inclusion_in : Place → List Cut → DirectiveLine
inclusion_in hash [] = refuse (Refused Directive hash)
inclusion_in hash (p ∷ ps) = elim (header_in (p ∷ ps)) [
  | None ↦ stray hash p
  | Some found ↦ alone hash found.0 (from_mark found.1)
]

-- behind the number sign
abbrev pub directive_in : Place → List Cut → DirectiveLine
directive_in hash [] = text []
directive_in hash (p ∷ ps) =
    if bytes_eq p.spelling (codes "define") then definition_in hash (from_mark ps)
    else (if bytes_eq p.spelling (codes "include") then inclusion_in hash (from_mark ps)
    else stray hash p)

abbrev pub line_in : List Cut → List Cut → DirectiveLine
line_in all [] = text []
line_in all (p ∷ ps) = if is_hash_kind p.kind then directive_in p.place (from_mark ps) else text all

abbrev pub line_of : List Cut → DirectiveLine
line_of ps = line_in ps (from_mark ps)

-- the macros of a header, each replaced by a number
abbrev pub header_macros : Header → List (List ℕ × List ℕ)
header_macros Stdio = map (λ r. (r.0.now, r.1.now)) STDIO_MACROS
header_macros Stdlib = map (λ r. (r.0.now, r.1.now)) STDLIB_MACROS

abbrev pub number_piece : Place → List ℕ → Cut
number_piece hash digits = record { kind = number_kind digits; spelling = digits; start = 0; end = 0; place = hash }

abbrev pub number_macro : Place → List ℕ × List ℕ → Definition
number_macro hash r = record { name = r.0; body = number_piece hash r.1 ∷ [] }

abbrev pub header_definitions : Place → Header → List Definition
header_definitions hash header = map (number_macro hash) (header_macros header)

-- two replacements are the same by their spellings
abbrev pub same_spellings : List Cut → List Cut → Bool
same_spellings [] [] = true
same_spellings (p ∷ ps) (q ∷ qs) = bytes_eq p.spelling q.spelling && same_spellings ps qs
same_spellings _ _ = false

-- for a name that has a definition, whether it is another than this
abbrev pub known_as : List Definition → Definition → Option Bool
known_as macros new = option_map (λ old. not (same_spellings old new.body)) (body_of macros new.name)

abbrev pub added : Option Bool → List Definition → Definition → List Definition
added None macros new = macros ++ new ∷ []
added (Some other) macros new = macros

abbrev pub with_definition : List Definition → Definition → List Definition
with_definition macros new = added (known_as macros new) macros new

abbrev pub with_definitions : List Definition → List Definition → List Definition
with_definitions macros [] = macros
with_definitions macros (new ∷ more) = with_definitions (with_definition macros new) more

-- a different definition of a name is refused
abbrev pub conflict_items : Option Bool → Place → List TextItem
conflict_items (Some true) hash = refused (Refused MacroRedefined hash) ∷ []
conflict_items _ hash = []

abbrev pub definition_items : Place → List Definition → List Definition → List TextItem
definition_items hash macros [] = []
definition_items hash macros (new ∷ more) =
    conflict_items (known_as macros new) hash ++ definition_items hash (with_definition macros new) more

-- a line of text with its names replaced
abbrev pub replaced_text : ℕ → List Definition → List Cut → List TextItem
replaced_text n macros ps = flat_map (λ p. expand n macros [] p p) ps

-- what a line leaves: a line of text its tokens, a directive nothing but what it is refused for
abbrev pub line_items : ℕ → List Definition → DirectiveLine → List TextItem
line_items n macros (text ps) = replaced_text n macros ps
line_items n macros (include hash header) = definition_items hash macros (header_definitions hash header)
line_items n macros (define hash new) = definition_items hash macros (new ∷ [])
line_items n macros (refuse error) = refused error ∷ []

-- the macros after a line
abbrev pub macros_after : List Definition → DirectiveLine → List Definition
macros_after macros (include hash header) = with_definitions macros (header_definitions hash header)
macros_after macros (define hash new) = with_definition macros new
macros_after macros _ = macros

-- the lines in order, where a definition holds from its line on
abbrev pub replaced_lines : ℕ → List Definition → List (List Cut) → List TextItem
replaced_lines n macros [] = []
replaced_lines n macros (l ∷ ls) = line_items n macros (line_of l) ++ replaced_lines n (macros_after macros (line_of l)) ls

-- the header that a line includes, and whether one of the lines includes a header
abbrev pub inclusion_of : DirectiveLine → Option Header
inclusion_of (include hash header) = Some header
inclusion_of _ = None

abbrev pub is_of : Header → Option Header → Bool
is_of Stdio (Some Stdio) = true
is_of Stdlib (Some Stdlib) = true
is_of header found = false

abbrev pub includes : Header → List (List Cut) → Bool
includes header lines = list_any (λ l. is_of header (inclusion_of (line_of l))) lines
