-- What it means that the machine reads a tree: a property that holds behind it holds before it.
use Rattle.std.specs.Prelude.{◌≡◌, Bool, List, [], ◌∷◌, Some}
use Rattle.dae_tree.specs.declared.signs.Sign.TheVariants as signs
use Rattle.dae_tree.specs.Marks.{TokenMark, word, sign, part}
use Rattle.dae_tree.specs.Names.{Names, after_declarator}
use Rattle.dae_tree.specs.Spelling.{spell_declarator}
use Rattle.dae_tree.specs.Grammar.{Manner, IsDeclarator, HasMember}
use Rattle.dae_tree.specs.Trees.{Declarator, Members, Absent, Pointer}
use Rattle.dae_tree.specs.Lists.{MemberLine}
use Rattle.dae_parse_grammar.specs.Frames.{Frame, ParserState, state, Doing, declaring, suffixing, gave_declarator}
use Rattle.dae_parse_grammar.specs.Machine.{declared}
use Rattle.dae_parse_grammar.specs.Starts.{FollowsDeclarator}

-- what the machine does when it has a declarator: a pointer is whole, suffixes may follow others
abbrev pub so_far : Manner → Declarator → Doing
so_far m (Pointer p qs d) = gave_declarator (Pointer p qs d)
so_far m d = suffixing m d

-- what must follow for that
abbrev pub Opens : Manner → Names → Declarator → List TokenMark → Type 0
Opens m names Absent rest = (needed : Bool) (s : List Frame) → declared m needed s names rest ≡ Some (state (suffixing m Absent) s names rest)
Opens m names (Pointer p qs d) rest = FollowsDeclarator rest
Opens m names _ rest = Unit {0}

abbrev pub ReadsDeclarator : (ParserState → Type 0) → Declarator → Type 0
ReadsDeclarator P d =
    (m : Manner) (names : Names) → IsDeclarator m names d → (needed : Bool) (s : List Frame) (rest : List TokenMark) → Opens m names d rest
    → P (state (so_far m d) s (after_declarator d names) rest) → P (state (declaring m needed) s names (spell_declarator d rest))

-- some member stands before or behind
abbrev pub HasLine : List MemberLine → Members → Type 0
HasLine [] ms = HasMember ms
HasLine (m ∷ before) ms = Unit {0}

abbrev pub IsNoWord : List TokenMark → Type 0
IsNoWord (word k p ∷ ts) = ⊥
IsNoWord _ = Unit {0}

abbrev pub IsNoPart : List TokenMark → Type 0
IsNoPart (part c ∷ ts) = ⊥
IsNoPart _ = Unit {0}

abbrev pub IsNoBrace : List TokenMark → Type 0
IsNoBrace (sign signs.LeftBrace p ∷ ts) = ⊥
IsNoBrace _ = Unit {0}
