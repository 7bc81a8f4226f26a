-- What may stand first where an expression, a declarator or what follows specifiers begins.
use Rattle.std.specs.Prelude.{◌≡◌, false, List, ◌∷◌, Some, None}
use Rattle.dae_tree.specs.declared.words.Keyword.{Keyword}
use Rattle.dae_tree.specs.declared.words.Keyword.TheVariants as keywords
use Rattle.dae_tree.specs.declared.signs.Sign.{Sign}
use Rattle.dae_tree.specs.declared.signs.Sign.TheVariants as signs
use Rattle.dae_tree.specs.Marks.{TokenMark, word, sign, name, constant, literal, part, else_word}
use Rattle.dae_tree.specs.Operators.{prefix_at}
use Rattle.dae_tree.specs.Names.{Names, is_type}

-- a parenthesis, and what may stand before an operand
abbrev pub IsStartSign : Sign → Type 0
IsStartSign signs.LeftParen = Unit {0}
IsStartSign g = elim (prefix_at g) [ None ↦ ⊥ | Some o ↦ Unit {0} ]

abbrev pub IsStartWord : Keyword → Type 0
IsStartWord keywords.Sizeof = Unit {0}
IsStartWord _ = ⊥

-- the first token of an expression
abbrev pub Starts : Names → List TokenMark → Type 0
Starts names (name n ∷ ts) = is_type names n.number ≡ false
Starts names (constant p c ∷ ts) = Unit {0}
Starts names (literal p n ∷ ts) = Unit {0}
Starts names (sign g p ∷ ts) = IsStartSign g
Starts names (word k p ∷ ts) = IsStartWord k
Starts names _ = ⊥

abbrev pub IsSignBehindSpecifiers : Sign → Type 0
IsSignBehindSpecifiers signs.LeftBrace = ⊥
IsSignBehindSpecifiers _ = Unit {0}

-- what follows specifiers: a declarator, or what follows declarators where there is none
abbrev pub FollowsSpecifiers : List TokenMark → Type 0
FollowsSpecifiers (name n ∷ ts) = Unit {0}
FollowsSpecifiers (part c ∷ ts) = Unit {0}
FollowsSpecifiers (sign g p ∷ ts) = IsSignBehindSpecifiers g
FollowsSpecifiers _ = ⊥

abbrev pub IsSignBehindDeclarator : Sign → Type 0
IsSignBehindDeclarator signs.Semicolon = Unit {0}
IsSignBehindDeclarator signs.Assign = Unit {0}
IsSignBehindDeclarator signs.LeftBrace = Unit {0}
IsSignBehindDeclarator _ = ⊥

-- what follows a declarator
abbrev pub FollowsDeclarator : List TokenMark → Type 0
FollowsDeclarator (part c ∷ ts) = Unit {0}
FollowsDeclarator (sign g p ∷ ts) = IsSignBehindDeclarator g
FollowsDeclarator _ = ⊥

abbrev pub IsNoElse : List TokenMark → Type 0
IsNoElse (part else_word ∷ ts) = ⊥
IsNoElse _ = Unit {0}

abbrev pub IsNoSemicolon : List TokenMark → Type 0
IsNoSemicolon (sign signs.Semicolon p ∷ ts) = ⊥
IsNoSemicolon _ = Unit {0}
