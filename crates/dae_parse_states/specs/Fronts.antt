-- What stands at the front of the tokens that are left.
use Rattle.std.specs.Prelude.{◌≡◌, List, [], ◌∷◌, Option, Some, None}
use Rattle.dae_tree.specs.declared.tokens.Token.{Token}
use Rattle.dae_base.specs.declared.Place.{Place}
use Rattle.dae_tree.specs.declared.words.Keyword.{Keyword}
use Rattle.dae_tree.specs.declared.words.Keyword.TheVariants as keywords
use Rattle.dae_tree.specs.declared.signs.Sign.{Sign}
use Rattle.dae_tree.specs.declared.signs.Sign.TheVariants as signs
use Rattle.dae_tree.specs.declared.expressions.Name.{Name}
use Rattle.dae_parse_grammar.specs.Stuck.{behind}
use Rattle.dae_tree.specs.Marks.{TokenMark, mark, word, sign, name, Separator, part, close_paren, close_bracket, close_brace, comma, colon, else_word, word_mark, sign_mark}

abbrev pub Fronts : Option Token → List TokenMark → Type 0
Fronts None ts = ts ≡ []
Fronts (Some t) ts = ts ≡ mark t ∷ behind ts

-- the sign, word or name that stands there
abbrev pub part_sign : Separator → Option Sign
part_sign close_paren = Some signs.RightParen
part_sign close_bracket = Some signs.RightBracket
part_sign close_brace = Some signs.RightBrace
part_sign comma = Some signs.Comma
part_sign colon = Some signs.Colon
part_sign else_word = None

abbrev pub part_word : Separator → Option Keyword
part_word else_word = Some keywords.Else
part_word _ = None

abbrev pub sign_at : List TokenMark → Option Sign
sign_at (sign g p ∷ ts) = Some g
sign_at (part c ∷ ts) = part_sign c
sign_at _ = None

abbrev pub word_at : List TokenMark → Option Keyword
word_at (word k p ∷ ts) = Some k
word_at (part c ∷ ts) = part_word c
word_at _ = None

abbrev pub name_at : List TokenMark → Option Name
name_at (name n ∷ ts) = Some n
name_at _ = None

-- the token of this kind is taken, or nothing is and it does not stand there
abbrev pub TookSign : Sign → Option Place → List TokenMark → List TokenMark → Type 0
TookSign g None old new = (new ≡ old) × ¬ (sign_at old ≡ Some g)
TookSign g (Some p) old new = old ≡ sign_mark g p ∷ new

abbrev pub TookWord : Keyword → Option Place → List TokenMark → List TokenMark → Type 0
TookWord k None old new = (new ≡ old) × ¬ (word_at old ≡ Some k)
TookWord k (Some p) old new = old ≡ word_mark k p ∷ new

abbrev pub TookName : Option Name → List TokenMark → List TokenMark → Type 0
TookName None old new = (new ≡ old) × (name_at old ≡ None)
TookName (Some n) old new = old ≡ name n ∷ new
