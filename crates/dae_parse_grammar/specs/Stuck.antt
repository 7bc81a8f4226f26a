-- Where the machine is stuck.
use Rattle.std.specs.Prelude.{List, [], ◌∷◌}
use Rattle.dae_tree.specs.Marks.{TokenMark}
use Rattle.dae_parse_grammar.specs.Frames.{operated, ParserState, state}

abbrev pub behind : List TokenMark → List TokenMark
behind [] = []
behind (t ∷ ts) = ts

-- the tokens that are left
abbrev pub rest_of : ParserState → List TokenMark
rest_of (state d s names ts) = ts

-- The tokens from the first on at which nothing goes on, where no step is made. Behind an operand that is the token behind
-- the sign of a member, since the name is what is missing.
abbrev pub stuck : ParserState → List TokenMark
stuck (state (operated e l) s names ts) = behind ts
stuck (state d s names ts) = ts
