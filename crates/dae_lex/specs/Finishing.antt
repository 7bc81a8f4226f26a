-- The list of tokens as it grows: the tokens, names and literals so far, and a literal that may still go on.
use Rattle.std.specs.Prelude.{ℕ, List, [], ◌∷◌, ◌++◌, map, Option, Some, None, All}
use Rattle.std.specs.Borrow.{Bor}
use Rattle.dae_tree.specs.Replacing.{TokenRead, literal}
use Rattle.dae_tree.specs.Tokens.{before, token_of, numbered, names_with, names_after, literals_with, literals_after}
use Rattle.dae_tree.specs.declared.tokens.Token.{Token}
use Rattle.dae_lex.specs.declared.finish.Builder.{Builder}
use Rattle.dae_lex.specs.declared.finish.OpenLiteral.{OpenLiteral}
use Rattle.dae_lex.specs.declared.numbers.WordNumbers.{WordNumbers}
use Rattle.dae_lex.specs.Numbers.{IsName}

pub record Built : Type 0 where
  pub tokens : List Token
  pub names : List (List ℕ)
  pub literals : List (List ℕ)

-- names by their numbers
abbrev pub names_in : List (ℕ × Bor (List ℕ)) → List (List ℕ)
names_in es = map (λ e. e.1.now) es

abbrev pub AreNamed : WordNumbers → List (ℕ × Bor (List ℕ)) → Type 0
AreNamed w es = All (λ e. IsName w e.0 e.1.now) es

abbrev pub built_of : Builder → Built
built_of b = record { tokens = b.tokens.items; names = names_in b.names.entries; literals = b.literals.items }

abbrev pub read_literal : OpenLiteral → TokenRead
read_literal l = record { meaning = literal l.bytes.items; start = l.start; end = l.end; place = l.place }

-- a literal that the next token goes on
abbrev pub longer_of : Option OpenLiteral → TokenRead → List ℕ → TokenRead
longer_of None t bytes = record { meaning = literal bytes; start = t.start; end = t.end; place = t.place }
longer_of (Some l) t bytes =
    record { meaning = literal (l.bytes.items ++ bytes); start = l.start; end = t.end; place = l.place }

-- with a literal before the rest
abbrev pub waiting : Option OpenLiteral → List TokenRead → List TokenRead
waiting None ts = ts
waiting (Some l) ts = before (read_literal l) ts

-- with these tokens at the end
abbrev pub finished : Built → List TokenRead → Built
finished b ts = record {
  tokens = b.tokens ++ numbered b.names b.literals ts;
  names = names_after b.names ts;
  literals = literals_after b.literals ts;
}

-- with one token more, and with a literal that is over
abbrev pub added : Built → TokenRead → Built
added b t = record {
  tokens = b.tokens ++ token_of b.names b.literals t ∷ [];
  names = names_with b.names t.meaning;
  literals = literals_with b.literals t.meaning;
}

abbrev pub closed : Built → Option OpenLiteral → Built
closed b None = b
closed b (Some l) = added b (read_literal l)
