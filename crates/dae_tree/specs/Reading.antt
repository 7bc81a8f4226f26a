-- What is read of a text: its tokens, the names and literals that they number, and the headers that it includes.
use Rattle.std.specs.Prelude.{◌≡◌, ℕ, ◌<◌, ◌≤◌, Bool, List, [], ◌∷◌, length, All}
use Rattle.std.specs.List.{IsDistinct, range_with_len}
use Rattle.std.specs.Str.{bytes_eq}
use Rattle.dae_base.specs.declared.Place.{Place}
use Rattle.dae_tree.specs.declared.tokens.TokenKind.{TokenKind}
use Rattle.dae_tree.specs.declared.tokens.TokenKind.TheVariants as kinds
use Rattle.dae_tree.specs.declared.tokens.Token.{Token}
use Rattle.dae_tree.specs.Marks.{marks, literal_numbers}

pub record Reading : Type 0 where
  pub text : List ℕ
  pub tokens : List Token
  pub names : List (List ℕ)
  pub literals : List (List ℕ)
  pub stdio : Bool
  pub stdlib : Bool
  pub end : Place

-- a token has at least one byte of the text
abbrev pub IsSpan : List ℕ → Token → Type 0
IsSpan text t = (t.start < t.end) × (t.end ≤ length text)

-- from a start and an end on, neither the starts nor the ends of the tokens fall
abbrev pub AreInOrder : ℕ → ℕ → List Token → Type 0
AreInOrder start end [] = Unit {0}
AreInOrder start end (t ∷ ts) = (start ≤ t.start) × (end ≤ t.end) × AreInOrder t.start t.end ts

-- a token's name or literal is one of those read
abbrev pub IsNumbered : ℕ → ℕ → TokenKind → Type 0
IsNumbered names literals (kinds.Name n) = n < names
IsNumbered names literals (kinds.Literal n) = n < literals
IsNumbered names literals _ = Unit {0}

-- Spans lie within the text, and neither their starts nor their ends fall. No name stands twice in the list of names, and
-- the numbers of names and literals lie within their lists; the literals have the numbers from 0 on.
pub record IsReading (r : Reading) : Type 0 where
  pub spans : All (IsSpan r.text) r.tokens
  pub order : AreInOrder 0 0 r.tokens
  pub distinct : IsDistinct bytes_eq r.names
  pub numbers : All (λ t. IsNumbered (length r.names) (length r.literals) t.kind) r.tokens
  pub counted : literal_numbers (marks r.tokens) ≡ range_with_len 0 (length r.literals)
