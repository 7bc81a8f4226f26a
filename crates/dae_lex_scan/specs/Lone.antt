-- Signs of one byte that begin no longer sign, and those that end where a blank stands behind them.
use Rattle.std.specs.Prelude.{ℕ, List, [], ◌∷◌, Option, Some, None, nat_eq, if◌then◌else◌}
use Rattle.dae_tree.specs.declared.signs.Sign.{Sign}
use Rattle.dae_tree.specs.declared.signs.Sign.TheVariants as signs

-- `,` `;` `(` `)` `[` `]` `{` `}` `~` `?` `:`
abbrev pub lone_signs : List (ℕ × Sign)
lone_signs =
    (44, signs.Comma) ∷ (59, signs.Semicolon) ∷ (40, signs.LeftParen) ∷ (41, signs.RightParen) ∷ (91, signs.LeftBracket) ∷ (93, signs.RightBracket) ∷ (123, signs.LeftBrace)
    ∷ (125, signs.RightBrace) ∷ (126, signs.Tilde) ∷ (63, signs.Question) ∷ (58, signs.Colon) ∷ []

abbrev pub sign_among : List (ℕ × Sign) → ℕ → Option Sign
sign_among [] byte = None
sign_among (r ∷ rows) byte = if nat_eq byte r.0 then Some r.1 else sign_among rows byte

abbrev pub lone_sign : ℕ → Option Sign
lone_sign byte = sign_among lone_signs byte

-- `=` `+` `-` `*` `/` `%` `<` `>` `&` `|` `^`
abbrev pub spaced_signs : List (ℕ × Sign)
spaced_signs =
    (61, signs.Assign) ∷ (43, signs.Plus) ∷ (45, signs.Minus) ∷ (42, signs.Times) ∷ (47, signs.Divide) ∷ (37, signs.Remainder) ∷ (60, signs.Less)
    ∷ (62, signs.Greater) ∷ (38, signs.And) ∷ (124, signs.Or) ∷ (94, signs.Xor) ∷ []

abbrev pub spaced_sign : ℕ → Option Sign
spaced_sign byte = sign_among spaced_signs byte
