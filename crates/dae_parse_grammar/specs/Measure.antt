-- A number that falls with each step of the machine.
use Rattle.std.specs.Prelude.{ℕ, ◌+◌, ◌*◌, length}
use Rattle.dae_parse_grammar.specs.Frames.{Doing, operated, calling, measuring, specifying, tagged, membering, enumerated, entering, gave_specifiers, declaring, qualifying, suffixing, sizing, parametering, initialising, listing, itemed, gave_declaration, externals, declarations, statements, stating, starting, testing, stepping, returning, gave_statement, ParserState, state}

-- how much may still be done before the next token is taken
abbrev pub weight : Doing → ℕ
weight (operated e l) = 1
weight (calling e p l) = 3
weight (measuring p l) = 3
weight (specifying seen before) = 4
weight (tagged is p n seen before) = 5
weight (membering b before) = 7
weight (enumerated b before n) = 1
weight (entering b before e) = 1
weight (gave_specifiers ws) = 3
weight (declaring m needed) = 2
weight (qualifying m p before) = 5
weight (suffixing m d) = 1
weight (sizing m d p) = 3
weight (parametering m d p) = 7
weight initialising = 3
weight (listing p x before) = 6
weight (itemed ws i before) = 1
weight (gave_declaration d) = 8
weight (externals before) = 9
weight (declarations i) = 9
weight (statements i before) = 6
weight stating = 3
weight (starting p q) = 3
weight (testing p q a r) = 3
weight (stepping l) = 3
weight (returning p) = 3
weight (gave_statement b) = 6
weight _ = 0

abbrev pub measure : ParserState → ℕ
measure (state d s names ts) = 12 * length ts + 2 * length s + weight d
