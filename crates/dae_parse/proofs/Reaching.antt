-- A run of the parser's machine shows a run of the grammar's: how it goes on, and where it ends.
use Rattle.std.proofs.Common.{◌≡◌, ℕ, suc, ◌+◌, ◌*◌, ◌<◌, ◌≤◌, arith, List, [], ◌∷◌, length, map, reverse, Option, Some, None, refl, sym, ap, subst, ◌∙◌, Bool}
use Rattle.dae_tree.specs.declared.tokens.Token.{Token}
use Rattle.dae_tree.specs.Marks.{TokenMark, marks}
use Rattle.dae_tree.specs.Names.{Names}
use Rattle.dae_tree.specs.Statements.{IsTreeOf}
use Rattle.dae_tree.specs.Trees.{External}
use Rattle.dae_parse_grammar.specs.Frames.{Frame, ParserState, state, externals}
use Rattle.dae_parse_grammar.specs.Frames as plain
use Rattle.dae_parse_grammar.specs.Machine.{step, step_at, begun, onto}
use Rattle.dae_parse_grammar.specs.Measure.{measure}
use Rattle.dae_parse_grammar.specs.Runs.{run}
use Rattle.dae_parse_grammar.specs.Standing.{Holds}
use Rattle.dae_parse_grammar.specs.Taken.{tokens_of}
use Rattle.dae_parse_grammar.proofs.Laws.{run_next, stands, run_keeps, step_falls, sound, stopped}
use Rattle.dae_parse_states.specs.declared.frames.FileSoFar.{FileSoFar}
use Rattle.dae_parse_states.specs.declared.frames.Doing.{Doing}
use Rattle.dae_parse_states.specs.declared.machine.Parser.{Parser}
use Rattle.dae_parse_states.specs.declared.frames.Doing.TheVariants as doing
use Rattle.dae_parse_states.specs.declared.frames.Frame.{Frame as Top}
use Rattle.dae_parse_states.specs.Kept.{out_of_box}
use Rattle.dae_parse_parts.specs.Scopes.{Scopes}
use Rattle.dae_parse_states.specs.Frames.{ShowsDoing, ShowsFile, ShowsStack}
use Rattle.dae_parse_states.specs.States.{Follows}
use Rattle.dae_parse_states.specs.Bottom.{IsEmptyAt, IsBottomState}
use Rattle.dae_parse.specs.Reached.{Reached}
use Rattle.dae_parse.proofs.Bottoms.{bottom_of_run}

-- ---- what holds of each state that is reached

pub holds_there : (tokens : List TokenMark) (turns : ℕ) (does : Doing) (m : Parser) (r : Reached tokens turns does m) → Holds (state r.does r.stack m.scope.names m.rest)
holds_there tokens turns does m r = subst Holds r.come (stands tokens turns)

pub bottom_there : (tokens : List TokenMark) (turns : ℕ) (does : Doing) (m : Parser) (r : Reached tokens turns does m) → IsBottomState (state r.does r.stack m.scope.names m.rest)
bottom_there tokens turns does m r = subst IsBottomState r.come (bottom_of_run turns tokens)

pub length_marks : (tokens : List Token) → length (marks tokens) ≡ length tokens
length_marks [] = refl
length_marks (t ∷ tokens) = ap suc (length_marks tokens)

pub count_there : (tokens : List Token) (turns : ℕ) (does : Doing) (m : Parser) (r : Reached (marks tokens) turns does m) → length (tokens_of (state r.does r.stack m.scope.names m.rest)) ≡ length tokens
count_there tokens turns does m r =
    ap (λ (s : ParserState). length (tokens_of s)) (sym r.come) ∙ ap length (run_keeps turns (begun (marks tokens))) ∙ length_marks tokens

-- ---- the first state

pub start : (tokens : List TokenMark) (m : Parser) (b : FileSoFar) → ShowsFile b [] → m.stack.items ≡ [] → m.scope ≡ record { names = []; outside = [] } → m.rest ≡ tokens → Reached tokens 0 (doing.Externals b) m
start tokens m b f e g h = record {
  does = externals [];
  stack = [];
  come = ap (state (externals []) [] []) (sym h) ∙ ap (λ (n : Names). state (externals []) [] n m.rest) (sym (ap (λ (s : Scopes Bool). s.names) g));
  shown = f;
  stands = (subst (λ (fs : List Top). ShowsStack (map out_of_box (reverse fs)) []) (sym e) tt, ap (λ (s : Scopes Bool). s.outside) g);
  spent = omega (arith, ap length h);
}

-- ---- the next state

lower : (a b n bound : ℕ) → b < a → a + n ≤ bound → b + (n + 1) ≤ bound
lower a b n bound h k = omega arith

one_more : (n : ℕ) → suc n ≡ n + 1
one_more n = omega arith

go_on : (tokens : List TokenMark) (turns : ℕ) (s : ParserState) (next : Doing) (m : Parser) → run turns (begun tokens) ≡ s → measure s + turns ≤ 12 * length tokens + 9 → (r : Option ParserState) → step s ≡ r → Follows (Some next) m r → Reached tokens (turns + 1) next m
go_on tokens turns s next m come spent None e f = absurd f
go_on tokens turns s next m come spent (Some (state d t names rest)) e f =
    let same : state d t names rest ≡ state d t m.scope.names m.rest = ap (λ (n : Names). state d t n rest) (sym f.2) ∙ ap (state d t m.scope.names) (sym f.3) in
    record {
      does = d;
      stack = t;
      come = subst (λ (n : ℕ). run n (begun tokens) ≡ state d t m.scope.names m.rest) (one_more turns) (run_next turns (begun tokens) (state d t names rest) (ap step come ∙ e) ∙ same);
      shown = f.0;
      stands = (f.1, f.4);
      spent = subst (λ (u : ParserState). measure u + (turns + 1) ≤ 12 * length tokens + 9) same (lower (measure s) (measure (state d t names rest)) turns (12 * length tokens + 9) (step_falls s (state d t names rest) e) spent);
    }

pub next_reached : (tokens : List TokenMark) (turns : ℕ) (does next : Doing) (m n : Parser) (r : Reached tokens turns does m) → Follows (Some next) n (step_at r.does r.stack m.scope.names m.rest) → Reached tokens (turns + 1) next n
next_reached tokens turns does next m n r f = go_on tokens turns (state r.does r.stack m.scope.names m.rest) next n r.come r.spent (step_at r.does r.stack m.scope.names m.rest) refl f

-- no run takes all turns
pub no_more : (tokens : List Token) (turns : ℕ) (does : Doing) (m : Parser) → Reached (marks tokens) turns does m → 12 * length tokens + 10 ≤ turns → ⊥
no_more tokens turns does m r h = omega (arith, h, length_marks tokens, r.spent)

-- ---- the end

-- a file is whole at the end of the tokens, between two externals
abbrev pub IsWhole : FileSoFar → plain.Doing → List TokenMark → Type 0
IsWhole b (plain.externals xs) [] = ShowsFile b xs
IsWhole b _ _ = ⊥

abbrev pub IsNotWhole : plain.Doing → List TokenMark → Type 0
IsNotWhole (plain.externals xs) [] = ⊥
IsNotWhole _ _ = Unit {0}

pub whole_there : (b : FileSoFar) (d : plain.Doing) (ts : List TokenMark) → ShowsDoing (doing.Externals b) d → length ts ≡ 0 → IsWhole b d ts
whole_there b (externals xs) [] shows none = shows
whole_there b (externals xs) (t ∷ ts) shows none = absurd (omega arith)
whole_there b _ ts shows none = absurd shows

pub not_whole : (g : Doing) (d : plain.Doing) (ts : List TokenMark) → ShowsDoing g d → ((b : FileSoFar) → g ≡ doing.Externals b → length ts ≡ 0 → ⊥) → IsNotWhole d ts
not_whole (doing.Externals b) (externals xs) [] shows other = absurd (other b refl refl)
not_whole _ (externals xs) [] shows other = absurd shows
not_whole g _ ts shows other = tt

ends_whole : (tokens : List TokenMark) (turns : ℕ) (d : plain.Doing) (s : List Frame) (names : Names) (rest : List TokenMark) (b : FileSoFar) → run turns (begun tokens) ≡ state d s names rest → IsEmptyAt d s → IsWhole b d rest
    → (xs : List External) × ShowsFile b xs × IsTreeOf tokens (onto xs [])
ends_whole tokens turns (externals xs) s names [] b come e w = (xs, w, sound tokens turns xs names (come ∙ ap (λ (t : List Frame). state (externals xs) t names []) e))
ends_whole tokens turns (externals xs) s names (t ∷ rest) b come e w = absurd w
ends_whole tokens turns _ s names rest b come e w = absurd w

pub whole_reached : (tokens : List TokenMark) (turns : ℕ) (does : Doing) (m : Parser) (r : Reached tokens turns does m) (b : FileSoFar) → IsWhole b r.does m.rest → (xs : List External) × ShowsFile b xs × IsTreeOf tokens (onto xs [])
whole_reached tokens turns does m r b w = ends_whole tokens turns r.does r.stack m.scope.names m.rest b r.come (bottom_there tokens turns does m r).1 w

abbrev NotEnded : ParserState → Type 0
NotEnded (state d s names rest) = IsNotWhole d rest

pub none_reached : (tokens : List TokenMark) (turns : ℕ) (does : Doing) (m : Parser) (r : Reached tokens turns does m) → step_at r.does r.stack m.scope.names m.rest ≡ None → IsNotWhole r.does m.rest → (file : List External) → ¬ IsTreeOf tokens file
none_reached tokens turns does m r e w file i =
    let k = stopped tokens turns (state r.does r.stack m.scope.names m.rest) r.come e file i in
    subst NotEnded k.1 w
