-- Where the machine stops at a token, no file begins with the tokens up to it; and it stops at one place.
use Rattle.std.proofs.Common.{◌≡◌, ℕ, zero, suc, ◌+◌, ◌-◌, arith, List, [], ◌∷◌, ◌++◌, length, take, Option, Some, None, refl, sym, ap, subst, ◌∙◌, append_assoc}
use Rattle.std.specs.Prelude.{slice_get}
use Rattle.std.proofs.lemmas.Option.{slice_get_within}
use Rattle.std.proofs.lemmas.List.{length-append}
use Rattle.dae_tree.specs.declared.tokens.Token.{Token}
use Rattle.dae_tree.specs.Marks.{TokenMark, mark, marks}
use Rattle.dae_tree.specs.Names.{Names}
use Rattle.dae_tree.specs.Reading.{Reading}
use Rattle.dae_base.specs.declared.Place.{Place}
use Rattle.dae_tree.specs.Statements.{IsTreeOf}
use Rattle.dae_tree.specs.Trees.{Expression}
use Rattle.dae_parse_grammar.specs.Frames as plain
use Rattle.dae_parse_grammar.specs.Frames.{Frame, ParserState, state}
use Rattle.dae_parse_grammar.specs.Machine.{step, begun}
use Rattle.dae_parse_grammar.specs.Runs.{run}
use Rattle.dae_parse_grammar.specs.Stuck.{rest_of, stuck}
use Rattle.dae_parse_grammar.proofs.Laws.{nothing_goes_on, run_left}
use Rattle.dae_parse_states.specs.declared.frames.Doing.{Doing}
use Rattle.dae_parse_states.specs.declared.frames.Doing.TheVariants as doing
use Rattle.dae_parse_states.specs.Frames.{ShowsDoing}
use Rattle.dae_parse.specs.Parsed.{NothingBegins, IsStuckAt, IsPlaceOfSyntax, place_from}
use Rattle.dae_parse.proofs.Reaching.{length_marks}

-- ---- how many tokens are left

pub left_behind_operand : (a : _) (l : _) (d : plain.Doing) (s : List Frame) (names : Names) (ts : List TokenMark) → ShowsDoing (doing.Operated a l) d → length ts - 1 ≡ length (stuck (state d s names ts))
left_behind_operand a l (plain.operated e k) s names [] h = refl
left_behind_operand a l (plain.operated e k) s names (t ∷ ts) h = omega arith
left_behind_operand a l _ s names ts h = absurd h

no_operand : (g : Doing) (e : Expression) (k : ℕ) → ShowsDoing g (plain.operated e k) → ((a : _) (l : _) → g ≡ doing.Operated a l → ⊥) → ⊥
no_operand (doing.Operated a l) e k h n = n a l refl
no_operand _ e k h n = h

pub left_elsewhere : (g : Doing) (d : plain.Doing) (s : List Frame) (names : Names) (ts : List TokenMark) → ShowsDoing g d → ((a : _) (l : _) → g ≡ doing.Operated a l → ⊥) → length ts ≡ length (stuck (state d s names ts))
left_elsewhere g (plain.operated e k) s names ts h n = absurd (no_operand g e k h n)
left_elsewhere g _ s names ts h n = refl

-- ---- the tokens up to the one where it is stuck

up_to : (before : List TokenMark) (m : TokenMark) (us : List TokenMark) (tokens : List Token) → marks tokens ≡ before ++ m ∷ us → marks (take (suc (length before)) tokens) ≡ before ++ m ∷ []
up_to [] m us [] e = absurd (cc)
up_to [] m us (t ∷ tokens) e = cc
up_to (b ∷ before) m us [] e = absurd (cc)
up_to (b ∷ before) m us (t ∷ tokens) e =
    let rest : marks tokens ≡ before ++ m ∷ us = cc in
    let same = up_to before m us tokens rest in
    let first : mark t ≡ b = cc in
    ap (λ (x : TokenMark). x ∷ marks (take (suc (length before)) tokens)) first ∙ ap (λ (xs : List TokenMark). b ∷ xs) same

left_of_state : (s : ParserState) → (taken : List TokenMark) × (rest_of s ≡ taken ++ stuck s)
left_of_state (state (plain.operated e l) s n []) = ([], refl)
left_of_state (state (plain.operated e l) s n (t ∷ ts)) = (t ∷ [], refl)
left_of_state (state _ s n ts) = ([], refl)

stuck_by : (tokens : List Token) (turns : ℕ) (s : ParserState) (i : ℕ) (t : Token) → run turns (begun (marks tokens)) ≡ s → step s ≡ None → (before st : List TokenMark) → stuck s ≡ st → marks tokens ≡ before ++ st → i ≡ length tokens - length st
    → slice_get tokens i ≡ Some t → NothingBegins tokens (suc i)
stuck_by tokens turns s i t r h before [] e f g q more file tree = omega (arith, g, slice_get_within tokens i t q)
stuck_by tokens turns s i t r h before (m ∷ us) e f g q more file tree =
    let same : i ≡ length before = omega (arith, g, ap length f, length-append before (m ∷ us), length_marks tokens) in
    let front : marks (take (suc i) tokens) ≡ before ++ m ∷ [] = ap (λ (n : ℕ). marks (take (suc n) tokens)) same ∙ up_to before m us tokens f in
    let whole : marks (take (suc i) tokens) ++ more ≡ before ++ m ∷ more = ap (λ (xs : List TokenMark). xs ++ more) front ∙ append_assoc before (m ∷ []) more in
    let none : step (run turns (begun (before ++ m ∷ us))) ≡ None = subst (λ (xs : List TokenMark). step (run turns (begun xs)) ≡ None) f (ap step r ∙ h) in
    let here : stuck (run turns (begun (before ++ m ∷ us))) ≡ m ∷ us = subst (λ (xs : List TokenMark). stuck (run turns (begun xs)) ≡ m ∷ us) f (ap stuck r ∙ e) in
    nothing_goes_on before m us turns none here more file (subst (λ (xs : List TokenMark). IsTreeOf xs file) whole tree)

pub stuck_at : (tokens : List Token) (turns : ℕ) (s : ParserState) (i : ℕ) → run turns (begun (marks tokens)) ≡ s → step s ≡ None → i ≡ length tokens - length (stuck s) → IsStuckAt tokens i
stuck_at tokens turns s i r h g =
    let a = run_left turns (begun (marks tokens)) in
    let b = left_of_state s in
    let all : marks tokens ≡ (a.0 ++ b.0) ++ stuck s = a.1 ∙ ap (λ (u : ParserState). a.0 ++ rest_of u) r ∙ ap (λ (xs : List TokenMark). a.0 ++ xs) b.1 ∙ sym (append_assoc a.0 b.0 (stuck s)) in
    record {
      turns = turns;
      stops = ap step r ∙ h;
      left = subst (λ (u : ParserState). i + length (stuck u) ≡ length tokens) (sym r) (omega (arith, g, ap length all, length-append (a.0 ++ b.0) (stuck s), length_marks tokens));
      nothing = λ t q. stuck_by tokens turns s i t r h (a.0 ++ b.0) (stuck s) refl all g q;
    }

-- ---- it stops at one place

stays : (s : ParserState) (m : ℕ) → step s ≡ None → run m s ≡ s
stays s zero h = refl
stays s (suc m) h = ap (λ (o : Option ParserState). elim o [ None ↦ s | Some t ↦ run m t ]) h

same_behind : (n m : ℕ) (s : ParserState) (o : Option ParserState) → ((t : ParserState) → step (run n t) ≡ None → step (run m t) ≡ None → run n t ≡ run m t)
    → step (elim o [ None ↦ s | Some t ↦ run n t ]) ≡ None → step (elim o [ None ↦ s | Some t ↦ run m t ]) ≡ None
    → ◌≡◌ {A = ParserState} (elim o [ None ↦ s | Some t ↦ run n t ]) (elim o [ None ↦ s | Some t ↦ run m t ])
same_behind n m s None law h k = refl
same_behind n m s (Some t) law h k = law t h k

same_stop : (n m : ℕ) (s : ParserState) → step (run n s) ≡ None → step (run m s) ≡ None → run n s ≡ run m s
same_stop zero m s h k = sym (stays s m h)
same_stop (suc n) zero s h k = stays s (suc n) k
same_stop (suc n) (suc m) s h k = same_behind n m s (step s) (same_stop n m) h k

pub one_place : (r : Reading) (p q : Place) → IsPlaceOfSyntax r p → IsPlaceOfSyntax r q → p ≡ q
one_place r p q h k =
    let same = same_stop h.1.turns k.1.turns (begun (marks r.tokens)) h.1.stops k.1.stops in
    let number : h.0 ≡ k.0 = omega (arith, h.1.left, k.1.left, ap (λ (s : ParserState). length (stuck s)) same) in
    h.2 ∙ ap (place_from r) number ∙ sym k.2
