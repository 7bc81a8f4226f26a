-- Lines one by one, and their pieces.
use Rattle.std.proofs.Common.{◌≡◌, ℕ, suc, ◌+◌, ◌<◌, Bool, true, false, not, cond, if◌then◌else◌, ◌||◌, Option, List, [], ◌∷◌, ◌++◌, map, take, drop, get_or, length, refl, ap, sym, ◌∙◌, arith, add-one, one-add}
use Rattle.std.specs.List.{prefix_len}
use Rattle.std.proofs.lemmas.List.{take-map, drop-map, drop-drop, drop_more, length-map, length-drop}
use Rattle.dae_tree.specs.declared.pieces.PieceKind.TheVariants as kinds
use Rattle.dae_tree.specs.Pieces.{Cut}
use Rattle.dae_tree.specs.Replacing.{Definition, expand}
use Rattle.dae_tree.specs.Directives.{is_blank_kind, marks_of, is_end_kind, goes_on, lines_of, line_of, with_first, replaced_text, inclusion_of, is_of, includes}
use Rattle.dae_tree.specs.declared.headers.Header.{Header}
use Rattle.dae_lex_scan.specs.declared.pieces.SourcePiece.{SourcePiece}
use Rattle.dae_lex_scan.specs.Cuts.{cut_of}

-- the first line, by how far it goes
tail_lines : (p : Cut) (ps : List Cut) (m : ℕ) → (ps ≡ [] → m ≡ 0) → (0 < length ps → lines_of ps ≡ take m ps ∷ lines_of (drop (suc m) ps))
    → with_first p (lines_of ps) ≡ (p ∷ take m ps) ∷ lines_of (drop (suc m) ps)
tail_lines p [] m none some = rw (none refl) refl
tail_lines p (q ∷ qs) m none some = ap (with_first p) (some (omega arith))

lines_step : (p : Cut) (ps : List Cut) (b : Bool) → is_end_kind p.kind ≡ b
    → (0 < length ps → lines_of ps ≡ take (prefix_len goes_on ps) ps ∷ lines_of (drop (suc (prefix_len goes_on ps)) ps))
    → lines_of (p ∷ ps) ≡ take (prefix_len goes_on (p ∷ ps)) (p ∷ ps) ∷ lines_of (drop (suc (prefix_len goes_on (p ∷ ps))) (p ∷ ps))
lines_step p ps true e rest = rw e refl
lines_step p ps false e rest = rw (e, one-add) (tail_lines p ps (prefix_len goes_on ps) (λ h. ap (prefix_len goes_on) h) rest)

lines_first : (ps : List Cut) → 0 < length ps
    → lines_of ps ≡ take (prefix_len goes_on ps) ps ∷ lines_of (drop (suc (prefix_len goes_on ps)) ps)
lines_first [] h = absurd (omega arith)
lines_first (p ∷ ps) h = lines_step p ps (is_end_kind p.kind) refl (lines_first ps)

pub line_more : (ps : List SourcePiece) (at n : ℕ) → at < length ps → n ≡ prefix_len goes_on (map cut_of (drop at ps))
    → lines_of (map cut_of (drop at ps)) ≡ map cut_of (take n (drop at ps)) ∷ lines_of (map cut_of (drop (at + (n + 1)) ps))
line_more ps at n h e =
    let some : 0 < length (map cut_of (drop at ps)) = omega (arith, length-map (drop at ps) cut_of, length-drop at ps) in
    lines_first (map cut_of (drop at ps)) some
    ∙ ap (λ k. take k (map cut_of (drop at ps)) ∷ lines_of (drop (suc k) (map cut_of (drop at ps)))) (sym e)
    ∙ ap (λ l. l ∷ lines_of (drop (suc n) (map cut_of (drop at ps)))) (take-map cut_of n (drop at ps))
    ∙ ap (λ qs. map cut_of (take n (drop at ps)) ∷ lines_of qs)
    (drop-map cut_of (suc n) (drop at ps) ∙ ap (map cut_of) (drop-drop (suc n) at ps ∙ ap (λ k. drop (at + k) ps) (sym (add-one n))))

-- a text piece by piece
abbrev pub nowhere : SourcePiece
nowhere = record { kind = kinds.Blank; spelling = record { ref_ptr = (0, 0); now = [] }; start = 0; end = 0; place = record { file = 0; line = 0; col = 0 } }

pub text_more : (n : ℕ) (macros : List Definition) (ps : List SourcePiece) (i : ℕ) (d : SourcePiece) → i < length ps
    → replaced_text n macros (map cut_of (drop i ps))
    ≡ expand n macros [] (cut_of (get_or ps i d)) (cut_of (get_or ps i d)) ++ replaced_text n macros (map cut_of (drop (i + 1) ps))
text_more n macros ps i d h = ap (λ qs. replaced_text n macros (map cut_of qs)) (drop_more ps i d h)

-- the headers that are included, line by line
or_regroup : (a b x : Bool) → ((a || b) || x) ≡ (a || (b || x))
or_regroup true b x = refl
or_regroup false b x = refl

pub seen_more : (seen : Bool) (header : Header) (found : Option Header) (line : List Cut) (rest : List (List Cut)) → found ≡ inclusion_of (line_of line)
    → ((seen || is_of header found) || includes header rest) ≡ (seen || includes header (line ∷ rest))
seen_more seen header found line rest e =
    ap (λ f. (seen || is_of header f) || includes header rest) e ∙ or_regroup seen (is_of header (inclusion_of (line_of line))) (includes header rest)

-- the pieces that are no blanks, one by one
mark_by : (p : Cut) (ps : List Cut) (b : Bool) → is_blank_kind p.kind ≡ b → marks_of (p ∷ ps) ≡ (if b then marks_of ps else p ∷ marks_of ps)
mark_by p ps true e = ap (λ b. cond (not b) (p ∷ marks_of ps) (marks_of ps)) e
mark_by p ps false e = ap (λ b. cond (not b) (p ∷ marks_of ps) (marks_of ps)) e

pub mark_more : (ps : List SourcePiece) (i : ℕ) (d : SourcePiece) (b : Bool) → i < length ps → is_blank_kind (get_or ps i d).kind ≡ b
    → marks_of (map cut_of (drop i ps)) ≡ (if b then marks_of (map cut_of (drop (i + 1) ps)) else cut_of (get_or ps i d) ∷ marks_of (map cut_of (drop (i + 1) ps)))
mark_more ps i d b h e = ap (λ qs. marks_of (map cut_of qs)) (drop_more ps i d h) ∙ mark_by (cut_of (get_or ps i d)) (map cut_of (drop (i + 1) ps)) b e
