-- The lines of a text, cut at line feeds.
use Rattle.std.proofs.Common.{◌≡◌, ℕ, suc, ◌+◌, ◌<◌, ◌≤◌, Bool, true, false, List, [], ◌∷◌, ◌++◌, length, map, refl, ap, sym, ◌∙◌, reverse, length-append, arith}
use Rattle.std.specs.Prelude.{Option, None, Some, nat_eq, unwrap_or}
use Rattle.std.specs.Borrow.{Bor}
use Rattle.std.proofs.lemmas.Bool.Decides.{nat_tests}
use Rattle.std.proofs.lemmas.List.{append-nil, append_assoc, reverse-append, reverse-reverse, length-reverse}
use Rattle.dae_base.specs.Ones.{IsTheOne}
use Rattle.dae_certificate.specs.declared.lines.CertificateLine.{CertificateLine}
use Rattle.dae_certificate.specs.Cuts.{Lacks, IsCut, bytes_of}
use Rattle.dae_certificate.specs.Lines.{line_text, SpellsLine, may_follow}
use Rattle.dae_certificate.specs.Certificates.{text_lines, AreLines, IsBadLine, Certifies, nodes_of}

not_feed : (c : ℕ) (cs : List ℕ) → Lacks 10 (c ∷ cs) → nat_eq c 10 ≡ false
not_feed c cs lacks = by (nat_eq c 10) refl
  where
    by : (b : Bool) → nat_eq c 10 ≡ b → b ≡ false
    by true e = absurd (lacks 0 (omega arith) (grind (arith, nat_tests)))
    by false e = refl

later : (c : ℕ) (cs : List ℕ) → Lacks 10 (c ∷ cs) → Lacks 10 cs
later c cs lacks k l e = lacks (suc k) (omega arith) e

feed_cut : (front back : List ℕ) → Lacks 10 front → text_lines (front ++ (10 ∷ back)) ≡ front ∷ text_lines back
feed_cut [] back lacks = refl
feed_cut (c ∷ cs) back lacks = rw (not_feed c cs lacks, feed_cut cs back (later c cs lacks)) refl

last_cut : (c : ℕ) (cs : List ℕ) → Lacks 10 (c ∷ cs) → text_lines (c ∷ cs) ≡ (c ∷ cs) ∷ []
last_cut c [] lacks = rw (not_feed c [] lacks) refl
last_cut c (d ∷ ds) lacks = rw (not_feed c (d ∷ ds) lacks, last_cut d ds (later c (d ∷ ds) lacks)) refl

-- what is left of the text
abbrev pub left : Option (List ℕ) → List ℕ
left None = []
left (Some back) = back

-- the first line of what is left, and the others
pub lines_cut : (rest front : List ℕ) (back : Option (List ℕ)) → 0 < length rest → IsCut 10 rest front back → text_lines rest ≡ front ∷ text_lines (left back)
lines_cut rest front (Some back) some cut = ap text_lines cut.whole ∙ feed_cut front back cut.first
lines_cut rest front None some cut = by front (cut.whole ∙ append-nil front) cut.first
  where
    by : (front : List ℕ) → rest ≡ front → Lacks 10 front → text_lines rest ≡ front ∷ []
    by [] e lacks = let l : length rest ≡ 0 = ap length e in absurd (omega arith)
    by (c ∷ cs) e lacks = ap text_lines e ∙ last_cut c cs lacks

-- ---- lines that were read

-- these lines, the first one first, and what is left spell the text
pub record HasRead (text : List ℕ) (lines : List CertificateLine) (rest : List ℕ) : Type 0 where
  pub are : AreLines (reverse lines)
  pub spelled : text_lines text ≡ map line_text lines ++ text_lines rest

map_more : (lines : List CertificateLine) (l : CertificateLine) → map line_text (lines ++ (l ∷ [])) ≡ map line_text lines ++ (line_text l ∷ [])
map_more [] l = refl
map_more (x ∷ xs) l = ap (λ z. line_text x ∷ z) (map_more xs l)

pub none_read : (text : List ℕ) → HasRead text [] text
none_read text = record { are = tt; spelled = refl }

pub one_more : (text rest front : List ℕ) (lines : List CertificateLine) (l : CertificateLine) (back : Option (List ℕ)) → HasRead text lines rest → 0 < length rest → IsCut 10 rest front back
    → IsTheOne (SpellsLine front) (Some l) → may_follow (reverse lines) l ≡ true → HasRead text (lines ++ (l ∷ [])) (left back)
one_more text rest front lines l back had some cut one follows = record {
  are = (let e : reverse (lines ++ (l ∷ [])) ≡ l ∷ reverse lines = reverse-append lines (l ∷ []) in rw e (one.has.1, follows, had.are));
  spelled = (
      let first : front ≡ line_text l = one.has.0 in
      had.spelled ∙ (ap (λ z. map line_text lines ++ z) (lines_cut rest front back some cut ∙ ap (λ z. z ∷ text_lines (left back)) first)
      ∙ (sym (append_assoc (map line_text lines) (line_text l ∷ []) (text_lines (left back))) ∙ ap (λ z. z ++ text_lines (left back)) (sym (map_more lines l)))));
}

pub bad_line : (text rest front : List ℕ) (lines : List CertificateLine) (back : Option (List ℕ)) (number : ℕ) → HasRead text lines rest → 0 < length rest → IsCut 10 rest front back
    → number ≡ suc (length lines) → ((l : CertificateLine) → SpellsLine front l → may_follow (reverse lines) l ≡ true → ⊥) → IsBadLine text number
bad_line text rest front lines back number had some cut count bad = record {
  before = reverse lines;
  line = front;
  behind = text_lines (left back);
  are = had.are;
  count = count ∙ ap suc (sym (length-reverse lines));
  spelled = had.spelled ∙ (ap (λ z. map line_text lines ++ z) (lines_cut rest front back some cut) ∙ ap (λ z. map line_text z ++ (front ∷ text_lines (left back))) (sym (reverse-reverse lines)));
  bad = bad;
}

pub not_spelled : (front : List ℕ) (lines : List CertificateLine) → IsTheOne (SpellsLine front) None → (l : CertificateLine) → SpellsLine front l → may_follow (reverse lines) l ≡ true → ⊥
not_spelled front lines one l h m = cc (one.only l h)

pub not_here : (front : List ℕ) (lines : List CertificateLine) (line : CertificateLine) → IsTheOne (SpellsLine front) (Some line) → may_follow (reverse lines) line ≡ false
    → (l : CertificateLine) → SpellsLine front l → may_follow (reverse lines) l ≡ true → ⊥
not_here front lines line one off l h m = let e : line ≡ l = cc (one.only l h) in let f : may_follow (reverse lines) line ≡ true = rw e m in cc

pub all_read : (text rest : List ℕ) (lines : List CertificateLine) → HasRead text lines rest → length rest ≡ 0 → Certifies text (nodes_of (reverse lines))
all_read text rest lines had none = record {
  lines = reverse lines;
  spells = record { are = had.are; spelled = had.spelled ∙ (ap (λ z. map line_text lines ++ text_lines z) (empty rest none) ∙ (append-nil (map line_text lines) ∙ ap (map line_text) (sym (reverse-reverse lines)))) };
  are_nodes = refl;
}
  where
    empty : (xs : List ℕ) → length xs ≡ 0 → xs ≡ []
    empty [] e = refl
    empty (x ∷ xs) e = absurd (omega arith)

-- each line takes a byte at least
pub left_shorter : (rest front : List ℕ) (back : Option (List ℕ)) → 0 < length rest → IsCut 10 rest front back → length (left back) < length rest
left_shorter rest front None some cut = omega arith
left_shorter rest front (Some back) some cut =
    let e : length rest ≡ length front + suc (length back) = ap length cut.whole ∙ length-append front (10 ∷ back) in
    omega arith

-- what is left, as the code has it
pub left_is : (o : Option (Bor (List ℕ))) (d r : Bor (List ℕ)) → r ≡ unwrap_or o d → d.now ≡ [] → r.now ≡ left (bytes_of o)
left_is None d r e n = ap (λ (b : Bor (List ℕ)). b.now) e ∙ n
left_is (Some x) d r e n = ap (λ (b : Bor (List ℕ)). b.now) e

-- a turn of the reader
pub turn : (text rest front : List ℕ) (lines : List CertificateLine) (l : CertificateLine) (back : Option (List ℕ)) (new : List CertificateLine) (onwards : List ℕ)
    → HasRead text lines rest × (length lines + length rest ≤ length text) → 0 < length rest → IsCut 10 rest front back
    → IsTheOne (SpellsLine front) (Some l) → may_follow (reverse lines) l ≡ true → new ≡ lines ++ (l ∷ []) → onwards ≡ left back
    → HasRead text new onwards × (length new + length onwards ≤ length text)
turn text rest front lines l back new onwards had some cut one follows e f =
    let short = had.1 in
    let less = left_shorter rest front back some cut in
    let long : length new ≡ length lines + 1 = ap length e ∙ length-append lines (l ∷ []) in
    let same : length onwards ≡ length (left back) = ap length f in
    (rw (e, f) (one_more text rest front lines l back had.0 some cut one follows), omega arith)
