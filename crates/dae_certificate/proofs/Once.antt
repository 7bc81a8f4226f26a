-- A text has one certificate or one bad line: no two lines are spelled alike.
use Rattle.std.proofs.Common.{◌≡◌, ℕ, suc, ◌-◌, ◌/◌, ◌<◌, ◌^◌, true, List, [], ◌∷◌, ◌++◌, length, map, reverse, refl, ap, sym, ◌∙◌, subst, arith}
use Rattle.std.specs.Prelude.{Option, None, Some, codes, decimal}
use Rattle.std.proofs.lemmas.Fmt.{decimal_injective}
use Rattle.std.proofs.lemmas.List.{append-nil, append_assoc, reverse-append, reverse-reverse, length-reverse}
use Rattle.dae_base.proofs.Laws.{lacks_at}
use Rattle.dae_base.specs.Ones.{IsTheOne}
use Rattle.dae_ranges.specs.declared.Range.{Range}
use Rattle.dae_ranges.specs.Ranges.{highest}
use Rattle.dae_certificate.specs.declared.CertificateNode.{CertificateNode}
use Rattle.dae_certificate.specs.declared.lines.CertificateLine.{CertificateLine}
use Rattle.dae_certificate.specs.declared.lines.CertificateLine.TheVariants.{Node, Register}
use Rattle.dae_certificate.specs.Cuts.{Lacks, IsCut}
use Rattle.dae_certificate.specs.Lines.{counter_text, side_text, range_words, line_text, spaced, IsCounter, IsRange, IsLine, SpellsWord, SpellsCounter, SpellsCounters, SpellsEnds, SpellsLine, may_follow}
use Rattle.dae_certificate.specs.Certificates.{AreLines, IsBadLine, Certifies, nodes_of}
use Rattle.dae_certificate.proofs.Parts.{others, spaced_parts}
use Rattle.dae_certificate.proofs.Spellings.{no_blank, no_blank_in, no_blank_side, no_letter, halted_word, counter_word, two_counters, count_is, by_ends, one_range, one_register, one_node, one_named}

-- ---- a line's text

number_is : (n : ℕ) → n < 2 ^ 32 → IsTheOne (SpellsWord (decimal n)) (Some n)
number_is n small = record { has = (refl, small); only = λ m h. (let other = h.1 in ap Some (decimal_injective n m (omega arith) (omega arith) h.0)) }

counter_is : (c : Option ℕ) → IsCounter c → IsTheOne (SpellsCounter (counter_text c)) (Some c)
counter_is None h = halted_word (codes "halted") refl
counter_is (Some n) h = counter_word (decimal n) n (no_letter n h) (number_is n h)

first_cut : (w : List ℕ) (ws : List (List ℕ)) → Lacks 32 w → IsCut 32 (spaced (w ∷ ws)) w (others ws)
first_cut w ws lacks = record { whole = spaced_parts w ws; first = lacks }

counters_are : (a e : Option ℕ) → IsCounter a → IsCounter e → IsTheOne (SpellsCounters (spaced (counter_text a ∷ (counter_text e ∷ [])))) (Some (a, e))
counters_are a e h k =
    two_counters (spaced (counter_text a ∷ (counter_text e ∷ []))) (counter_text a) (others (counter_text e ∷ []))
    (first_cut (counter_text a) (counter_text e ∷ []) (no_blank_in a h)) (counter_text e) a e refl (counter_is a h) (counter_is e k)

range_is : (r : Range) → IsRange r → IsTheOne (SpellsEnds (spaced (range_words r))) (Some r)
range_is r h =
    let k = count_is r h.steps in
    let third : Option (List ℕ) = others (decimal r.step ∷ []) in
    subst (λ (c : ℕ). IsTheOne (SpellsEnds (spaced (range_words r))) (Some (record { lo = r.lo; step = r.step; count = c }))) k.1
    (by_ends (spaced (range_words r)) (decimal r.lo) (decimal (highest r)) (spaced (decimal (highest r) ∷ (decimal r.step ∷ []))) (others (decimal (highest r) ∷ (decimal r.step ∷ [])))
    third (Some (record { lo = r.lo; step = r.step; count = (highest r - r.lo) / r.step }))
    (first_cut (decimal r.lo) (decimal (highest r) ∷ (decimal r.step ∷ [])) (no_blank r.lo h.least)) refl
    (first_cut (decimal (highest r)) (decimal r.step ∷ []) (no_blank (highest r) h.greatest))
    (one_range (decimal r.lo) (decimal (highest r)) third (decimal r.step) r.lo (highest r) r.step refl
    (number_is r.lo h.least) (number_is (highest r) h.greatest) (number_is r.step h.step) (omega arith) h.steps k.0))

line_is : (l : CertificateLine) → IsLine l → IsTheOne (SpellsLine (line_text l)) (Some l)
line_is (Node a e) h =
    let behind : List ℕ = spaced (counter_text a ∷ (counter_text e ∷ [])) in
    one_node (line_text (Node a e)) (codes "node") (Some behind) (first_cut (codes "node") (counter_text a ∷ (counter_text e ∷ [])) (lacks_at 32 (codes "node") refl))
    behind refl a e refl (counters_are a e h.0 h.1)
line_is (Register n) h =
    let last = h.last in
    let behind : List ℕ = spaced (decimal n.register ∷ range_words n.range) in
    one_named (line_text (Register n)) (side_text n.side) (Some behind) (first_cut (side_text n.side) (decimal n.register ∷ range_words n.range) (no_blank_side n.side))
    behind refl n.side n refl
    (one_register n.side behind (decimal n.register) (spaced (range_words n.range)) (others (range_words n.range))
    (first_cut (decimal n.register) (range_words n.range) (no_blank n.register (omega arith))) refl
    n.register n.range (number_is n.register (omega arith)) (range_is n.range h.range) h.first h.last)

-- lines that are spelled alike are one
one_line : (l m : CertificateLine) → IsLine l → IsLine m → line_text l ≡ line_text m → l ≡ m
one_line l m h k e = inside ((line_is l h).only m (e, k))
  where
    inside : Some l ≡ Some m → l ≡ m
    inside p = cc

-- ---- lines from the first on

abbrev Runs : List CertificateLine → List CertificateLine → Type 0
Runs before [] = Unit {0}
Runs before (l ∷ ls) = IsLine l × (may_follow before l ≡ true) × Runs (l ∷ before) ls

from_first : (lines rest : List CertificateLine) → AreLines lines → Runs lines rest → Runs [] (reverse lines ++ rest)
from_first [] rest are runs = runs
from_first (l ∷ before) rest are runs =
    subst (λ (z : List CertificateLine). Runs [] (z ++ rest)) (sym (reverse-append (l ∷ []) before))
    (subst (Runs []) (sym (append_assoc (reverse before) (l ∷ []) rest)) (from_first before (l ∷ rest) are.2 (are.0, are.1, runs)))

runs_of : (lines : List CertificateLine) → AreLines lines → Runs [] (reverse lines)
runs_of lines are = subst (Runs []) (append-nil (reverse lines)) (from_first lines [] are tt)

same_lines : (before xs ys : List CertificateLine) → Runs before xs → Runs before ys → map line_text xs ≡ map line_text ys → xs ≡ ys
same_lines before [] [] r s e = refl
same_lines before [] (y ∷ ys) r s e = absurd cc
same_lines before (x ∷ xs) [] r s e = absurd cc
same_lines before (x ∷ xs) (y ∷ ys) r s e =
    let head : line_text x ≡ line_text y = cc in
    let tail : map line_text xs ≡ map line_text ys = cc in
    let same = one_line x y r.0 s.0 head in
    let rest = same_lines (x ∷ before) xs ys r.2 (subst (λ (z : CertificateLine). Runs (z ∷ before) ys) (sym same) s.2) tail in
    rw (same, rest) refl

-- a line that may not stand behind those before it
abbrev IsBad : List CertificateLine → List ℕ → Type 0
IsBad before line = (l : CertificateLine) → SpellsLine line l → may_follow before l ≡ true → ⊥

further : (before : List CertificateLine) (p : CertificateLine) (ps : List CertificateLine) (line : List ℕ) → IsBad (reverse (p ∷ ps) ++ before) line → IsBad (reverse ps ++ (p ∷ before)) line
further before p ps line bad =
    subst (λ (z : List CertificateLine). IsBad z line) (append_assoc (reverse ps) (p ∷ []) before)
    (subst (λ (z : List CertificateLine). IsBad (z ++ before) line) (reverse-append (p ∷ []) ps) bad)

no_bad : (before pre xs : List CertificateLine) (line : List ℕ) (behind : List (List ℕ)) → Runs before pre → Runs before xs → IsBad (reverse pre ++ before) line
    → map line_text pre ++ (line ∷ behind) ≡ map line_text xs → ⊥
no_bad before [] [] line behind r s bad e = cc
no_bad before [] (x ∷ xs) line behind r s bad e = let is : line ≡ line_text x = cc in bad x (is, s.0) s.1
no_bad before (p ∷ ps) [] line behind r s bad e = cc
no_bad before (p ∷ ps) (x ∷ xs) line behind r s bad e =
    let head : line_text p ≡ line_text x = cc in
    let tail : map line_text ps ++ (line ∷ behind) ≡ map line_text xs = cc in
    let same = one_line p x r.0 s.0 head in
    no_bad (p ∷ before) ps xs line behind r.2 (subst (λ (z : CertificateLine). Runs (z ∷ before) xs) (sym same) s.2) (further before p ps line bad) tail

one_bad : (before pre qre : List CertificateLine) (line mine : List ℕ) (behind after : List (List ℕ)) → Runs before pre → Runs before qre
    → IsBad (reverse pre ++ before) line → IsBad (reverse qre ++ before) mine
    → map line_text pre ++ (line ∷ behind) ≡ map line_text qre ++ (mine ∷ after) → length pre ≡ length qre
one_bad before [] [] line mine behind after r s bad worse e = refl
one_bad before [] (q ∷ qs) line mine behind after r s bad worse e = let is : line ≡ line_text q = cc in absurd (bad q (is, s.0) s.1)
one_bad before (p ∷ ps) [] line mine behind after r s bad worse e = let is : mine ≡ line_text p = cc in absurd (worse p (is, r.0) r.1)
one_bad before (p ∷ ps) (q ∷ qs) line mine behind after r s bad worse e =
    let head : line_text p ≡ line_text q = cc in
    let tail : map line_text ps ++ (line ∷ behind) ≡ map line_text qs ++ (mine ∷ after) = cc in
    let same = one_line p q r.0 s.0 head in
    let worse' = subst (λ (z : CertificateLine). IsBad (reverse qs ++ (z ∷ before)) mine) (sym same) (further before q qs mine worse) in
    ap suc (one_bad (p ∷ before) ps qs line mine behind after r.2 (subst (λ (z : CertificateLine). Runs (z ∷ before) qs) (sym same) s.2) (further before p ps line bad) worse' tail)

-- ---- texts

turned : (before : List CertificateLine) (line : List ℕ) → IsBad before line → IsBad (reverse (reverse before) ++ []) line
turned before line bad = subst (λ (z : List CertificateLine). IsBad z line) (sym (append-nil (reverse (reverse before)) ∙ reverse-reverse before)) bad

pub one_certificate : (text : List ℕ) (ns ms : List CertificateNode) → Certifies text ns → Certifies text ms → ns ≡ ms
one_certificate text ns ms h k =
    let same = same_lines [] (reverse h.lines) (reverse k.lines) (runs_of h.lines h.spells.are) (runs_of k.lines k.spells.are) (sym h.spells.spelled ∙ k.spells.spelled) in
    h.are_nodes ∙ (ap nodes_of (sym (reverse-reverse h.lines) ∙ (ap reverse same ∙ reverse-reverse k.lines)) ∙ sym k.are_nodes)

pub one_bad_line : (text : List ℕ) (k j : ℕ) → IsBadLine text k → IsBadLine text j → k ≡ j
one_bad_line text k j b d =
    let same = one_bad [] (reverse b.before) (reverse d.before) b.line d.line b.behind d.behind (runs_of b.before b.are) (runs_of d.before d.are)
    (turned b.before b.line b.bad) (turned d.before d.line d.bad) (sym b.spelled ∙ d.spelled) in
    b.count ∙ (ap suc (sym (length-reverse b.before) ∙ (same ∙ length-reverse d.before)) ∙ sym d.count)

pub not_both : (text : List ℕ) (ns : List CertificateNode) (k : ℕ) → Certifies text ns → IsBadLine text k → ⊥
not_both text ns k h b =
    no_bad [] (reverse b.before) (reverse h.lines) b.line b.behind (runs_of b.before b.are) (runs_of h.lines h.spells.are) (turned b.before b.line b.bad) (sym b.spelled ∙ h.spells.spelled)
