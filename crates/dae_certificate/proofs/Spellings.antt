-- What numbers, counters, ranges and lines are spelled as, and that nothing else is.
use Rattle.std.proofs.Common.{◌≡◌, ◌≢◌, ℕ, ◌+◌, ◌-◌, ◌*◌, ◌/◌, ◌%◌, ◌<◌, ◌≤◌, ◌^◌, List, [], ◌∷◌, length, get_or, refl, ap, sym, ◌∙◌, subst, arith}
use Rattle.std.specs.Prelude.{Option, None, Some, Result, Ok, IfSome, codes, decimal}
use Rattle.std.specs.Int.{IsInRange}
use Rattle.std.specs.Result.{result_ok}
use Rattle.std.specs.Str.{IsUtf8}
use Rattle.std.specs.Str.Parse.{ParsesUnsigned}
use Rattle.std.proofs.lemmas.Fmt.{parse-decimal, digits_decimal, IsAscii-decimal}
use Rattle.std.proofs.lemmas.Str.{IsUtf8-from_ascii}
use Rattle.std.proofs.lemmas.Str.Parse.{numerals_by_value, tells_digits, not_in_digits}
use Rattle.std.proofs.lemmas.Nat.{div-add-mod', mod-mul-add, div-mul-add}
use Rattle.dae_base.specs.declared.Side.{Side}
use Rattle.dae_base.specs.declared.Side.TheVariants.{A, E}
use Rattle.dae_base.proofs.Laws.{lacks_at}
use Rattle.dae_base.specs.Ones.{IsTheOne}
use Rattle.dae_ranges.specs.declared.Range.{Range}
use Rattle.dae_ranges.specs.Ranges.{highest}
use Rattle.dae_certificate.specs.declared.lines.NamedRange.{NamedRange}
use Rattle.dae_certificate.specs.declared.lines.CertificateLine.{CertificateLine}
use Rattle.dae_certificate.specs.declared.lines.CertificateLine.TheVariants.{Node, Register}
use Rattle.dae_certificate.specs.Cuts.{Lacks, IsCut}
use Rattle.dae_certificate.specs.Lines.{counter_text, side_text, range_words, spaced, IsCounter, IsRange, SpellsWord, SpellsCounter, SpellsCounters, SpellsEnds, SpellsRange, SpellsLine}
use Rattle.dae_certificate.proofs.Parts.{first_word, words_join}

-- ---- numbers

read_back : {E : Type 0} (text : List ℕ) (r : Result ℕ E) (n : ℕ) → ParsesUnsigned 32 10 text r → SpellsWord text n → r ≡ Ok n
read_back text r n parses h = let small = h.1 in parse-decimal 32 n text r h.1 (omega arith) h.0 parses

pub no_number : {E : Type 0} (text : List ℕ) (r : Result ℕ E) → ParsesUnsigned 32 10 text r → result_ok r ≡ None → IsTheOne (SpellsWord text) None
no_number text r parses none = record {
  has = tt;
  only = λ n h. let e = read_back text r n parses h in absurd (cc (ap result_ok e));
}

pub one_number : {E : Type 0} (text : List ℕ) (r : Result ℕ E) (n : ℕ) → ParsesUnsigned 32 10 text r → result_ok r ≡ Some n → text ≡ decimal n → n < 2 ^ 32 → IsTheOne (SpellsWord text) (Some n)
one_number text r n parses some e small = record {
  has = (e, small);
  only = λ m h. let k = read_back text r m parses h in cc (ap result_ok k);
}

pub other_number : {E : Type 0} (text : List ℕ) (r : Result ℕ E) (n : ℕ) → ParsesUnsigned 32 10 text r → result_ok r ≡ Some n → text ≢ decimal n → IsTheOne (SpellsWord text) None
other_number text r n parses some other = record {
  has = tt;
  only = λ m h.
      let k = read_back text r m parses h in
      let same : m ≡ n = cc (ap result_ok k) in
      absurd (other (h.0 ∙ ap decimal same));
}

-- bytes that are no text spell no number
pub no_text : (bytes : List ℕ) → ¬ (IsUtf8 bytes) → IsTheOne (SpellsWord bytes) None
no_text bytes none = record {
  has = tt;
  only = λ n h.
      let small = h.1 in
      absurd (none (subst IsUtf8 (sym h.0) (IsUtf8-from_ascii (decimal n) (IsAscii-decimal n (omega arith)))));
}

digits_lack : (c n : ℕ) → n < 2 ^ 64 → ¬ (IsInRange 48 57 c) → Lacks c (decimal n)
digits_lack c n small other = let own = numerals_by_value _ tells_digits in not_in_digits own (decimal n) c (digits_decimal own n small) other

pub no_blank : (n : ℕ) → n < 2 ^ 32 → Lacks 32 (decimal n)
no_blank n small = digits_lack 32 n (omega arith) (λ h. absurd (omega (arith, h.0)))

-- ---- counters

pub no_letter : (n : ℕ) → n < 2 ^ 32 → decimal n ≢ codes "halted"
no_letter n small e = digits_lack 104 n (omega arith) (λ h. absurd (omega (arith, h.1))) 0 (let l : length (decimal n) ≡ 6 = ap length e in omega arith) (ap (λ (xs : List ℕ). get_or xs 0 0) e)

pub halted_word : (bytes : List ℕ) → bytes ≡ codes "halted" → IsTheOne (SpellsCounter bytes) (Some None)
halted_word bytes is = record { has = (is, tt); only = by }
  where
    by : (c : Option ℕ) → SpellsCounter bytes c → Some None ≡ Some c
    by None h = refl
    by (Some n) h = absurd (no_letter n h.1 (sym h.0 ∙ is))

pub counter_word : (bytes : List ℕ) (n : ℕ) → bytes ≢ codes "halted" → IsTheOne (SpellsWord bytes) (Some n) → IsTheOne (SpellsCounter bytes) (Some (Some n))
counter_word bytes n not one = record { has = one.has; only = by }
  where
    by : (c : Option ℕ) → SpellsCounter bytes c → Some (Some n) ≡ Some c
    by None h = absurd (not h.0)
    by (Some m) h = ap Some (one.only m h)

pub no_counter : (bytes : List ℕ) → bytes ≢ codes "halted" → IsTheOne (SpellsWord bytes) None → IsTheOne (SpellsCounter bytes) None
no_counter bytes not one = record { has = tt; only = by }
  where
    by : (c : Option ℕ) → SpellsCounter bytes c → None ≡ Some c
    by None h = absurd (not h.0)
    by (Some m) h = absurd (cc (one.only m h))

pub no_blank_in : (c : Option ℕ) → IsCounter c → Lacks 32 (counter_text c)
no_blank_in None h = lacks_at 32 (codes "halted") refl
no_blank_in (Some n) h = no_blank n h

-- ---- two counters

module _ (words front : List ℕ) (back : Option (List ℕ)) (cut : IsCut 32 words front back) where
  counters_parts : (x : Option ℕ × Option ℕ) → SpellsCounters words x → (front ≡ counter_text x.0) × (back ≡ Some (counter_text x.1))
  counters_parts x h = first_word words front (counter_text x.0) (counter_text x.1 ∷ []) back cut (no_blank_in x.0 h.1) h.0

  pub no_first : IsTheOne (SpellsCounter front) None → IsTheOne (SpellsCounters words) None
  no_first one = record { has = tt; only = λ x h. absurd (cc (one.only x.0 ((counters_parts x h).0, h.1))) }

  pub no_behind : back ≡ None → IsTheOne (SpellsCounters words) None
  no_behind none = record { has = tt; only = λ x h. (let p = (counters_parts x h).1 in absurd cc) }

  pub no_second : (rest : List ℕ) → back ≡ Some rest → IsTheOne (SpellsCounter rest) None → IsTheOne (SpellsCounters words) None
  no_second rest some one = record {
    has = tt;
    only = λ x h. (let p = (counters_parts x h).1 in let e : rest ≡ counter_text x.1 = cc in absurd (cc (one.only x.1 (e, h.2))));
  }

  pub two_counters : (rest : List ℕ) (a e : Option ℕ) → back ≡ Some rest → IsTheOne (SpellsCounter front) (Some a) → IsTheOne (SpellsCounter rest) (Some e)
      → IsTheOne (SpellsCounters words) (Some (a, e))
  two_counters rest a e some one other = record {
    has = (words_join words front (counter_text a) (counter_text e ∷ []) back cut one.has.0 (some ∙ ap Some other.has.0), one.has.1, other.has.1);
    only = λ x h.
        (let p = (counters_parts x h).1 in
        let s : rest ≡ counter_text x.1 = cc in
        let f : a ≡ x.0 = cc (one.only x.0 ((counters_parts x h).0, h.1)) in
        let g : e ≡ x.1 = cc (other.only x.1 (s, h.2)) in
        rw (f, g) refl);
  }

-- ---- a range

-- a range by its ends
pub count_is : (r : Range) → 0 < r.step → ((highest r - r.lo) % r.step ≡ 0) × ((highest r - r.lo) / r.step ≡ r.count)
count_is r some =
    let e : highest r - r.lo ≡ r.count * r.step + 0 = omega arith in
    (ap (λ z. z % r.step) e ∙ mod-mul-add r.count r.step 0 some, ap (λ z. z / r.step) e ∙ div-mul-add r.count r.step 0 some)

-- three words are the ends and the step
abbrev pub EndsAre : List ℕ → List ℕ → Option (List ℕ) → Range → Type 0
EndsAre first second third r =
    (first ≡ decimal r.lo) × (second ≡ decimal (highest r)) × (third ≡ Some (decimal r.step)) × IsRange r

pub one_word : (words first : List ℕ) (back : Option (List ℕ)) → IsCut 32 words first back → back ≡ None → IsTheOne (SpellsEnds words) None
one_word words first back cut none = record {
  has = tt;
  only = λ r h.
      (let p = (first_word words first (decimal r.lo) (decimal (highest r) ∷ (decimal r.step ∷ [])) back cut (no_blank r.lo h.1.least) h.0).1 in
      absurd cc);
}

pub by_ends : (words first second behind : List ℕ) (back third : Option (List ℕ)) (found : Option Range)
    → IsCut 32 words first back → back ≡ Some behind → IsCut 32 behind second third
    → IsTheOne (EndsAre first second third) found → IsTheOne (SpellsEnds words) found
by_ends words first second behind back third found cut some cut' one = record { has = spell found one.has; only = λ r h. one.only r (parts r h) }
  where
    spell : (found : Option Range) → IfSome found (EndsAre first second third) → IfSome found (SpellsEnds words)
    spell None h = tt
    spell (Some r) h =
        let inner = words_join behind second (decimal (highest r)) (decimal r.step ∷ []) third cut' h.1 h.2 in
        (words_join words first (decimal r.lo) (decimal (highest r) ∷ (decimal r.step ∷ [])) back cut h.0 (some ∙ ap Some inner), h.3)

    parts : (r : Range) → SpellsEnds words r → EndsAre first second third r
    parts r h =
        let p = first_word words first (decimal r.lo) (decimal (highest r) ∷ (decimal r.step ∷ [])) back cut (no_blank r.lo h.1.least) h.0 in
        let p1 = p.1 in
        let e : behind ≡ spaced (decimal (highest r) ∷ (decimal r.step ∷ [])) = cc in
        let q = first_word behind second (decimal (highest r)) (decimal r.step ∷ []) third cut' (no_blank (highest r) h.1.greatest) e in
        (p.0, q.0, q.1, h.1)

module _ (first second : List ℕ) (third : Option (List ℕ)) where
  pub no_least : IsTheOne (SpellsWord first) None → IsTheOne (EndsAre first second third) None
  no_least one = record { has = tt; only = λ r h. absurd (cc (one.only r.lo (h.0, h.3.least))) }

  pub no_greatest : IsTheOne (SpellsWord second) None → IsTheOne (EndsAre first second third) None
  no_greatest one = record { has = tt; only = λ r h. absurd (cc (one.only (highest r) (h.1, h.3.greatest))) }

  pub two_words : third ≡ None → IsTheOne (EndsAre first second third) None
  two_words none = record { has = tt; only = λ r h. (let e = h.2 in absurd cc) }

  pub no_step : (last : List ℕ) → third ≡ Some last → IsTheOne (SpellsWord last) None → IsTheOne (EndsAre first second third) None
  no_step last some one = record {
    has = tt;
    only = λ r h. (let e = h.2 in let f : last ≡ decimal r.step = cc in absurd (cc (one.only r.step (f, h.3.step))));
  }

  module _ (last : List ℕ) (lo hi step : ℕ) (some : third ≡ Some last) (a : IsTheOne (SpellsWord first) (Some lo))
      (b : IsTheOne (SpellsWord second) (Some hi)) (c : IsTheOne (SpellsWord last) (Some step)) where
    same_ends : (r : Range) → EndsAre first second third r → (lo ≡ r.lo) × (hi ≡ highest r) × (step ≡ r.step)
    same_ends r h =
        let e = h.2 in
        let f : last ≡ decimal r.step = cc in
        (cc (a.only r.lo (h.0, h.3.least)), cc (b.only (highest r) (h.1, h.3.greatest)), cc (c.only r.step (f, h.3.step)))

    pub no_range : ((lo ≤ hi) → (0 < step) → (hi - lo) % step ≢ 0) → IsTheOne (EndsAre first second third) None
    no_range bad = record {
      has = tt;
      only = λ r h.
          (let s = same_ends r h in let s0 = s.0 in let s1 = s.1 in let s2 = s.2 in
          let k = count_is r h.3.steps in let steps = h.3.steps in
          absurd (bad (omega arith) (omega arith) (rw (s0, s1, s2) k.0)));
    }

    pub one_range : lo ≤ hi → 0 < step → (hi - lo) % step ≡ 0 → IsTheOne (EndsAre first second third) (Some (record { lo = lo; step = step; count = (hi - lo) / step }))
    one_range l more whole =
        let d = div-add-mod' (hi - lo) step in
        let top : lo + (hi - lo) / step * step ≡ hi = omega arith in
        let a1 = a.has.1 in let b1 = b.has.1 in let c1 = c.has.1 in
        record {
          has = (
            a.has.0,
            b.has.0 ∙ ap decimal (sym top),
            some ∙ ap Some c.has.0,
            record { least = a1; greatest = omega arith; steps = more; step = c1 },
          );
          only = λ r h.
              (let s = same_ends r h in
              let k = count_is r h.3.steps in
              let n : (hi - lo) / step ≡ r.count = rw (s.0, s.1, s.2) k.1 in
              rw (n, s.0, s.2) refl);
        }

-- ---- a register of a side

module _ (side : Side) (words first : List ℕ) (back : Option (List ℕ)) (cut : IsCut 32 words first back) where
  register_parts_of : (n : NamedRange) → SpellsRange side words n → (SpellsWord first n.register) × (back ≡ Some (spaced (range_words n.range)))
  register_parts_of n h =
      let l = h.2.last in
      let p = first_word words first (decimal n.register) (range_words n.range) back cut (no_blank n.register (omega arith)) h.1 in
      ((p.0, omega arith), p.1)

  pub no_register_behind : back ≡ None → IsTheOne (SpellsRange side words) None
  no_register_behind none = record { has = tt; only = λ n h. (let p = (register_parts_of n h).1 in absurd cc) }

  pub no_register_first : IsTheOne (SpellsWord first) None → IsTheOne (SpellsRange side words) None
  no_register_first one = record { has = tt; only = λ n h. absurd (cc (one.only n.register (register_parts_of n h).0)) }

module _ (side : Side) (words first behind : List ℕ) (back : Option (List ℕ)) (cut : IsCut 32 words first back) (some : back ≡ Some behind) where
  named_parts : (n : NamedRange) → SpellsRange side words n → SpellsWord first n.register × SpellsEnds behind n.range
  named_parts n h =
      let p = register_parts_of side words first back cut n h in
      let p1 = p.1 in
      let e : behind ≡ spaced (range_words n.range) = cc in
      (p.0, (e, h.2.range))

  pub no_ends : IsTheOne (SpellsEnds behind) None → IsTheOne (SpellsRange side words) None
  no_ends one = record { has = tt; only = λ n h. absurd (cc (one.only n.range (named_parts n h).1)) }

  pub other_register : (register : ℕ) → IsTheOne (SpellsWord first) (Some register) → (1 ≤ register → register ≤ 27 → ⊥) → IsTheOne (SpellsRange side words) None
  other_register register one bad = record {
    has = tt;
    only = λ n h. (let e : register ≡ n.register = cc (one.only n.register (named_parts n h).0) in let f = h.2.first in let l = h.2.last in absurd (bad (omega arith) (omega arith)));
  }

  pub one_register : (register : ℕ) (range : Range) → IsTheOne (SpellsWord first) (Some register) → IsTheOne (SpellsEnds behind) (Some range) → 1 ≤ register → register ≤ 27
      → IsTheOne (SpellsRange side words) (Some (record { side = side; register = register; range = range }))
  one_register register range one ends l m = record {
    has = (
      refl,
      words_join words first (decimal register) (range_words range) back cut one.has.0 (some ∙ ap Some ends.has.0),
      record { first = l; last = m; range = ends.has.1 },
    );
    only = λ n h.
        (let p = named_parts n h in
        let e : register ≡ n.register = cc (one.only n.register p.0) in
        let f : range ≡ n.range = cc (ends.only n.range p.1) in
        rw (e, f, sym h.0) refl);
  }

-- ---- a line

a_or_e : (first : List ℕ) → first ≡ codes "a" → first ≡ codes "e" → ⊥
a_or_e first e f = go (get_or first 0 0) (ap (λ (xs : List ℕ). get_or xs 0 0) e) (ap (λ (xs : List ℕ). get_or xs 0 0) f)
  where
    go : (n : ℕ) → n ≡ 97 → n ≡ 101 → ⊥
    go n p q = omega arith

pub no_blank_side : (side : Side) → Lacks 32 (side_text side)
no_blank_side A = lacks_at 32 (codes "a") refl
no_blank_side E = lacks_at 32 (codes "e") refl

module _ (bytes first : List ℕ) (back : Option (List ℕ)) (cut : IsCut 32 bytes first back) where
  node_parts : (a e : Option ℕ) → SpellsLine bytes (Node a e) → (first ≡ codes "node") × (back ≡ Some (spaced (counter_text a ∷ (counter_text e ∷ []))))
  node_parts a e h = first_word bytes first (codes "node") (counter_text a ∷ (counter_text e ∷ [])) back cut (lacks_at 32 (codes "node") refl) h.0

  register_parts : (n : NamedRange) → SpellsLine bytes (Register n) → (first ≡ side_text n.side) × (back ≡ Some (spaced (decimal n.register ∷ range_words n.range)))
  register_parts n h = first_word bytes first (side_text n.side) (decimal n.register ∷ range_words n.range) back cut (no_blank_side n.side) h.0

  side_is : (side : Side) → first ≡ side_text side → (s : Side) → first ≡ side_text s → s ≡ side
  side_is A e A f = refl
  side_is A e E f = absurd (a_or_e first e f)
  side_is E e A f = absurd (a_or_e first f e)
  side_is E e E f = refl

  no_side_node : (s : Side) → first ≡ side_text s → first ≡ codes "node" → ⊥
  no_side_node A e f = cc
  no_side_node E e f = cc

  pub nothing_behind : back ≡ None → IsTheOne (SpellsLine bytes) None
  nothing_behind none = record { has = tt; only = by }
    where
      by : (l : CertificateLine) → SpellsLine bytes l → None ≡ Some l
      by (Node a e) h = let p = (node_parts a e h).1 in absurd cc
      by (Register n) h = let p = (register_parts n h).1 in absurd cc

  pub no_kind : first ≢ codes "node" → first ≢ codes "a" → first ≢ codes "e" → IsTheOne (SpellsLine bytes) None
  no_kind not_node not_a not_e = record { has = tt; only = by }
    where
      side : (s : Side) → first ≡ side_text s → ⊥
      side A e = not_a e
      side E e = not_e e

      by : (l : CertificateLine) → SpellsLine bytes l → None ≡ Some l
      by (Node a e) h = absurd (not_node (node_parts a e h).0)
      by (Register n) h = absurd (side n.side (register_parts n h).0)

  module _ (behind : List ℕ) (some : back ≡ Some behind) where
    counters_at : (a e : Option ℕ) → SpellsLine bytes (Node a e) → SpellsCounters behind (a, e)
    counters_at a e h = (let p = (node_parts a e h).1 in cc, h.1.0, h.1.1)

    pub no_node : first ≡ codes "node" → IsTheOne (SpellsCounters behind) None → IsTheOne (SpellsLine bytes) None
    no_node is one = record { has = tt; only = by }
      where
        by : (l : CertificateLine) → SpellsLine bytes l → None ≡ Some l
        by (Node a e) h = absurd (cc (one.only (a, e) (counters_at a e h)))
        by (Register n) h = absurd (no_side_node n.side (register_parts n h).0 is)

    inside : (x y : Option ℕ × Option ℕ) → Some x ≡ Some y → x ≡ y
    inside x y e = cc

    pub one_node : (a e : Option ℕ) → first ≡ codes "node" → IsTheOne (SpellsCounters behind) (Some (a, e)) → IsTheOne (SpellsLine bytes) (Some (Node a e))
    one_node a e is one = record {
      has = (words_join bytes first (codes "node") (counter_text a ∷ (counter_text e ∷ [])) back cut is (some ∙ ap Some one.has.0), (one.has.1, one.has.2));
      only = by;
    }
      where
        by : (l : CertificateLine) → SpellsLine bytes l → Some (Node a e) ≡ Some l
        by (Node b f) h =
            ap (λ (p : Option ℕ × Option ℕ). Some (Node p.0 p.1)) (inside (a, e) (b, f) (one.only (b, f) (counters_at b f h)))
        by (Register n) h = absurd (no_side_node n.side (register_parts n h).0 is)

    range_at : (side : Side) → first ≡ side_text side → (n : NamedRange) → SpellsLine bytes (Register n) → SpellsRange side behind n
    range_at side is n h =
        let p = register_parts n h in
        let p1 = p.1 in
        (side_is side is n.side p.0, cc, h.1)

    pub no_named : (side : Side) → first ≡ side_text side → IsTheOne (SpellsRange side behind) None → IsTheOne (SpellsLine bytes) None
    no_named side is one = record { has = tt; only = by }
      where
        by : (l : CertificateLine) → SpellsLine bytes l → None ≡ Some l
        by (Node a e) h = absurd (no_side_node side is (node_parts a e h).0)
        by (Register n) h = absurd (cc (one.only n (range_at side is n h)))

    pub one_named : (side : Side) (n : NamedRange) → first ≡ side_text side → IsTheOne (SpellsRange side behind) (Some n) → IsTheOne (SpellsLine bytes) (Some (Register n))
    one_named side n is one = record {
      has = (words_join bytes first (side_text n.side) (decimal n.register ∷ range_words n.range) back cut (is ∙ ap side_text (sym one.has.0)) (some ∙ ap Some one.has.1), one.has.2);
      only = by;
    }
      where
        by : (l : CertificateLine) → SpellsLine bytes l → Some (Register n) ≡ Some l
        by (Node a e) h = absurd (no_side_node side is (node_parts a e h).0)
        by (Register m) h = let same : n ≡ m = cc (one.only m (range_at side is m h)) in rw same refl
