-- The one spelling of a number, and of two with a blank between them.
use Rattle.std.proofs.Common.{◌≡◌, ℕ, zero, suc, ◌<◌, ◌^◌, List, ◌++◌, refl, sym, ◌∙◌, subst, arith}
use Rattle.std.specs.Prelude.{None, Some, codes, decimal}
use Rattle.std.specs.Borrow.{Bor}
use Rattle.std.specs.Int.{IsInRange}
use Rattle.std.specs.Str.{IsAscii, IsUtf8}
use Rattle.std.proofs.lemmas.Fmt.{IsAscii-decimal, digits_decimal}
use Rattle.std.proofs.lemmas.Str.{IsAscii-append, IsUtf8-from_ascii}
use Rattle.std.proofs.lemmas.Str.Parse.{numerals_by_value, tells_digits, not_in_digits}
use Rattle.std.proofs.lemmas.Str.Pattern.{IsSplitOnceResult, split_after, split_parts}
use Rattle.dae_base.proofs.Laws.{Lacks}
use Rattle.dae_base.specs.Ones.{IsTheOne}
use Rattle.dae_cli_options.specs.Ranges.{IsFromTo}
use Rattle.dae_cli_options.specs.Spelling.{SpellsNumber}
use Rattle.dae_debug_commands.specs.Commands.{SpellsPair, pair_text}

-- ---- a number

-- bytes that are no text spell no number
pub no_text : (bytes : List ℕ) (least most : ℕ) → most < 2 ^ 64 → ¬ (IsUtf8 bytes) → IsTheOne (SpellsNumber least most bytes) None
no_text bytes least most small none = record {
  has = tt;
  only = λ n h. let w = h.within in absurd (none (subst IsUtf8 (sym h.text_is) (IsUtf8-from_ascii (decimal n) (IsAscii-decimal n (omega (arith, w.most_is))))));
}

-- ---- two numbers

no_blank : (n most : ℕ) → IsFromTo 0 most n → most < 2 ^ 64 → Lacks 32 (decimal n)
no_blank n most w small =
    let own = numerals_by_value _ tells_digits in
    let few : n < 2 ^ 64 = omega (arith, w.most_is) in
    let digit : ¬ (IsInRange 48 57 32) = (λ h. absurd (omega (arith, h.0))) in
    not_in_digits own (decimal n) 32 (digits_decimal own n few) digit

blank_ascii : IsAscii (codes " ")
blank_ascii zero = omega arith
blank_ascii (suc i) = omega arith

pub no_texts : (bytes : List ℕ) (most_first least most : ℕ) → most_first < 2 ^ 64 → most < 2 ^ 64 → ¬ (IsUtf8 bytes) → IsTheOne (SpellsPair most_first least most bytes) None
no_texts bytes most_first least most small few none = record {
  has = tt;
  only = λ pair h.
      let w = h.first in
      let v = h.second in
      let first = IsAscii-decimal pair.0 (omega (arith, w.most_is)) in
      let second = IsAscii-decimal pair.1 (omega (arith, v.most_is)) in
      let all = IsAscii-append (decimal pair.0) (codes " " ++ decimal pair.1) first (IsAscii-append (codes " ") (decimal pair.1) blank_ascii second) in
      absurd (none (subst IsUtf8 (sym h.text_is) (IsUtf8-from_ascii (pair_text pair.0 pair.1) all)));
}

module _ (text : List ℕ) (most_first least most : ℕ) (small : most_first < 2 ^ 64) where
  pub no_parts : IsSplitOnceResult 32 text None → IsTheOne (SpellsPair most_first least most text) None
  no_parts split = record {
    has = tt;
    only = λ pair h. absurd (split_after 32 text (decimal pair.0) (decimal pair.1) None split (omega arith) h.text_is (no_blank pair.0 most_first h.first small));
  }

  module _ (x : Bor (List ℕ) × Bor (List ℕ)) (split : IsSplitOnceResult 32 text (Some x)) where
    parts : (pair : ℕ × ℕ) → SpellsPair most_first least most text pair → (x.0.now ≡ decimal pair.0) × (x.1.now ≡ decimal pair.1)
    parts pair h = split_after 32 text (decimal pair.0) (decimal pair.1) (Some x) split (omega arith) h.text_is (no_blank pair.0 most_first h.first small)

    pub no_first : IsTheOne (SpellsNumber 0 most_first x.0.now) None → IsTheOne (SpellsPair most_first least most text) None
    no_first none = record {
      has = tt;
      only = λ pair h. absurd (let e : None ≡ Some pair.0 = none.only pair.0 (record { text_is = (parts pair h).0; within = h.first }) in cc);
    }

    pub no_second : IsTheOne (SpellsNumber least most x.1.now) None → IsTheOne (SpellsPair most_first least most text) None
    no_second none = record {
      has = tt;
      only = λ pair h. absurd (let e : None ≡ Some pair.1 = none.only pair.1 (record { text_is = (parts pair h).1; within = h.second }) in cc);
    }

    pub one_pair : (m n : ℕ) → IsTheOne (SpellsNumber 0 most_first x.0.now) (Some m) → IsTheOne (SpellsNumber least most x.1.now) (Some n) → IsTheOne (SpellsPair most_first least most text) (Some (m, n))
    one_pair m n one other = record {
      has = record {
        text_is = (split_parts 32 text (Some x) split (omega arith)).0 ∙ rw (one.has.text_is, other.has.text_is) refl;
        first = one.has.within;
        second = other.has.within;
      };
      only = λ pair h.
          let p = parts pair h in
          let e : m ≡ pair.0 = cc (one.only pair.0 (record { text_is = p.0; within = h.first })) in
          let f : n ≡ pair.1 = cc (other.only pair.1 (record { text_is = p.1; within = h.second })) in
          rw (e, f) refl;
    }
