-- The one spelling of numbers, of what is shown and of a seed.
use Rattle.std.proofs.Common.{◌≡◌, ◌≢◌, ℕ, ◌<◌, ◌^◌, List, ◌∷◌, ◌++◌, refl, ◌∙◌, arith}
use Rattle.std.specs.Prelude.{None, Some, codes, decimal}
use Rattle.std.specs.Borrow.{Bor}
use Rattle.std.specs.Int.{IsInRange as IsByteFrom}
use Rattle.std.proofs.lemmas.Fmt.{digits_decimal}
use Rattle.std.proofs.lemmas.Str.Parse.{numerals_by_value, tells_digits, not_in_digits}
use Rattle.std.proofs.lemmas.Str.Pattern.{IsSplitOnceResult, split_after, split_parts}
use Rattle.dae_base.proofs.Laws.{lacks_at, Lacks}
use Rattle.dae_base.specs.Ones.{IsTheOne}
use Rattle.dae_machine.specs.declared.Schedule.TheVariants.{Seed}
use Rattle.dae_cli_options.specs.Ranges.{IsFromTo}
use Rattle.dae_cli_options.specs.declared.options.Shown.{Shown}
use Rattle.dae_cli_options.specs.Spelling.{SpellsNumber}
use Rattle.dae_cli_words.specs.Values.{SpellsSchedule, SpellsShown}

-- numbers

-- parts of a text

-- a text is parted at the first of a sign
pub record IsParted (c : ℕ) (text before after : List ℕ) : Type 0 where
  pub whole : text ≡ before ++ (c ∷ after)
  pub only : (xs ys : List ℕ) → Lacks c xs → text ≡ xs ++ (c ∷ ys) → (before ≡ xs) × (after ≡ ys)

pub is_parted : (c : ℕ) (text : List ℕ) (x : Bor (List ℕ) × Bor (List ℕ)) → c < 128 → IsSplitOnceResult c text (Some x) → IsParted c text x.0.now x.1.now
is_parted c text x ascii split = record {
  whole = (split_parts c text (Some x) split ascii).0;
  only = λ xs ys none e. split_after c text xs ys (Some x) split ascii e none;
}

not_parted : (c : ℕ) (text xs ys : List ℕ) → c < 128 → IsSplitOnceResult c text None → Lacks c xs → text ≢ xs ++ (c ∷ ys)
not_parted c text xs ys ascii split none e = split_after c text xs ys None split ascii e none

digits_lack : (c n : ℕ) → n < 2 ^ 64 → ¬ (IsByteFrom 48 57 c) → Lacks c (decimal n)
digits_lack c n small other = let own = numerals_by_value _ tells_digits in not_in_digits own (decimal n) c (digits_decimal own n small) other

pub no_comma_in : (n : ℕ) → IsFromTo 0 4294967295 n → Lacks 44 (decimal n)
no_comma_in n w = digits_lack 44 n (omega (arith, w.most_is)) (λ h. absurd (omega (arith, h.0)))

-- what is shown

pub no_comma : (text : List ℕ) → IsSplitOnceResult 44 text None → IsTheOne (SpellsShown text) None
no_comma text split = record {
  has = tt;
  only = λ s h. absurd (not_parted 44 text (decimal s.address) (decimal s.count) (omega arith) split (no_comma_in s.address h.in_range.address) h.text_is);
}

shown_parts : (text a b : List ℕ) (s : Shown) → IsParted 44 text a b → SpellsShown text s → (a ≡ decimal s.address) × (b ≡ decimal s.count)
shown_parts text a b s parts h = parts.only (decimal s.address) (decimal s.count) (no_comma_in s.address h.in_range.address) h.text_is

pub no_address : (text a b : List ℕ) → IsParted 44 text a b → IsTheOne (SpellsNumber 0 4294967295 a) None → IsTheOne (SpellsShown text) None
no_address text a b parts none = record {
  has = tt;
  only = λ s h.
      let p = shown_parts text a b s parts h in
      let e : None ≡ Some s.address = none.only s.address (record { text_is = p.0; within = h.in_range.address }) in
      absurd (cc);
}

pub no_count : (text a b : List ℕ) → IsParted 44 text a b → IsTheOne (SpellsNumber 1 64 b) None → IsTheOne (SpellsShown text) None
no_count text a b parts none = record {
  has = tt;
  only = λ s h.
      let p = shown_parts text a b s parts h in
      let e : None ≡ Some s.count = none.only s.count (record { text_is = p.1; within = h.in_range.count }) in
      absurd (cc);
}

pub one_shown : (text a b : List ℕ) (m n : ℕ) → IsParted 44 text a b → IsTheOne (SpellsNumber 0 4294967295 a) (Some m) → IsTheOne (SpellsNumber 1 64 b) (Some n) → IsTheOne (SpellsShown text) (Some (record { address = m; count = n }))
one_shown text a b m n parts address count = record {
  has = record {
    text_is = parts.whole ∙ rw (address.has.text_is, count.has.text_is) refl;
    in_range = record { address = address.has.within; count = count.has.within };
  };
  only = λ s h.
      let p = shown_parts text a b s parts h in
      let e : m ≡ s.address = cc (address.only s.address (record { text_is = p.0; within = h.in_range.address })) in
      let f : n ≡ s.count = cc (count.only s.count (record { text_is = p.1; within = h.in_range.count })) in
      rw (e, f) refl;
}

-- a schedule's seed

no_colon_in : Lacks 58 (codes "seed")
no_colon_in = lacks_at 58 (codes "seed") refl

pub no_colon : (text : List ℕ) → IsSplitOnceResult 58 text None → IsTheOne (λ n. SpellsSchedule text (Seed n)) None
no_colon text split = record {
  has = tt;
  only = λ n h. absurd (not_parted 58 text (codes "seed") (decimal n) (omega arith) split no_colon_in h.text_is);
}
