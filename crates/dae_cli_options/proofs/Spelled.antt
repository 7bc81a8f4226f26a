-- A text spells at most one number, which is what it is parsed to.
use Rattle.std.proofs.Common.{◌≡◌, ℕ, List, arith, ap, ◌<◌, ◌^◌, ◌≢◌, ◌∙◌}
use Rattle.std.proofs.lemmas.Fmt.{parse-decimal}
use Rattle.std.specs.Result.{result_ok}
use Rattle.std.specs.Str.Parse.{ParsesUnsigned}
use Rattle.std.specs.Prelude.{Result, Ok, None, Some, decimal}
use Rattle.dae_base.specs.Ones.{IsTheOne}
use Rattle.dae_cli_options.specs.Spelling.{SpellsNumber}

read_back : {E : Type 0} (text : List ℕ) (r : Result ℕ E) (n : ℕ) → ParsesUnsigned 64 10 text r → SpellsNumber 0 18446744073709551615 text n → r ≡ Ok n
read_back text r n parses h = let w = h.within in parse-decimal 64 n text r (omega (arith, w.most_is)) (omega (arith, w.most_is)) h.text_is parses

pub no_number : {E : Type 0} (text : List ℕ) (r : Result ℕ E) → ParsesUnsigned 64 10 text r → result_ok r ≡ None → IsTheOne (SpellsNumber 0 18446744073709551615 text) None
no_number text r parses none = record {
  has = tt;
  only = λ n h. let e = read_back text r n parses h in absurd (cc (ap result_ok e));
}

pub one_number : {E : Type 0} (text : List ℕ) (r : Result ℕ E) (n : ℕ) → ParsesUnsigned 64 10 text r → result_ok r ≡ Some n → text ≡ decimal n → n < 2 ^ 64 → IsTheOne (SpellsNumber 0 18446744073709551615 text) (Some n)
one_number text r n parses some e small = record {
  has = record { text_is = e; within = record { least_is = omega arith; most_is = omega arith } };
  only = λ m h. let k = read_back text r m parses h in cc (ap result_ok k);
}

pub other_number : {E : Type 0} (text : List ℕ) (r : Result ℕ E) (n : ℕ) → ParsesUnsigned 64 10 text r → result_ok r ≡ Some n → text ≢ decimal n → IsTheOne (SpellsNumber 0 18446744073709551615 text) None
other_number text r n parses some other = record {
  has = tt;
  only = λ m h.
      let k = read_back text r m parses h in
      let same : m ≡ n = cc (ap result_ok k) in
      absurd (other (h.text_is ∙ ap decimal same));
}
