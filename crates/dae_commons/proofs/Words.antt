-- Values in which other words stand last are not the same.
use Rattle.std.proofs.Common.{◌≡◌, Bool, true, false, nat_eq, refl, ap, sym, ◌∙◌}
use Rattle.std.proofs.lemmas.Bool.{false≢true, eq-eqb}
use Rattle.dae_ir.specs.declared.form.Value.{Value}
use Rattle.dae_commons.specs.Copies.{last_word, are_same}
use Rattle.dae_commons.proofs.Values.{values_same}

pub apart_by_words : (x y : Value) → nat_eq (last_word x) (last_word y) ≡ false → are_same x y ≡ false
apart_by_words x y apart = by (are_same x y) refl where
  by : (b : Bool) → are_same x y ≡ b → b ≡ false
  by true is = absurd (false≢true (sym apart ∙ eq-eqb (last_word x) (last_word y) (ap last_word (values_same x y is))))
  by false is = refl
