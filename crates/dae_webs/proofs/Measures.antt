-- Code whose variables are renamed by webs is as large as before.
use Rattle.std.proofs.Common.{◌≡◌, ℕ, ◌+◌, refl, ap}
use Rattle.dae_ir.specs.Code.{Done, Do, If, Loop}
use Rattle.dae_ir.specs.Form.{Form}
use Rattle.dae_ir.specs.Sizes.{size, item_weight, tally}
use Rattle.dae_ir.specs.declared.form.Item.{Item}
use Rattle.dae_ir.specs.declared.form.Item.TheVariants.{Assign, Load, Store, Print, Expect, Break, Continue, Call, Return, Halt}
use Rattle.dae_ir.specs.declared.form.Test.{Test}
use Rattle.dae_webs.specs.Current.{Current}
use Rattle.dae_webs.specs.Renamed.{Starts, number_after, number_behind, webs_after, renamed_code}
use Rattle.dae_webs.specs.Laws.{IsBlind, IsBlindTest, RenamingKeepsSizes}
use Rattle.dae_webs.proofs.Inside.{in_first, in_second, in_rest}
use Rattle.dae_webs.proofs.Simulation.{same_length}

module _ (b : Starts) (f : Item → ℕ) (blind : IsBlind f) where
  size_same : (code : Form) (n : ℕ) (m : Current) → size f (renamed_code b n m code) ≡ size f code
  size_same Done n m = refl
  size_same (Do place item k) n m = rw (blind (b n) m item, size_same k (number_after n item) (webs_after (b n) m item)) refl
  size_same (If place t x y k) n m =
      rw (size_same x n (in_first b n x y m), size_same y (number_behind n x) (in_second b n x y m), size_same k (number_behind (number_behind n x) y) (in_rest b n x y m)) refl
  size_same (Loop place x y k) n m =
      rw (size_same x n (in_first b n x y m), size_same y (number_behind n x) (in_second b n x y m), size_same k (number_behind (number_behind n x) y) (in_rest b n x y m)) refl

  module _ (h : Test → ℕ) (tests : IsBlindTest h) where
    tally_same : (code : Form) (n : ℕ) (m : Current) → tally f h (renamed_code b n m code) ≡ tally f h code
    tally_same Done n m = refl
    tally_same (Do place item k) n m = rw (blind (b n) m item, tally_same k (number_after n item) (webs_after (b n) m item)) refl
    tally_same (If place t x y k) n m =
        rw (
          tests m t,
          tally_same x n (in_first b n x y m),
          tally_same y (number_behind n x) (in_second b n x y m),
          tally_same k (number_behind (number_behind n x) y) (in_rest b n x y m),
        ) refl
    tally_same (Loop place x y k) n m =
        rw (tally_same x n (in_first b n x y m), tally_same y (number_behind n x) (in_second b n x y m), tally_same k (number_behind (number_behind n x) y) (in_rest b n x y m)) refl

weight_same : IsBlind item_weight
weight_same o m (Assign v x) = refl
weight_same o m (Load v kind x) = refl
weight_same o m (Store width x y) = refl
weight_same o m (Print spelling x) = refl
weight_same o m (Expect check) = refl
weight_same o m Break = refl
weight_same o m Continue = refl
weight_same o m (Call v g xs) = ap (λ (k : ℕ). 1 + k) (same_length m xs)
weight_same o m (Return x) = refl
weight_same o m (Halt x) = refl

pub renaming_keeps_sizes : RenamingKeepsSizes
renaming_keeps_sizes b n m code = record {
  size = size_same b item_weight weight_same code n m;
  tallies = λ f h blind tests. tally_same b f blind h tests code n m;
}
