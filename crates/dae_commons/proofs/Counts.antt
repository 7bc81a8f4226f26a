-- Code without its common subexpressions is as large as before.
use Rattle.std.proofs.Common.{◌≡◌, ℕ, ◌+◌, List, refl, ap}
use Rattle.dae_ir.specs.Code.{Done, Do, If, Loop}
use Rattle.dae_ir.specs.Form.{Form}
use Rattle.dae_ir.specs.Classes.{Classes}
use Rattle.dae_ir.specs.Sizes.{size, item_weight, tally}
use Rattle.dae_ir.specs.declared.form.Item.{Item}
use Rattle.dae_ir.specs.declared.form.Item.TheVariants.{Assign, Load, Store, Print, Expect, Break, Continue, Call, Return, Halt}
use Rattle.dae_ir.specs.declared.form.Test.{Test}
use Rattle.dae_commons.specs.declared.equations.Equation.{Equation}
use Rattle.dae_commons.specs.Equations.{equations_in, known_in_loop}
use Rattle.dae_commons.specs.Commoned.{known_behind_both, commoned_code, known_after}
use Rattle.dae_commons.specs.Laws.{CountsAlike, CountsTestsAlike, CommoningKeepsCounts}
use Rattle.dae_commons.proofs.Truth.{same_length}

module _ (c : Classes) (f : Item → ℕ) (items : CountsAlike c f) where
  size_same : (code : Form) (q : List Equation) → size f (commoned_code c q code) ≡ size f code
  size_same Done q = refl
  size_same (Do place item k) q = rw (items q item, size_same k (equations_in (known_after c q item))) refl
  size_same (If place t x y k) q = rw (size_same x q, size_same y q, size_same k (equations_in (known_behind_both c q x y))) refl
  size_same (Loop place x y k) q = rw (size_same x (known_in_loop q x y), size_same y (known_in_loop q x y), size_same k (known_in_loop q x y)) refl

  module _ (h : Test → ℕ) (tests : CountsTestsAlike c h) where
    pub tally_same : (code : Form) (q : List Equation) → tally f h (commoned_code c q code) ≡ tally f h code
    tally_same Done q = refl
    tally_same (Do place item k) q = rw (items q item, tally_same k (equations_in (known_after c q item))) refl
    tally_same (If place t x y k) q = rw (tests q t, tally_same x q, tally_same y q, tally_same k (equations_in (known_behind_both c q x y))) refl
    tally_same (Loop place x y k) q = rw (tally_same x (known_in_loop q x y), tally_same y (known_in_loop q x y), tally_same k (known_in_loop q x y)) refl

weight_same : (c : Classes) → CountsAlike c item_weight
weight_same c q (Assign v x) = refl
weight_same c q (Load v kind x) = refl
weight_same c q (Store width x y) = refl
weight_same c q (Print spelling x) = refl
weight_same c q (Expect check) = refl
weight_same c q Break = refl
weight_same c q Continue = refl
weight_same c q (Call v g xs) = ap (λ (k : ℕ). 1 + k) (same_length c q xs)
weight_same c q (Return x) = refl
weight_same c q (Halt x) = refl

pub commoning_keeps_counts : CommoningKeepsCounts
commoning_keeps_counts c q code = record {
  size = size_same c item_weight (weight_same c) code q;
  tallies = λ f h items tests. tally_same c f items h tests code q;
}
