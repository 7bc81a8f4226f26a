-- Switches make good code, where the code of their arms is good.
use Rattle.std.proofs.Common.{◌≡◌, ℕ, suc, ◌+◌, ◌<◌, ◌≤◌, ◌^◌, Bool, true, false, if◌then◌else◌, List, [], ◌∷◌, Option, Some, None, refl, arith}
use Rattle.std.specs.List.{list_all}
use Rattle.std.proofs.lemmas.Bool.{and_from, ltb-true}
use Rattle.dae_base.specs.declared.Place.{Place}
use Rattle.dae_base.proofs.Laws.{and_first, and_second}
use Rattle.dae_ir.specs.Form.{Form}
use Rattle.dae_ir.specs.Classes.{VariableSet, IsWithin, has}
use Rattle.dae_ir.specs.Scope.{IsTarget}
use Rattle.dae_ir.specs.SetFirst.{with_set, all_set}
use Rattle.dae_ir.specs.declared.form.Function.{Function}
use Rattle.dae_ir.specs.declared.form.Item.TheVariants.{Break}
use Rattle.dae_ir.specs.declared.form.Operand.{Operand}
use Rattle.dae_program.specs.Lawful.{is_label_word}
use Rattle.dae_program.specs.Switches.{arm_with, count_arms, has_label}
use Rattle.dae_program.specs.Trees as tree
use Rattle.dae_program.specs.Trees.{Arms}
use Rattle.dae_lower.specs.Lowering.{Made, ◌⨾◌, emit, one, search_labels, search, switch}
use Rattle.dae_program.specs.SetFirst.{both}
use Rattle.dae_lower_formed.proofs.Good.{set_here, set_on, assured_grows, IsGood, good_then}
use Rattle.dae_lower_formed.proofs.Makes.{OperandFits, Anything, operand_still, Makes}

abbrev pub AreLabelWords : Arms → Type 0
AreLabelWords tree.no_arms = Unit {0}
AreLabelWords (tree.arm_then labels t rest) = (list_all is_label_word labels ≡ true) × AreLabelWords rest

-- the number of the arm where a switch begins
pub arm_is_within : (x : Option ℕ) (most k : ℕ) (arms : Arms) (other : ℕ) → k + count_arms arms ≤ most → other ≤ most → arm_with x k arms other ≤ most
arm_is_within x most k tree.no_arms other h g = g
arm_is_within x most k (tree.arm_then labels t rest) other h g = by (has_label x labels) (arm_is_within x most (suc k) rest other (omega (arith, h)) g) where
  by : (b : Bool) → arm_with x (suc k) rest other ≤ most → (if b then k else arm_with x (suc k) rest other) ≤ most
  by true i = omega (arith, h)
  by false i = i

module _ (functions : List Function) (returns : Bool) where
  labels_good : {n : ℕ} (p : Place) (x : Operand) (v k : ℕ) (labels : List (Option ℕ)) (rest : Form) → IsTarget n v → k < 2 ^ 32 → list_all is_label_word labels ≡ true → (d : VariableSet) → OperandFits n d x →
      ((e : VariableSet) → IsWithin d e → IsGood functions true returns n e rest) → IsGood functions true returns n d (search_labels p x v k labels rest)
  labels_good p x v k [] rest t h g d f next = next d (λ u z. z)
  labels_good p x v k (None ∷ labels) rest t h g d f next = labels_good p x v k labels rest t h g d f next
  labels_good {n} p x v k (Some label ∷ labels) rest t h g d f next = (
    ((f.0, ltb-true label (2 ^ 32) (and_first _ _ g)), and_from (has d x) true f.1 refl),
    ((refl, (t, h), refl), ((refl, tt, tt), tt)),
    tt,
    labels_good p x v k labels rest t h (and_second _ _ g) (both all_set d) (operand_still n n d (both all_set d) (omega arith) (λ u z. z) x f) (λ e z. next e (λ u y. z u y)),
  )

  pub search_good : {n : ℕ} (p : Place) (x : Operand) (v k : ℕ) (arms : Arms) → IsTarget n v → k + count_arms arms < 2 ^ 32 → AreLabelWords arms → (d : VariableSet) → OperandFits n d x → IsGood functions true returns n d (search p x v k arms)
  search_good p x v k tree.no_arms t h g d f = ((refl, tt, tt), tt)
  search_good {n} p x v k (tree.arm_then labels body rest) t h g d f =
      labels_good p x v k labels (search p x v (suc k) rest) t (omega (arith, h)) g.0 d f
      (λ e w. search_good p x v (suc k) rest t (omega (arith, h)) g.1 e (operand_still n n d e (omega arith) w x f))

  arms_then_break : (n : ℕ) (p : Place) (d : VariableSet) (c : Form) → IsGood functions true returns n d c → IsGood functions true returns n d (c ⨾ one p Break)
  arms_then_break n p d c h = good_then functions true returns n c (one p Break) d h ((refl, tt, tt), tt)

  -- the code of a switch, of which the flag says whether an arm continues a loop outside
  switch_good : (jumps goes_on : Bool) → (goes_on ≡ true → jumps ≡ true) → (n last : ℕ) → n + 2 ≤ last → 0 < n → (p : Place) (x : Operand) (other : ℕ) → other < 2 ^ 32 → (searching arms : Form) (d : VariableSet) → OperandFits n d x →
      ((e : VariableSet) → IsWithin d e → IsGood functions true returns last e searching) → ((e : VariableSet) → IsWithin d e → e n ≡ true → IsGood functions true returns last e arms) →
      IsGood functions jumps returns last d (switch p x n other searching goes_on (emit arms last)).code
  switch_good jumps false out n last l some p x other h searching arms d f hs ha =
      let at = with_set n d in
      ((refl, ((some, omega (arith, l)), h), refl), (hs at (set_on n d), tt, (arms_then_break last p at arms (ha at (set_on n d) (set_here n d)), tt, tt)))
  switch_good jumps true out n last l some p x other h searching arms d f hs ha =
      let at = with_set n d in
      let flagged = with_set (n + 1) at in
      let here = set_here (n + 1) at in
      let on : IsWithin d flagged = λ v z. set_on (n + 1) at v (set_on n d v z) in (
        (refl, ((some, omega (arith, l)), h), refl),
        (
          hs at (set_on n d),
          tt,
          (
            (refl, ((omega arith, omega (arith, l)), omega arith), refl),
            (
              arms_then_break last p flagged arms (ha flagged on (set_on (n + 1) at n (set_here n d))),
              ((refl, ((omega arith, omega (arith, l)), omega arith), refl), ((refl, tt, tt), tt)),
              (((omega (arith, l), omega arith), and_from (flagged (n + 1)) true here refl), ((out refl, tt, tt), tt), tt, tt),
            ),
          ),
        ),
      )

  pub switch_makes : {jumps : Bool} {n m : ℕ} {d c : VariableSet} (goes_on : Bool) → (goes_on ≡ true → jumps ≡ true) → 0 < m → m ≤ n → IsWithin c d → (p : Place) (x : Operand) (arms : Arms) → count_arms arms < 2 ^ 32 → AreLabelWords arms → OperandFits n d x →
      (made : Made (Unit {0})) → ((e : VariableSet) → IsWithin d e → e n ≡ true → Makes functions true returns Anything (n + 2) e c made) →
      Makes functions jumps returns Anything n d c (switch p x n (arm_with None 0 arms (count_arms arms)) (search p x n 0 arms) goes_on made)
  switch_makes {jumps} {n} {m} {d} {c} goes_on out some j w p x arms h g f made next = record {
    grows = omega (arith, sample.grows);
    good = switch_good jumps goes_on out n made.next sample.grows (omega (arith, some, j)) p x (arm_with None 0 arms (count_arms arms)) (let k = arm_is_within None (count_arms arms) 0 arms (count_arms arms) (omega arith) (omega arith) in omega (arith, k, h)) (search p x n 0 arms) made.code d f
        (λ e z. search_good p x n 0 arms (omega (arith, some, j), omega (arith, sample.grows)) (omega (arith, h)) g e (operand_still n made.next d e (omega (arith, sample.grows)) z x f))
        (λ e z y. (next e z y).good);
    sets = λ v z. assured_grows (switch p x n (arm_with None 0 arms (count_arms arms)) (search p x n 0 arms) goes_on made).code d v (w v z);
    given = tt;
  } where
    sample : Makes functions true returns Anything (n + 2) (with_set n d) c made
    sample = next (with_set n d) (set_on n d) (set_here n d)
