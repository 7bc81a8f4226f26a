-- Where each action of E's stream is within a budget, so is what E does in each round.
use Rattle.std.proofs.Common.{◌≡◌, ℕ, ◌+◌, ◌≤◌, Bool, true, false, List, [], refl, None}
use Rattle.dae_base.specs.declared.Depths.{Depths}
use Rattle.dae_base.proofs.Laws.{no_true}
use Rattle.dae_ir.specs.Code.{Done, Do, If, Loop, Each}
use Rattle.dae_ir.specs.Classes.{Classes}
use Rattle.dae_ir.specs.Rounds.{Group, Alone, Region, Rounds, rounds}
use Rattle.dae_ir.specs.Streams.{Actions, mark, e_part, parts, e_last, e_group, side_of, has_loop, branch_of, only_failure}
use Rattle.dae_ir.specs.Budgets.{is_datum, is_message, is_told}
use Rattle.dae_ir_pair.specs.Budget.{is_store, is_decided, EWithin}
use Rattle.dae_ir_pair.proofs.Tails.{IsTail, tail_each, tail_when, tail_message, tail_e_parts, tail_e_group, tail_inside}
use Rattle.dae_ir.specs.declared.stream.Part.{Part}
use Rattle.dae_ir.specs.declared.stream.Last.{Last}
use Rattle.dae_ir.specs.declared.stream.Last.TheVariants.{Nothing, Stores, Prints, Decides}
use Rattle.dae_ir.specs.declared.stream.Action.{Action}
use Rattle.dae_ir.specs.declared.stream.Action.TheVariants.{Hear}
use Rattle.dae_ir.specs.declared.form.Test.{Test}

-- within the budget
abbrev pub EFits : Depths → Action → Type 0
EFits d x = (is_datum x ≡ true → 1 ≤ d.sd) × (is_message x ≡ true → 1 ≤ d.eb)

abbrev pub AllE : Depths → Actions → Type 0
AllE d code = Each (EFits d) (λ b. is_told b ≡ true → 1 ≤ d.eb) code

no_false : {X : Type 0} → true ≡ false → X
no_false h = absurd (let e : true ≡ false = h in cc)

module _ (c : Classes) (d : Depths) where
  tail : (k code : Actions) → IsTail k code → AllE d code → AllE d k
  tail k code t h = tail_each (EFits d) (λ b. is_told b ≡ true → 1 ≤ d.eb) k code t h

  last_within : (n : ℕ) (last : Last) (k : Actions) → AllE d (e_last n last k) → (is_store last ≡ true → 1 ≤ d.sd) × (is_decided last ≡ true → 1 ≤ d.eb)
  last_within n Nothing k h = ((λ e. no_true e), (λ e. no_true e))
  last_within n (Stores place width x y) k h = ((λ e. h.0.0 refl), (λ e. no_true e))
  last_within n (Prints place spelling x) k h = ((λ e. no_true e), (λ e. no_true e))
  last_within n (Decides place check) k h = ((λ e. no_true e), (λ e. h.0.1 refl))

  group_within : (n : ℕ) (g : List Part) (last : Last) (k : Actions) → AllE d (e_group c n g last k) → EWithin d (Group g last)
  group_within n g last k h =
      let l = tail (parts (e_part c n) g (e_last n last k)) _ (tail_message n (Hear (only_failure g)) g (parts (e_part c n) g (e_last n last k))) h in
      last_within n last k (tail (e_last n last k) _ (tail_e_parts c n g (e_last n last k)) l)

  told_within : (by : Bool) (t : Test) → (is_told (branch_of false (record { by_a = by; test = t })) ≡ true → 1 ≤ d.eb) → by ≡ false → 1 ≤ d.eb
  told_within true t h e = no_false e
  told_within false t h e = h refl

  pub side_within : (of : ℕ → Classes) (cap : ℕ) (r : Rounds) (n : ℕ) (k : Actions) → AllE d (side_of false of c cap n r k) → Each (EWithin d) (λ q. q.by_a ≡ false → 1 ≤ d.eb) r
  side_within of cap Done n k h = tt
  side_within of cap (Do place (Group g last) r) n k h =
      let rest = side_of false of c cap (n + 1) r k in
      (group_within n g last rest h, side_within of cap r (n + 1) k (tail rest _ (tail_e_group c n g last rest) h))
  side_within of cap (Do place (Alone jump) r) n k h = (tt, side_within of cap r n k h.1)
  side_within of cap (Do place (Region true code) r) n k h =
      let rest = side_of false of c cap n r k in
      (tt, side_within of cap r n k (tail rest _ (tail_when (has_loop code) (mark place n) (Hear None) rest) h))
  side_within of cap (Do place (Region false code) r) n k h =
      let rest = side_of false of c cap n r k in
      (tt, side_within of cap r n k (tail rest _ (tail_inside false of c n (rounds c cap false code []) rest) h))
  side_within of cap (If place q x y r) n k h =
      (told_within q.by_a q.test h.0, side_within of cap x 0 Done h.1, side_within of cap y 0 Done h.2, side_within of cap r n k h.3)
  side_within of cap (Loop place x y r) n k h =
      (side_within of cap x 0 Done h.0, side_within of cap y 0 Done h.1, side_within of cap r n k h.2)
