-- Which bodies of loops begin with a test that is told: none in a region, and elsewhere those before whose first condition the
-- side does nothing.
use Rattle.std.proofs.Common.{◌≡◌, ℕ, ◌+◌, Bool, true, false, ◌&&◌, not, List, [], ◌∷◌, refl, arith, None}
use Rattle.dae_base.specs.declared.Place.{Place}
use Rattle.dae_ir.specs.Code.{Done, Do, If, Loop}
use Rattle.dae_ir.specs.Form.{Form}
use Rattle.dae_ir.specs.Classes.{Classes}
use Rattle.dae_ir.specs.Rounds.{Group, Alone, Region, Rounds, rounds}
use Rattle.dae_ir.specs.Streams.{Actions, mark, when, a_part, e_part, parts, message, gives_address, hears_check, e_last, group_of, inside_of, has_loop, region_of, only_failure}
use Rattle.dae_ir.specs.declared.form.Operand.TheVariants.{Number}
use Rattle.dae_ir.specs.declared.stream.Action.{Action}
use Rattle.dae_ir.specs.declared.stream.Action.TheVariants.{Set, Issue, Own, Receive, Offer, Accept, Tell, Hear}
use Rattle.dae_ir.specs.declared.stream.Branch.TheVariants.{Silent, Tells, Hears}
use Rattle.dae_ir.specs.declared.stream.Last.{Last}
use Rattle.dae_ir.specs.declared.stream.Last.TheVariants.{Nothing, Stores, Prints, Decides}
use Rattle.dae_ir.specs.declared.stream.Mark.{Mark}
use Rattle.dae_ir.specs.declared.stream.Part.{Part}
use Rattle.dae_ir.specs.declared.stream.Part.TheVariants.{Sets, Loads, Tests}
use Rattle.dae_machine_rounds.specs.Spots.{turn_least}

-- this code begins with a test that is told
abbrev pub IsTold : Actions → Type 0
IsTold code = turn_least code ≡ 0

pub not_told : (code : Actions) → (IsTold code → ⊥) → turn_least code ≡ 1
not_told Done h = refl
not_told (Do m x k) h = refl
not_told (If m (Silent t) x y k) h = refl
not_told (If m (Tells t) x y k) h = absurd (h refl)
not_told (If m Hears x y k) h = absurd (h refl)
not_told (Loop m x y k) h = refl

pub one_is_none : ◌≡◌ {A = ℕ} 1 0 → ⊥
one_is_none e = omega arith

told_when : (flag : Bool) (m : Mark) (x : Action) (k : Actions) → IsTold (when flag m x k) → IsTold k
told_when true m x k h = absurd (one_is_none h)
told_when false m x k h = h

-- ---- groups

module _ (c : Classes) (n : ℕ) where
  told_a_part : (p : Part) (k : Actions) → IsTold (a_part c n p k) → IsTold k
  told_a_part (Sets place v x) k h = told_when (c.s v && c.needs v) (mark place n) (Offer v) k (told_when (c.s v) (mark place n) (Set v x) _ h)
  told_a_part (Loads place v kind x) k h =
      told_when (c.s v && c.needs v) (mark place n) (Offer v) k (told_when (c.s v) (mark place n) (Own v kind x) _ (told_when (not (c.s v) && c.needs v) (mark place n) (Issue kind x) _ h))
  told_a_part (Tests place check) k h = absurd (one_is_none h)

  told_e_part : (p : Part) (k : Actions) → IsTold (e_part c n p k) → IsTold k
  told_e_part (Sets place v x) k h = told_when (not (c.s v) && c.needs v) (mark place n) (Set v x) k (told_when (c.s v && c.needs v) (mark place n) (Accept v) _ h)
  told_e_part (Loads place v kind x) k h = told_when (not (c.s v) && c.needs v) (mark place n) (Receive v) k (told_when (c.s v && c.needs v) (mark place n) (Accept v) _ h)
  told_e_part (Tests place check) k h = h

  told_parts : (f : Part → Actions → Actions) → ((p : Part) (k : Actions) → IsTold (f p k) → IsTold k) → (g : List Part) (k : Actions) → IsTold (parts f g k) → IsTold k
  told_parts f each [] k h = h
  told_parts f each (p ∷ g) k h = told_parts f each g k (each p (parts f g k) h)

  told_message : (x : Action) (g : List Part) (k : Actions) → IsTold (message n x g k) → IsTold k
  told_message x [] k h = h
  told_message x (Sets place v y ∷ g) k h = told_message x g k h
  told_message x (Loads place v kind y ∷ g) k h = told_message x g k h
  told_message x (Tests place check ∷ g) k h = absurd (one_is_none h)

  told_address : (last : Last) (k : Actions) → IsTold (gives_address n last k) → IsTold k
  told_address Nothing k h = h
  told_address (Stores place width x y) k h = absurd (one_is_none h)
  told_address (Prints place spelling x) k h = h
  told_address (Decides place check) k h = h

  told_check : (last : Last) (k : Actions) → IsTold (hears_check n last k) → IsTold k
  told_check Nothing k h = h
  told_check (Stores place width x y) k h = h
  told_check (Prints place spelling x) k h = h
  told_check (Decides place check) k h = absurd (one_is_none h)

  told_e_last : (last : Last) (k : Actions) → IsTold (e_last n last k) → IsTold k
  told_e_last Nothing k h = h
  told_e_last (Stores place width x y) k h = absurd (one_is_none h)
  told_e_last (Prints place spelling x) k h = absurd (one_is_none h)
  told_e_last (Decides place check) k h = absurd (one_is_none h)

  pub told_group : (by_a : Bool) (g : List Part) (last : Last) (k : Actions) → IsTold (group_of by_a c n g last k) → IsTold k
  told_group true g last k h =
      let checks = hears_check n last k in
      let told = message n (Tell (Number 0)) g checks in
      told_check last k (told_message (Tell (Number 0)) g checks (told_address last told (told_parts (a_part c n) told_a_part g (gives_address n last told) h)))
  told_group false g last k h =
      let rest = e_last n last k in
      told_e_last last k (told_parts (e_part c n) told_e_part g rest (told_message (Hear (only_failure g)) g (parts (e_part c n) g rest) h))

-- ---- regions

module _ (of : ℕ → Classes) (c : Classes) where
  told_inside : (by_a : Bool) (n : ℕ) (r : Rounds) (k : Actions) → IsTold (inside_of by_a of c n r k) → IsTold k
  told_inside by_a n Done k h = h
  told_inside by_a n (Do place (Group g last) r) k h = told_inside by_a (n + 1) r k (told_group c n by_a g last (inside_of by_a of c (n + 1) r k) h)
  told_inside by_a n (Do place (Alone jump) r) k h = absurd (one_is_none h)
  told_inside by_a n (Do place (Region d code) r) k h = told_inside by_a n r k h
  told_inside by_a n (If place d p q r) k h = absurd (one_is_none h)
  told_inside by_a n (Loop place body step r) k h = absurd (one_is_none h)

  -- a turn in a region
  pub inside_turn : (by_a : Bool) (n : ℕ) (r : Rounds) → turn_least (inside_of by_a of c n r Done) ≡ 1
  inside_turn by_a n r = not_told (inside_of by_a of c n r Done) (λ h. one_is_none (told_inside by_a n r Done h))

  -- E does nothing in a region
  pub told_region : (cap n : ℕ) (place : Place) (by_a : Bool) (code : Form) (k : Actions) → IsTold (region_of false of c cap n place by_a code k) → IsTold k
  told_region cap n place true code k h = told_when (has_loop code) (mark place n) (Hear None) k h
  told_region cap n place false code k h = told_inside false n (rounds c cap false code []) k h
