-- How large groups are, and what a budget covers.
use Rattle.std.specs.Prelude.{◌≡◌, ℕ, ◌<◌, ◌≤◌, Bool, true, false, ◌||◌, List, [], ◌∷◌}
use Rattle.dae_base.specs.declared.Depths.{Depths}
use Rattle.dae_ir.specs.Code.{Each}
use Rattle.dae_ir.specs.Classes.{Classes, classes_of}
use Rattle.dae_ir.specs.Rounds.{Round, Group, Alone, Region, Rounds, is_for_e, is_copied, how_many, rounds}
use Rattle.dae_ir.specs.Streams.{has_loop}
use Rattle.dae_ir.specs.Programs.{program_of, IsPairOf}
use Rattle.dae_ir.specs.Budgets.{IsBudgetOf}
use Rattle.dae_ir.specs.declared.form.Item.{Item}
use Rattle.dae_ir.specs.declared.form.Item.TheVariants.{Load}
use Rattle.dae_ir.specs.declared.form.Ir.{Ir}
use Rattle.dae_ir.specs.declared.stream.Class.{Class}
use Rattle.dae_ir.specs.declared.stream.Pair.{Pair}
use Rattle.dae_ir.specs.declared.stream.Part.{Part}
use Rattle.dae_ir.specs.declared.stream.Part.TheVariants.{Sets, Loads, Tests}
use Rattle.dae_ir.specs.declared.stream.Last.{Last}
use Rattle.dae_ir.specs.declared.stream.Last.TheVariants.{Nothing, Stores, Prints, Decides}

-- a group has no more loads for E, and no more copies, than the cap
abbrev pub RoundFits : Classes → ℕ → Round → Type 0
RoundFits c cap (Group g last) = (how_many (is_for_e c) g ≤ cap) × (how_many (is_copied c) g ≤ cap)
RoundFits c cap (Alone jump) = Unit {0}
RoundFits c cap (Region by_a code) = Unit {0}

-- ---- what a budget covers

-- A's own load, a check that A decides, a store, and a check that E decides
abbrev pub is_own_part : Classes → Part → Bool
is_own_part c (Sets place v x) = false
is_own_part c (Loads place v kind x) = c.s v
is_own_part c (Tests place check) = false

abbrev pub is_test : Part → Bool
is_test (Sets place v x) = false
is_test (Loads place v kind x) = false
is_test (Tests place check) = true

abbrev pub is_store : Last → Bool
is_store Nothing = false
is_store (Stores place width x y) = true
is_store (Prints place spelling x) = false
is_store (Decides place check) = false

abbrev pub is_decided : Last → Bool
is_decided Nothing = false
is_decided (Stores place width x y) = false
is_decided (Prints place spelling x) = false
is_decided (Decides place check) = true

abbrev pub any_part : (Part → Bool) → List Part → Bool
any_part f [] = false
any_part f (p ∷ g) = f p || any_part f g

-- an own load in a region of A
abbrev pub OwnWithin : Classes → Depths → Item → Type 0
OwnWithin c d (Load v kind x) = c.s v ≡ true → 1 ≤ d.al
OwnWithin c d item = Unit {0}

-- what A does in a round
abbrev pub AWithin : Classes → Depths → Round → Type 0
AWithin c d (Group g last) = (any_part (is_own_part c) g ≡ true → 1 ≤ d.al) × (is_store last ≡ true → 1 ≤ d.sa) × (any_part is_test g ≡ true → 1 ≤ d.ab)
AWithin c d (Alone jump) = Unit {0}
AWithin c d (Region true code) = Each (OwnWithin c d) (λ t. Unit {0}) code × (has_loop code ≡ true → 1 ≤ d.ab)
AWithin c d (Region false code) = Unit {0}

-- what E does
abbrev pub EWithin : Depths → Round → Type 0
EWithin d (Group g last) = (is_store last ≡ true → 1 ≤ d.sd) × (is_decided last ≡ true → 1 ≤ d.eb)
EWithin d (Alone jump) = Unit {0}
EWithin d (Region by_a code) = Unit {0}

-- a group has at most m parts of a kind
abbrev pub AtMost : (Part → Bool) → ℕ → Round → Type 0
AtMost f m (Group g last) = how_many f g ≤ m
AtMost f m (Alone jump) = Unit {0}
AtMost f m (Region by_a code) = Unit {0}

-- the budget is enough for each round: for A's own loads and addresses and its messages, for E's data and messages, and
-- for the loads and the copies of each group
pub record Covers (c : Classes) (d : Depths) (r : Rounds) : Type 0 where
  pub a : Each (AWithin c d) (λ q. q.by_a ≡ true → 1 ≤ d.ab) r
  pub e : Each (EWithin d) (λ q. q.by_a ≡ false → 1 ≤ d.eb) r
  pub loads : Each (AtMost (is_for_e c) d.ld) (λ q. Unit {0}) r
  pub copies : Each (AtMost (is_copied c) d.cq) (λ q. Unit {0}) r

abbrev pub BudgetCovers : Type 0
BudgetCovers =
    (ir : Ir) (tables : List (List Class)) (cap : ℕ) (pair : Pair) (d : Depths) → IsPairOf ir tables cap pair → IsBudgetOf pair d
    → (f : ℕ) → Covers (classes_of tables f) d (rounds (classes_of tables f) cap true ((program_of ir).body f) [])

-- ---- how large a budget is

pub record IsWithinCap (cap : ℕ) (d : Depths) : Type 0 where
  pub ld : d.ld ≤ cap
  pub al : d.al ≤ 1
  pub sa : d.sa ≤ 1
  pub sd : d.sd ≤ 1
  pub ab : d.ab ≤ 1
  pub eb : d.eb ≤ 1
  pub cq : d.cq ≤ cap

abbrev pub BudgetIsWithinCap : Type 0
BudgetIsWithinCap =
    (ir : Ir) (tables : List (List Class)) (cap : ℕ) (pair : Pair) (d : Depths) → 0 < cap → IsPairOf ir tables cap pair → IsBudgetOf pair d → IsWithinCap cap d
