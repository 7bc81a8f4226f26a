-- What comes behind a group, or behind a list of rounds, is a tail of the actions.
use Rattle.std.proofs.Common.{ℕ, ◌+◌, ◌≤◌, Bool, true, false, not, ◌&&◌, List, [], ◌∷◌, arith}
use Rattle.dae_ir.specs.Code.{Done, Do, If, Loop, Each}
use Rattle.dae_ir.specs.Classes.{Classes}
use Rattle.dae_ir.specs.Rounds.{Group, Alone, Region, Rounds}
use Rattle.dae_ir.specs.Streams.{Actions, mark, when, a_part, e_part, parts, message, gives_address, hears_check, e_last, a_group, e_group, group_of, inside_of}
use Rattle.dae_ir.specs.Budgets.{in_group, AllInside}
use Rattle.dae_ir.specs.declared.stream.Part.{Part}
use Rattle.dae_ir.specs.declared.stream.Part.TheVariants.{Sets, Loads, Tests}
use Rattle.dae_ir.specs.declared.stream.Last.{Last}
use Rattle.dae_ir.specs.declared.stream.Last.TheVariants.{Nothing, Stores, Prints, Decides}
use Rattle.dae_ir.specs.declared.stream.Mark.{Mark}
use Rattle.dae_ir.specs.declared.stream.Action.{Action}
use Rattle.dae_ir.specs.declared.stream.Action.TheVariants.{Set, Issue, Own, Receive, Offer, Accept}
use Rattle.dae_ir.specs.declared.stream.Branch.{Branch}

pub data IsTail (k : Actions) : Actions → Type 0 where
  Here : IsTail k k
  BehindDo : (m : Mark) (x : Action) (code : Actions) → IsTail k code → IsTail k (Do m x code)
  BehindIf : (m : Mark) (b : Branch) (p q code : Actions) → IsTail k code → IsTail k (If m b p q code)
  BehindLoop : (m : Mark) (p q code : Actions) → IsTail k code → IsTail k (Loop m p q code)

pub tail_on : (k l code : Actions) → IsTail k l → IsTail l code → IsTail k code
tail_on k l code t Here = t
tail_on k l code t (BehindDo m x rest u) = BehindDo m x rest (tail_on k l rest t u)
tail_on k l code t (BehindIf m b p q rest u) = BehindIf m b p q rest (tail_on k l rest t u)
tail_on k l code t (BehindLoop m p q rest u) = BehindLoop m p q rest (tail_on k l rest t u)

pub tail_each : (I : Action → Type 0) (B : Branch → Type 0) (k code : Actions) → IsTail k code → Each I B code → Each I B k
tail_each I B k code Here h = h
tail_each I B k code (BehindDo m x rest u) h = tail_each I B k rest u h.1
tail_each I B k code (BehindIf m b p q rest u) h = tail_each I B k rest u h.3
tail_each I B k code (BehindLoop m p q rest u) h = tail_each I B k rest u h.2

-- no group of a list, or of a list inside it, has more than m such actions
abbrev pub Bounded : (Action → Bool) → ℕ → Actions → Type 0
Bounded f m code = ((g : ℕ) → in_group f g code ≤ m) × AllInside (λ l. (g : ℕ) → in_group f g l ≤ m) code

pub tail_bounded : (f : Action → Bool) (m : ℕ) (k code : Actions) → IsTail k code → Bounded f m code → Bounded f m k
tail_bounded f m k code Here h = h
tail_bounded f m k code (BehindDo o x rest u) h = tail_bounded f m k rest u ((λ g. omega (arith, h.0 g)), h.1)
tail_bounded f m k code (BehindIf o b p q rest u) h = tail_bounded f m k rest u (h.0, h.1.2)
tail_bounded f m k code (BehindLoop o p q rest u) h = tail_bounded f m k rest u (h.0, h.1.2)

pub tail_when : (b : Bool) (m : Mark) (x : Action) (k : Actions) → IsTail k (when b m x k)
tail_when true m x k = BehindDo m x k Here
tail_when false m x k = Here

-- two actions by their flags, and three
tail_two : (a b : Bool) (m : Mark) (x y : Action) (k : Actions) → IsTail k (when a m x (when b m y k))
tail_two a b m x y k = tail_on k (when b m y k) _ (tail_when b m y k) (tail_when a m x (when b m y k))

tail_a_part : (c : Classes) (n : ℕ) (p : Part) (k : Actions) → IsTail k (a_part c n p k)
tail_a_part c n (Sets place v x) k = tail_two (c.s v) (c.s v && c.needs v) (mark place n) (Set v x) (Offer v) k
tail_a_part c n (Loads place v kind x) k =
    tail_on k _ _ (tail_two (c.s v) (c.s v && c.needs v) (mark place n) (Own v kind x) (Offer v) k)
    (tail_when (not (c.s v) && c.needs v) (mark place n) (Issue kind x) _)
tail_a_part c n (Tests place check) k = BehindDo _ _ k Here

tail_e_part : (c : Classes) (n : ℕ) (p : Part) (k : Actions) → IsTail k (e_part c n p k)
tail_e_part c n (Sets place v x) k = tail_two (c.s v && c.needs v) (not (c.s v) && c.needs v) (mark place n) (Accept v) (Set v x) k
tail_e_part c n (Loads place v kind x) k = tail_two (c.s v && c.needs v) (not (c.s v) && c.needs v) (mark place n) (Accept v) (Receive v) k
tail_e_part c n (Tests place check) k = Here

tail_parts : (f : Part → Actions → Actions) → ((p : Part) (k : Actions) → IsTail k (f p k)) → (g : List Part) (k : Actions) → IsTail k (parts f g k)
tail_parts f h [] k = Here
tail_parts f h (p ∷ g) k = tail_on _ _ _ (tail_parts f h g k) (h p (parts f g k))

pub tail_message : (n : ℕ) (x : Action) (g : List Part) (k : Actions) → IsTail k (message n x g k)
tail_message n x [] k = Here
tail_message n x (Sets place v y ∷ g) k = tail_message n x g k
tail_message n x (Loads place v kind y ∷ g) k = tail_message n x g k
tail_message n x (Tests place check ∷ g) k = BehindDo _ x k Here

pub tail_address : (n : ℕ) (last : Last) (k : Actions) → IsTail k (gives_address n last k)
tail_address n Nothing k = Here
tail_address n (Stores place width x y) k = BehindDo _ _ k Here
tail_address n (Prints place spelling x) k = Here
tail_address n (Decides place check) k = Here

pub tail_hears : (n : ℕ) (last : Last) (k : Actions) → IsTail k (hears_check n last k)
tail_hears n Nothing k = Here
tail_hears n (Stores place width x y) k = Here
tail_hears n (Prints place spelling x) k = Here
tail_hears n (Decides place check) k = BehindDo _ _ k Here

pub tail_e_last : (n : ℕ) (last : Last) (k : Actions) → IsTail k (e_last n last k)
tail_e_last n Nothing k = Here
tail_e_last n (Stores place width x y) k = BehindDo _ _ k Here
tail_e_last n (Prints place spelling x) k = BehindDo _ _ k Here
tail_e_last n (Decides place check) k = BehindDo _ _ _ (BehindDo _ _ k Here)

pub tail_a_group : (c : Classes) (n : ℕ) (g : List Part) (last : Last) (k : Actions) → IsTail k (a_group c n g last k)
tail_a_group c n g last k =
    tail_on _ _ _ (tail_hears n last k) (tail_on _ _ _ (tail_message n _ g _) (tail_on _ _ _ (tail_address n last _) (tail_parts (a_part c n) (tail_a_part c n) g _)))

-- behind the parts alone
pub tail_e_parts : (c : Classes) (n : ℕ) (g : List Part) (k : Actions) → IsTail k (parts (e_part c n) g k)
tail_e_parts c n g k = tail_parts (e_part c n) (tail_e_part c n) g k

pub tail_a_parts : (c : Classes) (n : ℕ) (g : List Part) (k : Actions) → IsTail k (parts (a_part c n) g k)
tail_a_parts c n g k = tail_parts (a_part c n) (tail_a_part c n) g k

pub tail_e_group : (c : Classes) (n : ℕ) (g : List Part) (last : Last) (k : Actions) → IsTail k (e_group c n g last k)
tail_e_group c n g last k =
    tail_on _ _ _ (tail_e_last n last k) (tail_on _ _ _ (tail_e_parts c n g _) (tail_message n _ g _))

tail_group : (by_a : Bool) (c : Classes) (n : ℕ) (g : List Part) (last : Last) (k : Actions) → IsTail k (group_of by_a c n g last k)
tail_group true c n g last k = tail_a_group c n g last k
tail_group false c n g last k = tail_e_group c n g last k

pub tail_inside : (by_a : Bool) (of : ℕ → Classes) (c : Classes) (n : ℕ) (r : Rounds) (k : Actions) → IsTail k (inside_of by_a of c n r k)
tail_inside by_a of c n Done k = Here
tail_inside by_a of c n (Do place (Group g last) r) k = tail_on _ _ _ (tail_inside by_a of c (n + 1) r k) (tail_group by_a c n g last _)
tail_inside by_a of c n (Do place (Alone jump) r) k = BehindDo _ _ _ (tail_inside by_a of c n r k)
tail_inside by_a of c n (Do place (Region d code) r) k = tail_inside by_a of c n r k
tail_inside by_a of c n (If place d p q r) k = BehindIf _ _ _ _ _ (tail_inside by_a of c n r k)
tail_inside by_a of c n (Loop place p q r) k = BehindLoop _ _ _ _ (tail_inside by_a of c n r k)
