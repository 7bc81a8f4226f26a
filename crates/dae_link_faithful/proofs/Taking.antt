-- Each action of a pair is of its side, and what it takes from a queue of the other side has its place in the budget.
use Rattle.std.proofs.Common.{◌≡◌, ℕ, ◌+◌, ◌≤◌, Bool, true, false, not, ◌&&◌, List, [], ◌∷◌, if◌then◌else◌, refl, Option, None}
use Rattle.std.specs.List.{AllByRecursion}
use Rattle.dae_base.proofs.Laws.{and_true, no_true}
use Rattle.dae_base.specs.declared.Place.{Place}
use Rattle.dae_base.specs.declared.Depths.{Depths}
use Rattle.dae_ir.specs.Code.{Done, Do, If, Loop, Each, every}
use Rattle.dae_ir.specs.Form.{Form}
use Rattle.dae_ir.specs.Classes.{Classes, is_by_a}
use Rattle.dae_ir.specs.Rounds.{Jump, Breaks, Continues, Enters, Gives, Halts, Group, Alone, Region, Rounds, stand, is_a_item, is_e_item, rounds}
use Rattle.dae_ir.specs.Streams.{Actions, mark, when, a_part, e_part, parts, message, gives_address, hears_check, e_last, a_group, e_group, jump_action, inside_of, has_loop, side_of, stream_of, only_failure}
use Rattle.dae_ir.specs.declared.form.Test.{Test}
use Rattle.dae_ir.specs.declared.form.Item.{Item}
use Rattle.dae_ir.specs.declared.form.Item.TheVariants.{Assign, Load, Store, Print, Expect, Break as Leave, Continue as Skip, Call as Enter, Return as Give, Halt}
use Rattle.dae_ir.specs.declared.form.Operand.TheVariants.{Number}
use Rattle.dae_ir.specs.declared.stream.Part.{Part}
use Rattle.dae_ir.specs.declared.stream.Part.TheVariants.{Sets, Loads, Tests}
use Rattle.dae_ir.specs.declared.stream.Last.{Last}
use Rattle.dae_ir.specs.declared.stream.Last.TheVariants.{Nothing, Stores, Prints, Decides}
use Rattle.dae_ir.specs.declared.stream.Mark.{Mark}
use Rattle.dae_ir.specs.declared.stream.Action.{Action}
use Rattle.dae_ir.specs.declared.stream.Action.TheVariants.{Set, Issue, Own, Receive, Address, Datum, Offer, Accept, Tell, Hear}
use Rattle.dae_ir.specs.declared.stream.Branch.{Branch}
use Rattle.dae_ir.specs.declared.stream.Branch.TheVariants.{Silent, Tells, Hears}
use Rattle.dae_ir.specs.declared.stream.Failure.{Failure}
use Rattle.dae_ir_pair.specs.Budget.{Covers}
use Rattle.dae_link_faithful.proofs.Rounds.{regions_ok, Has, StandOk, rounds_have, every_each, PartTaken, LastTaken, ETakes, ATakes, e_takes, a_takes}

module _ (d : Depths) where
  -- what A may do, and E
  abbrev pub AMay : Action → Type 0
  AMay (Receive v) = ⊥
  AMay (Datum x) = ⊥
  AMay (Accept v) = ⊥
  AMay (Hear only) = 1 ≤ d.eb
  AMay action = Unit {0}

  abbrev pub EMay : Action → Type 0
  EMay (Issue kind x) = ⊥
  EMay (Own v kind x) = ⊥
  EMay (Address width x) = ⊥
  EMay (Offer v) = ⊥
  EMay (Receive v) = 1 ≤ d.ld
  EMay (Accept v) = 1 ≤ d.cq
  EMay (Hear only) = 1 ≤ d.ab
  EMay action = Unit {0}

  abbrev pub HearsWith : ℕ → Branch → Type 0
  HearsWith n (Silent t) = Unit {0}
  HearsWith n (Tells t) = Unit {0}
  HearsWith n Hears = 1 ≤ n

  abbrev pub AllA : Actions → Type 0
  AllA code = Each AMay (HearsWith d.eb) code

  abbrev pub AllE : Actions → Type 0
  AllE code = Each EMay (HearsWith d.ab) code

  branch_a : (b : Bool) (t : Test) → (b ≡ false → 1 ≤ d.eb) → HearsWith d.eb (if b then Tells t else Hears)
  branch_a true t h = tt
  branch_a false t h = h refl

  branch_e : (b : Bool) (t : Test) → (b ≡ true → 1 ≤ d.ab) → HearsWith d.ab (if b then Hears else Tells t)
  branch_e true t h = h refl
  branch_e false t h = tt

  when_a : (b : Bool) (m : Mark) (x : Action) (k : Actions) → AMay x → AllA k → AllA (when b m x k)
  when_a true m x k h more = (h, more)
  when_a false m x k h more = more

  when_e : (b : Bool) (m : Mark) (x : Action) (k : Actions) → (b ≡ true → EMay x) → AllE k → AllE (when b m x k)
  when_e true m x k h more = (h refl, more)
  when_e false m x k h more = more

  module _ (of : ℕ → Classes) (c : Classes) (cap : ℕ) where
    -- ---- A

    part_a : (n : ℕ) (p : Part) (k : Actions) → AllA k → AllA (a_part c n p k)
    part_a n (Sets place v x) k h = when_a (c.s v) (mark place n) (Set v x) _ tt (when_a (c.s v && c.needs v) (mark place n) (Offer v) k tt h)
    part_a n (Loads place v kind x) k h =
        when_a (not (c.s v) && c.needs v) (mark place n) (Issue kind x) _ tt
        (when_a (c.s v) (mark place n) (Own v kind x) _ tt (when_a (c.s v && c.needs v) (mark place n) (Offer v) k tt h))
    part_a n (Tests place check) k h = (tt, h)

    parts_a : (n : ℕ) (g : List Part) (k : Actions) → AllA k → AllA (parts (a_part c n) g k)
    parts_a n [] k h = h
    parts_a n (p ∷ g) k h = part_a n p _ (parts_a n g k h)

    message_a : (n : ℕ) (g : List Part) (k : Actions) → AllA k → AllA (message n (Tell (Number 0)) g k)
    message_a n [] k h = h
    message_a n (Sets place v y ∷ g) k h = message_a n g k h
    message_a n (Loads place v kind y ∷ g) k h = message_a n g k h
    message_a n (Tests place check ∷ g) k h = (tt, h)

    address_a : (n : ℕ) (last : Last) (k : Actions) → AllA k → AllA (gives_address n last k)
    address_a n Nothing k h = h
    address_a n (Stores place width x y) k h = (tt, h)
    address_a n (Prints place spelling x) k h = h
    address_a n (Decides place check) k h = h

    hears_a : (n : ℕ) (last : Last) (k : Actions) → LastTaken c d last → AllA k → AllA (hears_check n last k)
    hears_a n Nothing k t h = h
    hears_a n (Stores place width x y) k t h = h
    hears_a n (Prints place spelling x) k t h = h
    hears_a n (Decides place check) k t h = (t refl, h)

    group_a : (n : ℕ) (g : List Part) (last : Last) (k : Actions) → LastTaken c d last → AllA k → AllA (a_group c n g last k)
    group_a n g last k t h = parts_a n g _ (address_a n last _ (message_a n g _ (hears_a n last k t h)))

    jump_a : (jump : Jump) → AMay (jump_action true of c jump)
    jump_a Breaks = tt
    jump_a Continues = tt
    jump_a (Enters v f xs) = tt
    jump_a (Gives x) = tt
    jump_a (Halts x) = tt

    abbrev InsideA : Rounds → Type 0
    InsideA r = Each (Has c cap (λ p. Unit {0}) (LastTaken c d)) (λ q. Unit {0}) r

    inside_a : (n : ℕ) (r : Rounds) (k : Actions) → InsideA r → AllA k → AllA (inside_of true of c n r k)
    inside_a n Done k is h = h
    inside_a n (Do place (Group g last) r) k is h = group_a n g last _ is.0.1 (inside_a (n + 1) r k is.1 h)
    inside_a n (Do place (Alone jump) r) k is h = (jump_a jump, inside_a n r k is.1 h)
    inside_a n (Do place (Region b code) r) k is h = inside_a n r k is.1 h
    inside_a n (If place q x y r) k is h = (tt, inside_a 0 x Done is.1 tt, inside_a 0 y Done is.2 tt, inside_a n r k is.3 h)
    inside_a n (Loop place x y r) k is h = (inside_a 0 x Done is.0 tt, inside_a 0 y Done is.1 tt, inside_a n r k is.2 h)

    -- nothing in a region of A is decided by E
    item_a : (item : Item) → is_a_item c item ≡ true → (place : Place) → StandOk c cap (λ p. Unit {0}) (LastTaken c d) (stand c place item)
    item_a (Assign v x) is place = tt
    item_a (Load v kind x) is place = tt
    item_a Leave is place = tt
    item_a Skip is place = tt
    item_a (Store width x y) is place = no_true is
    item_a (Print spelling x) is place = no_true is
    item_a (Expect check) is place = no_true is
    item_a (Enter v f xs) is place = no_true is
    item_a (Give x) is place = no_true is
    item_a (Halt x) is place = no_true is

    region_a : (code : Form) → every (is_a_item c) (is_by_a c.s) code ≡ true → InsideA (rounds c cap false code [])
    region_a code is = rounds_have c cap (λ p. Unit {0}) (LastTaken c d) (λ e. no_true e) code (every_each (is_a_item c) (is_by_a c.s) _ item_a code is) [] tt

    side_a : (n : ℕ) (r : Rounds) (k : Actions) → Each (ATakes c d) (λ q. q.by_a ≡ false → 1 ≤ d.eb) r → AllA k → AllA (side_of true of c cap n r k)
    side_a n Done k is h = h
    side_a n (Do place (Group g last) r) k is h = group_a n g last _ is.0 (side_a (n + 1) r k is.1 h)
    side_a n (Do place (Alone jump) r) k is h = (jump_a jump, side_a n r k is.1 h)
    side_a n (Do place (Region true code) r) k is h = inside_a n (rounds c cap false code []) _ (region_a code is.0) (when_a (has_loop code) (mark place n) (Tell (Number 0)) _ tt (side_a n r k is.1 h))
    side_a n (Do place (Region false code) r) k is h = side_a n r k is.1 h
    side_a n (If place q x y r) k is h = (branch_a q.by_a q.test is.0, side_a 0 x Done is.1 tt, side_a 0 y Done is.2 tt, side_a n r k is.3 h)
    side_a n (Loop place x y r) k is h = (side_a 0 x Done is.0 tt, side_a 0 y Done is.1 tt, side_a n r k is.2 h)

    -- ---- E

    part_e : (n : ℕ) (p : Part) (k : Actions) → PartTaken c d p → AllE k → AllE (e_part c n p k)
    part_e n (Sets place v x) k t h = when_e (c.s v && c.needs v) (mark place n) (Accept v) _ t.1 (when_e (not (c.s v) && c.needs v) (mark place n) (Set v x) k (λ e. tt) h)
    part_e n (Loads place v kind x) k t h = when_e (c.s v && c.needs v) (mark place n) (Accept v) _ t.1 (when_e (not (c.s v) && c.needs v) (mark place n) (Receive v) k t.0 h)
    part_e n (Tests place check) k t h = h

    parts_e : (n : ℕ) (g : List Part) (k : Actions) → AllByRecursion (PartTaken c d) g → AllE k → AllE (parts (e_part c n) g k)
    parts_e n [] k t h = h
    parts_e n (p ∷ g) k t h = part_e n p _ t.0 (parts_e n g k t.1 h)

    message_e : (only : Option Failure) (n : ℕ) (g : List Part) (k : Actions) → AllByRecursion (PartTaken c d) g → AllE k → AllE (message n (Hear only) g k)
    message_e only n [] k t h = h
    message_e only n (Sets place v y ∷ g) k t h = message_e only n g k t.1 h
    message_e only n (Loads place v kind y ∷ g) k t h = message_e only n g k t.1 h
    message_e only n (Tests place check ∷ g) k t h = (t.0.2 refl, h)

    last_e : (n : ℕ) (last : Last) (k : Actions) → AllE k → AllE (e_last n last k)
    last_e n Nothing k h = h
    last_e n (Stores place width x y) k h = (tt, h)
    last_e n (Prints place spelling x) k h = (tt, h)
    last_e n (Decides place check) k h = (tt, (tt, h))

    group_e : (n : ℕ) (g : List Part) (last : Last) (k : Actions) → AllByRecursion (PartTaken c d) g → AllE k → AllE (e_group c n g last k)
    group_e n g last k t h = message_e (only_failure g) n g _ t (parts_e n g _ t (last_e n last k h))

    jump_e : (jump : Jump) → EMay (jump_action false of c jump)
    jump_e Breaks = tt
    jump_e Continues = tt
    jump_e (Enters v f xs) = tt
    jump_e (Gives x) = tt
    jump_e (Halts x) = tt

    abbrev InsideE : Rounds → Type 0
    InsideE r = Each (Has c cap (PartTaken c d) (λ last. Unit {0})) (λ q. Unit {0}) r

    inside_e : (n : ℕ) (r : Rounds) (k : Actions) → InsideE r → AllE k → AllE (inside_of false of c n r k)
    inside_e n Done k is h = h
    inside_e n (Do place (Group g last) r) k is h = group_e n g last _ is.0.0 (inside_e (n + 1) r k is.1 h)
    inside_e n (Do place (Alone jump) r) k is h = (jump_e jump, inside_e n r k is.1 h)
    inside_e n (Do place (Region b code) r) k is h = inside_e n r k is.1 h
    inside_e n (If place q x y r) k is h = (tt, inside_e 0 x Done is.1 tt, inside_e 0 y Done is.2 tt, inside_e n r k is.3 h)
    inside_e n (Loop place x y r) k is h = (inside_e 0 x Done is.0 tt, inside_e 0 y Done is.1 tt, inside_e n r k is.2 h)

    -- nothing in a region of E is loaded for it, copied or checked
    never_copied : {X : Type 0} (s n : Bool) → not s ≡ true → s && n ≡ true → X
    never_copied true n is e = no_true is
    never_copied false n is e = no_true e

    never_loaded : {X : Type 0} (s n : Bool) → not s && not n ≡ true → not s && n ≡ true → X
    never_loaded true n is e = no_true is
    never_loaded false true is e = no_true is
    never_loaded false false is e = no_true e

    item_e : (item : Item) → is_e_item c item ≡ true → (place : Place) → StandOk c cap (PartTaken c d) (λ last. Unit {0}) (stand c place item)
    item_e (Assign v x) is place = ((λ e. no_true e), (λ e. never_copied (c.s v) (c.needs v) is e), (λ e. no_true e))
    item_e (Load v kind x) is place = ((λ e. never_loaded (c.s v) (c.needs v) is e), (λ e. never_copied (c.s v) (c.needs v) (and_true (not (c.s v)) (not (c.needs v)) is).0 e), (λ e. no_true e))
    item_e (Print spelling x) is place = tt
    item_e Leave is place = tt
    item_e Skip is place = tt
    item_e (Store width x y) is place = no_true is
    item_e (Expect check) is place = no_true is
    item_e (Enter v f xs) is place = no_true is
    item_e (Give x) is place = no_true is
    item_e (Halt x) is place = no_true is

    region_e : (code : Form) → every (is_e_item c) (λ t. not (is_by_a c.s t)) code ≡ true → InsideE (rounds c cap false code [])
    region_e code is = rounds_have c cap (PartTaken c d) (λ last. Unit {0}) tt code (every_each (is_e_item c) (λ t. not (is_by_a c.s t)) _ item_e code is) [] tt

    side_e : (n : ℕ) (r : Rounds) (k : Actions) → Each (ETakes c d) (λ q. q.by_a ≡ true → 1 ≤ d.ab) r → AllE k → AllE (side_of false of c cap n r k)
    side_e n Done k is h = h
    side_e n (Do place (Group g last) r) k is h = group_e n g last _ is.0 (side_e (n + 1) r k is.1 h)
    side_e n (Do place (Alone jump) r) k is h = (jump_e jump, side_e n r k is.1 h)
    side_e n (Do place (Region true code) r) k is h = when_e (has_loop code) (mark place n) (Hear None) _ is.0 (side_e n r k is.1 h)
    side_e n (Do place (Region false code) r) k is h = inside_e n (rounds c cap false code []) _ (region_e code is.0) (side_e n r k is.1 h)
    side_e n (If place q x y r) k is h = (branch_e q.by_a q.test is.0, side_e 0 x Done is.1 tt, side_e 0 y Done is.2 tt, side_e n r k is.3 h)
    side_e n (Loop place x y r) k is h = (side_e 0 x Done is.0 tt, side_e 0 y Done is.1 tt, side_e n r k is.2 h)

    -- ---- a function's streams

    pub stream_a : (form : Form) → Covers c d (rounds c cap true form []) → AllA (stream_of true of c cap form)
    stream_a form covers = side_a 0 (rounds c cap true form []) Done (a_takes c d (rounds c cap true form []) covers.e (regions_ok c cap true form [])) tt

    pub stream_e : (form : Form) → Covers c d (rounds c cap true form []) → AllE (stream_of false of c cap form)
    stream_e form covers = side_e 0 (rounds c cap true form []) Done (e_takes c d (rounds c cap true form []) covers.a covers.loads covers.copies (regions_ok c cap true form [])) tt
