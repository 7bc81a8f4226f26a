-- A stream has at most 14 words for what its form weighs.
use Rattle.std.proofs.Common.{◌≡◌, ℕ, ◌+◌, ◌*◌, ◌≤◌, Bool, true, false, not, ◌&&◌, ◌||◌, List, [], ◌∷◌, ◌++◌, length, Option, Some, None, if◌then◌else◌, refl, arith}
use Rattle.dae_base.specs.declared.Place.{Place}
use Rattle.dae_ir.specs.Code.{Done, Do, If, Loop}
use Rattle.dae_ir.specs.Form.{Form}
use Rattle.dae_ir.specs.Classes.{VariableSet, Classes, has_check}
use Rattle.dae_ir.specs.Rounds.{Jump, Breaks, Continues, Enters, Gives, Halts, Rounds, Group, Alone, Joins, Closes, Separates, stand, decision, closed, place_of, is_full, placed, region, one_sided, rounds}
use Rattle.dae_ir.specs.Streams.{Actions, mark, when, a_part, e_part, parts, message, gives_address, hears_check, e_last, group_of, set_of, arguments_in, jump_action, inside_of, has_loop, region_of, side_of, stream_of, only_failure}
use Rattle.dae_ir.specs.Sizes.{bit, form_size, actions_size}
use Rattle.dae_ir_pair.specs.Budget.{is_test, any_part}
use Rattle.dae_ir_pair.specs.Sizes.{StreamsAreSmall, calls_in, burden, WordsAreBounded}
use Rattle.dae_ir.specs.declared.form.Operand.{Operand}
use Rattle.dae_ir.specs.declared.form.Operand.TheVariants.{Number}
use Rattle.dae_ir.specs.declared.form.Item.{Item}
use Rattle.dae_ir.specs.declared.form.Item.TheVariants.{Assign, Load, Store, Print, Expect, Break, Continue, Call, Return, Halt}
use Rattle.dae_ir.specs.declared.stream.Part.{Part}
use Rattle.dae_ir.specs.declared.stream.Part.TheVariants.{Sets, Loads, Tests}
use Rattle.dae_ir.specs.declared.stream.Last.{Last}
use Rattle.dae_ir.specs.declared.stream.Last.TheVariants.{Nothing, Stores, Prints, Decides}
use Rattle.dae_ir.specs.declared.stream.Action.{Action}
use Rattle.dae_ir.specs.declared.stream.Action.TheVariants.{Set, Issue, Own, Receive, Offer, Accept, Tell, Hear, Call as Enter}

module _ (extra : ℕ) where
  -- what the items of a form weigh: 2 each, and a call so many more, and 2 more for each argument
  abbrev item_cost : Item → ℕ
  item_cost (Call v f xs) = 2 + (extra + 2 * length xs)
  item_cost x = 2

  abbrev cost : Form → ℕ
  cost Done = 0
  cost (Do mark x k) = item_cost x + cost k
  cost (If mark test p q k) = 2 + (cost p + (cost q + cost k))
  cost (Loop mark body step k) = 2 + (cost body + (cost step + cost k))

  -- ---- what the actions of a stream weigh: 1 each, and a call so many more, and 1 more for each argument

  abbrev action_load : Action → ℕ
  action_load (Enter v f xs) = 1 + (extra + length xs)
  action_load action = 1

  abbrev load : Actions → ℕ
  load Done = 0
  load (Do mark x k) = action_load x + load k
  load (If mark test p q k) = 1 + (load p + (load q + load k))
  load (Loop mark body step k) = 1 + (load body + (load step + load k))

  -- ---- groups

  a_part_size : (c : Classes) (n : ℕ) (p : Part) (k : Actions) → load (a_part c n p k) + bit (is_test p) ≤ 2 + load k
  a_part_size c n (Sets place v x) k = by (c.s v) (c.needs v) where
    by : (s e : Bool) → load (when s (mark place n) (Set v x) (when (s && e) (mark place n) (Offer v) k)) + 0 ≤ 2 + load k
    by true true = omega (arith)
    by true false = omega (arith)
    by false e = omega (arith)
  a_part_size c n (Loads place v kind x) k = by (c.s v) (c.needs v) where
    by : (s e : Bool) → load (when (not s && e) (mark place n) (Issue kind x) (when s (mark place n) (Own v kind x) (when (s && e) (mark place n) (Offer v) k))) + 0 ≤ 2 + load k
    by true true = omega (arith)
    by true false = omega (arith)
    by false true = omega (arith)
    by false false = omega (arith)
  a_part_size c n (Tests place check) k = omega (arith)

  e_part_size : (c : Classes) (n : ℕ) (p : Part) (k : Actions) → load (e_part c n p k) + bit (is_test p) ≤ 2 + load k
  e_part_size c n (Sets place v x) k = by (c.s v) (c.needs v) where
    by : (s e : Bool) → load (when (s && e) (mark place n) (Accept v) (when (not s && e) (mark place n) (Set v x) k)) + 0 ≤ 2 + load k
    by true true = omega (arith)
    by true false = omega (arith)
    by false true = omega (arith)
    by false false = omega (arith)
  e_part_size c n (Loads place v kind x) k = by (c.s v) (c.needs v) where
    by : (s e : Bool) → load (when (s && e) (mark place n) (Accept v) (when (not s && e) (mark place n) (Receive v) k)) + 0 ≤ 2 + load k
    by true true = omega (arith)
    by true false = omega (arith)
    by false true = omega (arith)
    by false false = omega (arith)
  e_part_size c n (Tests place check) k = omega (arith)

  bit_or : (a b : Bool) → bit (a || b) ≤ bit a + bit b
  bit_or true b = omega (arith)
  bit_or false b = omega (arith)

  parts_size : (f : Part → Actions → Actions) → ((p : Part) (k : Actions) → load (f p k) + bit (is_test p) ≤ 2 + load k) → (g : List Part) (k : Actions) → load (parts f g k) + bit (any_part is_test g) ≤ 2 * length g + load k
  parts_size f h [] k = omega (arith)
  parts_size f h (p ∷ g) k = omega (arith, h p (parts f g k), parts_size f h g k, bit_or (is_test p) (any_part is_test g))

  message_size : (n : ℕ) (x : Action) (g : List Part) (k : Actions) → action_load x ≡ 1 → load (message n x g k) ≤ bit (any_part is_test g) + load k
  message_size n x [] k e = omega (arith)
  message_size n x (Sets place v y ∷ g) k e = message_size n x g k e
  message_size n x (Loads place v kind y ∷ g) k e = message_size n x g k e
  message_size n x (Tests place check ∷ g) k e = omega (arith, e)

  -- the items that a group ends with
  abbrev last_items : Last → ℕ
  last_items Nothing = 0
  last_items (Stores place width x y) = 1
  last_items (Prints place spelling x) = 1
  last_items (Decides place check) = 1

  address_size : (n : ℕ) (last : Last) (k : Actions) → load (gives_address n last k) ≤ last_items last + load k
  address_size n Nothing k = omega (arith)
  address_size n (Stores place width x y) k = omega (arith)
  address_size n (Prints place spelling x) k = omega (arith)
  address_size n (Decides place check) k = omega (arith)

  hears_size : (n : ℕ) (last : Last) (k : Actions) → load (hears_check n last k) ≤ last_items last + load k
  hears_size n Nothing k = omega (arith)
  hears_size n (Stores place width x y) k = omega (arith)
  hears_size n (Prints place spelling x) k = omega (arith)
  hears_size n (Decides place check) k = omega (arith)

  e_last_size : (n : ℕ) (last : Last) (k : Actions) → load (e_last n last k) ≤ 2 * last_items last + load k
  e_last_size n Nothing k = omega (arith)
  e_last_size n (Stores place width x y) k = omega (arith)
  e_last_size n (Prints place spelling x) k = omega (arith)
  e_last_size n (Decides place check) k = omega (arith)

  -- of a group a side has at most twice as many actions as the group has items
  groups_are_small : (by_a : Bool) (c : Classes) (n : ℕ) (g : List Part) (last : Last) (k : Actions) → load (group_of by_a c n g last k) ≤ 2 * (length g + last_items last) + load k
  groups_are_small true c n g last k =
      let h = hears_check n last k in
      let m = message n (Tell (Number 0)) g h in
      let a = gives_address n last m in
      omega (arith, parts_size (a_part c n) (a_part_size c n) g a, address_size n last m, message_size n (Tell (Number 0)) g h refl, hears_size n last k)
  groups_are_small false c n g last k =
      let l = e_last n last k in
      let p = parts (e_part c n) g l in
      omega (arith, message_size n (Hear (only_failure g)) g p refl, parts_size (e_part c n) (e_part_size c n) g l, e_last_size n last k)

  -- ---- what stands between groups

  arguments_size : (s : VariableSet) (k : ℕ) (xs : List Operand) → length (arguments_in s k xs) ≤ length xs
  arguments_size s k [] = omega (arith)
  arguments_size s k (x ∷ xs) = by (s k) (arguments_size s (k + 1) xs) where
    by : (b : Bool) → length (arguments_in s (k + 1) xs) ≤ length xs → length (if b then record { parameter = k; operand = x } ∷ arguments_in s (k + 1) xs else arguments_in s (k + 1) xs) ≤ length (x ∷ xs)
    by true h = omega (arith, h)
    by false h = omega (arith, h)

  abbrev jump_weight : Jump → ℕ
  jump_weight Breaks = 2
  jump_weight Continues = 2
  jump_weight (Enters v f xs) = 2 + (extra + 2 * length xs)
  jump_weight (Gives x) = 2
  jump_weight (Halts x) = 2

  jump_size : (by_a : Bool) (of : ℕ → Classes) (c : Classes) (jump : Jump) → action_load (jump_action by_a of c jump) ≤ jump_weight jump
  jump_size by_a of c Breaks = omega (arith)
  jump_size by_a of c Continues = omega (arith)
  jump_size by_a of c (Enters v f xs) = omega (arith, arguments_size (set_of by_a (of f)) 1 xs)
  jump_size by_a of c (Gives x) = omega (arith)
  jump_size by_a of c (Halts x) = omega (arith)

  length_more : (g : List Part) (p : Part) → length (g ++ p ∷ []) ≡ length g + 1
  length_more [] p = omega (arith)
  length_more (q ∷ g) p = omega (arith, length_more g p)

  -- ---- rounds, where walk makes a side's actions of rounds behind n groups

  module _ (by_a : Bool) (of : ℕ → Classes) (c : Classes) (cap : ℕ) (walk : ℕ → Rounds → Actions → Actions)
      (group : (n : ℕ) (place : Place) (g : List Part) (last : Last) (r : Rounds) (k : Actions) → walk n (Do place (Group g last) r) k ≡ group_of by_a c n g last (walk (n + 1) r k))
      (alone : (n : ℕ) (place : Place) (jump : Jump) (r : Rounds) (k : Actions) → walk n (Do place (Alone jump) r) k ≡ Do (mark place n) (jump_action by_a of c jump) (walk n r k)) where
    -- rounds of at most this size, whatever stands before them
    abbrev Within : Rounds → Actions → ℕ → Type 0
    Within r k m = (n : ℕ) → load (walk n r k) ≤ m

    closed_size : (g : List Part) (r : Rounds) (k : Actions) (m : ℕ) → Within r k m → Within (closed g r) k (2 * length g + m)
    closed_size [] r k m h n = omega (arith, h n)
    closed_size (p ∷ g) r k m h n =
        rw (group n (place_of p) (p ∷ g) Nothing r k) (omega (arith, groups_are_small by_a c n (p ∷ g) Nothing (walk (n + 1) r k), h (n + 1)))

    module _ (r : List Part → Rounds) (k : Actions) (m : ℕ) (behind : (g : List Part) → Within (r g) k (2 * length g + m)) where
      join_size : (place : Place) (p : Part) (g : List Part) → Within (placed c cap g place (Joins p) r) k (2 * length g + (2 + m))
      join_size place p g n = by (is_full c cap g p) where
        by : (b : Bool) → load (walk n (if b then closed g (r (p ∷ [])) else r (g ++ p ∷ [])) k) ≤ 2 * length g + (2 + m)
        by true = omega (arith, closed_size g (r (p ∷ [])) k (2 * length (p ∷ []) + m) (behind (p ∷ [])) n)
        by false = omega (arith, behind (g ++ p ∷ []) n, length_more g p)

      close_size : (place : Place) (last : Last) → last_items last ≤ 1 → (g : List Part) → Within (placed c cap g place (Closes last) r) k (2 * length g + (2 + m))
      close_size place last one g n =
          rw (group n place g last (r []) k) (omega (arith, one, groups_are_small by_a c n g last (walk (n + 1) (r []) k), behind [] (n + 1)))

      apart_size : (place : Place) (jump : Jump) (g : List Part) → Within (placed c cap g place (Separates jump) r) k (2 * length g + (jump_weight jump + m))
      apart_size place jump g = closed_size g (Do place (Alone jump) (r [])) k (jump_weight jump + m)
          (λ n. rw (alone n place jump (r []) k) (omega (arith, jump_size by_a of c jump, behind [] n)))

      item_size : (place : Place) (item : Item) (g : List Part) → Within (placed c cap g place (stand c place item) r) k (2 * length g + (item_cost item + m))
      item_size place (Assign v x) g n = omega (arith, join_size place (Sets place v x) g n)
      item_size place (Load v kind x) g n = omega (arith, join_size place (Loads place v kind x) g n)
      item_size place (Store width x y) g n = omega (arith, close_size place (Stores place width x y) (omega (arith)) g n)
      item_size place (Print spelling x) g n = omega (arith, close_size place (Prints place spelling x) (omega (arith)) g n)
      item_size place (Expect check) g n = by (has_check c.s check) where
        by : (b : Bool) → load (walk n (placed c cap g place (if b then Joins (Tests place check) else Closes (Decides place check)) r) k) ≤ 2 * length g + (2 + m)
        by true = omega (arith, join_size place (Tests place check) g n)
        by false = omega (arith, close_size place (Decides place check) (omega (arith)) g n)
      item_size place Break g n = omega (arith, apart_size place Breaks g n)
      item_size place Continue g n = omega (arith, apart_size place Continues g n)
      item_size place (Call v f xs) g n = omega (arith, apart_size place (Enters v f xs) g n)
      item_size place (Return x) g n = omega (arith, apart_size place (Gives x) g n)
      item_size place (Halt x) g n = omega (arith, apart_size place (Halts x) g n)

  module _ (by_a : Bool) (of : ℕ → Classes) (c : Classes) (cap : ℕ) where
    -- inside of a region
    inside_size : (code : Form) (g : List Part) (k : Actions) (n : ℕ) → load (inside_of by_a of c n (rounds c cap false code g) k) ≤ 2 * length g + (cost code + load k)
    inside_size Done g k n =
        closed_size by_a of c cap (inside_of by_a of c) (λ n place g last r k. refl) (λ n place jump r k. refl) g Done k (2 * 0 + load k) (λ n. omega (arith)) n
    inside_size (Do place item code) g k n =
        omega (arith, item_size by_a of c cap (inside_of by_a of c) (λ n place g last r k. refl) (λ n place jump r k. refl) (rounds c cap false code) k (cost code + load k) (λ g n. inside_size code g k n) place item g n)
    inside_size (If place t p q code) g k n =
        closed_size by_a of c cap (inside_of by_a of c) (λ n place g last r k. refl) (λ n place jump r k. refl) g (rounds c cap false (If place t p q code) []) k (cost (If place t p q code) + load k)
        (λ n. omega (arith, inside_size p [] Done 0, inside_size q [] Done 0, inside_size code [] k n)) n
    inside_size (Loop place p q code) g k n =
        closed_size by_a of c cap (inside_of by_a of c) (λ n place g last r k. refl) (λ n place jump r k. refl) g (rounds c cap false (Loop place p q code) []) k (cost (Loop place p q code) + load k)
        (λ n. omega (arith, inside_size p [] Done 0, inside_size q [] Done 0, inside_size code [] k n)) n

  -- a region, which is smaller by one without its message
  region_size : (by_a d : Bool) (of : ℕ → Classes) (c : Classes) (cap n : ℕ) (place : Place) (code : Form) → ((by_a : Bool) (k : Actions) → load (inside_of by_a of c n (rounds c cap false code []) k) + 1 ≤ cost code + load k) → 1 ≤ cost code → (k : Actions) → load (region_of by_a of c cap n place d code k) ≤ cost code + load k
  region_size true true of c cap n place code h some k = by (has_loop code) where
    by : (b : Bool) → load (inside_of true of c n (rounds c cap false code []) (when b (mark place n) (Tell (Number 0)) k)) ≤ cost code + load k
    by true = omega (arith, h true (Do (mark place n) (Tell (Number 0)) k))
    by false = omega (arith, h true k)
  region_size false true of c cap n place code h some k = by (has_loop code) where
    by : (b : Bool) → load (when b (mark place n) (Hear None) k) ≤ cost code + load k
    by true = omega (arith, some)
    by false = omega (arith)
  region_size true false of c cap n place code h some k = omega (arith)
  region_size false false of c cap n place code h some k = omega (arith, h false k)

  module _ (by_a : Bool) (of : ℕ → Classes) (c : Classes) (cap : ℕ) where
    -- code that may be a region, and then k
    sided_size : (o : Option Bool) (place : Place) (code : Form) (r both : Rounds) (k : Actions) (m : ℕ) → ((n : ℕ) (by_a : Bool) (k : Actions) → load (inside_of by_a of c n (rounds c cap false code []) k) + 1 ≤ cost code + load k) → 1 ≤ cost code
        → ((n : ℕ) → load (side_of by_a of c cap n r k) ≤ m) → ((n : ℕ) → load (side_of by_a of c cap n both k) ≤ cost code + m) → (n : ℕ) → load (side_of by_a of c cap n (one_sided o place code r both) k) ≤ cost code + m
    sided_size None place code r both k m h some a b n = b n
    sided_size (Some d) place code r both k m h some a b n =
        omega (arith, region_size by_a d of c cap n place code (h n) some (side_of by_a of c cap n r k), a n)

    side_size : (code : Form) (g : List Part) (k : Actions) (n : ℕ) → load (side_of by_a of c cap n (rounds c cap true code g) k) ≤ 2 * length g + (cost code + load k)
    side_size Done g k n =
        closed_size by_a of c cap (side_of by_a of c cap) (λ n place g last r k. refl) (λ n place jump r k. refl) g Done k (2 * 0 + load k) (λ n. omega (arith)) n
    side_size (Do place item code) g k n =
        omega (arith, item_size by_a of c cap (side_of by_a of c cap) (λ n place g last r k. refl) (λ n place jump r k. refl) (rounds c cap true code) k (cost code + load k) (λ g n. side_size code g k n) place item g n)
    side_size (If place t p q code) g k n =
        let rest = rounds c cap true code [] in
        let both : Rounds = If place (decision c t) (rounds c cap true p []) (rounds c cap true q []) rest in
        omega (
          arith,
          closed_size by_a of c cap (side_of by_a of c cap) (λ n place g last r k. refl) (λ n place jump r k. refl) g (one_sided (region true c (If place t p q Done)) place (If place t p q Done) rest both) k (cost (If place t p q Done) + (cost code + load k))
              (sided_size (region true c (If place t p q Done)) place (If place t p q Done) rest both k (cost code + load k)
              (λ n s k. omega (arith, inside_size s of c cap p [] Done 0, inside_size s of c cap q [] Done 0)) (omega (arith))
              (λ n. omega (arith, side_size code [] k n))
              (λ n. omega (arith, side_size p [] Done 0, side_size q [] Done 0, side_size code [] k n))) n,
        )
    side_size (Loop place p q code) g k n =
        let rest = rounds c cap true code [] in
        let both : Rounds = Loop place (rounds c cap true p []) (rounds c cap true q []) rest in
        omega (
          arith,
          closed_size by_a of c cap (side_of by_a of c cap) (λ n place g last r k. refl) (λ n place jump r k. refl) g (one_sided (region true c (Loop place p q Done)) place (Loop place p q Done) rest both) k (cost (Loop place p q Done) + (cost code + load k))
              (sided_size (region true c (Loop place p q Done)) place (Loop place p q Done) rest both k (cost code + load k)
              (λ n s k. omega (arith, inside_size s of c cap p [] Done 0, inside_size s of c cap q [] Done 0)) (omega (arith))
              (λ n. omega (arith, side_size code [] k n))
              (λ n. omega (arith, side_size p [] Done 0, side_size q [] Done 0, side_size code [] k n))) n,
        )

-- ---- with nothing more for a call, and with 3 more

size_is : (code : Actions) → load 0 code ≡ actions_size code
size_is Done = refl
size_is (Do mark (Enter v f xs) k) = omega (arith, size_is k)
size_is (Do mark x k) = omega (arith, size_is k)
size_is (If mark test p q k) = omega (arith, size_is p, size_is q, size_is k)
size_is (Loop mark body step k) = omega (arith, size_is body, size_is step, size_is k)

cost_is : (code : Form) → cost 0 code ≡ 2 * form_size code
cost_is Done = refl
cost_is (Do mark (Call v f xs) k) = omega (arith, cost_is k)
cost_is (Do mark x k) = omega (arith, cost_is k)
cost_is (If mark test p q k) = omega (arith, cost_is p, cost_is q, cost_is k)
cost_is (Loop mark body step k) = omega (arith, cost_is body, cost_is step, cost_is k)

load_is : (code : Actions) → load 3 code ≡ actions_size code + 3 * calls_in code
load_is Done = refl
load_is (Do mark (Enter v f xs) k) = omega (arith, load_is k)
load_is (Do mark x k) = omega (arith, load_is k)
load_is (If mark test p q k) = omega (arith, load_is p, load_is q, load_is k)
load_is (Loop mark body step k) = omega (arith, load_is body, load_is step, load_is k)

burden_is : (code : Form) → cost 3 code ≡ burden code
burden_is Done = refl
burden_is (Do mark (Call v f xs) k) = omega (arith, burden_is k)
burden_is (Do mark x k) = omega (arith, burden_is k)
burden_is (If mark test p q k) = omega (arith, burden_is p, burden_is q, burden_is k)
burden_is (Loop mark body step k) = omega (arith, burden_is body, burden_is step, burden_is k)

pub streams_are_small : StreamsAreSmall
streams_are_small by_a of c cap code =
    let h = size_is (stream_of by_a of c cap code) in
    let g = cost_is code in
    omega (arith, h, g, side_size 0 by_a of c cap code [] Done 0)

pub words_are_bounded : WordsAreBounded
words_are_bounded by_a of c cap code =
    let h = load_is (stream_of by_a of c cap code) in
    let g = burden_is code in
    omega (arith, h, g, side_size 3 by_a of c cap code [] Done 0)
