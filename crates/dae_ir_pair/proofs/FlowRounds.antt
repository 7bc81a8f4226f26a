-- What a stream reads was set before, where the form sets before it reads.
use Rattle.std.proofs.Common.{◌≡◌, ℕ, ◌+◌, Bool, true, false, not, ◌&&◌, ◌||◌, List, [], ◌∷◌, ◌++◌, Some, None, if◌then◌else◌, refl, ap, sym, ◌∙◌, subst}
use Rattle.dae_base.proofs.Laws.{and_true, not_true, no_true}
use Rattle.dae_base.specs.declared.Place.{Place}
use Rattle.dae_ir.specs.Code.{Done, Do, If, Loop, Each, every}
use Rattle.dae_ir.specs.Form.{Form}
use Rattle.dae_ir.specs.Classes.{VariableSet, Classes, has, has_test, has_check, is_by_a, ArgumentsKept, CallKept}
use Rattle.dae_ir.specs.Rounds.{Jump, Breaks, Continues, Enters, Gives, Halts, Rounds, Group, Alone, Joins, Closes, Separates, stand, decision, closed, place_of, is_full, placed, rounds, is_a_item, is_e_item, is_jump, stays, is_a_region, is_e_region, region, one_sided}
use Rattle.dae_ir.specs.Streams.{Actions, mark, when, group_of, set_of, arguments_in, jump_action, inside_of, has_loop, region_of, side_of, branch_of}
use Rattle.dae_ir.specs.SetFirst.{assured, IsSetFirst, with_set, all_set, AllRead, ItemReads, after_item, form_flow, AllGiven, stream_flow, BranchReads}
use Rattle.dae_ir_pair.specs.SetFirst.{StreamsSetFirst}
use Rattle.dae_ir_pair.proofs.Kept.{ItemKept, ConditionKept, IsClosed, is_closed}
use Rattle.dae_ir_pair.proofs.Groups.{PartKept, PartsKept, parts_more}
use Rattle.dae_ir_pair.proofs.Flow.{Keeps, has_both, test_both, keeps_with, keeps_without, Rest, after_part, after_parts, PartReads, PartsRead, after_more, read_more, LastReads, LastKept, group_rest}
use Rattle.dae_ir.specs.declared.form.Operand.{Operand}
use Rattle.dae_ir.specs.declared.form.Operand.TheVariants.{Number}
use Rattle.dae_ir.specs.declared.form.Test.{Test}
use Rattle.dae_ir.specs.declared.form.Check.{Check}
use Rattle.dae_ir.specs.declared.form.Check.TheVariants.{Place as Good, InBounds, Zero, Room, Frame, Abort}
use Rattle.dae_ir.specs.declared.form.Item.{Item}
use Rattle.dae_ir.specs.declared.form.Item.TheVariants.{Assign, Load, Store, Print, Expect, Break, Continue, Call, Return, Halt}
use Rattle.dae_ir.specs.declared.stream.Part.{Part}
use Rattle.dae_ir.specs.declared.stream.Part.TheVariants.{Sets, Loads, Tests}
use Rattle.dae_ir.specs.declared.stream.Last.{Last}
use Rattle.dae_ir.specs.declared.stream.Last.TheVariants.{Nothing, Stores, Prints, Decides}
use Rattle.dae_ir.specs.declared.stream.Mark.{Mark}
use Rattle.dae_ir.specs.declared.stream.Action.TheVariants.{Tell, Hear}
use Rattle.dae_ir.specs.declared.stream.Branch.{Branch}
use Rattle.dae_ir.specs.declared.stream.Branch.TheVariants.{Silent, Tells, Hears}

-- ---- branches and loops

both_so : (a b a' b' : Bool) → (a ≡ true → a' ≡ true) → (b ≡ true → b' ≡ true) → a && b ≡ true → a' && b' ≡ true
both_so a b a' b' f g h = let x = and_true a b h in rw (f x.0, g x.1) refl

if_rest : (s t d tp tq : VariableSet) (m : Mark) (b : Branch) (p q k : Actions) → ((d' : VariableSet) → Keeps s d d' → BranchReads d' b) → Rest s tp d p → Rest s tq d q → Rest s t (λ v. tp v && tq v) k → Rest s t d (If m b p q k)
if_rest s t d tp tq m b p q k reads hp hq hk d' keeps =
    let x = hp d' keeps in
    let y = hq d' keeps in
    let z = hk (λ v. assured stream_flow d' p v && assured stream_flow d' q v) (λ v h n. both_so (tp v) (tq v) (assured stream_flow d' p v) (assured stream_flow d' q v) (λ e. x.1 v e n) (λ e. y.1 v e n) h) in
    ((reads d' keeps, x.0, y.0, z.0), z.1)

loop_rest : (s t d tp tq : VariableSet) (m : Mark) (p q k : Actions) → Rest s tp d p → Rest s tq d q → Rest s t d k → Rest s t d (Loop m p q k)
loop_rest s t d tp tq m p q k hp hq hk d' keeps =
    let z = hk d' keeps in (((hp d' keeps).0, (hq d' keeps).0, z.0), z.1)

done_rest : (s t : VariableSet) → Rest s t t Done
done_rest s t d' keeps = (tt, keeps)

-- ---- what stands between groups

abbrev JumpReads : VariableSet → Jump → Type 0
JumpReads d Breaks = Unit {0}
JumpReads d Continues = Unit {0}
JumpReads d (Enters v f xs) = AllRead d xs
JumpReads d (Gives x) = has d x ≡ true
JumpReads d (Halts x) = has d x ≡ true

abbrev JumpKept : Bool → (ℕ → Classes) → Classes → Jump → Type 0
JumpKept by_a of c Breaks = Unit {0}
JumpKept by_a of c Continues = Unit {0}
JumpKept by_a of c (Enters v f xs) = CallKept (set_of by_a (of f)) (set_of by_a c) v xs
JumpKept by_a of c (Gives x) = set_of by_a c 0 ≡ true → has (set_of by_a c) x ≡ true
JumpKept by_a of c (Halts x) = has c.needs x ≡ true

abbrev after_jump : VariableSet → Jump → VariableSet
after_jump d Breaks = all_set
after_jump d Continues = all_set
after_jump d (Enters v f xs) = with_set v d
after_jump d (Gives x) = all_set
after_jump d (Halts x) = all_set

arguments_given : (s d d' : VariableSet) → Keeps s d d' → (callee : VariableSet) (k : ℕ) (xs : List Operand) → ArgumentsKept callee s k xs → AllRead d xs → AllGiven d' (arguments_in callee k xs)
arguments_given s d d' keeps callee k [] kept reads = tt
arguments_given s d d' keeps callee k (x ∷ xs) kept reads = by (callee k) refl (arguments_given s d d' keeps callee (k + 1) xs kept.1 reads.1) where
  by : (b : Bool) → callee k ≡ b → AllGiven d' (arguments_in callee (k + 1) xs) → AllGiven d' (if b then record { parameter = k; operand = x } ∷ arguments_in callee (k + 1) xs else arguments_in callee (k + 1) xs)
  by true e h = (has_both s d d' keeps x reads.0 (kept.0 e), h)
  by false e h = h

jump_rest : (by_a : Bool) (of : ℕ → Classes) (c : Classes) (t d : VariableSet) (m : Mark) (jump : Jump) (k : Actions) → JumpKept by_a of c jump → JumpReads d jump → Rest (set_of by_a c) t (after_jump d jump) k → Rest (set_of by_a c) t d (Do m (jump_action by_a of c jump) k)
jump_rest by_a of c t d m Breaks k kept reads r d' keeps = let z = r all_set (λ v h n. refl) in ((tt, z.0), z.1)
jump_rest by_a of c t d m Continues k kept reads r d' keeps = let z = r all_set (λ v h n. refl) in ((tt, z.0), z.1)
jump_rest by_a of c t d m (Enters v f xs) k kept reads r d' keeps = by (set_of by_a c v) refl where
  by : (b : Bool) → set_of by_a c v ≡ b → IsSetFirst stream_flow d' (Do m (jump_action by_a of c (Enters v f xs)) k) × Keeps (set_of by_a c) t (assured stream_flow d' (Do m (jump_action by_a of c (Enters v f xs)) k))
  by true e =
      let z = r (with_set v d') (keeps_with (set_of by_a c) d d' v keeps) in
      rw (e) ((arguments_given (set_of by_a c) d d' keeps (set_of by_a (of f)) 1 xs kept.arguments reads, z.0), z.1)
  by false e =
      let z = r d' (keeps_without (set_of by_a c) d d' v e keeps) in
      rw (e) ((arguments_given (set_of by_a c) d d' keeps (set_of by_a (of f)) 1 xs kept.arguments reads, z.0), z.1)
jump_rest by_a of c t d m (Gives x) k kept reads r d' keeps = by (set_of by_a c 0) refl (r all_set (λ v h n. refl)) where
  by : (b : Bool) → set_of by_a c 0 ≡ b → IsSetFirst stream_flow all_set k × Keeps (set_of by_a c) t (assured stream_flow all_set k) → IsSetFirst stream_flow d' (Do m (jump_action by_a of c (Gives x)) k) × Keeps (set_of by_a c) t (assured stream_flow d' (Do m (jump_action by_a of c (Gives x)) k))
  by true e z = rw (e) ((has_both (set_of by_a c) d d' keeps x reads (kept e), z.0), z.1)
  by false e z = rw (e) ((tt, z.0), z.1)
jump_rest true of c t d m (Halts x) k kept reads r d' keeps = let z = r all_set (λ v h n. refl) in ((tt, z.0), z.1)
jump_rest false of c t d m (Halts x) k kept reads r d' keeps =
    let z = r all_set (λ v h n. refl) in ((has_both c.needs d d' keeps x reads kept, z.0), z.1)

-- ---- rounds, where walk makes a side's actions of rounds behind n groups

module _ (by_a : Bool) (of : ℕ → Classes) (c : Classes) (cap : ℕ) (walk : ℕ → Rounds → Actions → Actions)
    (group : (n : ℕ) (place : Place) (g : List Part) (last : Last) (r : Rounds) (k : Actions) → walk n (Do place (Group g last) r) k ≡ group_of by_a c n g last (walk (n + 1) r k))
    (alone : (n : ℕ) (place : Place) (jump : Jump) (r : Rounds) (k : Actions) → walk n (Do place (Alone jump) r) k ≡ Do (mark place n) (jump_action by_a of c jump) (walk n r k))
    (t : VariableSet) (k : Actions) where
  abbrev From : VariableSet → Actions → Type 0
  From d code = Rest (set_of by_a c) t d code

  -- rounds behind which, and behind a group so far, all is set
  abbrev Behind : VariableSet → (List Part → Rounds) → Type 0
  Behind d r = (d0 : VariableSet) (g : List Part) → after_parts d0 g ≡ d → PartsKept c g → PartsRead d0 g → (n : ℕ) → From d0 (walk n (r g) k)

  closed_flow : (d0 d : VariableSet) (g : List Part) → after_parts d0 g ≡ d → PartsKept c g → PartsRead d0 g → (r : Rounds) → ((n : ℕ) → From d (walk n r k)) → (n : ℕ) → From d0 (walk n (closed g r) k)
  closed_flow d0 d [] e kept reads r h n = subst (λ z. From z (walk n r k)) (sym e) (h n)
  closed_flow d0 d (p ∷ g) e kept reads r h n =
      subst (λ z. From d0 z) (sym (group n (place_of p) (p ∷ g) Nothing r k))
      (group_rest c t by_a n (p ∷ g) Nothing d0 (walk (n + 1) r k) kept reads tt tt (subst (λ z. From z (walk (n + 1) r k)) (sym e) (h (n + 1))))

  module _ (d0 d : VariableSet) (g : List Part) (e : after_parts d0 g ≡ d) (kept : PartsKept c g) (reads : PartsRead d0 g) (r : List Part → Rounds) where
    join_flow : (place : Place) (p : Part) → PartKept c p → PartReads d p → Behind (after_part d p) r → (n : ℕ) → From d0 (walk n (placed c cap g place (Joins p) r) k)
    join_flow place p pk pr behind n = by (is_full c cap g p) where
      by : (b : Bool) → From d0 (walk n (if b then closed g (r (p ∷ [])) else r (g ++ p ∷ [])) k)
      by true = closed_flow d0 d g e kept reads (r (p ∷ [])) (behind d (p ∷ []) refl (pk, tt) (pr, tt)) n
      by false =
          behind d0 (g ++ p ∷ []) (after_more d0 g p ∙ ap (λ z. after_part z p) e) (parts_more c g p kept pk)
          (read_more d0 g p reads (subst (λ z. PartReads z p) (sym e) pr)) n

    close_flow : (place : Place) (last : Last) → LastKept c last → LastReads d last → Behind d r → (n : ℕ) → From d0 (walk n (placed c cap g place (Closes last) r) k)
    close_flow place last lk lr behind n =
        subst (λ z. From d0 z) (sym (group n place g last (r []) k))
        (group_rest c t by_a n g last d0 (walk (n + 1) (r []) k) kept reads lk (subst (λ z. LastReads z last) (sym e) lr)
        (subst (λ z. From z (walk (n + 1) (r []) k)) (sym e) (behind d [] refl tt tt (n + 1))))

    apart_flow : (place : Place) (jump : Jump) → JumpKept by_a of c jump → JumpReads d jump → Behind (after_jump d jump) r → (n : ℕ) → From d0 (walk n (placed c cap g place (Separates jump) r) k)
    apart_flow place jump jk jr behind n =
        closed_flow d0 d g e kept reads (Do place (Alone jump) (r [])) (λ n.
        subst (λ z. From d z) (sym (alone n place jump (r []) k))
        (jump_rest by_a of c t d (mark place n) jump (walk n (r []) k) jk jr (behind (after_jump d jump) [] refl tt tt n))) n

    call_kept : (v f : ℕ) (xs : List Operand) → CallKept (of f).s c.s v xs → CallKept (of f).needs c.needs v xs → (by_a : Bool) → CallKept (set_of by_a (of f)) (set_of by_a c) v xs
    call_kept v f xs a b true = a
    call_kept v f xs a b false = b

    gives_kept : (x : Operand) → (c.s 0 ≡ true → has c.s x ≡ true) → (c.needs 0 ≡ true → has c.needs x ≡ true) → (by_a : Bool) → set_of by_a c 0 ≡ true → has (set_of by_a c) x ≡ true
    gives_kept x a b true = a
    gives_kept x a b false = b

    item_flow : (place : Place) (item : Item) → ItemKept of c item → ItemReads d item → Behind (after_item d item) r → (n : ℕ) → From d0 (walk n (placed c cap g place (stand c place item) r) k)
    item_flow place (Assign v x) ik ir behind n = join_flow place (Sets place v x) ik ir behind n
    item_flow place (Load v kind x) ik ir behind n = join_flow place (Loads place v kind x) ik.0 ir behind n
    item_flow place (Store width x y) ik ir behind n = close_flow place (Stores place width x y) (ik.0, ik.1) ir behind n
    item_flow place (Print spelling x) ik ir behind n = close_flow place (Prints place spelling x) ik.1 ir behind n
    item_flow place (Expect check) ik ir behind n = by (has_check c.s check) refl where
      needed : (check : Check) → ItemKept of c (Expect check) → has_check c.s check ≡ false → has_check c.needs check ≡ true
      needed (Good width x) kept e = let h : has c.s x ≡ true = kept.0 in cc
      needed (InBounds x offset) kept e = let h : has c.s x ≡ true = kept.0 in cc
      needed (Zero x) kept e = kept.1 e
      needed (Room f) kept e = refl
      needed Frame kept e = refl
      needed Abort kept e = refl

      by : (b : Bool) → has_check c.s check ≡ b → From d0 (walk n (placed c cap g place (if b then Joins (Tests place check) else Closes (Decides place check)) r) k)
      by true h = join_flow place (Tests place check) h ir behind n
      by false h = close_flow place (Decides place check) (needed check ik h) ir behind n
    item_flow place Break ik ir behind n = apart_flow place Breaks tt tt behind n
    item_flow place Continue ik ir behind n = apart_flow place Continues tt tt behind n
    item_flow place (Call v f xs) ik ir behind n = apart_flow place (Enters v f xs) (call_kept v f xs ik.0 ik.1 by_a) ir behind n
    item_flow place (Return x) ik ir behind n = apart_flow place (Gives x) (gives_kept x ik.0 ik.1 by_a) ir behind n
    item_flow place (Halt x) ik ir behind n = apart_flow place (Halts x) ik.1 ir behind n

-- ---- inside of a region

module _ (by_a : Bool) (of : ℕ → Classes) (c : Classes) (cap : ℕ) where
  -- the side has the variables of each condition
  abbrev pub Decides' : Form → Type 0
  Decides' code = Each (λ (item : Item). Unit {0}) (λ t. has_test (set_of by_a c) t ≡ true) code

  pub inside_flow : (code : Form) (t d0 d : VariableSet) (g : List Part) → after_parts d0 g ≡ d → PartsKept c g → PartsRead d0 g → IsSetFirst form_flow d code → IsClosed of c code → Decides' code
      → (k : Actions) → Rest (set_of by_a c) t (assured form_flow d code) k → (n : ℕ) → Rest (set_of by_a c) t d0 (inside_of by_a of c n (rounds c cap false code g) k)
  inside_flow Done t d0 d g e kept reads first closed' ok k r n =
      closed_flow by_a of c cap (inside_of by_a of c) (λ n place g last r k. refl) (λ n place jump r k. refl) t k d0 d g e kept reads Done (λ n. r) n
  inside_flow (Do place item code) t d0 d g e kept reads first closed' ok k r n =
      item_flow by_a of c cap (inside_of by_a of c) (λ n place g last r k. refl) (λ n place jump r k. refl) t k d0 d g e kept reads (rounds c cap false code) place item closed'.0 first.0
      (λ d1 g e kept reads n. inside_flow code t d1 (after_item d item) g e kept reads first.1 closed'.1 ok.1 k r n) n
  inside_flow (If place q x y code) t d0 d g e kept reads first closed' ok k r n =
      closed_flow by_a of c cap (inside_of by_a of c) (λ n place g last r k. refl) (λ n place jump r k. refl) t k d0 d g e kept reads (rounds c cap false (If place q x y code) [])
      (λ n. if_rest (set_of by_a c) t d (assured form_flow d x) (assured form_flow d y) (mark place n) (Silent q) _ _ _
      (λ d' keeps. test_both (set_of by_a c) d d' keeps q first.0 ok.0)
      (inside_flow x (assured form_flow d x) d d [] refl tt tt first.1 closed'.1 ok.1 Done (done_rest (set_of by_a c) (assured form_flow d x)) 0)
      (inside_flow y (assured form_flow d y) d d [] refl tt tt first.2 closed'.2 ok.2 Done (done_rest (set_of by_a c) (assured form_flow d y)) 0)
      (inside_flow code t _ (λ v. assured form_flow d x v && assured form_flow d y v) [] refl tt tt first.3 closed'.3 ok.3 k r n)) n
  inside_flow (Loop place x y code) t d0 d g e kept reads first closed' ok k r n =
      closed_flow by_a of c cap (inside_of by_a of c) (λ n place g last r k. refl) (λ n place jump r k. refl) t k d0 d g e kept reads (rounds c cap false (Loop place x y code) [])
      (λ n. loop_rest (set_of by_a c) t d (assured form_flow d x) (assured form_flow d y) (mark place n) _ _ _
      (inside_flow x (assured form_flow d x) d d [] refl tt tt first.0 closed'.0 ok.0 Done (done_rest (set_of by_a c) (assured form_flow d x)) 0)
      (inside_flow y (assured form_flow d y) d d [] refl tt tt first.1 closed'.1 ok.1 Done (done_rest (set_of by_a c) (assured form_flow d y)) 0)
      (inside_flow code t d d [] refl tt tt first.2 closed'.2 ok.2 k r n)) n

a_decides : (of : ℕ → Classes) (c : Classes) (code : Form) → IsClosed of c code → every (is_a_item c) (is_by_a c.s) code ≡ true → Each (λ (item : Item). Unit {0}) (λ t. has_test c.s t ≡ true) code
a_decides of c Done kept is = tt
a_decides of c (Do place item code) kept is = (tt, a_decides of c code kept.1 (and_true (is_a_item c item) (every (is_a_item c) (is_by_a c.s) code) is).1)
a_decides of c (If place t p q code) kept is =
    let b = and_true (is_by_a c.s t) (every (is_a_item c) (is_by_a c.s) p && (every (is_a_item c) (is_by_a c.s) q && every (is_a_item c) (is_by_a c.s) code)) is in
    let b1 = and_true (every (is_a_item c) (is_by_a c.s) p) (every (is_a_item c) (is_by_a c.s) q && every (is_a_item c) (is_by_a c.s) code) b.1 in
    let b2 = and_true (every (is_a_item c) (is_by_a c.s) q) (every (is_a_item c) (is_by_a c.s) code) b1.1 in
    (b.0, a_decides of c p kept.1 b1.0, a_decides of c q kept.2 b2.0, a_decides of c code kept.3 b2.1)
a_decides of c (Loop place p q code) kept is =
    let b1 = and_true (every (is_a_item c) (is_by_a c.s) p) (every (is_a_item c) (is_by_a c.s) q && every (is_a_item c) (is_by_a c.s) code) is in
    let b2 = and_true (every (is_a_item c) (is_by_a c.s) q) (every (is_a_item c) (is_by_a c.s) code) b1.1 in
    (a_decides of c p kept.0 b1.0, a_decides of c q kept.1 b2.0, a_decides of c code kept.2 b2.1)

abbrev is_by_e : Classes → Test → Bool
is_by_e c t = not (is_by_a c.s t)

e_decides : (of : ℕ → Classes) (c : Classes) (code : Form) → IsClosed of c code → every (is_e_item c) (is_by_e c) code ≡ true → Each (λ (item : Item). Unit {0}) (λ t. has_test c.needs t ≡ true) code
e_decides of c Done kept is = tt
e_decides of c (Do place item code) kept is = (tt, e_decides of c code kept.1 (and_true (is_e_item c item) (every (is_e_item c) (is_by_e c) code) is).1)
e_decides of c (If place t p q code) kept is =
    let b = and_true (is_by_e c t) (every (is_e_item c) (is_by_e c) p && (every (is_e_item c) (is_by_e c) q && every (is_e_item c) (is_by_e c) code)) is in
    let b1 = and_true (every (is_e_item c) (is_by_e c) p) (every (is_e_item c) (is_by_e c) q && every (is_e_item c) (is_by_e c) code) b.1 in
    let b2 = and_true (every (is_e_item c) (is_by_e c) q) (every (is_e_item c) (is_by_e c) code) b1.1 in
    (kept.0 (not_true (has_test c.s t) b.0), e_decides of c p kept.1 b1.0, e_decides of c q kept.2 b2.0, e_decides of c code kept.3 b2.1)
e_decides of c (Loop place p q code) kept is =
    let b1 = and_true (every (is_e_item c) (is_by_e c) p) (every (is_e_item c) (is_by_e c) q && every (is_e_item c) (is_by_e c) code) is in
    let b2 = and_true (every (is_e_item c) (is_by_e c) q) (every (is_e_item c) (is_by_e c) code) b1.1 in
    (e_decides of c p kept.0 b1.0, e_decides of c q kept.1 b2.0, e_decides of c code kept.2 b2.1)

-- ---- a region sets nothing that the other side needs

module _ (s : VariableSet) (f : Item → Bool) (h : Test → Bool)
    (item_sets : (item : Item) → f item ≡ true → is_jump item ≡ false → (d : VariableSet) → Keeps s (after_item d item) d) where
  nothing_set : (code : Form) → every f h code ≡ true → stays false code ≡ true → (d : VariableSet) → Keeps s (assured form_flow d code) d
  nothing_set Done is st d v e n = e
  nothing_set (Do place item code) is st d v e n =
      let b = and_true (f item) (every f h code) is in
      let j = and_true (false || not (is_jump item)) (stays false code) st in
      item_sets item b.0 (not_true (is_jump item) j.0) d v (nothing_set code b.1 j.1 (after_item d item) v e n) n
  nothing_set (If place t p q code) is st d v e n =
      let b = and_true (h t) (every f h p && (every f h q && every f h code)) is in
      let b1 = and_true (every f h p) (every f h q && every f h code) b.1 in
      let b2 = and_true (every f h q) (every f h code) b1.1 in
      let j1 = and_true (stays false p) (stays false q && stays false code) st in
      let j2 = and_true (stays false q) (stays false code) j1.1 in
      let m = nothing_set code b2.1 j2.1 (λ v. assured form_flow d p v && assured form_flow d q v) v e n in
      nothing_set p b1.0 j1.0 d v (and_true (assured form_flow d p v) (assured form_flow d q v) m).0 n
  nothing_set (Loop place p q code) is st d v e n =
      let b1 = and_true (every f h p) (every f h q && every f h code) is in
      let b2 = and_true (every f h q) (every f h code) b1.1 in
      let j1 = and_true (stays true p) (stays true q && stays false code) st in
      let j2 = and_true (stays true q) (stays false code) j1.1 in
      nothing_set code b2.1 j2.1 d v e n

itself : (s d : VariableSet) → Keeps s d d
itself s d v e n = e

a_item_sets : (c : Classes) (item : Item) → is_a_item c item ≡ true → is_jump item ≡ false → (d : VariableSet) → Keeps c.needs (after_item d item) d
a_item_sets c (Assign v x) is j d = keeps_without c.needs d d v (not_true (c.needs v) is) (itself c.needs d)
a_item_sets c (Load v kind x) is j d = keeps_without c.needs d d v (not_true (c.needs v) is) (itself c.needs d)
a_item_sets c Break is j d = absurd (let e : true ≡ false = j in cc)
a_item_sets c Continue is j d = absurd (let e : true ≡ false = j in cc)
a_item_sets c (Store width x y) is j d = no_true is
a_item_sets c (Print spelling x) is j d = no_true is
a_item_sets c (Expect check) is j d = no_true is
a_item_sets c (Call v f xs) is j d = no_true is
a_item_sets c (Return x) is j d = no_true is
a_item_sets c (Halt x) is j d = no_true is

e_item_sets : (c : Classes) (item : Item) → is_e_item c item ≡ true → is_jump item ≡ false → (d : VariableSet) → Keeps c.s (after_item d item) d
e_item_sets c (Assign v x) is j d = keeps_without c.s d d v (not_true (c.s v) is) (itself c.s d)
e_item_sets c (Load v kind x) is j d = keeps_without c.s d d v (not_true (c.s v) (and_true (not (c.s v)) (not (c.needs v)) is).0) (itself c.s d)
e_item_sets c Break is j d = absurd (let e : true ≡ false = j in cc)
e_item_sets c Continue is j d = absurd (let e : true ≡ false = j in cc)
e_item_sets c (Print spelling x) is j d = itself c.s d
e_item_sets c (Store width x y) is j d = no_true is
e_item_sets c (Expect check) is j d = no_true is
e_item_sets c (Call v f xs) is j d = no_true is
e_item_sets c (Return x) is j d = no_true is
e_item_sets c (Halt x) is j d = no_true is

-- ---- outside of regions

tell_rest : (s t d : VariableSet) (b : Bool) (m : Mark) (k : Actions) → Rest s t d k → Rest s t d (when b m (Tell (Number 0)) k)
tell_rest s t d true m k r d' keeps = let z = r d' keeps in ((refl, z.0), z.1)
tell_rest s t d false m k r d' keeps = r d' keeps

hear_rest : (s t d : VariableSet) (b : Bool) (m : Mark) (k : Actions) → Rest s t d k → Rest s t d (when b m (Hear None) k)
hear_rest s t d true m k r d' keeps = let z = r d' keeps in ((tt, z.0), z.1)
hear_rest s t d false m k r d' keeps = r d' keeps

-- what was set stays so
weaker : (s t d e : VariableSet) (k : Actions) → Keeps s e d → Rest s t e k → Rest s t d k
weaker s t d e k w r d' keeps = r d' (λ v h n. keeps v (w v h n) n)

told_reads : (by_a : Bool) (of : ℕ → Classes) (c : Classes) (t : Test) → ConditionKept c t → (d d' : VariableSet) → Keeps (set_of by_a c) d d' → has_test d t ≡ true → BranchReads d' (branch_of by_a (decision c t))
told_reads true of c t kept d d' keeps reads = by (has_test c.s t) refl where
  by : (b : Bool) → has_test c.s t ≡ b → BranchReads d' (if b then Tells t else Hears)
  by true e = test_both c.s d d' keeps t reads e
  by false e = tt
told_reads false of c t kept d d' keeps reads = by (has_test c.s t) refl where
  by : (b : Bool) → has_test c.s t ≡ b → BranchReads d' (if b then Hears else Tells t)
  by true e = tt
  by false e = test_both c.needs d d' keeps t reads (kept e)

module _ (of : ℕ → Classes) (c : Classes) (cap : ℕ) (code : Form) (kept : IsClosed of c code) (d : VariableSet) (first : IsSetFirst form_flow d code) where
  -- a region of A, and one of E
  a_region_flow : every (is_a_item c) (is_by_a c.s) code && stays false code ≡ true → (by_a : Bool) (t : VariableSet) (n : ℕ) (place : Place) (k : Actions) → Rest (set_of by_a c) t (assured form_flow d code) k → Rest (set_of by_a c) t d (region_of by_a of c cap n place true code k)
  a_region_flow is true t n place k r =
      let b = and_true (every (is_a_item c) (is_by_a c.s) code) (stays false code) is in
      inside_flow true of c cap code t d d [] refl tt tt first kept (a_decides of c code kept b.0) (when (has_loop code) (mark place n) (Tell (Number 0)) k)
      (tell_rest c.s t (assured form_flow d code) (has_loop code) (mark place n) k r) n
  a_region_flow is false t n place k r =
      let b = and_true (every (is_a_item c) (is_by_a c.s) code) (stays false code) is in
      hear_rest c.needs t d (has_loop code) (mark place n) k
      (weaker c.needs t d (assured form_flow d code) k (nothing_set c.needs (is_a_item c) (is_by_a c.s) (a_item_sets c) code b.0 b.1 d) r)

  e_region_flow : every (is_e_item c) (is_by_e c) code && stays false code ≡ true → (by_a : Bool) (t : VariableSet) (n : ℕ) (place : Place) (k : Actions) → Rest (set_of by_a c) t (assured form_flow d code) k → Rest (set_of by_a c) t d (region_of by_a of c cap n place false code k)
  e_region_flow is true t n place k r =
      let b = and_true (every (is_e_item c) (is_by_e c) code) (stays false code) is in
      weaker c.s t d (assured form_flow d code) k (nothing_set c.s (is_e_item c) (is_by_e c) (e_item_sets c) code b.0 b.1 d) r
  e_region_flow is false t n place k r =
      let b = and_true (every (is_e_item c) (is_by_e c) code) (stays false code) is in
      inside_flow false of c cap code t d d [] refl tt tt first kept (e_decides of c code kept b.0) k r n

  -- code that may be a region, and then k
  sided_flow : (by_a : Bool) (t : VariableSet) (place : Place) (r both : Rounds) (k : Actions) → ((n : ℕ) → Rest (set_of by_a c) t (assured form_flow d code) (side_of by_a of c cap n r k)) → ((n : ℕ) → Rest (set_of by_a c) t d (side_of by_a of c cap n both k))
      → (n : ℕ) → Rest (set_of by_a c) t d (side_of by_a of c cap n (one_sided (region true c code) place code r both) k)
  sided_flow by_a t place r both k h b n = by (is_a_region c code) refl (is_e_region c code) refl where
    by : (x : Bool) → is_a_region c code ≡ x → (y : Bool) → is_e_region c code ≡ y → Rest (set_of by_a c) t d (side_of by_a of c cap n (one_sided (if x then Some true else (if y then Some false else None)) place code r both) k)
    by true e y f = a_region_flow e by_a t n place (side_of by_a of c cap n r k) (h n)
    by false e true f = e_region_flow f by_a t n place (side_of by_a of c cap n r k) (h n)
    by false e false f = b n

module _ (by_a : Bool) (of : ℕ → Classes) (c : Classes) (cap : ℕ) where
  side_flow : (code : Form) (t d0 d : VariableSet) (g : List Part) → after_parts d0 g ≡ d → PartsKept c g → PartsRead d0 g → IsSetFirst form_flow d code → IsClosed of c code
      → (k : Actions) → Rest (set_of by_a c) t (assured form_flow d code) k → (n : ℕ) → Rest (set_of by_a c) t d0 (side_of by_a of c cap n (rounds c cap true code g) k)
  side_flow Done t d0 d g e kept reads first closed' k r n =
      closed_flow by_a of c cap (side_of by_a of c cap) (λ n place g last r k. refl) (λ n place jump r k. refl) t k d0 d g e kept reads Done (λ n. r) n
  side_flow (Do place item code) t d0 d g e kept reads first closed' k r n =
      item_flow by_a of c cap (side_of by_a of c cap) (λ n place g last r k. refl) (λ n place jump r k. refl) t k d0 d g e kept reads (rounds c cap true code) place item closed'.0 first.0
      (λ d1 g e kept reads n. side_flow code t d1 (after_item d item) g e kept reads first.1 closed'.1 k r n) n
  side_flow (If place q x y code) t d0 d g e kept reads first closed' k r n =
      closed_flow by_a of c cap (side_of by_a of c cap) (λ n place g last r k. refl) (λ n place jump r k. refl) t k d0 d g e kept reads
      (one_sided (region true c (If place q x y Done)) place (If place q x y Done) (rounds c cap true code []) (If place (decision c q) (rounds c cap true x []) (rounds c cap true y []) (rounds c cap true code [])))
      (sided_flow of c cap (If place q x y Done) (closed'.0, closed'.1, closed'.2, tt) d (first.0, first.1, first.2, tt) by_a t place (rounds c cap true code []) (If place (decision c q) (rounds c cap true x []) (rounds c cap true y []) (rounds c cap true code [])) k
      (λ n. side_flow code t (λ v. assured form_flow d x v && assured form_flow d y v) (λ v. assured form_flow d x v && assured form_flow d y v) [] refl tt tt first.3 closed'.3 k r n)
      (λ n. if_rest (set_of by_a c) t d (assured form_flow d x) (assured form_flow d y) (mark place n) (branch_of by_a (decision c q)) _ _ _
      (λ d' keeps. told_reads by_a of c q closed'.0 d d' keeps first.0)
      (side_flow x (assured form_flow d x) d d [] refl tt tt first.1 closed'.1 Done (done_rest (set_of by_a c) (assured form_flow d x)) 0)
      (side_flow y (assured form_flow d y) d d [] refl tt tt first.2 closed'.2 Done (done_rest (set_of by_a c) (assured form_flow d y)) 0)
      (side_flow code t (λ v. assured form_flow d x v && assured form_flow d y v) (λ v. assured form_flow d x v && assured form_flow d y v) [] refl tt tt first.3 closed'.3 k r n))) n
  side_flow (Loop place x y code) t d0 d g e kept reads first closed' k r n =
      closed_flow by_a of c cap (side_of by_a of c cap) (λ n place g last r k. refl) (λ n place jump r k. refl) t k d0 d g e kept reads
      (one_sided (region true c (Loop place x y Done)) place (Loop place x y Done) (rounds c cap true code []) (Loop place (rounds c cap true x []) (rounds c cap true y []) (rounds c cap true code [])))
      (sided_flow of c cap (Loop place x y Done) (closed'.0, closed'.1, tt) d (first.0, first.1, tt) by_a t place (rounds c cap true code []) (Loop place (rounds c cap true x []) (rounds c cap true y []) (rounds c cap true code [])) k
      (λ n. side_flow code t d d [] refl tt tt first.2 closed'.2 k r n)
      (λ n. loop_rest (set_of by_a c) t d (assured form_flow d x) (assured form_flow d y) (mark place n) _ _ _
      (side_flow x (assured form_flow d x) d d [] refl tt tt first.0 closed'.0 Done (done_rest (set_of by_a c) (assured form_flow d x)) 0)
      (side_flow y (assured form_flow d y) d d [] refl tt tt first.1 closed'.1 Done (done_rest (set_of by_a c) (assured form_flow d y)) 0)
      (side_flow code t d d [] refl tt tt first.2 closed'.2 k r n))) n

pub streams_set_first : StreamsSetFirst
streams_set_first p of kept by_a cap f d first =
    (side_flow by_a of (of f) cap (p.body f) (assured form_flow d (p.body f)) d d [] refl tt tt first (is_closed p of kept f) Done (done_rest (set_of by_a (of f)) (assured form_flow d (p.body f))) 0
    (λ v. d v && set_of by_a (of f) v) (λ v h n. rw (h, n) refl)).0
