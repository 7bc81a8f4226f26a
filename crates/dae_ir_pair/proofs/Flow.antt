-- What a group reads was set before, on each side, where the form's statements set before they read.
use Rattle.std.proofs.Common.{◌≡◌, ℕ, Bool, true, false, not, ◌&&◌, ◌||◌, nat_eq, List, [], ◌∷◌, ◌++◌, refl, arith, Option}
use Rattle.std.proofs.lemmas.Bool.Decides.{nat_tests}
use Rattle.dae_base.proofs.Laws.{and_true, same_number}
use Rattle.dae_ir.specs.Classes.{VariableSet, Classes, has, has_value, has_test, has_check}
use Rattle.dae_ir.specs.Streams.{Actions, mark, when, a_part, e_part, parts, message, gives_address, hears_check, e_last, group_of, set_of, only_failure}
use Rattle.dae_ir.specs.SetFirst.{assured, IsSetFirst, with_set, stream_flow}
use Rattle.dae_ir_pair.proofs.Groups.{PartKept, PartsKept}
use Rattle.dae_ir.specs.declared.form.Operand.{Operand}
use Rattle.dae_ir.specs.declared.form.Operand.TheVariants.{Variable, Number}
use Rattle.dae_ir.specs.declared.form.Value.{Value}
use Rattle.dae_ir.specs.declared.form.Value.TheVariants.{Same, Extended, Binary, Holds, FrameAddress}
use Rattle.dae_ir.specs.declared.form.Test.{Test}
use Rattle.dae_ir.specs.declared.form.Check.{Check}
use Rattle.dae_ir.specs.declared.form.Check.TheVariants.{Place as Good, InBounds, Zero, Room, Frame, Abort}
use Rattle.dae_ir.specs.declared.stream.Part.{Part}
use Rattle.dae_ir.specs.declared.stream.Part.TheVariants.{Sets, Loads, Tests}
use Rattle.dae_ir.specs.declared.stream.Last.{Last}
use Rattle.dae_ir.specs.declared.stream.Last.TheVariants.{Nothing, Stores, Prints, Decides}
use Rattle.dae_ir.specs.declared.stream.Action.TheVariants.{Set, Issue, Own, Receive, Offer, Accept, Tell, Hear}
use Rattle.dae_ir.specs.declared.stream.Failure.{Failure}

-- of what was set, a side has set what it needs
abbrev pub Keeps : VariableSet → VariableSet → VariableSet → Type 0
Keeps s d d' = (v : ℕ) → d v ≡ true → s v ≡ true → d' v ≡ true

module _ (s d d' : VariableSet) (keeps : Keeps s d d') where
  pub has_both : (x : Operand) → has d x ≡ true → has s x ≡ true → has d' x ≡ true
  has_both (Variable v) h k = keeps v h k
  has_both (Number n) h k = refl

  pub test_both : (t : Test) → has_test d t ≡ true → has_test s t ≡ true → has_test d' t ≡ true
  test_both t h k =
      let a = and_true (has d t.left) (has d t.right) h in
      let b = and_true (has s t.left) (has s t.right) k in
      rw (has_both t.left a.0 b.0, has_both t.right a.1 b.1) refl

  pub value_both : (x : Value) → has_value d x ≡ true → has_value s x ≡ true → has_value d' x ≡ true
  value_both (Same x) h k = has_both x h k
  value_both (Extended kind x) h k = has_both x h k
  value_both (Binary operator x y) h k =
      let a = and_true (has d x) (has d y) h in
      let b = and_true (has s x) (has s y) k in
      rw (has_both x a.0 b.0, has_both y a.1 b.1) refl
  value_both (Holds t) h k = test_both t h k
  value_both (FrameAddress offset) h k = refl

  pub check_both : (x : Check) → has_check d x ≡ true → has_check s x ≡ true → has_check d' x ≡ true
  check_both (Good width x) h k = has_both x h k
  check_both (InBounds x offset) h k = has_both x h k
  check_both (Zero x) h k = has_both x h k
  check_both (Room f) h k = refl
  check_both Frame h k = refl
  check_both Abort h k = refl

pub or_true : (a b b' : Bool) → (b ≡ true → b' ≡ true) → a || b ≡ true → a || b' ≡ true
or_true true b b' f h = refl
or_true false b b' f h = f h

pub keeps_with : (s d d' : VariableSet) (v : ℕ) → Keeps s d d' → Keeps s (with_set v d) (with_set v d')
keeps_with s d d' v k u h m = or_true (nat_eq u v) (d u) (d' u) (λ e. k u e m) h

-- what the side doesn't need
pub keeps_without : (s d d' : VariableSet) (v : ℕ) → s v ≡ false → Keeps s d d' → Keeps s (with_set v d) d'
keeps_without s d d' v out k u h m = by (nat_eq u v) refl h where
  by : (b : Bool) → nat_eq u v ≡ b → b || d u ≡ true → d' u ≡ true
  by true e h = let same : u ≡ v = grind (arith, nat_tests) in let f : s u ≡ false = rw (same) out in cc
  by false e h = k u h m

set_now : (v : ℕ) (d : VariableSet) → with_set v d v ≡ true
set_now v d = rw (same_number v) refl

-- from each set that keeps d, the actions read what is set, and leave set what t says
abbrev pub Rest : VariableSet → VariableSet → VariableSet → Actions → Type 0
Rest s t d k = (d' : VariableSet) → Keeps s d d' → IsSetFirst stream_flow d' k × Keeps s t (assured stream_flow d' k)

-- ---- a group's parts

abbrev pub after_part : VariableSet → Part → VariableSet
after_part d (Sets place v x) = with_set v d
after_part d (Loads place v kind x) = with_set v d
after_part d (Tests place check) = d

abbrev pub after_parts : VariableSet → List Part → VariableSet
after_parts d [] = d
after_parts d (p ∷ g) = after_parts (after_part d p) g

abbrev pub PartReads : VariableSet → Part → Type 0
PartReads d (Sets place v x) = has_value d x ≡ true
PartReads d (Loads place v kind x) = has d x ≡ true
PartReads d (Tests place check) = has_check d check ≡ true

abbrev pub PartsRead : VariableSet → List Part → Type 0
PartsRead d [] = Unit {0}
PartsRead d (p ∷ g) = PartReads d p × PartsRead (after_part d p) g

pub after_more : (d : VariableSet) (g : List Part) (p : Part) → after_parts d (g ++ p ∷ []) ≡ after_part (after_parts d g) p
after_more d [] p = refl
after_more d (q ∷ g) p = after_more (after_part d q) g p

pub read_more : (d : VariableSet) (g : List Part) (p : Part) → PartsRead d g → PartReads (after_parts d g) p → PartsRead d (g ++ p ∷ [])
read_more d [] p h k = (k, tt)
read_more d (q ∷ g) p h k = (h.0, read_more (after_part d q) g p h.1 k)

module _ (c : Classes) (t : VariableSet) where
  a_part_rest : (n : ℕ) (p : Part) (d : VariableSet) (k : Actions) → PartKept c p → PartReads d p → Rest c.s t (after_part d p) k → Rest c.s t d (a_part c n p k)
  a_part_rest n (Sets place v x) d k kept reads r d' keeps = by (c.s v) refl (c.needs v) where
    by : (s : Bool) → c.s v ≡ s → (e : Bool) → IsSetFirst stream_flow d' (when s (mark place n) (Set v x) (when (s && e) (mark place n) (Offer v) k)) × Keeps c.s t (assured stream_flow d' (when s (mark place n) (Set v x) (when (s && e) (mark place n) (Offer v) k)))
    by true is true =
        let z = r (with_set v d') (keeps_with c.s d d' v keeps) in
        ((value_both c.s d d' keeps x reads (kept.0 is), (set_now v d', z.0)), z.1)
    by true is false =
        let z = r (with_set v d') (keeps_with c.s d d' v keeps) in
        ((value_both c.s d d' keeps x reads (kept.0 is), z.0), z.1)
    by false is e = r d' (keeps_without c.s d d' v is keeps)
  a_part_rest n (Loads place v kind x) d k kept reads r d' keeps = by (c.s v) refl (c.needs v) where
    by : (s : Bool) → c.s v ≡ s → (e : Bool) → IsSetFirst stream_flow d' (when (not s && e) (mark place n) (Issue kind x) (when s (mark place n) (Own v kind x) (when (s && e) (mark place n) (Offer v) k))) × Keeps c.s t (assured stream_flow d' (when (not s && e) (mark place n) (Issue kind x) (when s (mark place n) (Own v kind x) (when (s && e) (mark place n) (Offer v) k))))
    by true is true =
        let z = r (with_set v d') (keeps_with c.s d d' v keeps) in
        ((has_both c.s d d' keeps x reads kept, (set_now v d', z.0)), z.1)
    by true is false =
        let z = r (with_set v d') (keeps_with c.s d d' v keeps) in
        ((has_both c.s d d' keeps x reads kept, z.0), z.1)
    by false is true = let z = r d' (keeps_without c.s d d' v is keeps) in ((has_both c.s d d' keeps x reads kept, z.0), z.1)
    by false is false = r d' (keeps_without c.s d d' v is keeps)
  a_part_rest n (Tests place check) d k kept reads r d' keeps =
      let z = r d' keeps in ((check_both c.s d d' keeps check reads kept, z.0), z.1)

  e_part_rest : (n : ℕ) (p : Part) (d : VariableSet) (k : Actions) → PartKept c p → PartReads d p → Rest c.needs t (after_part d p) k → Rest c.needs t d (e_part c n p k)
  e_part_rest n (Sets place v x) d k kept reads r d' keeps = by (c.s v) refl (c.needs v) refl where
    by : (s : Bool) → c.s v ≡ s → (e : Bool) → c.needs v ≡ e → IsSetFirst stream_flow d' (when (s && e) (mark place n) (Accept v) (when (not s && e) (mark place n) (Set v x) k)) × Keeps c.needs t (assured stream_flow d' (when (s && e) (mark place n) (Accept v) (when (not s && e) (mark place n) (Set v x) k)))
    by true is true needed = let z = r (with_set v d') (keeps_with c.needs d d' v keeps) in ((tt, z.0), z.1)
    by false is true needed =
        let z = r (with_set v d') (keeps_with c.needs d d' v keeps) in
        ((value_both c.needs d d' keeps x reads (kept.1 is needed), z.0), z.1)
    by true is false needed = r d' (keeps_without c.needs d d' v needed keeps)
    by false is false needed = r d' (keeps_without c.needs d d' v needed keeps)
  e_part_rest n (Loads place v kind x) d k kept reads r d' keeps = by (c.s v) (c.needs v) refl where
    by : (s e : Bool) → c.needs v ≡ e → IsSetFirst stream_flow d' (when (s && e) (mark place n) (Accept v) (when (not s && e) (mark place n) (Receive v) k)) × Keeps c.needs t (assured stream_flow d' (when (s && e) (mark place n) (Accept v) (when (not s && e) (mark place n) (Receive v) k)))
    by true true needed = let z = r (with_set v d') (keeps_with c.needs d d' v keeps) in ((tt, z.0), z.1)
    by false true needed = let z = r (with_set v d') (keeps_with c.needs d d' v keeps) in ((tt, z.0), z.1)
    by true false needed = r d' (keeps_without c.needs d d' v needed keeps)
    by false false needed = r d' (keeps_without c.needs d d' v needed keeps)
  e_part_rest n (Tests place check) d k kept reads r d' keeps = r d' keeps

  parts_rest : (s : VariableSet) (f : Part → Actions → Actions) → ((p : Part) (d : VariableSet) (k : Actions) → PartKept c p → PartReads d p → Rest s t (after_part d p) k → Rest s t d (f p k))
      → (g : List Part) (d : VariableSet) (k : Actions) → PartsKept c g → PartsRead d g → Rest s t (after_parts d g) k → Rest s t d (parts f g k)
  parts_rest s f h [] d k kept reads r = r
  parts_rest s f h (p ∷ g) d k kept reads r = h p d (parts f g k) kept.0 reads.0 (parts_rest s f h g (after_part d p) k kept.1 reads.1 r)

  tell_rest : (s d : VariableSet) (n : ℕ) (g : List Part) (k : Actions) → Rest s t d k → Rest s t d (message n (Tell (Number 0)) g k)
  tell_rest s d n [] k r = r
  tell_rest s d n (Sets place v x ∷ g) k r = tell_rest s d n g k r
  tell_rest s d n (Loads place v kind x ∷ g) k r = tell_rest s d n g k r
  tell_rest s d n (Tests place check ∷ g) k r = λ d' keeps. let z = r d' keeps in ((refl, z.0), z.1)

  hear_rest : (only : Option Failure) (s d : VariableSet) (n : ℕ) (g : List Part) (k : Actions) → Rest s t d k → Rest s t d (message n (Hear only) g k)
  hear_rest only s d n [] k r = r
  hear_rest only s d n (Sets place v x ∷ g) k r = hear_rest only s d n g k r
  hear_rest only s d n (Loads place v kind x ∷ g) k r = hear_rest only s d n g k r
  hear_rest only s d n (Tests place check ∷ g) k r = λ d' keeps. let z = r d' keeps in ((tt, z.0), z.1)

-- ---- what closes a group

abbrev pub LastReads : VariableSet → Last → Type 0
LastReads d Nothing = Unit {0}
LastReads d (Stores place width x y) = (has d x ≡ true) × (has d y ≡ true)
LastReads d (Prints place spelling x) = has d x ≡ true
LastReads d (Decides place check) = has_check d check ≡ true

abbrev pub LastKept : Classes → Last → Type 0
LastKept c Nothing = Unit {0}
LastKept c (Stores place width x y) = (has c.s x ≡ true) × (has c.needs y ≡ true)
LastKept c (Prints place spelling x) = has c.needs x ≡ true
LastKept c (Decides place check) = has_check c.needs check ≡ true

module _ (c : Classes) (t : VariableSet) where
  address_rest : (n : ℕ) (last : Last) (d : VariableSet) (k : Actions) → LastKept c last → LastReads d last → Rest c.s t d k → Rest c.s t d (gives_address n last k)
  address_rest n Nothing d k kept reads r = r
  address_rest n (Stores place width x y) d k kept reads r = λ d' keeps. let z = r d' keeps in ((has_both c.s d d' keeps x reads.0 kept.0, z.0), z.1)
  address_rest n (Prints place spelling x) d k kept reads r = r
  address_rest n (Decides place check) d k kept reads r = r

  hears_rest : (n : ℕ) (last : Last) (d : VariableSet) (k : Actions) → Rest c.s t d k → Rest c.s t d (hears_check n last k)
  hears_rest n Nothing d k r = r
  hears_rest n (Stores place width x y) d k r = r
  hears_rest n (Prints place spelling x) d k r = r
  hears_rest n (Decides place check) d k r = λ d' keeps. let z = r d' keeps in ((tt, z.0), z.1)

  e_last_rest : (n : ℕ) (last : Last) (d : VariableSet) (k : Actions) → LastKept c last → LastReads d last → Rest c.needs t d k → Rest c.needs t d (e_last n last k)
  e_last_rest n Nothing d k kept reads r = r
  e_last_rest n (Stores place width x y) d k kept reads r = λ d' keeps. let z = r d' keeps in ((has_both c.needs d d' keeps y reads.1 kept.1, z.0), z.1)
  e_last_rest n (Prints place spelling x) d k kept reads r = λ d' keeps. let z = r d' keeps in ((has_both c.needs d d' keeps x reads kept, z.0), z.1)
  e_last_rest n (Decides place check) d k kept reads r = λ d' keeps. let z = r d' keeps in ((check_both c.needs d d' keeps check reads kept, (refl, z.0)), z.1)

  pub group_rest : (by_a : Bool) (n : ℕ) (g : List Part) (last : Last) (d : VariableSet) (k : Actions) → PartsKept c g → PartsRead d g → LastKept c last → LastReads (after_parts d g) last
      → Rest (set_of by_a c) t (after_parts d g) k → Rest (set_of by_a c) t d (group_of by_a c n g last k)
  group_rest true n g last d k kept reads last_kept last_reads r =
      let d1 = after_parts d g in
      let h = hears_check n last k in
      let m = message n (Tell (Number 0)) g h in
      parts_rest c t c.s (a_part c n) (a_part_rest c t n) g d (gives_address n last m) kept reads
      (address_rest n last d1 m last_kept last_reads (tell_rest c t c.s d1 n g h (hears_rest n last d1 k r)))
  group_rest false n g last d k kept reads last_kept last_reads r =
      let l = e_last n last k in
      hear_rest c t (only_failure g) c.needs d n g (parts (e_part c n) g l)
      (parts_rest c t c.needs (e_part c n) (e_part_rest c t n) g d l kept reads (e_last_rest n last (after_parts d g) k last_kept last_reads r))
