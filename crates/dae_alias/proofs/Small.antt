-- How large a form is whose loads are reused.
use Rattle.std.proofs.Common.{◌≡◌, ◌⊎◌, ℕ, suc, ◌+◌, ◌*◌, ◌<◌, ◌≤◌, Bool, true, false, ◌&&◌, ◌||◌, nat_eq, if◌then◌else◌, List, [], ◌∷◌, Option, Some, None, inl, inr, refl, ap, sym, ◌∙◌, subst, arith}
use Rattle.std.proofs.lemmas.Bool.{eqb-true, or_left, or_right}
use Rattle.dae_base.specs.declared.Place.{Place}
use Rattle.dae_base.specs.declared.Width.{Width}
use Rattle.dae_base.specs.declared.LoadKind.{LoadKind}
use Rattle.dae_base.specs.Words.{width_of}
use Rattle.dae_ir.specs.Code.{Done, Do, If, Loop}
use Rattle.dae_ir.specs.Form.{Form}
use Rattle.dae_ir.specs.Sizes.{tally, form_size}
use Rattle.dae_ir.specs.declared.form.Operand.{Operand}
use Rattle.dae_ir.specs.declared.form.Test.{Test}
use Rattle.dae_ir.specs.declared.form.Item.{Item}
use Rattle.dae_ir.specs.declared.form.Item.TheVariants.{Assign, Load, Store, Print, Expect, Break, Continue, Call, Return, Halt}
use Rattle.dae_alias.specs.declared.addresses.SymAddr.{SymAddr}
use Rattle.dae_alias.specs.Addresses.{same_place, same_kind, are_apart}
use Rattle.dae_alias.specs.Stretches.{KnownInStretch, nothing, symbol, after}
use Rattle.dae_alias.specs.declared.held.Held.{Held}
use Rattle.dae_alias.specs.Reuse.{Holders, bit, held_in, still_held, copy, loads_in, known_behind, held_behind, number_of, turned, reused, repeats, is_repeated}
use Rattle.dae_alias.specs.Laws.{sum_from, one, own_variables, HasOnlyRepeated, ReuseStaysSmall}
use Rattle.dae_alias.proofs.Facts.{if_some, own_number}
use Rattle.dae_alias.proofs.Slices.{range_one, no_more, range_both, range_single, range_within, range_zero, sum_two}

module _ (h : Holders) where
  abbrev owned : ℕ → ℕ
  owned i = one (h i)

  -- ---- the size

  load_size : (place : Place) (v : ℕ) (kind : LoadKind) (x : Operand) (k : Form) (l i n r : ℕ) (o : Option Held) (holder : Option ℕ) → h i ≡ holder → (o ≡ None → i ≡ l) → form_size k ≤ n + r
      → form_size (turned place v kind x o holder k) ≤ (1 + n) + (owned l + r)
  load_size place v kind x k l i n r None None it first s = omega (arith, s)
  load_size place v kind x k l i n r (Some g) None it first s = omega (arith, s)
  load_size place v kind x k l i n r (Some g) (Some u) it first s = omega (arith, s)
  load_size place v kind x k l i n r None (Some u) it first s = let e : one (h l) ≡ 1 = ap one (subst (λ (z : ℕ). h z ≡ Some u) (first refl) it) in omega (arith, s, e)

  keeps_size : (w a n l m : ℕ) → a ≤ n + sum_from owned l m → w + a ≤ (w + n) + sum_from owned l (0 + m)
  keeps_size w a n l m s = rw (no_more m) (omega (arith, s))

  joins_size : (a a' a'' n n' n'' l m m' m'' : ℕ) → a ≤ n + sum_from owned l m → a' ≤ n' + sum_from owned (l + m) m' → a'' ≤ n'' + sum_from owned (l + m + m') m''
      → 1 + (a + (a' + a'')) ≤ (1 + (n + (n' + n''))) + sum_from owned l (m + (m' + m''))
  joins_size a a' a'' n n' n'' l m m' m'' s s' s'' = rw (range_both owned l m (m' + m''), range_both owned (l + m) m' m'') (omega (arith, s, s', s''))

  code_size : (code : Form) (s : KnownInStretch) (held : List Held) (l : ℕ) → form_size (reused h s held l code) ≤ form_size code + sum_from owned l (loads_in code)
  code_size Done s held l = omega arith
  code_size (Do place (Assign v x) k) s held l = keeps_size 1 _ _ l (loads_in k) (code_size k _ held l)
  code_size (Do place (Load v kind x) k) s held l =
      rw (range_one owned l (loads_in k))
      (load_size place v kind x _ l _ (form_size k) (sum_from owned (suc l) (loads_in k)) (held_in held kind (symbol s x)) _ refl (own_number (held_in held kind (symbol s x)) l) (code_size k _ _ (suc l)))
  code_size (Do place (Store width x y) k) s held l = keeps_size 1 _ _ l (loads_in k) (code_size k s _ l)
  code_size (Do place (Expect check) k) s held l = keeps_size 1 _ _ l (loads_in k) (code_size k s held l)
  code_size (Do place (Print spelling x) k) s held l = keeps_size 1 _ _ l (loads_in k) (code_size k nothing [] l)
  code_size (Do place Break k) s held l = keeps_size 1 _ _ l (loads_in k) (code_size k nothing [] l)
  code_size (Do place Continue k) s held l = keeps_size 1 _ _ l (loads_in k) (code_size k nothing [] l)
  code_size (Do place (Call v f xs) k) s held l = keeps_size _ _ _ l (loads_in k) (code_size k nothing [] l)
  code_size (Do place (Return x) k) s held l = keeps_size 1 _ _ l (loads_in k) (code_size k nothing [] l)
  code_size (Do place (Halt x) k) s held l = keeps_size 1 _ _ l (loads_in k) (code_size k nothing [] l)
  code_size (If place t p q k) s held l =
      rw (no_more (loads_in p + (loads_in q + loads_in k)))
      (joins_size _ _ _ _ _ _ l (loads_in p) (loads_in q) (loads_in k) (code_size p nothing [] l) (code_size q nothing [] (l + loads_in p)) (code_size k nothing [] (l + loads_in p + loads_in q)))
  code_size (Loop place p q k) s held l =
      joins_size _ _ _ _ _ _ l (loads_in p) (loads_in q) (loads_in k) (code_size p nothing [] l) (code_size q nothing [] (l + loads_in p)) (code_size k nothing [] (l + loads_in p + loads_in q))

  -- ---- what counts neither loads nor copies

  module _ (f : Item → ℕ) (g : Test → ℕ) (no_load : (v : ℕ) (kind : LoadKind) (x : Operand) → f (Load v kind x) ≡ 0) (no_copy : (v u : ℕ) → f (copy v u) ≡ 0) where
    load_count : (place : Place) (v : ℕ) (kind : LoadKind) (x : Operand) (k : Form) (o : Option Held) (holder : Option ℕ) → tally f g (turned place v kind x o holder k) ≡ tally f g k
    load_count place v kind x k None None = let e = no_load v kind x in omega (arith, e)
    load_count place v kind x k (Some e) None = let d = no_load v kind x in omega (arith, d)
    load_count place v kind x k None (Some u) = let e = no_load u kind x in let c = no_copy v u in omega (arith, e, c)
    load_count place v kind x k (Some e) (Some u) = let c = no_copy v u in omega (arith, c)

    code_count : (code : Form) (s : KnownInStretch) (held : List Held) (l : ℕ) → tally f g (reused h s held l code) ≡ tally f g code
    code_count Done s held l = refl
    code_count (Do place (Assign v x) k) s held l = ap (λ (a : ℕ). f (Assign v x) + a) (code_count k _ held l)
    code_count (Do place (Load v kind x) k) s held l =
        let e = no_load v kind x in
        let c = load_count place v kind x (reused h (known_behind s v (held_in held kind (symbol s x))) (held_behind s held l v kind x (held_in held kind (symbol s x))) (suc l) k) (held_in held kind (symbol s x)) (h (number_of (held_in held kind (symbol s x)) l)) in
        let d = code_count k (known_behind s v (held_in held kind (symbol s x))) (held_behind s held l v kind x (held_in held kind (symbol s x))) (suc l) in omega (arith, e, c, d)
    code_count (Do place (Store width x y) k) s held l = ap (λ (a : ℕ). f (Store width x y) + a) (code_count k s _ l)
    code_count (Do place (Expect check) k) s held l = ap (λ (a : ℕ). f (Expect check) + a) (code_count k s held l)
    code_count (Do place (Print spelling x) k) s held l = ap (λ (a : ℕ). f (Print spelling x) + a) (code_count k nothing [] l)
    code_count (Do place Break k) s held l = ap (λ (a : ℕ). f Break + a) (code_count k nothing [] l)
    code_count (Do place Continue k) s held l = ap (λ (a : ℕ). f Continue + a) (code_count k nothing [] l)
    code_count (Do place (Call v c xs) k) s held l = ap (λ (a : ℕ). f (Call v c xs) + a) (code_count k nothing [] l)
    code_count (Do place (Return x) k) s held l = ap (λ (a : ℕ). f (Return x) + a) (code_count k nothing [] l)
    code_count (Do place (Halt x) k) s held l = ap (λ (a : ℕ). f (Halt x) + a) (code_count k nothing [] l)
    code_count (If place t p q k) s held l = rw (code_count p nothing [] l, code_count q nothing [] (l + loads_in p), code_count k nothing [] (l + loads_in p + loads_in q)) refl
    code_count (Loop place p q k) s held l = rw (code_count p nothing [] l, code_count q nothing [] (l + loads_in p), code_count k nothing [] (l + loads_in p + loads_in q)) refl

-- ---- loads that repeat, and first ones

abbrev is_given : Option Held → Bool
is_given None = false
is_given (Some g) = true

abbrev flip : Bool → Bool
flip true = false
flip false = true

abbrev repeating : KnownInStretch → List Held → ℕ → Form → ℕ
repeating s held l Done = 0
repeating s held l (Do place (Load v kind x) k) =
    bit (is_given (held_in held kind (symbol s x))) + repeating (known_behind s v (held_in held kind (symbol s x))) (held_behind s held l v kind x (held_in held kind (symbol s x))) (suc l) k
repeating s held l (Do place (Assign v x) k) = repeating (after s (Assign v x)) held l k
repeating s held l (Do place (Store width x y) k) = repeating s (still_held held (symbol s x) width) l k
repeating s held l (Do place (Expect check) k) = repeating s held l k
repeating s held l (Do place (Print spelling x) k) = repeating nothing [] l k
repeating s held l (Do place Break k) = repeating nothing [] l k
repeating s held l (Do place Continue k) = repeating nothing [] l k
repeating s held l (Do place (Call v f xs) k) = repeating nothing [] l k
repeating s held l (Do place (Return x) k) = repeating nothing [] l k
repeating s held l (Do place (Halt x) k) = repeating nothing [] l k
repeating s held l (If place t p q k) = repeating nothing [] l p + (repeating nothing [] (l + loads_in p) q + repeating nothing [] (l + loads_in p + loads_in q) k)
repeating s held l (Loop place p q k) = repeating nothing [] l p + (repeating nothing [] (l + loads_in p) q + repeating nothing [] (l + loads_in p + loads_in q) k)

-- number i is that of a first load
abbrev is_first_load : ℕ → KnownInStretch → List Held → ℕ → Form → Bool
is_first_load i s held l Done = false
is_first_load i s held l (Do place (Load v kind x) k) =
    (flip (is_given (held_in held kind (symbol s x))) && nat_eq l i) || is_first_load i (known_behind s v (held_in held kind (symbol s x))) (held_behind s held l v kind x (held_in held kind (symbol s x))) (suc l) k
is_first_load i s held l (Do place (Assign v x) k) = is_first_load i (after s (Assign v x)) held l k
is_first_load i s held l (Do place (Store width x y) k) = is_first_load i s (still_held held (symbol s x) width) l k
is_first_load i s held l (Do place (Expect check) k) = is_first_load i s held l k
is_first_load i s held l (Do place (Print spelling x) k) = is_first_load i nothing [] l k
is_first_load i s held l (Do place Break k) = is_first_load i nothing [] l k
is_first_load i s held l (Do place Continue k) = is_first_load i nothing [] l k
is_first_load i s held l (Do place (Call v f xs) k) = is_first_load i nothing [] l k
is_first_load i s held l (Do place (Return x) k) = is_first_load i nothing [] l k
is_first_load i s held l (Do place (Halt x) k) = is_first_load i nothing [] l k
is_first_load i s held l (If place t p q k) = is_first_load i nothing [] l p || (is_first_load i nothing [] (l + loads_in p) q || is_first_load i nothing [] (l + loads_in p + loads_in q) k)
is_first_load i s held l (Loop place p q k) = is_first_load i nothing [] l p || (is_first_load i nothing [] (l + loads_in p) q || is_first_load i nothing [] (l + loads_in p + loads_in q) k)

abbrev is_held : ℕ → List Held → Bool
is_held i [] = false
is_held i (x ∷ xs) = nat_eq x.number i || is_held i xs

or_by : (b c : Bool) (X : Type 0) → (b || c) ≡ true → (b ≡ true → X) → (c ≡ true → X) → X
or_by true c X h f g = f refl
or_by false c X h f g = g h

still_is_held : (i : ℕ) (held : List Held) (y : SymAddr) (width : Width) → is_held i (still_held held y width) ≡ true → is_held i held ≡ true
still_is_held i [] y width h = h
still_is_held i (x ∷ xs) y width h = by (are_apart x.at (width_of x.kind) y width) (still_is_held i xs y width) h where
  by : (c : Bool) → (is_held i (still_held xs y width) ≡ true → is_held i xs ≡ true) → is_held i (if c then x ∷ still_held xs y width else still_held xs y width) ≡ true → (nat_eq x.number i || is_held i xs) ≡ true
  by true more h = or_by (nat_eq x.number i) (is_held i (still_held xs y width)) _ h (λ e. or_left _ _ e) (λ e. or_right _ _ (more e))
  by false more h = or_right _ _ (more h)

found_is_held : (i : ℕ) (held : List Held) (kind : LoadKind) (at : SymAddr) (o : Option Held) → held_in held kind at ≡ o → repeats i o ≡ true → is_held i held ≡ true
found_is_held i held kind at None is r = cc
found_is_held i [] kind at (Some g) is r = cc
found_is_held i (x ∷ xs) kind at (Some g) is r = by (λ e. found_is_held i xs kind at (Some g) e r) (if_some (same_kind x.kind kind && same_place x.at at) x (held_in xs kind at) g is) where
  by : (held_in xs kind at ≡ Some g → is_held i xs ≡ true)
      → (((same_kind x.kind kind && same_place x.at at) ≡ true) × (x ≡ g)) ⊎ (((same_kind x.kind kind && same_place x.at at) ≡ false) × (held_in xs kind at ≡ Some g)) → (nat_eq x.number i || is_held i xs) ≡ true
  by more (inl e) = or_left _ _ (subst (λ (z : Held). nat_eq z.number i ≡ true) (sym e.1) r)
  by more (inr e) = or_right _ _ (more e.1)

-- what is repeated is held, or a first load
abbrev IsKnown : Form → Type 0
IsKnown code = (i : ℕ) (s : KnownInStretch) (held : List Held) (l : ℕ) → is_repeated i s held l code ≡ true → (is_held i held || is_first_load i s held l code) ≡ true

load_known : (i l v : ℕ) (kind : LoadKind) (x : Operand) (s : KnownInStretch) (held : List Held) (o : Option Held) (b : Bool) → held_in held kind (symbol s x) ≡ o → (repeats i o ≡ true) ⊎ ((is_held i (held_behind s held l v kind x o) || b) ≡ true)
    → (is_held i held || ((flip (is_given o) && nat_eq l i) || b)) ≡ true
load_known i l v kind x s held o b is (inl r) = or_left _ _ (found_is_held i held kind (symbol s x) o is r)
load_known i l v kind x s held None b is (inr r) =
    or_by (nat_eq l i || is_held i held) b _ r
    (λ e. or_by (nat_eq l i) (is_held i held) _ e (λ d. or_right (is_held i held) _ (or_left _ _ d)) (λ d. or_left _ _ d)) (λ e. or_right (is_held i held) _ (or_right (nat_eq l i) _ e))
load_known i l v kind x s held (Some g) b is (inr r) = r

known_start : (i l : ℕ) (k : Form) (held : List Held) → IsKnown k → is_repeated i nothing [] l k ≡ true → (is_held i held || is_first_load i nothing [] l k) ≡ true
known_start i l k held known r = or_right (is_held i held) _ (known i nothing [] l r)

code_known : (code : Form) → IsKnown code
code_known Done i s held l r = cc
code_known (Do place (Assign v x) k) i s held l r = code_known k i _ held l r
code_known (Do place (Load v kind x) k) i s held l r =
    load_known i l v kind x s held (held_in held kind (symbol s x)) _ refl
    (or_by (repeats i (held_in held kind (symbol s x))) _ ((repeats i (held_in held kind (symbol s x)) ≡ true) ⊎ ((is_held i (held_behind s held l v kind x (held_in held kind (symbol s x)))
    || is_first_load i (known_behind s v (held_in held kind (symbol s x))) (held_behind s held l v kind x (held_in held kind (symbol s x))) (suc l) k) ≡ true)) r (λ e. inl e)
    (λ e. inr (code_known k i _ _ (suc l) e)))
code_known (Do place (Store width x y) k) i s held l r =
    or_by (is_held i (still_held held (symbol s x) width)) _ _ (code_known k i s (still_held held (symbol s x) width) l r)
    (λ e. or_left _ _ (still_is_held i held (symbol s x) width e)) (λ e. or_right (is_held i held) _ e)
code_known (Do place (Expect check) k) i s held l r = code_known k i s held l r
code_known (Do place (Print spelling x) k) i s held l r = known_start i l k held (code_known k) r
code_known (Do place Break k) i s held l r = known_start i l k held (code_known k) r
code_known (Do place Continue k) i s held l r = known_start i l k held (code_known k) r
code_known (Do place (Call v f xs) k) i s held l r = known_start i l k held (code_known k) r
code_known (Do place (Return x) k) i s held l r = known_start i l k held (code_known k) r
code_known (Do place (Halt x) k) i s held l r = known_start i l k held (code_known k) r
code_known (If place t p q k) i s held l r =
    or_right (is_held i held) _
    (or_by (is_repeated i nothing [] l p) _ _ r (λ e. or_left _ _ (code_known p i nothing [] l e))
    (λ e. or_right (is_first_load i nothing [] l p) _ (or_by (is_repeated i nothing [] (l + loads_in p) q) _ _ e (λ d. or_left _ _ (code_known q i nothing [] (l + loads_in p) d))
    (λ d. or_right (is_first_load i nothing [] (l + loads_in p) q) _ (code_known k i nothing [] (l + loads_in p + loads_in q) d)))))
code_known (Loop place p q k) i s held l r =
    or_right (is_held i held) _
    (or_by (is_repeated i nothing [] l p) _ _ r (λ e. or_left _ _ (code_known p i nothing [] l e))
    (λ e. or_right (is_first_load i nothing [] l p) _ (or_by (is_repeated i nothing [] (l + loads_in p) q) _ _ e (λ d. or_left _ _ (code_known q i nothing [] (l + loads_in p) d))
    (λ d. or_right (is_first_load i nothing [] (l + loads_in p) q) _ (code_known k i nothing [] (l + loads_in p + loads_in q) d)))))

-- ---- sums

bit_or : (b c : Bool) → bit (b || c) ≤ bit b + bit c
bit_or true c = omega arith
bit_or false c = omega arith

sum_or : (f g : ℕ → Bool) (c a b : ℕ) → sum_from (λ i. bit (f i)) 0 c ≤ a → sum_from (λ i. bit (g i)) 0 c ≤ b → sum_from (λ i. bit (f i || g i)) 0 c ≤ a + b
sum_or f g c a b h k =
    let e = range_within (λ i. bit (f i || g i)) (λ i. bit (f i) + bit (g i)) (λ i. bit_or (f i) (g i)) 0 c in
    let d = sum_two (λ i. bit (f i)) (λ i. bit (g i)) c a b h k in omega (arith, e, d)

sum_same : (n c : ℕ) → sum_from (λ i. bit (nat_eq n i)) 0 c ≤ 1
sum_same n c = range_single (λ i. bit (nat_eq n i)) 1 (λ i. most (nat_eq n i)) (λ i j a b. sym (is n i a) ∙ is n j b) 0 c where
  most : (b : Bool) → bit b ≤ 1
  most true = omega arith
  most false = omega arith

  is : (n i : ℕ) → 0 < bit (nat_eq n i) → n ≡ i
  is n i l = by (nat_eq n i) refl l where
    by : (b : Bool) → nat_eq n i ≡ b → 0 < bit b → n ≡ i
    by true e l = eqb-true n i e
    by false e l = absurd (omega (arith, l))

module _ (c : ℕ) where
  sum_given : (o : Option Held) → sum_from (λ i. bit (repeats i o)) 0 c ≤ bit (is_given o)
  sum_given None = range_zero c
  sum_given (Some g) = sum_same g.number c

  repeats_few : (code : Form) (s : KnownInStretch) (held : List Held) (l : ℕ) → sum_from (λ i. bit (is_repeated i s held l code)) 0 c ≤ repeating s held l code
  repeats_few Done s held l = range_zero c
  repeats_few (Do place (Assign v x) k) s held l = repeats_few k _ held l
  repeats_few (Do place (Load v kind x) k) s held l =
      sum_or (λ i. repeats i (held_in held kind (symbol s x))) (λ i. is_repeated i (known_behind s v (held_in held kind (symbol s x))) (held_behind s held l v kind x (held_in held kind (symbol s x))) (suc l) k)
      c _ _ (sum_given (held_in held kind (symbol s x))) (repeats_few k _ _ (suc l))
  repeats_few (Do place (Store width x y) k) s held l = repeats_few k s _ l
  repeats_few (Do place (Expect check) k) s held l = repeats_few k s held l
  repeats_few (Do place (Print spelling x) k) s held l = repeats_few k nothing [] l
  repeats_few (Do place Break k) s held l = repeats_few k nothing [] l
  repeats_few (Do place Continue k) s held l = repeats_few k nothing [] l
  repeats_few (Do place (Call v f xs) k) s held l = repeats_few k nothing [] l
  repeats_few (Do place (Return x) k) s held l = repeats_few k nothing [] l
  repeats_few (Do place (Halt x) k) s held l = repeats_few k nothing [] l
  repeats_few (If place t p q k) s held l =
      sum_or (λ i. is_repeated i nothing [] l p) _ c _ _ (repeats_few p nothing [] l)
      (sum_or (λ i. is_repeated i nothing [] (l + loads_in p) q) (λ i. is_repeated i nothing [] (l + loads_in p + loads_in q) k) c _ _ (repeats_few q nothing [] (l + loads_in p)) (repeats_few k nothing [] (l + loads_in p + loads_in q)))
  repeats_few (Loop place p q k) s held l =
      sum_or (λ i. is_repeated i nothing [] l p) _ c _ _ (repeats_few p nothing [] l)
      (sum_or (λ i. is_repeated i nothing [] (l + loads_in p) q) (λ i. is_repeated i nothing [] (l + loads_in p + loads_in q) k) c _ _ (repeats_few q nothing [] (l + loads_in p)) (repeats_few k nothing [] (l + loads_in p + loads_in q)))

  sum_first : (l : ℕ) (b : Bool) → sum_from (λ i. bit (flip b && nat_eq l i)) 0 c ≤ bit (flip b)
  sum_first l true = range_zero c
  sum_first l false = sum_same l c

  -- the first ones and those that repeat are all
  abbrev firsts : Form → KnownInStretch → List Held → ℕ → ℕ
  firsts code s held l = sum_from (λ i. bit (is_first_load i s held l code)) 0 c

  load_few : (l : ℕ) (b : Bool) (f : ℕ → Bool) (r m : ℕ) → sum_from (λ i. bit (f i)) 0 c + r ≤ m → sum_from (λ i. bit ((flip b && nat_eq l i) || f i)) 0 c + (bit b + r) ≤ 1 + m
  load_few l b f r m h = let s = sum_or (λ i. flip b && nat_eq l i) f c (bit (flip b)) (sum_from (λ i. bit (f i)) 0 c) (sum_first l b) (omega arith) in let t = total b in omega (arith, h, s, t) where
    total : (b : Bool) → bit (flip b) + bit b ≡ 1
    total true = refl
    total false = refl

  join_few : (f g k : ℕ → Bool) (r r' r'' m m' m'' : ℕ) → sum_from (λ i. bit (f i)) 0 c + r ≤ m → sum_from (λ i. bit (g i)) 0 c + r' ≤ m' → sum_from (λ i. bit (k i)) 0 c + r'' ≤ m''
      → sum_from (λ i. bit (f i || (g i || k i))) 0 c + (r + (r' + r'')) ≤ m + (m' + m'')
  join_few f g k r r' r'' m m' m'' a b d =
      let s = sum_or f (λ i. g i || k i) c (sum_from (λ i. bit (f i)) 0 c) (sum_from (λ i. bit (g i)) 0 c + sum_from (λ i. bit (k i)) 0 c) (omega arith)
      (sum_or g k c (sum_from (λ i. bit (g i)) 0 c) (sum_from (λ i. bit (k i)) 0 c) (omega arith) (omega arith)) in omega (arith, s, a, b, d)

  firsts_few : (code : Form) (s : KnownInStretch) (held : List Held) (l : ℕ) → firsts code s held l + repeating s held l code ≤ loads_in code
  firsts_few Done s held l = let z = range_zero c in omega (arith, z)
  firsts_few (Do place (Assign v x) k) s held l = let r = firsts_few k (after s (Assign v x)) held l in omega (arith, r)
  firsts_few (Do place (Load v kind x) k) s held l =
      load_few l (is_given (held_in held kind (symbol s x))) (λ i. is_first_load i (known_behind s v (held_in held kind (symbol s x))) (held_behind s held l v kind x (held_in held kind (symbol s x))) (suc l) k) _ _ (firsts_few k _ _ (suc l))
  firsts_few (Do place (Store width x y) k) s held l = let r = firsts_few k s (still_held held (symbol s x) width) l in omega (arith, r)
  firsts_few (Do place (Expect check) k) s held l = let r = firsts_few k s held l in omega (arith, r)
  firsts_few (Do place (Print spelling x) k) s held l = let r = firsts_few k nothing [] l in omega (arith, r)
  firsts_few (Do place Break k) s held l = let r = firsts_few k nothing [] l in omega (arith, r)
  firsts_few (Do place Continue k) s held l = let r = firsts_few k nothing [] l in omega (arith, r)
  firsts_few (Do place (Call v f xs) k) s held l = let r = firsts_few k nothing [] l in omega (arith, r)
  firsts_few (Do place (Return x) k) s held l = let r = firsts_few k nothing [] l in omega (arith, r)
  firsts_few (Do place (Halt x) k) s held l = let r = firsts_few k nothing [] l in omega (arith, r)
  firsts_few (If place t p q k) s held l =
      (let r = join_few (λ i. is_first_load i nothing [] l p) (λ i. is_first_load i nothing [] (l + loads_in p) q) (λ i. is_first_load i nothing [] (l + loads_in p + loads_in q) k) _ _ _ _ _ _
      (firsts_few p nothing [] l) (firsts_few q nothing [] (l + loads_in p)) (firsts_few k nothing [] (l + loads_in p + loads_in q)) in omega (arith, r))
  firsts_few (Loop place p q k) s held l =
      join_few (λ i. is_first_load i nothing [] l p) (λ i. is_first_load i nothing [] (l + loads_in p) q) (λ i. is_first_load i nothing [] (l + loads_in p + loads_in q) k) _ _ _ _ _ _
      (firsts_few p nothing [] l) (firsts_few q nothing [] (l + loads_in p)) (firsts_few k nothing [] (l + loads_in p + loads_in q))

one_within : (o : Option ℕ) (b : Bool) → ((u : ℕ) → o ≡ Some u → b ≡ true) → one o ≤ bit b
one_within None b h = omega arith
one_within (Some u) b h = rw (h u refl) (omega arith)

half : (h : Holders) (code : Form) → HasOnlyRepeated h code → 2 * own_variables h code ≤ loads_in code
half h code only =
    let c = loads_in code in
    let a = range_within (λ i. one (h i)) (λ i. bit (is_repeated i nothing [] 0 code)) (λ i. one_within (h i) _ (only i)) 0 c in
    let b = range_within (λ i. one (h i)) (λ i. bit (is_first_load i nothing [] 0 code)) (λ i. one_within (h i) _ (λ u is. code_known code i nothing [] 0 (only i u is))) 0 c in
    let d = repeats_few c code nothing [] 0 in
    let e = firsts_few c code nothing [] 0 in
    omega (arith, a, b, d, e)

pub reuse_stays_small : ReuseStaysSmall
reuse_stays_small h code = record {
  size = code_size h code nothing [] 0;
  half = half h code;
  others = λ f g no_load no_copy. code_count h f g no_load no_copy code nothing [] 0;
}
