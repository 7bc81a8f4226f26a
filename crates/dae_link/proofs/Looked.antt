-- What is settled of the function of a number.
use Rattle.std.proofs.Common.{◌≡◌, ℕ, zero, suc, ◌≤◌, ◌<◌, ◌^◌, Bool, true, false, List, [], ◌∷◌, length, refl, ap, sym, subst, arith, ◌∙◌, ◌≢◌}
use Rattle.std.specs.Prelude.{Option, Some, None, slice_get, nat_lt, not}
use Rattle.std.specs.List.{AllByRecursion, AllZip}
use Rattle.std.proofs.lemmas.Bool.Decides.{nat_tests}
use Rattle.std.proofs.lemmas.Bool.{or_right, and_parts}
use Rattle.dae_ir.specs.Classes.{VariableSet}
use Rattle.dae_ir.specs.SetFirst.{parameters_set}
use Rattle.dae_ir.specs.Streams.{actions_of}
use Rattle.dae_ir.specs.declared.stream.StreamFunction.{StreamFunction}
use Rattle.dae_select_walks.specs.Homes.{IsHome, AreApart, frame_words, home_in, home_among}
use Rattle.dae_select_walks.specs.Live.{lives, nowhere}
use Rattle.dae_select_walks.specs.declared.Home.{Home}
use Rattle.dae_select_walks.specs.declared.Home.TheVariants.{Register, Slot}
use Rattle.dae_select_blocks.specs.Sizes.{calls_in, is_leaf}
use Rattle.dae_select_blocks.specs.Wanted.{IsRight}
use Rattle.dae_regalloc.specs.Seen.{AreBelow}
use Rattle.dae_select_values.specs.Tables.{IsNear}
use Rattle.dae_select_calls.specs.Layouts.{homes_at, variables_at, entry_at, frame_at, leaf_at, frameless_at, has_home, spares_at}
use Rattle.dae_select_calls.specs.declared.layouts.FunctionLayout.{FunctionLayout}
use Rattle.dae_link.specs.Settled.{IsLayoutOf, IsFrameWithin, have_registers}
use Rattle.dae_link.specs.Sides.{body_in, parameters_in, frame_in}
use Rattle.dae_link.proofs.Residing.{among_apart, among_no_home}

pub zip_long : (fs : List StreamFunction) (ls : List FunctionLayout) → AllZip IsLayoutOf fs ls → length ls ≡ length fs
zip_long [] [] h = refl
zip_long [] (l ∷ ls) h = absurd h
zip_long (f ∷ fs) [] h = absurd h
zip_long (f ∷ fs) (l ∷ ls) h = ap suc (zip_long fs ls h.1)

abbrev pub IsLayoutAt : Option StreamFunction → Option FunctionLayout → Type 0
IsLayoutAt None None = Unit {0}
IsLayoutAt None (Some l) = ⊥
IsLayoutAt (Some f) None = ⊥
IsLayoutAt (Some f) (Some l) = IsLayoutOf f l

pub layout_at : (fs : List StreamFunction) (ls : List FunctionLayout) → AllZip IsLayoutOf fs ls → (g : ℕ) → IsLayoutAt (slice_get fs g) (slice_get ls g)
layout_at [] [] h g = tt
layout_at [] (l ∷ ls) h g = absurd h
layout_at (f ∷ fs) [] h g = absurd h
layout_at (f ∷ fs) (l ∷ ls) h zero = h.0
layout_at (f ∷ fs) (l ∷ ls) h (suc g) = layout_at fs ls h.1 g

-- ---- homes

beyond : (homes : List Home) (v : ℕ) → length homes ≤ v → home_in homes v ≡ Register 8
beyond [] v le = refl
beyond (h ∷ homes) zero le = absurd (omega arith)
beyond (h ∷ homes) (suc v) le = beyond homes v (omega arith)

pub each_home : (f : Option StreamFunction) (l : Option FunctionLayout) → IsLayoutAt f l → (v : ℕ) → IsHome (variables_at l) (home_in (homes_at l) v)
each_home None None is v = refl
each_home None (Some l) is v = absurd is
each_home (Some f) None is v = absurd is
each_home (Some f) (Some l) is v = by (nat_lt v l.variables) refl
  where
    by : (b : Bool) → nat_lt v l.variables ≡ b → IsHome l.variables (home_in l.homes v)
    by true t = is.homes.each v (grind (arith, nat_tests))
    by false t =
        let count = is.count in
        let le : length l.homes ≤ v = grind (arith, nat_tests) in
        subst (λ (h : Home). IsHome l.variables h) (sym (beyond l.homes v le)) refl

pub is_near : (count : ℕ) (h : Home) → IsHome count h → count < 2 ^ 26 → IsNear h
is_near count (Register r) is few = tt
is_near count (Slot i) is few = omega arith

pub is_few : (f : Option StreamFunction) (l : Option FunctionLayout) → IsLayoutAt f l → variables_at l < 2 ^ 26
is_few None None is = omega arith
is_few None (Some l) is = absurd is
is_few (Some f) None is = absurd is
is_few (Some f) (Some l) is = let few = is.few in omega arith

pub is_first : (f : Option StreamFunction) (l : Option FunctionLayout) → IsLayoutAt f l → entry_at l < 2 ^ 30
is_first None None is = omega arith
is_first None (Some l) is = absurd is
is_first (Some f) None is = absurd is
is_first (Some f) (Some l) is = let e = is.entry in omega arith

pub same_frame : (f : Option StreamFunction) (l : Option FunctionLayout) → IsLayoutAt f l → frame_in f ≡ frame_at l
same_frame None None is = refl
same_frame None (Some l) is = absurd is
same_frame (Some f) None is = absurd is
same_frame (Some f) (Some l) is = sym is.frame

pub frame_within : (largest : ℕ) (ls : List FunctionLayout) → AllByRecursion (IsFrameWithin largest) ls → 19 ≤ largest → (g : ℕ) → frame_words (variables_at (slice_get ls g)) ≤ largest
frame_within largest [] h least g = least
frame_within largest (l ∷ ls) h least zero = h.0
frame_within largest (l ∷ ls) h least (suc g) = frame_within largest ls h.1 least g

-- ---- places

rights : (home : ℕ → Home) (n : ℕ) (places : List VariableSet) → AllByRecursion (AreApart home) places → AllByRecursion (AreBelow n) places → AllByRecursion (IsRight home n) places
rights home n [] apart inside = tt
rights home n (set ∷ places) apart inside = (record { apart = apart.0; scope = inside.0 }, rights home n places apart.1 inside.1)

among_right : (homes : List Home) (numbers : List ℕ) (count : ℕ) (places : List VariableSet) → count < 2 ^ 26 → AllByRecursion (IsRight (home_in homes) count) places → AllByRecursion (IsRight (home_among homes numbers) count) places
among_right homes numbers count [] few right = tt
among_right homes numbers count (set ∷ places) few right =
    (record { apart = among_apart homes numbers count set (omega arith) right.0.scope right.0.apart; scope = right.0.scope }, among_right homes numbers count places few right.1)

pub right_at : (numbers : List ℕ) (f : Option StreamFunction) (l : Option FunctionLayout) → IsLayoutAt f l → AllByRecursion (IsRight (home_among (homes_at l) numbers) (variables_at l)) (lives (body_in f) nowhere)
right_at numbers None None is = tt
right_at numbers None (Some l) is = absurd is
right_at numbers (Some f) None is = absurd is
right_at numbers (Some f) (Some l) is =
    let few = is.few in
    among_right l.homes numbers l.variables (lives (actions_of f.body) nowhere) (omega arith) (rights (home_in l.homes) l.variables (lives (actions_of f.body) nowhere) is.homes.apart.1 is.inside.1)

-- a leaf makes no call
pub none_below_one : (n : ℕ) → nat_lt n 1 ≡ true → n ≡ 0
none_below_one n e = (let low : n < 1 = grind (arith, nat_tests) in omega arith)

pub calls_at : (f : Option StreamFunction) (l : Option FunctionLayout) → IsLayoutAt f l → leaf_at l ≡ true → calls_in (body_in f) ≡ 0
calls_at None None is e = refl
calls_at None (Some l) is e = absurd is
calls_at (Some f) None is e = absurd is
calls_at (Some f) (Some l) is e = none_below_one (calls_in (actions_of f.body)) (sym is.leaf ∙ e)

-- a frameless one is a leaf with registers for all variables
pub frameless_is_leaf : (f : Option StreamFunction) (l : Option FunctionLayout) → IsLayoutAt f l → frameless_at l ≡ true → leaf_at l ≡ true
frameless_is_leaf None None is e = absurd (let no : false ≡ true = e in cc)
frameless_is_leaf None (Some l) is e = absurd is
frameless_is_leaf (Some f) None is e = absurd is
frameless_is_leaf (Some f) (Some l) is e = is.leaf ∙ (and_parts (is_leaf (actions_of f.body)) (have_registers l.homes) (sym is.frameless ∙ e)).0

pub frameless_in_registers : (f : Option StreamFunction) (l : Option FunctionLayout) → IsLayoutAt f l → frameless_at l ≡ true → have_registers (homes_at l) ≡ true
frameless_in_registers None None is e = absurd (let no : false ≡ true = e in cc)
frameless_in_registers None (Some l) is e = absurd is
frameless_in_registers (Some f) None is e = absurd is
frameless_in_registers (Some f) (Some l) is e = (and_parts (is_leaf (actions_of f.body)) (have_registers l.homes) (sym is.frameless ∙ e)).1

-- and where a function spares a register it is a leaf with no variable there
pub spares_as_leaf : (l : Option FunctionLayout) (r : ℕ) → spares_at l r ≡ true → leaf_at l ≡ true
spares_as_leaf None r e = absurd (let no : false ≡ true = e in cc)
spares_as_leaf (Some l) r e = (and_parts l.leaf (not (has_home r l.homes)) e).0

pub spares_apart : (numbers : List ℕ) (f : Option StreamFunction) (l : Option FunctionLayout) → IsLayoutAt f l → (v r : ℕ) → v < variables_at l → spares_at l r ≡ true → home_among (homes_at l) numbers v ≢ Register r
spares_apart numbers None None is v r lt e = absurd (let no : false ≡ true = e in cc)
spares_apart numbers None (Some l) is v r lt e = absurd is
spares_apart numbers (Some f) None is v r lt e = absurd is
spares_apart numbers (Some f) (Some l) is v r lt e =
    let count = is.count in let few = is.few in
    among_no_home l.homes numbers r v (omega arith) (omega arith) (absent (has_home r l.homes) (and_parts l.leaf (not (has_home r l.homes)) e).1)
  where
    absent : (b : Bool) → not b ≡ true → b ≡ false
    absent true h = absurd (let no : false ≡ true = h in cc)
    absent false h = refl

pub parameters_at : (f : Option StreamFunction) (l : Option FunctionLayout) → IsLayoutAt f l → (u : ℕ) → parameters_set (parameters_in f) u ≡ true → u < variables_at l
parameters_at None None is u h = absurd (grind (arith, nat_tests))
parameters_at None (Some l) is u h = absurd is
parameters_at (Some f) None is u h = absurd is
parameters_at (Some f) (Some l) is u h = is.inside.0 u (or_right _ _ h)

pub apart_at : (numbers : List ℕ) (f : Option StreamFunction) (l : Option FunctionLayout) → IsLayoutAt f l → AreApart (home_among (homes_at l) numbers) (parameters_set (parameters_in f))
apart_at numbers None None is u v hu hv other = absurd (grind (arith, nat_tests))
apart_at numbers None (Some l) is u v hu hv other = absurd is
apart_at numbers (Some f) None is u v hu hv other = absurd is
apart_at numbers (Some f) (Some l) is u v hu hv other =
    let few = is.few in
    among_apart l.homes numbers l.variables (parameters_set f.parameters) (omega arith) (λ w h. is.inside.0 w (or_right _ _ h)) (λ w z hw hz far. is.homes.apart.0 w z (or_right _ _ hw) (or_right _ _ hz) far) u v hu hv other
