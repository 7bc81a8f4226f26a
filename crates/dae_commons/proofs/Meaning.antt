-- Code without its common subexpressions does what the code does, with the same variables in the same world.
use Rattle.std.proofs.Common.{◌≡◌, ℕ, zero, suc, Bool, true, false, nat_eq, if◌then◌else◌, List, [], length, ◌∷◌, Option, Some, None, refl, ap, ◌∙◌, subst}
use Rattle.dae_base.specs.Words.{plus, width_of, loaded}
use Rattle.dae_base.specs.declared.Width.TheVariants.{B1}
use Rattle.dae_meaning.specs.Worlds.{World, ticked, fetched}
use Rattle.dae_meaning.specs.Results.{Result, At, Over, Next, Leaves, Skips, Returns, Run, ◌▷◌, ◌↻◌, turns, within, checked}
use Rattle.dae_meaning.specs.Variables.{Env, put, entered}
use Rattle.dae_meaning.specs.Operations.{misplaced}
use Rattle.dae_ir.specs.Code.{Done, Do, If, Loop, exec}
use Rattle.dae_ir.specs.Form.{Form, Program, Calls, value, values, holds, computed, fault, called, ended, does, meaning, with_stored, with_printed, deeper, calls_of, all_loads}
use Rattle.dae_ir.specs.Classes.{Classes}
use Rattle.dae_ir.specs.declared.form.Operand.{Operand}
use Rattle.dae_ir.specs.declared.form.Value.{Value}
use Rattle.dae_ir.specs.declared.form.Check.{Check}
use Rattle.dae_ir.specs.declared.form.Check.TheVariants.{Place as Good, InBounds, Zero, Room, Frame, Abort}
use Rattle.dae_ir.specs.declared.form.Item.{Item}
use Rattle.dae_ir.specs.declared.form.Item.TheVariants.{Assign, Load, Store, Print, Expect, Break, Continue, Call, Return, Halt}
use Rattle.dae_ir.proofs.Laws.{same_room}
use Rattle.dae_commons.specs.declared.equations.Equation.{Equation}
use Rattle.dae_commons.specs.Equations.{AreTrue, without_variable, with_equation, equations_in, met, known_in_loop}
use Rattle.dae_commons.specs.Copies.{propagated_operands, propagated_check, is_operand}
use Rattle.dae_commons.specs.Sums.{is_itself, assigned_value}
use Rattle.dae_commons.specs.Commoned.{commoned_item, known_behind, commoned_code, known_after}
use Rattle.dae_commons.proofs.Lists.{first_all, second_all}
use Rattle.dae_commons.proofs.Truth.{Solves, true_without, true_with, true_itself, value_same, holds_same, assigned_same, values_alike, same_length, true_spared}
use Rattle.dae_commons.proofs.Sparing.{AreNone, SparesItem, Spares, loop_all, body_spared, step_spared}

-- ---- what goes on alike is alike

-- of variables and a world
abbrev Property : Type 1
Property = Env → World → Type 0

-- it holds where the code behind goes on
abbrev GoesTo : Property → Result Env → Type 0
GoesTo P (At Next e w) = P e w
GoesTo P (At Leaves e w) = Unit {0}
GoesTo P (At Skips e w) = Unit {0}
GoesTo P (At Returns e w) = Unit {0}
GoesTo P (Over end w) = Unit {0}

goes_then : (P Q : Property) (r : Result Env) (g : Run Env) → GoesTo P r → ((e : Env) (w : World) → P e w → GoesTo Q (g e w)) → GoesTo Q (r ▷ g)
goes_then P Q (At Next e w) g p go = go e w p
goes_then P Q (At Leaves e w) g p go = tt
goes_then P Q (At Skips e w) g p go = tt
goes_then P Q (At Returns e w) g p go = tt
goes_then P Q (Over end w) g p go = tt

goes_more : (P Q : Property) (r : Result Env) → ((e : Env) (w : World) → P e w → Q e w) → GoesTo P r → GoesTo Q r
goes_more P Q (At Next e w) h p = h e w p
goes_more P Q (At Leaves e w) h p = tt
goes_more P Q (At Skips e w) h p = tt
goes_more P Q (At Returns e w) h p = tt
goes_more P Q (Over end w) h p = tt

if_goes : (P : Property) (b : Bool) (r s : Result Env) → GoesTo P r → GoesTo P s → GoesTo P (if b then r else s)
if_goes P true r s h k = h
if_goes P false r s h k = k

abbrev SameFrom : Property → Run Env → Run Env → Type 0
SameFrom P g h = (e : Env) (w : World) → P e w → g e w ≡ h e w

then_same : (P : Property) (r : Result Env) (g h : Run Env) → GoesTo P r → SameFrom P g h → (r ▷ g) ≡ (r ▷ h)
then_same P (At Next e w) g h p same = same e w p
then_same P (At Leaves e w) g h p same = refl
then_same P (At Skips e w) g h p same = refl
then_same P (At Returns e w) g h p same = refl
then_same P (Over end w) g h p same = refl

-- it holds wherever the result isn't the end
abbrev StaysIn : Property → Result Env → Type 0
StaysIn P (At Next e w) = P e w
StaysIn P (At Leaves e w) = P e w
StaysIn P (At Skips e w) = P e w
StaysIn P (At Returns e w) = Unit {0}
StaysIn P (Over end w) = Unit {0}

abbrev Stays : Property → Run Env → Type 0
Stays P g = (e : Env) (w : World) → P e w → StaysIn P (g e w)

stays_then : (P : Property) (r : Result Env) (g : Run Env) → StaysIn P r → Stays P g → StaysIn P (r ▷ g)
stays_then P (At Next e w) g h stays = stays e w h
stays_then P (At Leaves e w) g h stays = h
stays_then P (At Skips e w) g h stays = h
stays_then P (At Returns e w) g h stays = tt
stays_then P (Over end w) g h stays = tt

stays_turn : (P : Property) (r : Result Env) (g : Run Env) → StaysIn P r → Stays P g → StaysIn P (r ↻ g)
stays_turn P (At Next e w) g h stays = stays e w h
stays_turn P (At Leaves e w) g h stays = h
stays_turn P (At Skips e w) g h stays = stays e w h
stays_turn P (At Returns e w) g h stays = tt
stays_turn P (Over end w) g h stays = tt

stays_goes : (P : Property) (r : Result Env) → StaysIn P r → GoesTo P r
stays_goes P (At Next e w) h = h
stays_goes P (At Leaves e w) h = tt
stays_goes P (At Skips e w) h = tt
stays_goes P (At Returns e w) h = tt
stays_goes P (Over end w) h = tt

stays_if : (P : Property) (b : Bool) (r s : Result Env) → StaysIn P r → StaysIn P s → StaysIn P (if b then r else s)
stays_if P true r s h k = h
stays_if P false r s h k = k

stays_within : (P : Property) (o : Option ℕ) (w : World) (r : Result Env) → StaysIn P r → StaysIn P (within o w r)
stays_within P None w r h = h
stays_within P (Some code) w r h = tt

stays_checked : (P : Property) (o : Option ℕ) (e : Env) (w : World) → P e w → StaysIn P (checked o e w)
stays_checked P None e w h = h
stays_checked P (Some code) e w h = tt

turn_from : (P : Property) (r : Result Env) (g h : Run Env) → StaysIn P r → SameFrom P g h → (r ↻ g) ≡ (r ↻ h)
turn_from P (At Next e w) g h p same = same e w p
turn_from P (At Leaves e w) g h p same = refl
turn_from P (At Skips e w) g h p same = same e w p
turn_from P (At Returns e w) g h p same = refl
turn_from P (Over end w) g h p same = refl

-- P doesn't rest on how many items were done
module _ (P : Property) (ticks : (e : Env) (w : World) → P e w → P e (ticked w)) (b s : Run Env) (body : Stays P b) (step : Stays P s) where
  stays_turns : (n : ℕ) → Stays P (turns b s n)
  stays_turns zero e w h = tt
  stays_turns (suc n) e w h =
      stays_turn P (b e (ticked w)) (λ (e : Env) (w : World). s e w ↻ turns b s n) (body e (ticked w) (ticks e w h))
      (λ e w h. stays_turn P (s e w) (turns b s n) (step e w h) (stays_turns n))

  module _ (b' s' : Run Env) (bodies : SameFrom P b' b) (steps : SameFrom P s' s) where
    step_same : (n : ℕ) → SameFrom P (turns b' s' n) (turns b s n) → (e : Env) (w : World) → P e w → (s' e w ↻ turns b' s' n) ≡ (s e w ↻ turns b s n)
    step_same n more e w h = ap (λ (r : Result Env). r ↻ turns b' s' n) (steps e w h) ∙ turn_from P (s e w) (turns b' s' n) (turns b s n) (step e w h) more

    turns_same : (n : ℕ) → SameFrom P (turns b' s' n) (turns b s n)
    turns_same zero e w h = refl
    turns_same (suc n) e w h =
        ap (λ (r : Result Env). r ↻ (λ (e : Env) (w : World). s' e w ↻ turns b' s' n)) (bodies e (ticked w) (ticks e w h))
        ∙ turn_from P (b e (ticked w)) (λ (e : Env) (w : World). s' e w ↻ turns b' s' n) (λ (e : Env) (w : World). s e w ↻ turns b s n) (body e (ticked w) (ticks e w h)) (step_same n (turns_same n))

if_same : (b : Bool) (r s r' s' : Result Env) → r' ≡ r → s' ≡ s → (if b then r' else s') ≡ (if b then r else s)
if_same true r s r' s' h k = h
if_same false r s r' s' h k = k

within_goes : (P : Property) (o : Option ℕ) (w : World) (r : Result Env) → GoesTo P r → GoesTo P (within o w r)
within_goes P None w r h = h
within_goes P (Some code) w r h = tt

checked_goes : (P : Property) (o : Option ℕ) (e : Env) (w : World) → P e w → GoesTo P (checked o e w)
checked_goes P None e w h = h
checked_goes P (Some code) e w h = tt

-- ---- one function

-- the equations are true there; the code doesn't go on where there are none
abbrev Truth : Option (List Equation) → Property
Truth None e w = ⊥
Truth (Some q) e w = AreTrue q w.frame e

true_in : (k : Option (List Equation)) (e : Env) (w : World) → Truth k e w → AreTrue (equations_in k) w.frame e
true_in None e w t = absurd t
true_in (Some q) e w t = t

met_first : (j k : Option (List Equation)) (e : Env) (w : World) → Truth j e w → Truth (met j k) e w
met_first None k e w t = absurd t
met_first (Some q) None e w t = t
met_first (Some q) (Some r) e w t = first_all (Solves w.frame e) q r t

met_second : (j k : Option (List Equation)) (e : Env) (w : World) → Truth k e w → Truth (met j k) e w
met_second None k e w t = t
met_second (Some q) None e w t = absurd t
met_second (Some q) (Some r) e w t = second_all (Solves w.frame e) q r t

nothing_goes : (r : Result Env) → GoesTo (Truth (Some [])) r
nothing_goes (At Next e w) = tt
nothing_goes (At Leaves e w) = tt
nothing_goes (At Skips e w) = tt
nothing_goes (At Returns e w) = tt
nothing_goes (Over end w) = tt

module _ (p q : Program) (frames : (g : ℕ) → q.frame g ≡ p.frame g) (limits : q.limit ≡ p.limit) (bound : ℕ) (calls calls' : Calls)
    (enters : (g : ℕ) (xs : List ℕ) (w : World) → calls' g xs w ≡ calls g xs w) (c : Classes) where
  abbrev every : ℕ → Bool
  every v = true

  abbrev runs_old : Form → Run Env
  runs_old code = exec (meaning p every calls) bound code

  abbrev runs_new : Form → Run Env
  runs_new code = exec (meaning q every calls') bound code

  same_fault : (check : Check) (k : List Equation) (e : Env) (w : World) → AreTrue k w.frame e → fault q (propagated_check c k check) w e ≡ fault p check w e
  same_fault (Good width x) k e w t = ap (λ (y : ℕ). misplaced width y (length w.memory)) (value_same c w.frame e k t x)
  same_fault (InBounds x offset) k e w t = ap (λ (y : ℕ). misplaced B1 (plus y offset) (length w.memory)) (value_same c w.frame e k t x)
  same_fault (Zero x) k e w t = ap (λ (y : ℕ). if nat_eq y 0 then Some 1 else None) (value_same c w.frame e k t x)
  same_fault (Room g) k e w t = same_room p q frames limits g e w
  same_fault Frame k e w t = refl
  same_fault Abort k e w t = refl

  same_call : (v g : ℕ) (xs ys : List Operand) (e : Env) (w : World) → values ys e ≡ values xs e → length ys ≡ length xs
      → does q every calls' (Call v g ys) e w ≡ does p every calls (Call v g xs) e w
  same_call v g xs ys e w h l =
      ap (λ (o : Option ℕ). within o w (ended (λ (x : Env). put true v (x 0) e) w (calls' g (values ys e) (called ys w)))) (same_room p q frames limits g e w)
      ∙ ap (λ (r : Result Env). within (fault p (Room g) w e) w (ended (λ (x : Env). put true v (x 0) e) w r)) (enters g (values ys e) (called ys w))
      ∙ rw (h, l) refl

  item_same : (item : Item) (k : List Equation) (e : Env) (w : World) → AreTrue k w.frame e → does q every calls' (commoned_item c k item) e w ≡ does p every calls item e w
  item_same (Assign v x) k e w t = ap (λ (y : ℕ). At Next (put true v y e) (ticked w)) (assigned_same c w.frame e k t v x)
  item_same (Load v kind x) k e w t =
      ap (λ (y : ℕ). within (misplaced (width_of kind) y (length w.memory)) w (At Next (put true v (loaded kind y w.memory) e) (fetched true w))) (value_same c w.frame e k t x)
  item_same (Store width x y) k e w t = rw (value_same c w.frame e k t x, value_same c w.frame e k t y) refl
  item_same (Print spelling x) k e w t = ap (λ (y : ℕ). At Next e (with_printed spelling y w)) (value_same c w.frame e k t x)
  item_same (Expect check) k e w t = ap (λ (o : Option ℕ). checked o e (ticked w)) (same_fault check k e w t)
  item_same Break k e w t = refl
  item_same Continue k e w t = refl
  item_same (Call v g xs) k e w t = same_call v g xs (propagated_operands c k xs) e w (values_alike c w.frame e k t xs) (same_length c k xs)
  item_same (Return x) k e w t = rw (value_same c w.frame e k t x) refl
  item_same (Halt x) k e w t = rw (value_same c w.frame e k t x) refl

  -- what is true behind an item
  assigned_goes : (v : ℕ) (x : Value) (k : List Equation) (e : Env) (w : World) → AreTrue k w.frame e → Truth (known_after c k (Assign v x)) (put true v (computed x w.frame e) e) (ticked w)
  assigned_goes v x k e w t = by (is_itself v x) (is_operand x) refl where
    by : (b o : Bool) → is_itself v x ≡ b
        → AreTrue (if b then k else (if o then without_variable v k else with_equation v (assigned_value c k v x) k)) w.frame (put true v (computed x w.frame e) e)
    by true o h = true_itself v x k w.frame e h t
    by false true h = true_without v (computed x w.frame e) e k w.frame t
    by false false h =
        subst (λ (y : ℕ). AreTrue (with_equation v (assigned_value c k v x) k) w.frame (put true v y e)) (assigned_same c w.frame e k t v x)
        (true_with v (assigned_value c k v x) k w.frame e t)

  item_goes : (item : Item) (k : List Equation) (e : Env) (w : World) → AreTrue k w.frame e → GoesTo (Truth (known_after c k item)) (does p every calls item e w)
  item_goes (Assign v x) k e w t = assigned_goes v x k e w t
  item_goes (Load v kind x) k e w t =
      within_goes (Truth (Some (without_variable v k))) (misplaced (width_of kind) (value x e) (length w.memory)) w (At Next (put true v (loaded kind (value x e) w.memory) e) (fetched true w))
      (true_without v (loaded kind (value x e) w.memory) e k w.frame t)
  item_goes (Store width x y) k e w t =
      within_goes (Truth (Some k)) (misplaced width (value x e) (length w.memory)) w (At Next e (with_stored width (value x e) (value y e) w)) t
  item_goes (Print spelling x) k e w t = t
  item_goes (Expect check) k e w t = checked_goes (Truth (Some k)) (fault p check w e) e (ticked w) t
  item_goes Break k e w t = tt
  item_goes Continue k e w t = tt
  item_goes (Call v g xs) k e w t = nothing_goes (does p every calls (Call v g xs) e w)
  item_goes (Return x) k e w t = tt
  item_goes (Halt x) k e w t = tt

  -- ---- what involves nothing that is set

  none_true : (k : List Equation) → AreNone k → (frame : ℕ) (e : Env) → AreTrue k frame e
  none_true [] h frame e = tt
  none_true (d ∷ k) h frame e = absurd h.0

  none_stays : (k : List Equation) → AreNone k → (r : Result Env) → StaysIn (Truth (Some k)) r
  none_stays k h (At Next e w) = none_true k h w.frame e
  none_stays k h (At Leaves e w) = none_true k h w.frame e
  none_stays k h (At Skips e w) = none_true k h w.frame e
  none_stays k h (At Returns e w) = tt
  none_stays k h (Over end w) = tt

  item_stays : (k : List Equation) (item : Item) → SparesItem k item → Stays (Truth (Some k)) (does p every calls item)
  item_stays k (Assign v x) spared e w t = true_spared v (computed x w.frame e) e k w.frame spared t
  item_stays k (Load v kind x) spared e w t =
      stays_within (Truth (Some k)) (misplaced (width_of kind) (value x e) (length w.memory)) w (At Next (put true v (loaded kind (value x e) w.memory) e) (fetched true w))
      (true_spared v (loaded kind (value x e) w.memory) e k w.frame spared t)
  item_stays k (Store width x y) spared e w t =
      stays_within (Truth (Some k)) (misplaced width (value x e) (length w.memory)) w (At Next e (with_stored width (value x e) (value y e) w)) t
  item_stays k (Print spelling x) spared e w t = t
  item_stays k (Expect check) spared e w t = stays_checked (Truth (Some k)) (fault p check w e) e (ticked w) t
  item_stays k Break spared e w t = t
  item_stays k Continue spared e w t = t
  item_stays k (Call v g xs) spared e w t = none_stays k spared (does p every calls (Call v g xs) e w)
  item_stays k (Return x) spared e w t = tt
  item_stays k (Halt x) spared e w t = tt

  code_stays : (k : List Equation) (code : Form) → Spares k code → Stays (Truth (Some k)) (runs_old code)
  code_stays k Done spared e w t = t
  code_stays k (Do place item rest) spared e w t =
      stays_then (Truth (Some k)) (does p every calls item e w) (runs_old rest) (item_stays k item spared.0 e w t) (code_stays k rest spared.1)
  code_stays k (If place x y z rest) spared e w t =
      stays_then (Truth (Some k)) (if holds x e then runs_old y e (ticked w) else runs_old z e (ticked w)) (runs_old rest)
      (stays_if (Truth (Some k)) (holds x e) (runs_old y e (ticked w)) (runs_old z e (ticked w)) (code_stays k y spared.0 e (ticked w) t) (code_stays k z spared.1 e (ticked w) t))
      (code_stays k rest spared.2)
  code_stays k (Loop place x y rest) spared e w t =
      stays_then (Truth (Some k)) (turns (runs_old x) (runs_old y) bound e w) (runs_old rest)
      (stays_turns (Truth (Some k)) (λ e w t. t) (runs_old x) (runs_old y) (code_stays k x spared.0) (code_stays k y spared.1) bound e w t) (code_stays k rest spared.2)

  -- a loop's turns
  loop_stays : (k : List Equation) (x y : Form) → Stays (Truth (Some (known_in_loop k x y))) (turns (runs_old x) (runs_old y) bound)
  loop_stays k x y =
      stays_turns (Truth (Some (known_in_loop k x y))) (λ e w t. t) (runs_old x) (runs_old y) (code_stays (known_in_loop k x y) x (body_spared k x y)) (code_stays (known_in_loop k x y) y (step_spared k x y)) bound

  -- and behind code
  code_goes : (code : Form) (k : Option (List Equation)) (e : Env) (w : World) → Truth k e w → GoesTo (Truth (known_behind c k code)) (runs_old code e w)
  code_goes Done k e w t = t
  code_goes (Do place item rest) k e w t =
      let behind = known_after c (equations_in k) item in
      goes_then (Truth behind) (Truth (known_behind c behind rest)) (does p every calls item e w) (runs_old rest) (item_goes item (equations_in k) e w (true_in k e w t)) (λ e w t. code_goes rest behind e w t)
  code_goes (If place x y z rest) k e w t =
      let q' = equations_in k in
      let one = known_behind c (Some q') y in
      let two = known_behind c (Some q') z in
      goes_then (Truth (met one two)) (Truth (known_behind c (met one two) rest)) (if holds x e then runs_old y e (ticked w) else runs_old z e (ticked w)) (runs_old rest)
      (if_goes (Truth (met one two)) (holds x e) (runs_old y e (ticked w)) (runs_old z e (ticked w))
      (goes_more (Truth one) (Truth (met one two)) (runs_old y e (ticked w)) (λ e w t. met_first one two e w t) (code_goes y (Some q') e (ticked w) (true_in k e w t)))
      (goes_more (Truth two) (Truth (met one two)) (runs_old z e (ticked w)) (λ e w t. met_second one two e w t) (code_goes z (Some q') e (ticked w) (true_in k e w t))))
      (λ e w t. code_goes rest (met one two) e w t)
  code_goes (Loop place x y rest) k e w t =
      let r = known_in_loop (equations_in k) x y in
      goes_then (Truth (Some r)) (Truth (known_behind c (Some r) rest)) (turns (runs_old x) (runs_old y) bound e w) (runs_old rest)
      (stays_goes (Truth (Some r)) (turns (runs_old x) (runs_old y) bound e w) (loop_stays (equations_in k) x y e w (loop_all (Solves w.frame e) (equations_in k) x y (true_in k e w t))))
      (λ e w t. code_goes rest (Some r) e w t)

  code_same : (code : Form) (k : List Equation) (e : Env) (w : World) → AreTrue k w.frame e → runs_new (commoned_code c k code) e w ≡ runs_old code e w
  code_same Done k e w t = refl
  code_same (Do place item rest) k e w t =
      let behind = known_after c k item in
      ap (λ (r : Result Env). r ▷ runs_new (commoned_code c (equations_in behind) rest)) (item_same item k e w t)
      ∙ then_same (Truth behind) (does p every calls item e w) (runs_new (commoned_code c (equations_in behind) rest)) (runs_old rest) (item_goes item k e w t)
      (λ e w t. code_same rest (equations_in behind) e w (true_in behind e w t))
  code_same (If place x y z rest) k e w t =
      let one = known_behind c (Some k) y in
      let two = known_behind c (Some k) z in
      let after = equations_in (met one two) in
      ap (λ (b : Bool). (if b then runs_new (commoned_code c k y) e (ticked w) else runs_new (commoned_code c k z) e (ticked w)) ▷ runs_new (commoned_code c after rest)) (holds_same c w.frame e k t x)
      ∙ ap (λ (r : Result Env). r ▷ runs_new (commoned_code c after rest))
      (if_same (holds x e) (runs_old y e (ticked w)) (runs_old z e (ticked w)) (runs_new (commoned_code c k y) e (ticked w)) (runs_new (commoned_code c k z) e (ticked w)) (code_same y k e (ticked w) t) (code_same z k e (ticked w) t))
      ∙ then_same (Truth (met one two)) (if holds x e then runs_old y e (ticked w) else runs_old z e (ticked w)) (runs_new (commoned_code c after rest)) (runs_old rest)
      (if_goes (Truth (met one two)) (holds x e) (runs_old y e (ticked w)) (runs_old z e (ticked w))
      (goes_more (Truth one) (Truth (met one two)) (runs_old y e (ticked w)) (λ e w t. met_first one two e w t) (code_goes y (Some k) e (ticked w) t))
      (goes_more (Truth two) (Truth (met one two)) (runs_old z e (ticked w)) (λ e w t. met_second one two e w t) (code_goes z (Some k) e (ticked w) t)))
      (λ e w t. code_same rest after e w (true_in (met one two) e w t))
  code_same (Loop place x y rest) k e w t =
      let r = known_in_loop k x y in
      let still = loop_all (Solves w.frame e) k x y t in
      ap (λ (z : Result Env). z ▷ runs_new (commoned_code c r rest))
      (turns_same (Truth (Some r)) (λ e w t. t) (runs_old x) (runs_old y) (code_stays r x (body_spared k x y)) (code_stays r y (step_spared k x y)) (runs_new (commoned_code c r x)) (runs_new (commoned_code c r y))
      (λ e w t. code_same x r e w t) (λ e w t. code_same y r e w t) bound e w still)
      ∙ then_same (Truth (Some r)) (turns (runs_old x) (runs_old y) bound e w) (runs_new (commoned_code c r rest)) (runs_old rest)
      (stays_goes (Truth (Some r)) (turns (runs_old x) (runs_old y) bound e w) (loop_stays k x y e w still)) (λ e w t. code_same rest r e w t)

-- ---- whole programs

module _ (p q : Program) (frames : (g : ℕ) → q.frame g ≡ p.frame g) (limits : q.limit ≡ p.limit) (classes : ℕ → Classes)
    (bodies : (f : ℕ) → q.body f ≡ commoned_code (classes f) [] (p.body f)) where
  abbrev SameCalls : ℕ → ℕ → Type 0
  SameCalls n depth = (f : ℕ) (xs : List ℕ) (w : World) → calls_of q all_loads n depth f xs w ≡ calls_of p all_loads n depth f xs w

  call_same : (n depth : ℕ) → SameCalls n depth → SameCalls n (suc depth)
  call_same n depth enters f xs w =
      rw (bodies f, frames f)
      (code_same p q frames limits n (calls_of p all_loads n depth) (calls_of q all_loads n depth) enters (classes f) (p.body f) [] (entered (λ _. true) 1 xs) (deeper p f w) tt)

  pub calls_same : (n depth : ℕ) → SameCalls n depth
  calls_same n zero f xs w = refl
  calls_same n (suc depth) f xs w = call_same n depth (calls_same n depth) f xs w
