-- A form without some checks of places, as a relation of forms.
use Rattle.std.proofs.Common.{◌≡◌, ℕ, ◌<◌, Bool, true, false, ◌&&◌, if◌then◌else◌, refl}
use Rattle.std.specs.Prelude.{nat_lt}
use Rattle.std.proofs.lemmas.Bool.{and_parts, ltb-true}
use Rattle.dae_base.specs.declared.Place.{Place as Position}
use Rattle.dae_base.specs.declared.Width.{Width}
use Rattle.dae_ir.specs.Code.{Done, Do, If, Loop}
use Rattle.dae_ir.specs.Classes.{VariableSet}
use Rattle.dae_ir.specs.Form.{Form}
use Rattle.dae_ir.specs.declared.form.Operand.TheVariants.{Variable, Number}
use Rattle.dae_ir.specs.declared.form.Check.TheVariants.{Place, InBounds, Zero, Room, Frame, Abort}
use Rattle.dae_ir.specs.declared.form.Item.{Item}
use Rattle.dae_ir.specs.declared.form.Item.TheVariants.{Assign, Load, Store, Print, Expect, Break, Continue, Call, Return, Halt}
use Rattle.dae_ir.specs.declared.form.Test.{Test}
use Rattle.dae_ir.specs.declared.stream.Branch.TheVariants.{Silent}
use Rattle.dae_select_walks.specs.Facts.{Facts, bounds_in, is_good, facts_behind, facts_in_first, facts_in_second, facts_past_if, facts_at_turn, facts_at_step, facts_past_loop}
use Rattle.dae_elide.specs.Elided.{as_action, as_actions, is_known, itself, elided_item, elided, kept_width}

-- each item stays, or it is a check of a place: of a variable other than 0, which is set to itself then, or of another width then
pub data Elides : Form → Form → Type 0 where
  Ends : Elides Done Done
  Keeps : (place : Position) (item : Item) (k k' : Form) → Elides k k' → Elides (Do place item k) (Do place item k')
  Drops : (place : Position) (width : Width) (v : ℕ) (k k' : Form) → 0 < v → Elides k k' → Elides (Do place (Expect (Place width (Variable v))) k) (Do place (itself v) k')
  Narrows : (place : Position) (width width' : Width) (v : ℕ) (k k' : Form) → Elides k k' → Elides (Do place (Expect (Place width (Variable v))) k) (Do place (Expect (Place width' (Variable v))) k')
  Tests : (place : Position) (t : Test) (a a' b b' k k' : Form) → Elides a a' → Elides b b' → Elides k k' → Elides (If place t a b k) (If place t a' b' k')
  Turns : (place : Position) (b b' s s' k k' : Form) → Elides b b' → Elides s s' → Elides k k' → Elides (Loop place b s k) (Loop place b' s' k')

module _ (memory : ℕ) (chosen : VariableSet) where
  item_elides : (place : Position) (item : Item) (facts : Facts) (k k' : Form) → Elides k k' → Elides (Do place item k) (Do place (elided_item memory chosen facts item) k')
  item_elides place (Expect (Place width (Variable v))) facts k k' h = by (is_known memory chosen facts width v) refl where
    by : (b : Bool) → is_known memory chosen facts width v ≡ b → Elides (Do place (Expect (Place width (Variable v))) k) (Do place (if b then itself v else Expect (Place (kept_width memory facts width v) (Variable v))) k')
    by true is = Drops place width v k k' (ltb-true 0 v (and_parts (chosen v) (nat_lt 0 v) (and_parts (chosen v && nat_lt 0 v) (is_good memory width (bounds_in facts v)) is).0).1) h
    by false is = Narrows place width (kept_width memory facts width v) v k k' h
  item_elides place (Expect (Place width (Number n))) facts k k' h = Keeps place (Expect (Place width (Number n))) k k' h
  item_elides place (Expect (InBounds x offset)) facts k k' h = Keeps place (Expect (InBounds x offset)) k k' h
  item_elides place (Expect (Zero x)) facts k k' h = Keeps place (Expect (Zero x)) k k' h
  item_elides place (Expect (Room g)) facts k k' h = Keeps place (Expect (Room g)) k k' h
  item_elides place (Expect Frame) facts k k' h = Keeps place (Expect Frame) k k' h
  item_elides place (Expect Abort) facts k k' h = Keeps place (Expect Abort) k k' h
  item_elides place (Assign v x) facts k k' h = Keeps place (Assign v x) k k' h
  item_elides place (Load v kind x) facts k k' h = Keeps place (Load v kind x) k k' h
  item_elides place (Store width x y) facts k k' h = Keeps place (Store width x y) k k' h
  item_elides place (Print spelling x) facts k k' h = Keeps place (Print spelling x) k k' h
  item_elides place Break facts k k' h = Keeps place Break k k' h
  item_elides place Continue facts k k' h = Keeps place Continue k k' h
  item_elides place (Call v g xs) facts k k' h = Keeps place (Call v g xs) k k' h
  item_elides place (Return x) facts k k' h = Keeps place (Return x) k k' h
  item_elides place (Halt x) facts k k' h = Keeps place (Halt x) k k' h

  pub code_elides : (code : Form) (facts : Facts) → Elides code (elided memory chosen facts code)
  code_elides Done facts = Ends
  code_elides (Do place item k) facts =
      let behind : Facts = facts_behind memory (as_action item) facts in
      item_elides place item facts k (elided memory chosen behind k) (code_elides k behind)
  code_elides (If place t a b k) facts =
      let first : Facts = facts_in_first (Silent t) facts in
      let second : Facts = facts_in_second (Silent t) facts in
      let past : Facts = facts_past_if (Silent t) (as_actions a) (as_actions b) facts in
      Tests place t a (elided memory chosen first a) b (elided memory chosen second b) k (elided memory chosen past k) (code_elides a first) (code_elides b second) (code_elides k past)
  code_elides (Loop place b s k) facts =
      let turn : Facts = facts_at_turn memory (as_actions b) (as_actions s) facts in
      let step : Facts = facts_at_step memory (as_actions b) (as_actions s) facts in
      let past : Facts = facts_past_loop (as_actions b) (as_actions s) facts in
      Turns place b (elided memory chosen turn b) s (elided memory chosen step s) k (elided memory chosen past k) (code_elides b turn) (code_elides s step) (code_elides k past)
