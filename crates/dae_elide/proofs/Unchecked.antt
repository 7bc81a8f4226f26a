-- Code without checks of places stays as it is.
use Rattle.std.proofs.Common.{◌≡◌, ℕ, true, false, not, ◌&&◌, refl, ap, sym, ◌∙◌}
use Rattle.std.proofs.lemmas.Bool.{and_parts}
use Rattle.dae_ir.specs.Code.{Done, Do, If, Loop}
use Rattle.dae_ir.specs.Classes.{VariableSet}
use Rattle.dae_ir.specs.Form.{Form, form_of}
use Rattle.dae_ir.specs.declared.form.Check.TheVariants.{Place, InBounds, Zero, Room, Frame, Abort}
use Rattle.dae_ir.specs.declared.form.Function.{Function}
use Rattle.dae_ir.specs.declared.form.Item.{Item}
use Rattle.dae_ir.specs.declared.form.Item.TheVariants.{Assign, Load, Store, Print, Expect, Break, Continue, Call, Return, Halt}
use Rattle.dae_ir.specs.declared.stream.Branch.TheVariants.{Silent}
use Rattle.dae_select_walks.specs.Facts.{Facts, unknown, facts_behind, facts_in_first, facts_in_second, facts_past_if, facts_at_turn, facts_at_step, facts_past_loop}
use Rattle.dae_elide.specs.Checking.{checks_place, checks_no_place}
use Rattle.dae_elide.specs.Elided.{as_action, as_actions, elided_item, elided}
use Rattle.dae_elide.specs.Forms.{IsElidedFunction}

module _ (memory : ℕ) (chosen : VariableSet) where
  item_same : (facts : Facts) (item : Item) → not (checks_place item) ≡ true → elided_item memory chosen facts item ≡ item
  item_same facts (Expect (Place width x)) h = absurd cc
  item_same facts (Expect (InBounds x offset)) h = refl
  item_same facts (Expect (Zero x)) h = refl
  item_same facts (Expect (Room g)) h = refl
  item_same facts (Expect Frame) h = refl
  item_same facts (Expect Abort) h = refl
  item_same facts (Assign v x) h = refl
  item_same facts (Load v kind x) h = refl
  item_same facts (Store width x y) h = refl
  item_same facts (Print spelling x) h = refl
  item_same facts Break h = refl
  item_same facts Continue h = refl
  item_same facts (Call v g xs) h = refl
  item_same facts (Return x) h = refl
  item_same facts (Halt x) h = refl

  pub elided_same : (code : Form) (facts : Facts) → checks_no_place code ≡ true → elided memory chosen facts code ≡ code
  elided_same Done facts h = refl
  elided_same (Do place item k) facts h =
      let both = and_parts (not (checks_place item)) (checks_no_place k) h in
      let behind : Facts = facts_behind memory (as_action item) facts in
      ap (λ (x : Item). Do place x (elided memory chosen behind k)) (item_same facts item both.0)
      ∙ ap (λ (x : Form). Do place item x) (elided_same k behind both.1)
  elided_same (If place t p q k) facts h =
      let first : Facts = facts_in_first (Silent t) facts in
      let second : Facts = facts_in_second (Silent t) facts in
      let past : Facts = facts_past_if (Silent t) (as_actions p) (as_actions q) facts in
      let one = and_parts (checks_no_place p) (checks_no_place q && checks_no_place k) h in
      let other = and_parts (checks_no_place q) (checks_no_place k) one.1 in
      ap (λ (x : Form). If place t x (elided memory chosen second q) (elided memory chosen past k)) (elided_same p first one.0)
      ∙ ap (λ (x : Form). If place t p x (elided memory chosen past k)) (elided_same q second other.0)
      ∙ ap (λ (x : Form). If place t p q x) (elided_same k past other.1)
  elided_same (Loop place b s k) facts h =
      let turn : Facts = facts_at_turn memory (as_actions b) (as_actions s) facts in
      let step : Facts = facts_at_step memory (as_actions b) (as_actions s) facts in
      let past : Facts = facts_past_loop (as_actions b) (as_actions s) facts in
      let one = and_parts (checks_no_place b) (checks_no_place s && checks_no_place k) h in
      let other = and_parts (checks_no_place s) (checks_no_place k) one.1 in
      ap (λ (x : Form). Loop place x (elided memory chosen step s) (elided memory chosen past k)) (elided_same b turn one.0)
      ∙ ap (λ (x : Form). Loop place b x (elided memory chosen past k)) (elided_same s step other.0)
      ∙ ap (λ (x : Form). Loop place b s x) (elided_same k past other.1)

-- no check is left out of a function that has none, whatever is chosen
pub kept_function : (memory : ℕ) (f : Function) → checks_no_place (form_of f.body) ≡ true → IsElidedFunction memory f f
kept_function memory f h = record {
  chosen = λ v. false;
  name = refl;
  parameters = refl;
  variables = refl;
  frame = refl;
  body = sym (elided_same memory (λ v. false) (form_of f.body) unknown h);
}
