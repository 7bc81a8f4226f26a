-- A form that is ready has streams of which the code of both sides can be made.
use Rattle.std.proofs.Common.{◌≡◌, ℕ, ◌≤◌, ◌<◌, Bool, true, false, List, [], length, refl, ap, sym, ◌∙◌, subst}
use Rattle.std.specs.Prelude.{Option, Some, None, slice_get}
use Rattle.std.proofs.lemmas.Option.{slice_get_within}
use Rattle.dae_base.proofs.Laws.{all_at}
use Rattle.dae_ir.specs.Code.{Done, Each}
use Rattle.dae_ir.specs.Classes.{VariableSet, Classes, classes_of, AddressesKept, AreClosed}
use Rattle.dae_ir.specs.Scope.{ItemIn, TestIn, TakesArguments, FunctionIn}
use Rattle.dae_ir.specs.SetFirst.{parameters_set, IsFunctionSetFirst}
use Rattle.dae_ir.specs.Streams.{set_of}
use Rattle.dae_ir.specs.Programs.{program_of, body_in}
use Rattle.dae_ir.specs.declared.form.Ir.{Ir}
use Rattle.dae_ir.specs.declared.form.Function.{Function}
use Rattle.dae_ir.specs.declared.form.Operand.{Operand}
use Rattle.dae_ir.specs.declared.form.Item.{Item}
use Rattle.dae_ir.specs.declared.form.Item.TheVariants.{Assign, Load, Store, Print, Expect, Break as Leave, Continue as Skip, Call as Enter, Return as Give, Halt}
use Rattle.dae_ir.specs.declared.form.Check.TheVariants.{Place, InBounds, Zero, Room, Frame, Abort}
use Rattle.dae_ir.specs.declared.stream.Class.{Class}
use Rattle.dae_select_walks.specs.Live.{live, nowhere}
use Rattle.dae_select_walks.specs.Agrees.{Plan}
use Rattle.dae_select_blocks.specs.Wanted.{IsWanted, IsWantedBranch, HaveHomes}
use Rattle.dae_link_faithful.specs.Made.{parameters_in, stream}
use Rattle.dae_link_faithful.proofs.Usable.{IsUsable, ItemNumbers, TestNumbers, HasNumbers}
use Rattle.dae_link_faithful.proofs.Streams.{found}
use Rattle.dae_link_faithful.proofs.Wanted.{CallWanted, ItemWanted, FormWanted, rounds_wanted, side_wanted}
use Rattle.dae_link_faithful.proofs.Copied.{each_zip, rounds_copied}
use Rattle.dae_machine_rounds.proofs.LawsOfRuns.{rounds_ok}
use Rattle.dae_ir_pair.specs.Budget.{AtMost}
use Rattle.dae_ir.specs.Rounds.{Decision, Rounds, rounds, is_copied}
use Rattle.dae_link_faithful.proofs.Entries.{entry_given, arguments_homes, main_reads}

module _ (ir : Ir) (tables : List (List Class)) (cap : ℕ) (closed : AreClosed (program_of ir) (classes_of tables)) (b : Bool) (ready : IsUsable ir) (plan : Plan) (count : plan.functions ≡ length ir.functions)
    (homes : (f : ℕ) → f < plan.functions → HaveHomes plan f (parameters_set (parameters_in (slice_get ir.functions f)))) where
  abbrev of : ℕ → Classes
  of = classes_of tables

  abbrev entries : ℕ → VariableSet
  entries g = live (stream ir tables cap b g) nowhere

  abbrev Wants : ℕ → Item → Type 0
  Wants f item = ItemWanted plan true entries of cap f b item

  call_wanted : (f g : ℕ) (xs : List Operand) (o : Option Function) → slice_get ir.functions g ≡ o → TakesArguments o (length xs) → ItemNumbers (Enter 0 g xs) → CallWanted plan true entries of cap f b g xs
  call_wanted f g xs None e takes numbers = absurd takes
  call_wanted f g xs (Some function) e takes numbers =
      let small : g < plan.functions = subst (λ (n : ℕ). g < n) (sym count) (slice_get_within ir.functions g function e) in
      let first = all_at IsFunctionSetFirst ir.functions g function ready.first e in (
        numbers,
        small,
        entry_given ir tables cap closed b g function e first xs takes,
        arguments_homes plan g (set_of b (of g)) xs function.parameters takes (subst (λ (o : Option Function). HaveHomes plan g (parameters_set (parameters_in o))) e (homes g small)),
      )

  item_wanted : (f n : ℕ) (item : Item) → AddressesKept (λ g. (of g).s) (of f).s item → ItemIn ir.functions n item × ItemNumbers item → Wants f item
  item_wanted f n (Assign v x) k h = (h.1, λ e. refl)
  item_wanted f n (Load v kind x) k h = (h.1, λ e. refl)
  item_wanted f n (Store width x y) k h = h.1
  item_wanted f n (Print spelling x) k h = h.1
  item_wanted f n (Expect (Place width x)) k h = (λ e. (refl, h.1), λ e. absurd (let z : true ≡ false = sym k ∙ e in cc))
  item_wanted f n (Expect (InBounds x offset)) k h = (λ e. (refl, h.1.0, h.1.1), λ e. absurd (let z : true ≡ false = sym k ∙ e in cc))
  item_wanted f n (Expect (Zero x)) k h = (λ e. h.1, λ e. h.1)
  item_wanted f n (Expect (Room g)) k h = (λ e. refl, λ e. absurd cc)
  item_wanted f n (Expect Frame) k h = (λ e. refl, λ e. absurd cc)
  item_wanted f n (Expect Abort) k h = (λ e. refl, λ e. absurd cc)
  item_wanted f n Leave k h = tt
  item_wanted f n Skip k h = tt
  item_wanted f n (Enter v g xs) k h = call_wanted f g xs (slice_get ir.functions g) refl h.0.1 h.1
  item_wanted f n (Give x) k h = h.1
  item_wanted f n (Halt x) k h = h.1

  body_wanted : (f : ℕ) → f < length ir.functions → FormWanted plan true entries of cap f b ((program_of ir).body f)
  body_wanted f small =
      let x = found ir tables cap closed f small in
      let i = all_at (FunctionIn ir.functions) ir.functions f x.function ready.scoped.functions x.is in
      let n : ℕ = x.function.variables in
      let names = subst (λ (o : Option Function). Each (ItemIn ir.functions n) (TestIn n) (body_in o)) (sym x.is) i.names in
      let numbers = subst (λ (o : Option Function). Each ItemNumbers TestNumbers (body_in o)) (sym x.is) (all_at HasNumbers ir.functions f x.function ready.numbers x.is) in
      let code = (program_of ir).body f in
      let three = each_zip (ItemIn ir.functions n) ItemNumbers (λ (j : Item). ItemIn ir.functions n j × ItemNumbers j) (TestIn n) TestNumbers TestNumbers (λ j a c. (a, c)) (λ t a c. c) code names numbers in
      each_zip (AddressesKept (λ g. (of g).s) (of f).s) (λ (j : Item). ItemIn ir.functions n j × ItemNumbers j) (Wants f) (λ t. Unit {0}) TestNumbers TestNumbers (item_wanted f n) (λ t a c. c) code (closed.addresses f) three

  pub stream_is_wanted : (copies : Bool) (cq : ℕ) → (1 ≤ cq → copies ≡ true) → plan.by_a ≡ b → (f : ℕ) → Each (AtMost (is_copied (of f)) cq) (λ (d : Decision). Unit {0}) (rounds (of f) cap true ((program_of ir).body f) []) → f < plan.functions → Each (IsWanted plan copies entries false) IsWantedBranch (stream ir tables cap b f)
  stream_is_wanted copies cq enough e f few small =
      let r : Rounds = rounds (of f) cap true ((program_of ir).body f) [] in
      side_wanted plan copies entries of cap f b e 0 r Done (rounds_copied plan copies entries of cap f cq enough b r (rounds_wanted plan true entries of cap f b true ((program_of ir).body f) (body_wanted f (subst (λ (n : ℕ). f < n) count small)) [] tt) few (rounds_ok (of f) cap true ((program_of ir).body f) [])) tt

  pub main_is_alone : (u : ℕ) → live (stream ir tables cap b ir.main) nowhere u ≡ false
  main_is_alone =
      let x = found ir tables cap closed ir.main ready.main in
      main_reads ir tables cap closed b ir.main x.function x.is (all_at IsFunctionSetFirst ir.functions ir.main x.function ready.first x.is) (ap parameters_in (sym x.is) ∙ ready.alone)
