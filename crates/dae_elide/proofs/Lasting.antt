-- A form without some checks of places is as well made as before, sets each variable before it reads it, and its access side loads
-- and decides as much.
use Rattle.std.proofs.Common.{◌≡◌, ℕ, ◌+◌, ◌<◌, Bool, true, false, not, ◌&&◌, ◌||◌, nat_eq, List, length, refl, ap, sym, ◌∙◌, subst, arith}
use Rattle.std.proofs.Math.Path.{fun_ext}
use Rattle.std.proofs.lemmas.Bool.Decides.{nat_tests}
use Rattle.dae_base.specs.declared.Width.{Width}
use Rattle.dae_ir.specs.Code.{Each}
use Rattle.dae_ir.specs.Form.{Form}
use Rattle.dae_ir.specs.Classes.{VariableSet, AddressesKept}
use Rattle.dae_ir.specs.Rounds.{is_jump, stays}
use Rattle.dae_ir.specs.Scope.{TestIn, ItemIn, is_return, is_end, closes, never_returns}
use Rattle.dae_ir.specs.SetFirst.{form_flow, IsSetFirst, assured, with_set}
use Rattle.dae_ir.specs.Sizes.{form_size, item_weight, tally}
use Rattle.dae_ir.specs.declared.form.Operand.TheVariants.{Variable}
use Rattle.dae_ir.specs.declared.form.Check.TheVariants.{Place, InBounds, Zero, Room, Frame, Abort}
use Rattle.dae_ir.specs.declared.form.Function.{Function}
use Rattle.dae_ir.specs.declared.form.Item.{Item}
use Rattle.dae_ir.specs.declared.form.Item.TheVariants.{Assign, Load, Store, Print, Expect, Break, Continue, Call, Return, Halt}
use Rattle.dae_ir.specs.declared.form.Test.{Test}
use Rattle.dae_ir.proofs.Laws.{KeepsArguments}
use Rattle.dae_elide.specs.Elided.{itself}
use Rattle.dae_elide.proofs.Elides.{Elides, Ends, Keeps, Drops, Narrows, Tests, Turns}

-- ---- names

module _ (fs gs : List Function) (keeps : KeepsArguments fs gs) (n : ℕ) where
  item_in : (item : Item) → ItemIn fs n item → ItemIn gs n item
  item_in (Assign v x) i = i
  item_in (Load v kind x) i = i
  item_in (Store width x y) i = i
  item_in (Print spelling x) i = i
  item_in (Expect (Place width x)) i = i
  item_in (Expect (InBounds x offset)) i = i
  item_in (Expect (Zero x)) i = i
  item_in (Expect (Room g)) i = subst (λ (n : ℕ). g < n) (sym keeps.count) i
  item_in (Expect Frame) i = tt
  item_in (Expect Abort) i = tt
  item_in Break i = tt
  item_in Continue i = tt
  item_in (Call v g xs) i = (i.0, keeps.takes g (length xs) i.1, i.2)
  item_in (Return x) i = i
  item_in (Halt x) i = i

  pub names_in : (c d : Form) → Elides c d → Each (ItemIn fs n) (TestIn n) c → Each (ItemIn gs n) (TestIn n) d
  names_in c d Ends i = tt
  names_in c d (Keeps place item k k' h) i = (item_in item i.0, names_in k k' h i.1)
  names_in c d (Drops place width v k k' some h) i = (((some, i.0), i.0), names_in k k' h i.1)
  names_in c d (Narrows place width width' v k k' h) i = (i.0, names_in k k' h i.1)
  names_in c d (Tests place t a a' b b' k k' f g h) i = (i.0, names_in a a' f i.1, names_in b b' g i.2, names_in k k' h i.3)
  names_in c d (Turns place b b' s s' k k' f g h) i = (names_in b b' f i.0, names_in s s' g i.1, names_in k k' h i.2)

-- ---- where code goes

pub stays_same : (c d : Form) (inside : Bool) → Elides c d → stays inside d ≡ stays inside c
stays_same c d inside Ends = refl
stays_same c d inside (Keeps place item k k' h) = ap (λ (b : Bool). (inside || not (is_jump item)) && b) (stays_same k k' inside h)
stays_same c d inside (Drops place width v k k' some h) = ap (λ (b : Bool). (inside || true) && b) (stays_same k k' inside h)
stays_same c d inside (Narrows place width width' v k k' h) = ap (λ (b : Bool). (inside || true) && b) (stays_same k k' inside h)
stays_same c d inside (Tests place t a a' b b' k k' f g h) = rw (stays_same a a' inside f, stays_same b b' inside g, stays_same k k' inside h) refl
stays_same c d inside (Turns place b b' s s' k k' f g h) = rw (stays_same b b' true f, stays_same s s' true g, stays_same k k' inside h) refl

pub closes_same : (c d : Form) → Elides c d → closes d ≡ closes c
closes_same c d Ends = refl
closes_same c d (Keeps place item k k' h) = ap (λ (b : Bool). is_end item || b) (closes_same k k' h)
closes_same c d (Drops place width v k k' some h) = closes_same k k' h
closes_same c d (Narrows place width width' v k k' h) = closes_same k k' h
closes_same c d (Tests place t a a' b b' k k' f g h) = closes_same k k' h
closes_same c d (Turns place b b' s s' k k' f g h) = closes_same k k' h

pub never_same : (c d : Form) → Elides c d → never_returns d ≡ never_returns c
never_same c d Ends = refl
never_same c d (Keeps place item k k' h) = ap (λ (b : Bool). not (is_return item) && b) (never_same k k' h)
never_same c d (Drops place width v k k' some h) = never_same k k' h
never_same c d (Narrows place width width' v k k' h) = never_same k k' h
never_same c d (Tests place t a a' b b' k k' f g h) = rw (never_same a a' f, never_same b b' g, never_same k k' h) refl
never_same c d (Turns place b b' s s' k k' f g h) = rw (never_same b b' f, never_same s s' g, never_same k k' h) refl

-- ---- what is set first

-- a set that holds the variable is as it was with it
with_itself : (d : VariableSet) (v : ℕ) → d v ≡ true → with_set v d ≡ d
with_itself d v h = fun_ext (λ u. by u (nat_eq u v) refl) where
  by : (u : ℕ) (b : Bool) → nat_eq u v ≡ b → (b || d u) ≡ d u
  by u true is = let same : u ≡ v = grind (arith, nat_tests) in sym (ap d same ∙ h)
  by u false is = refl

-- and what is set behind is the same
abbrev IsFirst : VariableSet → Form → Form → Type 0
IsFirst set c d = IsSetFirst form_flow set d × (assured form_flow set d ≡ assured form_flow set c)

pub first_kept : (c d : Form) (set : VariableSet) → Elides c d → IsSetFirst form_flow set c → IsFirst set c d
first_kept c d set Ends r = (tt, refl)
first_kept c d set (Keeps place item k k' h) r = let rest = first_kept k k' (form_flow.after set item) h r.1 in ((r.0, rest.0), rest.1)
first_kept c d set (Drops place width v k k' some h) r =
    let rest = first_kept k k' set h r.1 in
    let same : set ≡ with_set v set = sym (with_itself set v r.0) in (
      (r.0, subst (λ (z : VariableSet). IsSetFirst form_flow z k') same rest.0),
      subst (λ (z : VariableSet). assured form_flow z k' ≡ assured form_flow set k) same rest.1,
    )
first_kept c d set (Narrows place width width' v k k' h) r = let rest = first_kept k k' set h r.1 in ((r.0, rest.0), rest.1)
first_kept c d set (Tests place t a a' b b' k k' f g h) r =
    let in_a = first_kept a a' set f r.1 in
    let in_b = first_kept b b' set g r.2 in
    let meet : VariableSet → VariableSet → VariableSet = λ x y v. x v && y v in
    let rest = first_kept k k' (meet (assured form_flow set a) (assured form_flow set b)) h r.3 in
    let both : meet (assured form_flow set a) (assured form_flow set b) ≡ meet (assured form_flow set a') (assured form_flow set b') =
    sym (ap (λ (x : VariableSet). meet x (assured form_flow set b')) in_a.1 ∙ ap (meet (assured form_flow set a)) in_b.1) in (
      (r.0, in_a.0, in_b.0, subst (λ (z : VariableSet). IsSetFirst form_flow z k') both rest.0),
      subst (λ (z : VariableSet). assured form_flow z k' ≡ assured form_flow (meet (assured form_flow set a) (assured form_flow set b)) k) both rest.1,
    )
first_kept c d set (Turns place b b' s s' k k' f g h) r =
    let in_b = first_kept b b' set f r.0 in
    let in_s = first_kept s s' set g r.1 in
    let rest = first_kept k k' set h r.2 in ((in_b.0, in_s.0, rest.0), rest.1)

-- ---- what leads to addresses

module _ (of : ℕ → VariableSet) (set : VariableSet) where
  pub addresses_kept : (c d : Form) → Elides c d → Each (AddressesKept of set) (λ t. Unit {0}) c → Each (AddressesKept of set) (λ t. Unit {0}) d
  addresses_kept c d Ends r = tt
  addresses_kept c d (Keeps place item k k' h) r = (r.0, addresses_kept k k' h r.1)
  addresses_kept c d (Drops place width v k k' some h) r = ((λ is. is), addresses_kept k k' h r.1)
  addresses_kept c d (Narrows place width width' v k k' h) r = (r.0, addresses_kept k k' h r.1)
  addresses_kept c d (Tests place t a a' b b' k k' f g h) r = (tt, addresses_kept a a' f r.1, addresses_kept b b' g r.2, addresses_kept k k' h r.3)
  addresses_kept c d (Turns place b b' s s' k k' f g h) r = (addresses_kept b b' f r.0, addresses_kept s s' g r.1, addresses_kept k k' h r.2)

-- what is counted alike in a check and where a variable is set to itself is counted alike in code
module _ (f : Item → ℕ) (t : Test → ℕ) (alike : (width : Width) (v : ℕ) → f (itself v) ≡ f (Expect (Place width (Variable v)))) where
  pub counts_same : (c d : Form) → Elides c d → tally f t d ≡ tally f t c
  counts_same c d Ends = refl
  counts_same c d (Keeps place item k k' h) = ap (λ (n : ℕ). f item + n) (counts_same k k' h)
  counts_same c d (Drops place width v k k' some h) = rw (alike width v, counts_same k k' h) refl
  counts_same c d (Narrows place width width' v k k' h) =
      let same : f (Expect (Place width' (Variable v))) ≡ f (Expect (Place width (Variable v))) = sym (alike width' v) ∙ alike width v in
      rw (same, counts_same k k' h) refl
  counts_same c d (Tests place test a a' b b' k k' i j h) = rw (counts_same a a' i, counts_same b b' j, counts_same k k' h) refl
  counts_same c d (Turns place b b' s s' k k' i j h) = rw (counts_same b b' i, counts_same s s' j, counts_same k k' h) refl

pub size_same : (c d : Form) → Elides c d → form_size d ≡ form_size c
size_same c d Ends = refl
size_same c d (Keeps place item k k' h) = ap (λ (n : ℕ). item_weight item + n) (size_same k k' h)
size_same c d (Drops place width v k k' some h) = ap (λ (n : ℕ). 1 + n) (size_same k k' h)
size_same c d (Narrows place width width' v k k' h) = ap (λ (n : ℕ). 1 + n) (size_same k k' h)
size_same c d (Tests place test a a' b b' k k' i j h) = rw (size_same a a' i, size_same b b' j, size_same k k' h) refl
size_same c d (Turns place b b' s s' k k' i j h) = rw (size_same b b' i, size_same s s' j, size_same k k' h) refl
