-- A function's form: its parts, one behind the other, and its links.
use Rattle.std.proofs.Common.{◌≡◌, ◌⊎◌, ℕ, ◌+◌, ◌-◌, ◌^◌, ◌<◌, ◌≤◌, Bool, true, false, if◌then◌else◌, List, [], ◌∷◌, length, drop, get_or, inl, inr, refl, ap, sym, ◌∙◌, subst, arith}
use Rattle.std.proofs.lemmas.List.{drop_all}
use Rattle.std.specs.Prelude.{nat_eq, slice_get, Option, Some, None}
use Rattle.dae_base.proofs.Laws.{drop_at}
use Rattle.dae_base.specs.declared.Place.{Place}
use Rattle.dae_lower_formed.specs.Formed.{IsFunctionFormOf, form_variables, plain}
use Rattle.dae_ir.specs.Code.{Done, Do}
use Rattle.dae_ir.specs.Form.{Form}
use Rattle.dae_ir.specs.declared.form.Check.TheVariants.{Frame}
use Rattle.dae_ir.specs.declared.form.Function.{Function as FormFunction}
use Rattle.dae_ir.specs.declared.form.Item.{Item}
use Rattle.dae_ir.specs.declared.form.Item.TheVariants.{Assign, Expect, Store}
use Rattle.dae_ir.specs.declared.form.Operand.TheVariants.{Variable}
use Rattle.dae_ir.specs.declared.form.Value.TheVariants.{FrameAddress}
use Rattle.dae_lower.specs.Lowering.{Made, checks, closed, emit, function_code, is_closed, one, only, parameters_stored, skip, ◌⨾◌, ◌≫◌}
use Rattle.dae_lower_expressions.specs.Lowered.{LoweringState, Whole}
use Rattle.dae_lower_programs.proofs.Closing.{front_closed}
use Rattle.dae_lower_programs.proofs.Reserving.{one_reserved}
use Rattle.dae_lower_programs.specs.Functions.{HasNumbers, HasNumbersWith, IsFormWith, linked, slot_stored}
use Rattle.dae_lower_programs.proofs.Laws.{then_whole, two_items}
use Rattle.dae_lower_maker.specs.Counting.{never}
use Rattle.dae_lower_maker.specs.Making.{CodeSoFar, Writes}
use Rattle.dae_lower_maker.specs.Numbers.{late, late_in, number_after}
use Rattle.dae_lower_maker.proofs.Laws.{below_or_last, late_checks, late_then}
use Rattle.dae_program.specs.Resolved.{address_in, callee_in}
use Rattle.dae_program.specs.Trees as tree
use Rattle.dae_program.specs.Views.{view_statements}
use Rattle.dae_program.specs.declared.program.Function.{Function}
use Rattle.dae_program.specs.declared.program.Links.{Links}
use Rattle.dae_program.specs.declared.program.Program.{Program}
use Rattle.dae_program.specs.declared.program.FrameSlot.{FrameSlot}

-- ---- parameters

-- a parameter, and then those behind it
slots_split : (p : Place) (slot : Option FrameSlot) (slots : List (Option FrameSlot)) (k n : ℕ) → parameters_stored p (slot ∷ slots) k n ≡ (parameters_stored p (slot ∷ []) k n ≫ λ x. parameters_stored p slots (k + 1))
slots_split p None slots k n = refl
slots_split p (Some slot) slots k n = refl

pub slots_at : (p : Place) (slots : List (Option FrameSlot)) (i : ℕ) (slot : Option FrameSlot) (k : ℕ) → i < length slots → slot ≡ get_or slots i slot → (n : ℕ) → parameters_stored p (drop i slots) k n ≡ (parameters_stored p (slot ∷ []) k n ≫ λ x. parameters_stored p (drop (i + 1) slots) (k + 1))
slots_at p slots i slot k lt is n = ap (λ s. parameters_stored p s k n) (drop_at slots i slot lt is) ∙ slots_split p slot (drop (i + 1) slots) k n

pub slots_end : (p : Place) (slots : List (Option FrameSlot)) (i k : ℕ) → length slots ≤ i → parameters_stored p (drop i slots) k ≡ skip
slots_end p slots i k le = ap (λ s. parameters_stored p s k) (drop_all i slots le)

-- the address in the next variable, and the store
pub slot_written : (p : Place) (v : ℕ) (slot : FrameSlot) (a b c d : CodeSoFar) (address : ℕ) → address ≡ a.next → b ≡ record { code = a.code; next = number_after address }
    → Writes (only (one p (Assign address (FrameAddress slot.offset))) (tt {0}) b.next) b c tt
    → Writes (only (one p (Store slot.width (Variable address) (Variable v))) (tt {0}) c.next) c d tt
    → Writes (slot_stored p v slot a.next) a d tt
slot_written p v slot a b c d address is begun h k =
    one_reserved (emit (stored address) b.next) (slot_stored p v slot a.next) a b d address tt is begun
    (two_items p (Assign address (FrameAddress slot.offset)) (Store slot.width (Variable address) (Variable v)) b c d h k)
    (λ more same w. record {
      code = w.code ∙ ap (λ (f : Form). f ⨾ stored address) same ∙ ap (λ (n : ℕ). a.code ⨾ stored n) is;
      given = refl;
      next = w.next ∙ more ∙ ap (λ (n : ℕ). n + 1) is;
    })
    (λ some. subst (λ (n : ℕ). 0 < late_in (stored n)) is some)
    (subst (λ (n : ℕ). late n ≤ late_in (slot_stored p v slot a.next).code) (sym is) (omega arith)) where
      stored : ℕ → Form
      stored n = Do p (Assign n (FrameAddress slot.offset)) (one p (Store slot.width (Variable n) (Variable v)))

-- ---- the parts

-- what is written of a function with n variables of its own
pub record Written_so (p : Place) (flag : Bool) (body : ℕ → Made (Unit {0})) (n : ℕ) (d : LoweringState) : Type 0 where
  pub fits : d.written.next < 2 ^ 32 - 1 → (d.written.code ≡ checks flag p (Expect Frame) Done ⨾ (body n).code) × (d.written.next ≡ (body n).next)
  pub full : n < 2 ^ 32 - 1 → 2 ^ 32 - 1 ≤ d.written.next → 0 < late_in (body n).code

abbrev pub begun : ℕ → LoweringState
begun n = record { written = record { code = Done; next = n }; later = never }

frame_late : (flag : Bool) (p : Place) → late_in (checks flag p (Expect Frame) Done) ≡ 0
frame_late true p = refl
frame_late false p = refl

pub function_written : (p : Place) (flag : Bool) (first second : ℕ → Made (Unit {0})) (n : ℕ) (a b c d : LoweringState) → a ≡ begun n
    → Whole (emit (checks flag p (Expect Frame) Done)) a b tt → Whole first b c tt → Whole second c d tt
    → Written_so p flag (λ n. first n ≫ λ x. second) n d
function_written p flag first second n a b c d is h i j = record {
  fits = λ lt. let w = all_written.1 in let e = w.fits lt in (e.code, e.next);
  full = λ start over.
      let w = all_written.1 in
      let some = w.full start over in
      let l = late_then (checks flag p (Expect Frame) Done) (first n ≫ λ x. second).code in
      let none = frame_late flag p in omega (arith, l, none, some);
} where
  front : ℕ → Made (Unit {0})
  front = emit (checks flag p (Expect Frame) Done)

  all : ℕ → Made (Unit {0})
  all n = first n ≫ λ x. second

  all_written : (d.later ≡ never) × Writes (front n ≫ λ x. all) (let s = begun n in s.written) d.written tt
  all_written =
      let e = then_whole front (λ x. all) (begun n) b d tt tt (subst (λ (s : LoweringState). Whole front s b tt) is h) (then_whole first (λ x. second) b c d tt tt i j) in
      e.by refl

-- with its end
pub code_closed : (p : Place) (flag : Bool) (last : Item) (body : ℕ → Made (Unit {0})) (n : ℕ) (d : LoweringState) (block code : Form) → d.written.code ≡ checks flag p (Expect Frame) Done ⨾ (body n).code → block ≡ d.written.code → code ≡ closed p last block → code ≡ checks flag p (Expect Frame) (closed p last (body n).code)
code_closed p flag last body n d block code w e h = h ∙ ap (closed p last) (e ∙ w) ∙ front_closed flag p Frame last (body n).code

closed_late : (p : Place) (last : Item) (code : Form) → late_in code ≤ late_in (closed p last code)
closed_late p last code = by (is_closed code) where
  by : (b : Bool) → late_in code ≤ late_in (if b then code else code ⨾ one p last)
  by true = omega arith
  by false = let l = late_then code (one p last) in omega (arith, l)

-- where no item sets one of the last variables, numbers don't come to the last
pub stays_below : (p : Place) (flag : Bool) (last : Item) (body : ℕ → Made (Unit {0})) (n : ℕ) (d : LoweringState) → Written_so p flag body n d → n < 2 ^ 32 - 1 → late_in (checks flag p (Expect Frame) (closed p last (body n).code)) ≡ 0 → d.written.next < 2 ^ 32 - 1
stays_below p flag last body n d w start none = by (below_or_last d.written.next) where
  by : (d.written.next < 2 ^ 32 - 1) ⊎ (2 ^ 32 - 1 ≤ d.written.next) → d.written.next < 2 ^ 32 - 1
  by (inl lt) = lt
  by (inr le) =
      let some = w.full start le in
      let c = closed_late p last (body n).code in
      let l = late_checks flag p (Expect Frame) (closed p last (body n).code) in absurd (omega (arith, some, c, l, none))

-- ---- links

-- the plain data of a function, where its links are these or none
abbrev view_with : ℕ → Option Links → Function → tree.Function
view_with none links f = record {
  address = address_in links;
  callee = callee_in none links;
  parameters = f.parameters;
  frame = f.frame;
  body = view_statements f.body;
}

by_plain : (p : Program) (links : Links) (k : ℕ) (f : Function) (g : FormFunction) → linked (length p.functions) links f ≡ plain p f → IsFormWith (length p.functions) links (nat_eq k p.main) f g → IsFunctionFormOf p k f g
by_plain p links k f g e h = record {
  name = h.name;
  parameters = h.parameters;
  variables = h.variables ∙ ap (λ t. form_variables f.place t f.variables) e;
  frame = h.frame;
  body = h.body ∙ ap (λ t. function_code f.place (nat_eq k p.main) t f.variables) e;
}

pub links_there : (p : Program) (links : Links) (k : ℕ) (f : Function) (g : FormFunction) → slice_get p.links f.file ≡ Some links → IsFormWith (length p.functions) links (nat_eq k p.main) f g → IsFunctionFormOf p k f g
links_there p links k f g e = by_plain p links k f g (ap (λ o. view_with (length p.functions) o f) (sym e))

pub links_missing : (p : Program) (links : Links) (k : ℕ) (f : Function) (g : FormFunction) → slice_get p.links f.file ≡ None → links.addresses ≡ [] → links.functions ≡ [] → IsFormWith (length p.functions) links (nat_eq k p.main) f g → IsFunctionFormOf p k f g
links_missing p links k f g e a b = by_plain p links k f g (ap (λ (xs : List ℕ). of xs links.functions) a ∙ ap (of []) b ∙ ap (λ o. view_with (length p.functions) o f) (sym e)) where
  of : List ℕ → List ℕ → tree.Function
  of xs ys = view_with (length p.functions) (Some (record { addresses = xs; functions = ys })) f

-- words number the variables of a function by the links of its file too
pub numbers_there : (p : Program) (links : Links) (k : ℕ) (f : Function) → slice_get p.links f.file ≡ Some links → HasNumbers p k f → HasNumbersWith (length p.functions) links (nat_eq k p.main) f
numbers_there p links k f e h = (h.0, ap (λ o. late_in (function_code f.place (nat_eq k p.main) (view_with (length p.functions) o f) f.variables)) (sym e) ∙ h.1)

pub numbers_missing : (p : Program) (links : Links) (k : ℕ) (f : Function) → slice_get p.links f.file ≡ None → links.addresses ≡ [] → links.functions ≡ [] → HasNumbers p k f → HasNumbersWith (length p.functions) links (nat_eq k p.main) f
numbers_missing p links k f e a b h =
    (h.0, ap (λ (t : tree.Function). late_in (function_code f.place (nat_eq k p.main) t f.variables)) (ap (λ (xs : List ℕ). of xs links.functions) a ∙ ap (of []) b ∙ ap (λ o. view_with (length p.functions) o f) (sym e)) ∙ h.1) where
      of : List ℕ → List ℕ → tree.Function
      of xs ys = view_with (length p.functions) (Some (record { addresses = xs; functions = ys })) f
