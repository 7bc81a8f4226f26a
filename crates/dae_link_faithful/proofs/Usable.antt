-- What the code takes from a form that is ready: its functions return or halt at their ends, its numbers are words, and main
-- has no parameters.
use Rattle.std.proofs.Common.{◌≡◌, ℕ, ◌<◌, Bool, true, false, List, [], ◌∷◌, length, refl}
use Rattle.std.specs.Prelude.{Option, Some, None, slice_get}
use Rattle.std.specs.List.{AllByRecursion}
use Rattle.std.proofs.lemmas.Option.{slice_get_within}
use Rattle.dae_ir.specs.Code.{Done, Do, If, Loop, Each}
use Rattle.dae_ir.specs.Form.{Form, form_of}
use Rattle.dae_ir.specs.Scope.{IsIn, ValueIn, TestIn, ItemIn, FunctionIn, IsMain, IsScoped, closes}
use Rattle.dae_ir.specs.SetFirst.{IsFunctionSetFirst}
use Rattle.dae_ir.specs.declared.form.Ir.{Ir}
use Rattle.dae_ir.specs.declared.form.Function.{Function}
use Rattle.dae_ir.specs.declared.form.Operand.{Operand}
use Rattle.dae_ir.specs.declared.form.Operand.TheVariants.{Variable, Number}
use Rattle.dae_ir.specs.declared.form.Value.{Value}
use Rattle.dae_ir.specs.declared.form.Value.TheVariants.{Same, Extended, Binary, Holds, FrameAddress}
use Rattle.dae_ir.specs.declared.form.Item.{Item}
use Rattle.dae_ir.specs.declared.form.Item.TheVariants.{Assign, Load, Store, Print, Expect, Break as Leave, Continue as Skip, Call as Enter, Return as Give, Halt}
use Rattle.dae_ir.specs.declared.form.Check.TheVariants.{Place, InBounds, Zero, Room, Frame, Abort}
use Rattle.dae_ir.specs.declared.form.Test.{Test}
use Rattle.dae_select_blocks.specs.Wanted.{IsNumber, AreNumbers}
use Rattle.dae_link_faithful.specs.Made.{IsReady, parameters_in}

-- a form that returns or halts at its end
abbrev pub FormCloses : Form → Type 0
FormCloses Done = ⊥
FormCloses (Do place (Give x) k) = Unit {0}
FormCloses (Do place (Halt x) k) = Unit {0}
FormCloses (Do place item k) = FormCloses k
FormCloses (If place t p q k) = FormCloses k
FormCloses (Loop place body step k) = FormCloses k

abbrev pub FormsClose : Ir → Type 0
FormsClose ir = AllByRecursion (λ (function : Function). FormCloses (form_of function.body)) ir.functions

abbrev pub AllNumbers : List Operand → Type 0
AllNumbers [] = Unit {0}
AllNumbers (x ∷ xs) = IsNumber x × AllNumbers xs

-- the numbers in code are words
abbrev pub ItemNumbers : Item → Type 0
ItemNumbers (Assign v x) = AreNumbers x
ItemNumbers (Load v kind x) = IsNumber x
ItemNumbers (Store width x y) = IsNumber x × IsNumber y
ItemNumbers (Print spelling x) = IsNumber x
ItemNumbers (Expect (Place width x)) = IsNumber x
ItemNumbers (Expect (InBounds x offset)) = IsNumber x × (offset < 2048)
ItemNumbers (Expect (Zero x)) = IsNumber x
ItemNumbers (Expect check) = Unit {0}
ItemNumbers Leave = Unit {0}
ItemNumbers Skip = Unit {0}
ItemNumbers (Enter v f xs) = AllNumbers xs
ItemNumbers (Give x) = IsNumber x
ItemNumbers (Halt x) = IsNumber x

abbrev pub TestNumbers : Test → Type 0
TestNumbers t = IsNumber t.left × IsNumber t.right

abbrev pub HasNumbers : Function → Type 0
HasNumbers function = Each ItemNumbers TestNumbers (form_of function.body)

pub record IsUsable (ir : Ir) : Type 0 where
  pub scoped : IsScoped ir
  pub main : ir.main < length ir.functions
  pub closes' : FormsClose ir
  pub first : AllByRecursion IsFunctionSetFirst ir.functions
  pub numbers : AllByRecursion HasNumbers ir.functions
  pub alone : parameters_in (slice_get ir.functions ir.main) ≡ 0

form_closes : (code : Form) → closes code ≡ true → FormCloses code
form_closes Done e = absurd (let f : false ≡ true = e in cc)
form_closes (Do place (Give x) k) e = tt
form_closes (Do place (Halt x) k) e = tt
form_closes (Do place (Assign v x) k) e = form_closes k e
form_closes (Do place (Load v kind x) k) e = form_closes k e
form_closes (Do place (Store width x y) k) e = form_closes k e
form_closes (Do place (Print spelling x) k) e = form_closes k e
form_closes (Do place (Expect check) k) e = form_closes k e
form_closes (Do place Leave k) e = form_closes k e
form_closes (Do place Skip k) e = form_closes k e
form_closes (Do place (Enter v f xs) k) e = form_closes k e
form_closes (If place t p q k) e = form_closes k e
form_closes (Loop place body step k) e = form_closes k e

number_in : (n : ℕ) (x : Operand) → IsIn n x → IsNumber x
number_in n (Variable v) h = tt
number_in n (Number k) h = h

numbers_in : (n : ℕ) (x : Value) → ValueIn n x → AreNumbers x
numbers_in n (Same x) h = number_in n x h
numbers_in n (Extended kind x) h = number_in n x h
numbers_in n (Binary operator x y) h = (number_in n x h.0, number_in n y h.1)
numbers_in n (Holds t) h = (number_in n t.left h.0, number_in n t.right h.1)
numbers_in n (FrameAddress offset) h = h

all_in : (n : ℕ) (xs : List Operand) → AllByRecursion (IsIn n) xs → AllNumbers xs
all_in n [] h = tt
all_in n (x ∷ xs) h = (number_in n x h.0, all_in n xs h.1)

module _ (functions : List Function) (n : ℕ) where
  item_in : (item : Item) → ItemIn functions n item → ItemNumbers item
  item_in (Assign v x) h = numbers_in n x h.1
  item_in (Load v kind x) h = number_in n x h.1
  item_in (Store width x y) h = (number_in n x h.0, number_in n y h.1)
  item_in (Print spelling x) h = number_in n x h
  item_in (Expect (Place width x)) h = number_in n x h
  item_in (Expect (InBounds x offset)) h = (number_in n x h.0, h.1)
  item_in (Expect (Zero x)) h = number_in n x h
  item_in (Expect (Room f)) h = tt
  item_in (Expect Frame) h = tt
  item_in (Expect Abort) h = tt
  item_in Leave h = tt
  item_in Skip h = tt
  item_in (Enter v f xs) h = all_in n xs h.2
  item_in (Give x) h = number_in n x h
  item_in (Halt x) h = number_in n x h

  code_in : (code : Form) → Each (ItemIn functions n) (TestIn n) code → Each ItemNumbers TestNumbers code
  code_in Done h = tt
  code_in (Do place item k) h = (item_in item h.0, code_in k h.1)
  code_in (If place t p q k) h = ((number_in n t.left h.0.0, number_in n t.right h.0.1), code_in p h.1, code_in q h.2, code_in k h.3)
  code_in (Loop place body step k) h = (code_in body h.0, code_in step h.1, code_in k h.2)

all_numbers : (functions fs : List Function) → AllByRecursion (FunctionIn functions) fs → AllByRecursion HasNumbers fs
all_numbers functions [] h = tt
all_numbers functions (f ∷ fs) h = (code_in functions f.variables (form_of f.body) h.0.names, all_numbers functions fs h.1)

all_close : (functions fs : List Function) → AllByRecursion (FunctionIn functions) fs → AllByRecursion (λ (function : Function). FormCloses (form_of function.body)) fs
all_close functions [] h = tt
all_close functions (f ∷ fs) h = (form_closes (form_of f.body) h.0.ends, all_close functions fs h.1)

main_there : (ir : Ir) (o : Option Function) → slice_get ir.functions ir.main ≡ o → IsMain o → (ir.main < length ir.functions) × (parameters_in o ≡ 0)
main_there ir None e h = absurd h
main_there ir (Some function) e h = (slice_get_within ir.functions ir.main function e, h.0)

pub usable : (ir : Ir) → IsReady ir → IsUsable ir
usable ir ready =
    let main = main_there ir (slice_get ir.functions ir.main) refl ready.scoped.main in
    record {
      scoped = ready.scoped;
      main = main.0;
      closes' = all_close ir.functions ir.functions ready.scoped.functions;
      first = ready.first;
      numbers = all_numbers ir.functions ir.functions ready.scoped.functions;
      alone = main.1;
    }
