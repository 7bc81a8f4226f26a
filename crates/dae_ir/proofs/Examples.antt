-- The definitions, tried on small programs.
use Rattle.std.proofs.Common.{◌≡◌, ℕ, Bool, true, false, ◌||◌, nat_eq, if◌then◌else◌, [], ◌∷◌, ◌++◌, refl}
use Rattle.std.specs.Prelude.{replicate}
use Rattle.dae_meaning.specs.Operations.{compared, misplaced, combined, spelled}
use Rattle.dae_base.specs.declared.Place.{Place}
use Rattle.dae_base.specs.declared.Width.TheVariants.{B4}
use Rattle.dae_base.specs.declared.LoadKind.TheVariants.{I32}
use Rattle.dae_meaning.specs.Worlds.{World}
use Rattle.dae_meaning.specs.Results.{Over, Halted, Trapped, Astray, world_of}
use Rattle.dae_ir.specs.Code.{Done, Do, If, Loop}
use Rattle.dae_ir.specs.Form.{Form, Program, calls_of, all_loads}
use Rattle.dae_ir.specs.Classes.{Classes}
use Rattle.dae_ir.specs.Canonical.{pair_calls_of}
use Rattle.dae_ir.specs.Sizes.{own_loads, loads_for_e, stores, conditions_a, conditions_e}
use Rattle.dae_ir.specs.Streams.{Actions, stream_of}
use Rattle.dae_ir.specs.Budgets.{some, in_group, never, is_told, is_message, is_own_load, is_address, is_datum, is_load_for_e, is_copy}
use Rattle.dae_ir.specs.declared.form.Operand.TheVariants.{Variable, Number}
use Rattle.dae_meaning.specs.declared.Operator.TheVariants.{Add, Multiply, DivideSigned}
use Rattle.dae_meaning.specs.declared.Comparison.TheVariants.{NotEqual, LessSigned}
use Rattle.dae_ir.specs.declared.form.Value.TheVariants.{Same, Binary}
use Rattle.dae_meaning.specs.declared.Spelling.TheVariants.{Byte, Signed}
use Rattle.dae_ir.specs.declared.form.Check.TheVariants.{Place as Good, Zero}
use Rattle.dae_ir.specs.declared.form.Item.TheVariants.{Assign, Load, Store, Print, Expect, Break, Call, Return, Halt}

abbrev here : Place
here = record { file = 0; line = 1; col = 1 }

abbrev alone : Form → Program
alone code = record { body = λ f. code; frame = λ f. 0; limit = 1 }

-- int s[4]; int main(void) { int i = 0; while (i < 4) { s[i] = i; i++; } printf("%d\n", s[3]); return 0; }
abbrev filled : Form
filled =
    Do here (Assign 1 (Same (Number 0))) (
    Loop here
    (If here (record { comparison = LessSigned; left = Variable 1; right = Number 4 }) Done (Do here Break Done) (
    Do here (Assign 2 (Binary Multiply (Variable 1) (Number 4))) (
    Do here (Assign 3 (Binary Add (Number 16) (Variable 2))) (
    Do here (Expect (Good B4 (Variable 3))) (
    Do here (Store B4 (Variable 3) (Variable 1)) (
    Do here (Assign 4 (Binary Add (Variable 1) (Number 1))) (
    Do here (Assign 1 (Same (Variable 4))) Done)))))))
    Done (
    Do here (Expect (Good B4 (Number 28))) (
    Do here (Load 5 I32 (Number 28)) (
    Do here (Print Signed (Variable 5)) (
    Do here (Print Byte (Number 10)) (
    Do here (Halt (Number 0)) Done))))))

-- i is both processors', and the condition A's
abbrev filled_classes : ℕ → Classes
filled_classes f = record { s = λ v. nat_eq v 1 || (nat_eq v 2 || (nat_eq v 3 || nat_eq v 4)); needs = λ v. nat_eq v 1 || nat_eq v 5 }

abbrev side : Bool → (ℕ → Classes) → Form → Actions
side by_a of code = stream_of by_a of (of 0) 4 code

filled_al : some is_own_load never (side true filled_classes filled) ≡ false
filled_al = refl

filled_sa : some is_address never (side true filled_classes filled) ≡ true
filled_sa = refl

filled_sd : some is_datum never (side false filled_classes filled) ≡ true
filled_sd = refl

filled_ab : some is_message is_told (side true filled_classes filled) ≡ true
filled_ab = refl

filled_eb : some is_message is_told (side false filled_classes filled) ≡ false
filled_eb = refl

filled_ld : in_group is_load_for_e 1 (side true filled_classes filled) ≡ 1
filled_ld = refl

filled_cq : in_group is_copy 0 (side true filled_classes filled) ≡ 1
filled_cq = refl

abbrev start : World
start = record { memory = replicate 64 0; printed = []; frame = 32; top = 32; depth = 0; items = 0; loads = 0; stores = 0 }

filled_prints : (world_of (calls_of (alone filled) all_loads 5 1 0 [] start)).printed ≡ ([] ++ spelled Signed 3) ++ spelled Byte 10
unfolding compared misplaced combined
filled_prints = refl

filled_needs_turns : (world_of (calls_of (alone filled) all_loads 4 1 0 [] start)).printed ≡ []
unfolding compared misplaced combined
filled_needs_turns = refl

filled_stores : (world_of (calls_of (alone filled) all_loads 5 1 0 [] start)).stores ≡ 4
unfolding compared misplaced combined
filled_stores = refl

filled_pair : world_of (pair_calls_of (alone filled) filled_classes 4 5 1 0 [] [] start) ≡ world_of (calls_of (alone filled) all_loads 5 1 0 [] start)
unfolding compared misplaced combined
filled_pair = refl

-- int main(void) { for (;;); return 0; }
abbrev endless : Form
endless = Loop here Done Done (Do here (Halt (Number 0)) Done)

abbrev none : ℕ → Classes
none f = record { s = λ v. false; needs = λ v. false }

-- a region of A's with a message at its end
endless_ab : some is_message is_told (side true none endless) ≡ true
endless_ab = refl

endless_eb : some is_message is_told (side false none endless) ≡ false
endless_eb = refl

-- int main(void) { int n = 10; int d = 0; if (n > 5) n = n / d; printf("%d\n", n); return 0; }
abbrev divided : Form
divided =
    Do here (Assign 1 (Same (Number 10))) (
    Do here (Assign 2 (Same (Number 0))) (
    If here (record { comparison = LessSigned; left = Number 5; right = Variable 1 })
    (Do here (Expect (Zero (Variable 2))) (
    Do here (Assign 3 (Binary DivideSigned (Variable 1) (Variable 2))) (
    Do here (Assign 1 (Same (Variable 3))) Done)))
    Done (
    Do here (Print Signed (Variable 1)) (
    Do here (Print Byte (Number 10)) (
    Do here (Halt (Number 0)) Done)))))

abbrev all_e : ℕ → Classes
all_e f = record { s = λ v. false; needs = λ v. true }

divided_ab : some is_message is_told (side true all_e divided) ≡ false
divided_ab = refl

divided_eb : some is_message is_told (side false all_e divided) ≡ true
divided_eb = refl

-- int main(void) { int n = 3; while (n != 1) n = n - 1; printf("%d\n", n); return 0; }, all of it E's
abbrev counted_down : Form
counted_down =
    Do here (Assign 1 (Same (Number 3))) (
    Loop here
    (If here (record { comparison = NotEqual; left = Variable 1; right = Number 1 }) Done (Do here Break Done) (
    Do here (Assign 2 (Binary Add (Variable 1) (Number 4294967295))) (
    Do here (Assign 1 (Same (Variable 2))) Done)))
    Done (
    Do here (Print Signed (Variable 1)) (
    Do here (Halt (Number 0)) Done)))

counted_down_ab : some is_message is_told (side true all_e counted_down) ≡ false
counted_down_ab = refl

counted_down_eb : some is_message is_told (side false all_e counted_down) ≡ false
counted_down_eb = refl

counted_down_pair : (world_of (pair_calls_of (alone counted_down) all_e 4 5 1 0 [] [] start)).printed ≡ [] ++ spelled Signed 1
unfolding compared misplaced combined
counted_down_pair = refl

-- what a report counts
filled_loads_e : loads_for_e (filled_classes 0) filled ≡ 1
filled_loads_e = refl

filled_loads_a : own_loads (filled_classes 0) filled ≡ 0
filled_loads_a = refl

filled_stores_counted : stores filled ≡ 1
filled_stores_counted = refl

filled_conditions_a : conditions_a (filled_classes 0) filled ≡ 1
filled_conditions_a = refl

filled_conditions_e : conditions_e (filled_classes 0) filled ≡ 0
filled_conditions_e = refl

-- a load at an address that isn't good goes astray, and where it is checked it traps
abbrev strays : Form
strays = Do here (Load 1 I32 (Number 18)) (Do here (Halt (Number 0)) Done)

strays_goes_astray : calls_of (alone strays) all_loads 1 1 0 [] start ≡ Over Astray (record start { depth = 1 })
unfolding misplaced
strays_goes_astray = refl

checked_traps : calls_of (alone (Do here (Expect (Good B4 (Number 18))) strays)) all_loads 1 1 0 [] start ≡ Over (Trapped 3) (record start { depth = 1; items = 1 })
unfolding misplaced
checked_traps = refl

-- and so does a call that the limit has no room for; a call counts two items, and one for each argument
abbrev recurs : Form
recurs = Do here (Call 1 0 (Number 7 ∷ [])) (Do here (Halt (Number 0)) Done)

recurs_goes_astray : calls_of (alone recurs) all_loads 1 1 0 [] start ≡ Over Astray (record start { depth = 1 })
recurs_goes_astray = refl

abbrev caller : Form
caller = Do here (Call 1 1 (Number 7 ∷ [])) (Do here (Halt (Variable 1)) Done)

abbrev answering : Program
answering = record { body = λ f. if nat_eq f 0 then caller else Do here (Return (Number 5)) Done; frame = λ f. 0; limit = 2 }

answers : calls_of answering all_loads 1 2 0 [] start ≡ Over (Halted 5) (record start { depth = 1; items = 5 })
answers = refl
