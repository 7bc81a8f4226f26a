-- Code whose variables are renamed by their webs. The definitions of the code, its assignments, loads and calls, are numbered in the
-- order of the text. One may start a web: from there on another variable of the renamed code stands for the variable that is
-- defined. Any other goes on in the current web. A web that starts inside an If or a Loop is known nowhere but behind its start in
-- the same list, nor is what was current before: the variable has no web at the start of either list, nor behind both.
use Rattle.std.specs.Prelude.{ℕ, ◌+◌, List, [], ◌∷◌, Option, Some, None, slice_set}
use Rattle.dae_ir.specs.Code.{Done, Do, If, Loop}
use Rattle.dae_ir.specs.Form.{Form}
use Rattle.dae_ir.specs.declared.form.Operand.{Operand}
use Rattle.dae_ir.specs.declared.form.Operand.TheVariants.{Variable, Number}
use Rattle.dae_ir.specs.declared.form.Value.{Value}
use Rattle.dae_ir.specs.declared.form.Value.TheVariants.{Same, Extended, Binary, Holds, FrameAddress}
use Rattle.dae_ir.specs.declared.form.Test.{Test}
use Rattle.dae_ir.specs.declared.form.Check.{Check}
use Rattle.dae_ir.specs.declared.form.Check.TheVariants.{Place, InBounds, Zero, Room, Frame, Abort}
use Rattle.dae_ir.specs.declared.form.Item.{Item}
use Rattle.dae_ir.specs.declared.form.Item.TheVariants.{Assign, Load, Store, Print, Expect, Break, Continue, Call, Return, Halt}
use Rattle.dae_webs.specs.Current.{Current, written_as}

-- ---- what is read

abbrev pub renamed_operand : Current → Operand → Operand
renamed_operand m (Variable v) = Variable (written_as m v)
renamed_operand m (Number k) = Number k

abbrev pub renamed_operands : Current → List Operand → List Operand
renamed_operands m [] = []
renamed_operands m (x ∷ xs) = renamed_operand m x ∷ renamed_operands m xs

abbrev pub renamed_test : Current → Test → Test
renamed_test m t = record {
  comparison = t.comparison;
  left = renamed_operand m t.left;
  right = renamed_operand m t.right;
}

abbrev pub renamed_value : Current → Value → Value
renamed_value m (Same x) = Same (renamed_operand m x)
renamed_value m (Extended kind x) = Extended kind (renamed_operand m x)
renamed_value m (Binary operator x y) = Binary operator (renamed_operand m x) (renamed_operand m y)
renamed_value m (Holds t) = Holds (renamed_test m t)
renamed_value m (FrameAddress offset) = FrameAddress offset

abbrev pub renamed_check : Current → Check → Check
renamed_check m (Place width x) = Place width (renamed_operand m x)
renamed_check m (InBounds x offset) = InBounds (renamed_operand m x) offset
renamed_check m (Zero x) = Zero (renamed_operand m x)
renamed_check m (Room f) = Room f
renamed_check m Frame = Frame
renamed_check m Abort = Abort

-- ---- definitions

-- which definitions start a web, and which variable that is in the renamed code
abbrev pub Starts : Type 0
Starts = ℕ → Option ℕ

-- the variable that an item defines
abbrev pub variable_set : Item → Option ℕ
variable_set (Assign v x) = Some v
variable_set (Load v kind x) = Some v
variable_set (Call v f xs) = Some v
variable_set item = None

-- the number of the next definition behind an item, and behind code
abbrev pub counted_on : ℕ → Option ℕ → ℕ
counted_on n None = n
counted_on n (Some v) = n + 1

abbrev pub number_after : ℕ → Item → ℕ
number_after n item = counted_on n (variable_set item)

abbrev pub number_behind : ℕ → Form → ℕ
number_behind n Done = n
number_behind n (Do place item k) = number_behind (number_after n item) k
number_behind n (If place t p q k) = number_behind (number_behind (number_behind n p) q) k
number_behind n (Loop place p q k) = number_behind (number_behind (number_behind n p) q) k

-- the web that a definition of v sets, and the webs behind it
abbrev pub web_set : Option ℕ → Current → ℕ → ℕ
web_set None m v = written_as m v
web_set (Some u) m v = u

abbrev pub with_web : Option ℕ → Current → ℕ → Current
with_web None m v = m
with_web (Some u) m v = slice_set m v (Some u)

abbrev pub webs_next : Option ℕ → Current → Option ℕ → Current
webs_next o m None = m
webs_next o m (Some v) = with_web o m v

abbrev pub webs_after : Option ℕ → Current → Item → Current
webs_after o m item = webs_next o m (variable_set item)

abbrev pub renamed_item : Option ℕ → Current → Item → Item
renamed_item o m (Assign v x) = Assign (web_set o m v) (renamed_value m x)
renamed_item o m (Load v kind x) = Load (web_set o m v) kind (renamed_operand m x)
renamed_item o m (Store width x y) = Store width (renamed_operand m x) (renamed_operand m y)
renamed_item o m (Print spelling x) = Print spelling (renamed_operand m x)
renamed_item o m (Expect check) = Expect (renamed_check m check)
renamed_item o m Break = Break
renamed_item o m Continue = Continue
renamed_item o m (Call v f xs) = Call (web_set o m v) f (renamed_operands m xs)
renamed_item o m (Return x) = Return (renamed_operand m x)
renamed_item o m (Halt x) = Halt (renamed_operand m x)

-- ---- webs that start inside

abbrev pub without_web : Option ℕ → Current → ℕ → Current
without_web None m v = m
without_web (Some u) m v = slice_set m v None

abbrev pub without_next : Option ℕ → Current → Option ℕ → Current
without_next o m None = m
without_next o m (Some v) = without_web o m v

-- no variable of which a web starts in the code, whose first definition has this number, has a web
abbrev pub without_started : Starts → ℕ → Current → Form → Current
without_started b n m Done = m
without_started b n m (Do place item k) =
    without_started b (number_after n item) (without_next (b n) m (variable_set item)) k
without_started b n m (If place t p q k) =
    without_started b (number_behind (number_behind n p) q)
    (without_started b (number_behind n p) (without_started b n m p) q) k
without_started b n m (Loop place p q k) =
    without_started b (number_behind (number_behind n p) q)
    (without_started b (number_behind n p) (without_started b n m p) q) k

-- nor in the second of two lists
abbrev pub without_both : Starts → ℕ → Form → Form → Current → Current
without_both b n p q m = without_started b (number_behind n p) (without_started b n m p) q

-- ---- code

-- the webs behind code
abbrev pub webs_behind : Starts → ℕ → Current → Form → Current
webs_behind b n m Done = m
webs_behind b n m (Do place item k) =
    webs_behind b (number_after n item) (webs_after (b n) m item) k
webs_behind b n m (If place t p q k) =
    webs_behind b (number_behind (number_behind n p) q)
    (without_both b n p q
    (webs_behind b (number_behind n p)
    (without_both b n p q (webs_behind b n (without_both b n p q m) p)) q)) k
webs_behind b n m (Loop place p q k) =
    webs_behind b (number_behind (number_behind n p) q)
    (without_both b n p q
    (webs_behind b (number_behind n p)
    (without_both b n p q (webs_behind b n (without_both b n p q m) p)) q)) k

-- of an If and of a Loop: at the start of its second list, and behind it, where these are current at the start of its first
abbrev pub at_second : Starts → ℕ → Form → Form → Current → Current
at_second b n p q m = without_both b n p q (webs_behind b n m p)

abbrev pub at_rest : Starts → ℕ → Form → Form → Current → Current
at_rest b n p q m =
    without_both b n p q (webs_behind b (number_behind n p) (at_second b n p q m) q)

-- code before which so many definitions stand
abbrev pub renamed_code : Starts → ℕ → Current → Form → Form
renamed_code b n m Done = Done
renamed_code b n m (Do place item k) =
    Do place (renamed_item (b n) m item)
    (renamed_code b (number_after n item) (webs_after (b n) m item) k)
renamed_code b n m (If place t p q k) =
    If place (renamed_test m t) (renamed_code b n (without_both b n p q m) p)
    (renamed_code b (number_behind n p) (at_second b n p q (without_both b n p q m)) q)
    (renamed_code b (number_behind (number_behind n p) q)
    (at_rest b n p q (without_both b n p q m)) k)
renamed_code b n m (Loop place p q k) =
    Loop place (renamed_code b n (without_both b n p q m) p)
    (renamed_code b (number_behind n p) (at_second b n p q (without_both b n p q m)) q)
    (renamed_code b (number_behind (number_behind n p) q)
    (at_rest b n p q (without_both b n p q m)) k)
