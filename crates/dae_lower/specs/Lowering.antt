-- The structured form of typed programs. Each expression is items and the operand that holds its value, with the number of
-- the next variable that isn't used yet. A variable as an operand is used itself where no later part of the same full
-- expression assigns it, else a copy is. `later` is the set of variables that later parts assign.
use Rattle.std.specs.Prelude.{ℕ, zero, suc, ◌+◌, ◌%◌, Bool, true, false, not, ◌&&◌, ◌||◌, nat_eq, if◌then◌else◌, List, [], ◌∷◌, Option, Some, None}
use Rattle.dae_base.specs.Words.{plus, width_of}
use Rattle.dae_base.specs.declared.Place.{Place}
use Rattle.dae_base.specs.declared.LoadKind.{LoadKind}
use Rattle.dae_base.specs.declared.LoadKind.TheVariants.{I8, U8, I16, U16, I32}
use Rattle.dae_base.specs.declared.Width.TheVariants.{B1}
use Rattle.dae_ir.specs.Code.{Done, Do, If, Loop}
use Rattle.dae_ir.specs.Form.{Form, Program as FormProgram}
use Rattle.dae_ir.specs.Scope.{is_end}
use Rattle.dae_ir.specs.Classes.{VariableSet}
use Rattle.dae_ir.specs.declared.form.Operand.{Operand}
use Rattle.dae_ir.specs.declared.form.Operand.TheVariants.{Variable, Number}
use Rattle.dae_meaning.specs.declared.Operator.{Operator}
use Rattle.dae_meaning.specs.declared.Operator.TheVariants.{Add, Subtract}
use Rattle.dae_meaning.specs.declared.Comparison.{Comparison}
use Rattle.dae_meaning.specs.declared.Comparison.TheVariants.{Equal, NotEqual, AtLeastUnsigned}
use Rattle.dae_ir.specs.declared.form.Value.{Value}
use Rattle.dae_ir.specs.declared.form.Value.TheVariants.{Same, Extended, Binary, Holds, FrameAddress}
use Rattle.dae_ir.specs.declared.form.Test.{Test}
use Rattle.dae_meaning.specs.declared.Spelling.TheVariants.{Byte}
use Rattle.dae_ir.specs.declared.form.Check.TheVariants.{Place as Good, Zero, Room, Frame, Abort}
use Rattle.dae_ir.specs.declared.form.Item.{Item}
use Rattle.dae_ir.specs.declared.form.Item.TheVariants.{Assign, Load, Store, Print, Expect, Break, Continue, Call, Return, Halt}
use Rattle.dae_program.specs.declared.statements.FormatPiece.{FormatPiece}
use Rattle.dae_program.specs.declared.statements.FormatPiece.TheVariants as piece
use Rattle.dae_program.specs.declared.program.FrameSlot.{FrameSlot}
use Rattle.dae_program.specs.Expressions.{divides}
use Rattle.dae_program.specs.Printing.{argument}
use Rattle.dae_program.specs.Switches.{arm_with, count_arms}
use Rattle.dae_program.specs.Trees as tree
use Rattle.dae_program.specs.Trees.{Expression, Target, Expressions, Setting, Statements, Arms, Function}

-- ---- code

-- one code, and then another
infixr 10 ◌⨾◌
abbrev pub ◌⨾◌ : Form → Form → Form
Done ⨾ d = d
(Do place item k) ⨾ d = Do place item (k ⨾ d)
(If place test p q k) ⨾ d = If place test p q (k ⨾ d)
(Loop place body step k) ⨾ d = Loop place body step (k ⨾ d)

abbrev pub one : Place → Item → Form
one place item = Do place item Done

-- code, what it gives, and the next variable
pub record Made (Y : Type 0) : Type 0 where
  pub code : Form
  pub given : Y
  pub next : ℕ

abbrev pub nothing : {Y : Type 0} → Y → ℕ → Made Y
nothing y n = record { code = Done; given = y; next = n }

abbrev pub only : {Y : Type 0} → Form → Y → ℕ → Made Y
only code y n = record { code = code; given = y; next = n }

-- code that gives nothing
abbrev pub emit : Form → ℕ → Made (Unit {0})
emit code n = only code (tt {0}) n

abbrev pub skip : ℕ → Made (Unit {0})
skip n = nothing (tt {0}) n

-- one after the other
infixl 10 ◌≫◌
abbrev pub ◌≫◌ : {X Y : Type 0} → Made X → (X → ℕ → Made Y) → Made Y
a ≫ f = let b = f a.given a.next in record { code = a.code ⨾ b.code; given = b.given; next = b.next }

-- a value in the next variable
abbrev pub set : Place → Value → ℕ → Made Operand
set place x n = only (one place (Assign n x)) (Variable n) (n + 1)

abbrev pub nowhere : VariableSet
nowhere v = false

abbrev pub or : VariableSet → VariableSet → VariableSet
or c d v = c v || d v

abbrev pub just : ℕ → VariableSet
just u v = nat_eq v u

-- ---- the variables that an expression assigns

abbrev pub assigned_target : Target → VariableSet
assigned_target (tree.InVariable v) = just v
assigned_target (tree.AtAddress checked a) = nowhere

abbrev mutual
  pub assigned : Expression → VariableSet
  assigned (tree.Number k) = nowhere
  assigned (tree.Address object offset) = nowhere
  assigned (tree.Frame p offset) = nowhere
  assigned (tree.Variable p v) = nowhere
  assigned (tree.Read p kind checked a) = assigned a
  assigned (tree.Convert p kind a) = assigned a
  assigned (tree.Not p a) = assigned a
  assigned (tree.Binary p operator a b) = or (assigned a) (assigned b)
  assigned (tree.Compare p comparison turned a b) = or (assigned a) (assigned b)
  assigned (tree.And p a b) = or (assigned a) (assigned b)
  assigned (tree.Or p a b) = or (assigned a) (assigned b)
  assigned (tree.Conditional p a b c) = or (assigned a) (or (assigned b) (assigned c))
  assigned (tree.Comma a b) = or (assigned a) (assigned b)
  assigned (tree.Assign p kind t a) = or (assigned_in t) (or (assigned a) (assigned_target t))
  assigned (tree.Update p kind t operator a) = or (assigned_in t) (or (assigned a) (assigned_target t))
  assigned (tree.Step p kind t change new) = or (assigned_in t) (assigned_target t)
  assigned (tree.Call p f xs) = assigned_all xs
  assigned (tree.Putchar p a) = assigned a
  assigned (tree.Exit p a) = assigned a
  assigned (tree.Abort p) = nowhere

  -- before the assignment itself
  pub assigned_in : Target → VariableSet
  assigned_in (tree.InVariable v) = nowhere
  assigned_in (tree.AtAddress checked a) = assigned a

  pub assigned_all : Expressions → VariableSet
  assigned_all tree.no_expressions = nowhere
  assigned_all (tree.expression_then a xs) = or (assigned a) (assigned_all xs)

-- ---- single items

-- a target whose address is an operand
pub data Assignee : Type 0 where
  Local : (v : ℕ) → Assignee
  Placed : (checked : Bool) (address : Operand) → Assignee

-- a check where the flag says so
abbrev pub checks : Bool → Place → Item → Form → Form
checks true place item k = Do place item k
checks false place item k = k

-- a variable's value, in a copy where the flag says so
abbrev pub variable : Bool → Place → ℕ → ℕ → Made Operand
variable true place v n = set place (Same (Variable v)) n
variable false place v n = nothing (Variable v) n

abbrev pub fetched : Place → LoadKind → Bool → Operand → ℕ → Made Operand
fetched place kind checked x n =
    only (checks checked place (Expect (Good (width_of kind) x)) (one place (Load n kind x))) (Variable n) (n + 1)

-- what a target holds, where `copied` says whether a variable is copied
abbrev pub held : Place → LoadKind → VariableSet → Assignee → ℕ → Made Operand
held place kind copied (Local v) n = variable (copied v) place v n
held place kind copied (Placed checked x) n = fetched place kind checked x n

-- a target gets a value, which is given
abbrev pub put_in : Place → LoadKind → Assignee → Operand → ℕ → Made Operand
put_in place kind (Local v) y n = only (one place (Assign v (Same y))) y n
put_in place kind (Placed checked x) y n =
    only (checks checked place (Expect (Good (width_of kind) x)) (one place (Store (width_of kind) x y))) y n

abbrev pub may_be_zero : Operand → Bool
may_be_zero (Variable v) = true
may_be_zero (Number k) = nat_eq k 0

abbrev pub operated : Place → Operator → Operand → Operand → ℕ → Made Operand
operated place operator x y n =
    only (checks (divides operator && may_be_zero y) place (Expect (Zero y)) (one place (Assign n (Binary operator x y)))) (Variable n) (n + 1)

-- a word of a narrower type
abbrev pub narrowed : Place → LoadKind → Operand → ℕ → Made Operand
narrowed place I32 x n = nothing x n
narrowed place I8 x n = set place (Extended I8 x) n
narrowed place U8 x n = set place (Extended U8 x) n
narrowed place I16 x n = set place (Extended I16 x) n
narrowed place U16 x n = set place (Extended U16 x) n

-- ---- conditions

-- a test, which holds where the condition does, or where it doesn't
pub record Condition : Type 0 where
  pub test : Test
  pub turned : Bool

abbrev pub test_of : Comparison → Operand → Operand → Test
test_of comparison x y = record { comparison = comparison; left = x; right = y }

abbrev pub related : Comparison → Bool → Operand → Operand → Test
related comparison turned x y = if turned then test_of comparison y x else test_of comparison x y

abbrev pub isnt_zero : Operand → Condition
isnt_zero x = record { test = test_of NotEqual x (Number 0); turned = false }

abbrev pub turn : Condition → Condition
turn c = record c { turned = not c.turned }

-- the branches of a condition
abbrev pub branches : Place → Made Condition → (ℕ → Made (Unit {0})) → (ℕ → Made (Unit {0})) → Made (Unit {0})
branches place c f g =
    let p = f c.next in
    let q = g p.next in
    emit (c.code ⨾ (if c.given.turned then If place c.given.test q.code p.code Done else If place c.given.test p.code q.code Done)) q.next

-- ---- expressions

-- what an expression is made to: its value in an operand, nothing but its effects, or a condition
pub record Ways : Type 0 where
  pub value : VariableSet → ℕ → Made Operand
  pub effect : VariableSet → ℕ → Made (Unit {0})
  pub condition : VariableSet → ℕ → Made Condition

abbrev pub by_value : (VariableSet → ℕ → Made Operand) → Ways
by_value f = record {
  value = f;
  effect = λ later n. f later n ≫ λ x. skip;
  condition = λ later n. f later n ≫ λ x. nothing (isnt_zero x);
}

-- a number in the variable
abbrev pub gives : Place → ℕ → Operand → ℕ → Made (Unit {0})
gives place v x n = emit (one place (Assign v (Same x))) n

-- what the numbers of a file mean: addresses and functions
pub record Links : Type 0 where
  pub address : ℕ → ℕ
  pub callee : ℕ → ℕ

-- the value of a conditional expression, of which the last two parts assign these
abbrev pub chosen : Place → VariableSet → Ways → Ways → Ways → VariableSet → ℕ → Made Operand
chosen p s a b c later n =
    branches p (a.condition (or later s) (n + 1)) (λ k. b.value later k ≫ gives p n) (λ k. c.value later k ≫ gives p n)
    ≫ λ x. nothing (Variable n)

-- a target gets an operand and a number
abbrev pub advanced : Place → LoadKind → ℕ → Assignee → Operand → ℕ → Made Operand
advanced p kind change o x n = set p (Binary Add x (Number change)) n ≫ λ z n. narrowed p kind z n ≫ put_in p kind o

-- one more or less, where `copied` says which variables the old value is copied from
abbrev pub stepped : Place → LoadKind → (VariableSet → ℕ → Made Assignee) → ℕ → Bool → VariableSet → VariableSet → ℕ → Made Operand
stepped p kind t change new copied later n =
    t later n ≫ λ o n. held p kind copied o n ≫ λ x n. advanced p kind change o x n ≫ λ y. nothing (if new then y else x)

abbrev mutual
  pub ways : Links → Expression → Ways
  ways l (tree.Number k) = by_value (λ later. nothing (Number k))
  ways l (tree.Address object offset) = by_value (λ later. nothing (Number (plus (l.address object) offset)))
  ways l (tree.Frame p offset) = by_value (λ later. set p (FrameAddress offset))
  ways l (tree.Variable p v) = record (by_value (λ later n. variable (later v) p v n)) { effect = λ later. skip }
  ways l (tree.Read p kind checked a) = by_value (λ later n. (ways l a).value later n ≫ fetched p kind checked)
  ways l (tree.Convert p kind a) =
      record (by_value (λ later n. (ways l a).value later n ≫ narrowed p kind)) { effect = (ways l a).effect }
  ways l (tree.Not p a) = record {
    value = λ later n. (ways l a).value later n ≫ λ x. set p (Holds (test_of Equal x (Number 0)));
    effect = (ways l a).effect;
    condition = λ later n. (ways l a).condition later n ≫ λ c. nothing (turn c);
  }
  ways l (tree.Binary p operator a b) = by_value (λ later n.
      (ways l a).value (or later (assigned b)) n ≫ λ x n. (ways l b).value later n ≫ operated p operator x)
  ways l (tree.Compare p comparison turned a b) = record {
    value = λ later n.
        (ways l a).value (or later (assigned b)) n ≫ λ x n. (ways l b).value later n ≫ λ y. set p (Holds (related comparison turned x y));
    effect = λ later n. (ways l a).effect (or later (assigned b)) n ≫ λ x. (ways l b).effect later;
    condition = λ later n.
        (ways l a).value (or later (assigned b)) n ≫ λ x n. (ways l b).value later n ≫ λ y.
        nothing (record { test = related comparison turned x y; turned = false });
  }
  ways l (tree.And p a b) = by_value (λ later n.
      branches p ((ways l a).condition (or later (assigned b)) (n + 1))
      (λ k. branches p ((ways l b).condition later k) (gives p n (Number 1)) (gives p n (Number 0)))
      (gives p n (Number 0)) ≫ λ x. nothing (Variable n))
  ways l (tree.Or p a b) = by_value (λ later n.
      branches p ((ways l a).condition (or later (assigned b)) (n + 1))
      (gives p n (Number 1))
      (λ k. branches p ((ways l b).condition later k) (gives p n (Number 1)) (gives p n (Number 0))) ≫ λ x. nothing (Variable n))
  ways l (tree.Conditional p a b c) =
      record (by_value (λ later n. chosen p (or (assigned b) (assigned c)) (ways l a) (ways l b) (ways l c) later n)) {
        effect = λ later n.
            branches p ((ways l a).condition (or later (or (assigned b) (assigned c))) n) ((ways l b).effect later) ((ways l c).effect later);
      }
  ways l (tree.Comma a b) = record {
    value = λ later n. (ways l a).effect (or later (assigned b)) n ≫ λ x. (ways l b).value later;
    effect = λ later n. (ways l a).effect (or later (assigned b)) n ≫ λ x. (ways l b).effect later;
    condition = λ later n. (ways l a).effect (or later (assigned b)) n ≫ λ x. (ways l b).condition later;
  }
  ways l (tree.Assign p kind t a) = by_value (λ later n.
      spot l t (or later (assigned a)) n ≫ λ o n. (ways l a).value later n ≫ put_in p kind o)
  ways l (tree.Update p kind t operator a) = by_value (λ later n.
      spot l t (or later (assigned a)) n ≫ λ o n. held p kind (or later (assigned a)) o n ≫ λ x n.
      (ways l a).value later n ≫ λ y n. operated p operator x y n ≫ λ z n. narrowed p kind z n ≫ put_in p kind o)
  ways l (tree.Step p kind t change new) =
      record (by_value (λ later n. stepped p kind (spot l t) change new (if new then later else or later (assigned_target t)) later n)) {
        effect = λ later n. stepped p kind (spot l t) change true later later n ≫ λ x. skip;
      }
  ways l (tree.Call p f xs) = by_value (λ later n.
      operands l xs later n ≫ λ xs n.
      only (Do p (Expect (Room (l.callee f))) (one p (Call n (l.callee f) xs))) (Variable n) (n + 1))
  ways l (tree.Putchar p a) =
      record (by_value (λ later n. (ways l a).value later n ≫ λ x n. only (one p (Print Byte x)) x n ≫ λ x. set p (Extended U8 x))) {
        effect = λ later n. (ways l a).value later n ≫ λ x. emit (one p (Print Byte x));
      }
  ways l (tree.Exit p a) = by_value (λ later n. (ways l a).value later n ≫ λ x. only (one p (Halt x)) (Number 0))
  ways l (tree.Abort p) = by_value (λ later. only (one p (Expect Abort)) (Number 0))

  pub spot : Links → Target → VariableSet → ℕ → Made Assignee
  spot l (tree.InVariable v) later n = nothing (Local v) n
  spot l (tree.AtAddress checked a) later n = (ways l a).value later n ≫ λ x. nothing (Placed checked x)

  pub operands : Links → Expressions → VariableSet → ℕ → Made (List Operand)
  operands l tree.no_expressions later n = nothing [] n
  operands l (tree.expression_then a xs) later n =
      (ways l a).value (or later (assigned_all xs)) n ≫ λ x n. operands l xs later n ≫ λ xs. nothing (x ∷ xs)

-- ---- statements

-- a condition, or the loop is left
abbrev pub leave_unless : Links → Place → Expression → ℕ → Made (Unit {0})
leave_unless l p e n = branches p ((ways l e).condition nowhere n) (skip) (emit (one p Break))

abbrev pub leave_unless_some : Links → Place → Option Expression → ℕ → Made (Unit {0})
leave_unless_some l p None n = skip n
leave_unless_some l p (Some e) n = leave_unless l p e n

abbrev pub effect_of_some : Links → Option Expression → ℕ → Made (Unit {0})
effect_of_some l None n = skip n
effect_of_some l (Some e) n = (ways l e).effect nowhere n

abbrev pub loop : Place → Made (Unit {0}) → (ℕ → Made (Unit {0})) → Made (Unit {0})
loop p body step = let s = step body.next in emit (Loop p body.code s.code Done) s.next

-- a variable that nothing reads
abbrev pub unread : Place → ℕ → Made (Unit {0})
unread p n = emit (one p (Assign n (Same (Number 0)))) (n + 1)

-- Before a loop: three variables that nothing reads, so that as much as doesn't change in the loop may be computed there later, with
-- no more items and no more variables.
abbrev pub preheader : Place → ℕ → Made (Unit {0})
preheader p n = unread p n ≫ λ x n. unread p n ≫ λ x. unread p

-- a loop behind its preheader, of a body and a step
abbrev pub headed_loop : Place → (body step : ℕ → Made (Unit {0})) → ℕ → Made (Unit {0})
headed_loop p body step n = preheader p n ≫ λ x n. loop p (body n) step

-- a branch with nothing in it and a break
abbrev pub leaves_if_not : Place → Test → Form → Form
leaves_if_not p test k = If p test Done (one p Break) k

-- the bytes from an address on
abbrev pub text_loop : Place → Operand → ℕ → Made (Unit {0})
text_loop p x n =
    emit (Do p (Assign n (Same x)) (Loop p
    (Do p (Expect (Good B1 (Variable n))) (
    Do p (Load (n + 1) U8 (Variable n)) (
    leaves_if_not p (test_of NotEqual (Variable (n + 1)) (Number 0)) (
    one p (Print Byte (Variable (n + 1)))))))
    (one p (Assign n (Binary Add (Variable n) (Number 1)))) Done)) (n + 2)

abbrev pub prints : Place → List FormatPiece → List Operand → ℕ → Made (Unit {0})
prints p [] xs n = skip n
prints p (piece.Byte b ∷ ps) xs n = emit (one p (Print Byte (Number b))) n ≫ λ x. prints p ps xs
prints p (piece.Word spelling k ∷ ps) xs n = emit (one p (Print spelling (argument (Number 0) xs k))) n ≫ λ x. prints p ps xs
prints p (piece.String k ∷ ps) xs n = text_loop p (argument (Number 0) xs k) n ≫ λ x. prints p ps xs

-- how many bytes a turn of zeroing so many clears: the most, up to five, that divide them
unfoldable pub turn_bytes : ℕ → ℕ
turn_bytes size =
    if nat_eq (size % 5) 0 then 5
    else if nat_eq (size % 4) 0 then 4
    else if nat_eq (size % 3) 0 then 3
    else if nat_eq (size % 2) 0 then 2
    else 1

-- so many zeros from the address in a variable on, which goes up behind each
abbrev pub zeros_at : Place → ℕ → ℕ → Form
zeros_at p v zero = Done
zeros_at p v (suc count) =
    Do p (Store B1 (Variable v) (Number 0)) (Do p (Assign v (Binary Add (Variable v) (Number 1))) (zeros_at p v count))

-- Zeros from an offset in the frame on, with variables n and n + 1: an address, and the one at the end. The first address is found
-- from the end, so that this leads to addresses too.
abbrev pub zeros : Place → ℕ → ℕ → ℕ → Form
zeros p offset size n =
    Do p (Assign (n + 1) (FrameAddress (plus offset size))) (
    Do p (Assign n (Binary Subtract (Variable (n + 1)) (Number size))) (
    Loop p (leaves_if_not p (test_of NotEqual (Variable n) (Variable (n + 1))) (zeros_at p n (turn_bytes size))) Done Done))

-- items, whose addresses are all in variable v
abbrev pub settings : Links → Place → ℕ → List Setting → ℕ → Made (Unit {0})
settings l p v [] n = skip n
settings l p v (item ∷ items) n =
    (ways l item.value).value nowhere n ≫ λ y n.
    emit (Do p (Assign v (FrameAddress item.offset)) (one p (Store item.width (Variable v) y))) n ≫ λ x. settings l p v items

-- whether statements continue a loop round them
abbrev mutual
  pub continues : Statements → Bool
  continues tree.Done = false
  continues (tree.Evaluate p e k) = continues k
  continues (tree.Initialise p offset size items k) = continues k
  continues (tree.Print p xs pieces k) = continues k
  continues (tree.If p e t u k) = continues t || (continues u || continues k)
  continues (tree.Loop p test body step k) = continues k
  continues (tree.Do p body test k) = continues k
  continues (tree.Switch p e arms k) = arms_continue arms || continues k
  continues (tree.Break p k) = continues k
  continues (tree.Continue p k) = true
  continues (tree.Return p e k) = continues k

  pub arms_continue : Arms → Bool
  arms_continue tree.no_arms = false
  arms_continue (tree.arm_then labels t rest) = continues t || arms_continue rest

-- the arm k begins at one of these labels, or the search goes on
abbrev pub search_labels : Place → Operand → ℕ → ℕ → List (Option ℕ) → Form → Form
search_labels p x v k [] rest = rest
search_labels p x v k (None ∷ labels) rest = search_labels p x v k labels rest
search_labels p x v k (Some label ∷ labels) rest =
    If p (test_of Equal x (Number label)) (Do p (Assign v (Same (Number k))) (one p Break)) Done (search_labels p x v k labels rest)

abbrev pub search : Place → Operand → ℕ → ℕ → Arms → Form
search p x v k tree.no_arms = one p Break
search p x v k (tree.arm_then labels t rest) = search_labels p x v k labels (search p x v (suc k) rest)

-- code, where the flag says so
abbrev pub where_so : Bool → Form → Form
where_so b code = if b then code else Done

-- Of a switch on x with variables v and v + 1: the number of the arm where it begins is searched, the arms from there on
-- are done, and where they continued the loop outside, that is done behind them.
abbrev pub switch : Place → Operand → ℕ → ℕ → Form → Bool → Made (Unit {0}) → Made (Unit {0})
switch p x v other searching goes_on arms =
    emit (
    Do p (Assign v (Same (Number other))) (
    Loop p searching Done (
    where_so goes_on (one p (Assign (v + 1) (Same (Number 0)))) ⨾
    Loop p (arms.code ⨾ one p Break) (where_so goes_on (Do p (Assign (v + 1) (Same (Number 1))) (one p Break)))
    (where_so goes_on (If p (test_of NotEqual (Variable (v + 1)) (Number 0)) (one p Continue) Done Done))))) arms.next

abbrev mutual
  pub statements : Links → Statements → ℕ → Made (Unit {0})
  statements l tree.Done n = skip n
  statements l (tree.Evaluate p e k) n = (ways l e).effect nowhere n ≫ λ x. statements l k
  statements l (tree.Initialise p offset size items k) n =
      (emit (zeros p offset size n) (n + 2) ≫ λ x. settings l p n items) ≫ λ x. statements l k
  statements l (tree.Print p xs pieces k) n =
      (operands l xs nowhere n ≫ prints p pieces) ≫ λ x. statements l k
  statements l (tree.If p e t u k) n =
      branches p ((ways l e).condition nowhere n) (statements l t) (statements l u) ≫ λ x. statements l k
  statements l (tree.Loop p test body step k) n =
      headed_loop p (λ n. leave_unless_some l p test n ≫ λ x. statements l body) (effect_of_some l step) n ≫ λ x. statements l k
  statements l (tree.Do p body test k) n =
      headed_loop p (statements l body) (leave_unless l p test) n ≫ λ x. statements l k
  statements l (tree.Switch p e arms k) n =
      ((ways l e).value nowhere n ≫ λ x n.
      switch p x n (arm_with None 0 arms (count_arms arms)) (search p x n 0 arms) (arms_continue arms) (arms_from l p n 0 arms (n + 2)))
      ≫ λ x. statements l k
  statements l (tree.Break p k) n = emit (one p Break) n ≫ λ x. statements l k
  statements l (tree.Continue p k) n = emit (one p Continue) n ≫ λ x. statements l k
  statements l (tree.Return p None k) n = emit (one p (Return (Number 0))) n ≫ λ x. statements l k
  statements l (tree.Return p (Some e) k) n =
      (ways l e).value nowhere n ≫ λ x n. emit (one p (Return x)) n ≫ λ x. statements l k

  -- the arms from number k on, of which those from number v on are done
  pub arms_from : Links → Place → ℕ → ℕ → Arms → ℕ → Made (Unit {0})
  arms_from l p v k tree.no_arms n = skip n
  arms_from l p v k (tree.arm_then labels t rest) n =
      (let t = statements l t n in emit (If p (test_of AtLeastUnsigned (Number k) (Variable v)) t.code Done Done) t.next)
      ≫ λ x. arms_from l p v (suc k) rest

-- ---- functions

-- parameters from number k on are stored in the frame
abbrev pub parameters_stored : Place → List (Option FrameSlot) → ℕ → ℕ → Made (Unit {0})
parameters_stored p [] k n = skip n
parameters_stored p (None ∷ slots) k n = parameters_stored p slots (k + 1) n
parameters_stored p (Some slot ∷ slots) k n =
    emit (Do p (Assign n (FrameAddress slot.offset)) (one p (Store slot.width (Variable n) (Variable k)))) (n + 1)
    ≫ λ x. parameters_stored p slots (k + 1)

-- the last statement of all is a return or a halt
abbrev pub is_done : Form → Bool
is_done Done = true
is_done code = false

abbrev pub is_closed : Form → Bool
is_closed Done = false
is_closed (Do place item k) = (is_done k && is_end item) || is_closed k
is_closed (If place test p q k) = is_closed k
is_closed (Loop place body step k) = is_closed k

abbrev pub closed : Place → Item → Form → Form
closed p last code = if is_closed code then code else code ⨾ one p last

-- a function's code, where its variables are below n
abbrev pub function_code : Place → Bool → Function → ℕ → Form
function_code p is_main f n =
    checks (is_main && not (nat_eq f.frame 0)) p (Expect Frame) (
    closed p (if is_main then Halt (Number 0) else Return (Number 0))
    (parameters_stored p f.parameters 1 n ≫ λ x. statements (record { address = f.address; callee = f.callee }) f.body).code)

-- ---- programs

-- the form of a program, from the place of each function, how many variables it has, and the number of main
abbrev pub program_form : tree.Program → (ℕ → Place) → (ℕ → ℕ) → ℕ → FormProgram
program_form p place variables main = record {
  body = λ f. function_code (place f) (nat_eq f main) (p.function f) (variables f);
  frame = λ f. let function = p.function f in function.frame;
  limit = p.limit;
}
