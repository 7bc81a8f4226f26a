-- How much code is made for statements and functions.
use Rattle.std.proofs.Common.{◌≡◌, ℕ, zero, suc, ◌+◌, ◌*◌, ◌≤◌, Bool, true, false, not, ◌&&◌, nat_eq, if◌then◌else◌, List, [], ◌∷◌, length, Option, Some, None, refl, arith}
use Rattle.dae_base.specs.declared.Place.{Place}
use Rattle.dae_ir.specs.Code.{Done, Do, If}
use Rattle.dae_ir.specs.Form.{Form}
use Rattle.dae_ir.specs.declared.form.Item.{Item}
use Rattle.dae_ir.specs.declared.form.Item.TheVariants.{Assign, Store, Print, Expect, Break, Continue, Return, Halt}
use Rattle.dae_ir.specs.declared.form.Check.TheVariants.{Frame}
use Rattle.dae_ir.specs.declared.form.Operand.{Operand}
use Rattle.dae_ir.specs.declared.form.Operand.TheVariants.{Variable, Number}
use Rattle.dae_ir.specs.declared.form.Value.TheVariants.{FrameAddress}
use Rattle.dae_meaning.specs.declared.Spelling.TheVariants.{Byte}
use Rattle.dae_meaning.specs.declared.Comparison.TheVariants.{AtLeastUnsigned}
use Rattle.dae_program.specs.Printing.{argument}
use Rattle.dae_program.specs.Switches.{arm_with, count_arms}
use Rattle.dae_program.specs.Trees as tree
use Rattle.dae_program.specs.Trees.{Expression, Setting, Statements, Arms}
use Rattle.dae_program.specs.declared.statements.FormatPiece.{FormatPiece}
use Rattle.dae_program.specs.declared.statements.FormatPiece.TheVariants as piece
use Rattle.dae_program.specs.declared.program.FrameSlot.{FrameSlot}
use Rattle.dae_lower.specs.Lowering.{Made, function_code, ◌⨾◌, ◌≫◌, emit, one, checks, nowhere, test_of, Links, leave_unless, leave_unless_some, effect_of_some, loop, preheader, headed_loop, text_loop, prints, turn_bytes, zeros_at, zeros, settings, arms_continue, search_labels, search, switch, statements, arms_from, parameters_stored, is_closed, closed}
use Rattle.dae_lower.proofs.Laws.{turn_is_short}
use Rattle.dae_lower_formed.specs.Formed.{form_variables}
use Rattle.dae_lower_formed.specs.Sizes.{most_made, most_made_of_some, most_made_of_items, most_made_of_pieces, most_made_in, most_made_in_arms, most_made_of_slots, most_made_in_function, VariablesWithin}
use Rattle.dae_ir.specs.Sizes.{bit, is_load_into}
use Rattle.dae_ir_pair.specs.Sizes.{item_burden}
use Rattle.dae_lower_formed.specs.Code.{loaded_burden, loads_in, most_code, most_code_of_some, most_code_of_items, most_code_of_pieces, most_code_in, most_code_in_arms, most_code_of_slots, CodeWithin}
use Rattle.dae_lower_formed.proofs.Small.{size_then, loads_then, Small, Any, chain, weaker, nothing_small, branches_small, expression_small, operands_small, inner_and_count}

-- ---- parts of statements

item_small : {n : ℕ} (p : Place) (item : Item) (w : ℕ) → item_burden item ≤ w → bit (is_load_into (λ v. true) item) ≡ 0 → Small Any n 0 w (emit (one p item) n)
item_small p item w h none = record { few = omega arith; own = omega (arith, none); small = omega (arith, h, none); given = tt }

loop_small : {body : Made (Unit {0})} {n w c v d : ℕ} (p : Place) (step : ℕ → Made (Unit {0})) → Small Any n w c body → ((q : ℕ) → Small Any q v d (step q)) → Small Any n (w + v) (2 + (c + d)) (loop p body step)
loop_small {body} {n} {w} {c} {v} {d} p step h next = record { few = omega (arith, h.few, second.few); own = omega (arith, h.own, second.own); small = omega (arith, h.small, second.small); given = tt } where
  second : Small Any body.next v d (step body.next)
  second = next body.next

preheader_small : (p : Place) (n : ℕ) → Small Any n 3 6 (preheader p n)
preheader_small p n = record { few = omega arith; own = omega arith; small = omega arith; given = tt }

-- a loop behind its preheader
headed_small : {n w c v d : ℕ} (p : Place) (body step : ℕ → Made (Unit {0})) → ((q : ℕ) → Small Any q w c (body q)) → ((q : ℕ) → Small Any q v d (step q)) → Small Any n (3 + (w + v)) (6 + (2 + (c + d))) (headed_loop p body step n)
headed_small {n} p body step turn behind = chain (λ x n. loop p (body n) step) (preheader_small p n) (λ q y t. loop_small p step (turn q) behind)

text_small : (n : ℕ) (p : Place) (x : Operand) → Small Any n 2 17 (text_loop p x n)
text_small n p x = record { few = omega arith; own = omega arith; small = omega arith; given = tt }

prints_small : (p : Place) (ps : List FormatPiece) (xs : List Operand) (n : ℕ) → Small Any n (most_made_of_pieces ps) (most_code_of_pieces ps) (prints p ps xs n)
prints_small p [] xs n = nothing_small tt tt
prints_small p (piece.Byte b ∷ ps) xs n = weaker (omega arith) (omega arith) (chain (λ x. prints p ps xs) (item_small p (Print Byte (Number b)) 2 (omega arith) refl) (λ q y t. prints_small p ps xs q))
prints_small p (piece.Word spelling k ∷ ps) xs n = weaker (omega arith) (omega arith) (chain (λ x. prints p ps xs) (item_small p (Print spelling (argument (Number 0) xs k)) 2 (omega arith) refl) (λ q y t. prints_small p ps xs q))
prints_small p (piece.String k ∷ ps) xs n = weaker (omega arith) (omega arith) (chain (λ x. prints p ps xs) (text_small n p (argument (Number 0) xs k)) (λ q y t. prints_small p ps xs q))

zeros_weigh : (p : Place) (v count : ℕ) → loaded_burden (zeros_at p v count) ≡ 4 * count
zeros_weigh p v zero = omega arith
zeros_weigh p v (suc count) = let h = zeros_weigh p v count in omega (arith, h)

zeros_load : (p : Place) (v count : ℕ) → loads_in (zeros_at p v count) ≡ 0
zeros_load p v zero = omega arith
zeros_load p v (suc count) = let h = zeros_load p v count in omega (arith, h)

zeros_small : (n : ℕ) (p : Place) (offset size : ℕ) → Small Any n 2 30 (emit (zeros p offset size n) (n + 2))
zeros_small n p offset size = record {
  few = omega arith;
  own = let h = zeros_load p n (turn_bytes size) in omega (arith, h);
  small = let h = zeros_weigh p n (turn_bytes size) in let g = turn_is_short size in omega (arith, h, g);
  given = tt;
}

placed_small : (n : ℕ) (p : Place) (v : ℕ) (item : Setting) (y : Operand) → Small Any n 0 4 (emit (Do p (Assign v (FrameAddress item.offset)) (one p (Store item.width (Variable v) y))) n)
placed_small n p v item y = record { few = omega arith; own = omega arith; small = omega arith; given = tt }

-- how many labels arms have
abbrev labels_of : Arms → ℕ
labels_of tree.no_arms = 0
labels_of (tree.arm_then labels t rest) = length labels + labels_of rest

labels_small : (p : Place) (x : Operand) (v k : ℕ) (labels : List (Option ℕ)) (rest : Form) → loaded_burden (search_labels p x v k labels rest) ≤ 6 * length labels + loaded_burden rest
labels_small p x v k [] rest = omega arith
labels_small p x v k (None ∷ labels) rest = let h = labels_small p x v k labels rest in omega (arith, h)
labels_small p x v k (Some label ∷ labels) rest = let h = labels_small p x v k labels rest in omega (arith, h)

search_small : (p : Place) (x : Operand) (v k : ℕ) (arms : Arms) → loaded_burden (search p x v k arms) ≤ 6 * labels_of arms + 2
search_small p x v k tree.no_arms = omega arith
search_small p x v k (tree.arm_then labels t rest) =
    let h = labels_small p x v k labels (search p x v (suc k) rest) in
    let g = search_small p x v (suc k) rest in
    omega (arith, h, g)

labels_loads : (p : Place) (x : Operand) (v k : ℕ) (labels : List (Option ℕ)) (rest : Form) → loads_in (search_labels p x v k labels rest) ≡ loads_in rest
labels_loads p x v k [] rest = omega arith
labels_loads p x v k (None ∷ labels) rest = let h = labels_loads p x v k labels rest in omega (arith, h)
labels_loads p x v k (Some label ∷ labels) rest = let h = labels_loads p x v k labels rest in omega (arith, h)

search_loads : (p : Place) (x : Operand) (v k : ℕ) (arms : Arms) → loads_in (search p x v k arms) ≡ 0
search_loads p x v k tree.no_arms = omega arith
search_loads p x v k (tree.arm_then labels t rest) =
    let h = labels_loads p x v k labels (search p x v (suc k) rest) in
    let g = search_loads p x v (suc k) rest in
    omega (arith, h, g)

switch_loads : (goes_on : Bool) (p : Place) (x : Operand) (n other : ℕ) (searching : Form) (arms : Made (Unit {0})) → loads_in (switch p x n other searching goes_on arms).code ≡ loads_in searching + loads_in arms.code
switch_loads true p x n other searching arms = let h = loads_then arms.code (one p Break) in omega (arith, h)
switch_loads false p x n other searching arms = let h = loads_then arms.code (one p Break) in omega (arith, h)

switch_size : (goes_on : Bool) (p : Place) (x : Operand) (n other : ℕ) (searching : Form) (arms : Made (Unit {0})) → loaded_burden (switch p x n other searching goes_on arms).code ≤ 18 + (loaded_burden searching + loaded_burden arms.code)
switch_size true p x n other searching arms = let h = size_then arms.code (one p Break) in omega (arith, h)
switch_size false p x n other searching arms = let h = size_then arms.code (one p Break) in omega (arith, h)

switch_small : {n w c : ℕ} (goes_on : Bool) (p : Place) (x : Operand) (other : ℕ) (arms : Arms) (made : Made (Unit {0})) → Small Any (n + 2) w c made → Small Any n (2 + w) (20 + (6 * labels_of arms + c)) (switch p x n other (search p x n 0 arms) goes_on made)
switch_small {n} goes_on p x other arms made h = record {
  few = omega (arith, h.few);
  own = let s = switch_loads goes_on p x n other (search p x n 0 arms) made in let g = search_loads p x n 0 arms in omega (arith, s, g, h.own);
  small = let s = switch_size goes_on p x n other (search p x n 0 arms) made in let g = search_small p x n 0 arms in omega (arith, s, g, h.small);
  given = tt;
}

-- ---- statements

-- the code of arms, that of their labels left out
abbrev inner_arms : Arms → ℕ
inner_arms tree.no_arms = 0
inner_arms (tree.arm_then labels t rest) = 2 + (most_code_in t + inner_arms rest)

labels_and_inner : (arms : Arms) → 6 * labels_of arms + inner_arms arms ≡ most_code_in_arms arms
labels_and_inner tree.no_arms = omega arith
labels_and_inner (tree.arm_then labels t rest) = let h = labels_and_inner rest in omega (arith, h)

module _ (l : Links) where
  leave_small : (p : Place) (e : Expression) (n : ℕ) → Small Any n (most_made e) (4 + most_code e) (leave_unless l p e n)
  leave_small p e n = weaker (omega arith) (omega arith) (branches_small p _ _ ((expression_small l e).condition nowhere n) (λ q. nothing_small tt tt) (λ q. item_small p Break 2 (omega arith) refl))

  leave_some_small : (p : Place) (e : Option Expression) (n : ℕ) → Small Any n (most_made_of_some e) (4 + most_code_of_some e) (leave_unless_some l p e n)
  leave_some_small p None n = weaker (omega arith) (omega arith) (nothing_small tt tt)
  leave_some_small p (Some e) n = leave_small p e n

  effect_some_small : (e : Option Expression) (n : ℕ) → Small Any n (most_made_of_some e) (most_code_of_some e) (effect_of_some l e n)
  effect_some_small None n = weaker (omega arith) (omega arith) (nothing_small tt tt)
  effect_some_small (Some e) n = (expression_small l e).effect nowhere n

  items_small : (p : Place) (v : ℕ) (items : List Setting) (n : ℕ) → Small Any n (most_made_of_items items) (most_code_of_items items) (settings l p v items n)
  items_small p v [] n = nothing_small tt tt
  items_small p v (item ∷ items) n =
      weaker (omega arith) (omega arith) (chain (λ y n. emit (Do p (Assign v (FrameAddress item.offset)) (one p (Store item.width (Variable v) y))) n ≫ λ x. settings l p v items) ((expression_small l item.value).value nowhere n)
      (λ q y t. chain (λ x. settings l p v items) (placed_small q p v item y) (λ q y t. items_small p v items q)))

  mutual
    pub statements_small : (t : Statements) (n : ℕ) → Small Any n (most_made_in t) (most_code_in t) (statements l t n)
    statements_small tree.Done n = nothing_small tt tt
    statements_small (tree.Evaluate p e k) n = weaker (omega arith) (omega arith) (chain (λ x. statements l k) ((expression_small l e).effect nowhere n) (λ q y t. statements_small k q))
    statements_small (tree.Initialise p offset size items k) n =
        weaker (omega arith) (omega arith) (chain (λ x. statements l k) (chain (λ x. settings l p n items) (zeros_small n p offset size) (λ q y t. items_small p n items q)) (λ q y t. statements_small k q))
    statements_small (tree.Print p xs pieces k) n =
        weaker (omega arith) (let h = inner_and_count xs in omega (arith, h)) (chain (λ x. statements l k) (chain (prints p pieces) (operands_small l xs nowhere n) (λ q ys t. prints_small p pieces ys q)) (λ q y t. statements_small k q))
    statements_small (tree.If p e t u k) n =
        weaker (omega arith) (omega arith) (chain (λ x. statements l k) (branches_small p _ _ ((expression_small l e).condition nowhere n) (λ q. statements_small t q) (λ q. statements_small u q)) (λ q y t. statements_small k q))
    statements_small (tree.Loop p test body step k) n =
        weaker (omega arith) (omega arith) (chain (λ x. statements l k) (headed_small p (λ o. leave_unless_some l p test o ≫ λ x. statements l body) (effect_of_some l step) (λ o. chain (λ x. statements l body) (leave_some_small p test o) (λ q y t. statements_small body q)) (λ q. effect_some_small step q)) (λ q y t. statements_small k q))
    statements_small (tree.Do p body test k) n =
        weaker (omega arith) (omega arith) (chain (λ x. statements l k) (headed_small p (statements l body) (leave_unless l p test) (λ q. statements_small body q) (λ q. leave_small p test q)) (λ q y t. statements_small k q))
    statements_small (tree.Switch p e arms k) n =
        weaker (omega arith) (let h = labels_and_inner arms in omega (arith, h)) (chain (λ x. statements l k)
        (chain (λ x n. switch p x n (arm_with None 0 arms (count_arms arms)) (search p x n 0 arms) (arms_continue arms) (arms_from l p n 0 arms (n + 2))) ((expression_small l e).value nowhere n)
        (λ q y t. switch_small (arms_continue arms) p y (arm_with None 0 arms (count_arms arms)) arms (arms_from l p q 0 arms (q + 2)) (arms_small p q 0 arms (q + 2))))
        (λ q y t. statements_small k q))
    statements_small (tree.Break p k) n = weaker (omega arith) (omega arith) (chain (λ x. statements l k) (item_small p Break 2 (omega arith) refl) (λ q y t. statements_small k q))
    statements_small (tree.Continue p k) n = weaker (omega arith) (omega arith) (chain (λ x. statements l k) (item_small p Continue 2 (omega arith) refl) (λ q y t. statements_small k q))
    statements_small (tree.Return p None k) n = weaker (omega arith) (omega arith) (chain (λ x. statements l k) (item_small p (Return (Number 0)) 2 (omega arith) refl) (λ q y t. statements_small k q))
    statements_small (tree.Return p (Some e) k) n =
        weaker (omega arith) (omega arith) (chain (λ x n. emit (one p (Return x)) n ≫ λ x. statements l k) ((expression_small l e).value nowhere n)
        (λ q y t. chain (λ x. statements l k) (item_small p (Return y) 2 (omega arith) refl) (λ q y t. statements_small k q)))

    arms_small : (p : Place) (v k : ℕ) (arms : Arms) (n : ℕ) → Small Any n (most_made_in_arms arms) (inner_arms arms) (arms_from l p v k arms n)
    arms_small p v k tree.no_arms n = nothing_small tt tt
    arms_small p v k (tree.arm_then labels t rest) n =
        weaker (omega arith) (omega arith) (chain (λ x. arms_from l p v (suc k) rest) (guarded (statements l t n) (statements_small t n)) (λ q y t. arms_small p v (suc k) rest q)) where
          guarded : {w c : ℕ} (made : Made (Unit {0})) → Small Any n w c made → Small Any n w (2 + c) (emit (If p (test_of AtLeastUnsigned (Number k) (Variable v)) made.code Done Done) made.next)
          guarded made h = record { few = h.few; own = omega (arith, h.own); small = omega (arith, h.small); given = tt }

-- ---- functions

parameters_small : (p : Place) (slots : List (Option FrameSlot)) (k n : ℕ) → Small Any n (most_made_of_slots slots) (most_code_of_slots slots) (parameters_stored p slots k n)
parameters_small p [] k n = nothing_small tt tt
parameters_small p (None ∷ slots) k n = weaker (omega arith) (omega arith) (parameters_small p slots (k + 1) n)
parameters_small p (Some slot ∷ slots) k n =
    weaker (omega arith) (omega arith) (chain (λ x. parameters_stored p slots (k + 1)) stored (λ q y t. parameters_small p slots (k + 1) q)) where
      stored : Small Any n 1 4 (emit (Do p (Assign n (FrameAddress slot.offset)) (one p (Store slot.width (Variable n) (Variable k)))) (n + 1))
      stored = record { few = omega arith; own = omega arith; small = omega arith; given = tt }

closed_size : (p : Place) (is_main : Bool) (code : Form) → loaded_burden (closed p (if is_main then Halt (Number 0) else Return (Number 0)) code) ≤ 2 + loaded_burden code
closed_size p is_main code = by is_main (is_closed code) where
  last : (m : Bool) → loaded_burden (one p (if m then Halt (Number 0) else Return (Number 0))) ≡ 2
  last true = refl
  last false = refl

  by : (m b : Bool) → loaded_burden (if b then code else code ⨾ one p (if m then Halt (Number 0) else Return (Number 0))) ≤ 2 + loaded_burden code
  by m true = omega arith
  by m false = let h = size_then code (one p (if m then Halt (Number 0) else Return (Number 0))) in let g = last m in omega (arith, h, g)

pub closed_loads : (p : Place) (is_main : Bool) (code : Form) → loads_in (closed p (if is_main then Halt (Number 0) else Return (Number 0)) code) ≡ loads_in code
closed_loads p is_main code = by is_main (is_closed code) where
  last : (m : Bool) → loads_in (one p (if m then Halt (Number 0) else Return (Number 0))) ≡ 0
  last true = refl
  last false = refl

  by : (m b : Bool) → loads_in (if b then code else code ⨾ one p (if m then Halt (Number 0) else Return (Number 0))) ≡ loads_in code
  by m true = refl
  by m false = let h = loads_then code (one p (if m then Halt (Number 0) else Return (Number 0))) in let g = last m in omega (arith, h, g)

checks_loads : (b : Bool) (p : Place) (code : Form) → loads_in (checks b p (Expect Frame) code) ≡ loads_in code
checks_loads true p code = omega arith
checks_loads false p code = refl

checks_size : (b : Bool) (p : Place) (code : Form) → loaded_burden (checks b p (Expect Frame) code) ≤ 2 + loaded_burden code
checks_size true p code = omega arith
checks_size false p code = omega arith

pub function_small : (p : Place) (f : tree.Function) (n : ℕ) → Small Any n (most_made_in_function f) (most_code_of_slots f.parameters + most_code_in f.body) (parameters_stored p f.parameters 1 n ≫ λ x. statements (record { address = f.address; callee = f.callee }) f.body)
function_small p f n =
    weaker (omega arith) (omega arith) (chain (λ x. statements (record { address = f.address; callee = f.callee }) f.body) (parameters_small p f.parameters 1 n) (λ q y t. statements_small (record { address = f.address; callee = f.callee }) f.body q))

pub code_within : CodeWithin
code_within p is_main f n =
    let made = parameters_stored p f.parameters 1 n ≫ λ x. statements (record { address = f.address; callee = f.callee }) f.body in
    let h = (function_small p f n).small in
    let g = closed_size p is_main made.code in
    let c = checks_size (is_main && not (nat_eq f.frame 0)) p (closed p (if is_main then Halt (Number 0) else Return (Number 0)) made.code) in
    omega (arith, h, g, c)

-- each load of a function goes into a variable that is made
pub function_loads : (p : Place) (is_main : Bool) (f : tree.Function) (n : ℕ) → n + loads_in (function_code p is_main f n) ≤ form_variables p f n
function_loads p is_main f n =
    let made = parameters_stored p f.parameters 1 n ≫ λ x. statements (record { address = f.address; callee = f.callee }) f.body in
    let h = (function_small p f n).own in
    let g = closed_loads p is_main made.code in
    let c = checks_loads (is_main && not (nat_eq f.frame 0)) p (closed p (if is_main then Halt (Number 0) else Return (Number 0)) made.code) in
    omega (arith, h, g, c)

pub variables_within : VariablesWithin
variables_within p f n = (function_small p f n).few
