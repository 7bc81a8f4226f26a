-- Nodes with branches, and lists of expressions.
use Rattle.std.proofs.Common.{◌≡◌, ℕ, ◌+◌, arith, Bool, true, false, ◌||◌, List, [], ◌∷◌, ◌++◌, if◌then◌else◌, refl, ap, sym, ◌∙◌, subst, append-nil}
use Rattle.dae_base.specs.declared.LoadKind.{LoadKind}
use Rattle.dae_meaning.specs.declared.Operator.{Operator}
use Rattle.dae_base.specs.declared.Place.{Place}
use Rattle.dae_base.proofs.Laws.{same_number, or_true}
use Rattle.dae_ir.specs.Classes.{VariableSet}
use Rattle.dae_ir.specs.Code.{Done}
use Rattle.dae_ir.specs.Form.{form_of}
use Rattle.dae_ir.specs.declared.form.Item.TheVariants as item
use Rattle.dae_ir.specs.declared.form.Operand.{Operand}
use Rattle.dae_ir.specs.declared.form.Operand.TheVariants.{Variable, Number}
use Rattle.dae_ir.specs.declared.form.Statement.{Statement}
use Rattle.dae_ir.specs.declared.form.Value.TheVariants.{Same}
use Rattle.dae_lower.specs.Lowering.{Made, Condition, Links, Assignee, Local, Ways, ways, spot, operands, ◌≫◌, nothing, emit, one, or, just, advanced, assigned, assigned_target, assigned_all, branches, chosen, gives, held, isnt_zero, narrowed, operated, put_in, variable}
use Rattle.dae_lower_expressions.proofs.Chains.{exact_block, late_branches, leaf_lowered, nothing_lowered, then_lowered, both_lowered, dropped_lowered, given_lowered, same_lowered, branched, reserved_lowered}
use Rattle.dae_lower_expressions.proofs.Counting.{never_with, part_last, parts_together, counted_both, assigned_told, all_told}
use Rattle.dae_lower_expressions.specs.Assignments.{assignments, target_assignments, all_assignments}
use Rattle.dae_lower_expressions.specs.Lowered.{LoweringState, Lowers, Parts, IsBlock, used, chosen_by}
use Rattle.dae_lower_expressions.specs.declared.leaves.BranchPurpose.{BranchPurpose}
use Rattle.dae_lower_expressions.specs.declared.leaves.BranchPurpose.TheVariants.{Value, Truth}
use Rattle.dae_lower_maker.proofs.Laws.{late_then, nothing_written, written_so}
use Rattle.dae_lower_maker.specs.Counting.{MarkCounts, never, once, both, is_counted, Changes}
use Rattle.dae_lower_maker.specs.declared.later.Change.TheVariants.{Add, Remove}
use Rattle.dae_lower_maker.specs.Making.{CodeSoFar, Writes, forked}
use Rattle.dae_lower_maker.specs.Numbers.{number_after}
use Rattle.dae_program.specs.Trees.{Expression, Target, Expressions, Call, Putchar, Exit, Abort, Frame, Address, Read, Convert, Not, Binary, Compare, And, Or, Conditional, Comma, Assign, Update, Step, InVariable, AtAddress, no_expressions, expression_then}
use Rattle.dae_program.specs.Trees as tree

-- a condition whose branches know what the rest assigns
forked_lowered : (place : Place) (fc : VariableSet → ℕ → Made Condition) (f g : VariableSet → ℕ → Made (Unit {0})) (some others : MarkCounts) (s : VariableSet) (a b z : LoweringState) (d e : CodeSoFar) (c : Condition) (inner outer : List Statement)
    → is_counted others ≡ s → Lowers fc some a b c
    → ((rest : MarkCounts) → b.later ≡ both rest others → (z.later ≡ rest) × IsBlock (f (is_counted rest) b.written.next) b.written d inner × IsBlock (g (is_counted rest) d.next) d e outer)
    → Writes (emit (forked place c (form_of inner) (form_of outer)) e.next) e z.written tt
    → Lowers (λ later n. branches place (fc (or later s) n) (f later) (g later)) (both some others) a z tt
forked_lowered place fc f g some others s a b z d e c inner outer told h blocks p = record {
  by = λ rest q.
      let i = h.by (both rest others) (q ∙ part_last rest some others) in
      let j = blocks rest i.0 in
      let set = counted_both rest others ∙ ap (λ t. or (is_counted rest) t) told in
      (j.0, branched place (fc (or (is_counted rest) s) a.written.next) (f (is_counted rest)) (g (is_counted rest)) a.written b.written d e z.written c inner outer (subst (λ (t : VariableSet). Writes (fc t a.written.next) a.written b.written c) set i.1) j.1 j.2 p);
}

-- a variable gets a number
constant_block : (place : Place) (v k : ℕ) (a : CodeSoFar) (block : List Statement) → form_of block ≡ one place (item.Assign v (Same (Number k))) → IsBlock (gives place v (Number k) a.next) a a block
constant_block place v k a block e = exact_block (gives place v (Number k) a.next) a a block (record { code = refl; block = e; next = refl }) refl

pub truth_lowered : (place : Place) (v : ℕ) (w : Ways) (some : MarkCounts) (a b z : LoweringState) (c : Condition) (inner outer : List Statement)
    → Lowers w.condition some a b c → form_of inner ≡ one place (item.Assign v (Same (Number 1))) → form_of outer ≡ one place (item.Assign v (Same (Number 0)))
    → z.later ≡ b.later → Writes (emit (forked place c (form_of inner) (form_of outer)) b.written.next) b.written z.written tt
    → Lowers (used (Truth place v) w) some a z tt
truth_lowered place v w some a b z c inner outer h k l same p = record {
  by = λ rest q.
      let i = h.by rest q in
      (same ∙ i.0, branched place (w.condition (is_counted rest) a.written.next) (gives place v (Number 1)) (gives place v (Number 0)) a.written b.written b.written b.written z.written c inner outer i.1 (constant_block place v 1 b.written inner k) (constant_block place v 0 b.written outer l) p);
}

pub and_lowered : (place : Place) (fc : VariableSet → ℕ → Made Condition) (w : Ways) (some others : MarkCounts) (s : VariableSet) (a b d e z : LoweringState) (v : ℕ) (c : Condition) (inner outer : List Statement)
    → is_counted others ≡ s → Lowers fc some b d c → Parts (used (Truth place v) w) others d e inner → form_of outer ≡ one place (item.Assign v (Same (Number 0)))
    → v ≡ a.written.next → b.written ≡ record { code = a.written.code; next = number_after v } → b.later ≡ a.later → z.later ≡ e.later
    → Writes (emit (forked place c (form_of inner) (form_of outer)) e.written.next) e.written z.written tt
    → Lowers (λ later n. branches place (fc (or later s) (n + 1)) (λ k. branches place (w.condition later k) (gives place n (Number 1)) (gives place n (Number 0))) (gives place n (Number 0)) ≫ λ x. nothing (Variable n)) (both some others) a z (Variable v)
and_lowered place fc w some others s a b d e z v c inner outer told h k l is after same last p = reserved_lowered (λ n later m. branches place (fc (or later s) m) (used (Truth place n) w later) (gives place n (Number 0))) (both some others) a b z v is after same
    (λ later. let l = late_branches place (fc (or later s) (v + 1)) (used (Truth place v) w later) (gives place v (Number 0)) in omega (arith, l))
    (forked_lowered place fc (used (Truth place v) w) (λ later. gives place v (Number 0)) some others s b d z e.written e.written c inner outer told h
    (λ rest q. let j = k.by rest q in (last ∙ j.0, j.1, constant_block place v 0 e.written outer l)) p)

pub or_lowered : (place : Place) (fc : VariableSet → ℕ → Made Condition) (w : Ways) (some others : MarkCounts) (s : VariableSet) (a b d e z : LoweringState) (v : ℕ) (c : Condition) (inner outer : List Statement)
    → is_counted others ≡ s → Lowers fc some b d c → Parts (used (Truth place v) w) others d e outer → form_of inner ≡ one place (item.Assign v (Same (Number 1)))
    → v ≡ a.written.next → b.written ≡ record { code = a.written.code; next = number_after v } → b.later ≡ a.later → z.later ≡ e.later
    → Writes (emit (forked place c (form_of inner) (form_of outer)) e.written.next) e.written z.written tt
    → Lowers (λ later n. branches place (fc (or later s) (n + 1)) (gives place n (Number 1)) (λ k. branches place (w.condition later k) (gives place n (Number 1)) (gives place n (Number 0))) ≫ λ x. nothing (Variable n)) (both some others) a z (Variable v)
or_lowered place fc w some others s a b d e z v c inner outer told h k l is after same last p = reserved_lowered (λ n later m. branches place (fc (or later s) m) (gives place n (Number 1)) (used (Truth place n) w later)) (both some others) a b z v is after same
    (λ later. let l = late_branches place (fc (or later s) (v + 1)) (gives place v (Number 1)) (used (Truth place v) w later) in omega (arith, l))
    (forked_lowered place fc (λ later. gives place v (Number 1)) (used (Truth place v) w) some others s b d z d.written e.written c inner outer told h
    (λ rest q. let j = k.by rest q in (last ∙ j.0, constant_block place v 1 d.written inner l, j.1)) p)

-- the last part isn't to come while the second is lowered
pub chosen_lowered : (place : Place) (part : BranchPurpose) (x y z : Ways) (first second third : MarkCounts) (s : VariableSet) (a : LoweringState) (d e g : CodeSoFar) (dl dm el em gl : MarkCounts) (last : LoweringState) (c : Condition) (inner outer : List Statement)
    → is_counted (both second third) ≡ s → Lowers x.condition first a (record { written = d; later = dl }) c
    → Changes Remove third dl dm → Parts (used part y) second (record { written = d; later = dm }) (record { written = e; later = el }) inner
    → Changes Add third el em → Parts (used part z) third (record { written = e; later = em }) (record { written = g; later = gl }) outer
    → last.later ≡ gl → Writes (emit (forked place c (form_of inner) (form_of outer)) g.next) g last.written tt
    → Lowers (chosen_by place part x y z s) (both first (both second third)) a last tt
chosen_lowered place part x y z first second third s a d e g dl dm el em gl last c inner outer told h out i back j same p =
    forked_lowered place x.condition (used part y) (used part z) first (both second third) s a (record { written = d; later = dl }) last e g c inner outer told h
    (λ rest q.
    let k = i.by rest (out (both rest second) (q ∙ parts_together rest second third)) in
    let l = j.by rest (back ∙ ap (λ c. both c third) k.0) in
    (same ∙ l.0, k.1, l.1)) p

-- what a conditional expression gives, in a variable
pub picked_lowered : (place : Place) (x y z : Ways) (some : MarkCounts) (s : VariableSet) (a b last : LoweringState) (v : ℕ) → Lowers (chosen_by place (Value place v) x y z s) some b last tt
    → v ≡ a.written.next → b.written ≡ record { code = a.written.code; next = number_after v } → b.later ≡ a.later
    → Lowers (λ later n. chosen place s x y z later n) some a last (Variable v)
picked_lowered place x y z some s a b last v h is after same =
    reserved_lowered (λ n. chosen_by place (Value place n) x y z s) some a b last v is after same
    (λ later.
    let c = x.condition (or later s) (v + 1) in
    let l = late_branches place c (used (Value place v) y later) (used (Value place v) z later) in
    let t = late_then (y.value later c.next).code (one place (item.Assign v (Same (y.value later c.next).given))) in omega (arith, l, t))
    h

-- statements of their own
pub alone : (made : Made (Unit {0})) (a c d : CodeSoFar) (outer inner : List Statement) → form_of outer ≡ a.code → form_of inner ≡ c.code → d ≡ record { code = form_of outer; next = c.next } → Writes made (record { code = Done; next = a.next }) c tt → IsBlock made a d inner
alone made a c d outer inner out in_it ended w = record {
  grows = omega (arith, number, w.grows);
  fits = λ lt. let h = w.fits (omega (arith, number, lt)) in record { code = ap (λ (s : CodeSoFar). s.code) ended ∙ out; block = in_it ∙ h.code; next = number ∙ h.next };
  full = λ start over. w.full start (omega (arith, number, over));
} where
  number : d.next ≡ c.next
  number = ap (λ (s : CodeSoFar). s.next) ended

pub block_made : (made : VariableSet → ℕ → Made (Unit {0})) (some : MarkCounts) (a b c d : LoweringState) (outer inner : List Statement)
    → b.written ≡ record { code = Done; next = a.written.next } → b.later ≡ a.later → form_of outer ≡ a.written.code → Lowers made some b c tt
    → form_of inner ≡ c.written.code → d.written ≡ record { code = form_of outer; next = c.written.next } → d.later ≡ c.later → Parts made some a d inner
block_made made some a b c d outer inner begun same out h in_it ended after = record {
  by = λ rest q.
      let i = h.by rest (same ∙ q) in
      let w = subst (λ (s : CodeSoFar). Writes (made (is_counted rest) s.next) s c.written tt) begun i.1 in
      (after ∙ i.0, alone (made (is_counted rest) a.written.next) a.written c.written d.written outer inner out in_it ended w);
}

-- ---- targets

-- a variable's own assignment is no more to come
pub removed_lowered : (v : ℕ) (a b : LoweringState) → b.written ≡ a.written → Changes Remove (once v) a.later b.later → Lowers (λ later. nothing (Local v)) (once v) a b (Local v)
removed_lowered v a b e h = record {
  by = λ rest q. (h rest q, subst (λ (w : CodeSoFar). Writes (nothing (Local v) a.written.next) a.written w (Local v)) (sym e) (nothing_written a.written (Local v)));
}

step_flag : (c : VariableSet) (v : ℕ) → true ≡ or c (just v) v
step_flag c v = sym (ap (λ b. c v || b) (same_number v) ∙ or_true (c v))

-- what a step finds in a place
step_held : (l : Links) (place : Place) (kind : LoadKind) (t : Target) (c : VariableSet) (n : ℕ) (o : Assignee) (new : Bool) → o ≡ (spot l t c n).given
    → held place kind (if new then c else (λ v. true)) o ≡ held place kind (if new then c else or c (assigned_target t)) o
step_held l place kind t c n o true e = refl
step_held l place kind (InVariable v) c n o false e =
    subst (λ (o : Assignee). held place kind (λ v. true) o ≡ held place kind (or c (just v)) o) (sym e) (ap (λ b. variable b place v) (step_flag c v))
step_held l place kind (AtAddress checked a) c n o false e =
    subst (λ (o : Assignee). held place kind (λ v. true) o ≡ held place kind (or c (assigned_target (AtAddress checked a))) o) (sym e) refl

pub step_lowered : (l : Links) (place : Place) (kind : LoadKind) (t : Target) (change : ℕ) (new : Bool) (a b c : LoweringState) (o : Assignee) (z : Operand)
    → Lowers (spot l t) (target_assignments t) a b o → c.later ≡ b.later
    → Writes (held place kind (if new then is_counted b.later else (λ v. true)) o b.written.next ≫ λ x n. advanced place kind change o x n ≫ λ y. nothing (if new then y else x)) b.written c.written z
    → Lowers (ways l (Step place kind t change new)).value (target_assignments t) a c z
step_lowered l place kind t change new a b c o z h same w = record {
  by = λ rest q.
      let i = h.by rest q in
      let behind = λ (g : ℕ → Made Operand). g b.written.next ≫ λ x n. advanced place kind change o x n ≫ λ y. nothing (if new then y else x) in (
        same ∙ i.0,
        written_so (spot l t (is_counted rest) a.written.next) (λ o n. held place kind (if new then is_counted rest else or (is_counted rest) (assigned_target t)) o n ≫ λ x n. advanced place kind change o x n ≫ λ y. nothing (if new then y else x))
            (behind (held place kind (if new then is_counted rest else (λ v. true)) o)) a.written b.written c.written o z (λ e. ap behind (step_held l place kind t (is_counted rest) a.written.next o new e)) i.1
            (subst (λ (s : MarkCounts). Writes (held place kind (if new then is_counted s else (λ v. true)) o b.written.next ≫ λ x n. advanced place kind change o x n ≫ λ y. nothing (if new then y else x)) b.written c.written z) i.0 w),
      );
}

pub update_lowered : (l : Links) (place : Place) (kind : LoadKind) (t : Target) (operator : Operator) (e : Expression) (a b c d z : LoweringState) (o : Assignee) (x y w : Operand)
    → Lowers (spot l t) (target_assignments t) a b o → c.later ≡ b.later → Writes (held place kind (is_counted b.later) o b.written.next) b.written c.written x
    → Lowers (ways l e).value (assignments e) c d y → z.later ≡ d.later → Writes (operated place operator x y d.written.next ≫ λ z n. narrowed place kind z n ≫ put_in place kind o) d.written z.written w
    → Lowers (ways l (Update place kind t operator e)).value (both (target_assignments t) (assignments e)) a z w
update_lowered l place kind t operator e a b c d z o x y w h same k v last r =
    let back = λ (o : Assignee) (x y : Operand) (n : ℕ). operated place operator x y n ≫ λ z n. narrowed place kind z n ≫ put_in place kind o in
    same_lowered (ways l (Update place kind t operator e)).value (both (target_assignments t) (both never (assignments e))) (both (target_assignments t) (assignments e)) a z w (ap (both (target_assignments t)) (never_with (assignments e)))
    (both_lowered (spot l t) (λ o later n. held place kind (or later (assigned e)) o n ≫ λ x n. (ways l e).value later n ≫ back o x) (target_assignments t) (both never (assignments e)) (assigned e) a b z o w (ap is_counted (never_with (assignments e)) ∙ assigned_told e) h
    (both_lowered (λ later. held place kind later o) (λ x later n. (ways l e).value later n ≫ back o x) never (assignments e) (assigned e) b c z x w (assigned_told e)
    (leaf_lowered (λ later. held place kind later o) b c x same k)
    (then_lowered (ways l e).value (back o x) (assignments e) c d z y w v last r)))

-- ---- effects and conditions by the value

abbrev pub IsPlain : Expression → Type 0
IsPlain (tree.Number k) = Unit {0}
IsPlain (Address object offset) = Unit {0}
IsPlain (Frame p offset) = Unit {0}
IsPlain (tree.Variable p v) = ⊥
IsPlain (Read p kind checked a) = Unit {0}
IsPlain (Convert p kind a) = ⊥
IsPlain (Not p a) = ⊥
IsPlain (Binary p operator a b) = Unit {0}
IsPlain (Compare p comparison turned a b) = ⊥
IsPlain (And p a b) = Unit {0}
IsPlain (Or p a b) = Unit {0}
IsPlain (Conditional p a b c) = ⊥
IsPlain (Comma a b) = ⊥
IsPlain (Assign p kind t a) = Unit {0}
IsPlain (Update p kind t operator a) = Unit {0}
IsPlain (Step p kind t change new) = ⊥
IsPlain (Call p f xs) = Unit {0}
IsPlain (Putchar p a) = ⊥
IsPlain (Exit p a) = Unit {0}
IsPlain (Abort p) = Unit {0}

abbrev pub IsTested : Expression → Type 0
IsTested (tree.Number k) = Unit {0}
IsTested (Address object offset) = Unit {0}
IsTested (Frame p offset) = Unit {0}
IsTested (tree.Variable p v) = Unit {0}
IsTested (Read p kind checked a) = Unit {0}
IsTested (Convert p kind a) = Unit {0}
IsTested (Not p a) = ⊥
IsTested (Binary p operator a b) = Unit {0}
IsTested (Compare p comparison turned a b) = ⊥
IsTested (And p a b) = Unit {0}
IsTested (Or p a b) = Unit {0}
IsTested (Conditional p a b c) = Unit {0}
IsTested (Comma a b) = ⊥
IsTested (Assign p kind t a) = Unit {0}
IsTested (Update p kind t operator a) = Unit {0}
IsTested (Step p kind t change new) = Unit {0}
IsTested (Call p f xs) = Unit {0}
IsTested (Putchar p a) = Unit {0}
IsTested (Exit p a) = Unit {0}
IsTested (Abort p) = Unit {0}

-- the value is dropped
pub plain_lowered : (l : Links) (e : Expression) (some : MarkCounts) (a b : LoweringState) (x : Operand) → IsPlain e → Lowers (ways l e).value some a b x → Lowers (ways l e).effect some a b tt
plain_lowered l (tree.Number k) some a b x h w = dropped_lowered (ways l (tree.Number k)).value some a b x w
plain_lowered l (Address object offset) some a b x h w = dropped_lowered (ways l (Address object offset)).value some a b x w
plain_lowered l (Frame p offset) some a b x h w = dropped_lowered (ways l (Frame p offset)).value some a b x w
plain_lowered l (tree.Variable p v) some a b x h w = absurd h
plain_lowered l (Read p kind checked e) some a b x h w = dropped_lowered (ways l (Read p kind checked e)).value some a b x w
plain_lowered l (Convert p kind e) some a b x h w = absurd h
plain_lowered l (Not p e) some a b x h w = absurd h
plain_lowered l (Binary p operator e f) some a b x h w = dropped_lowered (ways l (Binary p operator e f)).value some a b x w
plain_lowered l (Compare p comparison turned e f) some a b x h w = absurd h
plain_lowered l (And p e f) some a b x h w = dropped_lowered (ways l (And p e f)).value some a b x w
plain_lowered l (Or p e f) some a b x h w = dropped_lowered (ways l (Or p e f)).value some a b x w
plain_lowered l (Conditional p e f g) some a b x h w = absurd h
plain_lowered l (Comma e f) some a b x h w = absurd h
plain_lowered l (Assign p kind t e) some a b x h w = dropped_lowered (ways l (Assign p kind t e)).value some a b x w
plain_lowered l (Update p kind t operator e) some a b x h w = dropped_lowered (ways l (Update p kind t operator e)).value some a b x w
plain_lowered l (Step p kind t change new) some a b x h w = absurd h
plain_lowered l (Call p f xs) some a b x h w = dropped_lowered (ways l (Call p f xs)).value some a b x w
plain_lowered l (Putchar p e) some a b x h w = absurd h
plain_lowered l (Exit p e) some a b x h w = dropped_lowered (ways l (Exit p e)).value some a b x w
plain_lowered l (Abort p) some a b x h w = dropped_lowered (ways l (Abort p)).value some a b x w

-- the value isn't 0
pub tested_lowered : (l : Links) (e : Expression) (some : MarkCounts) (a b : LoweringState) (x : Operand) → IsTested e → Lowers (ways l e).value some a b x → Lowers (ways l e).condition some a b (isnt_zero x)
tested_lowered l (tree.Number k) some a b x h w = given_lowered (ways l (tree.Number k)).value isnt_zero some a b x w
tested_lowered l (Address object offset) some a b x h w = given_lowered (ways l (Address object offset)).value isnt_zero some a b x w
tested_lowered l (Frame p offset) some a b x h w = given_lowered (ways l (Frame p offset)).value isnt_zero some a b x w
tested_lowered l (tree.Variable p v) some a b x h w = given_lowered (ways l (tree.Variable p v)).value isnt_zero some a b x w
tested_lowered l (Read p kind checked e) some a b x h w = given_lowered (ways l (Read p kind checked e)).value isnt_zero some a b x w
tested_lowered l (Convert p kind e) some a b x h w = given_lowered (ways l (Convert p kind e)).value isnt_zero some a b x w
tested_lowered l (Not p e) some a b x h w = absurd h
tested_lowered l (Binary p operator e f) some a b x h w = given_lowered (ways l (Binary p operator e f)).value isnt_zero some a b x w
tested_lowered l (Compare p comparison turned e f) some a b x h w = absurd h
tested_lowered l (And p e f) some a b x h w = given_lowered (ways l (And p e f)).value isnt_zero some a b x w
tested_lowered l (Or p e f) some a b x h w = given_lowered (ways l (Or p e f)).value isnt_zero some a b x w
tested_lowered l (Conditional p e f g) some a b x h w = given_lowered (ways l (Conditional p e f g)).value isnt_zero some a b x w
tested_lowered l (Comma e f) some a b x h w = absurd h
tested_lowered l (Assign p kind t e) some a b x h w = given_lowered (ways l (Assign p kind t e)).value isnt_zero some a b x w
tested_lowered l (Update p kind t operator e) some a b x h w = given_lowered (ways l (Update p kind t operator e)).value isnt_zero some a b x w
tested_lowered l (Step p kind t change new) some a b x h w = given_lowered (ways l (Step p kind t change new)).value isnt_zero some a b x w
tested_lowered l (Call p f xs) some a b x h w = given_lowered (ways l (Call p f xs)).value isnt_zero some a b x w
tested_lowered l (Putchar p e) some a b x h w = given_lowered (ways l (Putchar p e)).value isnt_zero some a b x w
tested_lowered l (Exit p e) some a b x h w = given_lowered (ways l (Exit p e)).value isnt_zero some a b x w
tested_lowered l (Abort p) some a b x h w = given_lowered (ways l (Abort p)).value isnt_zero some a b x w

-- ---- lists

seam : {X : Type 0} (xs : List X) (x : X) (ys : List X) → (xs ++ x ∷ ys) ≡ ((xs ++ x ∷ []) ++ ys)
seam [] x ys = refl
seam (y ∷ xs) x ys = ap (λ zs. y ∷ zs) (seam xs x ys)

-- the first expressions of a list are lowered, and then the others
pub record Listed (l : Links) (xs : Expressions) (a now : LoweringState) (done : List Operand) (ys : Expressions) : Type 0 where
  pub follows : (b : LoweringState) (zs : List Operand) → Lowers (operands l ys) (all_assignments ys) now b zs → Lowers (operands l xs) (all_assignments xs) a b (done ++ zs)

pub first_listed : (l : Links) (xs : Expressions) (a : LoweringState) (done : List Operand) → done ≡ [] → Listed l xs a a done xs
first_listed l xs a done e = record {
  follows = λ b zs h. subst (λ (os : List Operand). Lowers (operands l xs) (all_assignments xs) a b (os ++ zs)) (sym e) h;
}

pub next_listed : (l : Links) (xs : Expressions) (a now new : LoweringState) (done more : List Operand) (y : Expression) (ys zs : Expressions) (x : Operand) → zs ≡ expression_then y ys → more ≡ done ++ x ∷ [] → Listed l xs a now done zs → Lowers (ways l y).value (assignments y) now new x → Listed l xs a new more ys
next_listed l xs a now new done more y ys zs x e m h k = record {
  follows = λ b rest g.
      let one_more = both_lowered (ways l y).value (λ x later n. operands l ys later n ≫ λ xs. nothing (x ∷ xs)) (assignments y) (all_assignments ys) (assigned_all ys) now new b x (x ∷ rest) (all_told ys) k (given_lowered (operands l ys) (λ zs. x ∷ zs) (all_assignments ys) new b rest g) in
      subst (λ (os : List Operand). Lowers (operands l xs) (all_assignments xs) a b os) (seam done x rest ∙ ap (λ os. os ++ rest) (sym m))
      (h.follows b (x ∷ rest) (subst (λ (es : Expressions). Lowers (operands l es) (all_assignments es) now b (x ∷ rest)) (sym e) one_more));
}

pub last_listed : (l : Links) (xs : Expressions) (a now : LoweringState) (done : List Operand) (ys : Expressions) → ys ≡ no_expressions → Listed l xs a now done ys → Lowers (operands l xs) (all_assignments xs) a now done
last_listed l xs a now done ys e h =
    subst (λ (os : List Operand). Lowers (operands l xs) (all_assignments xs) a now os) (append-nil done)
    (h.follows now [] (subst (λ (es : Expressions). Lowers (operands l es) (all_assignments es) now now []) (sym e) (nothing_lowered now [])))
