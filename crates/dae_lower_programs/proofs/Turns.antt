-- Statements that hold others: switches with their arms, and loops.
use Rattle.std.proofs.Common.{◌≡◌, ◌⊎◌, ℕ, ◌+◌, ◌-◌, ◌^◌, ◌<◌, ◌≤◌, Bool, List, length, drop, get_or, inl, inr, refl, ap, ◌∙◌, arith}
use Rattle.dae_base.specs.declared.Place.{Place}
use Rattle.dae_ir.specs.Code.{Done, If, Loop}
use Rattle.dae_ir.specs.Form.{Form, form_of}
use Rattle.dae_ir.specs.declared.form.Item.TheVariants.{Break}
use Rattle.dae_ir.specs.declared.form.Operand.{Operand}
use Rattle.dae_ir.specs.declared.form.Operand.TheVariants.{Number, Variable}
use Rattle.dae_ir.specs.declared.form.Statement.{Statement as FormStatement}
use Rattle.dae_lower.specs.Lowering.{Links, Made, arms_from, emit, one, only, search, skip, statements, switch, test_of, ◌⨾◌, ◌≫◌}
use Rattle.dae_lower_expressions.specs.Lowered.{IsBlock, LoweringState, Whole}
use Rattle.dae_lower_maker.proofs.Laws.{after_fits, after_most, below_or_last, late_then}
use Rattle.dae_lower_maker.specs.Making.{Writes, Wrote}
use Rattle.dae_lower_maker.specs.Numbers.{late_in, number_after}
use Rattle.dae_lower_programs.proofs.Parted.{going_on, noted}
use Rattle.dae_lower_programs.proofs.Rows.{block_written, two_codes}
use Rattle.dae_lower_programs.proofs.Searching.{one_more}
use Rattle.dae_program.proofs.LawsOfTrees.{arms_at, arms_end}
use Rattle.dae_lower_programs.specs.Made.{WholeBlock}
use Rattle.dae_lower_programs.specs.Switching.{arm_done, switch_begun, switch_ended}
use Rattle.dae_meaning.specs.declared.Comparison.TheVariants.{AtLeastUnsigned}
use Rattle.dae_program.specs.declared.statements.Arm.{Arm}
use Rattle.dae_program.specs.Trees as tree
use Rattle.dae_program.specs.Views.{view_statements, arms_of}

-- an arm of a number
abbrev pub arm_made : Links → Place → (v k : ℕ) → tree.Statements → ℕ → Made (Unit {0})
arm_made l p v k t n = let made = statements l t n in emit (If p (test_of AtLeastUnsigned (Number k) (Variable v)) made.code Done Done) made.next

pub arm_whole : (l : Links) (p : Place) (v k i : ℕ) (t : tree.Statements) (a b c : LoweringState) (body : List FormStatement) → k ≡ i → WholeBlock (statements l t) a b body → Whole (arm_done p v k (form_of body)) b c tt → Whole (arm_made l p v i t) a c tt
arm_whole l p v k i t a b c body same h g = record {
  by = λ q. let j = h.by q in let m = g.by j.0 in (m.0, whole j.1 m.1);
} where
  whole : IsBlock (statements l t a.written.next) a.written b.written body → Writes (arm_done p v k (form_of body) b.written.next) b.written c.written tt → Writes (arm_made l p v i t a.written.next) a.written c.written tt
  whole j m =
      block_written (statements l t a.written.next) (arm_done p v k (form_of body) b.written.next) (arm_made l p v i t a.written.next) a.written b.written c.written body tt j m
      (λ j m. record {
        code = m.code ∙ ap (λ (f : Form). f ⨾ If p (test_of AtLeastUnsigned (Number k) (Variable v)) (form_of body) Done Done) j.code
            ∙ ap (λ (f : Form). a.written.code ⨾ If p (test_of AtLeastUnsigned (Number k) (Variable v)) f Done Done) j.block
            ∙ ap (λ n. a.written.code ⨾ If p (test_of AtLeastUnsigned (Number n) (Variable v)) (statements l t a.written.next).code Done Done) same;
        given = refl;
        next = m.next ∙ j.next;
      })
      (λ some. omega (arith, some)) (λ j some. let block = ap (λ (f : Form). late_in f) j.block in omega (arith, block, some))

pub made_arms_at : (l : Links) (p : Place) (v i : ℕ) (xs : List Arm) (a : Arm) → i < length xs → a ≡ get_or xs i a → (n : ℕ) → arms_from l p v i (arms_of (drop i xs)) n ≡ (arm_made l p v i (view_statements a.statements.items) n ≫ λ x. arms_from l p v (i + 1) (arms_of (drop (i + 1) xs)))
made_arms_at l p v i xs a lt is n = ap (λ arms. arms_from l p v i arms n) (arms_at xs i a lt is) ∙ ap (λ k. arm_made l p v i (view_statements a.statements.items) n ≫ λ x. arms_from l p v k (arms_of (drop (i + 1) xs))) (one_more i)

pub made_arms_end : (l : Links) (p : Place) (v i : ℕ) (xs : List Arm) → length xs ≤ i → arms_from l p v i (arms_of (drop i xs)) ≡ skip
made_arms_end l p v i xs le = ap (arms_from l p v i) (arms_end xs i le)

-- the arms of a switch and what is behind them
abbrev turned : Place → Bool → Form → ℕ → Form
turned p goes_on f u = Loop p f (noted p u goes_on) (going_on p u goes_on)

abbrev arms_turned : Links → Place → Bool → tree.Arms → (u v n : ℕ) → Made (Unit {0})
arms_turned l p goes_on arms u v n = only (turned p goes_on ((arms_from l p v 0 arms n).code ⨾ one p Break) u) (tt {0}) (arms_from l p v 0 arms n).next

-- a switch, once its value is known
pub switch_whole : (l : Links) (p : Place) (x : Operand) (other : ℕ) (arms : tree.Arms) (goes_on : Bool) (a b c d : LoweringState) (v u : ℕ) (body : List FormStatement)
    → u ≡ number_after v
    → Whole (switch_begun p x other arms goes_on) a b v
    → WholeBlock (λ n. arms_from l p v 0 arms n ≫ λ u. emit (one p Break)) b c body
    → Whole (switch_ended p u goes_on (form_of body)) c d tt
    → Whole (λ n. switch p x n other (search p x n 0 arms) goes_on (arms_from l p n 0 arms (n + 2))) a d tt
switch_whole l p x other arms goes_on a b c d v u body flag h i k = record {
  by = λ q.
      let first = h.by q in
      let second = i.by first.0 in
      let third = k.by second.0 in (third.0, whole first.1 second.1 third.1);
} where
  -- the arms, from what the switch begins with on
  rest : IsBlock (arms_from l p v 0 arms b.written.next ≫ λ u. emit (one p Break)) b.written c.written body → Writes (switch_ended p u goes_on (form_of body) c.written.next) c.written d.written tt → Writes (arms_turned l p goes_on arms u v b.written.next) b.written d.written tt
  rest j m =
      block_written (arms_from l p v 0 arms b.written.next ≫ λ u. emit (one p Break)) (switch_ended p u goes_on (form_of body) c.written.next) (arms_turned l p goes_on arms u v b.written.next) b.written c.written d.written body tt j m
      (λ j m. record {
        code = m.code ∙ ap (λ (f : Form). f ⨾ turned p goes_on (form_of body) u) j.code ∙ ap (λ (f : Form). b.written.code ⨾ turned p goes_on f u) j.block;
        given = refl;
        next = m.next ∙ j.next;
      })
      (λ some. omega (arith, some)) (λ j some. let block = ap (λ (f : Form). late_in f) j.block in omega (arith, block, some))

  -- the flag is the variable behind that of the arm
  one_more_than : Wrote (switch_begun p x other arms goes_on a.written.next) a.written b.written v → b.written.next < 2 ^ 32 - 1 → u ≡ v + 1
  one_more_than w lt = let m = after_most v in flag ∙ after_fits v (omega (arith, m, w.given, w.next, lt))

  all : ℕ → Made (Unit {0})
  all n = switch p x n other (search p x n 0 arms) goes_on (arms_from l p n 0 arms (n + 2))

  -- with a flag
  made_with : (u v n : ℕ) → Form
  made_with u v n = (arms_turned l p goes_on arms u v n).code

  same_code : Wrote (switch_begun p x other arms goes_on a.written.next) a.written b.written v → u ≡ v + 1 → made_with u v b.written.next ≡ made_with (a.written.next + 1) a.written.next (a.written.next + 2)
  same_code w more = ap (λ (m : ℕ). made_with m v b.written.next) more ∙ ap (λ (m : ℕ). made_with (m + 1) m b.written.next) w.given ∙ ap (λ (n : ℕ). made_with (a.written.next + 1) a.written.next n) w.next

  same_next : Wrote (switch_begun p x other arms goes_on a.written.next) a.written b.written v → (arms_from l p v 0 arms b.written.next).next ≡ (arms_from l p a.written.next 0 arms (a.written.next + 2)).next
  same_next w = ap (λ (m : ℕ). (arms_from l p m 0 arms b.written.next).next) w.given ∙ ap (λ (n : ℕ). (arms_from l p a.written.next 0 arms n).next) w.next

  late_all : late_in (all a.written.next).code ≡ late_in (switch_begun p x other arms goes_on a.written.next).code + late_in (made_with (a.written.next + 1) a.written.next (a.written.next + 2))
  late_all = late_then (switch_begun p x other arms goes_on a.written.next).code (made_with (a.written.next + 1) a.written.next (a.written.next + 2))

  by : Writes (switch_begun p x other arms goes_on a.written.next) a.written b.written v → Writes (arms_turned l p goes_on arms u v b.written.next) b.written d.written tt → a.written.next < 2 ^ 32 - 1 → 2 ^ 32 - 1 ≤ d.written.next
      → (b.written.next < 2 ^ 32 - 1) ⊎ (2 ^ 32 - 1 ≤ b.written.next) → 0 < late_in (all a.written.next).code
  by w m start over (inl lt) =
      let some = m.full lt over in
      let same = ap (λ (f : Form). late_in f) (same_code (w.fits lt) (one_more_than (w.fits lt) lt)) in omega (arith, late_all, same, some)
  by w m start over (inr le) = let some = w.full start le in omega (arith, late_all, some)

  wrote : Wrote (switch_begun p x other arms goes_on a.written.next) a.written b.written v → b.written.next < 2 ^ 32 - 1 → Wrote (arms_turned l p goes_on arms u v b.written.next) b.written d.written tt → Wrote (all a.written.next) a.written d.written tt
  wrote w lt m = record {
    code = two_codes a.written.code b.written.code d.written.code (switch_begun p x other arms goes_on a.written.next).code (made_with u v b.written.next) w.code m.code
        ∙ ap (λ (f : Form). a.written.code ⨾ ((switch_begun p x other arms goes_on a.written.next).code ⨾ f)) (same_code w (one_more_than w lt));
    given = refl;
    next = m.next ∙ same_next w;
  }

  whole : Writes (switch_begun p x other arms goes_on a.written.next) a.written b.written v → IsBlock (arms_from l p v 0 arms b.written.next ≫ λ u. emit (one p Break)) b.written c.written body → Writes (switch_ended p u goes_on (form_of body) c.written.next) c.written d.written tt
      → Writes (all a.written.next) a.written d.written tt
  whole w j k =
      let m = rest j k in record {
        grows = omega (arith, w.grows, m.grows);
        fits = λ lt. let low : b.written.next < 2 ^ 32 - 1 = omega (arith, m.grows, lt) in wrote (w.fits low) low (m.fits lt);
        full = λ start over. by w m start over (below_or_last b.written.next);
      }
