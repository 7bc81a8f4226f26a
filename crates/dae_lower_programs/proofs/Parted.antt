-- A switch in parts.
use Rattle.std.proofs.Common.{◌≡◌, ℕ, ◌+◌, ◌<◌, ◌≤◌, Bool, List, [], refl, ap, sym, subst, ◌∙◌, arith}
use Rattle.dae_base.specs.declared.Place.{Place}
use Rattle.dae_ir.specs.Code.{Do, Done, If, Loop}
use Rattle.dae_ir.specs.Form.{Form, form_of}
use Rattle.dae_ir.specs.declared.form.Item.TheVariants.{Assign, Break, Continue}
use Rattle.dae_ir.specs.declared.form.Operand.{Operand}
use Rattle.dae_ir.specs.declared.form.Operand.TheVariants.{Number, Variable}
use Rattle.dae_ir.specs.declared.form.Statement.{Statement}
use Rattle.dae_ir.specs.declared.form.Value.TheVariants.{Same}
use Rattle.dae_lower.specs.Lowering.{emit, one, only, search, test_of, where_so, ◌⨾◌}
use Rattle.dae_lower_expressions.specs.Lowered.{LoweringState, Whole}
use Rattle.dae_lower_programs.proofs.Reserving.{two_reserved}
use Rattle.dae_lower_programs.proofs.Rows.{two_codes}
use Rattle.dae_lower_programs.specs.Switching.{switch_begun, switch_ended}
use Rattle.dae_lower_maker.proofs.Laws.{parts_written}
use Rattle.dae_lower_maker.specs.Making.{CodeSoFar, Writes}
use Rattle.dae_lower_maker.specs.Numbers.{late, late_in, number_after}
use Rattle.dae_meaning.specs.declared.Comparison.TheVariants.{NotEqual}
use Rattle.dae_program.specs.Trees.{Arms}

-- nothing has continued the loop outside
abbrev pub cleared : Place → ℕ → Bool → Form
cleared p u goes_on = where_so goes_on (one p (Assign u (Same (Number 0))))

abbrev begun : Place → (v other : ℕ) → (searching none : Form) → Form → Form
begun p v other searching none k = Do p (Assign v (Same (Number other))) (Loop p searching none k)

pub begun_whole : (p : Place) (x : Operand) (number other : ℕ) (arms : Arms) (goes_on : Bool) (a z : LoweringState) (b c d e : CodeSoFar) (v u : ℕ) (searching none : List Statement)
    → number ≡ other → v ≡ a.written.next → b ≡ record { code = a.written.code; next = number_after v } → u ≡ b.next → c ≡ record { code = b.code; next = number_after u }
    → form_of searching ≡ search p x v 0 arms → none ≡ []
    → Writes (only (one p (Assign v (Same (Number number)))) (tt {0}) c.next) c d tt
    → Writes (emit (Loop p (form_of searching) (form_of none) Done) d.next) d e tt
    → Whole (emit (cleared p u goes_on)) (record { written = e; later = a.later }) z tt
    → Whole (switch_begun p x other arms goes_on) a z v
begun_whole p x number other arms goes_on a z b c d e v u searching none same is after next after' search_is none_is h i clear = record {
  by = λ q. let k = clear.by q in (k.0, whole k.1);
} where
  behind : Form
  behind = begun p v number (form_of searching) (form_of none) (cleared p u goes_on)

  codes : u ≡ v + 1 → behind ≡ (switch_begun p x other arms goes_on a.written.next).code
  codes more =
      ap (λ m. begun p v m (form_of searching) (form_of none) (cleared p u goes_on)) same
      ∙ ap (λ (f : Form). begun p v other f (form_of none) (cleared p u goes_on)) search_is
      ∙ ap (λ (xs : List Statement). begun p v other (search p x v 0 arms) (form_of xs) (cleared p u goes_on)) none_is
      ∙ ap (λ m. begun p v other (search p x v 0 arms) Done (cleared p m goes_on)) more
      ∙ ap (λ n. begun p n other (search p x n 0 arms) Done (cleared p (n + 1) goes_on)) is

  whole : Writes (emit (cleared p u goes_on) e.next) e z.written tt → Writes (switch_begun p x other arms goes_on a.written.next) a.written z.written v
  whole k =
      two_reserved (emit behind c.next) (switch_begun p x other arms goes_on a.written.next) a.written b c z.written v u v is after next after'
      (parts_written (emit (begun p v number (form_of searching) (form_of none) Done) c.next) (emit (cleared p u goes_on) e.next) (emit behind c.next) c e z.written tt tt tt
      (parts_written (only (one p (Assign v (Same (Number number)))) (tt {0}) c.next) (emit (Loop p (form_of searching) (form_of none) Done) d.next) (emit (begun p v number (form_of searching) (form_of none) Done) c.next) c d e tt tt tt h i
      (λ h i. record { code = two_codes c.code d.code e.code (one p (Assign v (Same (Number number)))) (Loop p (form_of searching) (form_of none) Done) h.code i.code; given = refl; next = i.next ∙ h.next })
      (λ some. omega (arith, some)) (λ h some. omega (arith, some))) k
      (λ h k. record { code = two_codes c.code e.code z.written.code (begun p v number (form_of searching) (form_of none) Done) (cleared p u goes_on) h.code k.code; given = refl; next = k.next ∙ h.next })
      (λ some. omega (arith, some)) (λ h some. omega (arith, some)))
      (λ more two code w. record {
        code = w.code ∙ ap (λ (f : Form). f ⨾ behind) code ∙ ap (λ (f : Form). a.written.code ⨾ f) (codes more);
        given = is;
        next = w.next ∙ two ∙ ap (λ n. n + 2) is;
      })
      (λ more some. subst (λ (f : Form). 0 < late_in f) (codes more) some)
      (subst (λ (n : ℕ). late n ≤ late_in (switch_begun p x other arms goes_on a.written.next).code) (sym is) (omega arith))

abbrev pub noted : Place → ℕ → Bool → Form
noted p u goes_on = where_so goes_on (Do p (Assign u (Same (Number 1))) (one p Break))

abbrev pub going_on : Place → ℕ → Bool → Form
going_on p u goes_on = where_so goes_on (If p (test_of NotEqual (Variable u) (Number 0)) (one p Continue) Done Done)

pub ended_whole : (p : Place) (u : ℕ) (goes_on : Bool) (body step : List Statement) (a z : LoweringState) (b : CodeSoFar)
    → form_of step ≡ noted p u goes_on
    → Writes (emit (Loop p (form_of body) (form_of step) Done) a.written.next) a.written b tt
    → Whole (emit (going_on p u goes_on)) (record { written = b; later = a.later }) z tt
    → Whole (switch_ended p u goes_on (form_of body)) a z tt
ended_whole p u goes_on body step a z b step_is h back = record {
  by = λ q. let k = back.by q in (k.0, whole k.1);
} where
  whole : Writes (emit (going_on p u goes_on) b.next) b z.written tt → Writes (switch_ended p u goes_on (form_of body) a.written.next) a.written z.written tt
  whole k =
      parts_written (emit (Loop p (form_of body) (form_of step) Done) a.written.next) (emit (going_on p u goes_on) b.next) (switch_ended p u goes_on (form_of body) a.written.next) a.written b z.written tt tt tt h k
      (λ h k. record {
        code = two_codes a.written.code b.code z.written.code (Loop p (form_of body) (form_of step) Done) (going_on p u goes_on) h.code k.code
            ∙ ap (λ (f : Form). a.written.code ⨾ Loop p (form_of body) f (going_on p u goes_on)) step_is;
        given = refl;
        next = k.next ∙ h.next;
      })
      (λ some. let same = ap (λ (f : Form). late_in f) step_is in omega (arith, same, some)) (λ h some. omega (arith, some))
