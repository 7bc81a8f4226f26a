-- Forms go astray under no bound.
use Rattle.std.proofs.Common.{◌≡◌, ℕ, zero, suc, ◌+◌, ◌≤◌, Bool, true, false, nat_lt, [], refl, sym, ◌∙◌, subst, arith}
use Rattle.std.proofs.lemmas.Bool.Decides.{nat_tests}
use Rattle.dae_meaning.specs.Results.{Result, Astray}
use Rattle.dae_meaning.specs.Alike.{IsUnder, Stays, Grows}
use Rattle.dae_meaning.specs.Variables.{Env}
use Rattle.dae_ir.specs.Form.{Program, all_loads}
use Rattle.dae_ir.specs.Laws.{Counting, MoreTurns}
use Rattle.dae_ir.specs.Programs.{end_of as form_end}
use Rattle.dae_program.specs.Printing.{most_bytes}
use Rattle.dae_program.specs.Promise.{NamedNeverStray}
use Rattle.dae_lower.specs.Keeping.{FormsNeverStray, form_run, with_no_items}
use Rattle.dae_lower.specs.Lowering.{program_form}
use Rattle.dae_lower.proofs.Whole.{form_keeps}

strays_next : (r q : Result Env) → IsUnder r q → form_end r ≡ Astray → form_end q ≡ Astray
strays_next r q (Stays t) e = e
strays_next r q (Grows w t f) e = cc

strays_on : (f : ℕ → Result Env) → ((n : ℕ) → IsUnder (f n) (f (suc n))) → (n m : ℕ) → n ≤ m → form_end (f n) ≡ Astray → form_end (f m) ≡ Astray
strays_on f order n zero l e = subst (λ (k : ℕ). form_end (f k) ≡ Astray) (none l) e where
  none : n ≤ 0 → n ≡ 0
  none h = omega (arith, h)
strays_on f order n (suc m) l e = by (nat_lt m n) refl (λ h. strays_next (f m) (f (suc m)) (order m) (strays_on f order n m h e)) where
  same : (nat_lt m n) ≡ true → n ≡ suc m
  same g = grind (arith, nat_tests, g, l)

  by : (b : Bool) → nat_lt m n ≡ b → (n ≤ m → form_end (f (suc m)) ≡ Astray) → form_end (f (suc m)) ≡ Astray
  by true g go = subst (λ (k : ℕ). form_end (f k) ≡ Astray) (same g) e
  by false g go = go (grind (arith, nat_tests, g))

pub forms_never_stray : NamedNeverStray → ((p : Program) (counted : Counting) → MoreTurns p counted) → FormsNeverStray
forms_never_stray named order p place variables main scoped depth limit w begins unread placed n e =
    let kept = form_keeps p place variables main scoped depth limit w begins unread (most_bytes + n) (omega arith) in
    let far = strays_on (form_run p place variables main w) (λ m. order (program_form p place variables main) all_loads m p.limit main [] (with_no_items w)) n (most_bytes + n) (omega arith) e in
    named p false (most_bytes + n) main w placed begins (sym kept.end ∙ far)
