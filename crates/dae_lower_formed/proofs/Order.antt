-- What the form of a program does under small bounds is a part of what it does under large ones.
use Rattle.std.proofs.Common.{◌≡◌, ◌≢◌, ℕ, zero, suc, ◌+◌, ◌≤◌, [], refl, sym, subst, arith, zero-add}
use Rattle.dae_meaning.specs.Results.{Result, End, Going, Astray, Halted, Trapped, world_of}
use Rattle.dae_meaning.specs.Alike.{IsFront, IsUnder, Stays, Grows}
use Rattle.dae_meaning.specs.Variables.{Env}
use Rattle.dae_meaning.proofs.Laws.{front_on, front_same}
use Rattle.dae_ir.specs.Form.{Program as FormProgram, all_loads}
use Rattle.dae_ir.specs.Laws.{Counting, MoreTurns}
use Rattle.dae_ir.specs.Programs.{end_of}
use Rattle.dae_program.specs.Outcomes.{Outcome, last_world}
use Rattle.dae_program.specs.Printing.{most_bytes}
use Rattle.dae_program.specs.Programs.{program_end, meaning_of, program_of, variables_of, start}
use Rattle.dae_lower.specs.Keeping.{IsKept, IsOver, MeaningIsKept, ProgramsKept, form_run_of, place_in, with_no_items}
use Rattle.dae_lower.specs.Lowering.{program_form}
use Rattle.std.specs.Prelude.{slice_get}
use Rattle.dae_base.proofs.Laws.{suc_plus}
use Rattle.dae_lower_formed.specs.Order.{DoesTheSame, FormsDoPrograms}

under_printed : (r q : Result Env) → IsUnder r q → IsFront (world_of r).printed (world_of q).printed
under_printed r q (Stays t) = front_same (world_of t).printed
under_printed r q (Grows w t f) = f

under_on : (r q t : Result Env) → IsUnder r q → IsUnder q t → IsUnder r t
under_on r q t (Stays u) h = h
under_on r q t (Grows w u f) h = Grows w t (front_on w.printed (world_of u).printed (world_of t).printed f (under_printed u t h))

over_stays : (r q : Result Env) → IsUnder r q → IsOver (end_of r) → q ≡ r
over_stays r q (Stays t) h = refl
over_stays r q (Grows w t f) h = absurd h

-- an end or going on
ended : (e : End) → (IsOver e → ⊥) → e ≡ Going
ended (Halted status) h = absurd (h tt)
ended (Trapped code) h = absurd (h tt)
ended Astray h = absurd (h tt)
ended Going h = refl

not_over : (e : End) → e ≡ Going → IsOver e → ⊥
not_over (Halted status) h o = cc
not_over (Trapped code) h o = cc
not_over Astray h o = cc
not_over Going h o = o

module _ (program : ℕ → Outcome ℕ) (form : ℕ → Result Env) (kept : MeaningIsKept program form) (order : (n : ℕ) → IsUnder (form n) (form (suc n))) (stays : (n : ℕ) → end_of (form n) ≢ Astray) where
  later : (n k : ℕ) → IsUnder (form n) (form (k + n))
  later n zero = subst (λ (x : ℕ). IsUnder (form n) (form x)) (sym (zero-add n)) (Stays (form n))
  later n (suc k) = subst (λ (x : ℕ). IsUnder (form n) (form x)) (suc_plus k n) (under_on (form n) (form (k + n)) (form (suc (k + n))) (later n k) (order (k + n)))

  -- far enough
  abbrev far : ℕ → ℕ
  far m = most_bytes + m

  enough : (m : ℕ) → most_bytes ≤ far m
  enough m = omega arith

  ends_only : (m : ℕ) → IsOver (end_of (form m)) → (n : ℕ) × IsKept (program n) (form m)
  ends_only m h =
      let same = over_stays (form m) (form (far m)) (later m most_bytes) h in
      (far m, subst (λ (r : Result Env). IsKept (program (far m)) r) same (kept.ends_only (far m) (enough m) (subst (λ (r : Result Env). IsOver (end_of r)) (sym same) h)))

  prints_only : (m : ℕ) → (n : ℕ) × IsFront (world_of (form m)).printed (last_world (program n)).printed
  prints_only m = (far m, front_on (world_of (form m)).printed (world_of (form (far m))).printed (last_world (program (far m))).printed (under_printed (form m) (form (far m)) (later m most_bytes)) (kept.prints_only (far m) (enough m)))

  goes_on : ((n : ℕ) → program_end (program n) ≡ Going) → (m : ℕ) → end_of (form m) ≡ Going
  goes_on h m = ended (end_of (form m)) (λ o. let k = ends_only m o in not_over (program_end (program k.0)) (h k.0) (subst IsOver (let e = k.1 in e.end) o))

  went_on : ((m : ℕ) → end_of (form m) ≡ Going) → (n : ℕ) → program_end (program n) ≡ Going
  went_on h n = ended (program_end (program n)) (λ o. let k = kept.ends n o in not_over (end_of (form k.0)) (h k.0) (subst IsOver (sym (let e = k.1 in e.end)) o))

  does_the_same : DoesTheSame IsKept program form
  does_the_same = record {
    ends = kept.ends;
    ends_only = ends_only;
    goes_on = (goes_on, went_on);
    prints = kept.prints;
    prints_only = prints_only;
    stays = stays;
  }

pub forms_do_programs : ProgramsKept → ((p : FormProgram) (counted : Counting) → MoreTurns p counted) → FormsDoPrograms
forms_do_programs kept order p depth h =
    let k = kept p depth h in
    does_the_same (meaning_of p (suc depth)) (form_run_of p (suc depth)) k.meaning (λ n. order (program_form (program_of p (suc depth)) (λ f. place_in (slice_get p.functions f)) (variables_of p) p.main) all_loads n (suc depth) p.main [] (with_no_items (start p.memory p.frames p.content))) k.stays
