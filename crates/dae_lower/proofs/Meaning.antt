-- The form of a program keeps its meaning, whatever the bound on turns.
use Rattle.std.proofs.Common.{◌≡◌, ℕ, zero, suc, ◌+◌, ◌≤◌, true, false, [], refl, sym, subst, arith, zero-add}
use Rattle.dae_base.proofs.Laws.{suc_plus}
use Rattle.dae_meaning.specs.Results.{Result}
use Rattle.dae_meaning.specs.Alike.{IsFront}
use Rattle.dae_meaning.specs.Variables.{Env}
use Rattle.dae_meaning.proofs.Laws.{front_same, front_on}
use Rattle.dae_ir.specs.Form.{calls_of, all_loads}
use Rattle.dae_program.specs.Outcomes.{Outcome, last_world as program_world}
use Rattle.dae_program.specs.Printing.{most_bytes}
use Rattle.dae_program.specs.Calls.{call as program_calls}
use Rattle.dae_program.specs.Programs.{program_end}
use Rattle.dae_lower.specs.Lowering.{program_form}
use Rattle.dae_lower.specs.Keeping.{IsKept, IsOver, MeaningIsKept, MeaningKept, with_no_items}
use Rattle.dae_program.specs.Turns.{IsBelow, Same, Fewer, TurnsInOrder}
use Rattle.dae_lower.proofs.Whole.{form_keeps}

printed_below : (r q : Outcome ℕ) → IsBelow r q → IsFront (program_world r).printed (program_world q).printed
printed_below r q (Same t) = front_same (program_world t).printed
printed_below r q (Fewer w t f) = f

over_same : (r q : Outcome ℕ) → IsBelow r q → IsOver (program_end r) → r ≡ q
over_same r q (Same t) h = refl
over_same r q (Fewer w t f) h = absurd h

below_on : (r q t : Outcome ℕ) → IsBelow r q → IsBelow q t → IsBelow r t
below_on r q t (Same u) h = h
below_on r q t (Fewer w u f) h = Fewer w t (front_on w.printed (program_world u).printed (program_world t).printed f (printed_below u t h))

module _ (c : ℕ → Outcome ℕ) (b : ℕ → Outcome ℕ) (f : ℕ → Result Env) (up : (n : ℕ) → IsBelow (b n) (c n)) (down : (n : ℕ) → IsBelow (c n) (b (suc n))) (kept : (n : ℕ) → most_bytes ≤ n → IsKept (b n) (f n)) where
  later : (n k : ℕ) → IsBelow (c n) (c (k + n))
  later n zero = subst (λ (x : ℕ). IsBelow (c n) (c x)) (sym (zero-add n)) (Same (c n))
  later n (suc k) = subst (λ (x : ℕ). IsBelow (c n) (c x)) (suc_plus k n) (below_on (c n) (c (k + n)) (c (suc (k + n))) (later n k) (below_on (c (k + n)) (b (suc (k + n))) (c (suc (k + n))) (down (k + n)) (up (suc (k + n)))))

  -- far enough, and one more
  far : (n : ℕ) → IsBelow (c n) (b (suc (most_bytes + n)))
  far n = below_on (c n) (c (most_bytes + n)) (b (suc (most_bytes + n))) (later n most_bytes) (down (most_bytes + n))

  enough : (n : ℕ) → IsKept (b (suc (most_bytes + n))) (f (suc (most_bytes + n)))
  enough n = kept (suc (most_bytes + n)) (omega arith)

  kept_meaning : MeaningIsKept c f
  kept_meaning = record {
    ends = λ n h. (suc (most_bytes + n), subst (λ (r : Outcome ℕ). IsKept r (f (suc (most_bytes + n)))) (sym (over_same (c n) (b (suc (most_bytes + n))) (far n) h)) (enough n));
    ends_only = λ m h o. subst (λ (r : Outcome ℕ). IsKept r (f m)) (over_same (b m) (c m) (up m) (subst IsOver (let k = kept m h in k.end) o)) (kept m h);
    prints = λ n. (suc (most_bytes + n), subst (IsFront (program_world (c n)).printed) (sym (let k = enough n in k.printed)) (printed_below (c n) (b (suc (most_bytes + n))) (far n)));
    prints_only = λ m h. subst (λ xs. IsFront xs (program_world (c m)).printed) (sym (let k = kept m h in k.printed)) (printed_below (b m) (c m) (up m));
  }

pub meaning_kept : TurnsInOrder → MeaningKept
meaning_kept order p place variables main scoped depth limit w start unread =
    kept_meaning (λ n. program_calls p true n p.limit main [] w) (λ n. program_calls p false n p.limit main [] w) (λ n. calls_of (program_form p place variables main) all_loads n p.limit main [] (with_no_items w))
    (λ n. (order p n p.limit main [] w).0) (λ n. (order p n p.limit main [] w).1) (λ n h. form_keeps p place variables main scoped depth limit w start unread n h)
