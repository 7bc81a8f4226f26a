-- How the turns of a schedule come out: they always lead somewhere, and there a machine is final or stuck, or can go on.
use Rattle.std.proofs.Common.{◌≡◌, ◌⊎◌, ℕ, ◌+◌, Bool, true, false, List, [], ◌∷◌, length, refl, ap, sym, ◌∙◌, subst, inl, inr, arith}
use Rattle.std.specs.Prelude.{Option, Some, None, is_some}
use Rattle.std.proofs.lemmas.Option.{same_Some}
use Rattle.dae_encode.specs.declared.Halt.{Halt}
use Rattle.dae_encode.specs.declared.Halt.TheVariants.{Plain, Status, Trap}
use Rattle.dae_queues.specs.declared.StoreAt.{StoreAt}
use Rattle.dae_base.proofs.Laws.{and_then_some, some_of}
use Rattle.dae_machine.specs.declared.Pick.{Pick}
use Rattle.dae_machine.specs.declared.End.TheVariants.{Ended, Trapped}
use Rattle.dae_machine.specs.Held.{is_plain}
use Rattle.dae_machine.specs.Machine.{Setup, State, step, Runs, IsCounted, IsFinal, IsQuiet}
use Rattle.dae_machine.specs.Runs.{run_by}
use Rattle.dae_machine.specs.Schedules.{scheduled}
use Rattle.dae_machine.specs.Turns.{pick_of}
use Rattle.dae_machine.proofs.LawsOfRuns.{counted_step, step_counts}
use Rattle.dae_machine.proofs.LawsOfRuns.{unplain_after}
use Rattle.dae_machine.proofs.LawsOfRuns.{is_turned}
use Rattle.dae_machine.proofs.LawsOfRuns.{picked_goes, quiet_where_none}
use Rattle.dae_cli_drive.specs.declared.driving.Driven.{Driven}
use Rattle.dae_cli_drive.specs.declared.driving.Driven.TheVariants.{Final, Stuck, Spent}
use Rattle.dae_cli_drive.specs.Turns.{Rested, RunsTurns}

-- what every state of a run from a good one is
pub record Good (s : State) : Type 0 where
  pub counted : IsCounted s
  pub halts : is_plain s.e.halt ≡ false

-- along a run the steps count themselves, and the state stays good
pub run_keeps : (setup : Setup) (s t : State) (ps : List Pick) → Good s → Runs setup s ps t → Good t × (t.steps ≡ s.steps + length ps)
run_keeps setup s t [] good run = let e : s ≡ t = same_Some s t run in (subst Good e good, subst (λ (v : State). v.steps ≡ s.steps + 0) e (omega arith))
run_keeps setup s t (p ∷ ps) good run =
    let x = and_then_some (λ (v : State). run_by (step setup) v ps) (step setup s p) t run in
    let next : Good x.0 = record { counted = counted_step setup s x.0 p good.counted x.1; halts = unplain_after setup s x.0 p good.halts x.1 } in
    let later = run_keeps setup x.0 t ps next x.2 in
    let here = step_counts setup s x.0 p x.1 in
    let there = later.1 in
    (later.0, omega arith)

-- where no pick is enabled, the machine is final or stuck
module _ (setup : Setup) (s : State) (steps : ℕ) (quiet : IsQuiet setup s) where
  is_stuck : (IsFinal setup s → ⊥) → (how : Driven) × Rested how steps setup s
  is_stuck never = (Stuck, record { quiet = quiet; not_final = never })

  by_data : (xs : List ℕ) → s.queues.stores.sd ≡ xs → (sa : s.queues.stores.sa ≡ []) → (n : Halt) → s.e.halt ≡ Some n → is_plain (Some n) ≡ false → is_some s.a.halt ≡ true → (how : Driven) × Rested how steps setup s
  by_data [] sd sa Plain e plain a = cc
  by_data [] sd sa (Status n) e plain a = (Final (Ended n), (record { quiet = quiet; a = a; e = rw e refl; sa = sa; sd = sd }, rw e refl))
  by_data [] sd sa (Trap n) e plain a = (Final (Trapped n), (record { quiet = quiet; a = a; e = rw e refl; sa = sa; sd = sd }, rw e refl))
  by_data (x ∷ xs) sd sa n e plain a = is_stuck (λ f. let h : [] ≡ x ∷ xs = sym f.sd ∙ sd in cc)

  by_addresses : (xs : List StoreAt) → s.queues.stores.sa ≡ xs → (n : Halt) → s.e.halt ≡ Some n → is_plain (Some n) ≡ false → is_some s.a.halt ≡ true → (how : Driven) × Rested how steps setup s
  by_addresses [] sa n e plain a = by_data s.queues.stores.sd refl sa n e plain a
  by_addresses (x ∷ xs) sa n e plain a = is_stuck (λ f. let h : [] ≡ x ∷ xs = sym f.sa ∙ sa in cc)

  by_execute : (o : Option Halt) → s.e.halt ≡ o → is_plain o ≡ false → is_some s.a.halt ≡ true → (how : Driven) × Rested how steps setup s
  by_execute None e plain a = is_stuck (λ f. let h : false ≡ true = ap is_some (sym e) ∙ f.e in cc)
  by_execute (Some n) e plain a = by_addresses s.queues.stores.sa refl n e plain a

  by_access : (b : Bool) → is_some s.a.halt ≡ b → is_plain s.e.halt ≡ false → (how : Driven) × Rested how steps setup s
  by_access false a plain = is_stuck (λ f. let h : false ≡ true = sym a ∙ f.a in cc)
  by_access true a plain = by_execute s.e.halt refl plain a

-- a machine that has taken its stated steps is final or stuck, or can go on
spent_or_rested : (setup : Setup) (s : State) (o : Option Pick) → pick_of setup s 0 ≡ o → Good s → (how : Driven) × Rested how s.steps setup s
spent_or_rested setup s None e good = by_access setup s s.steps (quiet_where_none setup s 0 e) (is_some s.a.halt) refl good.halts
spent_or_rested setup s (Some p) e good =
    let found = some_of (step setup s p) (picked_goes setup s good.counted 0 p e) in
    (Spent, (refl, (p, found.0, found.1)))

-- the turns of a schedule lead to a state, and that state comes out somehow
pub record Outcome (setup : Setup) (s : State) (words : ℕ → ℕ) (turns : ℕ) : Type 0 where
  pub last : State
  pub made : RunsTurns setup s words turns last
  pub how : Driven
  pub rested : Rested how (s.steps + turns) setup last

pub comes_out : (setup : Setup) (s : State) (words : ℕ → ℕ) (turns : ℕ) → Good s → Outcome setup s words turns
comes_out setup s words turns good = by_length (is_turned setup s words turns good.counted) where
  by_length : ((t : State) × Runs setup s (scheduled setup s words turns) t × ((length (scheduled setup s words turns) ≡ turns) ⊎ IsQuiet setup t)) → Outcome setup s words turns
  by_length (t, run, inl all) =
      let keeps = run_keeps setup s t (scheduled setup s words turns) good run in
      let out = spent_or_rested setup t (pick_of setup t 0) refl keeps.0 in
      let steps : t.steps ≡ s.steps + turns = rw all at keeps.1 in
      record { last = t; made = run; how = out.0; rested = subst (λ (n : ℕ). Rested out.0 n setup t) steps out.1 }
  by_length (t, run, inr quiet) =
      let keeps = run_keeps setup s t (scheduled setup s words turns) good run in
      let out = by_access setup t (s.steps + turns) quiet (is_some t.a.halt) refl keeps.0.halts in
      record { last = t; made = run; how = out.0; rested = out.1 }
