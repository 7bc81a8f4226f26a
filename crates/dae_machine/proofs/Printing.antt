-- What was printed before changes no step.
use Rattle.std.proofs.Common.{◌≡◌, ℕ, ◌+◌, ◌%◌, Bool, false, List, [], ◌∷◌, ◌++◌, refl, ap, sym, ◌∙◌, append_assoc}
use Rattle.std.specs.Prelude.{Option, Some, None, is_some, option_map, ◌==◌, if◌then◌else◌}
use Rattle.dae_base.proofs.Laws.{and_then_some, map_some_is, some_map}
use Rattle.dae_base.specs.declared.Side.TheVariants.{A, E}
use Rattle.dae_machine.specs.declared.Pick.{Pick}
use Rattle.dae_machine.specs.declared.Pick.TheVariants.{A as MoveA, E as MoveE, Fill, Drain}
use Rattle.dae_machine.specs.Memory.{drain, fill}
use Rattle.dae_machine.specs.Printing.{behind}
use Rattle.dae_machine.specs.Runs.{run_by}
use Rattle.dae_machine.specs.Machine.{Setup, State, drained, filled, move, moved_a, moved_e, step, Runs, IsFinal, IsQuiet, IsStuck}
use Rattle.dae_machine.specs.Turns.{alone, fills_of, is_enabled, kind_at, pick_of}

pub step_behind : (setup : Setup) (s t : State) (p : Pick) (xs : List ℕ) → step setup s p ≡ Some t → step setup (behind xs s) p ≡ Some (behind xs t)
step_behind setup s t MoveA xs h =
    let x = map_some_is (moved_a s) (move setup A s.a s.queues) t h in
    ap (option_map (moved_a (behind xs s))) x.1 ∙ ap (λ (t : State). Some (behind xs t)) x.2
step_behind setup s t MoveE xs h =
    let x = map_some_is (moved_e s) (move setup E s.e s.queues) t h in
    ap (option_map (moved_e (behind xs s))) x.1
    ∙ ap (λ (out : List ℕ). Some (record (moved_e s x.0) { printed = out })) (append_assoc xs s.printed x.0.0.1)
    ∙ ap (λ (t : State). Some (behind xs t)) x.2
step_behind setup s t (Fill side n) xs h =
    let x = map_some_is (filled s) (fill side n s.queues s.memory) t h in
    ap (option_map (filled (behind xs s))) x.1 ∙ ap (λ (t : State). Some (behind xs t)) x.2
step_behind setup s t Drain xs h =
    let x = map_some_is (drained s) (drain s.queues s.memory) t h in
    ap (option_map (drained (behind xs s))) x.1 ∙ ap (λ (t : State). Some (behind xs t)) x.2

pub run_behind : (setup : Setup) (s t : State) (ps : List Pick) (xs : List ℕ) → Runs setup s ps t → Runs setup (behind xs s) ps (behind xs t)
run_behind setup s t [] xs h = let e : s ≡ t = cc in ap (λ (t : State). Some (behind xs t)) e
run_behind setup s t (p ∷ ps) xs h =
    let x = and_then_some (λ (v : State). run_by (step setup) v ps) (step setup s p) t h in
    rw (step_behind setup s x.0 p xs x.1) (run_behind setup x.0 t ps xs x.2)

pub enabled_behind : (setup : Setup) (s : State) (p : Pick) (xs : List ℕ) → is_enabled setup (behind xs s) p ≡ is_enabled setup s p
enabled_behind setup s MoveA xs = some_map (moved_a (behind xs s)) (move setup A s.a s.queues) ∙ sym (some_map (moved_a s) (move setup A s.a s.queues))
enabled_behind setup s MoveE xs = some_map (moved_e (behind xs s)) (move setup E s.e s.queues) ∙ sym (some_map (moved_e s) (move setup E s.e s.queues))
enabled_behind setup s (Fill side n) xs = some_map (filled (behind xs s)) (fill side n s.queues s.memory) ∙ sym (some_map (filled s) (fill side n s.queues s.memory))
enabled_behind setup s Drain xs = some_map (drained (behind xs s)) (drain s.queues s.memory) ∙ sym (some_map (drained s) (drain s.queues s.memory))

alone_behind : (setup : Setup) (s : State) (p : Pick) (xs : List ℕ) → alone setup (behind xs s) p ≡ alone setup s p
alone_behind setup s p xs = ap (λ (b : Bool). if b then p ∷ [] else []) (enabled_behind setup s p xs)

kind_behind : (setup : Setup) (s : State) (place : ℕ) (xs : List ℕ) → kind_at setup (behind xs s) place ≡ kind_at setup s place
kind_behind setup s place xs =
    ap (λ (ps : List Pick). if place % 4 == 0 then ps else (if place % 4 == 1 then alone setup (behind xs s) MoveE else (if place % 4 == 2 then fills_of A s ++ fills_of E s else alone setup (behind xs s) Drain))) (alone_behind setup s MoveA xs)
    ∙ ap (λ (ps : List Pick). if place % 4 == 0 then alone setup s MoveA else (if place % 4 == 1 then ps else (if place % 4 == 2 then fills_of A s ++ fills_of E s else alone setup (behind xs s) Drain))) (alone_behind setup s MoveE xs)
    ∙ ap (λ (ps : List Pick). if place % 4 == 0 then alone setup s MoveA else (if place % 4 == 1 then alone setup s MoveE else (if place % 4 == 2 then fills_of A s ++ fills_of E s else ps))) (alone_behind setup s Drain xs)

pub pick_behind : (setup : Setup) (s : State) (word : ℕ) (xs : List ℕ) → pick_of setup (behind xs s) word ≡ pick_of setup s word
pick_behind setup s word xs = rw (kind_behind setup s word xs, kind_behind setup s (word + 1) xs, kind_behind setup s (word + 2) xs, kind_behind setup s (word + 3) xs)

none_is : {X : Type 0} (o : Option X) (b : Bool) → is_some o ≡ b → b ≡ false → o ≡ None
none_is None b h k = refl
none_is (Some x) b h k = cc (h, k)

pub quiet_behind : (setup : Setup) (s : State) (xs : List ℕ) → IsQuiet setup s → IsQuiet setup (behind xs s)
quiet_behind setup s xs q p = none_is (step setup (behind xs s) p) (is_enabled setup s p) (enabled_behind setup s p xs) (ap is_some (q p))

pub final_behind : (setup : Setup) (s : State) (xs : List ℕ) → IsFinal setup s → IsFinal setup (behind xs s)
final_behind setup s xs f = record { quiet = quiet_behind setup s xs f.quiet; a = f.a; e = f.e; sa = f.sa; sd = f.sd }

quiet_before : (setup : Setup) (s : State) (xs : List ℕ) → IsQuiet setup (behind xs s) → IsQuiet setup s
quiet_before setup s xs q p = none_is (step setup s p) (is_enabled setup (behind xs s) p) (sym (enabled_behind setup s p xs)) (ap is_some (q p))

pub stuck_behind : (setup : Setup) (s : State) (xs : List ℕ) → IsStuck setup s → IsStuck setup (behind xs s)
stuck_behind setup s xs t = record {
  quiet = quiet_behind setup s xs t.quiet;
  not_final = λ f. t.not_final (record { quiet = quiet_before setup s xs f.quiet; a = f.a; e = f.e; sa = f.sa; sd = f.sd });
}
