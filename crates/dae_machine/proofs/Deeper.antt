-- What runs with some depths runs so with deeper queues.
use Rattle.std.proofs.Common.{◌≡◌, ℕ, ◌≤◌, true, ◌||◌, List, [], ◌∷◌, ap, ◌∙◌, arith}
use Rattle.std.specs.Prelude.{Some, nat_lt, option_map}
use Rattle.std.proofs.lemmas.Bool.Decides.{nat_tests}
use Rattle.dae_base.proofs.Laws.{and_then_some, and_true, if_some_is, map_some_is}
use Rattle.dae_base.specs.declared.Side.{Side}
use Rattle.dae_base.specs.declared.Side.TheVariants.{A, E}
use Rattle.dae_base.specs.declared.Queue.TheVariants.{Sa}
use Rattle.dae_base.specs.declared.Depths.{Depths}
use Rattle.dae_encode.specs.declared.QueueUse.{QueueUse}
use Rattle.dae_encode.specs.declared.QueueUse.TheVariants.{Nothing, Take, Push, Load, StoreAddress}
use Rattle.dae_machine.specs.declared.Pick.{Pick}
use Rattle.dae_machine.specs.declared.Pick.TheVariants.{A as MoveA, E as MoveE, Fill, Drain}
use Rattle.dae_encode.specs.Uses.{belongs}
use Rattle.dae_core.specs.Queues.{Queues, count, possible, ready, peek, commit}
use Rattle.dae_base.specs.Budgets.{depth, Reaches}
use Rattle.dae_encode.specs.declared.Request.{Request}
use Rattle.dae_encode.specs.declared.Request.TheVariants.{Halted, Faulty, Asks}
use Rattle.dae_encode.specs.Instructions.{form}
use Rattle.dae_encode.specs.Processor.{Processor, After, request, finish}
use Rattle.dae_machine.specs.Runs.{run_by}
use Rattle.dae_machine.specs.Machine.{Setup, State, granted, move, moved_a, moved_e, step, Runs}

room_deeper : (n d d' : ℕ) → d ≤ d' → nat_lt n d ≡ true → nat_lt n d' ≡ true
room_deeper n d d' l h = grind (arith, nat_tests)

possible_deeper : (d d' : Depths) (u : QueueUse) (q : Queues) → Reaches d' d → possible d u q ≡ true → possible d' u q ≡ true
possible_deeper d d' Nothing q l h = h
possible_deeper d d' (Take k) q l h = h
possible_deeper d d' (Push k) q l h = room_deeper (count k q) (depth k d) (depth k d') (l k) h
possible_deeper d d' (Load k kind) q l h = room_deeper (count k q) (depth k d) (depth k d') (l k) h
possible_deeper d d' (StoreAddress width) q l h = room_deeper (count Sa q) (depth Sa d) (depth Sa d') (l Sa) h

granted_deeper : (d d' : Depths) (side : Side) (p : Processor) (q : Queues) (asked : Request) (r : After × Queues) → Reaches d' d → granted d side p q asked ≡ Some r → granted d' side p q asked ≡ Some r
granted_deeper d d' side p q Halted r l h = cc
granted_deeper d d' side p q (Faulty fault) r l h = cc
granted_deeper d d' side p q (Asks u w i) r l h =
    let parts = if_some_is (ready d u q) (option_map (λ (r : After). (r, commit u w q)) (finish side p u i (form i) (peek u q))) r h in
    let both = and_true (belongs A u || belongs E u) (possible d u q) parts.0 in
    rw (both.0, possible_deeper d d' u q l both.1) parts.1

pub step_deeper : (setup : Setup) (d' : Depths) (s t : State) (p : Pick) → Reaches d' setup.depths → step setup s p ≡ Some t → step (record setup { depths = d' }) s p ≡ Some t
step_deeper setup d' s t MoveA l h = let x = map_some_is (moved_a s) (move setup A s.a s.queues) t h in
    ap (option_map (moved_a s)) (granted_deeper setup.depths d' A s.a s.queues (request setup.copies A setup.code_a setup.memory s.a) x.0 l x.1) ∙ ap Some x.2
step_deeper setup d' s t MoveE l h = let x = map_some_is (moved_e s) (move setup E s.e s.queues) t h in
    ap (option_map (moved_e s)) (granted_deeper setup.depths d' E s.e s.queues (request setup.copies E setup.code_e setup.memory s.e) x.0 l x.1) ∙ ap Some x.2
step_deeper setup d' s t (Fill side n) l h = h
step_deeper setup d' s t Drain l h = h

pub runs_deeper : (setup : Setup) (d' : Depths) (s t : State) (ps : List Pick) → Reaches d' setup.depths → Runs setup s ps t → Runs (record setup { depths = d' }) s ps t
runs_deeper setup d' s t [] l h = h
runs_deeper setup d' s t (p ∷ ps) l h =
    let x = and_then_some (λ (v : State). run_by (step setup) v ps) (step setup s p) t h in
    rw (step_deeper setup d' s x.0 p l x.1) (runs_deeper setup d' x.0 t ps l x.2)
