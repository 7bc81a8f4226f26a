-- Where both sides have halted, each slot that is left is filled, and no store waits, the state is final.
use Rattle.std.proofs.Common.{◌≡◌, ℕ, ◌+◌, Bool, List, [], ◌∷◌, refl}
use Rattle.std.specs.Prelude.{Some, None, nat_eq}
use Rattle.dae_base.specs.declared.Side.{Side}
use Rattle.dae_base.specs.declared.Side.TheVariants.{A, E}
use Rattle.dae_base.proofs.Laws.{and_false}
use Rattle.dae_encode.specs.declared.Halt.{Halt}
use Rattle.dae_encode.specs.declared.Request.TheVariants.{Halted}
use Rattle.dae_encode.specs.Processor.{Processor, request}
use Rattle.dae_queues.specs.Lists.{waiting}
use Rattle.dae_machine.specs.declared.Pick.{Pick}
use Rattle.dae_machine.specs.declared.Pick.TheVariants.{A as MoveA, E as MoveE, Fill, Drain}
use Rattle.dae_machine.specs.Machine.{Setup, State, step, IsFinal}
use Rattle.dae_machine_rounds.proofs.Slots.{Counts, Loads, held, filled_slots}

halted : (copies : Bool) (side : Side) (words : List ℕ) (size : ℕ) (p : Processor) (h : Halt) → p.halt ≡ Some h → request copies side words size p ≡ Halted
unfolding request
halted copies side words size p h e = rw e refl

none_waiting : (j n stamp : ℕ) (m : List ℕ) (ls : Loads) → waiting j (filled_slots n stamp m ls) ≡ None
none_waiting j n stamp m [] = refl
none_waiting j n stamp m (l ∷ ls) = rw (and_false (nat_eq n j)) (none_waiting j (n + 1) stamp m ls)

pub final : (setup : Setup) (s : State) (x : Counts) (k stamp : ℕ) (m : List ℕ) (ls : Loads) (ab eb cq : List ℕ) (h i : Halt) → s.a.halt ≡ Some h → s.e.halt ≡ Some i → s.queues ≡ held x (filled_slots k stamp m ls) [] [] ab eb cq → IsFinal setup s
final setup s x k stamp m ls ab eb cq h i a e q = record {
  quiet = quiet;
  a = rw a refl;
  e = rw e refl;
  sa = rw q refl;
  sd = rw q refl;
} where
  quiet : (p : Pick) → step setup s p ≡ None
  quiet MoveA = rw (halted setup.copies A setup.code_a setup.memory s.a h a) refl
  quiet MoveE = rw (halted setup.copies E setup.code_e setup.memory s.e i e) refl
  quiet (Fill A n) = rw q refl
  quiet (Fill E n) = rw (q, none_waiting n k stamp m ls) refl
  quiet Drain = rw q refl
