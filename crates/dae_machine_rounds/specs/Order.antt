-- The canonical order: a run in rounds. In a round A makes its part, with the fill of each own load at once; memory fills
-- the loads for E; E makes its part; A takes a message of E; and at most one store is drained. A whole round begins and
-- ends with all queues empty. The last round may be a front of one, as where the program goes on, and where it ends the
-- loads and the copies of the last round may be left.
use Rattle.std.specs.Prelude.{◌≡◌, ◌⊎◌, List, [], ◌∷◌, ◌++◌}
use Rattle.std.specs.List.{AllByRecursion}
use Rattle.dae_base.specs.declared.Side.TheVariants.{E}
use Rattle.dae_core.specs.Queues.{Queues}
use Rattle.dae_machine.specs.declared.Pick.{Pick}
use Rattle.dae_machine.specs.declared.Pick.TheVariants.{Fill, Drain}
use Rattle.dae_machine.specs.Machine.{Setup, State, Runs}
use Rattle.dae_machine.specs.Walks.{IsAccess, IsExecute}

pub record PickRound : Type 0 where
  pub access : List Pick
  pub fills : List Pick
  pub execute : List Pick
  pub hears : List Pick
  pub drains : List Pick

abbrev pub picks_of : PickRound → List Pick
picks_of r = r.access ++ (r.fills ++ (r.execute ++ (r.hears ++ r.drains)))

abbrev pub IsFill : Pick → Type 0
IsFill (Fill E n) = Unit {0}
IsFill p = ⊥

pub record IsRound (r : PickRound) : Type 0 where
  pub access : IsAccess r.access
  pub fills : AllByRecursion IsFill r.fills
  pub execute : IsExecute r.execute
  pub hears : IsAccess r.hears
  pub drains : (r.drains ≡ []) ⊎ (r.drains ≡ Drain ∷ [])

pub record IsEmpty (q : Queues) : Type 0 where
  pub ld : q.ld.slots ≡ []
  pub al : q.al.slots ≡ []
  pub sa : q.stores.sa ≡ []
  pub sd : q.stores.sd ≡ []
  pub ab : q.ab ≡ []
  pub eb : q.eb ≡ []
  pub cq : q.cq ≡ []

-- whole rounds lead from the one state to the other
pub data PickRounds (setup : Setup) : State → List Pick → State → Type 0 where
  none : {s : State} → IsEmpty s.queues → PickRounds setup s [] s
  more : {s t u : State} {ps : List Pick} (r : PickRound) → IsRound r → IsEmpty s.queues → Runs setup s (picks_of r) t → PickRounds setup t ps u → PickRounds setup s (picks_of r ++ ps) u

-- and then a front of one
pub record InOrder (setup : Setup) (s : State) (ps : List Pick) (t : State) : Type 0 where
  pub whole : List Pick
  pub between : State
  pub rounds : PickRounds setup s whole between
  pub last : List Pick
  pub round : PickRound
  pub is_round : IsRound round
  pub rest : List Pick
  pub front : last ++ rest ≡ picks_of round
  pub runs : Runs setup between last t
  pub all : whole ++ last ≡ ps
