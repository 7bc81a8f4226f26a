-- A processor's own run, told by its uses of the queues; the queues that grant these uses; and the machine's run that
-- comes of both.
use Rattle.std.specs.Prelude.{◌≡◌, ℕ, suc, ◌+◌, ◌<◌, ◌^◌, Bool, true, ◌&&◌, List, [], ◌∷◌, ◌++◌, length, Some}
use Rattle.std.specs.List.{AllByRecursion}
use Rattle.dae_base.specs.declared.Side.{Side}
use Rattle.dae_base.specs.declared.Side.TheVariants.{A}
use Rattle.dae_base.specs.declared.Depths.{Depths}
use Rattle.dae_base.specs.declared.LoadKind.{LoadKind}
use Rattle.dae_base.specs.declared.Queue.TheVariants.{Al}
use Rattle.dae_encode.specs.declared.Inst.{Inst}
use Rattle.dae_encode.specs.declared.QueueUse.{QueueUse}
use Rattle.dae_encode.specs.declared.QueueUse.TheVariants.{Load}
use Rattle.dae_encode.specs.declared.Request.TheVariants.{Asks}
use Rattle.dae_encode.specs.Instructions.{form}
use Rattle.dae_encode.specs.Uses.{belongs}
use Rattle.dae_encode.specs.Processor.{Processor, request, finish}
use Rattle.dae_core.specs.Queues.{Queues, possible, peek, commit}
use Rattle.dae_machine.specs.declared.Pick.{Pick}
use Rattle.dae_machine.specs.declared.Pick.TheVariants.{A as MoveA, E as MoveE, Fill}
use Rattle.dae_machine.specs.Memory.{fill}
use Rattle.dae_machine.specs.Runs.{often}
use Rattle.dae_machine.specs.Ends.{is_a, is_e}
use Rattle.dae_machine.specs.Machine.{Setup, State, code, Runs}
use Rattle.dae_machine.specs.Uses.{Use, Reserves, Says, access_of, put_by, Puts, given_by, said_by}

-- ---- the processor alone

-- one instruction, with its use of a queue
pub record Goes (setup : Setup) (on : Side) (p : Processor) (u : Use) (next : Processor) : Type 0 where
  pub word : ℕ
  pub inst : Inst
  pub asks : request setup.copies on (code setup on) setup.memory p ≡ Asks (access_of u) word inst
  pub puts : Puts u word
  pub does : finish on p (access_of u) inst (form inst) (given_by u) ≡ Some (next, said_by u)

-- so many instructions, with these uses; others use no queue and print nothing
pub data Walks (setup : Setup) (on : Side) : Processor → List Use → ℕ → Processor → Type 0 where
  stays : {p : Processor} → Walks setup on p [] 0 p
  quiet : {p next last : Processor} {uses : List Use} {n : ℕ} → Goes setup on p (Says []) next → Walks setup on next uses n last → Walks setup on p uses (suc n) last
  makes : {p next last : Processor} {u : Use} {uses : List Use} {n : ℕ} → Goes setup on p u next → Walks setup on next uses n last → Walks setup on p (u ∷ uses) (suc n) last

-- ---- the queues

-- the access is one of this side's, and its queue allows it now
abbrev pub may_use : Depths → Side → QueueUse → Queues → Bool
may_use d on use' q = belongs on use' && possible d use' q

-- the queues grant these uses in turn, with so many fills of A's own loads out of this memory, each right behind its
-- reservation
pub data Grants (d : Depths) (on : Side) (m : List ℕ) : ℕ → Queues → List Use → Queues → Type 0 where
  ends : {q : Queues} → Grants d on m 0 q [] q
  grants : {n : ℕ} {q last : Queues} {u : Use} {uses : List Use} → may_use d on (access_of u) q ≡ true
      → peek (access_of u) q ≡ given_by u → Grants d on m n (commit (access_of u) (put_by u) q) uses last → Grants d on m n q (u ∷ uses) last
  owns : {n : ℕ} {q next last : Queues} {kind : LoadKind} {address : ℕ} {uses : List Use} (number : ℕ)
      → may_use d on (Load Al kind) q ≡ true → fill A number (commit (Load Al kind) address q) m ≡ Some next → Grants d on m n next uses last
      → Grants d on m (suc n) q (Reserves Al kind address ∷ uses) last

abbrev pub AreWords : List ℕ → Type 0
AreWords xs = AllByRecursion (λ (x : ℕ). x < 2 ^ 32) xs

-- what waits in the queues of messages and copies are words
pub record WordsWait (q : Queues) : Type 0 where
  pub ab : AreWords q.ab
  pub eb : AreWords q.eb
  pub cq : AreWords q.cq

-- ---- the machine

-- a state by its parts
abbrev pub state_of : Processor → Processor → Queues → List ℕ → List ℕ → ℕ → State
state_of a e q memory printed steps = record { a = a; e = e; queues = q; memory = memory; printed = printed; steps = steps }

-- instructions of A, each fill of an own load right behind one
pub data IsAccess : List Pick → Type 0 where
  nothing : IsAccess []
  moves : {ps : List Pick} → IsAccess ps → IsAccess (MoveA ∷ ps)
  loads : {n : ℕ} {ps : List Pick} → IsAccess ps → IsAccess (MoveA ∷ Fill A n ∷ ps)

-- instructions of E alone
abbrev pub IsExecute : List Pick → Type 0
IsExecute ps = AllByRecursion (λ (p : Pick). p ≡ MoveE) ps

-- the machine ran so many instructions of A, to this processor and these queues, with so many fills of own loads
pub record RanA (setup : Setup) (s : State) (steps fills : ℕ) (p : Processor) (q : Queues) : Type 0 where
  pub picks : List Pick
  pub total : ℕ
  pub runs : Runs setup s picks (state_of p s.e q s.memory s.printed total)
  pub access : IsAccess picks
  pub count : length picks ≡ steps + fills
  pub moves' : often is_a picks ≡ steps

-- the machine ran so many instructions of E, to this processor and these queues, and printed this text
pub record RanE (setup : Setup) (s : State) (steps : ℕ) (p : Processor) (q : Queues) (text : List ℕ) : Type 0 where
  pub picks : List Pick
  pub total : ℕ
  pub runs : Runs setup s picks (state_of s.a p q s.memory (s.printed ++ text) total)
  pub execute : IsExecute picks
  pub count : length picks ≡ steps
  pub moves' : often is_e picks ≡ steps
