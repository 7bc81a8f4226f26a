-- One step of a processor over the queues that it is given, and what it answers (Smith, "Decoupled Access/Execute Computer
-- Architectures": a processor waits at an empty or a full queue).
use Rattle.std.specs.Prelude.{◌≡◌, ℕ, Bool, if◌then◌else◌, List, [], Option, Some, None, option_map, unwrap_or}
use Rattle.dae_base.specs.Words.{plus, stored, loaded, width_of}
use Rattle.dae_base.specs.declared.LoadKind.{LoadKind}
use Rattle.dae_base.specs.declared.Width.{Width}
use Rattle.dae_base.specs.declared.Side.{Side}
use Rattle.dae_base.specs.declared.Queue.{Queue}
use Rattle.dae_base.specs.declared.Queue.TheVariants.{Sa}
use Rattle.dae_encode.specs.declared.QueueUse.{QueueUse}
use Rattle.dae_encode.specs.declared.QueueUse.TheVariants.{Nothing, Take, Push, Load, StoreAddress}
use Rattle.dae_encode.specs.declared.Fault.TheVariants.{Private}
use Rattle.dae_encode.specs.declared.Request.{Request}
use Rattle.dae_encode.specs.declared.Request.TheVariants.{Halted, Faulty, Asks}
use Rattle.dae_encode.specs.Instructions.{form}
use Rattle.dae_encode.specs.Processor.{Processor, After, finish, goes_on, is_good_private, is_shared}
use Rattle.dae_core.specs.declared.CoreAnswer.{CoreAnswer}
use Rattle.dae_core.specs.declared.CoreAnswer.TheVariants.{Did, Waits, Halted as IsHalted, Faulted}

-- the word that an access gives, where front is the word that a take would give
abbrev pub offered_by : {Q : Type 0} → (Q → Queue → Option ℕ) → Q → QueueUse → ℕ
offered_by front q (Take k) = unwrap_or (front q k) 0
offered_by front q Nothing = 0
offered_by front q (Push k) = 0
offered_by front q (Load k kind) = 0
offered_by front q (StoreAddress width) = 0

-- what a request comes to: the processor, what it printed, and the queues. None where there is no step
abbrev pub granted_by : {Q : Type 0} → (Q → QueueUse → Bool) → (Q → Queue → Option ℕ) → (Q → QueueUse → ℕ → Q) → Side → Processor → Q → Request → Option (After × Q)
granted_by ready front after side p q Halted = None
granted_by ready front after side p q (Faulty fault) = None
granted_by ready front after side p q (Asks u w i) =
    if ready q u then option_map (λ r. (r, after q u w)) (finish side p u i (form i) (offered_by front q u)) else None

-- what comes of a load and of a store, where this is the address: nothing where it is a bad private one
abbrev pub after_load : Processor → QueueUse → LoadKind → (rd addr : ℕ) → Option After
after_load p u kind rd addr =
    if is_shared u then goes_on p 0 0 (plus p.counter 4)
    else (if is_good_private p (width_of kind) addr
    then goes_on p rd (loaded kind addr p.private) (plus p.counter 4) else None)

abbrev pub after_store : Processor → QueueUse → Width → (addr datum : ℕ) → Option After
after_store p u width addr datum =
    if is_shared u then goes_on p 0 0 (plus p.counter 4)
    else (if is_good_private p width addr
    then Some (record p { counter = plus p.counter 4; private = stored width addr datum p.private }, []) else None)

-- the queue that an access waits for. An instruction without one waits for none
abbrev pub waits : QueueUse → CoreAnswer
waits Nothing = Did []
waits (Take k) = Waits k
waits (Push k) = Waits k
waits (Load k kind) = Waits k
waits (StoreAddress width) = Waits Sa

abbrev pub finished : Option After → CoreAnswer
finished None = Faulted Private
finished (Some r) = Did r.1

-- what the processor answers: a fault comes before a wait, but for a bad private address that a queue gives
abbrev pub answered_by : {Q : Type 0} → (Q → QueueUse → Bool) → (Q → Queue → Option ℕ) → Side → Processor → Q → Request → CoreAnswer
answered_by ready front side p q Halted = IsHalted
answered_by ready front side p q (Faulty fault) = Faulted fault
answered_by ready front side p q (Asks u w i) =
    if ready q u then finished (finish side p u i (form i) (offered_by front q u)) else waits u

-- the same answer without what is printed
abbrev pub unprinted : CoreAnswer → CoreAnswer
unprinted (Did piece) = Did []
unprinted (Waits k) = Waits k
unprinted IsHalted = IsHalted
unprinted (Faulted fault) = Faulted fault

-- the answer tells what the move came to: the processor and the queues after it, unchanged where there is no step
abbrev pub Tells : {Q : Type 0} → CoreAnswer → Option (After × Q) → Processor → Q → Processor → Q → Type 0
Tells (Did piece) move p q p' q' = move ≡ Some ((p', piece), q')
Tells (Waits k) move p q p' q' = (move ≡ None) × (p' ≡ p) × (q' ≡ q)
Tells IsHalted move p q p' q' = (move ≡ None) × (p' ≡ p) × (q' ≡ q)
Tells (Faulted fault) move p q p' q' = (move ≡ None) × (p' ≡ p) × (q' ≡ q)

-- what a try came to: the step was done and printed this piece, or there is no step and nothing changed
abbrev pub Came : {Q : Type 0} → Option (List ℕ) → Option (After × Q) → Processor → Q → Processor → Q → Type 0
Came (Some piece) move p q p' q' = move ≡ Some ((p', piece), q')
Came None move p q p' q' = (move ≡ None) × (p' ≡ p) × (q' ≡ q)
