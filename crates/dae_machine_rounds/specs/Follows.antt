-- The uses of queues that one action of a side makes.
use Rattle.std.specs.Prelude.{◌≡◌, ℕ, ◌<◌, ◌^◌, List, [], ◌∷◌, None}
use Rattle.dae_base.specs.Words.{width_of}
use Rattle.dae_base.specs.declared.Width.{Width}
use Rattle.dae_base.specs.declared.LoadKind.{LoadKind}
use Rattle.dae_base.specs.declared.Queue.{Queue}
use Rattle.dae_machine.specs.Uses.{Use, Takes, Pushes, Reserves, Sends, Says}
use Rattle.dae_meaning.specs.Variables.{Env}
use Rattle.dae_meaning.specs.Operations.{misplaced}
use Rattle.dae_ir.specs.Deeds.{Quit, Deed, Went, Take, Push, Reserve, Send, Say, Halts}

-- ---- what code may rely on

-- what is taken is a word, and an address is well placed in a memory of this size
abbrev pub IsFit : ℕ → Use → Type 0
IsFit size (Takes queue x) = x < 2 ^ 32
IsFit size (Pushes queue x) = Unit {0}
IsFit size (Reserves queue kind address) = misplaced (width_of kind) address size ≡ None
IsFit size (Sends width address) = misplaced width address size ≡ None
IsFit size (Says text) = Unit {0}

-- ---- one action

-- the variables after it, or a halt
pub data DeedOutcome : Type 0 where
  Leaves : (env : Env) → DeedOutcome
  Quits : (quit : Quit) → DeedOutcome

-- the uses of a deed, where the queues give these words
pub data Follows : Deed → List Use → DeedOutcome → Type 0 where
  went : {env : Env} → Follows (Went env) [] (Leaves env)
  takes : {queue : Queue} {go : ℕ → Deed} {uses : List Use} {o : DeedOutcome} (x : ℕ) → Follows (go x) uses o → Follows (Take queue go) (Takes queue x ∷ uses) o
  pushes : {queue : Queue} {x : ℕ} {rest : Deed} {uses : List Use} {o : DeedOutcome} → Follows rest uses o → Follows (Push queue x rest) (Pushes queue x ∷ uses) o
  reserves : {queue : Queue} {kind : LoadKind} {address : ℕ} {rest : Deed} {uses : List Use} {o : DeedOutcome}
      → Follows rest uses o → Follows (Reserve queue kind address rest) (Reserves queue kind address ∷ uses) o
  sends : {width : Width} {address : ℕ} {rest : Deed} {uses : List Use} {o : DeedOutcome} → Follows rest uses o → Follows (Send width address rest) (Sends width address ∷ uses) o
  says : {text : List ℕ} {rest : Deed} {uses : List Use} {o : DeedOutcome} → Follows rest uses o → Follows (Say text rest) (Says text ∷ uses) o
  halts : {quit : Quit} → Follows (Halts quit) [] (Quits quit)
