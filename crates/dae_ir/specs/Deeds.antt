-- What one action of a side does: which ends of queues it uses, one after the other, with which words, and what its
-- variables are then. Where it goes on in its code isn't said here.
use Rattle.std.specs.Prelude.{ℕ, Bool, true, false, List, Option, Some, None, nat_eq, if◌then◌else◌}
use Rattle.dae_base.specs.declared.Width.{Width}
use Rattle.dae_base.specs.declared.LoadKind.{LoadKind}
use Rattle.dae_base.specs.declared.Queue.{Queue}
use Rattle.dae_base.specs.declared.Queue.TheVariants.{Ld, Al, Sd, Ab, Eb, Cq}
use Rattle.dae_meaning.specs.Worlds.{World}
use Rattle.dae_meaning.specs.Operations.{spelled}
use Rattle.dae_meaning.specs.Variables.{Env, put}
use Rattle.dae_ir.specs.Form.{Program, value, computed, fault}
use Rattle.dae_ir.specs.declared.form.Operand.{Operand}
use Rattle.dae_ir.specs.declared.stream.Failure.{Failure}
use Rattle.dae_ir.specs.declared.stream.Failure.TheVariants.{OutOfBounds, OutOfRoom}
use Rattle.dae_ir.specs.declared.stream.Action.{Action}
use Rattle.dae_ir.specs.declared.stream.Action.TheVariants.{Set, Issue, Own, Receive, Address, Datum, Offer, Accept, Emit, Probe, Tell, Hear, Stop, Break, Continue, Call, Return}

-- how a side halts
pub data Quit : Type 0 where
  Plainly : Quit
  WithStatus : (status : ℕ) → Quit
  WithTrap : (code : ℕ) → Quit

pub data Deed : Type 0 where
  -- it is done, and the variables are these
  Went : (env : Env) → Deed
  -- it takes a word from a queue, or pushes one
  Take : (queue : Queue) (go : ℕ → Deed) → Deed
  Push : (queue : Queue) (word : ℕ) (rest : Deed) → Deed
  -- it reserves a slot of a queue for a load, or pushes the address of a store
  Reserve : (queue : Queue) (kind : LoadKind) (address : ℕ) (rest : Deed) → Deed
  Send : (width : Width) (address : ℕ) (rest : Deed) → Deed
  -- it prints, or halts
  Say : (text : List ℕ) (rest : Deed) → Deed
  Halts : (quit : Quit) → Deed

-- the queue of a side's own messages, and that of the other's
abbrev pub told_on : Bool → Queue
told_on true = Ab
told_on false = Eb

abbrev pub heard_on : Bool → Queue
heard_on true = Eb
heard_on false = Ab

-- for a trap A halts, and E halts with it
abbrev pub trapped : Bool → ℕ → Quit
trapped true code = Plainly
trapped false code = WithTrap code

abbrev pub probed : Bool → Option ℕ → Env → Deed
probed by_a None env = Went env
probed by_a (Some code) env = Push (told_on by_a) code (Halts (trapped by_a code))

abbrev pub failure_code : Failure → ℕ
failure_code OutOfBounds = 2
failure_code OutOfRoom = 4

-- the code of the trap for a word that is heard: where there is one way to fail alone, its code
abbrev pub heard_code : Option Failure → ℕ → ℕ
heard_code None word = word
heard_code (Some failure) word = failure_code failure

abbrev pub stopped : Option Operand → Env → Quit
stopped None env = Plainly
stopped (Some x) env = WithStatus (value x env)

-- in a function whose frame begins and ends as the world says
abbrev pub deed : Program → Bool → Action → World → Env → Deed
deed p by_a (Set v x) w env = Went (put true v (computed x w.frame env) env)
deed p by_a (Issue kind x) w env = Reserve Ld kind (value x env) (Went env)
deed p by_a (Own v kind x) w env = Reserve Al kind (value x env) (Take Al (λ y. Went (put true v y env)))
deed p by_a (Receive v) w env = Take Ld (λ y. Went (put true v y env))
deed p by_a (Address width x) w env = Send width (value x env) (Went env)
deed p by_a (Datum x) w env = Push Sd (value x env) (Went env)
deed p by_a (Offer v) w env = Push Cq (env v) (Went env)
deed p by_a (Accept v) w env = Take Cq (λ y. Went (put true v y env))
deed p by_a (Emit spelling x) w env = Say (spelled spelling (value x env)) (Went env)
deed p by_a (Probe check) w env = probed by_a (fault p check w env) env
deed p by_a (Tell x) w env = Push (told_on by_a) (value x env) (Went env)
deed p by_a (Hear only) w env = Take (heard_on by_a) (λ y. if nat_eq y 0 then Went env else Halts (trapped by_a (heard_code only y)))
deed p by_a (Stop x) w env = Halts (stopped x env)
deed p by_a Break w env = Went env
deed p by_a Continue w env = Went env
deed p by_a (Call v f xs) w env = Went env
deed p by_a (Return x) w env = Went env
