-- A processor answers that it has halted just where it has.
use Rattle.std.proofs.Common.{◌≡◌, ℕ, ◌%◌, ◌/◌, Bool, true, false, List, refl, ◌∙◌}
use Rattle.std.specs.Prelude.{◌==◌, if◌then◌else◌, Option, Some, None, is_some, slice_get}
use Rattle.dae_base.specs.declared.Side.{Side}
use Rattle.dae_base.specs.declared.Depths.{Depths}
use Rattle.dae_encode.specs.declared.Fault.{Fault}
use Rattle.dae_encode.specs.declared.Halt.{Halt}
use Rattle.dae_encode.specs.declared.Inst.{Inst}
use Rattle.dae_encode.specs.declared.QueueUse.{QueueUse}
use Rattle.dae_encode.specs.declared.QueueUse.TheVariants.{Nothing, Take, Push, Load, StoreAddress}
use Rattle.dae_encode.specs.declared.Request.{Request}
use Rattle.dae_encode.specs.declared.Request.TheVariants as request
use Rattle.dae_encode.specs.Instructions.{form}
use Rattle.dae_encode.specs.Processor.{After, Processor, decoded, early_fault, fetched, finish, if_legal, if_no_fault, put_word, request, unless_halted}
use Rattle.dae_encode.specs.Spelling.{decode}
use Rattle.dae_encode.specs.Uses.{queue_use}
use Rattle.dae_core.specs.declared.CoreAnswer.TheVariants.{Halted}
use Rattle.dae_core.specs.Moves.{answered_by, finished, offered_by, unprinted, waits}
use Rattle.dae_core.specs.Queues.{Queues, front, ready}
use Rattle.dae_machine.specs.Answers.{answer, processor}
use Rattle.dae_machine.specs.Machine.{Setup, State, code}
use Rattle.dae_debug.specs.Sessions.{is_halt}

is_halted : Request → Bool
is_halted request.Halted = true
is_halted (request.Faulty fault) = false
is_halted (request.Asks u w i) = false

module _ (copies : Bool) (side : Side) (memory : ℕ) (p : Processor) where
  by_fault : (o : Option Fault) (u : QueueUse) (w : ℕ) (i : Inst) → is_halted (if_no_fault o (request.Asks u w i)) ≡ false
  unfolding is_halted
  by_fault None u w i = refl
  by_fault (Some fault) u w i = refl

  by_use : (o : Option QueueUse) (i : Inst) → is_halted (if_legal o (λ u. if_no_fault (early_fault side memory p u (form i)) (request.Asks u (put_word p u i (form i)) i))) ≡ false
  unfolding is_halted
  by_use None i = refl
  by_use (Some u) i = by_fault (early_fault side memory p u (form i)) u (put_word p u i (form i)) i

  by_inst : (o : Option Inst) → is_halted (decoded copies side memory p o) ≡ false
  unfolding is_halted
  by_inst None = refl
  by_inst (Some i) = by_use (queue_use copies side (form i)) i

  by_word : (o : Option ℕ) → is_halted (fetched copies side memory p o) ≡ false
  unfolding is_halted
  by_word None = refl
  by_word (Some w) = by_inst (decode w)

  by_halt : (h : Option Halt) (o : Option ℕ) → is_halted (unless_halted h (fetched copies side memory p o)) ≡ is_some h
  unfolding is_halted
  by_halt None o = by_word o
  by_halt (Some h) o = refl

  requested : (code : List ℕ) → is_halted (request copies side code memory p) ≡ is_some p.halt
  unfolding request
  requested code = by_halt p.halt (if p.counter % 4 == 0 then slice_get code (p.counter / 4) else None)

goes : (o : Option After) → is_halt (unprinted (finished o)) ≡ false
goes None = refl
goes (Some r) = refl

stays : (u : QueueUse) → is_halt (unprinted (waits u)) ≡ false
stays Nothing = refl
stays (Take k) = refl
stays (Push k) = refl
stays (Load k kind) = refl
stays (StoreAddress width) = refl

by_ready : (b : Bool) (o : Option After) (u : QueueUse) → is_halt (unprinted (if b then finished o else waits u)) ≡ false
by_ready true o u = goes o
by_ready false o u = stays u

answered : (depths : Depths) (side : Side) (p : Processor) (q : Queues) (r : Request)
    → is_halt (unprinted (answered_by (λ q access. ready depths access q) (λ q queue. front queue q) side p q r)) ≡ is_halted r
unfolding is_halted
answered depths side p q request.Halted = refl
answered depths side p q (request.Faulty fault) = refl
answered depths side p q (request.Asks u w i) = by_ready (ready depths u q) (finish side p u i (form i) (offered_by (λ q queue. front queue q) q u)) u

pub halts_so : (setup : Setup) (s : State) (side : Side) → is_halt (answer setup s side) ≡ is_some (processor side s).halt
halts_so setup s side =
    answered setup.depths side (processor side s) s.queues (request setup.copies side (code setup side) setup.memory (processor side s))
    ∙ requested setup.copies side setup.memory (processor side s) (code setup side)
