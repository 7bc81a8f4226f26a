-- A processor does a deed: just its accesses, in their order and with its words, whatever words it takes.
use Rattle.std.specs.Prelude.{◌≡◌, ℕ, ◌<◌, ◌^◌, true, List, [], Some}
use Rattle.dae_base.specs.Words.{width_of}
use Rattle.dae_encode.specs.declared.QueueUse.{QueueUse}
use Rattle.dae_encode.specs.declared.QueueUse.TheVariants.{Nothing, Take as Takes, Push as Pushes, Load, StoreAddress}
use Rattle.dae_encode.specs.declared.Halt.{Halt}
use Rattle.dae_encode.specs.declared.Halt.TheVariants.{Plain, Status, Trap}
use Rattle.dae_encode.specs.Processor.{Processor, is_within}
use Rattle.dae_meaning.specs.Variables.{Env}
use Rattle.dae_ir.specs.Deeds.{Quit, Plainly, WithStatus, WithTrap, Deed, Went, Take, Push, Reserve, Send, Say, Halts}
use Rattle.dae_select_walks.specs.Walks.{WalkSetting, QueueEvent, Comes, Nears, Acts}

abbrev pub event : QueueUse → ℕ → ℕ → List ℕ → QueueEvent
event access put given piece = record { access = access; put = put; given = given; piece = piece }

abbrev pub halt_of : Quit → Halt
halt_of Plainly = Plain
halt_of (WithStatus status) = Status status
halt_of (WithTrap code) = Trap code

-- with at most n instructions in all, behind which `to` says what it must be with these variables. An address of common
-- memory is one that is good there
abbrev pub Does : WalkSetting → ℕ → Deed → (Env → Processor → Type 0) → Processor → Type 0
Does s n (Went env) to p = Comes s n p (to env)
Does s n (Take queue go) to p =
    Nears s n p (λ l q. (x : ℕ) → x < 2 ^ 32 → (put : ℕ) × Acts s q (event (Takes queue) put x []) (Does s l (go x) to))
Does s n (Push queue x rest) to p = (x < 2 ^ 32) × Nears s n p (λ l q. Acts s q (event (Pushes queue) x 0 []) (Does s l rest to))
Does s n (Reserve queue kind a rest) to p =
    is_within 16 s.memory (width_of kind) a ≡ true → Nears s n p (λ l q. Acts s q (event (Load queue kind) a 0 []) (Does s l rest to))
Does s n (Send width a rest) to p =
    is_within 16 s.memory width a ≡ true → Nears s n p (λ l q. Acts s q (event (StoreAddress width) a 0 []) (Does s l rest to))
Does s n (Say text rest) to p = Nears s n p (λ l q. Acts s q (event Nothing 0 0 text) (Does s l rest to))
Does s n (Halts quit) to p = Nears s n p (λ l q. Acts s q (event Nothing 0 0 []) (λ r. r.halt ≡ Some (halt_of quit)))
