-- What contracts see of a machine with a clock, and what is true of every one.
use Rattle.std.specs.Prelude.{◌≡◌, ℕ, ◌*◌, ◌≤◌, List, [], ◌∷◌, length, map}
use Rattle.std.specs.List.{AllByRecursion}
use Rattle.dae_base.specs.declared.Queue.{Queue}
use Rattle.dae_machine.specs.Held.{HeldMachine}
use Rattle.dae_machine.specs.Machine.{IsCounted, Setup}
use Rattle.dae_queues.specs.Fifos.{BoundedQueue}
use Rattle.dae_cli_options.specs.declared.options.Costs.{Costs}
use Rattle.dae_timing.specs.declared.prices.Price.{Price}
use Rattle.dae_timing.specs.declared.waits.Waits.{Waits}
use Rattle.dae_timing.specs.Clocks.{Clock, waits_for}
use Rattle.dae_timing.specs.Costs.{price_of_word}

-- what no tick changes, and the clock, whose machine has printed nothing
pub record HeldClock : Type 0 where
  pub setup : Setup
  pub costs : Costs
  pub clock : Clock
  pub silent : clock.state.printed ≡ []

-- what a machine with a clock is seen as, from its parts
abbrev pub seen : HeldMachine → Costs → (ticks : ℕ) → (ld al : BoundedQueue ℕ) → (free_a free_e : ℕ)
    → (waits_a waits_e : Waits) → HeldClock
seen m k ticks ld al free_a free_e waits_a waits_e = record {
  setup = m.setup;
  costs = k;
  clock = record {
    state = m.state;
    ticks = ticks;
    ld = ld.held;
    al = al.held;
    free_a = free_a;
    free_e = free_e;
    waits_a = waits_a;
    waits_e = waits_e;
  };
  silent = m.silent;
}

-- none of these ticks is after now, and each is at most each later one
abbrev pub RiseTo : ℕ → List ℕ → Type 0
RiseTo now [] = Unit {0}
RiseTo now (t ∷ ts) = (t ≤ now) × AllByRecursion (λ (u : ℕ). t ≤ u) ts × RiseTo now ts

-- each word of code has its price. Each slot of ld and al has the tick of its issue, in rings that are as deep as the
-- queues, and these ticks rise; and the numbers of slots and stores are in order
pub record IsSound (m : HeldMachine) (prices_a prices_e : List Price) (ticks : ℕ) (ld al : BoundedQueue ℕ) : Type 0 where
  pub priced_a : prices_a ≡ map price_of_word m.setup.code_a
  pub priced_e : prices_e ≡ map price_of_word m.setup.code_e
  pub deep_ld : ld.depth ≡ m.setup.depths.ld
  pub deep_al : al.depth ≡ m.setup.depths.al
  pub each_ld : length ld.held ≡ length m.state.queues.ld.slots
  pub each_al : length al.held ≡ length m.state.queues.al.slots
  pub rise_ld : RiseTo ticks ld.held
  pub rise_al : RiseTo ticks al.held
  pub counted : IsCounted m.state

-- a tick has at most five steps, and each processor waits in it for at most one queue
pub record IsTimed (c : Clock) : Type 0 where
  pub few : c.state.steps ≤ 5 * c.ticks
  pub waits_a : (queue : Queue) → waits_for queue c.waits_a ≤ c.ticks
  pub waits_e : (queue : Queue) → waits_for queue c.waits_e ≤ c.ticks
