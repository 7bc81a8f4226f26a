-- A machine with its clock.
use Rattle.std.specs.Prelude.{ℕ, ◌+◌, nat_lt, if◌then◌else◌, List, [], ◌∷◌, ◌++◌}
use Rattle.dae_base.specs.declared.Side.{Side}
use Rattle.dae_base.specs.declared.Side.TheVariants.{A, E}
use Rattle.dae_base.specs.declared.Queue.{Queue}
use Rattle.dae_base.specs.declared.Queue.TheVariants.{Ld, Al, Sa, Sd, Ab, Eb, Cq}
use Rattle.dae_queues.specs.Lists.{rest}
use Rattle.dae_machine.specs.Machine.{State}
use Rattle.dae_timing.specs.declared.waits.Waits.{Waits}

-- the state; how many ticks there were; for each slot of ld and of al, from the front, the tick of its issue; from which
-- tick on each processor may step; and in how many ticks each waited for each queue
pub record Clock : Type 0 where
  pub state : State
  pub ticks : ℕ
  pub ld : List ℕ
  pub al : List ℕ
  pub free_a : ℕ
  pub free_e : ℕ
  pub waits_a : Waits
  pub waits_e : Waits

abbrev pub no_waits : Waits
no_waits = record { ld = 0; al = 0; sa = 0; sd = 0; ab = 0; eb = 0; cq = 0 }

-- before the first tick of a machine in this state, whose queues are empty
abbrev pub first_clock : State → Clock
first_clock s = record {
  state = s;
  ticks = 0;
  ld = [];
  al = [];
  free_a = 0;
  free_e = 0;
  waits_a = no_waits;
  waits_e = no_waits;
}

-- from which tick on a processor may step
abbrev pub free_from : Side → Clock → ℕ
free_from A c = c.free_a
free_from E c = c.free_e

abbrev pub with_free : Side → ℕ → Clock → Clock
with_free A n c = record c { free_a = n }
with_free E n c = record c { free_e = n }

-- the queue that a side takes its loads from
abbrev pub load_queue : Side → Queue
load_queue A = Al
load_queue E = Ld

-- the ticks of issue of its slots
abbrev pub issues_of : Side → Clock → List ℕ
issues_of A c = c.al
issues_of E c = c.ld

-- these ticks once that queue went from m slots to n: one came at the back, or the front one was taken
abbrev pub issues_after : ℕ → ℕ → ℕ → List ℕ → List ℕ
issues_after now m n issues =
    if nat_lt m n then issues ++ now ∷ [] else (if nat_lt n m then rest issues else issues)

-- ---- waiting

abbrev pub waits_of : Side → Clock → Waits
waits_of A c = c.waits_a
waits_of E c = c.waits_e

abbrev pub waits_for : Queue → Waits → ℕ
waits_for Ld w = w.ld
waits_for Al w = w.al
waits_for Sa w = w.sa
waits_for Sd w = w.sd
waits_for Ab w = w.ab
waits_for Eb w = w.eb
waits_for Cq w = w.cq

abbrev pub one_more : Queue → Waits → Waits
one_more Ld w = record w { ld = w.ld + 1 }
one_more Al w = record w { al = w.al + 1 }
one_more Sa w = record w { sa = w.sa + 1 }
one_more Sd w = record w { sd = w.sd + 1 }
one_more Ab w = record w { ab = w.ab + 1 }
one_more Eb w = record w { eb = w.eb + 1 }
one_more Cq w = record w { cq = w.cq + 1 }

abbrev pub with_wait : Side → Queue → Clock → Clock
with_wait A queue c = record c { waits_a = one_more queue c.waits_a }
with_wait E queue c = record c { waits_e = one_more queue c.waits_e }
