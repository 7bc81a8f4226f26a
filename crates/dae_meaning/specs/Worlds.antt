-- The world that a program runs in: what is there beside its variables.
use Rattle.std.specs.Prelude.{◌≡◌, ℕ, ◌+◌, Bool, if◌then◌else◌, List, length}
use Rattle.dae_base.specs.Words.{AreBytes}

-- common memory, by its bytes; what was printed; where the running function's frame begins and ends; how many calls are
-- active; and how many items of work, loads and stores were done
pub record World : Type 0 where
  pub memory : List ℕ
  pub printed : List ℕ
  pub frame : ℕ
  pub top : ℕ
  pub depth : ℕ
  pub items : ℕ
  pub loads : ℕ
  pub stores : ℕ

-- the later world's memory is as long, and holds bytes where the earlier one's does
pub record KeepsMemory (w u : World) : Type 0 where
  pub size : length u.memory ≡ length w.memory
  pub bytes : AreBytes w.memory → AreBytes u.memory

-- one item more, and one that is a load, which counts by the flag
abbrev pub ticked : World → World
ticked w = record w { items = w.items + 1 }

abbrev pub fetched : Bool → World → World
fetched counts w = record w { items = w.items + 1; loads = if counts then w.loads + 1 else w.loads }

-- behind a call the caller's frame is the running one
abbrev pub back : World → World → World
back old w = record w { frame = old.frame; top = old.top; depth = old.depth }

-- so many loads were counted
abbrev pub with_loads : ℕ → World → World
with_loads n w = record w { loads = n }
