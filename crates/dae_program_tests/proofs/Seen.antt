-- What examples look at after a run.
use Rattle.std.specs.Prelude.{ℕ, zero, suc, ◌+◌, Bool, false, nat_eq, List, [], ◌∷◌, drop}
use Rattle.std.specs.List.{list_all, list_any}
use Rattle.dae_base.specs.declared.Place.{Place}
use Rattle.dae_base.specs.Words.{bytes_at}
use Rattle.dae_meaning.specs.Results.{End}
use Rattle.dae_program.specs.Outcomes.{Outcome, last_world}
use Rattle.dae_program.specs.Programs.{program_end}

-- a place for all nodes, since no meaning looks at places
abbrev pub here : Place
here = record { file = 0; line = 1; col = 1 }

-- the end, the output, the counts, and the bytes of memory from address 16 on up to the last that isn't 0
pub record Seen : Type 0 where
  pub end : End
  pub printed : List ℕ
  pub reads : ℕ
  pub writes : ℕ
  pub bytes : List ℕ
  pub rest_is_zero : Bool

abbrev pub seen : ℕ → Outcome ℕ → Seen
seen count r = let w = last_world r in record {
  end = program_end r;
  printed = w.printed;
  reads = w.loads;
  writes = w.stores;
  bytes = bytes_at count 16 w.memory;
  rest_is_zero = list_all (nat_eq 0) (drop (16 + count) w.memory);
}

abbrev pub work_of : Outcome ℕ → ℕ
work_of r = let w = last_world r in w.items

-- the variables of each function that are wanted, as a table
abbrev pub among : List (List ℕ) → ℕ → ℕ → Bool
among [] f v = false
among (table ∷ tables) zero v = list_any (nat_eq v) table
among (table ∷ tables) (suc f) v = among tables f v
