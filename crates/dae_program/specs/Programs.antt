-- What programs mean (C90 5.1.2.2.3): main is called in a memory that holds the data. A bound n on the turns of loops makes
-- the meaning a function, M(n); a program ends or traps where M(n) does so for some n, and goes on where it does for no n.
use Rattle.std.specs.Prelude.{◌≡◌, ◌≢◌, ℕ, ◌+◌, ◌-◌, true, List, [], ◌++◌, length, replicate, slice_get}
use Rattle.dae_meaning.specs.Worlds.{World}
use Rattle.dae_meaning.specs.Results.{End, Halted, Going}
use Rattle.dae_program.specs.declared.program.Program.{Program}
use Rattle.dae_program.specs.Calls.{call}
use Rattle.dae_program.specs.Outcomes.{Outcome, Gives, Ends}
use Rattle.dae_program.specs.Trees as tree
use Rattle.dae_program.specs.Resolved.{function_in, variables_in}

-- ---- runs of main

-- before main is called: a memory of so many bytes, with the data from address 16 on and else 0, and no frame yet. The call
-- itself is a unit of work
abbrev pub start : (size frames : ℕ) → List ℕ → World
start size frames bytes = record {
  memory = (replicate 16 0 ++ bytes) ++ replicate (size - (16 + length bytes)) 0;
  printed = [];
  frame = frames;
  top = frames;
  depth = 0;
  items = 1;
  loads = 0;
  stores = 0;
}

-- main is called, where each execution of a loop makes at most n turns, and the test of the next one
abbrev pub run : tree.Program → (n main : ℕ) → World → Outcome ℕ
run p n main w = call p true n p.limit main [] w

-- what main returns is the status
abbrev pub program_end : Outcome ℕ → End
program_end (Gives x env w) = Halted x
program_end (Ends end w) = end

-- ---- for all bounds

-- ends or traps so
abbrev pub EndsSo : (ℕ → Outcome ℕ) → End → Type 0
EndsSo meaning end = (n : ℕ) × (program_end (meaning n) ≡ end) × (end ≢ Going)

abbrev pub GoesOn : (ℕ → Outcome ℕ) → Type 0
GoesOn meaning = (n : ℕ) → program_end (meaning n) ≡ Going

-- ---- programs in memory

-- with a limit on calls inside one another
abbrev pub program_of : Program → ℕ → tree.Program
program_of p limit = record {
  function = λ f. function_in (length p.functions) p.links (slice_get p.functions f);
  limit = limit;
}

-- M(n) of a program
abbrev pub meaning_of : Program → (limit n : ℕ) → Outcome ℕ
meaning_of p limit n = run (program_of p limit) n p.main (start p.memory p.frames p.content)

abbrev pub variables_of : Program → ℕ → ℕ
variables_of p f = variables_in (slice_get p.functions f)
