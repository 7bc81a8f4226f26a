-- What is promised of a form's split.
use Rattle.std.specs.Prelude.{ℕ, true, [], List}
use Rattle.dae_ir.specs.Classes.{classes_of}
use Rattle.dae_ir.specs.Rounds.{rounds}
use Rattle.dae_ir.specs.Budgets.{IsBudgetOf}
use Rattle.dae_ir.specs.Programs.{program_of, outcome, AreClassesOf, IsPairOf}
use Rattle.dae_ir.specs.declared.form.Ir.{Ir}
use Rattle.dae_slice.specs.Links.{HasRows}
use Rattle.dae_ir_pair.specs.Budget.{Covers, IsWithinCap}
use Rattle.dae_ir_pair.specs.Programs.{pair_outcome, DoesTheSame}
use Rattle.dae_split_pair.specs.declared.program.Decoupled.{Decoupled}

-- The classes are the least of the form's variables, and the pair is the one that they make, where a group has at most cap
-- loads for E and as many copies. The budget is the pair's: at most cap for loads and copies and 1 for each other queue, and
-- enough for each round of each function. For each bound on the turns of loops, and from each memory, the pair in canonical
-- order ends as the form does, unless the form goes astray.
pub record IsDecoupled (ir : Ir) (cap : ℕ) (d : Decoupled) : Type 0 where
  pub classes : AreClassesOf ir d.classes
  pub rows : HasRows ir.functions d.classes
  pub pair : IsPairOf ir d.classes cap d.pair
  pub budget : IsBudgetOf d.pair d.budget
  pub within_cap : IsWithinCap cap d.budget
  pub covers : (f : ℕ) → Covers (classes_of d.classes f) d.budget (rounds (classes_of d.classes f) cap true ((program_of ir).body f) [])
  pub same : (n : ℕ) (memory : List ℕ) → DoesTheSame (classes_of d.classes ir.main) (outcome ir n memory) (pair_outcome ir d.classes cap n memory)
