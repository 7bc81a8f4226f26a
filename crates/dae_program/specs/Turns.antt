-- How what a program does hangs on the bound on turns.
use Rattle.std.specs.Prelude.{◌≡◌, ◌≢◌, ℕ, suc, ◌≤◌, true, false, List}
use Rattle.dae_meaning.specs.Worlds.{World}
use Rattle.dae_meaning.specs.Results.{End, Going}
use Rattle.dae_meaning.specs.Alike.{IsFront}
use Rattle.dae_program.specs.Calls.{call}
use Rattle.dae_program.specs.Outcomes.{Outcome, Ends, last_world}
use Rattle.dae_program.specs.Programs.{run, program_end, EndsSo, GoesOn}
use Rattle.dae_program.specs.Trees.{Program}

-- the first is the second, or goes on and has printed a front of it
pub data IsBelow : Outcome ℕ → Outcome ℕ → Type 0 where
  Same : (r : Outcome ℕ) → IsBelow r r
  Fewer : (w : World) (r : Outcome ℕ) → IsFront w.printed (last_world r).printed → IsBelow (Ends Going w) r

-- what a program does with n turns, and the test of the next one, lies between what it does with n turns and with n + 1, each
-- without that test
abbrev pub TurnsInOrder : Type 0
TurnsInOrder =
    (p : Program) (n depth f : ℕ) (xs : List ℕ) (w : World) →
    IsBelow (call p false n depth f xs w) (call p true n depth f xs w) × IsBelow (call p true n depth f xs w) (call p false (suc n) depth f xs w)

-- a program that ends or traps under n does so under each greater bound: with the same output, memory, counts and status
abbrev pub EndsStay : Type 0
EndsStay =
    (p : Program) (main : ℕ) (w : World) (n m : ℕ) → n ≤ m →
    program_end (run p n main w) ≢ Going → run p m main w ≡ run p n main w

-- the output under n is a front of that under each greater bound
abbrev pub OutputGrows : Type 0
OutputGrows =
    (p : Program) (main : ℕ) (w : World) (n m : ℕ) → n ≤ m →
    IsFront (last_world (run p n main w)).printed (last_world (run p m main w)).printed

-- a program that goes on under m does so under each lesser bound; so it goes on where it does so for bounds as large as one
-- likes
abbrev pub GoingBefore : Type 0
GoingBefore =
    (p : Program) (main : ℕ) (w : World) (n m : ℕ) → n ≤ m →
    program_end (run p m main w) ≡ Going → program_end (run p n main w) ≡ Going

-- a program has one end, or goes on
abbrev pub OneEnd : Type 0
OneEnd =
    (p : Program) (main : ℕ) (w : World) →
    (let meaning : ℕ → Outcome ℕ = λ n. run p n main w in
    ((one other : End) → EndsSo meaning one → EndsSo meaning other → one ≡ other) × ((end : End) → EndsSo meaning end → GoesOn meaning → ⊥))
