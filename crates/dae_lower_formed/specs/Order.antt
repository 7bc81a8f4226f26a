-- The form of a program does what the program does, over all bounds on the turns of loops: it ends or traps exactly where the
-- program does, with the same output, memory, reads, writes and status; for every bound the form has printed, under some bound,
-- at least the output of the program; and under every bound it has printed a front of the output of the program under some.
use Rattle.std.specs.Prelude.{◌≡◌, ◌≢◌, ◌↔◌, ℕ, suc, ◌*◌, ◌≤◌, true}
use Rattle.dae_meaning.specs.Results.{Result, Going, Astray, world_of}
use Rattle.dae_meaning.specs.Alike.{IsFront}
use Rattle.dae_meaning.specs.Variables.{Env}
use Rattle.dae_ir.specs.Programs.{end_of, outcome}
use Rattle.dae_ir.specs.declared.form.Ir.{Ir}
use Rattle.dae_program.specs.Outcomes.{Outcome, last_world}
use Rattle.dae_program.specs.Programs.{program_end, meaning_of, start}
use Rattle.dae_program.specs.declared.program.Program.{Program}
use Rattle.dae_program.specs.Lawful.{is_lawful}
use Rattle.dae_lower_formed.specs.Formed.{IsLowered}
use Rattle.dae_lower.specs.Keeping.{IsKept, IsOver, form_run_of}

-- what is kept where a form makes no more loads than its program reads: the end, memory, output and writes. It executes at
-- most 9 items for each unit of work
pub record IsKeptByFewer (r : Outcome ℕ) (q : Result Env) : Type 0 where
  pub end : end_of q ≡ program_end r
  pub memory : (world_of q).memory ≡ (last_world r).memory
  pub printed : (world_of q).printed ≡ (last_world r).printed
  pub loads : (world_of q).loads ≤ (last_world r).loads
  pub stores : (world_of q).stores ≡ (last_world r).stores
  pub items : (world_of q).items ≤ 9 * (last_world r).items

-- what a program does under each bound, and what a form does; where either is over, the other is under some bound, and what is
-- named is kept
pub record DoesTheSame (Kept : Outcome ℕ → Result Env → Type 0) (program : ℕ → Outcome ℕ)
    (form : ℕ → Result Env) : Type 0 where
  pub ends : (n : ℕ) → IsOver (program_end (program n)) → (m : ℕ) × Kept (program n) (form m)
  pub ends_only : (m : ℕ) → IsOver (end_of (form m)) → (n : ℕ) × Kept (program n) (form m)
  pub goes_on : ((n : ℕ) → program_end (program n) ≡ Going) ↔ ((m : ℕ) → end_of (form m) ≡ Going)
  pub prints : (n : ℕ) → (m : ℕ) × IsFront (last_world (program n)).printed (world_of (form m)).printed
  pub prints_only : (m : ℕ) → (n : ℕ) × IsFront (world_of (form m)).printed (last_world (program n)).printed
  pub stays : (m : ℕ) → end_of (form m) ≢ Astray

-- of each lawful program in memory, with a limit on calls inside one another
abbrev pub FormsDoPrograms : Type 0
FormsDoPrograms =
    (p : Program) (depth : ℕ) → is_lawful p.memory p.frames p.content p.links p.functions p.main ≡ true →
    DoesTheSame IsKept (meaning_of p (suc depth)) (form_run_of p (suc depth))

-- and of a form in memory: what main's call does from the memory that the program begins with
abbrev pub LoweredDoPrograms : Type 0
LoweredDoPrograms =
    (p : Program) (ir : Ir) → IsLowered p ir → (depth : ℕ) → ir.calls ≡ suc depth →
    DoesTheSame IsKept (meaning_of p (suc depth)) (λ n. outcome ir n (let w = start p.memory p.frames p.content in w.memory))
