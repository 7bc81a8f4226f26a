-- An access that adds the number of a sum to the other operand accesses memory at the sum.
use Rattle.std.proofs.Common.{◌≡◌, ℕ, ◌^◌, ◌<◌, true, List, ◌∷◌, Some, refl, arith}
use Rattle.std.specs.Prelude.{ℤ}
use Rattle.std.proofs.lemmas.Bool.Decides.{nat_tests}
use Rattle.dae_base.specs.Words.{plus, word}
use Rattle.dae_base.specs.declared.Queue.{Queue}
use Rattle.dae_base.specs.declared.Width.{Width}
use Rattle.dae_base.specs.declared.LoadKind.{LoadKind}
use Rattle.dae_encode.specs.declared.Inst.{Inst}
use Rattle.dae_encode.specs.declared.QueueUse.TheVariants.{Load, StoreAddress}
use Rattle.dae_encode.specs.declared.InstructionForm.TheVariants.{Loads, Stores}
use Rattle.dae_encode.specs.Uses.{queue_use}
use Rattle.dae_encode.specs.Processor.{Processor}
use Rattle.dae_ir.specs.Classes.{VariableSet}
use Rattle.dae_ir.specs.Deeds.{Deed, Reserve, Send}
use Rattle.dae_ir.specs.declared.form.Operand.TheVariants.{Variable, Number}
use Rattle.dae_ir.specs.declared.form.Value.TheVariants.{Binary}
use Rattle.dae_meaning.specs.Operations.{combined}
use Rattle.dae_meaning.specs.Variables.{Env}
use Rattle.dae_meaning.specs.declared.Operator.TheVariants.{Add as Plus}
use Rattle.dae_select_walks.specs.Walks.{WalkSetting}
use Rattle.dae_select_walks.specs.Homes.{Contents}
use Rattle.dae_select_walks.specs.Agrees.{Plan, Moment}
use Rattle.dae_select_walks.proofs.LawsOfWalks.{step_shared, step_address}
use Rattle.dae_select_blocks.specs.Blocks.{lower, is_immediate, source, issue_code, address_code, reach_code}
use Rattle.dae_select_blocks.specs.Fits.{Fits}
use Rattle.dae_select_blocks.proofs.Halves.{immediate_word}
use Rattle.dae_select_blocks.proofs.Runs.{Runs, runs_reserve, runs_send}
use Rattle.dae_select_blocks.proofs.Agreement.{Ready}
use Rattle.dae_select_blocks.proofs.Computing.{source_plain, runs_one}
use Rattle.dae_select_blocks.proofs.Actions.{issue_is, address_is}

module _ (s : WalkSetting) (plan : Plan) (variables : ℕ → ℕ) (fine : Fits s plan variables) (to : ℕ → Env → Processor → Type 0) where
  -- the register of the access and its offset add up to the sum
  runs_reach : {live : VariableSet} {m : Moment} {c : Contents} {d : Deed} (v n : ℕ) (access : ℕ → ℤ → Inst) (rest : List Inst) → Ready plan live m c → live v ≡ true → is_immediate n ≡ true → n < 2 ^ 32 →
      ((c' : Contents) (r : ℕ) → Ready plan live m c' → r < 28 → plus (c'.register r) (word (lower n)) ≡ combined Plus (m.env v) n → Runs s plan.private to (access r (lower n) ∷ rest) c' d) →
      Runs s plan.private to (reach_code (plan.home m.function) (Binary Plus (Variable v) (Number n)) access rest) c d
  unfolding combined
  runs_reach {m = m} v n access rest h held fits number run =
      let r : ℕ = source (plan.home m.function) 5 (Variable v) in
      runs_one s plan variables fine to (Variable v) (access r (lower n) ∷ rest) h (λ u e. (let same : u ≡ v = grind (arith, nat_tests) in rw same held)) tt
      (λ c1 h1 got. run c1 r h1 (source_plain s plan variables fine to m.function 5 (Variable v) (omega arith)) (rw (got, immediate_word n number fits) refl))

  -- a slot of a queue is reserved
  pub issues_there : {live : VariableSet} {m : Moment} {c : Contents} {d : Deed} (kind : LoadKind) (q : ℕ) (queue : Queue) (v n : ℕ) (rest : List Inst) → ((base offset : ℕ) → base < 28 → queue_use s.copies s.side (Loads kind q base offset) ≡ Some (Load queue kind)) →
      Ready plan live m c → live v ≡ true → is_immediate n ≡ true → n < 2 ^ 32 → ((c' : Contents) → Ready plan live m c' → Runs s plan.private to rest c' d) →
      Runs s plan.private to (reach_code (plan.home m.function) (Binary Plus (Variable v) (Number n)) (issue_code kind q) rest) c (Reserve queue kind (combined Plus (m.env v) n) d)
  issues_there {m = m} kind q queue v n rest legal h held fits number run =
      runs_reach v n (issue_code kind q) rest h held fits number (λ c1 r h1 plain same.
      runs_reserve s plan.private to (λ good k w small here is p shows. step_shared s plan.private (issue_code kind q r (lower n)) kind queue q r (word (lower n)) (combined Plus (m.env v) n) w shows here is small (issue_is kind q r (lower n)) (legal r (word (lower n)) plain) plain same good) (run c1 h1))

  -- the address of a store is given
  pub gives_there : {live : VariableSet} {m : Moment} {c : Contents} {d : Deed} (width : Width) (v n : ℕ) (rest : List Inst) → ((base offset : ℕ) → base < 28 → queue_use s.copies s.side (Stores width base 30 offset) ≡ Some (StoreAddress width)) →
      Ready plan live m c → live v ≡ true → is_immediate n ≡ true → n < 2 ^ 32 → ((c' : Contents) → Ready plan live m c' → Runs s plan.private to rest c' d) →
      Runs s plan.private to (reach_code (plan.home m.function) (Binary Plus (Variable v) (Number n)) (address_code width) rest) c (Send width (combined Plus (m.env v) n) d)
  gives_there {m = m} width v n rest legal h held fits number run =
      runs_reach v n (address_code width) rest h held fits number (λ c1 r h1 plain same.
      runs_send s plan.private to (λ good k w small here is p shows. step_address s plan.private (address_code width r (lower n)) width r 30 (word (lower n)) (combined Plus (m.env v) n) w shows here is small (address_is width r (lower n)) (legal r (word (lower n)) plain) plain same good) (run c1 h1))
