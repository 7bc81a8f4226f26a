-- Lists that only leave a loop have one step.
use Rattle.std.proofs.Common.{◌≡◌, false, List, [], ◌∷◌, length, refl}
use Rattle.std.specs.Prelude.{nat_eq}
use Rattle.dae_ir.specs.Code.{Do, If, Loop}
use Rattle.dae_ir.specs.Streams.{Actions, actions_of, step_onto}
use Rattle.dae_ir.specs.declared.stream.Mark.{Mark}
use Rattle.dae_ir.specs.declared.stream.Action.{Action}
use Rattle.dae_ir.specs.declared.stream.Action.TheVariants.{Break}
use Rattle.dae_ir.specs.declared.stream.Branch.{Branch}
use Rattle.dae_ir.specs.declared.stream.Step.{Step, Act, If', Loop'}
use Rattle.dae_select_walks.specs.Facts.{only_leaves}

alone : (m : Mark) (a : Action) (m' : Mark) (b : Action) (k : Actions) → only_leaves (Do m a (Do m' b k)) ≡ false
alone m Break m' b k = refl
alone m a m' b k = refl

alone_if : (m : Mark) (a : Action) (m' : Mark) (b : Branch) (p q k : Actions) → only_leaves (Do m a (If m' b p q k)) ≡ false
alone_if m Break m' b p q k = refl
alone_if m a m' b p q k = refl

alone_loop : (m : Mark) (a : Action) (m' : Mark) (p q k : Actions) → only_leaves (Do m a (Loop m' p q k)) ≡ false
alone_loop m Break m' p q k = refl
alone_loop m a m' p q k = refl

two_steps : (s t : Step) (k : Actions) → only_leaves (step_onto s (step_onto t k)) ≡ false
two_steps (Act m a) (Act m' b) k = alone m a m' b k
two_steps (Act m a) (If' m' b i p j q) k = alone_if m a m' b _ _ k
two_steps (Act m a) (Loop' m' i p j q) k = alone_loop m a m' _ _ k
two_steps (If' m b i p j q) t k = refl
two_steps (Loop' m i p j q) t k = refl

pub leaves_alone : (steps : List Step) → (nat_eq (length steps) 1 ≡ false) → only_leaves (actions_of steps) ≡ false
leaves_alone [] e = refl
leaves_alone (s ∷ []) e = absurd cc
leaves_alone (s ∷ t ∷ steps) e = two_steps s t (actions_of steps)
