-- One part of a stream after another.
use Rattle.std.proofs.Common.{◌≡◌, ℕ, ◌+◌, Bool, List, ◌++◌, refl, sym, subst, append_assoc, append-nil, arith}
use Rattle.std.specs.List.{AllByRecursion}
use Rattle.dae_core.specs.Queues.{Queues}
use Rattle.dae_machine.specs.Machine.{Setup}
use Rattle.dae_ir.specs.Form.{Program}
use Rattle.dae_ir.specs.Streams.{Actions}
use Rattle.dae_ir.specs.Programs.{side}
use Rattle.dae_machine.specs.Uses.{Use}
use Rattle.dae_machine_rounds.specs.Follows.{IsFit}
use Rattle.dae_machine_rounds.specs.Spots.{weight, Spot, Came, Arrives, Moves}
use Rattle.dae_machine.specs.Uses.{texts}
use Rattle.dae_machine.specs.Walks.{Grants}
use Rattle.dae_machine_rounds.proofs.Does.{Does, here, on}

module _ {setup : Setup} {p : Program} {by_a : Bool} {body : ℕ → Actions} {m : List ℕ} where
  pub does_same : {k k' f f' l l' : ℕ} {s : Spot} {q q' : Queues} {text text' : List ℕ} {c : Came} → k ≡ k' → f ≡ f' → l ≡ l' → text ≡ text' → Does setup p by_a body m k f l s q text c q' → Does setup p by_a body m k' f' l' s q text' c q'
  does_same h i j e x = rw (← h, ← i, ← j, ← e) x

  pub does_to : {k f l : ℕ} {s : Spot} {q q1 q2 : Queues} {text : List ℕ} {c : Came} → q1 ≡ q2 → Does setup p by_a body m k f l s q text c q1 → Does setup p by_a body m k f l s q text c q2
  does_to {k} {f} {l} {s} {q} {text = text} {c = c} e x = subst (λ (z : Queues). Does setup p by_a body m k f l s q text c z) e x

  pub does_both : {k k' f f' l l' : ℕ} {s t : Spot} {q q1 q2 : Queues} {text text' : List ℕ} {c : Came} → Does setup p by_a body m k f l s q text (Arrives t) q1 → Does setup p by_a body m k' f' l' t q1 text' c q2 → Does setup p by_a body m (k + k') (f + f') (l + l') s q (text ++ text') c q2
  does_both {k' = k'} {f' = f'} {l' = l'} here y = does_same (omega arith) (omega arith) (omega arith) refl y
  does_both {k' = k'} {f' = f'} {l' = l'} {text' = text'} (on {k = k} {f = f} {g = g} {l = l} {n = n} {uses = uses} {text = text} move grant fit rest) y =
      does_same (omega arith) (omega arith) (omega arith) (sym (append_assoc (texts uses) text text')) (on move grant fit (does_both rest y))

  -- one move
  pub does_one : {f l : ℕ} {s t : Spot} {q q1 : Queues} {uses : List Use} → Moves p by_a setup.memory body l s uses (Arrives t) → Grants setup.depths (side by_a) m f q uses q1 → AllByRecursion (IsFit setup.memory) uses → Does setup p by_a body m (weight s) f l s q (texts uses) (Arrives t) q1
  does_one {f} {l} {uses = uses} move grant fit = does_same (omega arith) (omega arith) (omega arith) (append-nil (texts uses)) (on move grant fit here)
