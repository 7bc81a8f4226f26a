-- Steps that grow at their end.
use Rattle.std.proofs.Common.{◌≡◌, ℕ, ◌+◌, ◌<◌, ◌≤◌, List, [], ◌∷◌, ◌++◌, length, get_or, drop, ap, sym, ◌∙◌}
use Rattle.std.proofs.lemmas.List.{drop_all, drop_more}
use Rattle.dae_ir.specs.Streams.{Actions, onto, step_onto, parts}
use Rattle.dae_ir.specs.declared.stream.Part.{Part}
use Rattle.dae_ir.specs.declared.stream.Step.{Step}
use Rattle.dae_ir.proofs.Laws.{onto_push}
use Rattle.dae_split.specs.Making.{Adds}

pub pushed : (xs ys : List Step) (s : Step) (k : Actions) → ys ≡ xs ++ s ∷ [] → onto ys k ≡ onto xs (step_onto s k)
pushed xs ys s k e = ap (λ (l : List Step). onto l k) e ∙ onto_push xs s k

-- the parts so far are there, and whatever follows
abbrev pub AddsUpTo : (Part → Actions → Actions) → List Part → ℕ → List Step → List Step → Type 0
AddsUpTo f g i start now = (k : Actions) → onto now (parts f (drop i g) k) ≡ onto start (parts f g k)

pub parts_preserved : (f : Part → Actions → Actions) (g : List Part) (i : ℕ) (d : Part) (start now next : List Step) → i < length g → Adds (f (get_or g i d)) now next → AddsUpTo f g i start now → AddsUpTo f g (i + 1) start next
parts_preserved f g i d start now next lt h so_far k =
    h (parts f (drop (i + 1) g) k) ∙ ap (λ (l : List Part). onto now (parts f l k)) (sym (drop_more g i d lt)) ∙ so_far k

pub parts_done : (f : Part → Actions → Actions) (g : List Part) (i : ℕ) (start now : List Step) → length g ≤ i → AddsUpTo f g i start now → Adds (parts f g) start now
parts_done f g i start now le so_far k = ap (λ (l : List Part). onto now (parts f l k)) (sym (drop_all i g le)) ∙ so_far k
