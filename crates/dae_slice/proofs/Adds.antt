-- What graphs keep besides, put together.
use Rattle.std.proofs.Common.{◌↔◌, true, refl, ◌∙◌}
use Rattle.dae_slice.specs.Graphs.{Family, IsLike, Adds}
use Rattle.dae_slice.specs.declared.graph.Graph.{Graph}

pub like_same : (g : Graph) → IsLike g g
like_same g = record { exists = λ f v. refl; marked = λ f v. refl }

pub like_both : (a b c : Graph) → IsLike a b → IsLike b c → IsLike a c
like_both a b c h k = record { exists = λ f v. k.exists f v ∙ h.exists f v; marked = λ f v. k.marked f v ∙ h.marked f v }

-- nothing is added that would not hold
pub adds_none : (P : Family → Type 0) (g : Graph) → ((c : Family) → P c) → Adds P g g
adds_none P g h = record { like = like_same g; keeps = λ c. (λ k. (k, h c), λ p. p.0) }

pub adds_both : (P Q : Family → Type 0) (a b c : Graph) → Adds P a b → Adds Q b c → Adds (λ s. P s × Q s) a c
adds_both P Q a b c h k = record {
  like = like_both a b c h.like k.like;
  keeps = λ s. (
    λ x. let y = (k.keeps s).0 x in let z = (h.keeps s).0 y.0 in (z.0, (z.1, y.1)),
    λ x. (k.keeps s).1 ((h.keeps s).1 (x.0, x.1.0), x.1.1),
  );
}

pub adds_as : (P Q : Family → Type 0) (a b : Graph) → ((c : Family) → P c ↔ Q c) → Adds P a b → Adds Q a b
adds_as P Q a b e h = record {
  like = h.like;
  keeps = λ s. (λ x. let y = (h.keeps s).0 x in (y.0, (e s).0 y.1), λ x. (h.keeps s).1 (x.0, (e s).1 x.1));
}

-- ---- tests that are both true
