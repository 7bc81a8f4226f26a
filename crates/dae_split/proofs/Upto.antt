-- The steps of a list of statements, as far as it is walked.
use Rattle.std.proofs.Common.{◌≡◌, ℕ, ◌+◌, ◌<◌, ◌≤◌, Bool, true, false, List, [], length, get_or, drop, refl, ap, sym, ◌∙◌}
use Rattle.std.proofs.lemmas.List.{drop_all}
use Rattle.dae_base.proofs.Laws.{drop_at}
use Rattle.dae_ir.specs.Code.{Done}
use Rattle.dae_ir.specs.Form.{Form, before, form_of}
use Rattle.dae_ir.specs.Classes.{Classes}
use Rattle.dae_ir.specs.Rounds.{Rounds, rounds, closed}
use Rattle.dae_ir.specs.Streams.{onto}
use Rattle.dae_ir.specs.declared.form.Statement.{Statement}
use Rattle.dae_ir.specs.declared.stream.Part.{Part}
use Rattle.dae_ir.specs.declared.stream.Step.{Step}
use Rattle.dae_split.specs.Making.{projected, Makes}

projected_end : (outside by_a : Bool) (of : ℕ → Classes) (c : Classes) (cap n : ℕ) → projected outside by_a of c cap n Done ≡ Done
projected_end true by_a of c cap n = refl
projected_end false by_a of c cap n = refl

module _ (outside by_a : Bool) (of : ℕ → Classes) (c : Classes) (cap : ℕ) (body : List Statement) (i : ℕ) (og : List Part) (os ns : List Step) (on nn : ℕ)
    (so_far : Makes (projected outside by_a of c cap) [] 0 os on (rounds c cap outside (form_of (drop i body)) og) (rounds c cap outside (form_of body) [])) where
  pub one_more : (s : Statement) (ng : List Part) → i < length body → s ≡ get_or body i s
      → ((k : Form) → Makes (projected outside by_a of c cap) os on ns nn (rounds c cap outside k ng) (rounds c cap outside (before s k) og))
      → Makes (projected outside by_a of c cap) [] 0 ns nn (rounds c cap outside (form_of (drop (i + 1) body)) ng) (rounds c cap outside (form_of body) [])
  one_more s ng lt is step =
      step (form_of (drop (i + 1) body))
      ∙ ap (λ (l : List Statement). onto os (projected outside by_a of c cap on (rounds c cap outside (form_of l) og))) (sym (drop_at body i s lt is))
      ∙ so_far

  pub all_made : length body ≤ i → ((o : Bool) (k : Rounds) → Makes (projected o by_a of c cap) os on ns nn k (closed og k))
      → onto ns Done ≡ projected outside by_a of c cap 0 (rounds c cap outside (form_of body) [])
  all_made le close =
      ap (onto ns) (sym (projected_end outside by_a of c cap nn))
      ∙ close outside Done
      ∙ ap (λ (l : List Statement). onto os (projected outside by_a of c cap on (rounds c cap outside (form_of l) og))) (sym (drop_all i body le))
      ∙ so_far
