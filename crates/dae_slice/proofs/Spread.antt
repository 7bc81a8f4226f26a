-- Graphs in which some marks have been spread.
use Rattle.std.proofs.Common.{◌≡◌, ◌↔◌, ℕ, true, [], ◌∷◌, ◌++◌, ◌∙◌}
use Rattle.dae_base.proofs.Laws.{all_join}
use Rattle.dae_slice.specs.Graphs.{Family, exists, marked, AreIn, Keeps, IsSettled, Settles, IsLeastKept}
use Rattle.dae_slice.specs.declared.graph.SliceNode.{SliceNode}
use Rattle.dae_slice.specs.declared.graph.Graph.{Graph}
use Rattle.dae_slice.proofs.Lists.{all_front, all_back}

-- the same is kept, and what is marked has handed on its links
pub record SpreadsFrom (old new : Graph) : Type 0 where
  pub exists : (f v : ℕ) → exists new f v ≡ exists old f v
  pub keeps : (c : Family) → Keeps new c ↔ Keeps old c
  pub settled : IsSettled new

-- one variable has been taken from the work
module _ (old now taken : Graph) (n : SliceNode) (so_far : SpreadsFrom old now) (rows : taken.rows ≡ now.rows) (work : now.work.items ≡ taken.work.items ++ n ∷ []) where
  taken_keeps : (c : Family) → Keeps taken c → c n.function n.variable ≡ true → Keeps now c
  taken_keeps c k i = record {
    vertices = rw (← rows) k.vertices;
    work = rw work (all_join _ taken.work.items (n ∷ []) k.work (i, tt));
  }

  now_keeps : (c : Family) → Keeps now c → Keeps taken c × (c n.function n.variable ≡ true)
  now_keeps c k =
      let all : AreIn c (taken.work.items ++ n ∷ []) = rw work at k.work in
      (record { vertices = rw rows k.vertices; work = all_front _ taken.work.items (n ∷ []) all }, (all_back _ taken.work.items (n ∷ []) all).0)

  pub node_there : Keeps old (exists old) → exists taken n.function n.variable ≡ true
  node_there range =
      let k = now_keeps (exists old) ((so_far.keeps (exists old)).1 range) in
      rw rows (so_far.exists n.function n.variable ∙ k.1)

  pub spread_next : (new : Graph) → Settles n taken new → SpreadsFrom old new
  spread_next new s = record {
    exists = λ f v. s.exists f v ∙ rw rows (so_far.exists f v);
    keeps = λ c. (
      λ k. let p = (s.keeps c).0 k in (so_far.keeps c).0 (taken_keeps c p.0 p.1),
      λ k. (s.keeps c).1 (now_keeps c ((so_far.keeps c).1 k)),
    );
    settled = s.settled (rw rows so_far.settled);
  }

pub spread_done : (old now : Graph) → SpreadsFrom old now → now.work.items ≡ [] → IsLeastKept old (marked now)
spread_done old now s none = record {
  kept = (s.keeps (marked now)).0 (record {
    vertices = λ f v. record { needed = λ m. m; sources = λ m. rw (s.settled f v m) tt };
    work = rw none tt;
  });
  least = λ c k f v m. (((s.keeps c).1 k).vertices f v).needed m;
}
