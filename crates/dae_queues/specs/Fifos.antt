-- A queue of items, as its list and its depth.
use Rattle.std.specs.Prelude.{◌≡◌, ℕ, true, List, [], ◌∷◌, ◌++◌, is_some, refl}
use Rattle.std.proofs.Common.{sym}
use Rattle.std.proofs.lemmas.Bool.{true≢false}
use Rattle.dae_queues.specs.Lists.{first, rest}

-- what waits, oldest first, and how much may wait
pub record BoundedQueue (X : Type 0) : Type 0 where
  pub held : List X
  pub depth : ℕ

module _ {X : Type 0} where
  abbrev pub with_item : X → BoundedQueue X → BoundedQueue X
  with_item x q = record { held = q.held ++ x ∷ []; depth = q.depth }

  abbrev pub without_item : BoundedQueue X → BoundedQueue X
  without_item q = record { held = rest q.held; depth = q.depth }

  -- a push and a take commute on a queue that has an item
  pub ends : (x : X) (xs : List X) (d : ℕ) → is_some (first xs) ≡ true → without_item (with_item x (record { held = xs; depth = d })) ≡ with_item x (without_item (record { held = xs; depth = d }))
  ends x [] d h = absurd (true≢false (sym h))
  ends x (y ∷ ys) d h = refl
