-- The typed files of several files, in order, and the first broken rule.
use Rattle.std.proofs.Common.{ℕ, ◌+◌, ◌≤◌, List, [], ◌++◌, length, drop, sym, subst, append-nil}
use Rattle.std.proofs.lemmas.List.{drop_all}
use Rattle.dae_tree.specs.Files.{FileContents}
use Rattle.dae_types_kinds.specs.declared.rules.Breach.{Breach}
use Rattle.dae_types_typed.specs.declared.files.FileParts.{FileParts}
use Rattle.dae_accept.specs.Accepted.{AreTyped, IsFirstBroken}

-- so far there are these, and with those of the files from an index on they are all; a broken rule of those is one of all
pub record Starts (fs : List FileContents) (i : ℕ) (typed : List FileParts) : Type 0 where
  pub ends : (rest : List FileParts) → AreTyped (drop i fs) rest → AreTyped fs (typed ++ rest)
  pub stops : (b : Breach) → IsFirstBroken (drop i fs) b → IsFirstBroken fs b

pub last_typed : (fs : List FileContents) (i : ℕ) (typed : List FileParts) → length fs ≤ i → Starts fs i typed → AreTyped fs typed
last_typed fs i typed le h =
    subst (λ (ts : List FileParts). AreTyped fs ts) (append-nil typed)
    (h.ends [] (subst (λ (xs : List FileContents). AreTyped xs []) (sym (drop_all i fs le)) tt))
