-- A commit of the word that goes in where a take would give 0, for one of any other access.
use Rattle.std.proofs.Common.{◌≡◌, ℕ, refl, ap}
use Rattle.std.specs.Prelude.{Option}
use Rattle.dae_base.specs.declared.Queue.{Queue}
use Rattle.dae_encode.specs.declared.QueueUse.{QueueUse}
use Rattle.dae_encode.specs.declared.QueueUse.TheVariants.{Nothing, Take, Push, Load, StoreAddress}
use Rattle.dae_core.specs.Moves.{offered_by}

-- two words make one commit where they are the same unless the access takes one
pub commits_alike : {Q : Type 0} (front : Q → Queue → Option ℕ) (after : Q → QueueUse → ℕ → Q) → ((q : Q) (k : Queue) (v w : ℕ) → after q (Take k) v ≡ after q (Take k) w) → (q : Q) (u : QueueUse) (v w : ℕ) → (offered_by front q u ≡ 0 → v ≡ w) → after q u v ≡ after q u w
commits_alike front after law q (Take k) v w h = law q k v w
commits_alike front after law q Nothing v w h = ap (after q Nothing) (h refl)
commits_alike front after law q (Push k) v w h = ap (after q (Push k)) (h refl)
commits_alike front after law q (Load k kind) v w h = ap (after q (Load k kind)) (h refl)
commits_alike front after law q (StoreAddress width) v w h = ap (after q (StoreAddress width)) (h refl)
