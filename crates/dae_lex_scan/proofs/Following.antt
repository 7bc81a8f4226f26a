-- Pieces that follow each other, with one more behind them.
use Rattle.std.proofs.Common.{ℕ, ◌<◌, ◌≤◌, List, [], ◌∷◌, ◌++◌, arith}
use Rattle.dae_tree.specs.Pieces.{Cut}
use Rattle.dae_lex_scan.specs.Cuts.{FollowEachOther}

pub follow_push : (e : ℕ) (ps : List Cut) (b : ℕ) (p : Cut) → FollowEachOther e ps b → b ≤ p.start → p.start < p.end → FollowEachOther e (ps ++ p ∷ []) p.end
follow_push e [] b p h k l = (omega arith, l, omega arith)
follow_push e (q ∷ qs) b p h k l = (h.0, h.1, follow_push q.end qs b p h.2 k l)

pub follow_wider : (e : ℕ) (ps : List Cut) (b c : ℕ) → FollowEachOther e ps b → b ≤ c → FollowEachOther e ps c
follow_wider e [] b c h k = omega arith
follow_wider e (p ∷ ps) b c h k = (h.0, h.1, follow_wider p.end ps b c h.2 k)
