-- Of texts without tokens or without a tree one cause is told.
use Rattle.std.proofs.Common.{◌≡◌, ◌≢◌, ◌⊎◌, inl, inr, ℕ, List, refl, ap}
use Rattle.dae_accept.specs.Once.{AreCutFirst, AreCutOnce, AreParsedOnce}
use Rattle.dae_accept.specs.Accepted.{HaveTrees, IsRefusedFor}
use Rattle.dae_accept.specs.declared.error.CompileError.{CompileError}
use Rattle.dae_accept.specs.declared.error.CompileError.TheVariants as errors

pub one_cause : AreCutOnce → AreParsedOnce → AreCutFirst → (d e : CompileError) (texts : List (List ℕ)) (memory : ℕ)
    → IsRefusedFor texts memory d → IsRefusedFor texts memory e → d ≢ errors.Memory → e ≢ errors.Memory → (d ≡ e) ⊎ HaveTrees texts
one_cause cut parsed first (errors.Rule b) e texts memory h k m n = inr (h.files, h.read)
one_cause cut parsed first (errors.Join j) e texts memory h k m n = inr (h.files, h.read)
one_cause cut parsed first errors.Memory e texts memory h k m n = absurd (m refl)
one_cause cut parsed first (errors.Lex d) (errors.Lex e) texts memory h k m n = inl (ap errors.Lex (cut texts d e h k))
one_cause cut parsed first (errors.Lex d) (errors.Tree e) texts memory h k m n = absurd (first texts d e h k)
one_cause cut parsed first (errors.Lex d) (errors.Rule b) texts memory h k m n = inr (k.files, k.read)
one_cause cut parsed first (errors.Lex d) (errors.Join j) texts memory h k m n = inr (k.files, k.read)
one_cause cut parsed first (errors.Lex d) errors.Memory texts memory h k m n = absurd (n refl)
one_cause cut parsed first (errors.Tree d) (errors.Lex e) texts memory h k m n = absurd (first texts e d k h)
one_cause cut parsed first (errors.Tree d) (errors.Tree e) texts memory h k m n = inl (ap errors.Tree (parsed texts d e h k))
one_cause cut parsed first (errors.Tree d) (errors.Rule b) texts memory h k m n = inr (k.files, k.read)
one_cause cut parsed first (errors.Tree d) (errors.Join j) texts memory h k m n = inr (k.files, k.read)
one_cause cut parsed first (errors.Tree d) errors.Memory texts memory h k m n = absurd (n refl)
