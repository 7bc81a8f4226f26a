-- What the guard says of a pair, and when each answer is due.
use Rattle.std.specs.Prelude.{◌≡◌, ℕ, List, length, Option, Some, None}
use Rattle.std.specs.List.{All}
use Rattle.dae_base.specs.declared.Depths.{Depths}
use Rattle.dae_base.specs.Budgets.{depth, first_below}
use Rattle.dae_image.specs.declared.Image.{Image}
use Rattle.dae_certificate.specs.declared.SideNode.{SideNode}
use Rattle.dae_certificate.specs.declared.CertificateNode.{CertificateNode}
use Rattle.dae_certificate.specs.Certificates.{Certifies, IsBadLine}
use Rattle.dae_guard.specs.Walk.{Verdict, guarded}
use Rattle.dae_guard.specs.Walk as walks
use Rattle.dae_guard_walk.specs.declared.walking.Walked.{Walked}
use Rattle.dae_guard_walk.specs.declared.walking.Walked.TheVariants.{Ends, Halts, Passes}
use Rattle.dae_guard_walk.specs.declared.guarding.GuardAnswer.{GuardAnswer}
use Rattle.dae_guard_walk.specs.declared.guarding.GuardAnswer.TheVariants.{Yes, Depth, BadLine, NoStep, TooLong, Memory}
use Rattle.dae_guard.specs.Kept.{AreProper}

-- ---- certificates

-- a side of a certificate's node, as the walk needs it
pub record KnownHolds (s : SideNode) : Type 0 where
  pub count : length s.registers ≡ 28
  pub proper : AreProper s.registers

pub record BothHold (k : CertificateNode) : Type 0 where
  pub a : KnownHolds k.a
  pub e : KnownHolds k.e

abbrev pub AreKnown : List CertificateNode → Type 0
AreKnown certificate = All BothHold certificate

-- ---- walks

abbrev pub walked_of : Walked → walks.Walked
walked_of Ends = walks.Ends
walked_of (Halts a e) = walks.Halts a e
walked_of Passes = walks.Passes

-- what a walk that doesn't end well says
abbrev pub told_of : ℕ → Walked → Option GuardAnswer
told_of start Ends = None
told_of start (Halts a e) = Some (NoStep start a e)
told_of start Passes = Some (TooLong start)

-- the answer of the walks
abbrev pub says : GuardAnswer → Verdict → Type 0
says Yes v = v ≡ walks.Yes
says (Depth queue needs has) v = ⊥
says (BadLine number) v = ⊥
says (NoStep start a e) v = v ≡ walks.NoStep start a e
says (TooLong start) v = v ≡ walks.TooLong start
says Memory v = ⊥

-- ---- answers

-- the depths reach the budget, the text is a certificate, and the walks come to this
abbrev pub ComesTo : Image → Depths → List ℕ → Verdict → Type 0
ComesTo image depths text verdict =
    (first_below depths image.budget ≡ None)
    × ((nodes : List CertificateNode) × Certifies text nodes × (guarded image depths nodes ≡ verdict))

-- when an answer is due: the first queue whose depth is below the budget, with both; the first line
-- that may not stand there; what the walks come to; and at any time that memory was wanting
abbrev pub Due : Image → Depths → List ℕ → GuardAnswer → Type 0
Due image depths text (Depth queue needs has) =
    (first_below depths image.budget ≡ Some queue)
    × (needs ≡ depth queue image.budget) × (has ≡ depth queue depths)
Due image depths text (BadLine number) =
    (first_below depths image.budget ≡ None) × IsBadLine text number
Due image depths text (NoStep start a e) = ComesTo image depths text (walks.NoStep start a e)
Due image depths text (TooLong start) = ComesTo image depths text (walks.TooLong start)
Due image depths text Yes = ComesTo image depths text walks.Yes
Due image depths text Memory = Unit {0}
