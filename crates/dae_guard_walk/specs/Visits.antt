-- What a visit of one node of the walk comes to, and what is left of the verdict.
use Rattle.std.specs.Prelude.{◌≡◌, ◌⊎◌, ℕ, suc, true, List, map, drop, Option, Some, None}
use Rattle.dae_certificate.specs.declared.CertificateNode.{CertificateNode}
use Rattle.dae_guard.specs.Sets.{Node}
use Rattle.dae_guard.specs.Nodes.{known_node}
use Rattle.dae_guard.specs.Moves.{Terms}
use Rattle.dae_guard.specs.Walk as walks
use Rattle.dae_guard.specs.Walk.{Verdict, verdict}
use Rattle.dae_guard_walk.specs.declared.walking.Walked.{Walked}
use Rattle.dae_guard_walk.specs.Answers.{says, walked_of}
use Rattle.dae_guard_walk.specs.declared.guarding.GuardAnswer.{GuardAnswer}
use Rattle.dae_guard_walk.specs.declared.guarding.GuardAnswer.TheVariants.{Memory}
use Rattle.dae_guard_walk.specs.Steps.{GoesOn}

-- the nodes behind one were put on the stack, or the walk halts there
abbrev pub WentOn : Option Walked → Node → Option (List Node) → List Node → List Node → Type 0
WentOn None n o old new = GoesOn true o old new
WentOn (Some w) n o old new =
    (o ≡ None) × (walked_of w ≡ walks.Halts n.a.counter n.e.counter)

-- the walk is what is left of it, or ends so
abbrev pub Visits : Option Walked → walks.Walked → walks.Walked → Type 0
Visits None whole rest = rest ≡ whole
Visits (Some w) whole rest = walked_of w ≡ whole

-- a visit leaves a walk of the nodes on the stack after it, or ends the walk of those before it
abbrev pub IsVisit : Terms → List CertificateNode → Option Walked → (before after : List Node) → Type 0
IsVisit t certificate visited before after =
    (fuel : ℕ) → Visits visited (walks.walk t certificate (suc fuel) before) (walks.walk t certificate fuel after)

-- what is left of the verdict, from the start of this number on
abbrev pub left : Terms → List CertificateNode → ℕ → Verdict
left t certificate k = verdict t certificate (suc k) (map known_node (drop k certificate))

-- memory was wanting, or the walks say so
abbrev pub IsAnswer : GuardAnswer → Verdict → Type 0
IsAnswer a v = (a ≡ Memory) ⊎ says a v
