-- The walk of the checker, and what it answers.
use Rattle.std.specs.Prelude.{ℕ, zero, suc, if◌then◌else◌, List, [], ◌∷◌, ◌++◌, map, replicate, Option, Some, None}
use Rattle.dae_base.specs.declared.Depths.{Depths}
use Rattle.dae_image.specs.declared.Image.{Image}
use Rattle.dae_machine.specs.Opened.{setup_of}
use Rattle.dae_ranges.specs.Ranges.{single}
use Rattle.dae_certificate.specs.declared.SideNode.{SideNode}
use Rattle.dae_guard.specs.Sets.{Node}
use Rattle.dae_certificate.specs.declared.CertificateNode.{CertificateNode}
use Rattle.dae_guard.specs.Nodes.{nothing_waits, is_final, is_covered, known_node}
use Rattle.dae_guard.specs.Moves.{Terms, next_nodes}

abbrev pub terms_of : Image → Depths → Terms
terms_of image depths = record {
  setup = setup_of image depths;
  private_a = image.private_a;
  private_e = image.private_e;
}

abbrev pub opened_side : ℕ → SideNode
opened_side entry = record { counter = Some entry; registers = replicate 28 (single 0) }

abbrev pub opened_node : Image → Node
opened_node image = record {
  a = opened_side image.entry_a;
  e = opened_side image.entry_e;
  waiting = nothing_waits;
}

-- how a walk ends: at final and covered nodes alone, at a node without a sure pick, or after too
-- many nodes
pub data Walked : Type 0 where
  Ends : Walked
  Halts : (a e : Option ℕ) → Walked
  Passes : Walked

-- the nodes ahead are walked in their order, and those behind each of them before the others; so
-- many may be walked
abbrev pub after_next : Node → Option (List Node) → (List Node → Walked) → Walked
after_next n None go = Halts n.a.counter n.e.counter
after_next n (Some ns) go = go ns

unfoldable pub walk : Terms → List CertificateNode → ℕ → List Node → Walked
walk t certificate fuel [] = Ends
walk t certificate zero (n ∷ ahead) = Passes
walk t certificate (suc fuel) (n ∷ ahead) =
    if is_final n then walk t certificate fuel ahead
    else (if is_covered certificate n then walk t certificate fuel ahead
    else after_next n (next_nodes t n) (λ ns. walk t certificate fuel (ns ++ ahead)))

-- a start, which is walked first and isn't asked whether it is covered
abbrev pub walk_start : Terms → List CertificateNode → Node → Walked
walk_start t certificate n =
    if is_final n then Ends
    else after_next n (next_nodes t n) (λ ns. walk t certificate 9999 ns)

-- what the walks from all starts come to: the first that doesn't end well, with its number
pub data Verdict : Type 0 where
  Yes : Verdict
  NoStep : (start : ℕ) (a e : Option ℕ) → Verdict
  TooLong : (start : ℕ) → Verdict

abbrev pub verdict_of : ℕ → Walked → Verdict → Verdict
verdict_of k Ends others = others
verdict_of k (Halts a e) others = NoStep k a e
verdict_of k Passes others = TooLong k

unfoldable pub verdict : Terms → List CertificateNode → ℕ → List Node → Verdict
verdict t certificate k [] = Yes
verdict t certificate k (n ∷ ns) =
    verdict_of k (walk_start t certificate n) (verdict t certificate (suc k) ns)

-- the walks from the opened node and from the certificate's nodes
abbrev pub guarded : Image → Depths → List CertificateNode → Verdict
guarded image depths certificate =
    verdict (terms_of image depths) certificate 0
    (opened_node image ∷ map known_node certificate)
