-- The nodes of a certificate as the walk needs them, and when each answer is due.
use Rattle.std.proofs.Common.{◌≡◌, ℕ, zero, suc, ◌+◌, ◌<◌, ◌≤◌, ◌^◌, Bool, true, false, List, [], ◌∷◌, ◌++◌, length, map, drop, get_or, add-one, ◌⊎◌, inl, inr, refl, ap, sym, ◌∙◌, subst, arith}
use Rattle.std.specs.Prelude.{Option, Some, None, nat_lt, replicate, slice_set}
use Rattle.std.specs.List.{All, AllByRecursion}
use Rattle.std.proofs.lemmas.Bool.Decides.{nat_tests}
use Rattle.std.proofs.lemmas.List.{at_drop_all, length-append, length-set}
use Rattle.std.proofs.Math.Seq.{drop-cons}
use Rattle.std.proofs.lemmas.List.Elements.{All-cons, All-set, All-from_recursion}
use Rattle.dae_base.specs.declared.Side.{Side}
use Rattle.dae_base.specs.declared.Side.TheVariants.{A, E}
use Rattle.dae_base.specs.declared.Depths.{Depths}
use Rattle.dae_base.specs.Budgets.{first_below}
use Rattle.dae_image.specs.declared.Image.{Image}
use Rattle.dae_ranges.specs.declared.Range.{Range}
use Rattle.dae_ranges.specs.Ranges.{single, any_word}
use Rattle.dae_certificate.specs.declared.SideNode.{SideNode}
use Rattle.dae_certificate.specs.declared.CertificateNode.{CertificateNode}
use Rattle.dae_certificate.specs.declared.lines.NamedRange.{NamedRange}
use Rattle.dae_certificate.specs.declared.lines.CertificateLine.{CertificateLine}
use Rattle.dae_certificate.specs.declared.lines.CertificateLine.TheVariants.{Node, Register}
use Rattle.dae_certificate.specs.Lines.{IsLine, IsNamed, IsRange, may_follow, node_count}
use Rattle.dae_certificate.specs.Certificates.{AreLines, Certifies, nodes_of, open_node, open_side, with_last, with_named, with_on, with_register}
use Rattle.dae_guard.specs.Nodes.{known_node}
use Rattle.dae_guard.specs.Walk as walks
use Rattle.dae_guard.specs.Walk.{Verdict, guarded, verdict, verdict_of, walk_start, opened_node, terms_of}
use Rattle.dae_guard.specs.Moves.{Terms}
use Rattle.dae_guard_walk.specs.declared.walking.Walked.{Walked}
use Rattle.dae_guard_walk.specs.declared.walking.Walked.TheVariants.{Ends, Halts, Passes}
use Rattle.dae_guard_walk.specs.declared.guarding.GuardAnswer.{GuardAnswer}
use Rattle.dae_guard_walk.specs.declared.guarding.GuardAnswer.TheVariants.{Yes, Depth, BadLine, NoStep, TooLong, Memory}
use Rattle.dae_guard_walk.specs.Visits.{IsAnswer, left}
use Rattle.dae_guard.specs.Kept.{AreProper, IsProper}
use Rattle.dae_guard_walk.specs.Answers.{AreKnown, BothHold, ComesTo, Due, KnownHolds, says, told_of, walked_of}
use Rattle.dae_guard_walk.proofs.WalkLaws.{no_some}
use Rattle.dae_guard_walk.proofs.ProperLaws.{proper_any, proper_replicate, proper_zero}

-- ---- how many nodes

pub few_nodes : (lines : List CertificateLine) → AreLines lines → node_count lines ≤ 64
few_nodes [] h = omega arith
few_nodes (Node a e ∷ before) h = let m = h.1 in let l : node_count before < 64 = grind (arith, nat_tests) in omega arith
few_nodes (Register n ∷ before) h = few_nodes before h.2

length_last : {X : Type 0} (f : X → X) (xs : List X) → length (with_last f xs) ≡ length xs
length_last f [] = refl
length_last f (x ∷ []) = refl
length_last f (x ∷ (y ∷ ys)) = ap suc (length_last f (y ∷ ys))

counted : (lines : List CertificateLine) → length (nodes_of lines) ≡ node_count lines
counted [] = refl
counted (Node a e ∷ before) = let l = length-append (nodes_of before) (open_node a e ∷ []) in let r = counted before in omega arith
counted (Register n ∷ before) = length_last (with_named n) (nodes_of before) ∙ counted before

pub few_known : (text : List ℕ) (nodes : List CertificateNode) → Certifies text nodes → length nodes ≤ 64
few_known text nodes h = let f = few_nodes h.lines h.spells.are in let c = counted h.lines in let e = ap length h.are_nodes in omega arith

-- ---- their ranges

proper_range : (r : Range) → IsRange r → IsProper r
proper_range r h = record { steps = h.steps; words = h.greatest }

open_holds : (c : Option ℕ) → KnownHolds (open_side c)
open_holds c = record { count = refl; proper = All-cons IsProper (single 0) (replicate 27 any_word) proper_zero (proper_replicate 27 any_word proper_any) }

with_holds : (r : ℕ) (range : Range) (s : SideNode) → IsProper range → KnownHolds s → KnownHolds (with_register r range s)
with_holds r range s p h = record { count = length-set s.registers r range ∙ h.count; proper = All-set IsProper s.registers r range p h.proper }

named_holds : (n : NamedRange) (k : CertificateNode) → IsNamed n → BothHold k → BothHold (with_named n k)
named_holds n k p h = by n.side
  where
    by : (s : Side) → BothHold (with_on s n.register n.range k)
    by A = record { a = with_holds n.register n.range k.a (proper_range n.range p.range) h.a; e = h.e }
    by E = record { a = h.a; e = with_holds n.register n.range k.e (proper_range n.range p.range) h.e }

holds_more : (ks : List CertificateNode) (k : CertificateNode) → AllByRecursion BothHold ks → BothHold k → AllByRecursion BothHold (ks ++ k ∷ [])
holds_more [] k h l = (l, tt)
holds_more (x ∷ ks) k h l = (h.0, holds_more ks k h.1 l)

holds_last : (f : CertificateNode → CertificateNode) (ks : List CertificateNode) → ((k : CertificateNode) → BothHold k → BothHold (f k)) → AllByRecursion BothHold ks → AllByRecursion BothHold (with_last f ks)
holds_last f [] g h = tt
holds_last f (k ∷ []) g h = (g k h.0, tt)
holds_last f (k ∷ (l ∷ ks)) g h = (h.0, holds_last f (l ∷ ks) g h.1)

nodes_hold : (lines : List CertificateLine) → AreLines lines → AllByRecursion BothHold (nodes_of lines)
nodes_hold [] h = tt
nodes_hold (Node a e ∷ before) h = holds_more (nodes_of before) (open_node a e) (nodes_hold before h.2) (record { a = open_holds a; e = open_holds e })
nodes_hold (Register n ∷ before) h = holds_last (with_named n) (nodes_of before) (λ k b. named_holds n k h.0 b) (nodes_hold before h.2)

pub all_known : (text : List ℕ) (nodes : List CertificateNode) → Certifies text nodes → AreKnown nodes
all_known text nodes h = All-from_recursion BothHold nodes (subst (AllByRecursion BothHold) (sym h.are_nodes) (nodes_hold h.lines h.spells.are))

-- ---- verdicts

some_is : (x y : GuardAnswer) → Some x ≡ Some y → x ≡ y
some_is x y e = cc

drop_here : (ks : List CertificateNode) (k : ℕ) (d : CertificateNode) → k < length ks → drop k ks ≡ get_or ks k d ∷ drop (suc k) ks
drop_here ks k d l = drop-cons ks k d l

drop_past : (ks : List CertificateNode) (k : ℕ) → length ks ≤ k → drop k ks ≡ []
drop_past ks k l = at_drop_all (λ zs. zs) ks k l

pub says_same : (a : GuardAnswer) (v w : Verdict) → v ≡ w → says a v → says a w
says_same a v w e h = subst (says a) e h

pub first_ends : (image : Image) (depths : Depths) (certificate : List CertificateNode) (w : Walked)
    → walked_of w ≡ walk_start (terms_of image depths) certificate (opened_node image) → told_of 0 w ≡ None
    → left (terms_of image depths) certificate 0 ≡ guarded image depths certificate
unfolding verdict
first_ends image depths certificate Ends e h = rw (sym e) refl
first_ends image depths certificate (Halts a b) e h = absurd cc
first_ends image depths certificate Passes e h = absurd cc

pub first_tells : (image : Image) (depths : Depths) (certificate : List CertificateNode) (w : Walked) (a : GuardAnswer)
    → walked_of w ≡ walk_start (terms_of image depths) certificate (opened_node image) → told_of 0 w ≡ Some a → says a (guarded image depths certificate)
unfolding verdict
first_tells image depths certificate Ends a e h = absurd cc
first_tells image depths certificate (Halts x y) a e h = subst (λ (z : GuardAnswer). says z (guarded image depths certificate)) (some_is (NoStep 0 x y) a h) (rw (sym e) refl)
first_tells image depths certificate Passes a e h = subst (λ (z : GuardAnswer). says z (guarded image depths certificate)) (some_is (TooLong 0) a h) (rw (sym e) refl)

pub later_ends : (t : Terms) (certificate : List CertificateNode) (k : ℕ) (d : CertificateNode) (w : Walked) (v : Verdict) → k < length certificate
    → walked_of w ≡ walk_start t certificate (known_node (get_or certificate k d)) → told_of (suc k) w ≡ None
    → left t certificate k ≡ v → left t certificate (suc k) ≡ v
unfolding verdict
later_ends t certificate k d Ends v l e h m = rw (drop_here certificate k d l, sym e) at m
later_ends t certificate k d (Halts a b) v l e h m = absurd cc
later_ends t certificate k d Passes v l e h m = absurd cc

pub later_tells : (t : Terms) (certificate : List CertificateNode) (k : ℕ) (d : CertificateNode) (w : Walked) (v : Verdict) (a : GuardAnswer) → k < length certificate
    → walked_of w ≡ walk_start t certificate (known_node (get_or certificate k d)) → told_of (suc k) w ≡ Some a
    → left t certificate k ≡ v → says a v
unfolding verdict
later_tells t certificate k d Ends v a l e h m = absurd cc
later_tells t certificate k d (Halts x y) v a l e h m = subst (λ (z : GuardAnswer). says z v) (some_is (NoStep (suc k) x y) a h) (sym (rw (drop_here certificate k d l, sym e) at m))
later_tells t certificate k d Passes v a l e h m = subst (λ (z : GuardAnswer). says z v) (some_is (TooLong (suc k)) a h) (sym (rw (drop_here certificate k d l, sym e) at m))

pub all_end : (t : Terms) (certificate : List CertificateNode) (k : ℕ) (v : Verdict) → length certificate ≤ k → left t certificate k ≡ v → says Yes v
unfolding verdict
all_end t certificate k v l e = sym (rw (drop_past certificate k l) at e)

-- ---- answers

pub due_told : (image : Image) (depths : Depths) (text : List ℕ) (nodes : List CertificateNode) (a : GuardAnswer) → first_below depths image.budget ≡ None → Certifies text nodes
    → says a (guarded image depths nodes) → Due image depths text a
due_told image depths text nodes Yes f c s = (f, (nodes, c, s))
due_told image depths text nodes (Depth q n h) f c s = absurd s
due_told image depths text nodes (BadLine k) f c s = absurd s
due_told image depths text nodes (NoStep k a e) f c s = (f, (nodes, c, s))
due_told image depths text nodes (TooLong k) f c s = (f, (nodes, c, s))
due_told image depths text nodes Memory f c s = absurd s

pub due_answer : (image : Image) (depths : Depths) (text : List ℕ) (nodes : List CertificateNode) (a : GuardAnswer) → first_below depths image.budget ≡ None → Certifies text nodes
    → IsAnswer a (guarded image depths nodes) → Due image depths text a
due_answer image depths text nodes a f c (inl e) = subst (Due image depths text) (sym e) tt
due_answer image depths text nodes a f c (inr s) = due_told image depths text nodes a f c s

-- ---- starts by their numbers

pub ends_at : (t : Terms) (certificate : List CertificateNode) (k : ℕ) (d : CertificateNode) (w : Walked) (o : Option GuardAnswer) (v : Verdict) → k < length certificate
    → walked_of w ≡ walk_start t certificate (known_node (get_or certificate k d)) → o ≡ told_of (k + 1) w → ((a : GuardAnswer) → o ≡ Some a → ⊥)
    → left t certificate k ≡ v → left t certificate (k + 1) ≡ v
ends_at t certificate k d w o v l e h n m = rw add-one (later_ends t certificate k d w v l e (subst (λ (j : ℕ). told_of j w ≡ None) (add-one k) (sym h ∙ no_some o n)) m)

pub tells_at : (t : Terms) (certificate : List CertificateNode) (k : ℕ) (d : CertificateNode) (w : Walked) (v : Verdict) (a : GuardAnswer) → k < length certificate
    → walked_of w ≡ walk_start t certificate (known_node (get_or certificate k d)) → Some a ≡ told_of (k + 1) w
    → left t certificate k ≡ v → says a v
tells_at t certificate k d w v a l e h m = later_tells t certificate k d w v a l e (subst (λ (j : ℕ). told_of j w ≡ Some a) (add-one k) (sym h)) m
