-- Where all walks end well, no run is stuck, whatever common memory holds.
use Rattle.std.proofs.Common.{◌≡◌, ℕ, zero, suc, ◌<◌, ◌^◌, ◌⊎◌, inl, inr, Bool, true, false, List, [], ◌∷◌, map, replicate, refl, arith}
use Rattle.std.specs.Prelude.{Option, Some, None, if◌then◌else◌, slice_index}
use Rattle.std.proofs.lemmas.List.{length-replicate}
use Rattle.std.proofs.lemmas.List.Elements.{recursion_from_All}
use Rattle.dae_base.specs.declared.Depths.{Depths}
use Rattle.dae_base.specs.Words.{AreBytes}
use Rattle.dae_base.proofs.Laws.{zero_bytes}
use Rattle.dae_image.specs.declared.Image.{Image}
use Rattle.dae_core.specs.Queues.{empty_queues}
use Rattle.dae_machine.specs.Memory.{QueuesCount}
use Rattle.dae_machine.specs.Machine.{State, step, IsFinal}
use Rattle.dae_core.specs.Held.{fresh}
use Rattle.dae_machine.specs.Opened.{opened}
use Rattle.dae_guard.specs.Never.{NeverStuck}
use Rattle.dae_machine.proofs.LawsOfRuns.{run-step}
use Rattle.dae_ranges.specs.Ranges.{single}
use Rattle.dae_ranges.proofs.Laws.{has_single}
use Rattle.dae_guard.specs.Sets.{Node}
use Rattle.dae_certificate.specs.declared.CertificateNode.{CertificateNode}
use Rattle.dae_guard.specs.Nodes.{known_node, is_final, range_at}
use Rattle.dae_guard.specs.Moves.{Terms, next_nodes}
use Rattle.dae_guard.specs.StandsFor.{IsSide, StandsFor, AnyStands, CodesFit}
use Rattle.dae_guard.specs.Walk.{Walked, Ends, Halts, Passes, walk, walk_start, after_next, Yes, verdict, verdict_of, guarded, terms_of, opened_side, opened_node}
use Rattle.dae_guard.proofs.Never.{Leads, never_stuck}
use Rattle.dae_guard.proofs.Walking.{IsKnown, Sound, goes}
use Rattle.dae_guard.proofs.Steps.{advances}
use Rattle.dae_guard.proofs.Finals.{final_is, covered_is}

pub sound : (t : Terms) (certificate : List CertificateNode) → CodesFit t → Sound t certificate
sound t certificate fit = record {
  final = λ n s h x. final_is t n s h x;
  covered = λ n s h x. covered_is t certificate n s h x;
  next = λ n s ns h x. (let a = advances t n s ns fit h x in (a.pick, a.state, a.steps, a.stands));
}

module _ (t : Terms) (certificate : List CertificateNode) (fit : CodesFit t) (Start : State → Type 0) (known : (s : State) → IsKnown t certificate s → Start s) where
  to_start : (s : State) → IsFinal t.setup s ⊎ IsKnown t certificate s → IsFinal t.setup s ⊎ Start s
  to_start s (inl f) = inl f
  to_start s (inr k) = inr (known s k)

  -- from each state of a start whose walk ends well
  leads_from : (n : Node) (s : State) → walk_start t certificate n ≡ Ends → StandsFor t n s → (IsFinal t.setup s) ⊎ Leads t.setup Start s
  leads_from n s h x = by (is_final n) refl (next_nodes t n) refl h
    where
      by : (b : Bool) → is_final n ≡ b → (o : Option (List Node)) → next_nodes t n ≡ o → (if b then Ends else after_next n o (λ ns. walk t certificate 9999 ns)) ≡ Ends → (IsFinal t.setup s) ⊎ Leads t.setup Start s
      by true e o f h = inl (final_is t n s e x)
      by false e None f h = cc
      by false e (Some ns) f h =
          let a = advances t n s ns fit f x in
          let g = goes t certificate (sound t certificate fit) 9999 ns a.state h a.stands in
          inr (record { picks = a.pick ∷ g.picks; state = g.state; runs = run-step (step t.setup) s a.state g.state a.pick g.picks a.steps g.runs; some = omega arith; to = to_start g.state g.to })

  leads_all : (k : ℕ) (ns : List Node) (s : State) → verdict t certificate k ns ≡ Yes → AnyStands t ns s → (IsFinal t.setup s) ⊎ Leads t.setup Start s
  unfolding verdict
  leads_all k [] s h a = absurd a
  leads_all k (n ∷ ns) s h a = by (walk_start t certificate n) refl h a (λ h a. leads_all (suc k) ns s h a)
    where
      by : (w : Walked) → walk_start t certificate n ≡ w → verdict_of k w (verdict t certificate (suc k) ns) ≡ Yes → StandsFor t n s ⊎ AnyStands t ns s
          → (verdict t certificate (suc k) ns ≡ Yes → AnyStands t ns s → (IsFinal t.setup s) ⊎ Leads t.setup Start s) → (IsFinal t.setup s) ⊎ Leads t.setup Start s
      by Ends e h (inl x) more = leads_from n s e x
      by Ends e h (inr a) more = more h a
      by (Halts a e') e h x more = cc
      by Passes e h x more = cc

-- a start that is final itself leads to itself, by no step, so it has long runs too; the others lead on
pub guarded_leads : (t : Terms) (certificate : List CertificateNode) (first : Node) → CodesFit t → verdict t certificate 0 (first ∷ map known_node certificate) ≡ Yes → (s : State)
    → AnyStands t (first ∷ map known_node certificate) s → (IsFinal t.setup s) ⊎ Leads t.setup (λ s. AnyStands t (first ∷ map known_node certificate) s) s
guarded_leads t certificate first fit h s a = leads_all t certificate fit (λ s. AnyStands t (first ∷ map known_node certificate) s) (λ s k. inr k) 0 (first ∷ map known_node certificate) s h a

-- ---- the opened machine

zero_at : (n r : ℕ) → slice_index (replicate n 0) r ≡ 0
zero_at zero r = refl
zero_at (suc n) zero = refl
zero_at (suc n) (suc r) = zero_at n r

single_at : (n r : ℕ) → r < n → range_at (replicate n (single 0)) r ≡ single 0
single_at zero r h = absurd (omega arith)
single_at (suc n) zero h = refl
single_at (suc n) (suc r) h = single_at n r (omega arith)

fresh_is : (entry size : ℕ) → IsSide size (opened_side entry) (fresh entry size)
fresh_is entry size = record {
  at = (refl, refl);
  registers = record { count = length-replicate {A = ℕ} 32 0; each = λ r z l. rw (single_at 28 r l, zero_at 32 r) (has_single 0 (omega arith)) };
  size = length-replicate {A = ℕ} size 0;
  bytes = zero_bytes size;
}

none_counted : QueuesCount empty_queues
none_counted = record { ld = record { numbers = refl; stamps = tt }; al = record { numbers = refl; stamps = tt }; sa = refl }

pub opened_stands : (image : Image) (depths : Depths) (memory : List ℕ) → AreBytes memory → StandsFor (terms_of image depths) (opened_node image) (record (opened image) { memory = memory })
opened_stands image depths memory h = record {
  a = fresh_is image.entry_a image.private_a;
  e = fresh_is image.entry_e image.private_e;
  waiting = record { ld = tt; al = tt; sa = tt; sd = tt; ab = tt; eb = tt; cq = tt };
  memory = h;
  counted = none_counted;
}

codes_fit : (image : Image) (depths : Depths) → CodesFit (terms_of image depths)
codes_fit image depths = record {
  a = recursion_from_All (λ (w : ℕ). w < 2 ^ 32) image.code_a image.fits.code_a;
  e = recursion_from_All (λ (w : ℕ). w < 2 ^ 32) image.code_e image.fits.code_e;
}

pub guarded_is_safe : (image : Image) (depths : Depths) (certificate : List CertificateNode) → guarded image depths certificate ≡ Yes → NeverStuck image depths
guarded_is_safe image depths certificate h memory size bytes ps s runs =
    let t = terms_of image depths in
    let first = opened_node image in
    let leads = guarded_leads t certificate first (codes_fit image depths) h in
    never_stuck t.setup (λ s. AnyStands t (first ∷ map known_node certificate) s) leads (record (opened image) { memory = memory }) s ps none_counted (inl (opened_stands image depths memory bytes)) runs
