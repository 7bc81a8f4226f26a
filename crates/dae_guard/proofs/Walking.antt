-- A walk that ends leads each state of each of its nodes to a final state or to a state of a certificate's node.
use Rattle.std.proofs.Common.{◌≡◌, ℕ, zero, suc, ◌⊎◌, inl, inr, Bool, true, false, List, [], ◌∷◌, ◌++◌, map, refl}
use Rattle.std.specs.Prelude.{Option, Some, None, if◌then◌else◌}
use Rattle.dae_machine.specs.declared.Pick.{Pick}
use Rattle.dae_machine.specs.Machine.{State, step, Runs, IsFinal}
use Rattle.dae_machine.proofs.LawsOfRuns.{run-step}
use Rattle.dae_guard.specs.Sets.{Node}
use Rattle.dae_certificate.specs.declared.CertificateNode.{CertificateNode}
use Rattle.dae_guard.specs.Nodes.{known_node, is_final, is_covered}
use Rattle.dae_guard.specs.Moves.{Terms, next_nodes}
use Rattle.dae_guard.specs.StandsFor.{StandsFor, AnyStands}
use Rattle.dae_guard.specs.Walk.{Ends, after_next, walk}

-- one of the certificate's nodes does
abbrev pub IsKnown : Terms → List CertificateNode → State → Type 0
IsKnown t certificate s = AnyStands t (map known_node certificate) s

-- what is proved of one node
pub record Sound (t : Terms) (certificate : List CertificateNode) : Type 0 where
  pub final : (n : Node) (s : State) → is_final n ≡ true → StandsFor t n s → IsFinal t.setup s
  pub covered : (n : Node) (s : State) → is_covered certificate n ≡ true → StandsFor t n s → IsKnown t certificate s
  pub next : (n : Node) (s : State) (ns : List Node) → next_nodes t n ≡ Some ns → StandsFor t n s
      → (p : Pick) × (u : State) × (step t.setup s p ≡ Some u) × AnyStands t ns u

module _ (t : Terms) (certificate : List CertificateNode) (sound : Sound t certificate) where
  -- a run of the state ends in a final state, or in a known one
  pub record Goes (s : State) : Type 0 where
    pub picks : List Pick
    pub state : State
    pub runs : Runs t.setup s picks state
    pub to : IsFinal t.setup state ⊎ IsKnown t certificate state

  stays : (s : State) → IsFinal t.setup s ⊎ IsKnown t certificate s → Goes s
  stays s h = record { picks = []; state = s; runs = refl; to = h }

  any-left : (ns ms : List Node) (s : State) → AnyStands t ns s → AnyStands t (ns ++ ms) s
  any-left [] ms s h = absurd h
  any-left (n ∷ ns) ms s (inl h) = inl h
  any-left (n ∷ ns) ms s (inr h) = inr (any-left ns ms s h)

  any-right : (ns ms : List Node) (s : State) → AnyStands t ms s → AnyStands t (ns ++ ms) s
  any-right [] ms s h = h
  any-right (n ∷ ns) ms s h = inr (any-right ns ms s h)

  -- each state of each node ahead goes so, where the walk ends
  pub goes : (fuel : ℕ) (ahead : List Node) (s : State) → walk t certificate fuel ahead ≡ Ends → AnyStands t ahead s → Goes s
  unfolding walk
  goes fuel [] s h a = absurd a
  goes zero (n ∷ ahead) s h a = cc
  goes (suc fuel) (n ∷ ahead) s h a = by (is_final n) (is_covered certificate n) (next_nodes t n) refl refl refl h a (λ ns u e b. goes fuel ns u e b)
    where
      by : (f c : Bool) (o : Option (List Node)) → is_final n ≡ f → is_covered certificate n ≡ c → next_nodes t n ≡ o
          → (if f then walk t certificate fuel ahead else (if c then walk t certificate fuel ahead else after_next n o (λ ns. walk t certificate fuel (ns ++ ahead)))) ≡ Ends
          → StandsFor t n s ⊎ AnyStands t ahead s → ((ns : List Node) (u : State) → walk t certificate fuel ns ≡ Ends → AnyStands t ns u → Goes u) → Goes s
      by true c o e d k h (inl x) more = stays s (inl (sound.final n s e x))
      by true c o e d k h (inr a) more = more ahead s h a
      by false true o e d k h (inl x) more = stays s (inr (sound.covered n s d x))
      by false true o e d k h (inr a) more = more ahead s h a
      by false false None e d k h x more = cc
      by false false (Some ns) e d k h (inr a) more = more (ns ++ ahead) s h (any-right ns ahead s a)
      by false false (Some ns) e d k h (inl x) more =
          let m = sound.next n s ns k x in
          let g = more (ns ++ ahead) m.1 h (any-left ns ahead m.1 m.3) in
          record { picks = m.0 ∷ g.picks; state = g.state; runs = run-step (step t.setup) s m.1 g.state m.0 g.picks m.2 g.runs; to = g.to }
