-- Bounds that are looked at one by one.
use Rattle.std.proofs.Common.{ℕ, ◌+◌, List, [], ◌∷◌, ◌++◌, inl, inr, refl}
use Rattle.std.proofs.lemmas.List.Elements.{All-nil, All-cons, All-head, All-tail, All-append}
use Rattle.dae_asm_data.specs.Bounds.{Bound, IsKept, AreKept, IsFirstBroken}
use Rattle.dae_asm_data.specs.Walking.{Leads}

-- ---- bounds

abbrev Line : Type 0
Line = ℕ × Bound

abbrev kept_on : Line → Type 0
kept_on b = IsKept b.1

pub starts : (all : List Line) → Leads all all
starts all = record { kept = λ k. k; broken = λ n b. b }

pub goes_on : (a b c : List Line) → Leads a b → Leads b c → Leads a c
goes_on a b c l m = record { kept = λ k. l.kept (m.kept k); broken = λ n h. l.broken n (m.broken n h) }

pub passes : (all rest : List Line) (n : ℕ) (b : Bound) → Leads all ((n, b) ∷ rest) → IsKept b → Leads all rest
passes all rest n b l k = record {
  kept = λ r. l.kept (All-cons kept_on (n, b) rest k r);
  broken = λ m h. l.broken m (inr (k, h));
}

pub breaks : (all rest : List Line) (n : ℕ) (b : Bound) → Leads all ((n, b) ∷ rest) → (IsKept b → ⊥) → IsFirstBroken all n
breaks all rest n b l h = l.broken n (inl (refl, h))

pub ends : (all : List Line) → Leads all [] → AreKept all
ends all l = l.kept (All-nil kept_on)

-- ---- parts

past : (part rest : List Line) (n : ℕ) → AreKept part → IsFirstBroken rest n → IsFirstBroken (part ++ rest) n
past [] rest n k h = h
past (b ∷ part) rest n k h = inr (All-head kept_on b part k, past part rest n (All-tail kept_on b part k) h)

inside : (part rest : List Line) (n : ℕ) → IsFirstBroken part n → IsFirstBroken (part ++ rest) n
inside [] rest n h = absurd h
inside (b ∷ part) rest n (inl h) = inl h
inside (b ∷ part) rest n (inr h) = inr (h.0, inside part rest n h.1)

pub past_part : (all part rest : List Line) → Leads all (part ++ rest) → AreKept part → Leads all rest
past_part all part rest l k = record {
  kept = λ r. l.kept (All-append kept_on part rest k r);
  broken = λ n h. l.broken n (past part rest n k h);
}

pub breaks_in : (all part rest : List Line) (n : ℕ) → Leads all (part ++ rest) → IsFirstBroken part n → IsFirstBroken all n
breaks_in all part rest n l h = l.broken n (inside part rest n h)
