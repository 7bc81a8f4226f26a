-- E's part of a group, on the queues: it takes just the loads and the copies that A sent.
use Rattle.std.proofs.Common.{◌≡◌, ℕ, ◌+◌, ◌*◌, ◌<◌, ◌≤◌, ◌^◌, Bool, true, false, not, ◌&&◌, List, ◌∷◌, length, if◌then◌else◌, refl, ap, arith, []}
use Rattle.dae_base.specs.declared.LoadKind.{LoadKind}
use Rattle.dae_queues.specs.declared.StoreAt.{StoreAt}
use Rattle.dae_base.specs.Words.{loaded}
use Rattle.dae_core.specs.Queues.{Queues}
use Rattle.dae_machine.specs.Machine.{Setup}
use Rattle.dae_meaning.specs.Worlds.{World}
use Rattle.dae_ir.specs.Code.{Do}
use Rattle.dae_meaning.specs.Variables.{Env, put}
use Rattle.dae_ir.specs.Form.{Program, computed}
use Rattle.dae_ir.specs.Classes.{Classes}
use Rattle.dae_ir.specs.Rounds.{is_for_e, is_copied, how_many}
use Rattle.dae_ir.specs.Canonical.{sets_e, loads_e, execute}
use Rattle.dae_ir.specs.Streams.{Actions, mark, when, e_part, parts}
use Rattle.dae_ir.specs.declared.form.Value.{Value}
use Rattle.dae_ir.specs.declared.stream.Mark.{Mark}
use Rattle.dae_ir.specs.declared.stream.Part.{Part}
use Rattle.dae_ir.specs.declared.stream.Part.TheVariants.{Sets, Loads as Load', Tests}
use Rattle.dae_ir.specs.declared.stream.Action.TheVariants.{Set, Receive, Accept}
use Rattle.dae_machine_rounds.specs.Follows.{went, takes}
use Rattle.dae_machine_rounds.specs.Spots.{Behind, HeldCall, Spot, Arrives, point, spot, acts}
use Rattle.dae_machine.specs.Walks.{ends, grants}
use Rattle.dae_machine.specs.Walks.{AreWords}
use Rattle.dae_machine_rounds.proofs.Does.{Does, here}
use Rattle.dae_machine_rounds.proofs.Both.{does_to, does_both, does_one}
use Rattle.dae_machine_rounds.proofs.Worlds.{LoadsWords}
use Rattle.dae_machine_rounds.proofs.Slots.{Counts, Loads, held, filled_slots, words_for}

no_more : {X : Type 0} (n : ℕ) → length {A = ℕ} [] ≡ 1 + n → X
no_more n h = absurd (omega (arith, h))

module _ (setup : Setup) (p : Program) (body : ℕ → Actions) (k : Actions) (b : Behind) (calls : List HeldCall) (m : List ℕ) (stamp : ℕ) (sa : List StoreAt) where
  -- loads for E that are filled, and copies
  abbrev pub receiving : Counts → Loads → List ℕ → Queues
  receiving c ls cq = held c (filled_slots c.ld_taken stamp m ls) sa [] [] [] cq

  abbrev pub taken : ℕ → Counts → Counts
  taken n c = record c { ld_taken = n }

  -- so many loads were taken
  pub record Takes_all (s : Spot) (x : Counts) (ls : Loads) (cq : List ℕ) (u : World) (env : Env) (n : ℕ) : Type 0 where
    pub moves : ℕ
    pub fills : ℕ
    pub least : ℕ
    pub does : Does setup p false body m moves fills least s (receiving x ls cq) [] (Arrives (spot (point k b) env u calls)) (receiving (taken (x.ld_taken + length ls) x) [] [])
    pub few : moves + fills ≤ n

  set_does : (at : Mark) (v : ℕ) (x : Value) (next : Actions) (env : Env) (u : World) (q : Queues) → length u.memory ≡ setup.memory
      → Does setup p false body m 1 0 0 (spot (point (Do at (Set v x) next) b) env u calls) q [] (Arrives (spot (point next b) (put true v (computed x u.frame env) env) u calls)) q
  set_does at v x next env u q size = does_one (acts u refl size went) ends tt

  receive_does : (at : Mark) (v : ℕ) (next : Actions) (env : Env) (u : World) (x : Counts) (kind : LoadKind) (a : ℕ) (ls : Loads) (cq : List ℕ) → length u.memory ≡ setup.memory → LoadsWords m
      → Does setup p false body m 1 0 0 (spot (point (Do at (Receive v) next) b) env u calls) (receiving x ((kind, a) ∷ ls) cq) [] (Arrives (spot (point next b) (put true v (loaded kind a m) env) u calls)) (receiving (taken (x.ld_taken + 1) x) ls cq)
  receive_does at v next env u x kind a ls cq size words =
      does_one (acts u refl size (takes (loaded kind a m) went)) (grants {q = receiving x ((kind, a) ∷ ls) cq} refl refl ends) (words kind a, tt)

  accept_does : (at : Mark) (v : ℕ) (next : Actions) (env : Env) (u : World) (x : Counts) (ls : Loads) (y : ℕ) (cq : List ℕ) → length u.memory ≡ setup.memory → y < 2 ^ 32
      → Does setup p false body m 1 0 0 (spot (point (Do at (Accept v) next) b) env u calls) (receiving x ls (y ∷ cq)) [] (Arrives (spot (point next b) (put true v y env) u calls)) (receiving x ls cq)
  accept_does at v next env u x ls y cq size word =
      does_one (acts u refl size (takes y went)) (grants {q = receiving x ls (y ∷ cq)} refl refl ends) (word, tt)

  extend : (s s2 : Spot) (x : Counts) (t : ℕ) (ls ls2 : Loads) (cq cq2 : List ℕ) (u : World) (env : Env) (n : ℕ) {a l : ℕ} → Does setup p false body m a 0 l s (receiving x ls cq) [] (Arrives s2) (receiving (taken t x) ls2 cq2) → t + length ls2 ≡ x.ld_taken + length ls → a ≤ 2
      → Takes_all s2 (taken t x) ls2 cq2 u env n → Takes_all s x ls cq u env (2 + n)
  extend s s2 x t ls ls2 cq cq2 u env n pre e few y =
      let f = y.few in
      record { moves = _; fills = _; least = _; does = does_to (ap (λ (j : ℕ). receiving (taken j x) [] []) e) (does_both pre y.does); few = omega arith }

  module _ (c : Classes) (n : ℕ) where
    abbrev pub Part_taken : List Part → Type 0
    Part_taken g = (u : World) (env : Env) (x : Counts) (ls : Loads) (cq : List ℕ) → length u.memory ≡ setup.memory → LoadsWords m → AreWords cq → length ls ≡ how_many (is_for_e c) g → length cq ≡ how_many (is_copied c) g
        → Takes_all (spot (point (parts (e_part c n) g k) b) env u calls) x ls cq u (execute c g u.frame (words_for m ls) cq env) (2 * length g)

    sets_taken : (g : List Part) → Part_taken g → (at : Mark) (v : ℕ) (x : Value) (u : World) (env : Env) (q : Counts) (ls : Loads) (cq : List ℕ) → length u.memory ≡ setup.memory → LoadsWords m → AreWords cq → (s e : Bool)
        → length ls ≡ 0 + how_many (is_for_e c) g → length cq ≡ (if s && e then 1 else 0) + how_many (is_copied c) g
        → Takes_all (spot (point (when (s && e) at (Accept v) (when (not s && e) at (Set v x) (parts (e_part c n) g k))) b) env u calls) q ls cq u (sets_e s e (execute c g u.frame) v (computed x u.frame) (words_for m ls) cq env) (2 + 2 * length g)
    sets_taken g ih at v x u env q ls [] size words copies true true h i = no_more (how_many (is_copied c) g) i
    sets_taken g ih at v x u env q ls (y ∷ cq) size words copies true true h i =
        extend _ _ q q.ld_taken ls ls (y ∷ cq) cq u _ (2 * length g) (accept_does at v (parts (e_part c n) g k) env u q ls y cq size copies.0) refl (omega arith) (ih u (put true v y env) q ls cq size words copies.1 (omega (arith, h)) (omega (arith, i)))
    sets_taken g ih at v x u env q ls cq size words copies false true h i =
        extend _ _ q q.ld_taken ls ls cq cq u _ (2 * length g) (set_does at v x (parts (e_part c n) g k) env u (receiving q ls cq) size) refl (omega arith) (ih u (put true v (computed x u.frame env) env) q ls cq size words copies (omega (arith, h)) (omega (arith, i)))
    sets_taken g ih at v x u env q ls cq size words copies true false h i =
        extend _ _ q q.ld_taken ls ls cq cq u _ (2 * length g) here refl (omega arith) (ih u env q ls cq size words copies (omega (arith, h)) (omega (arith, i)))
    sets_taken g ih at v x u env q ls cq size words copies false false h i =
        extend _ _ q q.ld_taken ls ls cq cq u _ (2 * length g) here refl (omega arith) (ih u env q ls cq size words copies (omega (arith, h)) (omega (arith, i)))

    loads_taken : (g : List Part) → Part_taken g → (at : Mark) (v : ℕ) (u : World) (env : Env) (q : Counts) (ls : Loads) (cq : List ℕ) → length u.memory ≡ setup.memory → LoadsWords m → AreWords cq → (s e : Bool)
        → length ls ≡ (if not s && e then 1 else 0) + how_many (is_for_e c) g → length cq ≡ (if s && e then 1 else 0) + how_many (is_copied c) g
        → Takes_all (spot (point (when (s && e) at (Accept v) (when (not s && e) at (Receive v) (parts (e_part c n) g k))) b) env u calls) q ls cq u (loads_e s e (execute c g u.frame) v (words_for m ls) cq env) (2 + 2 * length g)
    loads_taken g ih at v u env q ls [] size words copies true true h i = no_more (how_many (is_copied c) g) i
    loads_taken g ih at v u env q ls (y ∷ cq) size words copies true true h i =
        extend _ _ q q.ld_taken ls ls (y ∷ cq) cq u _ (2 * length g) (accept_does at v (parts (e_part c n) g k) env u q ls y cq size copies.0) refl (omega arith) (ih u (put true v y env) q ls cq size words copies.1 (omega (arith, h)) (omega (arith, i)))
    loads_taken g ih at v u env q [] cq size words copies false true h i = absurd (omega (arith, h))
    loads_taken g ih at v u env q (l ∷ ls) cq size words copies false true h i =
        extend _ _ q (q.ld_taken + 1) (l ∷ ls) ls cq cq u _ (2 * length g) (receive_does at v (parts (e_part c n) g k) env u q l.0 l.1 ls cq size words) (omega arith) (omega arith) (ih u (put true v (loaded l.0 l.1 m) env) (taken (q.ld_taken + 1) q) ls cq size words copies (omega (arith, h)) (omega (arith, i)))
    loads_taken g ih at v u env q ls cq size words copies true false h i =
        extend _ _ q q.ld_taken ls ls cq cq u _ (2 * length g) here refl (omega arith) (ih u env q ls cq size words copies (omega (arith, h)) (omega (arith, i)))
    loads_taken g ih at v u env q ls cq size words copies false false h i =
        extend _ _ q q.ld_taken ls ls cq cq u _ (2 * length g) here refl (omega arith) (ih u env q ls cq size words copies (omega (arith, h)) (omega (arith, i)))

    more_room : (s : Spot) (x : Counts) (ls : Loads) (cq : List ℕ) (u : World) (env : Env) (a b : ℕ) → a ≤ b → Takes_all s x ls cq u env a → Takes_all s x ls cq u env b
    more_room s x ls cq u env a b h y = let f = y.few in record { moves = y.moves; fills = y.fills; least = y.least; does = y.does; few = omega arith }

    none_taken : (u : World) (env : Env) (x : Counts) (ls : Loads) (cq : List ℕ) → length ls ≡ 0 → length cq ≡ 0 → Takes_all (spot (point k b) env u calls) x ls cq u env 0
    none_taken u env x [] [] h i = record { moves = 0; fills = 0; least = 0; does = does_to (ap (λ (j : ℕ). receiving (taken j x) [] []) (omega arith)) here; few = omega arith }
    none_taken u env x (l ∷ ls) cq h i = absurd (omega (arith, h))
    none_taken u env x [] (y ∷ cq) h i = absurd (omega (arith, i))

    pub parts_taken : (g : List Part) → Part_taken g
    parts_taken [] u env x ls cq size words copies h i = none_taken u env x ls cq h i
    parts_taken (Sets place v y ∷ g) u env x ls cq size words copies h i =
        more_room _ x ls cq u _ (2 + 2 * length g) (2 * length (Sets place v y ∷ g)) (omega arith) (sets_taken g (parts_taken g) (mark place n) v y u env x ls cq size words copies (c.s v) (c.needs v) h i)
    parts_taken (Load' place v kind y ∷ g) u env x ls cq size words copies h i =
        more_room _ x ls cq u _ (2 + 2 * length g) (2 * length (Load' place v kind y ∷ g)) (omega arith) (loads_taken g (parts_taken g) (mark place n) v u env x ls cq size words copies (c.s v) (c.needs v) h i)
    parts_taken (Tests place check ∷ g) u env x ls cq size words copies h i =
        more_room _ x ls cq u _ (2 * length g) (2 * length (Tests place check ∷ g)) (omega arith) (parts_taken g u env x ls cq size words copies (omega (arith, h)) (omega (arith, i)))
