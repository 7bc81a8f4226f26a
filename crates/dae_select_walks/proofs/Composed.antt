-- A processor's run in parts.
use Rattle.std.proofs.Common.{◌≡◌, ℕ, suc, ◌+◌, ◌≤◌, [], subst, arith}
use Rattle.dae_encode.specs.declared.QueueUse.TheVariants.{Nothing}
use Rattle.dae_encode.specs.Processor.{Processor}
use Rattle.dae_meaning.specs.Variables.{Env}
use Rattle.dae_ir.specs.Deeds.{Deed, Went, Take, Push, Reserve, Send, Say, Halts}
use Rattle.dae_select_walks.specs.Walks.{WalkSetting, QueueEvent, Happens, Quietly, Stays, Moves, Comes, Nears, Acts}
use Rattle.dae_select_walks.specs.Does.{Does, event}

module _ (s : WalkSetting) where
  counted : {m n : ℕ} {p q : Processor} → m ≡ n → Quietly s m p q → Quietly s n p q
  counted {p = p} {q = q} e w = subst (λ (k : ℕ). Quietly s k p q) e w

  pub quiet_then : {m n : ℕ} {p q r : Processor} → Quietly s m p q → Quietly s n q r → Quietly s (m + n) p r
  quiet_then {n = n} Stays w = counted (omega arith) w
  quiet_then {n = n} (Moves {n = k} g v) w = counted {m = suc (k + n)} (omega arith) (Moves g (quiet_then v w))

  pub comes_here : {n : ℕ} {p : Processor} {Q : Processor → Type 0} → Q p → Comes s n p Q
  comes_here {p = p} h = record { last = p; steps = 0; quiet = Stays; short = omega arith; holds = h }

  pub comes_map : {n : ℕ} {p : Processor} {Q R : Processor → Type 0} (m : ℕ) → n ≤ m → ((q : Processor) → Q q → R q) → Comes s n p Q → Comes s m p R
  comes_map m l f c = let short = c.short in record { last = c.last; steps = c.steps; quiet = c.quiet; short = omega arith; holds = f c.last c.holds }

  pub comes_then : {n k : ℕ} {p : Processor} {Q R : Processor → Type 0} → Comes s n p Q → ((q : Processor) → Q q → Comes s k q R) → Comes s (n + k) p R
  comes_then c f =
      let d = f c.last c.holds in
      let one = c.short in let two = d.short in
      record {
        last = d.last;
        steps = c.steps + d.steps;
        quiet = quiet_then c.quiet d.quiet;
        short = omega arith;
        holds = d.holds;
      }

  pub comes_more : {n w : ℕ} {p q : Processor} {Q : Processor → Type 0} → Happens s p (event Nothing w 0 []) q → Comes s n q Q → Comes s (suc n) p Q
  comes_more {w = w} g c =
      let short = c.short in
      record { last = c.last; steps = suc c.steps; quiet = Moves g c.quiet; short = omega arith; holds = c.holds }

  pub acts_map : {p : Processor} {e : QueueEvent} {Q R : Processor → Type 0} → ((q : Processor) → Q q → R q) → Acts s p e Q → Acts s p e R
  acts_map f a = record { next = a.next; goes = a.goes; holds = f a.next a.holds }

  pub nears_here : {n : ℕ} {p : Processor} {Q : ℕ → Processor → Type 0} (l : ℕ) → l + 1 ≤ n → Q l p → Nears s n p Q
  nears_here {p = p} l small h = record { last = p; steps = 0; quiet = Stays; left = l; short = omega arith; holds = h }

  pub nears_map : {n m : ℕ} {p : Processor} {Q R : ℕ → Processor → Type 0} → n ≤ m → ((l : ℕ) (q : Processor) → Q l q → R l q) → Nears s n p Q → Nears s m p R
  nears_map l f c = let short = c.short in record { last = c.last; steps = c.steps; quiet = c.quiet; left = c.left; short = omega arith; holds = f c.left c.last c.holds }

  -- more is left
  pub nears_shift : {n : ℕ} {p : Processor} {Q R : ℕ → Processor → Type 0} (k : ℕ) → ((l : ℕ) (q : Processor) → Q l q → R (l + k) q) → Nears s n p Q → Nears s (n + k) p R
  nears_shift k f c = let short = c.short in record { last = c.last; steps = c.steps; quiet = c.quiet; left = c.left + k; short = omega arith; holds = f c.left c.last c.holds }

  pub comes_nears : {n k : ℕ} {p : Processor} {Q : Processor → Type 0} {R : ℕ → Processor → Type 0} → Comes s n p Q → ((q : Processor) → Q q → Nears s k q R) → Nears s (n + k) p R
  comes_nears c f =
      let d = f c.last c.holds in
      let one = c.short in let two = d.short in
      record {
        last = d.last;
        steps = c.steps + d.steps;
        quiet = quiet_then c.quiet d.quiet;
        left = d.left;
        short = omega arith;
        holds = d.holds;
      }

  pub does_map : (to to' : Env → Processor → Type 0) (n m : ℕ) → n ≤ m → ((env : Env) (q : Processor) → to env q → to' env q) → (d : Deed) (p : Processor) → Does s n d to p → Does s m d to' p
  does_map to to' n m l f (Went env) p c = comes_map m l (f env) c
  does_map to to' n m l f (Take queue go) p c =
      nears_map l (λ i q h x small. let a = h x small in (a.0, acts_map (λ r. does_map to to' i i (omega arith) f (go x) r) a.1)) c
  does_map to to' n m l f (Push queue x rest) p c = (c.0, nears_map l (λ i q. acts_map (λ r. does_map to to' i i (omega arith) f rest r)) c.1)
  does_map to to' n m l f (Reserve queue kind a rest) p c = λ good. nears_map l (λ i q. acts_map (λ r. does_map to to' i i (omega arith) f rest r)) (c good)
  does_map to to' n m l f (Send width a rest) p c = λ good. nears_map l (λ i q. acts_map (λ r. does_map to to' i i (omega arith) f rest r)) (c good)
  does_map to to' n m l f (Say text rest) p c = nears_map l (λ i q. acts_map (λ r. does_map to to' i i (omega arith) f rest r)) c
  does_map to to' n m l f (Halts quit) p c = nears_map l (λ i q h. h) c

  -- a quiet part, and then a deed
  pub comes_does : (to : Env → Processor → Type 0) (n k : ℕ) {p : Processor} {Q : Processor → Type 0} (d : Deed) → Comes s n p Q → ((q : Processor) → Q q → Does s k d to q) → Does s (n + k) d to p
  comes_does to n k (Went env) c f = comes_then c f
  comes_does to n k (Take queue go) c f = comes_nears c f
  comes_does to n k (Push queue x rest) c f = ((f c.last c.holds).0, comes_nears c (λ q h. (f q h).1))
  comes_does to n k (Reserve queue kind a rest) c f = λ good. comes_nears c (λ q h. f q h good)
  comes_does to n k (Send width a rest) c f = λ good. comes_nears c (λ q h. f q h good)
  comes_does to n k (Say text rest) c f = comes_nears c f
  comes_does to n k (Halts quit) c f = comes_nears c f

  -- one quiet instruction, and then a deed
  pub acts_does : (to : Env → Processor → Type 0) (n : ℕ) {w : ℕ} {p : Processor} {Q : Processor → Type 0} (d : Deed) → Acts s p (event Nothing w 0 []) Q → ((q : Processor) → Q q → Does s n d to q) → Does s (suc n) d to p
  acts_does to n {w} {p} d a f =
      does_map to to (1 + n) (suc n) (omega arith) (λ env q t. t) d p (comes_does to 1 n d (comes_more a.goes (comes_here {n = 0} a.holds)) f)

  -- a deed, and then a quiet part
  pub does_then : (to to' : Env → Processor → Type 0) (n k : ℕ) → ((env : Env) (q : Processor) → to env q → Comes s k q (to' env)) → (d : Deed) (p : Processor) → Does s n d to p → Does s (n + k) d to' p
  does_then to to' n k f (Went env) p c = comes_then c (f env)
  does_then to to' n k f (Take queue go) p c = nears_shift k (λ i q h x small. let a = h x small in (a.0, acts_map (λ r. does_then to to' i k f (go x) r) a.1)) c
  does_then to to' n k f (Push queue x rest) p c = (c.0, nears_shift k (λ i q. acts_map (λ r. does_then to to' i k f rest r)) c.1)
  does_then to to' n k f (Reserve queue kind a rest) p c = λ good. nears_shift k (λ i q. acts_map (λ r. does_then to to' i k f rest r)) (c good)
  does_then to to' n k f (Send width a rest) p c = λ good. nears_shift k (λ i q. acts_map (λ r. does_then to to' i k f rest r)) (c good)
  does_then to to' n k f (Say text rest) p c = nears_shift k (λ i q. acts_map (λ r. does_then to to' i k f rest r)) c
  does_then to to' n k f (Halts quit) p c = nears_shift k (λ i q h. h) c
