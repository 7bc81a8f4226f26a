-- What holds of whatever a plan gives: where no rule is broken, tables keep their literals and storages and have few more locals, and what
-- comes measures little. There is one lemma for each constructor of plans.
use Rattle.std.proofs.Common.{◌≡◌, ℕ, ◌+◌, ◌≤◌, List, length, Option, Some, None, Result, Ok, Err, refl, ◌∙◌, arith}
use Rattle.std.specs.Prelude.{IfOk}
use Rattle.dae_types_kinds.specs.declared.rules.Breach.{Breach}
use Rattle.dae_types_kinds.specs.Tables.{Tables, closed, opened, with_uses}
use Rattle.dae_types_rules.specs.Sites.{Site}
use Rattle.dae_types_rules.specs.Plan.{CheckPlan, pure, both, node, maps, chain, ◌>>=◌, ask_all, check_of}
use Rattle.dae_void_laws.proofs.Laws.{bind, all_asked}
use Rattle.dae_types_plans.specs.Steps.{looks, changes_to, ends, scoped, unused, settles_name}
use Rattle.dae_tree.specs.declared.expressions.Name.{Name}

-- tables go on from others with the same literals and storages, and at most n locals more
pub record Grown (n : ℕ) (s t : Tables) : Type 0 where
  pub literals : t.literals ≡ s.literals
  pub locals : length t.locals ≤ length s.locals + n
  pub storages : t.storages ≡ s.storages

pub record Got {A : Type 0} (measure : A → ℕ) (n w : ℕ) (s : Tables) (x : Tables × A) : Type 0 where
  pub grown : Grown n s x.0
  pub small : measure x.1 ≤ w

pub record Within {A : Type 0} (literals : List (List ℕ)) (measure : A → ℕ) (n w : ℕ) (m : CheckPlan A) : Type 0 where
  pub comes : (s : Tables) → s.literals ≡ literals → IfOk (check_of m s) (Got measure n w s)

-- of what no measure is asked
abbrev pub none : {A : Type 0} → A → ℕ
none x = 0

-- the measures of two parts
abbrev pub added : {A B : Type 0} → (A → ℕ) → (B → ℕ) → A × B → ℕ
added μ ν x = μ x.0 + ν x.1

-- ---- tables

pub same : (n : ℕ) (s t : Tables) → t.literals ≡ s.literals → t.locals ≡ s.locals → t.storages ≡ s.storages → Grown n s t
same n s t l k r = record { literals = l; locals = rw k (omega arith); storages = r }

pub stays : {s : Tables} (n : ℕ) → Grown n s s
stays n = record { literals = refl; locals = omega arith; storages = refl }

pub grows : {n k : ℕ} {s t u : Tables} → Grown n s t → Grown k t u → Grown (n + k) s u
grows g h = record { literals = h.literals ∙ g.literals; locals = omega (arith, g.locals, h.locals); storages = h.storages ∙ g.storages }

pub grown_more : {n k : ℕ} {s t : Tables} → n ≤ k → Grown n s t → Grown k s t
grown_more l g = record { literals = g.literals; locals = omega (arith, l, g.locals); storages = g.storages }

-- ---- the words of plans

pub weaker : {A : Type 0} {ls : List (List ℕ)} {μ : A → ℕ} {n w k v : ℕ} {m : CheckPlan A} → n ≤ k → w ≤ v → Within ls μ n w m → Within ls μ k v m
weaker {A} {ls} {μ} {n} {w} {k} {v} {m} l g h = record { comes = λ s e. by s (check_of m s) (h.comes s e) } where
  by : (s : Tables) (r : Result (Tables × A) Breach) → IfOk r (Got μ n w s) → IfOk r (Got μ k v s)
  by s (Ok x) q = record { grown = grown_more l q.grown; small = omega (arith, q.small, g) }
  by s (Err e) q = tt

pub fewer : {A : Type 0} {ls : List (List ℕ)} {μ : A → ℕ} {n w k : ℕ} {m : CheckPlan A} → n ≤ k → Within ls μ n w m → Within ls μ k w m
fewer l h = weaker l (omega arith) h

pub lighter : {A : Type 0} {ls : List (List ℕ)} {μ : A → ℕ} {n w v : ℕ} {m : CheckPlan A} → w ≤ v → Within ls μ n w m → Within ls μ n v m
lighter l h = weaker (omega arith) l h

-- another measure
pub measured : {A : Type 0} {ls : List (List ℕ)} {μ ν : A → ℕ} {n w v : ℕ} {m : CheckPlan A} → ((x : A) → μ x ≤ w → ν x ≤ v) → Within ls μ n w m → Within ls ν n v m
measured {A} {ls} {μ} {ν} {n} {w} {v} {m} k h = record { comes = λ s e. by s (check_of m s) (h.comes s e) } where
  by : (s : Tables) (r : Result (Tables × A) Breach) → IfOk r (Got μ n w s) → IfOk r (Got ν n v s)
  by s (Ok x) q = record { grown = q.grown; small = k x.1 q.small }
  by s (Err e) q = tt

pub unmeasured : {A : Type 0} {ls : List (List ℕ)} {μ : A → ℕ} {n w : ℕ} {m : CheckPlan A} → Within ls μ n w m → Within ls none n 0 m
unmeasured h = measured (λ x q. omega arith) h

pub pure_within : {A : Type 0} {ls : List (List ℕ)} {μ : A → ℕ} {w : ℕ} (x : A) → μ x ≤ w → Within ls μ 0 w (pure x)
pure_within x l = record { comes = λ s e. record { grown = stays 0; small = l } }

-- the step after a part
pub node_within : {A B : Type 0} {ls : List (List ℕ)} {μ : A → ℕ} {ν : B → ℕ} {n k w v : ℕ} {f : Tables → A → List Site} {g : Tables → A → Tables × B} {m : CheckPlan A} →
    Within ls μ n w m → ((s : Tables) (x : A) → s.literals ≡ ls → μ x ≤ w → Got ν k v s (g s x)) → Within ls ν (n + k) v (node f g m)
node_within {A} {B} {ls} {μ} {ν} {n} {k} {w} {v} {f} {g} {m} h step = record { comes = λ s e. bind (check_of m s) (λ x. ask_all (f x.0 x.1) (Ok (g x.0 x.1))) (Got μ n w s) (Got ν (n + k) v s) (h.comes s e) (λ x q. all_asked (f x.0 x.1) (Ok (g x.0 x.1)) (Got ν (n + k) v s) (λ u. by s e x q)) } where
  by : (s : Tables) → s.literals ≡ ls → (x : Tables × A) → Got μ n w s x → Got ν (n + k) v s (g x.0 x.1)
  by s e x q =
      let z = step x.0 x.1 (q.grown.literals ∙ e) q.small in
      record { grown = grows q.grown z.grown; small = z.small }

pub maps_within : {A B : Type 0} {ls : List (List ℕ)} {μ : A → ℕ} {ν : B → ℕ} {n k w v : ℕ} {g : Tables → A → Tables × B} {m : CheckPlan A} →
    Within ls μ n w m → ((s : Tables) (x : A) → s.literals ≡ ls → μ x ≤ w → Got ν k v s (g s x)) → Within ls ν (n + k) v (maps g m)
maps_within {A} {B} {ls} {μ} {ν} {n} {k} {w} {v} {g} {m} h step = record { comes = λ s e. bind (check_of m s) (λ x. Ok (g x.0 x.1)) (Got μ n w s) (Got ν (n + k) v s) (h.comes s e) (by s e) } where
  by : (s : Tables) → s.literals ≡ ls → (x : Tables × A) → Got μ n w s x → Got ν (n + k) v s (g x.0 x.1)
  by s e x q =
      let z = step x.0 x.1 (q.grown.literals ∙ e) q.small in
      record { grown = grows q.grown z.grown; small = z.small }

-- the same where the step adds no local
pub node_stays : {A B : Type 0} {ls : List (List ℕ)} {μ : A → ℕ} {ν : B → ℕ} {n w v : ℕ} {f : Tables → A → List Site} {g : Tables → A → Tables × B} {m : CheckPlan A} →
    Within ls μ n w m → ((s : Tables) (x : A) → s.literals ≡ ls → μ x ≤ w → Got ν 0 v s (g s x)) → Within ls ν n v (node f g m)
node_stays h step = fewer (omega arith) (node_within h step)

pub maps_stays : {A B : Type 0} {ls : List (List ℕ)} {μ : A → ℕ} {ν : B → ℕ} {n w v : ℕ} {g : Tables → A → Tables × B} {m : CheckPlan A} →
    Within ls μ n w m → ((s : Tables) (x : A) → s.literals ≡ ls → μ x ≤ w → Got ν 0 v s (g s x)) → Within ls ν n v (maps g m)
maps_stays h step = fewer (omega arith) (maps_within h step)

-- the same where the tables stay
pub node_reads : {A B : Type 0} {ls : List (List ℕ)} {μ : A → ℕ} {ν : B → ℕ} {n w v : ℕ} {f : Tables → A → List Site} {g : Tables → A → B} {m : CheckPlan A} →
    Within ls μ n w m → ((s : Tables) (x : A) → s.literals ≡ ls → μ x ≤ w → ν (g s x) ≤ v) → Within ls ν n v (node f (λ s x. (s, g s x)) m)
node_reads h step = node_stays h (λ s x e l. record { grown = stays 0; small = step s x e l })

pub maps_reads : {A B : Type 0} {ls : List (List ℕ)} {μ : A → ℕ} {ν : B → ℕ} {n w v : ℕ} {g : Tables → A → B} {m : CheckPlan A} →
    Within ls μ n w m → ((s : Tables) (x : A) → s.literals ≡ ls → μ x ≤ w → ν (g s x) ≤ v) → Within ls ν n v (maps (λ s x. (s, g s x)) m)
maps_reads h step = maps_stays h (λ s x e l. record { grown = stays 0; small = step s x e l })

pub asks_within : {A : Type 0} {ls : List (List ℕ)} {μ : A → ℕ} {n w : ℕ} {f : Tables → A → List Site} {m : CheckPlan A} → Within ls μ n w m → Within ls μ n w (node f (λ s x. (s, x)) m)
asks_within h = node_reads h (λ s x e l. l)

pub both_within : {A B : Type 0} {ls : List (List ℕ)} {μ : A → ℕ} {ν : B → ℕ} {n w k v : ℕ} {m : CheckPlan A} {l : CheckPlan B} →
    Within ls μ n w m → Within ls ν k v l → Within ls (added μ ν) (n + k) (w + v) (both m l)
both_within {A} {B} {ls} {μ} {ν} {n} {w} {k} {v} {m} {l} h j = record {
  comes = λ s e.
      bind (check_of m s) (λ x. check_of l x.0 >>= λ y. Ok (y.0, (x.1, y.1))) (Got μ n w s) (Got (added μ ν) (n + k) (w + v) s) (h.comes s e)
      (λ x q. bind (check_of l x.0) (λ y. Ok (y.0, (x.1, y.1))) (Got ν k v x.0) (Got (added μ ν) (n + k) (w + v) s) (j.comes x.0 (q.grown.literals ∙ e)) (by s x q));
} where
  by : (s : Tables) (x : Tables × A) → Got μ n w s x → (y : Tables × B) → Got ν k v x.0 y → Got (added μ ν) (n + k) (w + v) s (y.0, (x.1, y.1))
  by s x q y z = record { grown = grows q.grown z.grown; small = omega (arith, q.small, z.small) }

pub chain_within : {A B : Type 0} {ls : List (List ℕ)} {μ : A → ℕ} {ν : B → ℕ} {n w k v : ℕ} {d : A} {m : CheckPlan A} {l : A → CheckPlan B} →
    Within ls μ n w m → ((x : A) → μ x ≤ w → Within ls ν k v (l x)) → Within ls ν (n + k) v (chain d m l)
chain_within {A} {B} {ls} {μ} {ν} {n} {w} {k} {v} {d} {m} {l} h j = record {
  comes = λ s e.
      bind (check_of m s) (λ x. check_of (l x.1) x.0) (Got μ n w s) (Got ν (n + k) v s) (h.comes s e) (λ x q. by s x q (check_of (l x.1) x.0) ((j x.1 q.small).comes x.0 (q.grown.literals ∙ e)));
} where
  by : (s : Tables) (x : Tables × A) → Got μ n w s x → (r : Result (Tables × B) Breach) → IfOk r (Got ν k v x.0) → IfOk r (Got ν (n + k) v s)
  by s x q (Ok y) z = record { grown = grows q.grown z.grown; small = z.small }
  by s x q (Err e) z = tt

-- ---- words made of them

pub nothing_within : {ls : List (List ℕ)} → Within ls none 0 0 (pure (tt {0}))
nothing_within = pure_within (tt {0}) (omega arith)

pub looks_within : {A : Type 0} {ls : List (List ℕ)} {μ : A → ℕ} {w : ℕ} (f : Tables → A) → ((s : Tables) → s.literals ≡ ls → μ (f s) ≤ w) → Within ls μ 0 w (looks f)
looks_within f h = maps_reads nothing_within (λ s x e l. h s e)

pub changes_within : {ls : List (List ℕ)} {n : ℕ} (f : Tables → Tables) → ((s : Tables) → Grown n s (f s)) → Within ls none n 0 (changes_to f)
changes_within f h = fewer (omega arith) (maps_within nothing_within (λ s x e l. record { grown = h s; small = omega arith }))

pub ends_within : {A : Type 0} {ls : List (List ℕ)} {μ : A → ℕ} {n w : ℕ} {m : CheckPlan A} (f : Tables → Tables) → ((s : Tables) → Grown 0 s (f s)) → Within ls μ n w m → Within ls μ n w (ends f m)
ends_within f h k = fewer (omega arith) (maps_reads (both_within k (changes_within f h)) (λ s x e l. omega (arith, l)))

pub scoped_within : {A : Type 0} {ls : List (List ℕ)} {μ : A → ℕ} {n w : ℕ} {m : CheckPlan A} → Within ls μ n w m → Within ls μ n w (scoped m)
scoped_within h = fewer (omega arith) (chain_within (maps_stays {μ = none} {ν = none} {v = 0} nothing_within (λ s x e l. record { grown = same 0 s (opened s) refl refl refl; small = omega arith })) (λ outer l. ends_within (closed outer) (λ s. same 0 s (closed outer s) refl refl refl) h))

pub unused_within : {A : Type 0} {ls : List (List ℕ)} {μ : A → ℕ} {n w : ℕ} {m : CheckPlan A} → Within ls μ n w m → Within ls μ n w (unused m)
unused_within h = fewer (omega arith) (chain_within (looks_within {μ = none} {w = 0} (λ s. s.uses) (λ s e. omega arith)) (λ us l. ends_within (with_uses us) (λ s. same 0 s (with_uses us s) refl refl refl) h))

-- what is noted of a name changes nothing where no rule is broken
pub settles_within : {A : Type 0} {ls : List (List ℕ)} {μ : A → ℕ} {n w : ℕ} {m : CheckPlan A} (name : Option Name) → Within ls μ n w m → Within ls μ n w (settles_name name m)
settles_within None h = h
settles_within (Some x) h = record { comes = h.comes }
