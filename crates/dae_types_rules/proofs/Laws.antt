-- The two readings of a plan agree, so a check answers a broken rule exactly where there is one.
use Rattle.std.proofs.Common.{◌≡◌, List, [], ◌∷◌, ◌++◌, Option, Some, None, Result, Ok, Err, Bool, true, false, if◌then◌else◌, ◌⊎◌, inl, inr, subst, refl, sym, ◌∙◌}
use Rattle.dae_base.specs.declared.Place.{Place}
use Rattle.dae_types_kinds.specs.declared.rules.Rule.{Rule}
use Rattle.dae_types_kinds.specs.declared.rules.Breach.{Breach}
use Rattle.dae_types_kinds.specs.Tables.{Tables}
use Rattle.dae_types_rules.specs.Sites.{Site, place}
use Rattle.dae_types_rules.specs.Table.{breaks, asked, any_broken, is_broken}
use Rattle.dae_types_rules.specs.Plan.{BrokenName, CheckPlan, pure, both, node, maps, mapped, chain, pardons, settles, unless_spoiled, PlanWalked, or_else, followed, chained, some_broken, kept, at_node, pardoned, settled, walk_of, BrokenIn, IsChecked, ◌>>=◌, ask_in, ask_all, check_of}
use Rattle.dae_types_rules.proofs.Asking.{is_asked, any_among}

abbrev pub AllQuiet : List Site → Type 0
AllQuiet [] = Unit {0}
AllQuiet (s ∷ ss) = (is_broken s ≡ false) × AllQuiet ss

abbrev pub Agrees : {A : Type 0} → Result (Tables × A) Breach → PlanWalked A → Type 0
Agrees (Ok x) w = (w.state ≡ x.0) × (w.value ≡ Some x.1) × AllQuiet w.sites × (w.spoiled ≡ [])
Agrees (Err f) w = BrokenIn w.sites f.rule f.place

quiet_append : (xs ys : List Site) → AllQuiet xs → AllQuiet ys → AllQuiet (xs ++ ys)
quiet_append [] ys p q = q
quiet_append (x ∷ xs) ys p q = (p.0, quiet_append xs ys p.1 q)

broken_left : (xs ys : List Site) (r : Rule) (p : Place) → BrokenIn xs r p → BrokenIn (xs ++ ys) r p
broken_left [] ys r p h = absurd h
broken_left (x ∷ xs) ys r p (inl h) = inl h
broken_left (x ∷ xs) ys r p (inr h) = inr (broken_left xs ys r p h)

broken_right : (xs ys : List Site) (r : Rule) (p : Place) → BrokenIn ys r p → BrokenIn (xs ++ ys) r p
broken_right [] ys r p h = h
broken_right (x ∷ xs) ys r p h = inr (broken_right xs ys r p h)

-- ---- asking ends at a broken rule, or none is broken

abbrev Asked : {A : Type 0} → List Site → Result A Breach → Result A Breach → Type 0
Asked ss r after = ((f : Breach) × (r ≡ Err f) × BrokenIn ss f.rule f.place) ⊎ ((r ≡ after) × (some_broken ss ≡ false) × AllQuiet ss)

one_by : {A : Type 0} (b : Bool) (rest : Bool) (r : Rule) (s : Site) (others after : Result A Breach) → breaks r s ≡ b → (rest ≡ is_broken s → Asked (s ∷ []) others after) → (if b then true else rest) ≡ is_broken s → Asked (s ∷ []) (elim b [ true ↦ Err (record { rule = r; place = place s }) | false ↦ others ]) after
one_by true rest r s others after q k e = inl (record { rule = r; place = place s }, refl, inl (q, refl))
one_by false rest r s others after q k e = k e

one_asked : {A : Type 0} (rs : List Rule) (s : Site) (after : Result A Breach) → any_broken rs s ≡ is_broken s → Asked (s ∷ []) (ask_in rs s after) after
one_asked [] s after e = inr (refl, rw (sym e) refl, (sym e, tt))
one_asked (r ∷ rs) s after e = one_by (breaks r s) (any_broken rs s) r s (ask_in rs s after) after refl (λ q. one_asked rs s after q) e

all_by : {A : Type 0} (s : Site) (ss : List Site) (r others after : Result A Breach) → Asked (s ∷ []) r others → Asked ss others after → Asked (s ∷ ss) r after
all_by s ss r others after (inl h) k = inl (h.0, h.1, broken_left (s ∷ []) ss h.0.rule h.0.place h.2)
all_by s ss r others after (inr h) (inl k) = inl (k.0, h.0 ∙ k.1, inr k.2)
all_by s ss r others after (inr h) (inr k) = inr (h.0 ∙ k.0, rw (h.2.0, k.1) refl, (h.2.0, k.2))

all_asked : {A : Type 0} (ss : List Site) (after : Result A Breach) → Asked ss (ask_all ss after) after
unfolding ask_all
all_asked [] after = inr (refl, refl, tt)
all_asked (s ∷ ss) after = all_by s ss (ask_in (asked s) s (ask_all ss after)) (ask_all ss after) after (one_asked (asked s) s (ask_all ss after) refl) (all_asked ss after)

-- ---- the words of plans

node_failed : {A B : Type 0} (f : Tables → A → List Site) (g : Tables → A → Tables × B) (v : Option A) (w : PlanWalked A) (r : Rule) (p : Place) → BrokenIn w.sites r p → BrokenIn (at_node f g v w).sites r p
node_failed f g None w r p h = h
node_failed f g (Some x) w r p h = broken_left w.sites (f w.state x) r p h

node_ends : {B : Type 0} (w : List Site) (ms : List BrokenName) (ss : List Site) (y : Tables × B) (r : Result (Tables × B) Breach) → AllQuiet w → ms ≡ [] → Asked ss r (Ok y) → Agrees r (record { state = y.0; value = kept (some_broken ss) y.1; sites = w ++ ss; spoiled = ms })
node_ends w ms ss y r q z (inl h) = rw h.1 (broken_right w ss h.0.rule h.0.place h.2)
node_ends w ms ss y r q z (inr h) = rw (h.0, h.1) (refl, refl, quiet_append w ss q h.2, z)

agree_node : {A B : Type 0} (f : Tables → A → List Site) (g : Tables → A → Tables × B) (m : Result (Tables × A) Breach) (w : PlanWalked A) → Agrees m w → Agrees (m >>= λ x. ask_all (f x.0 x.1) (Ok (g x.0 x.1))) (at_node f g w.value w)
agree_node f g (Err e) w h = node_failed f g w.value w e.rule e.place h
agree_node f g (Ok x) w h = rw (h.1, h.0) (node_ends w.sites w.spoiled (f x.0 x.1) (g x.0 x.1) (ask_all (f x.0 x.1) (Ok (g x.0 x.1))) h.2 h.3 (all_asked (f x.0 x.1) (Ok (g x.0 x.1))))

agree_pair : {A B : Type 0} (x : A) (n : Result (Tables × B) Breach) (w : PlanWalked A) (v : PlanWalked B) → w.value ≡ Some x → AllQuiet w.sites → Agrees n v → Agrees (n >>= λ y. Ok (y.0, (x, y.1))) (followed w v)
agree_pair x (Err e) w v q a h = broken_right w.sites v.sites e.rule e.place h
agree_pair x (Ok y) w v q a h = (h.0, rw (q, h.1) refl, quiet_append w.sites v.sites a h.2, h.3)

agree_both : {A B : Type 0} (m : Result (Tables × A) Breach) (n : Tables → Result (Tables × B) Breach) (w : PlanWalked A) (v : Tables → List BrokenName → PlanWalked B) → Agrees m w → ((s : Tables) → Agrees (n s) (v s [])) → Agrees (m >>= λ x. n x.0 >>= λ y. Ok (y.0, (x.1, y.1))) (followed w (v w.state w.spoiled))
agree_both (Err e) n w v h k = broken_left w.sites (v w.state w.spoiled).sites e.rule e.place h
agree_both (Ok x) n w v h k =
    let one : Agrees (n x.0 >>= λ y. Ok (y.0, (x.1, y.1))) (followed w (v x.0 [])) = agree_pair x.1 (n x.0) w (v x.0 []) h.1 h.2 (k x.0) in
    let two : Agrees (n x.0 >>= λ y. Ok (y.0, (x.1, y.1))) (followed w (v w.state [])) = subst (λ (s : Tables). Agrees (n x.0 >>= λ y. Ok (y.0, (x.1, y.1))) (followed w (v s []))) (sym h.0) one in
    subst (λ (ms : List BrokenName). Agrees (n x.0 >>= λ y. Ok (y.0, (x.1, y.1))) (followed w (v w.state ms))) (sym h.3) two

agree_behind : {A B : Type 0} (x : A) (n : Result (Tables × B) Breach) (w : PlanWalked A) (v : PlanWalked B) → w.value ≡ Some x → AllQuiet w.sites → Agrees n v → Agrees n (chained w v)
agree_behind x (Err e) w v q a h = broken_right w.sites v.sites e.rule e.place h
agree_behind x (Ok y) w v q a h = (h.0, rw (q, h.1) refl, quiet_append w.sites v.sites a h.2, h.3)

agree_chain : {A B : Type 0} (d : A) (m : Result (Tables × A) Breach) (n : A → Tables → Result (Tables × B) Breach) (w : PlanWalked A) (v : A → Tables → List BrokenName → PlanWalked B) → Agrees m w → ((x : A) (s : Tables) → Agrees (n x s) (v x s [])) → Agrees (m >>= λ x. n x.1 x.0) (chained w (v (or_else d w.value) w.state w.spoiled))
agree_chain d (Err e) n w v h k = broken_left w.sites (v (or_else d w.value) w.state w.spoiled).sites e.rule e.place h
agree_chain {A = A} d (Ok x) n w v h k =
    let one : Agrees (n x.1 x.0) (chained w (v x.1 x.0 [])) = agree_behind x.1 (n x.1 x.0) w (v x.1 x.0 []) h.1 h.2 (k x.1 x.0) in
    let two : Agrees (n x.1 x.0) (chained w (v x.1 w.state [])) = subst (λ (s : Tables). Agrees (n x.1 x.0) (chained w (v x.1 s []))) (sym h.0) one in
    let three : Agrees (n x.1 x.0) (chained w (v x.1 w.state w.spoiled)) = subst (λ (ms : List BrokenName). Agrees (n x.1 x.0) (chained w (v x.1 w.state ms))) (sym h.3) two in
    subst (λ (y : Option A). Agrees (n x.1 x.0) (chained w (v (or_else d y) w.state w.spoiled))) (sym h.1) three

maps_failed : {A B : Type 0} (g : Tables → A → Tables × B) (v : Option A) (w : PlanWalked A) (r : Rule) (p : Place) → BrokenIn w.sites r p → BrokenIn (mapped g v w).sites r p
maps_failed g None w r p h = h
maps_failed g (Some x) w r p h = h

agree_maps : {A B : Type 0} (g : Tables → A → Tables × B) (m : Result (Tables × A) Breach) (w : PlanWalked A) → Agrees m w → Agrees (m >>= λ x. Ok (g x.0 x.1)) (mapped g w.value w)
agree_maps g (Err e) w h = maps_failed g w.value w e.rule e.place h
agree_maps g (Ok x) w h = rw (h.1, h.0) (refl, refl, h.2, h.3)

agree_pardons : {A : Type 0} (d : A) (m : Result (Tables × A) Breach) (w : PlanWalked A) → Agrees m w → Agrees m (pardoned d w)
agree_pardons d (Err e) w h = h
agree_pardons d (Ok x) w h = (h.0, rw h.1 refl, h.2, h.3)

agree_settles : {A : Type 0} (n : BrokenName) (m : Result (Tables × A) Breach) (w : PlanWalked A) → Agrees m w → Agrees m (settled n w)
agree_settles n (Err e) w h = h
agree_settles n (Ok x) w h = (h.0, h.1, h.2, rw (h.1, h.3) refl)

pub agree : {A : Type 0} (m : CheckPlan A) (s : Tables) → Agrees (check_of m s) (walk_of m s [])
agree (pure x) s = (refl, refl, tt, refl)
agree (both m n) s = agree_both (check_of m s) (check_of n) (walk_of m s []) (walk_of n) (agree m s) (λ t. agree n t)
agree (node f g m) s = agree_node f g (check_of m s) (walk_of m s []) (agree m s)
agree (maps g m) s = agree_maps g (check_of m s) (walk_of m s []) (agree m s)
agree (chain d m k) s = agree_chain d (check_of m s) (λ x t. check_of (k x) t) (walk_of m s []) (λ x t ms. walk_of (k x) t ms) (agree m s) (λ x t. agree (k x) t)
agree (pardons d m) s = agree_pardons d (check_of m s) (walk_of m s []) (agree m s)
agree (settles n m) s = agree_settles n (check_of m s) (walk_of m s []) (agree m s)
agree (unless_spoiled n m) s = agree m s

-- ---- a check answers what the table says

quiet_unbroken : (ss : List Site) (r : Rule) (p : Place) → AllQuiet ss → BrokenIn ss r p → ⊥
quiet_unbroken [] r p q h = h
quiet_unbroken (s ∷ ss) r p q (inl h) = let e : true ≡ false = sym (any_among (asked s) r s h.0 (is_asked r s h.0)) ∙ q.0 in absurd cc
quiet_unbroken (s ∷ ss) r p q (inr h) = quiet_unbroken ss r p q.1 h

-- what a check answers is what the table says
checked_by : {A : Type 0} (m : CheckPlan A) (s : Tables) (r : Result (Tables × A) Breach) → Agrees r (walk_of m s []) → IsChecked m s r
checked_by m s (Ok x) h = ((h.0, h.1), λ r p. quiet_unbroken (walk_of m s []).sites r p h.2)
checked_by m s (Err f) h = h

pub check_is_table : {A : Type 0} (m : CheckPlan A) (s : Tables) → IsChecked m s (check_of m s)
check_is_table m s = checked_by m s (check_of m s) (agree m s)
