-- The stack of the walk, and covered nodes.
use Rattle.std.proofs.Common.{◌≡◌, ℕ, zero, suc, ◌+◌, ◌-◌, ◌<◌, ◌≤◌, Bool, true, false, ◌&&◌, ◌||◌, List, [], ◌∷◌, ◌++◌, length, map, reverse, take, get_or, add-one, refl, ap, sym, ◌∙◌, subst, arith}
use Rattle.std.specs.Prelude.{Option, Some, None, IfSome, option_map, option_to_list, nat_eq, if◌then◌else◌}
use Rattle.std.specs.List.{All, list_any}
use Rattle.std.proofs.lemmas.List.{append-nil, get_or_append_left, get_or_at, get_or_default, length-append, length-map, length-reverse, reverse-append, take_all}
use Rattle.std.proofs.lemmas.Bool.Decides.{nat_tests}
use Rattle.dae_base.specs.declared.Side.{Side}
use Rattle.dae_base.specs.declared.Side.TheVariants.{A, E}
use Rattle.dae_encode.specs.declared.QueueUse.{QueueUse}
use Rattle.dae_ranges.specs.declared.Range.{Range}
use Rattle.dae_ranges.specs.Ranges.{any_word, within}
use Rattle.dae_guard.specs.Sets.{Node, Waiting}
use Rattle.dae_certificate.specs.declared.CertificateNode.{CertificateNode}
use Rattle.dae_guard.specs.Nodes.{is_covered, is_final, range_at, registers_within}
use Rattle.dae_guard.specs.Walk.{Walked, Ends, Halts, Passes, after_next, walk, walk_start}
use Rattle.dae_guard.specs.Waiting.{drain_next, fill_al, fill_ld}
use Rattle.dae_guard.specs.Moves.{SideAfter, Terms, by_memory, moved, moved_a, moved_e, next_nodes, or_else}
use Rattle.dae_guard_walk.specs.declared.walking.NodeSpot.{NodeSpot}
use Rattle.dae_guard.specs.Kept.{served}
use Rattle.dae_guard_walk.specs.Spots.{Holds, node_of, nodes_of}
use Rattle.dae_guard_walk.specs.Steps.{GoesOn, Left, entered, entered_node, listed, stepped}
use Rattle.dae_guard_walk.specs.declared.instructions.Sure.{Sure}
use Rattle.dae_guard_walk.specs.declared.walking.Walked.{Walked as Kept}
use Rattle.dae_guard_walk.specs.Answers.{walked_of}
use Rattle.dae_guard_walk.specs.Visits.{Visits, WentOn}
use Rattle.dae_guard_walk.specs.Picks.{afters, nodes_after}

-- ---- the stack

pub nodes_more : (ss : List NodeSpot) (s : NodeSpot) → nodes_of (ss ++ s ∷ []) ≡ node_of s ∷ nodes_of ss
nodes_more ss s = ap (map node_of) (reverse-append ss (s ∷ []))

-- ---- picks

pub next_served : (t : Terms) (n : Node) (w : Waiting) → served n.waiting ≡ Some w → next_nodes t n ≡ Some (record n { waiting = w } ∷ [])
unfolding next_nodes
next_served t n w e = by (drain_next n.waiting) (fill_al n.waiting) (fill_ld n.waiting) e
  where
    by : (d f g : Option Waiting) → or_else d (or_else f g) ≡ Some w
        → or_else (by_memory n d) (or_else (by_memory n f) (or_else (by_memory n g) (or_else (moved_e t n) (moved_a t n)))) ≡ Some (record n { waiting = w } ∷ [])
    by (Some x) f g e = let same : x ≡ w = cc in rw same refl
    by None (Some x) g e = let same : x ≡ w = cc in rw same refl
    by None None (Some x) e = let same : x ≡ w = cc in rw same refl
    by None None None e = absurd cc

pub next_steps : (t : Terms) (n : Node) → served n.waiting ≡ None → next_nodes t n ≡ stepped t n
unfolding next_nodes
next_steps t n e = by (drain_next n.waiting) (fill_al n.waiting) (fill_ld n.waiting) e
  where
    by : (d f g : Option Waiting) → or_else d (or_else f g) ≡ None
        → or_else (by_memory n d) (or_else (by_memory n f) (or_else (by_memory n g) (or_else (moved_e t n) (moved_a t n)))) ≡ stepped t n
    by (Some x) f g e = absurd cc
    by None (Some x) g e = absurd cc
    by None None (Some x) e = absurd cc
    by None None None e = refl

enters_a : (access : QueueUse) (n : Node) (ls : List Left) → map (λ (r : SideAfter). record { a = r.0; e = n.e; waiting = r.1 }) (map (entered access n.waiting) ls) ≡ map (entered_node A access n) ls
enters_a access n [] = refl
enters_a access n (l ∷ ls) = ap (λ (ns : List Node). entered_node A access n l ∷ ns) (enters_a access n ls)

enters_e : (access : QueueUse) (n : Node) (ls : List Left) → map (λ (r : SideAfter). record { a = n.a; e = r.0; waiting = r.1 }) (map (entered access n.waiting) ls) ≡ map (entered_node E access n) ls
enters_e access n [] = refl
enters_e access n (l ∷ ls) = ap (λ (ns : List Node). entered_node E access n l ∷ ns) (enters_e access n ls)

-- the sure instruction of E
pub steps_e : (t : Terms) (n : Node) (s : Sure) → option_map (afters n.waiting) (Some s) ≡ moved t E n.e n.waiting → s.side ≡ E
    → option_map (nodes_after n) (Some s) ≡ stepped t n
steps_e t n s h e =
    ap Some (ap (λ (side : Side). map (entered_node side s.access n) (listed s.outcomes)) e)
    ∙ rw (sym h) (ap Some (sym (enters_e s.access n (listed s.outcomes))))

-- or else that of A
pub steps_a : (t : Terms) (n : Node) (o : Option Sure) → None ≡ moved t E n.e n.waiting → option_map (afters n.waiting) o ≡ moved t A n.a n.waiting
    → IfSome o (λ s. s.side ≡ A) → option_map (nodes_after n) o ≡ stepped t n
steps_a t n None none h e = rw (sym none, sym h) refl
steps_a t n (Some s) none h e =
    ap Some (ap (λ (side : Side). map (entered_node side s.access n) (listed s.outcomes)) e)
    ∙ rw (sym none, sym h) (ap Some (sym (enters_a s.access n (listed s.outcomes))))

pub goes_so : (b : Bool) (o p : Option (List Node)) (old new : List Node) → o ≡ p → GoesOn b p old new → GoesOn b o old new
goes_so true o p old new e h = (h.0, e ∙ h.1, h.2)
goes_so false o p old new e h = e ∙ h

-- ---- registers

-- one range that doesn't lie in the other tells of all
pub outside : (n r : ℕ) (outer rs : List Range) → 0 < r → r < n → within (range_at outer r) (range_at rs r) ≡ false → registers_within n outer rs ≡ false
outside zero r outer rs p l h = absurd (omega arith)
outside (suc k) r outer rs p l h = by (nat_eq r k) refl (λ m. outside k r outer rs p m h)
  where
    fails : (a b c : Bool) → a ≡ false → b ≡ false → ((a || b) && c) ≡ false
    fails true b c e f = absurd cc
    fails false true c e f = absurd cc
    fails false false c e f = refl

    later : (a c : Bool) → c ≡ false → (a && c) ≡ false
    later true c e = e
    later false c e = refl

    by : (b : Bool) → nat_eq r k ≡ b → (r < k → registers_within k outer rs ≡ false)
        → ((nat_eq k 0 || within (range_at outer k) (range_at rs k)) && registers_within k outer rs) ≡ false
    by true e more =
        let same : r ≡ k = grind (arith, nat_tests) in
        let some : nat_eq k 0 ≡ false = grind (arith, nat_tests) in
        fails (nat_eq k 0) (within (range_at outer k) (range_at rs k)) (registers_within k outer rs) some
        (subst (λ (z : ℕ). within (range_at outer z) (range_at rs z) ≡ false) same h)
    by false e more =
        let other : r < k = grind (arith, nat_tests) in
        later (nat_eq k 0 || within (range_at outer k) (range_at rs k)) (registers_within k outer rs) (more other)

pub one_more : (r : ℕ) (outer rs : List Range) → within (range_at outer r) (range_at rs r) ≡ true → registers_within r outer rs ≡ true → registers_within (suc r) outer rs ≡ true
one_more r outer rs h k = rw (h, k) (by (nat_eq r 0))
  where
    by : (b : Bool) → ((b || true) && true) ≡ true
    by true = refl
    by false = refl

pub one_more_at : (r : ℕ) (outer rs : List Range) (d e : Range) → r < length outer → r < length rs → within (get_or outer r d) (get_or rs r e) ≡ true
    → registers_within r outer rs ≡ true → registers_within (r + 1) outer rs ≡ true
one_more_at r outer rs d e l m h k =
    let x : within (range_at outer r) (range_at rs r) ≡ true = rw (get_or_default outer r any_word d l, get_or_default rs r any_word e m) h in
    rw add-one (one_more r outer rs x k)

pub outside_at : (n r : ℕ) (outer rs : List Range) (d e : Range) → 0 < r → r < n → r < length outer → r < length rs → within (get_or outer r d) (get_or rs r e) ≡ false
    → registers_within n outer rs ≡ false
outside_at n r outer rs d e p q l m h =
    outside n r outer rs p q (rw (get_or_default outer r any_word d l, get_or_default rs r any_word e m) h)

-- ---- covered nodes

pub none_of_all : {X : Type 0} (p : X → Bool) (xs : List X) (i : ℕ) → length xs ≤ i → list_any p (take i xs) ≡ false → false ≡ list_any p xs
none_of_all p xs i l h = sym (ap (list_any p) (sym (take_all i xs l)) ∙ h)

-- ---- the walk

walks_nil : (t : Terms) (certificate : List CertificateNode) (fuel : ℕ) → walk t certificate fuel [] ≡ Ends
unfolding walk
walks_nil t certificate zero = refl
walks_nil t certificate (suc fuel) = refl

pub ends_nil : (t : Terms) (certificate : List CertificateNode) (fuel : ℕ) (ns : List Node) (w : Walked) → ns ≡ [] → walk t certificate fuel ns ≡ w → w ≡ Ends
ends_nil t certificate fuel ns w e h = sym h ∙ (ap (walk t certificate fuel) e ∙ walks_nil t certificate fuel)

pub passes_more : (t : Terms) (certificate : List CertificateNode) (ns : List Node) (w : Walked) → 0 < length ns → walk t certificate 0 ns ≡ w → w ≡ Passes
unfolding walk
passes_more t certificate [] w l h = absurd (omega arith)
passes_more t certificate (n ∷ ns) w l h = sym h

-- a final or covered node is left behind
pub walks_past : (t : Terms) (certificate : List CertificateNode) (fuel rest : ℕ) (n : Node) (ns ms : List Node) (w : Walked) → fuel ≡ suc rest → ms ≡ n ∷ ns
    → (is_final n || is_covered certificate n) ≡ true → walk t certificate fuel ms ≡ w → walk t certificate rest ns ≡ w
unfolding walk
walks_past t certificate fuel rest n ns ms w f e h k = by (is_final n) (is_covered certificate n) h (rw (f, e) at k)
  where
    by : (a b : Bool) → (a || b) ≡ true
        → (if a then walk t certificate rest ns else (if b then walk t certificate rest ns else after_next n (next_nodes t n) (λ os. walk t certificate rest (os ++ ns)))) ≡ w
        → walk t certificate rest ns ≡ w
    by true b g m = m
    by false true g m = m
    by false false g m = absurd cc

walks_into : (t : Terms) (certificate : List CertificateNode) (fuel rest : ℕ) (n : Node) (ns ms : List Node) (w : Walked) → fuel ≡ suc rest → ms ≡ n ∷ ns
    → (is_final n || is_covered certificate n) ≡ false → walk t certificate fuel ms ≡ w
    → after_next n (next_nodes t n) (λ os. walk t certificate rest (os ++ ns)) ≡ w
unfolding walk
walks_into t certificate fuel rest n ns ms w f e h k = by (is_final n) (is_covered certificate n) h (rw (f, e) at k)
  where
    by : (a b : Bool) → (a || b) ≡ false
        → (if a then walk t certificate rest ns else (if b then walk t certificate rest ns else after_next n (next_nodes t n) (λ os. walk t certificate rest (os ++ ns)))) ≡ w
        → after_next n (next_nodes t n) (λ os. walk t certificate rest (os ++ ns)) ≡ w
    by true b g m = absurd cc
    by false true g m = absurd cc
    by false false g m = m

-- the nodes behind another are walked before those ahead
pub walks_on : (t : Terms) (certificate : List CertificateNode) (fuel rest : ℕ) (n : Node) (ns ms os : List Node) (w : Walked) → fuel ≡ suc rest → ms ≡ n ∷ ns
    → (is_final n || is_covered certificate n) ≡ false → GoesOn true (next_nodes t n) ns os → walk t certificate fuel ms ≡ w → walk t certificate rest os ≡ w
walks_on t certificate fuel rest n ns ms os w f e h g k =
    rw g.2 (subst (λ (o : Option (List Node)). after_next n o (λ ps. walk t certificate rest (ps ++ ns)) ≡ w) g.1 (walks_into t certificate fuel rest n ns ms w f e h k))

pub walks_halt : (t : Terms) (certificate : List CertificateNode) (fuel rest : ℕ) (n : Node) (ns ms : List Node) (w : Walked) → fuel ≡ suc rest → ms ≡ n ∷ ns
    → (is_final n || is_covered certificate n) ≡ false → next_nodes t n ≡ None → walk t certificate fuel ms ≡ w → Halts n.a.counter n.e.counter ≡ w
walks_halt t certificate fuel rest n ns ms w f e h g k =
    subst (λ (o : Option (List Node)). after_next n o (λ ps. walk t certificate rest (ps ++ ns)) ≡ w) g (walks_into t certificate fuel rest n ns ms w f e h k)

-- ---- starts

pub starts_final : (t : Terms) (certificate : List CertificateNode) (n : Node) → is_final n ≡ true → Ends ≡ walk_start t certificate n
starts_final t certificate n h = rw h refl

pub starts_halt : (t : Terms) (certificate : List CertificateNode) (n : Node) → is_final n ≡ false → next_nodes t n ≡ None → Halts n.a.counter n.e.counter ≡ walk_start t certificate n
starts_halt t certificate n h g = rw (h, g) refl

pub starts_on : (t : Terms) (certificate : List CertificateNode) (n : Node) (os : List Node) → is_final n ≡ false → GoesOn true (next_nodes t n) [] os
    → walk t certificate 9999 os ≡ walk_start t certificate n
starts_on t certificate n os h g =
    let all : os ≡ g.0 = g.2 ∙ append-nil g.0 in
    rw (h, g.1, all) refl

-- ---- visits

-- a node with the same queues
pub with_waiting : (n : Node) (w : Waiting) → w ≡ n.waiting → n ≡ record n { waiting = w }
with_waiting n w e = subst (λ (v : Waiting). n ≡ record n { waiting = v }) (sym e) refl

pub stack_end : (t : Terms) (certificate : List CertificateNode) (fuel : ℕ) (ns : List Node) → ns ≡ [] → Ends ≡ walk t certificate fuel ns
stack_end t certificate fuel ns e = sym (ends_nil t certificate fuel ns (walk t certificate fuel ns) e refl)

pub visit_past : (t : Terms) (certificate : List CertificateNode) (fuel : ℕ) (n : Node) (ns : List Node) → (is_final n || is_covered certificate n) ≡ true
    → walk t certificate fuel ns ≡ walk t certificate (suc fuel) (n ∷ ns)
visit_past t certificate fuel n ns h = walks_past t certificate (suc fuel) fuel n ns (n ∷ ns) (walk t certificate (suc fuel) (n ∷ ns)) refl refl h refl

pub visit_on : (t : Terms) (certificate : List CertificateNode) (fuel : ℕ) (n : Node) (ns os : List Node) (o : Option Kept) → (is_final n || is_covered certificate n) ≡ false
    → WentOn o n (next_nodes t n) ns os → Visits o (walk t certificate (suc fuel) (n ∷ ns)) (walk t certificate fuel os)
visit_on t certificate fuel n ns os None h g =
    walks_on t certificate (suc fuel) fuel n ns (n ∷ ns) os (walk t certificate (suc fuel) (n ∷ ns)) refl refl h g refl
visit_on t certificate fuel n ns os (Some w) h g =
    g.1 ∙ walks_halt t certificate (suc fuel) fuel n ns (n ∷ ns) (walk t certificate (suc fuel) (n ∷ ns)) refl refl h g.0 refl

-- ---- from a start

pub start_on : (t : Terms) (certificate : List CertificateNode) (n : Node) (o : Option Kept) (old os : List Node) (w : Walked) → is_final n ≡ false → old ≡ [] → o ≡ None
    → WentOn o n (next_nodes t n) old os → w ≡ walk t certificate 9999 os → w ≡ walk_start t certificate n
start_on t certificate n o old os w h e f g k =
    k ∙ starts_on t certificate n os h (subst (λ (ns : List Node). GoesOn true (next_nodes t n) ns os) e (subst (λ (p : Option Kept). WentOn p n (next_nodes t n) old os) f g))

pub start_halts : (t : Terms) (certificate : List CertificateNode) (n : Node) (o : Option Kept) (old os : List Node) (w : Kept) → is_final n ≡ false → o ≡ Some w
    → WentOn o n (next_nodes t n) old os → walked_of w ≡ walk_start t certificate n
start_halts t certificate n o old os w h f g =
    let halts = subst (λ (p : Option Kept). WentOn p n (next_nodes t n) old os) f g in
    halts.1 ∙ starts_halt t certificate n h halts.0

-- ---- the turns of the walk

left_over : (i : ℕ) → i < 9999 → suc (9999 - (i + 1)) ≡ 9999 - i
left_over i l = omega arith

pub stops_here : (t : Terms) (certificate : List CertificateNode) (i : ℕ) (old new : List Node) (o : Option Kept) (w : Kept) (whole : Walked) → i < 9999 → o ≡ Some w
    → ((fuel : ℕ) → Visits o (walk t certificate (suc fuel) old) (walk t certificate fuel new)) → walk t certificate (9999 - i) old ≡ whole → walked_of w ≡ whole
stops_here t certificate i old new o w whole l e h k =
    subst (λ (p : Option Kept). Visits p (walk t certificate (suc (9999 - (i + 1))) old) (walk t certificate (9999 - (i + 1)) new)) e (h (9999 - (i + 1)))
    ∙ (ap (λ (f : ℕ). walk t certificate f old) (left_over i l) ∙ k)

pub no_some : {X : Type 0} (o : Option X) → ((x : X) → o ≡ Some x → ⊥) → o ≡ None
no_some None h = refl
no_some (Some x) h = absurd (h x refl)

pub turns_on : (t : Terms) (certificate : List CertificateNode) (i : ℕ) (old new : List Node) (o : Option Kept) (whole : Walked) → i < 9999 → ((w : Kept) → o ≡ Some w → ⊥)
    → ((fuel : ℕ) → Visits o (walk t certificate (suc fuel) old) (walk t certificate fuel new)) → walk t certificate (9999 - i) old ≡ whole
    → walk t certificate (9999 - (i + 1)) new ≡ whole
turns_on t certificate i old new o whole l e h k =
    subst (λ (p : Option Kept). Visits p (walk t certificate (suc (9999 - (i + 1))) old) (walk t certificate (9999 - (i + 1)) new)) (no_some o e) (h (9999 - (i + 1)))
    ∙ (ap (λ (f : ℕ). walk t certificate f old) (left_over i l) ∙ k)

nothing_over : (i : ℕ) → 9999 ≤ i → 9999 - i ≡ 0
nothing_over i l = omega arith

none_stacked : (ss : List NodeSpot) → length ss ≡ 0 → nodes_of ss ≡ []
none_stacked [] e = refl
none_stacked (s ∷ ss) e = absurd (omega arith)

pub ends_here : (t : Terms) (certificate : List CertificateNode) (i : ℕ) (ss : List NodeSpot) (whole : Walked) → length ss ≡ 0 → walk t certificate (9999 - i) (nodes_of ss) ≡ whole → Ends ≡ whole
ends_here t certificate i ss whole e h = sym (ends_nil t certificate (9999 - i) (nodes_of ss) whole (none_stacked ss e) h)

pub passes_here : (t : Terms) (certificate : List CertificateNode) (i : ℕ) (ss : List NodeSpot) (whole : Walked) → 9999 ≤ i → 0 < length ss → walk t certificate (9999 - i) (nodes_of ss) ≡ whole
    → Passes ≡ whole
passes_here t certificate i ss whole l m h =
    let some : 0 < length (nodes_of ss) = omega (arith, length-map (reverse ss) node_of, length-reverse ss) in
    sym (passes_more t certificate (nodes_of ss) whole some (ap (λ (f : ℕ). walk t certificate f (nodes_of ss)) (sym (nothing_over i l)) ∙ h))

-- ---- the stack's last node

pub taken : (o : Option NodeSpot) (old new : List NodeSpot) → old ≡ new ++ option_to_list o → All Holds old → IfSome o (λ s. (nodes_of old ≡ node_of s ∷ nodes_of new) × Holds s)
taken None old new e h = tt
taken (Some s) old new e h = (ap nodes_of e ∙ nodes_more new s, subst Holds (get_or_at new s [] s (length new) refl) (subst (All Holds) e h (length new) s (omega (arith, length-append new (s ∷ [])))))

pub kept_front : (o : Option NodeSpot) (old new : List NodeSpot) → old ≡ new ++ option_to_list o → All Holds old → All Holds new
kept_front o old new e h k d l =
    subst Holds (get_or_append_left new (option_to_list o) d k l) (subst (All Holds) e h k d (omega (arith, length-append new (option_to_list o))))
