-- Tables of names as lists.
use Rattle.std.proofs.Common.{◌≡◌, ℕ, ◌+◌, ◌-◌, ◌<◌, ◌≤◌, Bool, true, false, cond, nat_eq, List, [], ◌∷◌, ◌++◌, map, length, take, drop, get_or, reverse, find, Option, Some, None, subst, refl, ap, sym, ◌∙◌, append_assoc, append-nil, length-append, arith}
use Rattle.std.proofs.lemmas.List.{take_rest, get_or-reverse, reverse-append, take-append-le, take-append-drop, take_more, length-take, map_push, take-map}
use Rattle.std.proofs.lemmas.Option.{slice_get-get_or}
use Rattle.dae_names.specs.Latest.{latest_of}
use Rattle.dae_names.proofs.Rows.{latest_found, latest_inside, pop_undoes_push}
use Rattle.dae_parse_parts.specs.declared.scope.Binding.{Binding}
use Rattle.dae_parse_parts.specs.Scopes.{Scopes, bound, bound_to, closed, innermost}
use Rattle.dae_parse_parts.specs.ShownNames.{pair_of, shown, cuts, shown_outside, bound_all, Fall, AreWithin, IsScope, number_of, numbers_of}

pub shown_more : {B : Type 0} → (bs : List (Binding B)) (b : Binding B) → shown (bs ++ b ∷ []) ≡ pair_of b ∷ shown bs
shown_more bs b = ap (map pair_of) (reverse-append bs (b ∷ []))

cuts_same : {B : Type 0} → (bs cs : List (Binding B)) (limit : ℕ) (ks : List ℕ) → ((k : ℕ) → k ≤ limit → take k bs ≡ take k cs) → Fall limit ks → cuts bs ks ≡ cuts cs ks
cuts_same bs cs limit [] e h = refl
cuts_same bs cs limit (k ∷ ks) e h =
    rw (e k h.0) (ap (λ (ns : List (List _)). shown (take k cs) ∷ ns) (cuts_same bs cs k ks (λ j le. e j (omega (arith, h.0))) h.1))

cuts_more : {B : Type 0} → (bs : List (Binding B)) (b : Binding B) (limit : ℕ) (ks : List ℕ) → limit ≤ length bs → Fall limit ks → cuts (bs ++ b ∷ []) ks ≡ cuts bs ks
cuts_more bs b limit ks le h = cuts_same (bs ++ b ∷ []) bs limit ks (λ k l. take-append-le k bs (b ∷ []) (omega arith)) h

-- the first k of a list, cut at j, are its first j
cut_twice : {B : Type 0} → (k : ℕ) (bs : List (Binding B)) (j : ℕ) → k ≤ length bs → j ≤ k → take j (take k bs) ≡ take j bs
cut_twice k bs j le l =
    let m : length (take k bs) ≡ k = omega (arith, length-take k bs) in
    let e : take j (take k bs ++ drop k bs) ≡ take j (take k bs) = take-append-le j (take k bs) (drop k bs) (omega arith) in
    sym e ∙ ap (take j) (take-append-drop k bs)

pub fall_more : (limit more : ℕ) (ks : List ℕ) → limit ≤ more → Fall limit ks → Fall more ks
fall_more limit more [] le h = tt
fall_more limit more (k ∷ ks) le h = (omega (arith, h.0), h.1)

scopes : {B : Type 0} → List (ℕ × B) → List (List (ℕ × B)) → Scopes B
scopes names outside = record { names = names; outside = outside }

pub bound_shown : {B : Type 0} → (bs : List (Binding B)) (b : Binding B) (starts : List ℕ) → AreWithin (length bs) starts
    → record { names = shown (bs ++ b ∷ []); outside = shown_outside (bs ++ b ∷ []) starts } ≡ bound b.name b.bound (record { names = shown bs; outside = shown_outside bs starts })
unfolding scopes
bound_shown bs b starts h =
    ap (λ (ns : List _). scopes ns (shown_outside (bs ++ b ∷ []) starts)) (shown_more bs b) ∙ ap (λ (os : List (List _)). scopes (pair_of b ∷ shown bs) os) (cuts_more bs b (length bs) (reverse starts) (omega arith) h)

closed_at : {B : Type 0} → (bs : List (Binding B)) (k : ℕ) (ks js : List ℕ) → js ≡ k ∷ ks → Fall (length bs) js
    → record { names = shown (take k bs); outside = cuts (take k bs) ks } ≡ closed (record { names = shown bs; outside = cuts bs js })
unfolding scopes
closed_at bs k ks js e h =
    let g : Fall (length bs) (k ∷ ks) = subst (Fall (length bs)) e h in
    rw e (ap (λ (os : List (List _)). scopes (shown (take k bs)) os) (cuts_same (take k bs) bs k ks (λ j le. cut_twice k bs j g.0 le) g.1))

pub closed_shown : {B : Type 0} → (bs : List (Binding B)) (starts : List ℕ) (k : ℕ) → AreWithin (length bs) (starts ++ k ∷ [])
    → record { names = shown (take k bs); outside = shown_outside (take k bs) starts } ≡ closed (record { names = shown bs; outside = shown_outside bs (starts ++ k ∷ []) })
closed_shown bs starts k h = closed_at bs k (reverse starts) (reverse (starts ++ k ∷ [])) (reverse-append starts (k ∷ [])) h

bound_append : {B : Type 0} → (bs cs : List (Binding B)) (names : List (ℕ × B)) → bound_all (bs ++ cs) names ≡ bound_all cs (bound_all bs names)
bound_append [] cs names = refl
bound_append (b ∷ bs) cs names = bound_append bs cs (pair_of b ∷ names)

bound_more : {B : Type 0} → (bs : List (Binding B)) (k : ℕ) (d : Binding B) (names : List (ℕ × B)) → k < length bs → bound_all (take (k + 1) bs) names ≡ pair_of (get_or bs k d) ∷ bound_all (take k bs) names
bound_more bs k d names lt =
    ap (λ (xs : List (Binding _)). bound_all xs names) (take_more bs k d lt) ∙ bound_append (take k bs) (get_or bs k d ∷ []) names

pub bound_next : {B : Type 0} → (bs : List (Binding B)) (k : ℕ) (b : Binding B) (old now : Scopes B) → k < length bs → b ≡ get_or bs k b → now ≡ record { names = bound_all (take k bs) old.names; outside = old.outside }
    → bound b.name b.bound now ≡ record { names = bound_all (take (k + 1) bs) old.names; outside = old.outside }
unfolding scopes
bound_next bs k b old now lt f e =
    ap (bound b.name b.bound) e ∙ ap (λ (c : Binding _). bound c.name c.bound (scopes (bound_all (take k bs) old.names) old.outside)) f ∙ ap (λ (ns : List _). scopes ns old.outside) (sym (bound_more bs k b old.names lt))

-- the names of bindings in two parts are those of the first, with the second bound behind
shown_append : {B : Type 0} → (bs cs : List (Binding B)) → shown (bs ++ cs) ≡ bound_all cs (shown bs)
shown_append bs [] = ap shown (append-nil bs)
shown_append bs (c ∷ cs) =
    ap shown (sym (append_assoc bs (c ∷ []) cs)) ∙ shown_append (bs ++ c ∷ []) cs ∙ ap (bound_all cs) (shown_more bs c)

pub shown_split : {B : Type 0} → (bs : List (Binding B)) (k : ℕ) → shown bs ≡ bound_all (drop k bs) (shown (take k bs))
shown_split bs k = ap shown (sym (take-append-drop k bs)) ∙ shown_append (take k bs) (drop k bs)

innermost_at : {B : Type 0} → (bs : List (Binding B)) (ks : List ℕ) → innermost (cuts bs ks) ≡ shown (take (get_or ks 0 0) bs)
innermost_at bs [] = refl
innermost_at bs (k ∷ ks) = refl

last_first : (ks : List ℕ) → get_or (reverse ks) 0 0 ≡ get_or ks (length ks - 1) 0
last_first [] = refl
last_first (k ∷ ks) = get_or-reverse (k ∷ ks) 0 0 (omega arith) ∙ ap (λ (n : ℕ). get_or (k ∷ ks) n 0) (omega arith)

-- the names of the bindings behind the last start, or of all
pub inner_shown : {B : Type 0} → (bs : List (Binding B)) (starts : List ℕ) (k : ℕ) → k ≡ get_or starts (length starts - 1) 0
    → shown bs ≡ bound_all (take (length bs - k) (drop k bs)) (innermost (shown_outside bs starts))
inner_shown bs starts k e =
    let o : innermost (shown_outside bs starts) ≡ shown (take k bs) = innermost_at bs (reverse starts) ∙ ap (λ (n : ℕ). shown (take n bs)) (last_first starts ∙ sym e) in
    rw (take_rest bs k, o) (shown_split bs k)

-- ---- what a name is bound to, by the binding that is found

abbrev bound_of : {B : Type 0} → Option (Binding B) → Option B
bound_of None = None
bound_of (Some b) = Some b.bound

bound_as_found : {B : Type 0} → (rs : List (Binding B)) (name : ℕ) → bound_to (map pair_of rs) name ≡ bound_of (find (λ b. nat_eq (number_of b) name) rs)
bound_as_found [] name = refl
bound_as_found (r ∷ rs) name = by (nat_eq r.name name) (bound_as_found rs name)
  where
    by : (t : Bool) → bound_to (map pair_of rs) name ≡ bound_of (find (λ b. nat_eq (number_of b) name) rs) → cond t (Some r.bound) (bound_to (map pair_of rs) name) ≡ bound_of (cond t (Some r) (find (λ b. nat_eq (number_of b) name) rs))
    by true rest = refl
    by false rest = rest

-- ---- what is true of a scope, as it changes

pub empty_scope : {B : Type 0} → (bs : List (Binding B)) (index starts : List ℕ) → bs ≡ [] → index ≡ [] → starts ≡ [] → IsScope bs index starts
empty_scope bs index starts none unnamed unopened = record {
  within = subst (AreWithin (length bs)) (sym unopened) tt;
  indexed = unnamed ∙ sym (ap numbers_of none);
}

module _ {B : Type 0} (bs : List (Binding B)) (index starts : List ℕ) (is : IsScope bs index starts) where
  pub scope_bound : (all : List (Binding B)) (b : Binding B) (new : List ℕ) → all ≡ bs ++ b ∷ [] → new ≡ index ++ b.name ∷ [] → IsScope all new starts
  scope_bound all b new more pushed = record {
    within = fall_more (length bs) (length all) (reverse starts) (omega (arith, simp length-append at (ap length more))) is.within;
    indexed = pushed ∙ ap (λ (ns : List ℕ). ns ++ b.name ∷ []) is.indexed ∙ sym (map_push number_of bs b) ∙ sym (ap numbers_of more);
  }

  pub scope_kept : (same : List (Binding B)) (new : List ℕ) → same ≡ bs → new ≡ index → IsScope same new starts
  scope_kept same new e f = record {
    within = subst (λ (l : List (Binding B)). AreWithin (length l) starts) (sym e) is.within;
    indexed = f ∙ is.indexed ∙ sym (ap numbers_of e);
  }

  pub scope_unbound : (all rest : List (Binding B)) (b : Binding B) (len : ℕ) (new : List ℕ) → len ≡ length all → all ≡ bs ++ b ∷ [] → rest ≡ take (len - 1) all → new ≡ index → IsScope rest new starts
  scope_unbound all rest b len new long more cut f = scope_kept rest new (pop_undoes_push bs all rest b len long more cut) f

  pub scope_opened : (all : List ℕ) (k : ℕ) → all ≡ starts ++ k ∷ [] → k ≡ length bs → IsScope bs index all
  scope_opened all k more here = record {
    within = subst (Fall (length bs)) (sym (ap reverse more ∙ reverse-append starts (k ∷ []))) (omega arith, subst (λ (n : ℕ). Fall n (reverse starts)) (sym here) is.within);
    indexed = is.indexed;
  }

  -- a name is looked up
  told : (name : ℕ) (o : Option ℕ) → o ≡ latest_of (reverse index) name → o ≡ latest_of (reverse (numbers_of bs)) name
  told name o e = e ∙ ap (λ (ns : List ℕ). latest_of (reverse ns) name) is.indexed

  pub bound_inside : (name at : ℕ) → Some at ≡ latest_of (reverse index) name → at < length bs
  bound_inside name at e = latest_inside number_of bs name at (told name (Some at) e)

  pub bound_found : (name at : ℕ) (b : Binding B) → Some at ≡ latest_of (reverse index) name → b ≡ get_or bs at b → Some b.bound ≡ bound_to (shown bs) name
  bound_found name at b e read =
      ap bound_of
      (ap Some read ∙ sym (slice_get-get_or bs at b (bound_inside name at e)) ∙ latest_found number_of bs name (Some at) (told name (Some at) e)) ∙ sym (bound_as_found (reverse bs) name)

  pub bound_nowhere : (name : ℕ) → None ≡ latest_of (reverse index) name → None ≡ bound_to (shown bs) name
  bound_nowhere name e = ap bound_of (latest_found number_of bs name None (told name None e)) ∙ sym (bound_as_found (reverse bs) name)

-- the innermost scope closes
pub scope_closed : {B : Type 0} → (bs : List (Binding B)) (index starts all : List ℕ) (k : ℕ) → all ≡ starts ++ k ∷ [] → IsScope bs index all
    → (front : List (Binding B)) (new : List ℕ) → front ≡ take k bs → new ≡ take k index → IsScope front new starts
scope_closed bs index starts all k more is front new cut fewer =
    let h : Fall (length bs) (k ∷ reverse starts) = subst (Fall (length bs)) (ap reverse more ∙ reverse-append starts (k ∷ [])) is.within in
    let inside : k ≤ length bs = h.0 in
    let long : k ≡ length front = omega (arith, ap length cut, length-take k bs) in
    record {
      within = subst (λ (n : ℕ). Fall n (reverse starts)) long h.1;
      indexed = fewer ∙ ap (take k) is.indexed ∙ take-map number_of k bs ∙ sym (ap numbers_of cut);
    }
