-- The largest number of a list whose groups come in order.
use Rattle.std.proofs.Common.{◌≡◌, ◌⊎◌, inl, inr, ℕ, ◌+◌, ◌<◌, ◌≤◌, ◌^◌, max, Bool, true, false, nat_eq, List, [], ◌∷◌, refl, ap, sym, subst, arith}
use Rattle.std.specs.Prelude.{if◌then◌else◌, ◌&&◌}
use Rattle.std.proofs.lemmas.Bool.Decides.{nat_tests}
use Rattle.std.proofs.lemmas.Bool.{cases_eq, cases_lt, cases_order}
use Rattle.dae_ir.specs.Code.{Done, Do, If, Loop}
use Rattle.dae_ir.specs.Streams.{Actions, actions_of}
use Rattle.dae_ir.specs.Budgets.{in_group, AllInside, AnyInside, AllLists, AnyList, IsLargest, IsBudgetOf, stands, is_load_for_e, is_copy, is_own_load, is_address, is_datum, is_message, is_told, never}
use Rattle.dae_ir.specs.declared.stream.Action.{Action}
use Rattle.dae_ir.specs.declared.stream.Mark.{Mark}
use Rattle.dae_ir.specs.declared.stream.Branch.{Branch}
use Rattle.dae_ir.specs.declared.stream.StreamFunction.{StreamFunction}
use Rattle.dae_split_pair.specs.Kinds.{is_counted}
use Rattle.dae_split_pair.specs.Tallies.{IsOrdered, IsSmall, HasSmallGroups, one, most, most_of_all}
use Rattle.dae_split_pair.specs.declared.kinds.Counted.{Counted}
use Rattle.dae_split_pair.specs.declared.kinds.Counted.TheVariants.{Loads, Copies}
use Rattle.dae_ir.specs.declared.stream.Pair.{Pair}
use Rattle.dae_base.specs.declared.Depths.{Depths}

here : (b : Bool) (x y : ℕ) → x ≡ y → (if b && nat_eq x y then 1 else 0) ≡ one b
here true x y e = grind (arith, nat_tests)
here false x y e = refl

elsewhere : (b : Bool) (x y : ℕ) → (x ≡ y → ⊥) → ◌≡◌ {A = ℕ} (if b && nat_eq x y then 1 else 0) 0
elsewhere true x y ne = grind (arith, nat_tests)
elsewhere false x y ne = refl

same_group : (x y n m : ℕ) → x ≡ y → (if nat_eq x y then n else m) ≡ n
same_group x y n m e = grind (arith, nat_tests)

new_group : (x y n m : ℕ) → (x ≡ y → ⊥) → (if nat_eq x y then n else m) ≡ m
new_group x y n m ne = grind (arith, nat_tests)

module _ (kind : Counted) where
  abbrev is : Action → Bool
  is = is_counted kind

  none_before : (code : Actions) (g h : ℕ) → IsOrdered g code → h < g → in_group is h code ≡ 0
  none_before Done g h o lt = refl
  none_before (Do mark x k) g h o lt =
      let a = elsewhere (is x) mark.group h (λ e. omega arith) in
      let b = none_before k mark.group h o.1 (omega arith) in
      omega arith
  none_before (If mark b p q k) g h o lt = none_before k g h o lt
  none_before (Loop mark p q k) g h o lt = none_before k g h o lt

  -- ---- no group has more

  -- n were in group g before
  abbrev AtMost : ℕ → ℕ → Actions → ℕ → Type 0
  AtMost g n code m = (n + in_group is g code ≤ m) × ((h : ℕ) → g < h → in_group is h code ≤ m)

  module _ (mark : Mark) (x : Action) (k : Actions) (g n : ℕ) (o : IsOrdered g (Do mark x k)) where
    abbrev Whole : Type 0
    Whole = AtMost g n (Do mark x k) (most kind g n (Do mark x k))

    joined_most : mark.group ≡ g → AtMost g (n + one (is x)) k (most kind g (n + one (is x)) k) → Whole
    joined_most e rest =
        let total = same_group mark.group g (most kind g (n + one (is x)) k) (max n (most kind mark.group (one (is x)) k)) e in
        let in_g = here (is x) mark.group g e in
        (let first = rest.0 in omega arith, λ h lt. let out = elsewhere (is x) mark.group h (λ u. omega arith) in let r = rest.1 h lt in omega arith)

    behind_most : (mark.group ≡ g → ⊥) → AtMost mark.group (one (is x)) k (most kind mark.group (one (is x)) k) → Whole
    behind_most ne rest =
        let total = new_group mark.group g (most kind g (n + one (is x)) k) (max n (most kind mark.group (one (is x)) k)) ne in
        let up = o.0 in
        let out = elsewhere (is x) mark.group g ne in
        let none = none_before k mark.group g o.1 (omega arith) in
        (omega arith, λ h lt. by_number h lt total (cases_order h mark.group))
      where
        by_number : (h : ℕ) → g < h → most kind g n (Do mark x k) ≡ max n (most kind mark.group (one (is x)) k) → (h ≡ mark.group) ⊎ ((h < mark.group) ⊎ (mark.group < h)) → in_group is h (Do mark x k) ≤ most kind g n (Do mark x k)
        by_number h lt total (inl e) =
            let in_h = here (is x) mark.group h (sym e) in
            let r = rest.0 in
            let same : in_group is h k ≡ in_group is mark.group k = ap (λ (y : ℕ). in_group is y k) e in
            omega arith
        by_number h lt total (inr (inl below)) =
            let out = elsewhere (is x) mark.group h (λ e. omega arith) in
            let none = none_before k mark.group h o.1 below in
            omega arith
        by_number h lt total (inr (inr above)) =
            let out = elsewhere (is x) mark.group h (λ e. omega arith) in
            let r = rest.1 h above in
            omega arith

    action_most : (mark.group ≡ g) ⊎ (mark.group ≡ g → ⊥) → (IsOrdered g k → AtMost g (n + one (is x)) k (most kind g (n + one (is x)) k)) → AtMost mark.group (one (is x)) k (most kind mark.group (one (is x)) k) → Whole
    action_most (inl e) same new = joined_most e (same (subst (λ (y : ℕ). IsOrdered y k) e o.1))
    action_most (inr ne) same new = behind_most ne new

  at_most : (code : Actions) (g n : ℕ) → IsOrdered g code → AtMost g n code (most kind g n code)
  at_most Done g n o = (omega arith, λ h lt. omega arith)
  at_most (Do mark x k) g n o = action_most mark x k g n o (cases_eq mark.group g) (λ p. at_most k g (n + one (is x)) p) (at_most k mark.group (one (is x)) o.1)
  at_most (If mark b p q k) g n o =
      let rest = at_most k g n o in
      (let r = rest.0 in omega arith, λ h lt. let r = rest.1 h lt in omega arith)
  at_most (Loop mark p q k) g n o =
      let rest = at_most k g n o in
      (let r = rest.0 in omega arith, λ h lt. let r = rest.1 h lt in omega arith)

  abbrev Below : ℕ → Actions → Type 0
  Below m code = (h : ℕ) → in_group is h code ≤ m

  list_most : (code : Actions) (m : ℕ) → IsOrdered 0 code → most kind 0 0 code ≤ m → Below m code
  list_most code m o le h =
      let rest = at_most code 0 0 o in
      elim (cases_lt 0 h) [ inl lt ↦ (let r = rest.1 h lt in omega arith) | inr ge ↦ (let r = rest.0 in let e : h ≡ 0 = omega arith in rw e (omega arith)) ]

  action_inside : (mark : Mark) (x : Action) (k : Actions) (g n m : ℕ) → most kind g n (Do mark x k) ≤ m → (mark.group ≡ g) ⊎ (mark.group ≡ g → ⊥)
      → (most kind g (n + one (is x)) k ≤ m → AllInside (Below m) k) → (most kind mark.group (one (is x)) k ≤ m → AllInside (Below m) k) → AllInside (Below m) k
  action_inside mark x k g n m le (inl e) same new =
      let total = same_group mark.group g (most kind g (n + one (is x)) k) (max n (most kind mark.group (one (is x)) k)) e in
      same (omega arith)
  action_inside mark x k g n m le (inr ne) same new =
      let total = new_group mark.group g (most kind g (n + one (is x)) k) (max n (most kind mark.group (one (is x)) k)) ne in
      new (omega arith)

  inside_most : (code : Actions) (g n m : ℕ) → AllInside (IsOrdered 0) code → most kind g n code ≤ m → AllInside (Below m) code
  inside_most Done g n m o le = tt
  inside_most (Do mark x k) g n m o le =
      action_inside mark x k g n m le (cases_eq mark.group g) (λ h. inside_most k g (n + one (is x)) m o h) (λ h. inside_most k mark.group (one (is x)) m o h)
  inside_most (If mark b p q k) g n m o le = (
    (list_most p m o.0.0 (omega arith), inside_most p 0 0 m o.0.1 (omega arith)),
    (list_most q m o.1.0 (omega arith), inside_most q 0 0 m o.1.1 (omega arith)),
    inside_most k g n m o.2 (omega arith),
  )
  inside_most (Loop mark p q k) g n m o le = (
    (list_most p m o.0.0 (omega arith), inside_most p 0 0 m o.0.1 (omega arith)),
    (list_most q m o.1.0 (omega arith), inside_most q 0 0 m o.1.1 (omega arith)),
    inside_most k g n m o.2 (omega arith),
  )

  all_most : (functions : List StreamFunction) (m : ℕ) → AllLists (IsOrdered 0) functions → most_of_all kind functions ≤ m → AllLists (Below m) functions
  all_most [] m o le = tt
  all_most (f ∷ fs) m o le = (
    (list_most (actions_of f.body) m o.0.0 (omega arith), inside_most (actions_of f.body) 0 0 m o.0.1 (omega arith)),
    all_most fs m o.1 (omega arith),
  )

  -- ---- one group has as many

  abbrev Has : ℕ → Actions → Type 0
  Has m code = (h : ℕ) × (in_group is h code ≡ m)

  abbrev Met : ℕ → ℕ → Actions → ℕ → Type 0
  Met g n code m = (n + in_group is g code ≡ m) ⊎ (((h : ℕ) × (g < h) × (in_group is h code ≡ m)) ⊎ AnyInside (Has m) code)

  own : (code : Actions) (m : ℕ) → Met 0 0 code m → Has m code ⊎ AnyInside (Has m) code
  own code m (inl e) = inl (0, omega arith)
  own code m (inr (inl w)) = inl (w.0, w.2)
  own code m (inr (inr a)) = inr a

  same_met : (mark : Mark) (x : Action) (k : Actions) (g n m : ℕ) → mark.group ≡ g → Met g (n + one (is x)) k m → Met g n (Do mark x k) m
  same_met mark x k g n m e (inl s) = let in_g = here (is x) mark.group g e in inl (omega arith)
  same_met mark x k g n m e (inr (inl w)) =
      let lt = w.1 in
      let out = elsewhere (is x) mark.group w.0 (λ u. omega arith) in
      let s = w.2 in
      inr (inl (w.0, lt, omega arith))
  same_met mark x k g n m e (inr (inr a)) = inr (inr a)

  new_met : (mark : Mark) (x : Action) (k : Actions) (g n m : ℕ) → g < mark.group → Met mark.group (one (is x)) k m → Met g n (Do mark x k) m
  new_met mark x k g n m up (inl s) = let in_h = here (is x) mark.group mark.group refl in inr (inl (mark.group, up, omega arith))
  new_met mark x k g n m up (inr (inl w)) =
      let lt = w.1 in
      let out = elsewhere (is x) mark.group w.0 (λ u. omega arith) in
      let s = w.2 in
      inr (inl (w.0, omega arith, omega arith))
  new_met mark x k g n m up (inr (inr a)) = inr (inr a)

  -- of two lists and what is behind them, the first, the second or the rest has the largest
  largest_of : (p q k m : ℕ) → max (max p q) k ≡ m → (p ≡ m) ⊎ ((q ≡ m) ⊎ (k ≡ m))
  largest_of p q k m e = by_rest (cases_lt (max p q) k) (cases_lt p q)
    where
      by_rest : (max p q < k) ⊎ (k ≤ max p q) → (p < q) ⊎ (q ≤ p) → (p ≡ m) ⊎ ((q ≡ m) ⊎ (k ≡ m))
      by_rest (inl a) b = inr (inr (omega arith))
      by_rest (inr a) (inl b) = inr (inl (omega arith))
      by_rest (inr a) (inr b) = inl (omega arith)

  action_met : (mark : Mark) (x : Action) (k : Actions) (g n m : ℕ) → IsOrdered g (Do mark x k) → most kind g n (Do mark x k) ≡ m → (mark.group ≡ g) ⊎ (mark.group ≡ g → ⊥)
      → (most kind mark.group (one (is x)) k < n) ⊎ (n ≤ most kind mark.group (one (is x)) k)
      → (IsOrdered g k → most kind g (n + one (is x)) k ≡ m → Met g (n + one (is x)) k m) → (most kind mark.group (one (is x)) k ≡ m → Met mark.group (one (is x)) k m) → Met g n (Do mark x k) m
  action_met mark x k g n m o e (inl same) cases before behind =
      let total = same_group mark.group g (most kind g (n + one (is x)) k) (max n (most kind mark.group (one (is x)) k)) same in
      same_met mark x k g n m same (before (subst (λ (y : ℕ). IsOrdered y k) same o.1) (omega arith))
  action_met mark x k g n m o e (inr ne) (inl less) before behind =
      let total = new_group mark.group g (most kind g (n + one (is x)) k) (max n (most kind mark.group (one (is x)) k)) ne in
      let up = o.0 in
      let out = elsewhere (is x) mark.group g ne in
      let none = none_before k mark.group g o.1 (omega arith) in
      inl (omega arith)
  action_met mark x k g n m o e (inr ne) (inr ge) before behind =
      let total = new_group mark.group g (most kind g (n + one (is x)) k) (max n (most kind mark.group (one (is x)) k)) ne in
      let up = o.0 in
      new_met mark x k g n m (omega arith) (behind (omega arith))

  -- by where the largest is: in the first list, in the second or behind
  abbrev Lists : Actions → Actions → Actions → ℕ → ℕ → ℕ → Type 0
  Lists p q k g n m = (Has m p ⊎ AnyInside (Has m) p) ⊎ ((Has m q ⊎ AnyInside (Has m) q) ⊎ Met g n k m)

  if_met : (mark : Mark) (b : Branch) (p q k : Actions) (g n m : ℕ) → Lists p q k g n m → Met g n (If mark b p q k) m
  if_met mark b p q k g n m (inl a) = inr (inr (inl a))
  if_met mark b p q k g n m (inr (inl a)) = inr (inr (inr (inl a)))
  if_met mark b p q k g n m (inr (inr (inl s))) = inl s
  if_met mark b p q k g n m (inr (inr (inr (inl w)))) = inr (inl w)
  if_met mark b p q k g n m (inr (inr (inr (inr a)))) = inr (inr (inr (inr a)))

  loop_met : (mark : Mark) (p q k : Actions) (g n m : ℕ) → Lists p q k g n m → Met g n (Loop mark p q k) m
  loop_met mark p q k g n m (inl a) = inr (inr (inl a))
  loop_met mark p q k g n m (inr (inl a)) = inr (inr (inr (inl a)))
  loop_met mark p q k g n m (inr (inr (inl s))) = inl s
  loop_met mark p q k g n m (inr (inr (inr (inl w)))) = inr (inl w)
  loop_met mark p q k g n m (inr (inr (inr (inr a)))) = inr (inr (inr (inr a)))

  lists_met : (p q k : Actions) (g n m : ℕ) → (most kind 0 0 p ≡ m) ⊎ ((most kind 0 0 q ≡ m) ⊎ (most kind g n k ≡ m))
      → (most kind 0 0 p ≡ m → Met 0 0 p m) → (most kind 0 0 q ≡ m → Met 0 0 q m) → (most kind g n k ≡ m → Met g n k m) → Lists p q k g n m
  lists_met p q k g n m (inl e) in_p in_q in_k = inl (own p m (in_p e))
  lists_met p q k g n m (inr (inl e)) in_p in_q in_k = inr (inl (own q m (in_q e)))
  lists_met p q k g n m (inr (inr e)) in_p in_q in_k = inr (inr (in_k e))

  met : (code : Actions) (g n m : ℕ) → IsOrdered g code → AllInside (IsOrdered 0) code → most kind g n code ≡ m → Met g n code m
  met Done g n m o i e = inl (omega arith)
  met (Do mark x k) g n m o i e =
      action_met mark x k g n m o e (cases_eq mark.group g) (cases_lt (most kind mark.group (one (is x)) k) n)
      (λ p h. met k g (n + one (is x)) m p i h) (λ h. met k mark.group (one (is x)) m o.1 i h)
  met (If mark b p q k) g n m o i e =
      if_met mark b p q k g n m (lists_met p q k g n m (largest_of (most kind 0 0 p) (most kind 0 0 q) (most kind g n k) m e)
      (λ h. met p 0 0 m i.0.0 i.0.1 h) (λ h. met q 0 0 m i.1.0 i.1.1 h) (λ h. met k g n m o i.2 h))
  met (Loop mark p q k) g n m o i e =
      loop_met mark p q k g n m (lists_met p q k g n m (largest_of (most kind 0 0 p) (most kind 0 0 q) (most kind g n k) m e)
      (λ h. met p 0 0 m i.0.0 i.0.1 h) (λ h. met q 0 0 m i.1.0 i.1.1 h) (λ h. met k g n m o i.2 h))

  -- in the first function, or further on
  functions_met : (f : StreamFunction) (fs : List StreamFunction) (m : ℕ) → IsOrdered 0 (actions_of f.body) × AllInside (IsOrdered 0) (actions_of f.body)
      → max (most kind 0 0 (actions_of f.body)) (most_of_all kind fs) ≡ m
      → (most kind 0 0 (actions_of f.body) < most_of_all kind fs) ⊎ (most_of_all kind fs ≤ most kind 0 0 (actions_of f.body))
      → (most_of_all kind fs ≡ m → (m ≡ 0) ⊎ AnyList (Has m) fs) → (m ≡ 0) ⊎ AnyList (Has m) (f ∷ fs)
  functions_met f fs m o e (inl less) rest = elim (rest (omega arith)) [ inl z ↦ inl z | inr a ↦ inr (inr a) ]
  functions_met f fs m o e (inr ge) rest = inr (inl (own (actions_of f.body) m (met (actions_of f.body) 0 0 m o.0 o.1 (omega arith))))

  all_met : (functions : List StreamFunction) (m : ℕ) → AllLists (IsOrdered 0) functions → most_of_all kind functions ≡ m → (m ≡ 0) ⊎ AnyList (Has m) functions
  all_met [] m o e = inl (omega arith)
  all_met (f ∷ fs) m o e = functions_met f fs m o.0 e (cases_lt (most kind 0 0 (actions_of f.body)) (most_of_all kind fs)) (λ h. all_met fs m o.1 h)

  pub largest : (functions : List StreamFunction) (m : ℕ) → AllLists (IsOrdered 0) functions → m ≡ most_of_all kind functions → IsLargest is m functions
  largest functions m o e = record {
    bound = all_most functions m o (omega arith);
    met = all_met functions m o (sym e);
  }

  -- ---- where all groups are small, so is the largest

  few_in : (code : Actions) (m : ℕ) → IsSmall is code → Has m code → m < 2 ^ 16
  few_in code m s w = let a = s w.0 in let e = w.1 in omega arith

  few_inside : (code : Actions) (m : ℕ) → AllInside (IsSmall is) code → AnyInside (Has m) code → m < 2 ^ 16
  few_inside Done m s a = absurd a
  few_inside (Do mark x k) m s a = few_inside k m s a
  few_inside (If mark b p q k) m s (inl (inl w)) = few_in p m s.0.0 w
  few_inside (If mark b p q k) m s (inl (inr a)) = few_inside p m s.0.1 a
  few_inside (If mark b p q k) m s (inr (inl (inl w))) = few_in q m s.1.0 w
  few_inside (If mark b p q k) m s (inr (inl (inr a))) = few_inside q m s.1.1 a
  few_inside (If mark b p q k) m s (inr (inr a)) = few_inside k m s.2 a
  few_inside (Loop mark p q k) m s (inl (inl w)) = few_in p m s.0.0 w
  few_inside (Loop mark p q k) m s (inl (inr a)) = few_inside p m s.0.1 a
  few_inside (Loop mark p q k) m s (inr (inl (inl w))) = few_in q m s.1.0 w
  few_inside (Loop mark p q k) m s (inr (inl (inr a))) = few_inside q m s.1.1 a
  few_inside (Loop mark p q k) m s (inr (inr a)) = few_inside k m s.2 a

  few : (functions : List StreamFunction) (m : ℕ) → AllLists (IsSmall is) functions → AnyList (Has m) functions → m < 2 ^ 16
  few [] m s a = absurd a
  few (f ∷ fs) m s (inl (inl w)) = few_in (actions_of f.body) m s.0.0 w
  few (f ∷ fs) m s (inl (inr a)) = few_inside (actions_of f.body) m s.0.1 a
  few (f ∷ fs) m s (inr a) = few fs m s.1 a

  pub fits : (functions : List StreamFunction) (m : ℕ) → AllLists (IsOrdered 0) functions → AllLists (IsSmall is) functions → m ≡ most_of_all kind functions → m < 2 ^ 16
  fits functions m o s e = by_met (all_met functions m o (sym e))
    where
      by_met : (m ≡ 0) ⊎ AnyList (Has m) functions → m < 2 ^ 16
      by_met (inl z) = omega arith
      by_met (inr a) = few functions m s a

-- ---- a budget whose numbers are small says that all groups are

inside_weaker : (P Q : Actions → Type 0) → ((code : Actions) → P code → Q code) → (code : Actions) → AllInside P code → AllInside Q code
inside_weaker P Q f Done h = tt
inside_weaker P Q f (Do mark x k) h = inside_weaker P Q f k h
inside_weaker P Q f (If mark b p q k) h = ((f p h.0.0, inside_weaker P Q f p h.0.1), (f q h.1.0, inside_weaker P Q f q h.1.1), inside_weaker P Q f k h.2)
inside_weaker P Q f (Loop mark p q k) h = ((f p h.0.0, inside_weaker P Q f p h.0.1), (f q h.1.0, inside_weaker P Q f q h.1.1), inside_weaker P Q f k h.2)

lists_weaker : (P Q : Actions → Type 0) → ((code : Actions) → P code → Q code) → (functions : List StreamFunction) → AllLists P functions → AllLists Q functions
lists_weaker P Q f [] h = tt
lists_weaker P Q f (g ∷ gs) h = ((f (actions_of g.body) h.0.0, inside_weaker P Q f (actions_of g.body) h.0.1), lists_weaker P Q f gs h.1)

pub small_by : (f : Action → Bool) (functions : List StreamFunction) (m : ℕ) → m < 2 ^ 16 → IsLargest f m functions → AllLists (IsSmall f) functions
small_by f functions m lt h = lists_weaker (λ code. (g : ℕ) → in_group f g code ≤ m) (IsSmall f) (λ code k g. let a = k g in omega arith) functions h.bound

pub small_groups : (pair : Pair) → AllLists (IsOrdered 0) pair.a.functions → ((b : Depths) → IsBudgetOf pair b → (b.ld < 2 ^ 16) × (b.cq < 2 ^ 16)) → HasSmallGroups pair
small_groups pair o small =
    let a = pair.a.functions in
    let e = pair.e.functions in
    let b : Depths = record {
      ld = most_of_all Loads a;
      al = stands is_own_load never a;
      sa = stands is_address never a;
      sd = stands is_datum never e;
      ab = stands is_message is_told a;
      eb = stands is_message is_told e;
      cq = most_of_all Copies a;
    } in
    let loads = largest Loads a (most_of_all Loads a) o refl in
    let copies = largest Copies a (most_of_all Copies a) o refl in
    let s = small b (record { ld = loads; al = refl; sa = refl; sd = refl; ab = refl; eb = refl; cq = copies }) in
    record {
      ordered = o;
      loads = small_by is_load_for_e a (most_of_all Loads a) s.0 loads;
      copies = small_by is_copy a (most_of_all Copies a) s.1 copies;
    }
