-- A number of a pair's budget is 0 exactly where no action of either stream uses its queue.
use Rattle.std.proofs.Common.{◌≡◌, inl, inr, ℕ, ◌+◌, ◌≤◌, Bool, true, false, ◌&&◌, ◌||◌, nat_eq, List, [], ◌∷◌, if◌then◌else◌, refl, sym, ◌∙◌, arith}
use Rattle.std.specs.List.{AllByRecursion, list_any}
use Rattle.std.proofs.lemmas.Bool.Decides.{nat_tests}
use Rattle.dae_ir.specs.Code.{Done, Do, If, Loop, Each}
use Rattle.dae_ir.specs.Budgets.{some, in_group, AllInside, AnyInside, AllLists, AnyList, IsLargest, stands}
use Rattle.dae_ir.specs.Streams.{Actions, actions_of}
use Rattle.dae_ir.specs.declared.stream.Action.{Action}
use Rattle.dae_ir.specs.declared.stream.Branch.{Branch}
use Rattle.dae_ir.specs.declared.stream.StreamFunction.{StreamFunction}

-- ---- what is counted has a number above 0

-- of each function's code
abbrev pub AllCode : (Action → Type 0) → (Branch → Type 0) → List StreamFunction → Type 0
AllCode I J fs = AllByRecursion (λ (f : StreamFunction). Each I J (actions_of f.body)) fs

module _ (f : Action → Bool) (m : ℕ) where
  abbrev Counted : Action → Type 0
  Counted a = f a ≡ true → 1 ≤ m

  group_same : (g : ℕ) → nat_eq g g ≡ true
  group_same g = grind (arith, nat_tests)

  one_counted : (b same : Bool) (n : ℕ) → same ≡ true → (if b && same then 1 else 0) + n ≤ m → b ≡ true → 1 ≤ m
  one_counted true true n e h t = omega arith
  one_counted true false n e h t = absurd (let x : false ≡ true = e in cc)
  one_counted false same n e h t = absurd (let x : false ≡ true = t in cc)

  less : (b : Bool) (n : ℕ) → (if b then 1 else 0) + n ≤ m → n ≤ m
  less true n h = omega arith
  less false n h = omega arith

  code_counted : (code : Actions) → ((g : ℕ) → in_group f g code ≤ m) → AllInside (λ (k : Actions). (g : ℕ) → in_group f g k ≤ m) code → Each Counted (λ b. Unit {0}) code
  code_counted Done h inside = tt
  code_counted (Do mark a k) h inside =
      (one_counted (f a) (nat_eq mark.group mark.group) (in_group f mark.group k) (group_same mark.group) (h mark.group), code_counted k (λ g. less (f a && nat_eq mark.group g) (in_group f g k) (h g)) inside)
  code_counted (If mark b p q k) h inside = (tt, code_counted p inside.0.0 inside.0.1, code_counted q inside.1.0 inside.1.1, code_counted k h inside.2)
  code_counted (Loop mark p q k) h inside = (code_counted p inside.0.0 inside.0.1, code_counted q inside.1.0 inside.1.1, code_counted k h inside.2)

  pub all_counted : (fs : List StreamFunction) → AllLists (λ (k : Actions). (g : ℕ) → in_group f g k ≤ m) fs → AllCode Counted (λ b. Unit {0}) fs
  all_counted [] h = tt
  all_counted (x ∷ fs) h = (code_counted (actions_of x.body) h.0.0 h.0.1, all_counted fs h.1)

  -- nowhere one of these, and the largest number of them is 0
  none_in : (g : ℕ) (code : Actions) → Each (λ (a : Action). f a ≡ false) (λ b. Unit {0}) code → in_group f g code ≡ 0
  none_in g Done h = refl
  none_in g (Do mark a k) h = rw (h.0, none_in g k h.1) refl
  none_in g (If mark b p q k) h = none_in g k h.3
  none_in g (Loop mark p q k) h = none_in g k h.2

  zero_inside : (code : Actions) → Each (λ (a : Action). f a ≡ false) (λ b. Unit {0}) code → AnyInside (λ (k : Actions). (g : ℕ) × (in_group f g k ≡ m)) code → m ≡ 0
  zero_inside Done h any = absurd any
  zero_inside (Do mark a k) h any = zero_inside k h.1 any
  zero_inside (If mark b p q k) h any = elim any [
    | inl x ↦ elim x [ inl here ↦ sym here.1 ∙ none_in here.0 p h.1 | inr deep ↦ zero_inside p h.1 deep ]
    | inr y ↦ elim y [ inl z ↦ elim z [ inl here ↦ sym here.1 ∙ none_in here.0 q h.2 | inr deep ↦ zero_inside q h.2 deep ] | inr rest ↦ zero_inside k h.3 rest ]
  ]
  zero_inside (Loop mark p q k) h any = elim any [
    | inl x ↦ elim x [ inl here ↦ sym here.1 ∙ none_in here.0 p h.0 | inr deep ↦ zero_inside p h.0 deep ]
    | inr y ↦ elim y [ inl z ↦ elim z [ inl here ↦ sym here.1 ∙ none_in here.0 q h.1 | inr deep ↦ zero_inside q h.1 deep ] | inr rest ↦ zero_inside k h.2 rest ]
  ]

  zero_lists : (fs : List StreamFunction) → AllCode (λ (a : Action). f a ≡ false) (λ b. Unit {0}) fs → AnyList (λ (k : Actions). (g : ℕ) × (in_group f g k ≡ m)) fs → m ≡ 0
  zero_lists [] h any = absurd any
  zero_lists (x ∷ fs) h any = elim any [
    | inl y ↦ elim y [ inl here ↦ sym here.1 ∙ none_in here.0 (actions_of x.body) h.0 | inr deep ↦ zero_inside (actions_of x.body) h.0 deep ]
    | inr rest ↦ zero_lists fs h.1 rest
  ]

  pub largest_zero : (fs : List StreamFunction) → IsLargest f m fs → AllCode (λ (a : Action). f a ≡ false) (λ b. Unit {0}) fs → m ≡ 0
  largest_zero fs is h = elim is.met [ inl none ↦ none | inr any ↦ zero_lists fs h any ]

-- ---- what stands has the number 1

module _ (f : Action → Bool) (h : Branch → Bool) where
  -- where this follows from one of them, it follows at each
  module _ (X : Type 0) where
    either : (b rest : Bool) → (b || rest ≡ true → X) → (b ≡ true → X) × (rest ≡ true → X)
    either true rest it = ((λ e. it refl), (λ e. it refl))
    either false rest it = ((λ e. absurd (let x : false ≡ true = e in cc)), it)

    abbrev Then : Actions → Type 0
    Then code = Each (λ (a : Action). f a ≡ true → X) (λ (b : Branch). h b ≡ true → X) code

    some_then : (code : Actions) → (some f h code ≡ true → X) → Then code
    some_then Done it = tt
    some_then (Do mark a k) it = let o = either (f a) (some f h k) it in (o.0, some_then k o.1)
    some_then (If mark b p q k) it =
        let o = either (h b) (some f h p || (some f h q || some f h k)) it in
        let x = either (some f h p) (some f h q || some f h k) o.1 in
        let y = either (some f h q) (some f h k) x.1 in
        (o.0, some_then p x.0, some_then q y.0, some_then k y.1)
    some_then (Loop mark p q k) it =
        let x = either (some f h p) (some f h q || some f h k) it in
        let y = either (some f h q) (some f h k) x.1 in
        (some_then p x.0, some_then q y.0, some_then k y.1)

    all_then : (fs : List StreamFunction) → (list_any (λ (x : StreamFunction). some f h (actions_of x.body)) fs ≡ true → X) → AllCode (λ (a : Action). f a ≡ true → X) (λ (b : Branch). h b ≡ true → X) fs
    all_then [] it = tt
    all_then (x ∷ fs) it =
        let o = either (some f h (actions_of x.body)) (list_any (λ (y : StreamFunction). some f h (actions_of y.body)) fs) it in
        (some_then (actions_of x.body) o.0, all_then fs o.1)

  pub standing : (n : ℕ) (fs : List StreamFunction) → n ≡ stands f h fs → AllCode (λ (a : Action). f a ≡ true → 1 ≤ n) (λ (b : Branch). h b ≡ true → 1 ≤ n) fs
  standing n fs is = all_then (1 ≤ n) fs (λ e. let one : stands f h fs ≡ 1 = (rw e refl) in omega arith)

  stands_none : (code : Actions) → Each (λ (a : Action). f a ≡ false) (λ (b : Branch). h b ≡ false) code → some f h code ≡ false
  stands_none Done e = refl
  stands_none (Do mark a k) e = rw (e.0, stands_none k e.1) refl
  stands_none (If mark b p q k) e = rw (e.0, stands_none p e.1, stands_none q e.2, stands_none k e.3) refl
  stands_none (Loop mark p q k) e = rw (stands_none p e.0, stands_none q e.1, stands_none k e.2) refl

  none_all : (fs : List StreamFunction) → AllCode (λ (a : Action). f a ≡ false) (λ (b : Branch). h b ≡ false) fs → list_any (λ (x : StreamFunction). some f h (actions_of x.body)) fs ≡ false
  none_all [] e = refl
  none_all (x ∷ fs) e = rw (stands_none (actions_of x.body) e.0, none_all fs e.1) refl

  pub stands_zero : (fs : List StreamFunction) → AllCode (λ (a : Action). f a ≡ false) (λ (b : Branch). h b ≡ false) fs → stands f h fs ≡ 0
  stands_zero fs e = rw (none_all fs e) refl
