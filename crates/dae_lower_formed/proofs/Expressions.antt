-- Each expression makes good code, as a value, for its effects, and as a condition.
use Rattle.std.proofs.Common.{◌≡◌, ℕ, suc, ◌+◌, ◌<◌, ◌≤◌, ◌^◌, Bool, true, false, ◌&&◌, ◌||◌, nat_eq, if◌then◌else◌, List, [], ◌∷◌, length, Option, Some, None, refl, ap, sym, subst, arith}
use Rattle.std.proofs.lemmas.Bool.{ltb-true, and_from}
use Rattle.std.specs.Prelude.{slice_get}
use Rattle.std.proofs.lemmas.Option.{slice_get_within}
use Rattle.dae_base.specs.declared.Place.{Place}
use Rattle.dae_base.specs.declared.LoadKind.{LoadKind}
use Rattle.dae_base.specs.declared.LoadKind.TheVariants.{U8}
use Rattle.dae_base.specs.declared.Width.{Width}
use Rattle.dae_base.specs.Words.{plus, width_of}
use Rattle.dae_base.proofs.Laws.{and_first, and_second, plus_small}
use Rattle.dae_ir.specs.Code.{Do}
use Rattle.dae_ir.specs.Classes.{VariableSet, IsWithin, has}
use Rattle.dae_ir.specs.Scope.{TakesArguments}
use Rattle.dae_ir.specs.SetFirst.{with_set, all_set}
use Rattle.dae_ir.specs.declared.form.Function.{Function}
use Rattle.dae_ir.specs.declared.form.Item.TheVariants.{Print, Expect, Call, Halt}
use Rattle.dae_ir.specs.declared.form.Check.TheVariants.{Room, Abort}
use Rattle.dae_ir.specs.declared.form.Operand.{Operand}
use Rattle.dae_ir.specs.declared.form.Operand.TheVariants.{Variable, Number}
use Rattle.dae_ir.specs.declared.form.Value.TheVariants.{Extended, Binary, Holds, FrameAddress}
use Rattle.dae_meaning.specs.declared.Spelling.TheVariants.{Byte}
use Rattle.dae_meaning.specs.declared.Operator.{Operator}
use Rattle.dae_meaning.specs.declared.Operator.TheVariants.{Add}
use Rattle.dae_meaning.specs.declared.Comparison.{Comparison}
use Rattle.dae_meaning.specs.declared.Comparison.TheVariants.{Equal}
use Rattle.dae_program.specs.Lawful.{FunctionBounds, is_sound, is_sound_target, are_sound, takes, count}
use Rattle.dae_program.specs.Trees as tree
use Rattle.dae_program.specs.Trees.{Expression, Target, Expressions}
use Rattle.dae_lower.specs.Lowering.{Made, ◌≫◌, nothing, only, emit, skip, one, set, or, assigned, assigned_all, assigned_target, fetched, held, put_in, operated, narrowed, Assignee, Local, Placed, test_of, related, turn, branches, gives, Ways, by_value, chosen, advanced, stepped, Links, ways, spot, operands}
use Rattle.dae_program.specs.SetFirst.{both, with_target, set_behind, set_behind_target, set_behind_all, is_old_set, reads_set, reads_set_target, all_read_set}
use Rattle.dae_lower_formed.proofs.Good.{set_here, set_on, within_set}
use Rattle.dae_lower_formed.proofs.Makes.{Fits, OperandFits, SpotFits, AllFit, Anything, operand_still, spot_still, all_still, all_in, all_read, test_fits, related_fits, number_fits, new_fits, IsOld, with_spot, Makes, chain, weaker, sooner, nothing_makes, set_makes, item_makes, variable_makes, fetched_makes, held_makes, put_makes, operated_makes, narrowed_makes, gives_makes, branches_make, WaysMake, AsValue, value_effect, value_condition, by_value_makes}

less_on : (u v n : ℕ) → u < v → v ≤ n → u < n
less_on u v n h j = omega (arith, h, j)

set_both : (v : ℕ) (c d : VariableSet) → IsWithin (with_set v (both c d)) (both (with_set v c) (with_set v d))
set_both v c d u h = by (nat_eq u v) h where
  by : (b : Bool) → (b || (c u && d u)) ≡ true → ((b || c u) && (b || d u)) ≡ true
  by true h = refl
  by false h = h

set_twice : (v : ℕ) (c : VariableSet) → IsWithin (with_set v c) (both (with_set v c) (with_set v c))
set_twice v c u h = and_from (with_set v c u) (with_set v c u) h h

takes_there : (functions : List Function) (k arguments : ℕ) → TakesArguments (slice_get functions k) arguments → k < length functions
takes_there functions k arguments h = by (slice_get functions k) refl h where
  by : (f : Option Function) → slice_get functions k ≡ f → TakesArguments f arguments → k < length functions
  by None e h = absurd h
  by (Some f) e h = slice_get_within functions k f e

-- a call that names so many arguments finds its function, with so many parameters
abbrev pub FindsFunctions : List Function → FunctionBounds → Links → Type 0
FindsFunctions functions b l = (f arguments : ℕ) → takes (b.parameters f) arguments ≡ true → TakesArguments (slice_get functions (l.callee f)) arguments

-- ---- targets

-- which target a place to store in comes from
abbrev pub IsSpotOf : ℕ → Target → Assignee → Type 0
IsSpotOf m (tree.InVariable u) (Local v) = (u ≡ v) × (v < m)
IsSpotOf m (tree.InVariable u) (Placed checked x) = ⊥
IsSpotOf m (tree.AtAddress checked a) (Local v) = ⊥
IsSpotOf m (tree.AtAddress checked a) (Placed also x) = Unit {0}

abbrev pub TargetFits : ℕ → Target → Fits Assignee
TargetFits m t n d o = SpotFits n d o × IsSpotOf m t o

target_sets : (m : ℕ) (c d : VariableSet) (t : Target) (o : Assignee) → IsSpotOf m t o → IsWithin c d → IsWithin (with_target t c) (with_spot o d)
target_sets m c d (tree.InVariable u) (Local v) h w = subst (λ (x : ℕ). IsWithin (with_set u c) (with_set x d)) h.0 (within_set u c d w)
target_sets m c d (tree.InVariable u) (Placed checked x) h w = absurd h
target_sets m c d (tree.AtAddress checked a) (Local v) h w = absurd h
target_sets m c d (tree.AtAddress checked a) (Placed also x) h w = w

spot_grows : (d : VariableSet) (o : Assignee) → IsWithin d (with_spot o d)
spot_grows d (Local v) = set_on v d
spot_grows d (Placed checked x) = λ v h. h

old_spot : (m : ℕ) (c d : VariableSet) (t : Target) (o : Assignee) → IsSpotOf m t o → is_old_set c t ≡ true → IsWithin c d → IsOld m d o
old_spot m c d (tree.InVariable u) (Local v) h g w = (h.1, subst (λ (x : ℕ). d x ≡ true) h.0 (w u g))
old_spot m c d (tree.InVariable u) (Placed checked x) h g w = absurd h
old_spot m c d (tree.AtAddress checked a) (Local v) h g w = absurd h
old_spot m c d (tree.AtAddress checked a) (Placed also x) h g w = tt

-- operands of a number
abbrev pub ListFits : ℕ → Fits (List Operand)
ListFits k n d xs = AllFit n d xs × (length xs ≡ k)

picked : (n : ℕ) (d : VariableSet) (b : Bool) (x y : Operand) → OperandFits n d x → OperandFits n d y → OperandFits n d (if b then x else y)
picked n d true x y h g = h
picked n d false x y h g = g

module _ (functions : List Function) (b : FunctionBounds) (some : 0 < b.variables) (l : Links) (finds : FindsFunctions functions b l) where
  abbrev WaysDo : VariableSet → VariableSet → Ways → Type 0
  WaysDo d c w = WaysMake functions b.variables d c w

  abbrev ValueDoes : VariableSet → VariableSet → (VariableSet → ℕ → Made Operand) → Type 0
  ValueDoes d c f = AsValue functions b.variables d c f

  -- ---- operands

  number_makes : (d : VariableSet) (k : ℕ) → k < 2 ^ 32 → WaysDo d d (by_value (λ later. nothing (Number k)))
  number_makes d k h = by_value_makes functions (λ later. nothing (Number k)) (λ i r later n s j w. nothing_makes functions (Number k) w (number_fits n s k h))

  variable_ways : (d : VariableSet) (p : Place) (v : ℕ) → v < b.variables → d v ≡ true → WaysDo d d (ways l (tree.Variable p v))
  variable_ways d p v low h = record {
    value = by;
    effect = λ i r later n s j w. nothing_makes functions tt w tt;
    condition = value_condition functions (ways l (tree.Variable p v)).value by;
  } where
    by : ValueDoes d d (ways l (tree.Variable p v)).value
    by i r later n s j w = variable_makes functions (later v) p v some j w low (w v h)

  read_makes : (d c : VariableSet) (a : Ways) (p : Place) (kind : LoadKind) (checked : Bool) → WaysDo d c a → ValueDoes d c (λ later n. a.value later n ≫ fetched p kind checked)
  read_makes d c a p kind checked h i r later n s j w =
      chain functions (fetched p kind checked) j (h.value i r later n s j w) (λ q e y k g t u x. fetched_makes functions p kind checked y some k u x)

  convert_makes : (d c : VariableSet) (a : Ways) (p : Place) (kind : LoadKind) → WaysDo d c a → ValueDoes d c (λ later n. a.value later n ≫ narrowed p kind)
  convert_makes d c a p kind h i r later n s j w =
      chain functions (narrowed p kind) j (h.value i r later n s j w) (λ q e y k g t u x. narrowed_makes functions p kind y some k u x)

  not_makes : (d c : VariableSet) (a : Ways) (p : Place) → WaysDo d c a → WaysDo d c (record {
    value = λ later n. a.value later n ≫ λ x. set p (Holds (test_of Equal x (Number 0)));
    effect = a.effect;
    condition = λ later n. a.condition later n ≫ λ c. nothing (turn c);
  })
  not_makes d c a p h = record {
    value = λ i r later n s j w. chain functions (λ x. set p (Holds (test_of Equal x (Number 0)))) j (h.value i r later n s j w)
        (λ q e y k g t u x. set_makes functions p (Holds (test_of Equal y (Number 0))) some k u (test_fits q e Equal y (Number 0) x (number_fits q e 0 (omega arith))));
    effect = h.effect;
    condition = λ i r later n s j w. chain functions (λ c. nothing (turn c)) j (h.condition i r later n s j w) (λ q e y k g t u x. nothing_makes functions (turn y) u x);
  }

  -- ---- two operands

  binary_makes : (d c e : VariableSet) (x : VariableSet) (a a' : Ways) (p : Place) (operator : Operator) → WaysDo d c a → WaysDo c e a' →
      ValueDoes d e (λ later n. a.value (or later x) n ≫ λ x n. a'.value later n ≫ operated p operator x)
  binary_makes d c e z a a' p operator h g i r later n s j w =
      chain functions (λ x n. a'.value later n ≫ operated p operator x) j (h.value i r (or later z) n s j w)
      (λ q f y k o t u x. chain functions (operated p operator y) k (g.value i r later q f k u)
      (λ q2 f2 y2 k2 o2 t2 u2 x2. operated_makes functions p operator y y2 some k2 u2 (operand_still q q2 f f2 o2 t2 y x) x2))

  compare_makes : (d c e : VariableSet) (z : VariableSet) (a a' : Ways) (p : Place) (comparison : Comparison) (turned : Bool) → WaysDo d c a → WaysDo c e a' → WaysDo d e (record {
    value = λ later n. a.value (or later z) n ≫ λ x n. a'.value later n ≫ λ y. set p (Holds (related comparison turned x y));
    effect = λ later n. a.effect (or later z) n ≫ λ x. a'.effect later;
    condition = λ later n. a.value (or later z) n ≫ λ x n. a'.value later n ≫ λ y. nothing (record { test = related comparison turned x y; turned = false });
  })
  compare_makes d c e z a a' p comparison turned h g = record {
    value = λ i r later n s j w. chain functions (λ x n. a'.value later n ≫ λ y. set p (Holds (related comparison turned x y))) j (h.value i r (or later z) n s j w)
        (λ q f y k o t u x. chain functions (λ y2. set p (Holds (related comparison turned y y2))) k (g.value i r later q f k u)
        (λ q2 f2 y2 k2 o2 t2 u2 x2. set_makes functions p (Holds (related comparison turned y y2)) some k2 u2 (related_fits q2 f2 comparison turned y y2 (operand_still q q2 f f2 o2 t2 y x) x2)));
    effect = λ i r later n s j w. chain functions (λ x. a'.effect later) j (h.effect i r (or later z) n s j w) (λ q f y k o t u x. g.effect i r later q f k u);
    condition = λ i r later n s j w. chain functions (λ x n. a'.value later n ≫ λ y. nothing (record { test = related comparison turned x y; turned = false })) j (h.value i r (or later z) n s j w)
        (λ q f y k o t u x. chain functions (λ y2. nothing (record { test = related comparison turned y y2; turned = false })) k (g.value i r later q f k u)
        (λ q2 f2 y2 k2 o2 t2 u2 x2. nothing_makes functions (record { test = related comparison turned y y2; turned = false }) u2 (related_fits q2 f2 comparison turned y y2 (operand_still q q2 f f2 o2 t2 y x) x2)));
  }

  comma_makes : (d c e : VariableSet) (z : VariableSet) (a a' : Ways) → WaysDo d c a → WaysDo c e a' → WaysDo d e (record {
    value = λ later n. a.effect (or later z) n ≫ λ x. a'.value later;
    effect = λ later n. a.effect (or later z) n ≫ λ x. a'.effect later;
    condition = λ later n. a.effect (or later z) n ≫ λ x. a'.condition later;
  })
  comma_makes d c e z a a' h g = record {
    value = λ i r later n s j w. chain functions (λ x. a'.value later) j (h.effect i r (or later z) n s j w) (λ q f y k o t u x. g.value i r later q f k u);
    effect = λ i r later n s j w. chain functions (λ x. a'.effect later) j (h.effect i r (or later z) n s j w) (λ q f y k o t u x. g.effect i r later q f k u);
    condition = λ i r later n s j w. chain functions (λ x. a'.condition later) j (h.effect i r (or later z) n s j w) (λ q f y k o t u x. g.condition i r later q f k u);
  }

  -- ---- branches

  -- a variable that both branches set
  set_by_both : {i r : Bool} {n : ℕ} {s c : VariableSet} (made : Made (Unit {0})) → b.variables ≤ n → Makes functions i r Anything (n + 1) s (with_set n c) made → Makes functions i r OperandFits n s c (made ≫ λ x. nothing (Variable n))
  set_by_both {i} {r} {n} {s} {c} made j h =
      sooner functions n (omega arith) (chain functions (λ x. nothing (Variable n)) (let k : b.variables ≤ n + 1 = omega (arith, j) in k) h
      (λ q e y k g t u x. nothing_makes functions (Variable n) (λ v z. u v (set_on n c v z)) (omega (arith, g), u n (set_here n c))))

  number_given : {i r : Bool} {n q : ℕ} {s c : VariableSet} (p : Place) (k : ℕ) → k < 2 ^ 32 → b.variables ≤ n → n < q → IsWithin c s → Makes functions i r Anything q s (with_set n c) (gives p n (Number k) q)
  number_given {i} {r} {n} {q} {s} {c} p k h j o w = gives_makes functions p (Number k) some j o w (number_fits q s k h)

  and_makes : (d c e z : VariableSet) (a a' : Ways) (p : Place) → WaysDo d c a → WaysDo c e a' → ValueDoes d c (λ later n.
      branches p (a.condition (or later z) (n + 1)) (λ k. branches p (a'.condition later k) (gives p n (Number 1)) (gives p n (Number 0))) (gives p n (Number 0)) ≫ λ x. nothing (Variable n))
  and_makes d c e z a a' p h g i r later n s j w =
      set_by_both _ j (weaker functions (with_set n c) (set_twice n c) (branches_make functions p _ _ (let k : b.variables ≤ n + 1 = omega (arith, j) in k) (h.condition i r (or later z) (n + 1) s (omega (arith, j)) w)
      (λ q f k o t u. weaker functions (with_set n c) (set_twice n c) (branches_make functions p _ _ k (g.condition i r later q f k u)
      (λ q2 f2 k2 o2 t2 u2. number_given p 1 (omega arith) j (omega (arith, o, o2)) (λ v y. t2 v (u v y)))
      (λ q2 f2 k2 o2 t2 u2. number_given p 0 (omega arith) j (omega (arith, o, o2)) (λ v y. t2 v (u v y)))))
      (λ q f k o t u. number_given p 0 (omega arith) j (omega (arith, o)) u)))

  or_makes : (d c e z : VariableSet) (a a' : Ways) (p : Place) → WaysDo d c a → WaysDo c e a' → ValueDoes d c (λ later n.
      branches p (a.condition (or later z) (n + 1)) (gives p n (Number 1)) (λ k. branches p (a'.condition later k) (gives p n (Number 1)) (gives p n (Number 0))) ≫ λ x. nothing (Variable n))
  or_makes d c e z a a' p h g i r later n s j w =
      set_by_both _ j (weaker functions (with_set n c) (set_twice n c) (branches_make functions p _ _ (let k : b.variables ≤ n + 1 = omega (arith, j) in k) (h.condition i r (or later z) (n + 1) s (omega (arith, j)) w)
      (λ q f k o t u. number_given p 1 (omega arith) j (omega (arith, o)) u)
      (λ q f k o t u. weaker functions (with_set n c) (set_twice n c) (branches_make functions p _ _ k (g.condition i r later q f k u)
      (λ q2 f2 k2 o2 t2 u2. number_given p 1 (omega arith) j (omega (arith, o, o2)) (λ v y. t2 v (u v y)))
      (λ q2 f2 k2 o2 t2 u2. number_given p 0 (omega arith) j (omega (arith, o, o2)) (λ v y. t2 v (u v y)))))))

  value_given : {i r : Bool} {n q : ℕ} {s d c : VariableSet} (p : Place) (later : VariableSet) (a : Ways) → b.variables ≤ n → n < q → IsWithin d s → WaysDo d c a → Makes functions i r Anything q s (with_set n c) (a.value later q ≫ gives p n)
  value_given {i} {r} {n} {q} {s} {d} {c} p later a j o w h =
      chain functions (gives p n) (let k : b.variables ≤ q = omega (arith, j, o) in k) (h.value i r later q s (omega (arith, j, o)) w) (λ q2 f y k g t u x. gives_makes functions p y some j (omega (arith, o, g)) u x)

  chosen_makes : (d c e f z : VariableSet) (a a' a2 : Ways) (p : Place) → WaysDo d c a → WaysDo c e a' → WaysDo c f a2 → ValueDoes d (both e f) (chosen p z a a' a2)
  chosen_makes d c e f z a a' a2 p h g k i r later n s j w =
      set_by_both _ j (weaker functions (with_set n (both e f)) (set_both n e f) (branches_make functions p _ _ (let k : b.variables ≤ n + 1 = omega (arith, j) in k) (h.condition i r (or later z) (n + 1) s (omega (arith, j)) w)
      (λ q v m o t u. value_given p later a' j (omega (arith, o)) u g)
      (λ q v m o t u. value_given p later a2 j (omega (arith, o)) u k)))

  conditional_makes : (d c e f z : VariableSet) (a a' a2 : Ways) (p : Place) → WaysDo d c a → WaysDo c e a' → WaysDo c f a2 → WaysDo d (both e f)
      (record (by_value (λ later n. chosen p z a a' a2 later n)) { effect = λ later n. branches p (a.condition (or later z) n) (a'.effect later) (a2.effect later) })
  conditional_makes d c e f z a a' a2 p h g k = record {
    value = chosen_makes d c e f z a a' a2 p h g k;
    effect = λ i r later n s j w. branches_make functions p _ _ j (h.condition i r (or later z) n s j w) (λ q v m o t u. g.effect i r later q v m u) (λ q v m o t u. k.effect i r later q v m u);
    condition = value_condition functions (chosen p z a a' a2) (chosen_makes d c e f z a a' a2 p h g k);
  }

  -- ---- assignments

  abbrev TargetDoes : VariableSet → VariableSet → Target → (VariableSet → ℕ → Made Assignee) → Type 0
  TargetDoes d c t f = (i r : Bool) (later : VariableSet) (n : ℕ) (s : VariableSet) → b.variables ≤ n → IsWithin d s → Makes functions i r (TargetFits b.variables t) n s c (f later n)

  assign_makes : (d c e z : VariableSet) (t : Target) (f : VariableSet → ℕ → Made Assignee) (a : Ways) (p : Place) (kind : LoadKind) → TargetDoes d c t f → WaysDo c e a →
      ValueDoes d (with_target t e) (λ later n. f (or later z) n ≫ λ o n. a.value later n ≫ put_in p kind o)
  assign_makes d c e z t f a p kind h g i r later n s j w =
      chain functions (λ o n. a.value later n ≫ put_in p kind o) j (h i r (or later z) n s j w)
      (λ q v o k y x u fits. chain functions (put_in p kind o) k (g.value i r later q v k u)
      (λ q2 v2 y2 k2 o2 t2 u2 x2. weaker functions (with_target t e) (target_sets b.variables e v2 t o fits.1 u2) (put_makes functions p kind o y2 (spot_still q q2 v v2 o2 t2 o fits.0) x2)))

  update_makes : (d c e z z' : VariableSet) (t : Target) (f : VariableSet → ℕ → Made Assignee) (a : Ways) (p : Place) (kind : LoadKind) (operator : Operator) → TargetDoes d c t f → is_old_set d t ≡ true → WaysDo c e a →
      ValueDoes d (with_target t e) (λ later n. f (or later z) n ≫ λ o n. held p kind (or later z') o n ≫ λ x n. a.value later n ≫ λ y n. operated p operator x y n ≫ λ z n. narrowed p kind z n ≫ put_in p kind o)
  update_makes d c e z z' t f a p kind operator h old g i r later n s j w =
      chain functions (λ o n. held p kind (or later z') o n ≫ λ x n. a.value later n ≫ λ y n. operated p operator x y n ≫ λ z n. narrowed p kind z n ≫ put_in p kind o) j (h i r (or later z) n s j w)
      (λ q v o k y x u fits. chain functions (λ x n. a.value later n ≫ λ y n. operated p operator x y n ≫ λ z n. narrowed p kind z n ≫ put_in p kind o) k
      (held_makes functions p kind (or later z') o some k u fits.0 (old_spot b.variables d v t o fits.1 old (λ a b. x a (w a b))))
      (λ q2 v2 y2 k2 o2 t2 u2 x2. chain functions (λ y n. operated p operator y2 y n ≫ λ z n. narrowed p kind z n ≫ put_in p kind o) k2 (g.value i r later q2 v2 k2 u2)
      (λ q3 v3 y3 k3 o3 t3 u3 x3. chain functions (λ z n. narrowed p kind z n ≫ put_in p kind o) k3 (operated_makes functions p operator y2 y3 some k3 u3 (operand_still q2 q3 v2 v3 o3 t3 y2 x2) x3)
      (λ q4 v4 y4 k4 o4 t4 u4 x4. chain functions (put_in p kind o) k4 (narrowed_makes functions p kind y4 some k4 u4 x4)
      (λ q5 v5 y5 k5 o5 t5 u5 x5. weaker functions (with_target t e) (target_sets b.variables e v5 t o fits.1 u5)
      (put_makes functions p kind o y5 (spot_still q q5 v v5 (omega (arith, o2, o3, o4, o5)) (λ a b. t5 a (t4 a (t3 a (t2 a b)))) o fits.0) x5))))))

  advanced_makes : {i r : Bool} {n : ℕ} {s c : VariableSet} (p : Place) (kind : LoadKind) (change : ℕ) (o : Assignee) (x : Operand) → change < 2 ^ 32 → b.variables ≤ n → IsWithin c s → SpotFits n s o → OperandFits n s x → Makes functions i r OperandFits n s c (advanced p kind change o x n)
  advanced_makes {i} {r} {n} {s} {c} p kind change o x h j w fits k =
      chain functions (λ z n. narrowed p kind z n ≫ put_in p kind o) j (set_makes functions p (Binary Add x (Number change)) some j w ((k.0, h), and_from (has s x) true k.1 refl))
      (λ q v y k g t u x. chain functions (put_in p kind o) k (narrowed_makes functions p kind y some k u x)
      (λ q2 v2 y2 k2 o2 t2 u2 x2. weaker functions c (λ a b. spot_grows v2 o a (u2 a b)) (put_makes functions p kind o y2 (spot_still n q2 s v2 (omega (arith, g, o2)) (λ a b. t2 a (t a b)) o fits) x2)))

  stepped_makes : (d c : VariableSet) (t : Target) (f : VariableSet → ℕ → Made Assignee) (p : Place) (kind : LoadKind) (change : ℕ) → TargetDoes d c t f → is_old_set d t ≡ true → change < 2 ^ 32 → (new : Bool) (copied : VariableSet → VariableSet) →
      ValueDoes d c (λ later n. stepped p kind f change new (copied later) later n)
  stepped_makes d c t f p kind change h old low new copied i r later n s j w =
      chain functions (λ o n. held p kind (copied later) o n ≫ λ x n. advanced p kind change o x n ≫ λ y. nothing (if new then y else x)) j (h i r later n s j w)
      (λ q v o k y x u fits. chain functions (λ x n. advanced p kind change o x n ≫ λ y. nothing (if new then y else x)) k
      (held_makes functions p kind (copied later) o some k u fits.0 (old_spot b.variables d v t o fits.1 old (λ a b. x a (w a b))))
      (λ q2 v2 y2 k2 o2 t2 u2 x2. chain functions (λ y. nothing (if new then y else y2)) k2 (advanced_makes p kind change o y2 low k2 u2 (spot_still q q2 v v2 o2 t2 o fits.0) x2)
      (λ q3 v3 y3 k3 o3 t3 u3 x3. nothing_makes functions (if new then y3 else y2) u3 (picked q3 v3 new y3 y2 x3 (operand_still q2 q3 v2 v3 o3 t3 y2 x2)))))

  step_makes : (d c : VariableSet) (t : Target) (f : VariableSet → ℕ → Made Assignee) (p : Place) (kind : LoadKind) (change : ℕ) (new : Bool) (z : VariableSet) → TargetDoes d c t f → is_old_set d t ≡ true → change < 2 ^ 32 → WaysDo d c
      (record (by_value (λ later n. stepped p kind f change new (if new then later else or later z) later n)) { effect = λ later n. stepped p kind f change true later later n ≫ λ x. skip })
  step_makes d c t f p kind change new z h old low = record {
    value = stepped_makes d c t f p kind change h old low new (λ later. if new then later else or later z);
    effect = value_effect functions (λ later n. stepped p kind f change true later later n) (stepped_makes d c t f p kind change h old low true (λ later. later));
    condition = value_condition functions (λ later n. stepped p kind f change new (if new then later else or later z) later n) (stepped_makes d c t f p kind change h old low new (λ later. if new then later else or later z));
  }

  -- ---- calls

  call_makes : {i r : Bool} {n k : ℕ} {s c : VariableSet} (p : Place) (f : ℕ) (ys : List Operand) → takes (b.parameters f) k ≡ true → b.variables ≤ n → IsWithin c s → ListFits k n s ys →
      Makes functions i r OperandFits n s c (only (Do p (Expect (Room (l.callee f))) (one p (Call n (l.callee f) ys))) (Variable n) (n + 1))
  call_makes {i} {r} {n} {k} {s} {c} p f ys h j w fits =
      let found = finds f k h in
      let more = all_still n (n + 1) s s (omega arith) (λ v z. z) ys fits.0 in
      record {
        grows = omega arith;
        good = ((refl, takes_there functions (l.callee f) k found, refl), ((refl, ((omega (arith, some, j), omega arith), subst (λ (x : ℕ). TakesArguments (slice_get functions (l.callee f)) x) (sym fits.1) found, all_in (n + 1) s ys more), all_read (n + 1) s ys more), tt));
        sets = λ v z. set_on n s v (w v z);
        given = new_fits n s;
      }

  putchar_makes : (d c : VariableSet) (a : Ways) (p : Place) → WaysDo d c a → ValueDoes d c (λ later n. a.value later n ≫ λ x n. only (one p (Print Byte x)) x n ≫ λ x. set p (Extended U8 x))
  putchar_makes d c a p h i r later n s j w =
      chain functions (λ x n. only (one p (Print Byte x)) x n ≫ λ x. set p (Extended U8 x)) j (h.value i r later n s j w)
      (λ q v y k g t u x. chain functions (λ x. set p (Extended U8 x)) k (printed q v y u x)
      (λ q2 v2 y2 k2 o2 t2 u2 x2. set_makes functions p (Extended U8 y2) some k2 u2 x2)) where
        printed : (q : ℕ) (v : VariableSet) (y : Operand) → IsWithin c v → OperandFits q v y → Makes functions i r OperandFits q v c (only (one p (Print Byte y)) y q)
        printed q v y u x = record { grows = omega arith; good = ((refl, x.0, x.1), tt); sets = u; given = x }

  putchar_ways : (d c : VariableSet) (a : Ways) (p : Place) → WaysDo d c a → WaysDo d c
      (record (by_value (λ later n. a.value later n ≫ λ x n. only (one p (Print Byte x)) x n ≫ λ x. set p (Extended U8 x))) { effect = λ later n. a.value later n ≫ λ x. emit (one p (Print Byte x)) })
  putchar_ways d c a p h = record {
    value = putchar_makes d c a p h;
    effect = λ i r later n s j w. chain functions (λ x. emit (one p (Print Byte x))) j (h.value i r later n s j w) (λ q v y k g t u x. item_makes functions p (Print Byte y) u (refl, x.0, x.1));
    condition = value_condition functions (λ later n. a.value later n ≫ λ x n. only (one p (Print Byte x)) x n ≫ λ x. set p (Extended U8 x)) (putchar_makes d c a p h);
  }

  exit_makes : (d c e : VariableSet) (a : Ways) (p : Place) → WaysDo d c a → ValueDoes d e (λ later n. a.value later n ≫ λ x. only (one p (Halt x)) (Number 0))
  exit_makes d c e a p h i r later n s j w =
      chain functions (λ x. only (one p (Halt x)) (Number 0)) j (h.value i r later n s j w)
      (λ q v y k g t u x. record { grows = omega arith; good = ((refl, x.0, x.1), tt); sets = λ a b. refl; given = number_fits q all_set 0 (omega arith) })

  abort_makes : (d : VariableSet) (p : Place) → ValueDoes d d (λ later. only (one p (Expect Abort)) (Number 0))
  abort_makes d p i r later n s j w = record { grows = omega arith; good = ((refl, tt, refl), tt); sets = w; given = number_fits n s 0 (omega arith) }

  -- ---- each expression

  mutual
    pub expression_makes : (d : VariableSet) (e : Expression) → is_sound b e ≡ true → reads_set d e ≡ true → WaysDo d (set_behind d e) (ways l e)
    expression_makes d (tree.Number k) h g = number_makes d k (ltb-true k (2 ^ 32) h)
    expression_makes d (tree.Address object offset) h g = number_makes d (plus (l.address object) offset) (plus_small (l.address object) offset)
    expression_makes d (tree.Frame p offset) h g = by_value_makes functions (λ later. set p (FrameAddress offset)) (λ i r later n s j w. set_makes functions p (FrameAddress offset) some j w (ltb-true offset (2 ^ 32) h, refl))
    expression_makes d (tree.Variable p v) h g = variable_ways d p v (ltb-true v b.variables h) g
    expression_makes d (tree.Read p kind checked a) h g = by_value_makes functions (λ later n. (ways l a).value later n ≫ fetched p kind checked) (read_makes d (set_behind d a) (ways l a) p kind checked (expression_makes d a (and_second _ _ h) g))
    expression_makes d (tree.Convert p kind a) h g = record {
      value = convert_makes d (set_behind d a) (ways l a) p kind (expression_makes d a h g);
      effect = (expression_makes d a h g).effect;
      condition = value_condition functions (λ later n. (ways l a).value later n ≫ narrowed p kind) (convert_makes d (set_behind d a) (ways l a) p kind (expression_makes d a h g));
    }
    expression_makes d (tree.Not p a) h g = not_makes d (set_behind d a) (ways l a) p (expression_makes d a h g)
    expression_makes d (tree.Binary p operator x y) h g =
        let c = set_behind d x in
        by_value_makes functions (ways l (tree.Binary p operator x y)).value (binary_makes d c (set_behind c y) (assigned y) (ways l x) (ways l y) p operator (expression_makes d x (and_first _ _ h) (and_first _ _ g)) (expression_makes c y (and_second _ _ h) (and_second _ _ g)))
    expression_makes d (tree.Compare p comparison turned x y) h g =
        let c = set_behind d x in
        compare_makes d c (set_behind c y) (assigned y) (ways l x) (ways l y) p comparison turned (expression_makes d x (and_first _ _ h) (and_first _ _ g)) (expression_makes c y (and_second _ _ h) (and_second _ _ g))
    expression_makes d (tree.And p x y) h g =
        let c = set_behind d x in
        by_value_makes functions (ways l (tree.And p x y)).value (and_makes d c (set_behind c y) (assigned y) (ways l x) (ways l y) p (expression_makes d x (and_first _ _ h) (and_first _ _ g)) (expression_makes c y (and_second _ _ h) (and_second _ _ g)))
    expression_makes d (tree.Or p x y) h g =
        let c = set_behind d x in
        by_value_makes functions (ways l (tree.Or p x y)).value (or_makes d c (set_behind c y) (assigned y) (ways l x) (ways l y) p (expression_makes d x (and_first _ _ h) (and_first _ _ g)) (expression_makes c y (and_second _ _ h) (and_second _ _ g)))
    expression_makes d (tree.Conditional p x y z) h g =
        let c = set_behind d x in
        conditional_makes d c (set_behind c y) (set_behind c z) (or (assigned y) (assigned z)) (ways l x) (ways l y) (ways l z) p (expression_makes d x (and_first _ _ h) (and_first _ _ g)) (expression_makes c y (and_first _ _ (and_second _ _ h)) (and_first _ _ (and_second _ _ g))) (expression_makes c z (and_second _ _ (and_second _ _ h)) (and_second _ _ (and_second _ _ g)))
    expression_makes d (tree.Comma x y) h g =
        let c = set_behind d x in
        comma_makes d c (set_behind c y) (assigned y) (ways l x) (ways l y) (expression_makes d x (and_first _ _ h) (and_first _ _ g)) (expression_makes c y (and_second _ _ h) (and_second _ _ g))
    expression_makes d (tree.Assign p kind t x) h g =
        let c = set_behind_target d t in
        by_value_makes functions (ways l (tree.Assign p kind t x)).value (assign_makes d c (set_behind c x) (assigned x) t (spot l t) (ways l x) p kind (target_makes d (width_of kind) t (and_first _ _ h) (and_first _ _ g)) (expression_makes c x (and_second _ _ h) (and_second _ _ g)))
    expression_makes d (tree.Update p kind t operator x) h g =
        let c = set_behind_target d t in
        by_value_makes functions (ways l (tree.Update p kind t operator x)).value (update_makes d c (set_behind c x) (assigned x) (assigned x) t (spot l t) (ways l x) p kind operator (target_makes d (width_of kind) t (and_first _ _ h) (and_first _ _ (and_first _ _ g))) (and_second _ _ (and_first _ _ g)) (expression_makes c x (and_second _ _ h) (and_second _ _ g)))
    expression_makes d (tree.Step p kind t change new) h g =
        step_makes d (set_behind_target d t) t (spot l t) p kind change new (assigned_target t) (target_makes d (width_of kind) t (and_first _ _ h) (and_first _ _ g)) (and_second _ _ g) (ltb-true change (2 ^ 32) (and_second _ _ h))
    expression_makes d (tree.Call p f xs) h g =
        by_value_makes functions (ways l (tree.Call p f xs)).value (λ i r later n s j w. chain functions (λ xs n. only (Do p (Expect (Room (l.callee f))) (one p (Call n (l.callee f) xs))) (Variable n) (n + 1)) j (operands_make d xs (and_second _ _ h) g i r later n s j w)
        (λ q e y k o t u x. call_makes p f y (and_first _ _ h) k u x))
    expression_makes d (tree.Putchar p x) h g = putchar_ways d (set_behind d x) (ways l x) p (expression_makes d x h g)
    expression_makes d (tree.Exit p x) h g = by_value_makes functions (ways l (tree.Exit p x)).value (exit_makes d (set_behind d x) all_set (ways l x) p (expression_makes d x h g))
    expression_makes d (tree.Abort p) h g = by_value_makes functions (ways l (tree.Abort p)).value (abort_makes d p)

    target_makes : (d : VariableSet) (width : Width) (t : Target) → is_sound_target b width t ≡ true → reads_set_target d t ≡ true → TargetDoes d (set_behind_target d t) t (spot l t)
    target_makes d width (tree.InVariable v) h g i r later n s j w = nothing_makes functions (Local v) w ((ltb-true 0 v (and_first _ _ h), less_on v b.variables n (ltb-true v b.variables (and_second _ _ h)) j), (refl, ltb-true v b.variables (and_second _ _ h)))
    target_makes d width (tree.AtAddress checked x) h g i r later n s j w = chain functions (λ x. nothing (Placed checked x)) j ((expression_makes d x (and_second _ _ h) g).value i r later n s j w) (λ q e y k o t u x. nothing_makes functions (Placed checked y) u (x, tt))

    pub operands_make : (d : VariableSet) (xs : Expressions) → are_sound b xs ≡ true → all_read_set d xs ≡ true → (i r : Bool) (later : VariableSet) (n : ℕ) (s : VariableSet) → b.variables ≤ n → IsWithin d s → Makes functions i r (ListFits (count xs)) n s (set_behind_all d xs) (operands l xs later n)
    operands_make d tree.no_expressions h g i r later n s j w = nothing_makes functions [] w (tt, refl)
    operands_make d (tree.expression_then x xs) h g i r later n s j w =
        chain functions (λ x n. operands l xs later n ≫ λ xs. nothing (x ∷ xs)) j ((expression_makes d x (and_first _ _ h) (and_first _ _ g)).value i r (or later (assigned_all xs)) n s j w)
        (λ q e y k o t u fits. chain functions (λ xs. nothing (y ∷ xs)) k (operands_make (set_behind d x) xs (and_second _ _ h) (and_second _ _ g) i r later q e k u)
        (λ q2 e2 ys k2 o2 t2 u2 all. nothing_makes functions (y ∷ ys) u2 ((operand_still q q2 e e2 o2 t2 y fits, all.0), ap suc all.1)))
