-- What it means that the form of an expression follows its evaluation, and how that is put together; numbers, addresses and variables.
use Rattle.std.proofs.Common.{◌≡◌, ℕ, ◌+◌, ◌<◌, ◌≤◌, Bool, true, false, not, ◌||◌, nat_eq, refl, ap, ◌∙◌, arith}
use Rattle.dae_base.specs.Words.{plus}
use Rattle.dae_base.specs.declared.Place.{Place}
use Rattle.dae_meaning.specs.Results.{Result}
use Rattle.dae_meaning.specs.Worlds.{World, ticked}
use Rattle.dae_meaning.specs.Operations.{compared}
use Rattle.dae_meaning.specs.Variables.{Env}
use Rattle.dae_ir.specs.Form.{value as held, Calls, Program}
use Rattle.dae_ir.specs.Classes.{VariableSet}
use Rattle.dae_ir.specs.declared.form.Value.TheVariants.{FrameAddress}
use Rattle.dae_ir.specs.declared.form.Operand.{Operand}
use Rattle.dae_ir.specs.declared.form.Operand.TheVariants.{Number}
use Rattle.dae_program.specs.Trees as tree
use Rattle.dae_program.specs.Trees.{Expression, Target, Expressions}
use Rattle.dae_program.specs.Outcomes.{Outcome, Gives, ◌⟫◌}
use Rattle.dae_program.specs.Expressions.{ProgramSetup}
use Rattle.dae_lower.specs.Lowering.{Made, nothing, skip, set, ◌≫◌, or, nowhere, variable, Condition, isnt_zero, Ways, by_value, Links, ways}
use Rattle.dae_lower.proofs.Relation.{Kept, Lasts, still, lasts_on, lasts_wider, Alike, Both, Stop}
use Rattle.dae_lower.proofs.Chains.{Follows, paid, bought, spared, weaker, knowing, chain, recast, given_on}
use Rattle.dae_lower.proofs.Leaves.{Holding, nothing_follows, set_follows, variable_follows}
use Rattle.dae_lower.proofs.Branches.{Deciding, Always}

-- nothing is known
abbrev pub Anything : {X : Type 0} → X → Env → Type 0
Anything x o = Unit {0}

-- nothing is said
abbrev pub Nothing : {Z X : Type 0} → Z → X → Env → Type 0
Nothing z x o = Unit {0}

-- where one test fails and there is no other
pub or_nowhere : (b : Bool) → b ≡ false → (b || false) ≡ false
or_nowhere true z = cc
or_nowhere false z = refl

module _ (m n : ℕ) (s : ProgramSetup) (l : Links) (p : Program) (calls : Calls) where
  abbrev pub AsValue : VariableSet → (VariableSet → ℕ → Made Operand) → (Env → World → Outcome ℕ) → Type 0
  AsValue c f g = (later : VariableSet) (k : ℕ) → m ≤ k → Follows m n p calls 0 2 k k c (Lasts m later k) (Anything {X = Unit {0}}) Holding (f later k) (λ x. g)

  abbrev pub AsEffect : VariableSet → (VariableSet → ℕ → Made (Unit {0})) → (Env → World → Outcome ℕ) → Type 0
  AsEffect c f g = (later : VariableSet) (k : ℕ) → m ≤ k → Follows m n p calls 0 2 k k c Always (Anything {X = Unit {0}}) Nothing (f later k) (λ x. g)

  abbrev pub AsCondition : VariableSet → (VariableSet → ℕ → Made Condition) → (Env → World → Outcome ℕ) → Type 0
  AsCondition c f g = (later : VariableSet) (k : ℕ) → m ≤ k → Follows m n p calls 0 2 k k c Always (Anything {X = Unit {0}}) Deciding (f later k) (λ x. g)

  pub record Faithful (c : VariableSet) (ways : Ways) (g : Env → World → Outcome ℕ) : Type 0 where
    pub value : AsValue c ways.value g
    pub effect : AsEffect c ways.effect g
    pub condition : AsCondition c ways.condition g

  -- what a value is tested for
  pub nonzero : {X : Type 0} {Was : X → Env → Type 0} (q k : ℕ) (y : Operand) (g : X → ℕ) → ((x : X) (o : Env) → Was x o → held y o ≡ g x) → Follows m n p calls 0 0 q k nowhere Always Was Deciding (nothing (isnt_zero y) q) (λ x. Gives (g x))
  unfolding compared
  nonzero q k y g h = nothing_follows m n p calls nowhere q k nowhere (isnt_zero y) (λ x env. g x) tt (λ x env o a u. ap (λ t. not (nat_eq t 0)) (h x o u))

  pub as_condition : (c : VariableSet) (f : VariableSet → ℕ → Made Operand) (g : Env → World → Outcome ℕ) → AsValue c f g → AsCondition c (λ later n. f later n ≫ λ x. nothing (isnt_zero x)) g
  as_condition c f g h later k low =
      recast m n p calls (λ x env w. g env w ⟫ Gives) (λ x. g) 0 2 k (λ x env w. given_on (g env w))
      (weaker m n p calls 0 2 k 0 2 k c (omega arith) (omega arith) (omega arith) (λ v z. or_nowhere (c v) z)
      (chain m n p calls (λ x. nothing (isnt_zero x)) (λ x. Gives x.1) 0 2 2 k k k c nowhere (omega arith) (h later k low) (λ x e o u t. tt)
      (λ o i z. spared m n p calls 2 0 0 o (nonzero o k _ (λ x. x.1) (λ x o u. u.1)))))

  pub as_effect : (c : VariableSet) (f : VariableSet → ℕ → Made Operand) (g : Env → World → Outcome ℕ) → AsValue c f g → AsEffect c (λ later n. f later n ≫ λ x. skip) g
  as_effect c f g h later k low =
      recast m n p calls (λ x env w. g env w ⟫ Gives) (λ x. g) 0 2 k (λ x env w. given_on (g env w))
      (weaker m n p calls 0 2 k 0 2 k c (omega arith) (omega arith) (omega arith) (λ v z. or_nowhere (c v) z)
      (chain m n p calls (λ x. skip) (λ x. Gives x.1) 0 2 2 k k k c nowhere (omega arith) (h later k low) (λ x e o u t. tt)
      (λ o i z. spared m n p calls 2 0 0 o (nothing_follows m n p calls nowhere o k nowhere tt (λ x env. x.1) tt (λ x env o a u. tt)))))

  pub by_value_faithful : (c : VariableSet) (f : VariableSet → ℕ → Made Operand) (g : Env → World → Outcome ℕ) → AsValue c f g → Faithful c (by_value f) g
  by_value_faithful c f g h = record { value = h; effect = as_effect c f g h; condition = as_condition c f g h }

  -- ---- a value, and what is made of it

  -- one operand
  pub unary : {Y Z : Type 0} {Lasting : ℕ → Z → Type 0} {Is : Z → Y → Env → Type 0} (c : VariableSet) (f : VariableSet → ℕ → Made Operand) (g : Env → World → Outcome ℕ) (leaf : Operand → ℕ → Made Z) (go : ℕ → Env → World → Outcome Y) (later : VariableSet) (k : ℕ) → m ≤ k → AsValue c f g →
      ((o : ℕ) (y : Operand) → k ≤ o → Lasts m later k o y → Follows m n p calls 7 0 o k nowhere Lasting (λ (x : Unit {0} × ℕ) o. Unit {0} × Holding y x.1 o) Is (leaf y o) (λ x. go x.1)) →
      Follows m n p calls 0 2 k k c Lasting (Anything {X = Unit {0}}) Is (f later k ≫ leaf) (λ x env w. g env (ticked w) ⟫ go)
  unary c f g leaf go later k low h next =
      weaker m n p calls 0 2 k 0 2 k c (omega arith) (omega arith) (omega arith) (λ v z. or_nowhere (c v) z)
      (chain m n p calls leaf (λ x. go x.1) 0 11 2 k k k c nowhere (omega arith) (paid m n p calls 0 2 k (h later k low)) (λ x e o u t. tt)
      (λ o i z. weaker m n p calls 9 2 o 11 2 k nowhere (omega arith) (omega arith) (omega arith) (λ v z. z) (spared m n p calls 2 7 0 o (next o _ i z))))

  -- something, then an operand, then what is made of both
  pub pair : {X Y Z Y' Z' : Type 0} {Was : X → Env → Type 0} {Lasted : ℕ → Z → Type 0} {Lasting : ℕ → Z' → Type 0} {Is : Z → Y → Env → Type 0} {Is' : Z' → Y' → Env → Type 0} {made : Made Z} {f : X → Env → World → Outcome Y}
      (fb : VariableSet → ℕ → Made Operand) (gb : Env → World → Outcome ℕ) (leaf : Z → Operand → ℕ → Made Z') (go : X → Y → ℕ → Env → World → Outcome Y') (later : VariableSet) (a b q k : ℕ) (ca cb cd : VariableSet) → 6 ≤ b → m ≤ k → k ≤ q →
      Follows m n p calls a b q q ca Lasted Was Is made f →
      ((x : X) (e o : Env) → Was x e → Kept m q ca e o → Was x o) →
      AsValue cb fb gb →
      ((o : ℕ) → q ≤ o → Lasted o made.given → (x : X) (y : Y) (e o' : Env) → Was x e → Is made.given y e → Kept m o cb e o' → Was x o' × Is made.given y o') →
      ((o j : ℕ) (z : Operand) → q ≤ o → o ≤ j → Lasted o made.given → Lasts m later k j z → Follows m n p calls 6 0 j k cd Lasting (λ (x : (X × Y) × ℕ) o. (Was x.0.0 o × Is made.given x.0.1 o) × Holding z x.1 o) Is' (leaf made.given z j) (λ x. go x.0.0 x.0.1 x.1)) →
      Follows m n p calls a 2 q k (or ca (or cb cd)) Lasting Was Is' (made ≫ λ x n. fb later n ≫ leaf x) (λ x env w. f x env w ⟫ λ y env w. gb env w ⟫ go x y)
  pair {X} {Y} {Z} {Y'} {Z'} {Was} {Lasted} {Lasting} {Is} {Is'} {made} {f} fb gb leaf go later a b q k ca cb cd g low j h stays hb alive next =
      chain m n p calls (λ x n. fb later n ≫ leaf x) (λ x env w. gb env w ⟫ go x.0 x.1) a b 2 q q k ca (or cb cd) j h stays
      (λ o i z.
      chain m n p calls (leaf made.given) (λ x. go x.0.0 x.0.1 x.1) b (2 + b) 2 o o k cb cd (omega (arith, i, j))
      (knowing m n p calls b (2 + b) o (λ x. tt) (λ x o u. tt) (weaker m n p calls (0 + b) (2 + b) o b (2 + b) o cb (omega arith) (omega arith) (omega arith) (λ v z. z) (spared m n p calls b 0 2 o (hb later o (omega (arith, low, i, j))))))
      (λ x e o' u t. alive o i z x.0 x.1 e o' u.0 u.1 t)
      (λ r v y. weaker m n p calls 8 2 r (2 + b) 2 k cd (omega (arith, g)) (omega arith) (omega arith) (λ v z. z) (spared m n p calls 2 6 0 r (next o r _ i v z (lasts_wider m later o r k r _ (omega (arith, i, j)) (omega arith) y)))))

  -- two operands
  pub binary : {Y Z : Type 0} {Lasting : ℕ → Z → Type 0} {Is : Z → Y → Env → Type 0} (c d : VariableSet) (f g : VariableSet → ℕ → Made Operand) (u v : Env → World → Outcome ℕ) (leaf : Operand → Operand → ℕ → Made Z) (go : ℕ → ℕ → Env → World → Outcome Y) (later : VariableSet) (k : ℕ) → m ≤ k → AsValue c f u → AsValue d g v →
      ((o : ℕ) (y z : Operand) → k ≤ o → Lasts m later k o y → Lasts m later k o z → Follows m n p calls 6 0 o k nowhere Lasting (λ (x : (Unit {0} × ℕ) × ℕ) o. (Unit {0} × Holding y x.0.1 o) × Holding z x.1 o) Is (leaf y z o) (λ x. go x.0.1 x.1)) →
      Follows m n p calls 0 2 k k (or c d) Lasting (Anything {X = Unit {0}}) Is (f (or later d) k ≫ λ x n. g later n ≫ leaf x) (λ x env w. u env (ticked w) ⟫ λ x env w. v env w ⟫ go x)
  binary c d f g u v leaf go later k low hf hg next =
      weaker m n p calls 0 2 k 0 2 k (or c d) (omega arith) (omega arith) (omega arith) (λ v z. by (c v) (d v) z)
      (pair g v leaf (λ x. go) later 0 11 k k c d nowhere (omega arith) low (omega arith) (paid m n p calls 0 2 k (hf (or later d) k low)) (λ x e o u t. tt) hg
      (λ o i z x y e o' u t r. (tt, still m k o later d _ e o' low i z r ∙ t))
      (λ o j z i r y t. next j _ z (omega (arith, i, r)) (lasts_on m later d k o k j _ (omega arith) r y) t)) where
        by : (a b : Bool) → (a || b) ≡ false → (a || (b || false)) ≡ false
        by true b z = cc
        by false true z = cc
        by false false z = refl

  -- ---- the nodes

  abbrev pub Start : Type 0
  Start = Unit {0}

  pub cheap : {X Y Z : Type 0} {k : ℕ} {c : VariableSet} {Lasting : ℕ → Z → Type 0} {Was : X → Env → Type 0} {Is : Z → Y → Env → Type 0} {f : X → Env → World → Outcome Y} {made : Made Z} (a q : ℕ) → a ≤ 7 → Follows m n p calls a 0 q k c Lasting Was Is made f → Follows m n p calls 7 0 q k c Lasting Was Is made f
  cheap {X} {Y} {Z} {k} {c} a q low h = weaker m n p calls a 0 q 7 0 k c low (omega arith) (omega arith) (λ v z. z) h

  pub cheaper : {X Y Z : Type 0} {k : ℕ} {c : VariableSet} {Lasting : ℕ → Z → Type 0} {Was : X → Env → Type 0} {Is : Z → Y → Env → Type 0} {f : X → Env → World → Outcome Y} {made : Made Z} (a b q : ℕ) → a ≤ b → Follows m n p calls a 0 q k c Lasting Was Is made f → Follows m n p calls b 0 q k c Lasting Was Is made f
  cheaper {X} {Y} {Z} {k} {c} a b q low h = weaker m n p calls a 0 q b 0 k c low (omega arith) (omega arith) (λ v z. z) h

  pub number_follows : (c : ℕ) → Faithful nowhere (by_value (λ later. nothing (Number c))) (λ env w. Gives c env (ticked w))
  number_follows c = by_value_faithful nowhere _ _ (λ later k low.
      bought m n p calls k (cheap 0 k (omega arith) (nothing_follows m n p calls later k k nowhere (Number c) (λ x env. c) tt (λ x env o a u. refl))))

  pub frame_follows : (place : Place) (offset : ℕ) → Faithful nowhere (by_value (λ later. set place (FrameAddress offset))) (λ env w. Gives (plus w.frame offset) env (ticked w))
  frame_follows place offset = by_value_faithful nowhere _ _ (λ later k low.
      bought m n p calls k (cheap 1 k (omega arith) (set_follows m n p calls later k k place (FrameAddress offset) (λ x env w. plus w.frame offset) low (omega arith) (λ x env o w a u. refl))))

  pub variable_value : (place : Place) (v : ℕ) → v < m → AsValue nowhere (λ later q. variable (later v) place v q) (λ env w. Gives (env v) env (ticked w))
  variable_value place v h later k low =
      bought m n p calls k (cheap 2 k (omega arith) (variable_follows m n p calls later k k place (later v) v low (omega arith) h (λ e. e)))

  pub variable_faithful : (place : Place) (v : ℕ) → v < m → Faithful nowhere (ways l (tree.Variable place v)) (λ env w. Gives (env v) env (ticked w))
  variable_faithful place v h = record {
    value = variable_value place v h;
    effect = λ later k low. bought m n p calls k (cheap 0 k (omega arith) (nothing_follows m n p calls later k k nowhere tt (λ x env. env v) tt (λ x env o a u. tt)));
    condition = as_condition nowhere _ _ (variable_value place v h);
  }

  -- a pure function of what is dropped
  pub mapped : {X Y Y' : Type 0} {Was : X → Env → Type 0} {c : VariableSet} {made : Made (Unit {0})} (q k : ℕ) (g : X → Env → World → Outcome Y) (h : X → Y → Y') → Follows m n p calls 0 2 q k c Always Was Nothing made g → Follows m n p calls 0 2 q k c Always Was Nothing made (λ x env w. g x env w ⟫ λ y. Gives (h x y))
  mapped {X} {Y} {Y'} {Was} {c} {made} q k g h a = record {
    grows = a.grows;
    lasts = tt;
    runs = λ x env other w i s b u o. by x _ _ (a.runs x env other w i s b u o);
  } where
    by : {t : ℕ} {e : Env} (x : X) (r : Outcome Y) (u : Result Env) → Alike m k c (Nothing made.given) t e r u → Alike m k c (Nothing made.given) t e (r ⟫ λ y. Gives (h x y)) u
    by x r u (Both y env other w i b d z o) = Both (h x y) env other w i b d tt o
    by x r u (Stop end w i o) = Stop end w i o

  -- the same with a unit of work before
  pub dearer : {Y Z : Type 0} {c : VariableSet} {k : ℕ} {Lasting : ℕ → Z → Type 0} {Is : Z → Y → Env → Type 0} {made : Made Z} {g : Env → World → Outcome Y} → Follows m n p calls 0 2 k k c Lasting (Anything {X = Start}) Is made (λ x. g) → Follows m n p calls 0 2 k k c Lasting (Anything {X = Start}) Is made (λ x env w. g env (ticked w))
  dearer {Y} {Z} {c} {k} h = weaker m n p calls 0 11 k 0 2 k c (omega arith) (omega arith) (omega arith) (λ v z. z) (paid m n p calls 0 2 k h)
