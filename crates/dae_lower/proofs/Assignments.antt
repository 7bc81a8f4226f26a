-- The forms of assignments and steps follow their evaluation.
use Rattle.std.proofs.Common.{◌≡◌, ℕ, ◌+◌, ◌<◌, ◌≤◌, Bool, true, false, nat_eq, if◌then◌else◌, refl, ap, ◌∙◌, subst, arith}
use Rattle.std.proofs.lemmas.Bool.Decides.{nat_tests}
use Rattle.dae_base.specs.Words.{plus, extended}
use Rattle.dae_base.specs.declared.Place.{Place}
use Rattle.dae_base.specs.declared.LoadKind.{LoadKind}
use Rattle.dae_meaning.specs.Results.{Result}
use Rattle.dae_meaning.specs.Worlds.{World, ticked}
use Rattle.dae_meaning.specs.Operations.{combined}
use Rattle.dae_meaning.specs.Variables.{Env}
use Rattle.dae_ir.specs.Form.{Calls, Program}
use Rattle.dae_ir.specs.Classes.{VariableSet}
use Rattle.dae_meaning.specs.declared.Operator.{Operator}
use Rattle.dae_meaning.specs.declared.Operator.TheVariants.{Add}
use Rattle.dae_ir.specs.declared.form.Value.TheVariants.{Binary}
use Rattle.dae_ir.specs.declared.form.Operand.{Operand}
use Rattle.dae_ir.specs.declared.form.Operand.TheVariants.{Number}
use Rattle.dae_program.specs.Trees as tree
use Rattle.dae_program.specs.Trees.{Expression, Target, Expressions}
use Rattle.dae_program.specs.Outcomes.{Outcome, Gives, Ends, ◌⟫◌, read, write, Object, Local as InLocal, Placed as AtPlace}
use Rattle.dae_program.specs.Expressions.{ProgramSetup, evaluate as value, object as target, operate as operates}
use Rattle.dae_lower.specs.Lowering.{Made, nothing, ◌≫◌, or, nowhere, assigned, assigned_in, assigned_target, held as held_in, put_in, operated, narrowed, Assignee, Local, Placed, Links, advanced, stepped, ways, spot}
use Rattle.dae_lower.proofs.Relation.{at, Kept, Lasts, still, still_alone, lasts_on, lasts_wider, Alike, Both, Stop}
use Rattle.dae_lower.proofs.Chains.{run, Follows, paid, spared, weaker, chain, chain_to}
use Rattle.dae_lower.proofs.Leaves.{Holding, Standing, nothing_follows, set_follows, narrowed_follows, operated_follows, SpotIn, put_follows, held_follows}
use Rattle.dae_lower.proofs.Branches.{Always}
use Rattle.dae_lower.proofs.Valued.{AsValue, AsEffect, Faithful, as_condition, as_effect, or_nowhere, pair, Start, cheaper, Anything, Nothing}

module _ (m n : ℕ) (s : ProgramSetup) (l : Links) (p : Program) (calls : Calls) where
  module _ (places : (k : ℕ) → s.address k ≡ l.address k) where
    -- ---- assignments

    abbrev pub SpotLasts : VariableSet → VariableSet → ℕ → ℕ → Assignee → Type 0
    SpotLasts c later k o (Local v) = (v < m) × (c v ≡ true)
    SpotLasts c later k o (Placed b y) = Lasts m later k o y

    abbrev pub TargetFaithful : Target → Type 0
    TargetFaithful t = (later : VariableSet) (k : ℕ) → m ≤ k → Follows m n p calls 0 0 k k (assigned_in t) (SpotLasts (assigned_target t) later k) (Anything {X = (Start m n s l p calls)}) Standing (spot l t later k) (λ x. target s t)

    pub just_itself : (v : ℕ) → nat_eq v v ≡ true
    just_itself v = by (nat_eq v v) refl where
      by : (b : Bool) → nat_eq v v ≡ b → b ≡ true
      by true e = refl
      by false e = let c : v ≡ v = refl in absurd (grind (arith, nat_tests))

    pub local_target : (v : ℕ) → v < m → TargetFaithful (tree.InVariable v)
    local_target v h later k j = nothing_follows m n p calls later k k nowhere (Local v) (λ x env. InLocal v) (h, just_itself v) (λ x env o d u. refl)

    pub address_target : (b : Bool) (a : Expression) → (Faithful m n s l p calls) (assigned a) (ways l a) (value s a) → TargetFaithful (tree.AtAddress b a)
    address_target b a h later k j =
        weaker m n p calls 0 2 k 0 0 k (assigned a) (omega arith) (omega arith) (omega arith) (λ v z. or_nowhere (assigned a v) z)
        (chain m n p calls (λ y. nothing (Placed b y)) (λ x. Gives (AtPlace b x.1)) 0 2 2 k k k (assigned a) nowhere (omega arith) (h.value later k j) (λ x e o u t. tt)
        (λ o i z. spared m n p calls 2 0 0 o (nothing_follows m n p calls later o k nowhere (Placed b _) (λ x env. AtPlace b x.1) z (λ x env o d u. (refl, u.1)))))

    pub still_standing : (c d later : VariableSet) (k o : ℕ) (t : Assignee) (b : Object) (e f : Env) → m ≤ k → k ≤ o → SpotLasts c (or later d) k o t → Kept m o d e f → Standing t b e → Standing t b f
    still_standing c d later k o (Local u) (InLocal v) e f j i z h t = t
    still_standing c d later k o (Local u) (AtPlace b x) e f j i z h t = t
    still_standing c d later k o (Placed g y) (InLocal v) e f j i z h t = t
    still_standing c d later k o (Placed g y) (AtPlace b x) e f j i z h t = (t.0, still m k o later d y e f j i z h ∙ t.1)

    pub standing_alone : (c later : VariableSet) (k o : ℕ) (t : Assignee) (b : Object) (e f : Env) → m ≤ k → k ≤ o → SpotLasts c later k o t → Kept m o nowhere e f → Standing t b e → Standing t b f
    standing_alone c later k o (Local u) (InLocal v) e f j i z h t = t
    standing_alone c later k o (Local u) (AtPlace b x) e f j i z h t = t
    standing_alone c later k o (Placed g y) (InLocal v) e f j i z h t = t
    standing_alone c later k o (Placed g y) (AtPlace b x) e f j i z h t = (t.0, still_alone m k o later y e f j i z h ∙ t.1)

    -- among more variables, and where fewer are assigned later
    pub spot_on : (c d later : VariableSet) (k o q : ℕ) (t : Assignee) → o ≤ q → SpotLasts c (or later d) k o t → SpotLasts c later k q t
    spot_on c d later k o q (Local v) i h = h
    spot_on c d later k o q (Placed b y) i h = lasts_on m later d k o k q y (omega arith) i h

    pub spot_wider : (c later : VariableSet) (k o q : ℕ) (t : Assignee) → o ≤ q → SpotLasts c later k o t → SpotLasts c later k q t
    spot_wider c later k o q (Local v) i h = h
    spot_wider c later k o q (Placed b y) i h = lasts_wider m later k o k q y (omega arith) i h

    pub spot_in : (c later : VariableSet) (k o : ℕ) (t : Assignee) → SpotLasts c later k o t → SpotIn m n p calls later c t
    spot_in c later k o (Local v) h = h
    spot_in c later k o (Placed b y) h = tt

    pub spot_among : (c later : VariableSet) (k o : ℕ) (t : Assignee) → SpotLasts c later k o t → SpotIn m n p calls later (λ v. true) t
    spot_among c later k o (Local v) h = (h.0, refl)
    spot_among c later k o (Placed b y) h = tt

    pub assign_value : (place : Place) (kind : LoadKind) (t : Target) (a : Expression) → TargetFaithful t → (Faithful m n s l p calls) (assigned a) (ways l a) (value s a) → (AsValue m n s l p calls) (assigned (tree.Assign place kind t a)) (ways l (tree.Assign place kind t a)).value (value s (tree.Assign place kind t a))
    assign_value place kind t a h i later k j =
        (pair m n s l p calls) _ (value s a) (put_in place kind) (λ x o. write kind o) later 0 9 k k (assigned_in t) (assigned a) (assigned_target t) (omega arith) j (omega arith)
        (paid m n p calls 0 0 k (h (or later (assigned a)) k j)) (λ x e o u v. tt) i.value
        (λ o r z x y e f u v d. (tt, still_standing (assigned_target t) (assigned a) later k o _ y e f j r z d v))
        (λ o q y r v z d. (cheaper m n s l p calls) 2 6 q (omega arith) (put_follows m n p calls later q k k (assigned_target t) place kind _ y (λ x. x.0.1) (λ x. x.1) (spot_in (assigned_target t) later k q _ (spot_on (assigned_target t) (assigned a) later k o q _ v z)) d (λ x o u. u.0.1) (λ x o u. u.1)))

    -- what an update computes and writes, once the target is read and the right side evaluated
    pub updated : {W : Type 0} {Was : W → Env → Type 0} (place : Place) (kind : LoadKind) (operator : Operator) (c later : VariableSet) (k q : ℕ) (t : Assignee) (b : W → Object) (y z : Operand) (u v : W → ℕ) → m ≤ k → k ≤ q → SpotLasts c later k q t →
        ((x : W) (o : Env) → Was x o → Standing t (b x) o) → ((x : W) (o : Env) → Was x o → Holding y (u x) o) → ((x : W) (o : Env) → Was x o → Holding z (v x) o) →
        Follows m n p calls 6 0 q k c (Lasts m later k) Was Holding (operated place operator y z q ≫ λ z q. narrowed place kind z q ≫ put_in place kind t) (λ x env w. operates operator (u x) (v x) env w ⟫ λ z. write kind (b x) (extended kind z))
    updated {W} {Was} place kind operator c later k q t b y z u v j i f hb hy hz =
        weaker m n p calls 5 0 q 6 0 k c (omega arith) (omega arith) (omega arith) (λ v z. z)
        (chain_to m n p calls (λ x. Standing t (b x)) (λ z q. narrowed place kind z q ≫ put_in place kind t) (λ x env w. Gives (extended kind x.1) env w ⟫ write kind (b x.0)) 5 3 0 q q k nowhere c i
        (spared m n p calls 3 2 0 q (operated_follows m n p calls later q q place operator y z u v (omega (arith, j, i)) (omega arith) hy hz))
        (λ x e o w r. standing_alone c later k q t (b x) e o j i f r (hb x e w))
        (λ o r d.
        chain_to m n p calls (λ x. Standing t (b x.0)) (put_in place kind t) (λ x. write kind (b x.0.0) x.1) 3 2 0 o o k nowhere c (omega (arith, r, i))
        (spared m n p calls 2 1 0 o (narrowed_follows m n p calls later o o q place kind _ (λ x. x.1) (omega (arith, j, i, r)) (omega arith) r d (λ x o u. u.1)))
        (λ x e o' w z. standing_alone c later k o t (b x.0) e o' j (omega (arith, i, r)) (spot_wider c later k q o t r f) z w.0)
        (λ g y w. put_follows m n p calls later g k k c place kind t _ (λ x. b x.0.0) (λ x. x.1) (spot_in c later k q t f) (lasts_wider m later q g k g _ i (omega arith) w) (λ x o u. u.0) (λ x o u. u.1))))

    pub update_value : (place : Place) (kind : LoadKind) (t : Target) (operator : Operator) (a : Expression) → TargetFaithful t → (Faithful m n s l p calls) (assigned a) (ways l a) (value s a) → (AsValue m n s l p calls) (assigned (tree.Update place kind t operator a)) (ways l (tree.Update place kind t operator a)).value (value s (tree.Update place kind t operator a))
    update_value place kind t operator a h i later k j =
        weaker m n p calls 0 2 k 0 2 k (assigned (tree.Update place kind t operator a)) (omega arith) (omega arith) (omega arith) (λ v z. z)
        (chain m n p calls (λ o n. held_in place kind (or later (assigned a)) o n ≫ λ x n. (ways l a).value later n ≫ λ y n. operated place operator x y n ≫ λ z n. narrowed place kind z n ≫ put_in place kind o) (λ x env w. read kind x.1 env w ⟫ λ y env w. value s a env w ⟫ λ z env w. operates operator y z env w ⟫ λ z. write kind x.1 (extended kind z))
        0 9 2 k k k (assigned_in t) (or (assigned a) (assigned_target t)) (omega arith)
        (paid m n p calls 0 0 k (h (or later (assigned a)) k j)) (λ x e o u v. tt)
        (λ o r z.
        weaker m n p calls 9 2 o 9 2 k (or (assigned a) (assigned_target t)) (omega arith) (omega arith) (omega arith) (λ v z. z)
        ((pair m n s l p calls) _ (value s a) (λ x y n. operated place operator x y n ≫ λ z n. narrowed place kind z n ≫ put_in place kind (spot l t (or later (assigned a)) k).given) (λ x y z env w. operates operator y z env w ⟫ λ z. write kind x.1 (extended kind z)) later 9 6 o k nowhere (assigned a) (assigned_target t) (omega arith) j r
        (spared m n p calls 6 3 0 o (held_follows m n p calls (or later (assigned a)) o o place kind (or later (assigned a)) _ (λ x. x.1) (omega (arith, j, r)) (omega arith) (λ v e. e) (spot_among (assigned_target t) (or later (assigned a)) k o _ z) (λ x o u. u.1)))
        (λ x e o' u v. (tt, standing_alone (assigned_target t) (or later (assigned a)) k o _ x.1 e o' j r z v u.1))
        i.value
        (λ g y d x c e f u v b. ((tt, still_standing (assigned_target t) (assigned a) later k g _ x.1 e f j (omega (arith, r, y)) (spot_wider (assigned_target t) (or later (assigned a)) k o g _ y z) b u.1), still m o g later (assigned a) _ e f (omega (arith, j, r)) y d b ∙ v))
        (λ g q y d v b c. updated place kind operator (assigned_target t) later k q _ (λ x. x.0.0.1) _ y (λ x. x.0.1) (λ x. x.1) j (omega (arith, r, d, v)) (spot_on (assigned_target t) (assigned a) later k o q _ (omega (arith, d, v)) z) (λ x o u. u.0.0.1) (λ x o u. u.0.1) (λ x o u. u.1)))))

    -- ---- steps

    -- what a step computes and writes, once the target is read
    pub stepping : {W : Type 0} {Was : W → Env → Type 0} (place : Place) (kind : LoadKind) (change : ℕ) (c later : VariableSet) (h k q : ℕ) (t : Assignee) (b : W → Object) (y : Operand) (u : W → ℕ) → m ≤ h → h ≤ k → k ≤ q → SpotLasts c later h q t →
        ((x : W) (o : Env) → Was x o → Standing t (b x) o) → ((x : W) (o : Env) → Was x o → Holding y (u x) o) →
        Follows m n p calls 4 0 q k c (Lasts m later h) Was Holding (advanced place kind change t y q) (λ x env w. write kind (b x) (extended kind (plus (u x) change)) env w)
    unfolding combined
    stepping {W} {Was} place kind change c later h k q t b y u j v i f hb hy =
        weaker m n p calls 4 0 q 4 0 k c (omega arith) (omega arith) (omega arith) (λ v z. z)
        (chain_to m n p calls (λ x. Standing t (b x)) (λ z q. narrowed place kind z q ≫ put_in place kind t) (λ x env w. Gives (extended kind x.1) env w ⟫ write kind (b x.0)) 4 3 0 q q k nowhere c i
        (spared m n p calls 3 1 0 q (set_follows m n p calls later q q place (Binary Add y (Number change)) (λ x env w. plus (u x) change) (omega (arith, j, v, i)) (omega arith) (λ x env o w d z. ap (λ t. plus t change) (hy x o z))))
        (λ x e o w r. standing_alone c later h q t (b x) e o j (omega (arith, v, i)) f r (hb x e w))
        (λ o r d.
        chain_to m n p calls (λ x. Standing t (b x.0)) (put_in place kind t) (λ x. write kind (b x.0.0) x.1) 3 2 0 o o k nowhere c (omega (arith, r, i))
        (spared m n p calls 2 1 0 o (narrowed_follows m n p calls later o o q place kind _ (λ x. x.1) (omega (arith, j, v, i, r)) (omega arith) r d (λ x o u. u.1)))
        (λ x e o' w z. standing_alone c later h o t (b x.0) e o' j (omega (arith, v, i, r)) (spot_wider c later h q o t r f) z w.0)
        (λ g y w. put_follows m n p calls later g k h c place kind t _ (λ x. b x.0.0) (λ x. x.1) (spot_in c later h q t f) (lasts_wider m later q g h g _ (omega (arith, v, i)) (omega arith) w) (λ x o u. u.0) (λ x o u. u.1))))

    -- The value given is the new one, or the old one, of which a copy is made.
    pub step_value : (place : Place) (kind : LoadKind) (t : Target) (change : ℕ) (new : Bool) → TargetFaithful t → (AsValue m n s l p calls) (assigned (tree.Step place kind t change new)) (λ later q. stepped place kind (spot l t) change new (if new then later else or later (assigned_target t)) later q) (value s (tree.Step place kind t change new))
    step_value place kind t change new h later k j =
        weaker m n p calls 0 2 k 0 2 k (assigned (tree.Step place kind t change new)) (omega arith) (omega arith) (omega arith) (λ v z. z)
        (chain m n p calls (λ o n. held_in place kind copied o n ≫ λ x n. advanced place kind change o x n ≫ λ y. nothing (if new then y else x)) (λ x env w. read kind x.1 env w ⟫ λ y env w. write kind x.1 (extended kind (plus y change)) env w ⟫ λ z. Gives (if new then z else y))
        0 9 2 k k k (assigned_in t) (assigned_target t) (omega arith)
        (paid m n p calls 0 0 k (h later k j)) (λ x e o u v. tt)
        (λ o r z.
        weaker m n p calls 9 2 o 9 2 k (assigned_target t) (omega arith) (omega arith) (omega arith) (λ v z. z)
        (chain m n p calls (λ x n. advanced place kind change (spot l t later k).given x n ≫ λ y. nothing (if new then y else x)) (λ x env w. write kind x.0.1 (extended kind (plus x.1 change)) env w ⟫ λ z. Gives (if new then z else x.1)) 9 6 2 o o k nowhere (assigned_target t) r
        (spared m n p calls 6 3 0 o (held_follows m n p calls copied o o place kind copied _ (λ x. x.1) (omega (arith, j, r)) (omega arith) (λ v e. e) (spot_among (assigned_target t) later k o _ z) (λ x o u. u.1)))
        (λ x e o' u v. (tt, standing_alone (assigned_target t) later k o _ x.1 e o' j r z v u.1))
        (λ g y d. weaker m n p calls 6 2 g 6 2 k (assigned_target t) (omega arith) (omega arith) (omega arith) (λ v z. or_nowhere (assigned_target t v) z)
        (gives_one new g (held_in place kind copied (spot l t later k).given o).given o r y z d))))) where
          copied : VariableSet
          copied = if new then later else or later (assigned_target t)

          gives_one : (new : Bool) (g : ℕ) (y : Operand) (o : ℕ) → k ≤ o → o ≤ g → SpotLasts (assigned_target t) later k o (spot l t later k).given → Lasts m (if new then later else or later (assigned_target t)) o g y →
              Follows m n p calls 6 2 g k (or (assigned_target t) nowhere) (Lasts m later k) (λ x o. (Unit {0} × Standing (spot l t later k).given x.0.1 o) × Holding y x.1 o) Holding (advanced place kind change (spot l t later k).given y g ≫ λ z. nothing (if new then z else y)) (λ (x : ((Start m n s l p calls) × Object) × ℕ) env w. write kind x.0.1 (extended kind (plus x.1 change)) env w ⟫ λ z. Gives (if new then z else x.1))
          gives_one true g y o r i z d =
              chain_to m n p calls Anything (λ z. nothing z) (λ x. Gives x.1) 6 2 2 g g k (assigned_target t) nowhere (omega (arith, r, i))
              (spared m n p calls 2 4 0 g (stepping place kind change (assigned_target t) later k g g _ (λ x. x.0.1) y (λ x. x.1) j (omega (arith, r, i)) (omega arith) (spot_wider (assigned_target t) later k o g _ i z) (λ x o u. u.0.1) (λ x o u. u.1)))
              (λ x e o' u v. tt)
              (λ q v w. spared m n p calls 2 0 0 q (nothing_follows m n p calls later q k nowhere _ (λ x env. x.1) w (λ x env o d u. u.1)))
          gives_one false g y o r i z d =
              chain_to m n p calls (λ x. Holding y x.1) (λ z. nothing y) (λ x. Gives x.0.1) 6 2 2 g g k (assigned_target t) nowhere (omega (arith, r, i))
              (spared m n p calls 2 4 0 g (stepping place kind change (assigned_target t) later k g g _ (λ x. x.0.1) y (λ x. x.1) j (omega (arith, r, i)) (omega arith) (spot_wider (assigned_target t) later k o g _ i z) (λ x o u. u.0.1) (λ x o u. u.1)))
              (λ x e o' u v. still m o g later (assigned_target t) y e o' (omega (arith, j, r)) i d v ∙ u.1)
              (λ q v w. spared m n p calls 2 0 0 q (nothing_follows m n p calls later q k nowhere y (λ x env. x.0.1) (lasts_on m later (assigned_target t) o g k q y r v d) (λ x env o d u. u.0)))

    abbrev pub forgot : {Y : Type 0} → Outcome Y → Outcome (Unit {0})
    forgot (Gives x env w) = Gives tt env w
    forgot (Ends end w) = Ends end w

    abbrev pub regiven : ℕ → Outcome (Unit {0}) → Outcome ℕ
    regiven x (Gives y env w) = Gives x env w
    regiven x (Ends end w) = Ends end w

    pub forgot_after : {Y Z Z' : Type 0} (r : Outcome Y) (f : Y → Env → World → Outcome Z) (g : Y → Env → World → Outcome Z') → ((x : Y) (env : Env) (w : World) → forgot (f x env w) ≡ forgot (g x env w)) → forgot (r ⟫ f) ≡ forgot (r ⟫ g)
    forgot_after (Gives x env w) f g h = h x env w
    forgot_after (Ends end w) f g h = refl

    -- evaluations that differ in what they give alone
    pub relabelled : {Y : Type 0} {c : VariableSet} {made : Made (Unit {0})} (k : ℕ) (f : Env → World → Outcome Y) (g : Env → World → Outcome ℕ) → ((env : Env) (w : World) → forgot (f env w) ≡ forgot (g env w)) → Follows m n p calls 0 2 k k c Always (Anything {X = (Start m n s l p calls)}) Nothing made (λ x. f) → Follows m n p calls 0 2 k k c Always (Anything {X = (Start m n s l p calls)}) Nothing made (λ x. g)
    relabelled {Y} {c} {made} k f g t h = record {
      grows = h.grows;
      lasts = tt;
      runs = λ x env other w i b d u o. back (g env w) _ (subst (λ (r : Outcome (Unit {0})). Alike m k c (λ y o. Unit {0}) (b + 2) other r (run m n p calls made.code other (at i w))) (t env w) (on _ _ (h.runs x env other w i b d u o)));
    } where
      on : {t : ℕ} {e : Env} (r : Outcome Y) (u : Result Env) → Alike m k c (Nothing made.given) t e r u → Alike m k c (λ y o. Unit {0}) t e (forgot r) u
      on r u (Both y env other w i b d z o) = Both tt env other w i b d tt o
      on r u (Stop end w i o) = Stop end w i o

      again : {t : ℕ} {e : Env} (x : ℕ) (r : Outcome (Unit {0})) (u : Result Env) → Alike m k c (λ y o. Unit {0}) t e r u → Alike m k c (Nothing made.given) t e (regiven x r) u
      again x r u (Both y env other w i b d z o) = Both x env other w i b d tt o
      again x r u (Stop end w i o) = Stop end w i o

      back : {t : ℕ} {e : Env} (r : Outcome ℕ) (u : Result Env) → Alike m k c (λ y o. Unit {0}) t e (forgot r) u → Alike m k c (Nothing made.given) t e r u
      back (Gives x env w) u h = again x _ u h
      back (Ends end w) u h = again 0 _ u h

    pub step_effect : (place : Place) (kind : LoadKind) (t : Target) (change : ℕ) (new : Bool) → TargetFaithful t → (AsEffect m n s l p calls) (assigned (tree.Step place kind t change new)) (ways l (tree.Step place kind t change new)).effect (value s (tree.Step place kind t change new))
    step_effect place kind t change new h later k j =
        relabelled k (value s (tree.Step place kind t change true)) (value s (tree.Step place kind t change new))
        (λ env w. forgot_after (target s t env (ticked w)) _ _ (λ x env w. forgot_after (read kind x env w) _ _ (λ y env w. forgot_after (write kind x (extended kind (plus y change)) env w) _ _ (λ z env w. refl))))
        ((as_effect m n s l p calls) (assigned (tree.Step place kind t change true)) _ (value s (tree.Step place kind t change true)) (step_value place kind t change true h) later k j)

    pub step_faithful : (place : Place) (kind : LoadKind) (t : Target) (change : ℕ) (new : Bool) → TargetFaithful t → (Faithful m n s l p calls) (assigned (tree.Step place kind t change new)) (ways l (tree.Step place kind t change new)) (value s (tree.Step place kind t change new))
    step_faithful place kind t change new h = record {
      value = step_value place kind t change new h;
      effect = step_effect place kind t change new h;
      condition = (as_condition m n s l p calls) (assigned (tree.Step place kind t change new)) _ _ (step_value place kind t change new h);
    }
    -- ---- what prints and what ends
