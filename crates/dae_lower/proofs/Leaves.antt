-- Single items follow single steps of the meaning.
use Rattle.std.proofs.Common.{◌≡◌, ℕ, ◌+◌, ◌*◌, ◌<◌, ◌≤◌, inl, inr, Bool, true, false, ◌&&◌, nat_eq, Option, Some, None, length, if◌then◌else◌, refl, ap, sym, ◌∙◌, subst, arith}
use Rattle.dae_base.specs.Words.{extended, loaded, width_of}
use Rattle.dae_base.specs.declared.Place.{Place}
use Rattle.dae_base.specs.declared.LoadKind.{LoadKind}
use Rattle.dae_base.specs.declared.LoadKind.TheVariants.{I8, U8, I16, U16, I32}
use Rattle.dae_meaning.specs.Results.{Result, At, Next, Trapped, Astray, Run, ◌▷◌, checked, within}
use Rattle.dae_meaning.specs.Worlds.{World, ticked}
use Rattle.dae_meaning.specs.Operations.{combined, misplaced}
use Rattle.dae_ir.specs.Form.{Form, value as held, computed, Calls, Program}
use Rattle.dae_meaning.specs.Variables.{Env, put}
use Rattle.dae_ir.specs.Code.{Done}
use Rattle.dae_ir.specs.Classes.{VariableSet}
use Rattle.dae_meaning.specs.declared.Operator.{Operator}
use Rattle.dae_ir.specs.declared.form.Value.{Value}
use Rattle.dae_ir.specs.declared.form.Value.TheVariants.{Same, Extended, Binary}
use Rattle.dae_ir.specs.declared.form.Check.TheVariants.{Place as Good, Zero}
use Rattle.dae_ir.specs.declared.form.Item.TheVariants.{Assign, Load, Store, Expect}
use Rattle.dae_ir.specs.declared.form.Operand.{Operand}
use Rattle.dae_ir.specs.declared.form.Operand.TheVariants.{Variable, Number}
use Rattle.dae_program.specs.Outcomes.{Outcome, Gives, Ends, Object, Local as InLocal, Placed as AtPlace, access, with_read, with_written, read, write}
use Rattle.dae_program.specs.Expressions.{operate as operates, divides}
use Rattle.dae_lower.specs.Lowering.{nothing, set, one, checks, variable, fetched, held as held_in, put_in, operated, may_be_zero, narrowed, Assignee, Local, Placed, nowhere}
use Rattle.dae_lower.proofs.Relation.{at, Agree, Fixed, Kept, Lasts, lasts_wider, Alike, Both, Stop, put_same, put_other, kept_all}
use Rattle.dae_lower.proofs.Chains.{run, Follows, weaker, lasting}

-- what an operand holds
abbrev pub Holding : Operand → ℕ → Env → Type 0
Holding y x o = held y o ≡ x

-- an object and what stands for it
abbrev pub Standing : Assignee → Object → Env → Type 0
Standing (Local u) (InLocal v) o = u ≡ v
Standing (Local u) (AtPlace b x) o = ⊥
Standing (Placed c y) (InLocal v) o = ⊥
Standing (Placed c y) (AtPlace b x) o = (c ≡ b) × (held y o ≡ x)

module _ (m n : ℕ) (p : Program) (calls : Calls) (later : VariableSet) where
  abbrev runs_to : Form → Run Env
  runs_to = run m n p calls

  pub agree_put : (q x : ℕ) (env other : Env) → m ≤ q → Agree m env other → Agree m env (put true q x other)
  agree_put q x env other l a v h = put_other q x v other (λ e. omega (arith, e, l, h)) ∙ a v h

  pub kept_put : (q k x : ℕ) (other : Env) → k ≤ q → Kept m k nowhere other (put true q x other)
  kept_put q k x other l v h f = put_other q x v other (λ e. omega (arith, e, l, h))

  module _ {X : Type 0} {Was : X → Env → Type 0} where
    -- nothing is made
    pub nothing_follows : {Y Z : Type 0} {Lasting : ℕ → Z → Type 0} {Is : Z → Y → Env → Type 0} (q k : ℕ) (c : VariableSet) (z : Z) (g : X → Env → Y) → Lasting q z → ((x : X) (env o : Env) → Agree m env o → Was x o → Is z (g x env) o) → Follows m n p calls 0 0 q k c Lasting Was Is (nothing z q) (λ x env w. Gives (g x env) env w)
    nothing_follows q k c z g l h = record {
      grows = omega arith;
      lasts = l;
      runs = λ x env other w i s a u o. Both (g x env) env other w i a (kept_all m k c other) (h x env other a u) o;
    }

    -- a variable of the form's own is set
    pub set_follows : (q k : ℕ) (place : Place) (v : Value) (g : X → Env → World → ℕ) → m ≤ q → k ≤ q → ((x : X) (env other : Env) (w : World) → Agree m env other → Was x other → computed v w.frame other ≡ g x env w) → Follows m n p calls 1 0 q k nowhere (Lasts m later k) Was Holding (set place v q) (λ x env w. Gives (g x env w) env w)
    set_follows q k place v g l j h = record {
      grows = omega arith;
      lasts = inl (j, omega arith);
      runs = λ x env other w i s a u o. Both (g x env w) env (put true q (computed v w.frame other) other) w (i + 1) (agree_put q (computed v w.frame other) env other l a) (kept_put q k (computed v w.frame other) other j) (put_same q (computed v w.frame other) other ∙ h x env other w a u) (omega (arith, o));
    }

    pub narrowed_follows : (q k b : ℕ) (place : Place) (kind : LoadKind) (y : Operand) (g : X → ℕ) → m ≤ q → k ≤ q → b ≤ k → Lasts m later b q y → ((x : X) (o : Env) → Was x o → held y o ≡ g x) → Follows m n p calls 1 0 q k nowhere (Lasts m later b) Was Holding (narrowed place kind y q) (λ x. Gives (extended kind (g x)))
    narrowed_follows q k b place I32 y g l j r z h = record {
      grows = omega arith;
      lasts = z;
      runs = λ x env other w i s a u o. Both (g x) env other w i a (kept_all m k nowhere other) (h x other u) (omega (arith, o));
    }
    narrowed_follows q k b place I8 y g l j r z h = lasting m n p calls 1 0 q (λ o t v. lasts_wider m later k o b o t r (omega arith) v) (set_follows q k place (Extended I8 y) (λ x env w. extended I8 (g x)) l j (λ x env other w a u. ap (extended I8) (h x other u)))
    narrowed_follows q k b place U8 y g l j r z h = lasting m n p calls 1 0 q (λ o t v. lasts_wider m later k o b o t r (omega arith) v) (set_follows q k place (Extended U8 y) (λ x env w. extended U8 (g x)) l j (λ x env other w a u. ap (extended U8) (h x other u)))
    narrowed_follows q k b place I16 y g l j r z h = lasting m n p calls 1 0 q (λ o t v. lasts_wider m later k o b o t r (omega arith) v) (set_follows q k place (Extended I16 y) (λ x env w. extended I16 (g x)) l j (λ x env other w a u. ap (extended I16) (h x other u)))
    narrowed_follows q k b place U16 y g l j r z h = lasting m n p calls 1 0 q (λ o t v. lasts_wider m later k o b o t r (omega arith) v) (set_follows q k place (Extended U16 y) (λ x env w. extended U16 (g x)) l j (λ x env other w a u. ap (extended U16) (h x other u)))

  -- ---- memory

  loads_alike : (q k : ℕ) (place : Place) (kind : LoadKind) (y : Operand) (env other : Env) (w : World) (i s : ℕ) → m ≤ q → k ≤ q → Agree m env other → i + (s + 3) + w.loads ≤ 9 * w.items → (b : Bool) → Alike m k nowhere (Holding (Variable q)) s other (read kind (AtPlace b (held y other)) env w) (runs_to (checks b place (Expect (Good (width_of kind) y)) (one place (Load q kind y))) other (at i w))
  loads_alike q k place kind y env other w i s l j a o false = by (misplaced (width_of kind) (held y other) (length w.memory)) where
    by : (f : Option ℕ) → Alike m k nowhere (Holding (Variable q)) s other (access false f (Gives (loaded kind (held y other) w.memory) env (with_read w)) w) (within f (at i w) (At Next (put true q (loaded kind (held y other) w.memory) other) (at (i + 1) (with_read w))) ▷ runs_to Done)
    by None = Both (loaded kind (held y other) w.memory) env (put true q (loaded kind (held y other) w.memory) other) (with_read w) (i + 1) (agree_put q _ env other l a) (kept_put q k _ other j) (put_same q _ other) (omega (arith, o))
    by (Some code) = Stop Astray w i (omega (arith, o))
  loads_alike q k place kind y env other w i s l j a o true = by (misplaced (width_of kind) (held y other) (length w.memory)) refl where
    by : (f : Option ℕ) → misplaced (width_of kind) (held y other) (length w.memory) ≡ f → Alike m k nowhere (Holding (Variable q)) s other (access true f (Gives (loaded kind (held y other) w.memory) env (with_read w)) w) (checked f other (ticked (at i w)) ▷ runs_to (one place (Load q kind y)))
    by None e =
        subst (λ (f : Option ℕ). Alike m k nowhere (Holding (Variable q)) s other (Gives (loaded kind (held y other) w.memory) env (with_read w)) (within f (at (i + 1) w) (At Next (put true q (loaded kind (held y other) w.memory) other) (at (i + 1 + 1) (with_read w))) ▷ runs_to Done)) (sym e)
        (Both (loaded kind (held y other) w.memory) env (put true q (loaded kind (held y other) w.memory) other) (with_read w) (i + 1 + 1) (agree_put q _ env other l a) (kept_put q k _ other j) (put_same q _ other) (omega (arith, o)))
    by (Some code) e = Stop (Trapped code) w (i + 1) (omega (arith, o))

  stores_alike : (q k : ℕ) (c : VariableSet) (place : Place) (kind : LoadKind) (y z : Operand) (env other : Env) (w : World) (i s : ℕ) → Agree m env other → i + (s + 2) + w.loads ≤ 9 * w.items → (b : Bool) → Alike m k c (Holding z) s other (write kind (AtPlace b (held y other)) (held z other) env w) (runs_to (checks b place (Expect (Good (width_of kind) y)) (one place (Store (width_of kind) y z))) other (at i w))
  stores_alike q k c place kind y z env other w i s a o false = by (misplaced (width_of kind) (held y other) (length w.memory)) where
    by : (f : Option ℕ) → Alike m k c (Holding z) s other (access false f (Gives (held z other) env (with_written (width_of kind) (held y other) (held z other) w)) w) (within f (at i w) (At Next other (at (i + 1) (with_written (width_of kind) (held y other) (held z other) w))) ▷ runs_to Done)
    by None = Both (held z other) env other (with_written (width_of kind) (held y other) (held z other) w) (i + 1) a (kept_all m k c other) refl (omega (arith, o))
    by (Some code) = Stop Astray w i (omega (arith, o))
  stores_alike q k c place kind y z env other w i s a o true = by (misplaced (width_of kind) (held y other) (length w.memory)) refl where
    by : (f : Option ℕ) → misplaced (width_of kind) (held y other) (length w.memory) ≡ f → Alike m k c (Holding z) s other (access true f (Gives (held z other) env (with_written (width_of kind) (held y other) (held z other) w)) w) (checked f other (ticked (at i w)) ▷ runs_to (one place (Store (width_of kind) y z)))
    by None e =
        subst (λ (f : Option ℕ). Alike m k c (Holding z) s other (Gives (held z other) env (with_written (width_of kind) (held y other) (held z other) w)) (within f (at (i + 1) w) (At Next other (at (i + 1 + 1) (with_written (width_of kind) (held y other) (held z other) w))) ▷ runs_to Done)) (sym e)
        (Both (held z other) env other (with_written (width_of kind) (held y other) (held z other) w) (i + 1 + 1) a (kept_all m k c other) refl (omega (arith, o)))
    by (Some code) e = Stop (Trapped code) w (i + 1) (omega (arith, o))

  -- ---- division

  operates_alike : (q k : ℕ) (place : Place) (operator : Operator) (x : Operand) (env other : Env) (w : World) (i s : ℕ) → m ≤ q → k ≤ q → Agree m env other → i + (s + 2) + w.loads ≤ 9 * w.items → (d : Bool) (y : Operand) → Alike m k nowhere (Holding (Variable q)) s other (if d && nat_eq (held y other) 0 then Ends (Trapped 1) w else Gives (combined operator (held x other) (held y other)) env w) (runs_to (checks (d && may_be_zero y) place (Expect (Zero y)) (one place (Assign q (Binary operator x y)))) other (at i w))
  operates_alike q k place operator x env other w i s l j a o d y = by d y where
    made : (i : ℕ) (y : Operand) → i + (s + 1) + w.loads ≤ 9 * w.items → Alike m k nowhere (Holding (Variable q)) s other (Gives (combined operator (held x other) (held y other)) env w) (runs_to (one place (Assign q (Binary operator x y))) other (at i w))
    made i y o = Both (combined operator (held x other) (held y other)) env (put true q (combined operator (held x other) (held y other)) other) w (i + 1) (agree_put q _ env other l a) (kept_put q k _ other j) (put_same q _ other) (omega (arith, o))

    tested : (y : Operand) (b : Bool) → Alike m k nowhere (Holding (Variable q)) s other (if b then Ends (Trapped 1) w else Gives (combined operator (held x other) (held y other)) env w) (checked (if b then Some 1 else None) other (ticked (at i w)) ▷ runs_to (one place (Assign q (Binary operator x y))))
    tested y true = Stop (Trapped 1) w (i + 1) (omega (arith, o))
    tested y false = made (i + 1) y (omega (arith, o))

    number : (c : ℕ) (b : Bool) → nat_eq c 0 ≡ b → Alike m k nowhere (Holding (Variable q)) s other (if b then Ends (Trapped 1) w else Gives (combined operator (held x other) c) env w) (runs_to (checks b place (Expect (Zero (Number c))) (one place (Assign q (Binary operator x (Number c))))) other (at i w))
    number c true e = subst (λ (t : Bool). Alike m k nowhere (Holding (Variable q)) s other (Ends (Trapped 1) w) (checked (if t then Some 1 else None) other (ticked (at i w)) ▷ runs_to (one place (Assign q (Binary operator x (Number c)))))) (sym e) (Stop (Trapped 1) w (i + 1) (omega (arith, o)))
    number c false e = made i (Number c) (omega (arith, o))

    by : (d : Bool) (y : Operand) → Alike m k nowhere (Holding (Variable q)) s other (if d && nat_eq (held y other) 0 then Ends (Trapped 1) w else Gives (combined operator (held x other) (held y other)) env w) (runs_to (checks (d && may_be_zero y) place (Expect (Zero y)) (one place (Assign q (Binary operator x y)))) other (at i w))
    by false y = made i y (omega (arith, o))
    by true (Variable v) = tested (Variable v) (nat_eq (other v) 0)
    by true (Number c) = number c (nat_eq c 0) refl

  -- ---- the same as steps

  module _ {X : Type 0} {Was : X → Env → Type 0} where
    pub fetched_follows : (q k : ℕ) (place : Place) (kind : LoadKind) (b : Bool) (y : Operand) (g : X → ℕ) → m ≤ q → k ≤ q → ((x : X) (o : Env) → Was x o → held y o ≡ g x) → Follows m n p calls 3 0 q k nowhere (Lasts m later k) Was Holding (fetched place kind b y q) (λ x. read kind (AtPlace b (g x)))
    fetched_follows q k place kind b y g l j h = record {
      grows = omega arith;
      lasts = inl (j, omega arith);
      runs = λ x env other w i s a u o.
          subst (λ t. Alike m k nowhere (Holding (Variable q)) (s + 0) other (read kind (AtPlace b t) env w) (runs_to (checks b place (Expect (Good (width_of kind) y)) (one place (Load q kind y))) other (at i w))) (h x other u)
          (loads_alike q k place kind y env other w i (s + 0) l j a (omega (arith, o)) b);
    }

    pub operated_follows : (q k : ℕ) (place : Place) (operator : Operator) (y z : Operand) (f g : X → ℕ) → m ≤ q → k ≤ q → ((x : X) (o : Env) → Was x o → held y o ≡ f x) → ((x : X) (o : Env) → Was x o → held z o ≡ g x) → Follows m n p calls 2 0 q k nowhere (Lasts m later k) Was Holding (operated place operator y z q) (λ x. operates operator (f x) (g x))
    operated_follows q k place operator y z f g l j hf hg = record {
      grows = omega arith;
      lasts = inl (j, omega arith);
      runs = λ x env other w i s a u o.
          subst (λ t. Alike m k nowhere (Holding (Variable q)) (s + 0) other (operates operator t (g x) env w) (runs_to (checks (divides operator && may_be_zero z) place (Expect (Zero z)) (one place (Assign q (Binary operator y z)))) other (at i w))) (hf x other u)
          (subst (λ t. Alike m k nowhere (Holding (Variable q)) (s + 0) other (operates operator (held y other) t env w) (runs_to (checks (divides operator && may_be_zero z) place (Expect (Zero z)) (one place (Assign q (Binary operator y z)))) other (at i w))) (hg x other u)
          (operates_alike q k place operator y env other w i (s + 0) l j a (omega (arith, o)) (divides operator) z));
    }

  -- ---- what is assigned

  -- a variable of the program, among those that may change
  abbrev pub SpotIn : VariableSet → Assignee → Type 0
  SpotIn c (Local v) = (v < m) × (c v ≡ true)
  SpotIn c (Placed b y) = Unit {0}

  put_own : (v : ℕ) (z : Operand) (o : Env) → held z (put true v (held z o) o) ≡ held z o
  put_own v (Number x) o = refl
  put_own v (Variable u) o = by (nat_eq u v) where
    by : (b : Bool) → (if (true && b) then o u else o u) ≡ o u
    by true = refl
    by false = refl

  pub agree_both : (v x : ℕ) (env other : Env) → Agree m env other → Agree m (put true v x env) (put true v x other)
  agree_both v x env other a u h = by (nat_eq u v) where
    by : (b : Bool) → (if (true && b) then x else other u) ≡ (if (true && b) then x else env u)
    by true = refl
    by false = a u h

  kept_own : (v x k : ℕ) (c : VariableSet) (o : Env) → v < m → c v ≡ true → Kept m k c o (put true v x o)
  kept_own v x k c o l t u h f = put_other v x u o (λ e. by f e) where
    by : Fixed m c u → u ≡ v → ⊥
    by (inl g) e = omega (arith, g, l, e)
    by (inr g) e = let b : c v ≡ false = subst (λ (z : ℕ). c z ≡ false) e g in cc

  puts_alike : (k : ℕ) (c : VariableSet) (place : Place) (kind : LoadKind) (z : Operand) (env other : Env) (w : World) (i s : ℕ) → Agree m env other → i + (s + 2) + w.loads ≤ 9 * w.items → (t : Assignee) (b : Object) → SpotIn c t → Standing t b other → (q : ℕ) → Alike m k c (Holding z) s other (write kind b (held z other) env w) (runs_to (put_in place kind t z q).code other (at i w))
  puts_alike k c place kind z env other w i s a o (Local u) (InLocal v) f h q =
      subst (λ d. Alike m k c (Holding z) s other (write kind (InLocal d) (held z other) env w) (runs_to (put_in place kind (Local u) z q).code other (at i w))) h
      (Both (held z other) (put true u (held z other) env) (put true u (held z other) other) w (i + 1) (agree_both u (held z other) env other a) (kept_own u (held z other) k c other f.0 f.1) (put_own u z other) (omega (arith, o)))
  puts_alike k c place kind z env other w i s a o (Local u) (AtPlace b x) f h q = absurd h
  puts_alike k c place kind z env other w i s a o (Placed d y) (InLocal v) f h q = absurd h
  puts_alike k c place kind z env other w i s a o (Placed d y) (AtPlace b x) f h q =
      subst (λ t. Alike m k c (Holding z) s other (write kind (AtPlace t x) (held z other) env w) (runs_to (put_in place kind (Placed d y) z q).code other (at i w))) (h.0)
      (subst (λ t. Alike m k c (Holding z) s other (write kind (AtPlace d t) (held z other) env w) (runs_to (put_in place kind (Placed d y) z q).code other (at i w))) (h.1)
      (stores_alike 0 k c place kind y z env other w i s a o d))

  module _ {X : Type 0} {Was : X → Env → Type 0} where
    pub put_follows : (q k b : ℕ) (c : VariableSet) (place : Place) (kind : LoadKind) (t : Assignee) (z : Operand) (a : X → Object) (g : X → ℕ) → SpotIn c t → Lasts m later b q z → ((x : X) (o : Env) → Was x o → Standing t (a x) o) → ((x : X) (o : Env) → Was x o → held z o ≡ g x) → Follows m n p calls 2 0 q k c (Lasts m later b) Was Holding (put_in place kind t z q) (λ x. write kind (a x) (g x))
    put_follows q k b c place kind t z a g f l hb hg = record {
      grows = by t;
      lasts = last t;
      runs = λ x env other w i s d u o.
          subst (λ y. Alike m k c (Holding (put_in place kind t z q).given) (s + 0) other (write kind (a x) y env w) (runs_to (put_in place kind t z q).code other (at i w))) (hg x other u)
          (is t (puts_alike k c place kind z env other w i (s + 0) d (omega (arith, o)) t (a x) f (hb x other u) q));
    } where
      by : (t : Assignee) → q ≤ (put_in place kind t z q).next
      by (Local v) = omega arith
      by (Placed d y) = omega arith

      last : (t : Assignee) → Lasts m later b (put_in place kind t z q).next (put_in place kind t z q).given
      last (Local v) = l
      last (Placed d y) = l

      is : {s : ℕ} {e : Env} {r : Outcome ℕ} {v : Result Env} (t : Assignee) → Alike m k c (Holding z) s e r v → Alike m k c (Holding (put_in place kind t z q).given) s e r v
      is (Local v) h = h
      is (Placed d y) h = h

    -- a variable of the program, in a copy where the flag says so
    pub variable_follows : (q k : ℕ) (place : Place) (flag : Bool) (v : ℕ) → m ≤ q → k ≤ q → v < m → (flag ≡ false → later v ≡ false) → Follows m n p calls 2 0 q k nowhere (Lasts m later k) Was Holding (variable flag place v q) (λ x env w. Gives (env v) env w)
    variable_follows q k place true v l j h f =
        weaker m n p calls 1 0 q 2 0 k nowhere (omega arith) (omega arith) (omega arith) (λ v z. z) (set_follows q k place (Same (Variable v)) (λ x env w. env v) l j (λ x env other w a u. a v h))
    variable_follows q k place false v l j h f =
        weaker m n p calls 0 0 q 2 0 k nowhere (omega arith) (omega arith) (omega arith) (λ v z. z) (nothing_follows q k nowhere (Variable v) (λ x env. env v) (inr (h, f refl)) (λ x env o a u. a v h))

    -- what a target holds
    pub held_follows : (q k : ℕ) (place : Place) (kind : LoadKind) (copied : VariableSet) (t : Assignee) (b : X → Object) → m ≤ q → k ≤ q → ((v : ℕ) → copied v ≡ false → later v ≡ false) → SpotIn (λ v. true) t → ((x : X) (o : Env) → Was x o → Standing t (b x) o) → Follows m n p calls 3 0 q k nowhere (Lasts m later k) Was Holding (held_in place kind copied t q) (λ x. read kind (b x))
    held_follows q k place kind copied (Placed d y) b l j f g h = record {
      grows = omega arith;
      lasts = inl (j, omega arith);
      runs = λ x env other w i s a u o. by (b x) env other w i s (h x other u) a o;
    } where
      by : (t : Object) (env other : Env) (w : World) (i s : ℕ) → Standing (Placed d y) t other → Agree m env other → i + (s + 3) + w.loads ≤ 9 * w.items → Alike m k nowhere (Holding (Variable q)) (s + 0) other (read kind t env w) (runs_to (held_in place kind copied (Placed d y) q).code other (at i w))
      by (InLocal v) env other w i s z a o = absurd z
      by (AtPlace c x) env other w i s z a o =
          subst (λ t. Alike m k nowhere (Holding (Variable q)) (s + 0) other (read kind (AtPlace t x) env w) (runs_to (held_in place kind copied (Placed d y) q).code other (at i w))) (z.0)
          (subst (λ t. Alike m k nowhere (Holding (Variable q)) (s + 0) other (read kind (AtPlace d t) env w) (runs_to (held_in place kind copied (Placed d y) q).code other (at i w))) (z.1)
          (loads_alike q k place kind y env other w i (s + 0) l j a (omega (arith, o)) d))
    held_follows q k place kind copied (Local v) b l j f g h = record {
      grows = made.grows;
      lasts = made.lasts;
      runs = λ x env other w i s a u o. by (b x) env other w i s (h x other u) (made.runs x env other w i s a u o);
    } where
      made : Follows m n p calls 3 0 q k nowhere (Lasts m later k) Was Holding (variable (copied v) place v q) (λ x env w. Gives (env v) env w)
      made =
          weaker m n p calls 2 0 q 3 0 k nowhere (omega arith) (omega arith) (omega arith) (λ v z. z) (variable_follows q k place (copied v) v l j (g.0) (f v))

      by : (t : Object) (env other : Env) (w : World) (i s : ℕ) → Standing (Local v) t other → Alike m k nowhere (Holding (variable (copied v) place v q).given) (s + 0) other (Gives (env v) env w) (runs_to (variable (copied v) place v q).code other (at i w)) → Alike m k nowhere (Holding (variable (copied v) place v q).given) (s + 0) other (read kind t env w) (runs_to (variable (copied v) place v q).code other (at i w))
      by (InLocal c) env other w i s z a = subst (λ t. Alike m k nowhere (Holding (variable (copied v) place v q).given) (s + 0) other (Gives (env t) env w) (runs_to (variable (copied v) place v q).code other (at i w))) z a
      by (AtPlace c x) env other w i s z a = absurd z
