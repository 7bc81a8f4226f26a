-- What is made of an evaluation follows it, and so does one after the other.
use Rattle.std.proofs.Common.{◌≡◌, ℕ, ◌+◌, ◌*◌, ◌≤◌, inl, inr, true, false, refl, sym, subst, arith}
use Rattle.dae_meaning.specs.Results.{Result, At, Over, Next, Leaves, Skips, Returns, Run, ◌▷◌}
use Rattle.dae_meaning.specs.Worlds.{World, ticked}
use Rattle.dae_ir.specs.Code.{exec}
use Rattle.dae_ir.specs.Form.{Form, Calls, meaning, Program}
use Rattle.dae_meaning.specs.Variables.{Env}
use Rattle.dae_ir.specs.Classes.{VariableSet}
use Rattle.dae_program.specs.Outcomes.{Outcome, Gives, Ends, ◌⟫◌}
use Rattle.dae_lower.specs.Lowering.{Made, ◌≫◌, or}
use Rattle.dae_lower.proofs.Relation.{at, Agree, Fixed, Kept, kept_on, Alike, Both, Stop, after, exec_then}

-- no more is done
pub then_done : {E : Type 0} (r : Result E) → (r ▷ At Next) ≡ r
then_done (At Next e w) = refl
then_done (At Leaves e w) = refl
then_done (At Skips e w) = refl
then_done (At Returns e w) = refl
then_done (Over end w) = refl

-- less is left, fewer variables are spoken of
less_left : {Y : Type 0} (Is : Y → Env → Type 0) (m k : ℕ) (c : VariableSet) (s t j : ℕ) (d : VariableSet) (e : Env) → t ≤ s → j ≤ k → ((v : ℕ) → Fixed m d v → Fixed m c v) → (r : Outcome Y) (u : Result Env) → Alike m k c Is s e r u → Alike m j d Is t e r u
less_left Is m k c s t j d e l g z r u (Both x env other w i a b h o) = Both x env other w i a (λ v i f. b v (omega (arith, i, g)) (z v f)) h (omega (arith, o, l))
less_left Is m k c s t j d e l g z r u (Stop end w i o) = Stop end w i o

module _ (m n : ℕ) (p : Program) (calls : Calls) where
  abbrev pub run : Form → Run Env
  run code = exec (meaning p (λ v. true) calls) n code

  -- Code from variable q on follows an evaluation that knows x, of which `Was` holds. Of the variables below k none changes
  -- but those of c. It costs a, of which b is left.
  pub record Follows {X Y Z : Type 0} (a b q k : ℕ) (c : VariableSet) (Lasting : ℕ → Z → Type 0) (Was : X → Env → Type 0) (Is : Z → Y → Env → Type 0) (made : Made Z) (f : X → Env → World → Outcome Y) : Type 0 where
    pub grows : q ≤ made.next
    pub lasts : Lasting made.next made.given
    pub runs : (x : X) (env other : Env) (w : World) (i s : ℕ) → Agree m env other → Was x other → i + (s + a) + w.loads ≤ 9 * w.items → Alike m k c (Is made.given) (s + b) other (f x env w) (run made.code other (at i w))

  module _ {X Y Z : Type 0} {k : ℕ} {c : VariableSet} {Lasting : ℕ → Z → Type 0} {Was : X → Env → Type 0} {Is : Z → Y → Env → Type 0} {f : X → Env → World → Outcome Y} {made : Made Z} where
    -- one unit of work comes first
    pub paid : (a b q : ℕ) → Follows a b q k c Lasting Was Is made f → Follows a (b + 9) q k c Lasting Was Is made (λ x env w. f x env (ticked w))
    paid a b q h = record {
      grows = h.grows;
      lasts = h.lasts;
      runs = λ x env other w i s g u o. subst (λ t. Alike m k c (Is made.given) t other (f x env (ticked w)) (run made.code other (at i w))) (omega arith) (h.runs x env other (ticked w) i (s + 9) g u (omega (arith, o)));
    }

    -- more is paid, and stays
    pub spared : (d a b q : ℕ) → Follows a b q k c Lasting Was Is made f → Follows (a + d) (b + d) q k c Lasting Was Is made f
    spared d a b q h = record {
      grows = h.grows;
      lasts = h.lasts;
      runs = λ x env other w i s g u o. subst (λ t. Alike m k c (Is made.given) t other (f x env w) (run made.code other (at i w))) (omega arith) (h.runs x env other w i (s + d) g u (omega (arith, o)));
    }

    -- It costs more and leaves less, fewer variables are spoken of, and more of them may change.
    pub weaker : (a b q a' b' j : ℕ) (d : VariableSet) → a ≤ a' → b' ≤ b → j ≤ k → ((v : ℕ) → d v ≡ false → c v ≡ false) → Follows a b q k c Lasting Was Is made f → Follows a' b' q j d Lasting Was Is made f
    weaker a b q a' b' j d la lb lj z h = record {
      grows = h.grows;
      lasts = h.lasts;
      runs = λ x env other w i s g u o. less_left (Is made.given) m k c (s + b) (s + b') j d other (omega (arith, lb)) lj by _ _ (h.runs x env other w i s g u (omega (arith, o, la)));
    } where
      by : (v : ℕ) → Fixed m d v → Fixed m c v
      by v (inl h) = inl h
      by v (inr h) = inr (z v h)

    -- one unit of work pays for it
    pub bought : (q : ℕ) → Follows 7 0 q k c Lasting Was Is made f → Follows 0 2 q k c Lasting Was Is made (λ x env w. f x env (ticked w))
    bought q h = record {
      grows = h.grows;
      lasts = h.lasts;
      runs = λ x env other w i s g u o. subst (λ t. Alike m k c (Is made.given) t other (f x env (ticked w)) (run made.code other (at i w))) (omega arith) (h.runs x env other (ticked w) i (s + 2) g u (omega (arith, o)));
    }

    -- from an earlier variable on
    pub sooner : (a b q j : ℕ) → j ≤ q → Follows a b q k c Lasting Was Is made f → Follows a b j k c Lasting Was Is made f
    sooner a b q j l h = record { grows = omega (arith, l, h.grows); lasts = h.lasts; runs = h.runs }

    pub lasting : {Other : ℕ → Z → Type 0} (a b q : ℕ) → ((o : ℕ) (z : Z) → Lasting o z → Other o z) → Follows a b q k c Lasting Was Is made f → Follows a b q k c Other Was Is made f
    lasting a b q t h = record { grows = h.grows; lasts = t made.next made.given h.lasts; runs = h.runs }

  -- whatever else is known
  pub knowing : {X X' Y Z : Type 0} {Was : X → Env → Type 0} {Was' : X' → Env → Type 0} {k : ℕ} {c : VariableSet} {Lasting : ℕ → Z → Type 0} {Is : Z → Y → Env → Type 0} {made : Made Z} {f : X → Env → World → Outcome Y} (a b q : ℕ) (g : X' → X) → ((x : X') (o : Env) → Was' x o → Was (g x) o) → Follows a b q k c Lasting Was Is made f → Follows a b q k c Lasting Was' Is made (λ x. f (g x))
  knowing a b q g t h = record { grows = h.grows; lasts = h.lasts; runs = λ x env other w i s a u o. h.runs (g x) env other w i s a (t x other u) o }

  -- one after the other: the second knows what the first did, and what is told on
  pub chain_to : {X Y Y' Z Z' : Type 0} {Was : X → Env → Type 0} {Lasting : ℕ → Z → Type 0} {Lasting' : ℕ → Z' → Type 0} {Is : Z → Y → Env → Type 0} {Is' : Z' → Y' → Env → Type 0} {f : X → Env → World → Outcome Y} {made : Made Z}
      (Later : X → Env → Type 0) (made' : Z → ℕ → Made Z') (f' : (X × Y) → Env → World → Outcome Y') (a b b' q k j : ℕ) (c d : VariableSet) → j ≤ k → Follows a b q k c Lasting Was Is made f →
      ((x : X) (e o : Env) → Was x e → Kept m k c e o → Later x o) →
      ((o : ℕ) → q ≤ o → Lasting o made.given → Follows b b' o j d Lasting' (λ x o. Later x.0 o × Is made.given x.1 o) Is' (made' made.given o) f') →
      Follows a b' q j (or c d) Lasting' Was Is' (made ≫ made') (λ x env w. f x env w ⟫ λ y. f' (x, y))
  chain_to {X} {Y} {Y'} {Z} {Z'} {Was} {Lasting} {Lasting'} {Is} {Is'} {f} {made} Later made' f' a b b' q k j c d l h stays next = record {
    grows = omega (arith, h.grows, second.grows);
    lasts = second.lasts;
    runs = λ x env other w i s g u o.
        subst (λ (r : Result Env). Alike m j (or c d) (Is' (made' made.given made.next).given) (s + b') other (f x env w ⟫ λ y. f' (x, y)) r) (sym (exec_then (meaning p (λ v. true) calls) n made.code (made' made.given made.next).code other (at i w)))
        (after _ _ _ _ (h.runs x env other w i s g u o) (λ y env1 other1 w1 i1 g1 k1 is o1.
        from other other1 (λ v z t. k1 v (omega (arith, z, l)) t) _ _ (second.runs (x, y) env1 other1 w1 i1 s g1 (stays x other other1 u k1, is) o1)));
  } where
    second : Follows b b' made.next j d Lasting' (λ x o. Later x.0 o × Is made.given x.1 o) Is' (made' made.given made.next) f'
    second = next made.next h.grows h.lasts

    from : {s : ℕ} (e o : Env) → Kept m j c e o → (r : Outcome Y') (u : Result Env) → Alike m j d (Is' (made' made.given made.next).given) s o r u → Alike m j (or c d) (Is' (made' made.given made.next).given) s e r u
    from e o z r u (Both x env other w i a b y h) = Both x env other w i a (kept_on m j j c d e o other (omega arith) z b) y h
    from e o z r u (Stop end w i h) = Stop end w i h

  pub chain : {X Y Y' Z Z' : Type 0} {Was : X → Env → Type 0} {Lasting : ℕ → Z → Type 0} {Lasting' : ℕ → Z' → Type 0} {Is : Z → Y → Env → Type 0} {Is' : Z' → Y' → Env → Type 0} {f : X → Env → World → Outcome Y} {made : Made Z}
      (made' : Z → ℕ → Made Z') (f' : (X × Y) → Env → World → Outcome Y') (a b b' q k j : ℕ) (c d : VariableSet) → j ≤ k → Follows a b q k c Lasting Was Is made f →
      ((x : X) (e o : Env) → Was x e → Kept m k c e o → Was x o) →
      ((o : ℕ) → q ≤ o → Lasting o made.given → Follows b b' o j d Lasting' (λ x o. Was x.0 o × Is made.given x.1 o) Is' (made' made.given o) f') →
      Follows a b' q j (or c d) Lasting' Was Is' (made ≫ made') (λ x env w. f x env w ⟫ λ y. f' (x, y))
  chain {X} {Y} {Y'} {Z} {Z'} {Was} made' f' a b b' q k j c d l h stays next = chain_to Was made' f' a b b' q k j c d l h stays next

  -- the same evaluation, told otherwise
  pub recast : {X Y Z : Type 0} {k : ℕ} {c : VariableSet} {Lasting : ℕ → Z → Type 0} {Was : X → Env → Type 0} {Is : Z → Y → Env → Type 0} {made : Made Z} (f g : X → Env → World → Outcome Y) (a b q : ℕ) → ((x : X) (env : Env) (w : World) → f x env w ≡ g x env w) → Follows a b q k c Lasting Was Is made f → Follows a b q k c Lasting Was Is made g
  recast {X} {Y} {Z} {k} {c} {Lasting} {Was} {Is} {made} f g a b q t h = record {
    grows = h.grows;
    lasts = h.lasts;
    runs = λ x env other w i s d u o. subst (λ (r : Outcome Y). Alike m k c (Is made.given) (s + b) other r (run made.code other (at i w))) (t x env w) (h.runs x env other w i s d u o);
  }

-- a value that is only given on
pub given_on : {X : Type 0} (r : Outcome X) → (r ⟫ Gives) ≡ r
given_on (Gives x env w) = refl
given_on (Ends end w) = refl
