-- What is made of statements does what they do.
use Rattle.std.proofs.Common.{◌≡◌, ℕ, zero, suc, ◌+◌, ◌*◌, ◌≤◌, inl, inr, Bool, true, false, not, nat_eq, if◌then◌else◌, refl, sym, ◌∙◌, subst, arith}
use Rattle.dae_base.specs.declared.Place.{Place}
use Rattle.dae_meaning.specs.Results.{Result, At, Over, Way, Next, Leaves, Skips, Returns, End, Going, Run, ◌▷◌, ◌↻◌, turns}
use Rattle.dae_meaning.specs.Worlds.{World, ticked}
use Rattle.dae_ir.specs.Code.{Done, If}
use Rattle.dae_ir.specs.Form.{Form, holds, Calls, meaning, Program}
use Rattle.dae_meaning.specs.Variables.{Env}
use Rattle.dae_ir.specs.Classes.{VariableSet}
use Rattle.dae_ir.specs.declared.form.Test.{Test}
use Rattle.dae_program.specs.Outcomes.{Outcome, ◌⊳◌}
use Rattle.dae_program.specs.Statements.{loop as looped}
use Rattle.dae_lower.specs.Lowering.{Made, skip, ◌≫◌, Condition, branches, loop}
use Rattle.dae_lower.proofs.Relation.{at, Agree, Kept, Alike, Both, Stop, exec_then}
use Rattle.dae_lower.proofs.Chains.{run, Follows, then_done}
use Rattle.dae_lower.proofs.Branches.{Deciding, Always}
use Rattle.dae_lower.proofs.Valued.{Anything}

-- any of the program's variables may change
abbrev pub everything : VariableSet
everything v = true

-- Both go the same way, or end alike. Of the form's variables below k, none changes but the program's of c.
pub data Same (m k : ℕ) (c : VariableSet) (spare : ℕ) (e : Env) : Result Env → Result Env → Type 0 where
  Goes : (way : Way) (env other : Env) (w : World) (i : ℕ) → Agree m env other → Kept m k c e other → i + spare + w.loads ≤ 9 * w.items → Same m k c spare e (At way env w) (At way other (at i w))
  Halts : (end : End) (w : World) (i : ℕ) → i + w.loads ≤ 9 * w.items → Same m k c spare e (Over end w) (Over end (at i w))

pub kept_everything : (m k : ℕ) (c : VariableSet) (e o : Env) → Kept m k c e o → Kept m k everything e o
kept_everything m k c e o h v l (inl f) = h v l (inl f)
kept_everything m k c e o h v l (inr f) = cc

module _ {m k s t : ℕ} {c : VariableSet} {e : Env} where
  -- a value, and then statements
  pub after_value : {X : Type 0} {d : VariableSet} {Is : X → Env → Type 0} {j : ℕ} (r : Outcome X) (q : Result Env) (f : X → Run Env) (g : Run Env) → Alike m j d Is s e r q → ((x : X) (env other : Env) (w : World) (i : ℕ) → Agree m env other → Kept m j d e other → Is x other → i + s + w.loads ≤ 9 * w.items → Same m k c t e (f x env w) (g other (at i w))) → Same m k c t e (r ⊳ f) (q ▷ g)
  after_value r q f g (Both x env other w i a b h l) go = go x env other w i a b h l
  after_value r q f g (Stop end w i l) go = Halts end w i l

  -- statements, and then others
  pub after_statements : (r q : Result Env) (f g : Run Env) → t ≤ s → Same m k c s e r q → ((env other : Env) (w : World) (i : ℕ) → Agree m env other → Kept m k c e other → i + s + w.loads ≤ 9 * w.items → Same m k c t e (f env w) (g other (at i w))) → Same m k c t e (r ▷ f) (q ▷ g)
  after_statements r q f g d (Goes Next env other w i a b l) go = go env other w i a b l
  after_statements r q f g d (Goes Leaves env other w i a b l) go = Goes Leaves env other w i a b (omega (arith, d, l))
  after_statements r q f g d (Goes Skips env other w i a b l) go = Goes Skips env other w i a b (omega (arith, d, l))
  after_statements r q f g d (Goes Returns env other w i a b l) go = Goes Returns env other w i a b (omega (arith, d, l))
  after_statements r q f g d (Halts end w i l) go = Halts end w i l

  -- a body, and then what follows in the loop
  pub after_body : (r q : Result Env) (f g : Run Env) → t ≤ s → Same m k c s e r q → ((env other : Env) (w : World) (i : ℕ) → Agree m env other → Kept m k c e other → i + s + w.loads ≤ 9 * w.items → Same m k c t e (f env w) (g other (at i w))) → Same m k c t e (r ↻ f) (q ↻ g)
  after_body r q f g d (Goes Next env other w i a b l) go = go env other w i a b l
  after_body r q f g d (Goes Leaves env other w i a b l) go = Goes Next env other w i a b (omega (arith, d, l))
  after_body r q f g d (Goes Skips env other w i a b l) go = go env other w i a b l
  after_body r q f g d (Goes Returns env other w i a b l) go = Goes Returns env other w i a b (omega (arith, d, l))
  after_body r q f g d (Halts end w i l) go = Halts end w i l

-- seen from before, where less is left
pub same_from : (m k j : ℕ) (c : VariableSet) (s t : ℕ) (e f : Env) → j ≤ k → t ≤ s → Kept m j c e f → (r q : Result Env) → Same m k c s f r q → Same m j c t e r q
same_from m k j c s t e f l d h r q (Goes way env other w i a b o) = Goes way env other w i a (λ v z x. b v (omega (arith, z, l)) x ∙ h v z x) (omega (arith, o, d))
same_from m k j c s t e f l d h r q (Halts end w i o) = Halts end w i o

module _ (m n : ℕ) (p : Program) (calls : Calls) where
  -- two runs do the same, at a cost of a, of which b is left
  abbrev pub DoSame : ℕ → ℕ → ℕ → Run Env → Run Env → Type 0
  DoSame a b k r q = (env other : Env) (w : World) (i s : ℕ) → Agree m env other → i + (s + a) + w.loads ≤ 9 * w.items → Same m k everything (s + b) other (r env w) (q other (at i w))

  pub record Does (a b q k : ℕ) (made : Made (Unit {0})) (r : Run Env) : Type 0 where
    pub grows : q ≤ made.next
    pub runs : DoSame a b k r (run m n p calls made.code)

  pub cheaper_does : (a b q k a' b' j : ℕ) (made : Made (Unit {0})) (r : Run Env) → a ≤ a' → b' ≤ b → j ≤ k → Does a b q k made r → Does a' b' q j made r
  cheaper_does a b q k a' b' j made r la lb lj h = record {
    grows = h.grows;
    runs = λ env other w i s g o. same_from m k j everything (s + b) (s + b') other other lj (omega (arith, lb)) (λ v z x. refl) _ _ (h.runs env other w i s g (omega (arith, o, la)));
  }

  pub spared_does : (d a b q k : ℕ) (made : Made (Unit {0})) (r : Run Env) → Does a b q k made r → Does (a + d) (b + d) q k made r
  spared_does d a b q k made r h = record {
    grows = h.grows;
    runs = λ env other w i s g o. subst (λ t. Same m k everything t other (r env w) (run m n p calls made.code other (at i w))) (omega arith) (h.runs env other w i (s + d) g (omega (arith, o)));
  }

  -- nothing is done
  pub skip_does : (q k : ℕ) → Does 0 0 q k (skip q) (At Next)
  skip_does q k = record { grows = omega arith; runs = λ env other w i s g o. Goes Next env other w i g (λ v z x. refl) o }

  -- one after the other
  pub then_does : (a b t q k : ℕ) (made : Made (Unit {0})) (next : ℕ → Made (Unit {0})) (r f : Run Env) → t ≤ b → Does a b q k made r → ((o : ℕ) → q ≤ o → Does b t o k (next o) f) → Does a t q k (made ≫ λ x. next) (λ env w. r env w ▷ f)
  then_does a b t q k made next r f d h go = record {
    grows = omega (arith, h.grows, second.grows);
    runs = λ env other w i s g o.
        subst (λ (u : Result Env). Same m k everything (s + t) other (r env w ▷ f) u) (sym (exec_then (meaning p (λ v. true) calls) n made.code (next made.next).code other (at i w)))
        (after_statements _ _ _ _ (omega (arith, d)) (h.runs env other w i s g o) (λ env1 other1 w1 i1 g1 k1 o1. same_from m k k everything (s + t) (s + t) other other1 (omega arith) (omega arith) k1 _ _ (second.runs env1 other1 w1 i1 s g1 o1)));
  } where
    second : Does b t made.next k (next made.next) f
    second = go made.next h.grows

  -- a value, and then statements that know it
  pub value_does : {Y Z : Type 0} {c : VariableSet} {Lasting : ℕ → Z → Type 0} {Is : Z → Y → Env → Type 0} {made : Made Z} (a b t q k j : ℕ) (next : Z → ℕ → Made (Unit {0})) (g : Env → World → Outcome Y) (f : Y → Run Env) → j ≤ k → Follows m n p calls a b q k c Lasting (Anything {X = Unit {0}}) Is made (λ x. g) → ((o : ℕ) → q ≤ o → Lasting o made.given → (o ≤ (next made.given o).next) × ((y : Y) (env other : Env) (w : World) (i s : ℕ) → Agree m env other → Is made.given y other → i + (s + b) + w.loads ≤ 9 * w.items → Same m j everything (s + t) other (f y env w) (run m n p calls (next made.given o).code other (at i w)))) → Does a t q j (made ≫ next) (λ env w. g env w ⊳ f)
  value_does {Y} {Z} {c} {Lasting} {Is} {made} a b t q k j next g f l h go = record {
    grows = omega (arith, h.grows, (go made.next h.grows h.lasts).0);
    runs = λ env other w i s d o.
        subst (λ (u : Result Env). Same m j everything (s + t) other (g env w ⊳ f) u) (sym (exec_then (meaning p (λ v. true) calls) n made.code (next made.given made.next).code other (at i w)))
        (after_value _ _ _ _ (h.runs tt env other w i s d tt o) (λ y env1 other1 w1 i1 g1 k1 is o1. same_from m j j everything (s + t) (s + t) other other1 (omega arith) (omega arith) (λ v z x. kept_everything m k c other other1 k1 v (omega (arith, z, l)) x) _ _ ((go made.next h.grows h.lasts).1 y env1 other1 w1 i1 s g1 is o1)));
  }

  -- which branch is taken
  picked : (k s : ℕ) (e : Env) (b h : Bool) (r t u v : Result Env) → h ≡ b → Same m k everything s e r u → Same m k everything s e t v → Same m k everything s e (if b then r else t) ((if h then u else v) ▷ At Next)
  picked k s e true h r t u v g a b = subst (λ (d : Bool). Same m k everything s e r ((if d then u else v) ▷ At Next)) (sym g) (subst (λ (d : Result Env). Same m k everything s e r d) (sym (then_done u)) a)
  picked k s e false h r t u v g a b = subst (λ (d : Bool). Same m k everything s e t ((if d then u else v) ▷ At Next)) (sym g) (subst (λ (d : Result Env). Same m k everything s e t d) (sym (then_done v)) b)

  picked_not : (k s : ℕ) (e : Env) (b h : Bool) (r t u v : Result Env) → h ≡ not b → Same m k everything s e r u → Same m k everything s e t v → Same m k everything s e (if b then r else t) ((if h then v else u) ▷ At Next)
  picked_not k s e true h r t u v g a b = subst (λ (d : Bool). Same m k everything s e r ((if d then v else u) ▷ At Next)) (sym g) (subst (λ (d : Result Env). Same m k everything s e r d) (sym (then_done u)) a)
  picked_not k s e false h r t u v g a b = subst (λ (d : Bool). Same m k everything s e t ((if d then v else u) ▷ At Next)) (sym g) (subst (λ (d : Result Env). Same m k everything s e t d) (sym (then_done v)) b)

  pub branches_do : {c : VariableSet} {made : Made Condition} (place : Place) (pos neg : ℕ → Made (Unit {0})) (fp fn : Run Env) (g : Env → World → Outcome ℕ) (a b t q k j : ℕ) → j ≤ k → Follows m n p calls a (b + 1) q k c Always (Anything {X = Unit {0}}) Deciding made (λ x. g) → ((o : ℕ) → q ≤ o → Does b t o j (pos o) fp) → ((o : ℕ) → q ≤ o → Does b t o j (neg o) fn) → Does a t q j (branches place made pos neg) (λ env w. g env w ⊳ λ y env w. if nat_eq y 0 then fn env w else fp env w)
  branches_do {c} {made} place pos neg fp fn g a b t q k j l h hp hn = record {
    grows = omega (arith, h.grows, py.grows, pn.grows);
    runs = λ env other w i s d o. subst (λ (u : Result Env). Same m j everything (s + t) other (g env w ⊳ λ y env w. if nat_eq y 0 then fn env w else fp env w) u) (sym (exec_then (meaning p (λ v. true) calls) n made.code ends other (at i w)))
        (after_value _ _ _ _ (h.runs tt env other w i s d tt o) (λ y env1 other1 w1 i1 g1 k1 is o1.
        same_from m j j everything (s + t) (s + t) other other1 (omega arith) (omega arith) (λ v z x. kept_everything m k c other other1 k1 v (omega (arith, z, l)) x) _ _
        (chosen y (s + t) other1 w1 i1 _ _ made.given.test made.given.turned is (pn.runs env1 other1 w1 (i1 + 1) s g1 (omega (arith, o1))) (py.runs env1 other1 w1 (i1 + 1) s g1 (omega (arith, o1))))));
  } where
    py : Does b t made.next j (pos made.next) fp
    py = hp made.next h.grows

    pn : Does b t (pos made.next).next j (neg (pos made.next).next) fn
    pn = hn (pos made.next).next (omega (arith, h.grows, py.grows))

    of : Test → Bool → Form
    of c turned = if turned then If place c (neg (pos made.next).next).code (pos made.next).code Done else If place c (pos made.next).code (neg (pos made.next).next).code Done

    ends : Form
    ends = of made.given.test made.given.turned

    chosen : (y s : ℕ) (other : Env) (w : World) (i : ℕ) (r v : Result Env) (g : Test) (turned : Bool) → holds g other ≡ (if turned then nat_eq y 0 else not (nat_eq y 0)) → Same m j everything s other r (run m n p calls (neg (pos made.next).next).code other (ticked (at i w))) → Same m j everything s other v (run m n p calls (pos made.next).code other (ticked (at i w))) → Same m j everything s other (if nat_eq y 0 then r else v) (run m n p calls (of g turned) other (at i w))
    chosen y s other w i r v g true is u b = picked j s other (nat_eq y 0) (holds g other) r v _ _ is u b
    chosen y s other w i r v g false is u b = picked_not j s other (nat_eq y 0) (holds g other) r v _ _ is u b

  -- ---- loops

  -- at most t turns, each of which is paid for by its own unit of work
  pub turns_same : (k : ℕ) (test body step b c : Run Env) → DoSame 8 0 k (λ env w. test env w ▷ body) b → DoSame 0 0 k step c → (t : ℕ) → DoSame 0 0 k (looped false test body step t) (turns b c t)
  turns_same k test body step b c hb hc zero env other w i s g o = Halts Going w i (omega (arith, o))
  turns_same k test body step b c hb hc (suc t) env other w i s g o =
      after_body _ _ _ _ (omega arith) (hb env other (ticked w) (i + 1) s g (omega (arith, o))) (λ env1 other1 w1 i1 g1 k1 o1.
      same_from m k k everything (s + 0) (s + 0) other other1 (omega arith) (omega arith) k1 _ _
      (after_body _ _ _ _ (omega arith) (hc env1 other1 w1 i1 s g1 o1) (λ env2 other2 w2 i2 g2 k2 o2.
      same_from m k k everything (s + 0) (s + 0) other1 other2 (omega arith) (omega arith) k2 _ _ (turns_same k test body step b c hb hc t env2 other2 w2 i2 s g2 o2))))

  pub loop_does : (q k : ℕ) (place : Place) (made : Made (Unit {0})) (next : ℕ → Made (Unit {0})) (test body step : Run Env) → Does 8 0 q k made (λ env w. test env w ▷ body) → ((o : ℕ) → q ≤ o → Does 0 0 o k (next o) step) → Does 0 0 q k (loop place made next) (looped false test body step n)
  loop_does q k place made next test body step h go = record {
    grows = omega (arith, h.grows, (go made.next h.grows).grows);
    runs = λ env other w i s g o. subst (λ (u : Result Env). Same m k everything (s + 0) other (looped false test body step n env w) u) (sym (then_done (turns (run m n p calls made.code) (run m n p calls (next made.next).code) n other (at i w))))
        (turns_same k test body step (run m n p calls made.code) (run m n p calls (next made.next).code) h.runs (go made.next h.grows).runs n env other w i s g o);
  }
