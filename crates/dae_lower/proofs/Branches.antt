-- The branches of a condition follow its evaluation.
use Rattle.std.proofs.Common.{◌≡◌, ℕ, ◌+◌, ◌≤◌, Bool, true, false, not, nat_eq, if◌then◌else◌, sym, ◌∙◌, subst, arith}
use Rattle.dae_base.specs.declared.Place.{Place}
use Rattle.dae_meaning.specs.Results.{Result, At, Next, ◌▷◌}
use Rattle.dae_meaning.specs.Worlds.{World, ticked}
use Rattle.dae_ir.specs.Code.{Done, If}
use Rattle.dae_ir.specs.Form.{Form, value as held, holds, Calls, meaning, Program}
use Rattle.dae_meaning.specs.Variables.{Env, put}
use Rattle.dae_ir.specs.Classes.{VariableSet}
use Rattle.dae_ir.specs.declared.form.Test.{Test}
use Rattle.dae_ir.specs.declared.form.Operand.{Operand}
use Rattle.dae_ir.specs.declared.form.Operand.TheVariants.{Variable}
use Rattle.dae_program.specs.Outcomes.{Outcome, Gives, ◌⟫◌}
use Rattle.dae_lower.specs.Lowering.{Made, or, nowhere, Condition, branches, gives}
use Rattle.dae_lower.proofs.Relation.{at, Kept, kept_on, Alike, Both, Stop, after, exec_then, put_same, put_other}
use Rattle.dae_lower.proofs.Chains.{run, Follows, then_done}
use Rattle.dae_lower.proofs.Leaves.{Holding, agree_put}

-- whether a condition holds
abbrev pub Deciding : Condition → ℕ → Env → Type 0
Deciding c x o = holds c.test o ≡ (if c.turned then nat_eq x 0 else not (nat_eq x 0))

abbrev pub Always : {Z : Type 0} → ℕ → Z → Type 0
Always o z = Unit {0}

module _ (m n : ℕ) (p : Program) (calls : Calls) where
  -- a number in variable v
  pub gives_follows : {X : Type 0} {Was : X → Env → Type 0} (q k v : ℕ) (place : Place) (y : Operand) (g : X → ℕ) → m ≤ v → k ≤ v → ((x : X) (o : Env) → Was x o → held y o ≡ g x) → Follows m n p calls 1 0 q k nowhere Always Was (λ (z : Unit {0}). Holding (Variable v)) (gives place v y q) (λ x. Gives (g x))
  gives_follows q k v place y g l j h = record {
    grows = omega arith;
    lasts = tt;
    runs = λ x env other w i s a u o. Both (g x) env (put true v (held y other) other) w (i + 1) (agree_put m n p calls nowhere v (held y other) env other l a) (λ t b f. put_other v (held y other) t other (λ e. omega (arith, e, b, j))) (put_same v (held y other) other ∙ h x other u) (omega (arith, o));
  }

  -- which branch is taken
  picked : {Y : Type 0} {Is : Y → Env → Type 0} {k : ℕ} {c : VariableSet} {s : ℕ} {e : Env} (b h : Bool) (r t : Outcome Y) (u v : Result Env) → h ≡ b → Alike m k c Is s e r u → Alike m k c Is s e t v → Alike m k c Is s e (if b then r else t) ((if h then u else v) ▷ At Next)
  picked {Y} {Is} {k} {c} {s} {e} true h r t u v g a b = subst (λ (d : Bool). Alike m k c Is s e r ((if d then u else v) ▷ At Next)) (sym g) (subst (λ (d : Result Env). Alike m k c Is s e r d) (sym (then_done u)) a)
  picked {Y} {Is} {k} {c} {s} {e} false h r t u v g a b = subst (λ (d : Bool). Alike m k c Is s e t ((if d then u else v) ▷ At Next)) (sym g) (subst (λ (d : Result Env). Alike m k c Is s e t d) (sym (then_done v)) b)

  picked_not : {Y : Type 0} {Is : Y → Env → Type 0} {k : ℕ} {c : VariableSet} {s : ℕ} {e : Env} (b h : Bool) (r t : Outcome Y) (u v : Result Env) → h ≡ not b → Alike m k c Is s e r u → Alike m k c Is s e t v → Alike m k c Is s e (if b then r else t) ((if h then v else u) ▷ At Next)
  picked_not {Y} {Is} {k} {c} {s} {e} true h r t u v g a b = subst (λ (d : Bool). Alike m k c Is s e r ((if d then v else u) ▷ At Next)) (sym g) (subst (λ (d : Result Env). Alike m k c Is s e r d) (sym (then_done u)) a)
  picked_not {Y} {Is} {k} {c} {s} {e} false h r t u v g a b = subst (λ (d : Bool). Alike m k c Is s e t ((if d then v else u) ▷ At Next)) (sym g) (subst (λ (d : Result Env). Alike m k c Is s e t d) (sym (then_done v)) b)

  pub branches_follow : {X Y : Type 0} {Was : X → Env → Type 0} {Is : Y → Env → Type 0} {f : X → Env → World → Outcome ℕ} {made : Made Condition}
      (place : Place) (pos neg : ℕ → Made (Unit {0})) (fy fn : X → Env → World → Outcome Y) (a b t q k j : ℕ) (c d : VariableSet) → j ≤ k →
      Follows m n p calls a (b + 1) q k c Always Was Deciding made f →
      ((x : X) (e o : Env) → Was x e → Kept m k c e o → Was x o) →
      ((o : ℕ) → q ≤ o → Follows m n p calls b t o j d Always Was (λ z. Is) (pos o) fy) →
      ((o : ℕ) → q ≤ o → Follows m n p calls b t o j d Always Was (λ z. Is) (neg o) fn) →
      Follows m n p calls a t q j (or c d) Always Was (λ z. Is) (branches place made pos neg) (λ x env w. f x env w ⟫ λ y env w. if nat_eq y 0 then fn x env w else fy x env w)
  branches_follow {X} {Y} {Was} {Is} {f} {made} place pos neg fy fn a b t q k j c d l h stays gy gn = record {
    grows = omega (arith, h.grows, py.grows, pn.grows);
    lasts = tt;
    runs = λ x env other w i s u v o. subst (λ (r : Result Env). Alike m j (or c d) Is (s + t) other (f x env w ⟫ λ y env w. if nat_eq y 0 then fn x env w else fy x env w) r) (sym (exec_then (meaning p (λ v. true) calls) n made.code ends other (at i w)))
        (after _ _ _ _ (h.runs x env other w i s u v o) (λ y env1 other1 w1 i1 g1 k1 is o1.
        from other other1 (λ v z r. k1 v (omega (arith, z, l)) r) _ _ (chosen y _ other1 w1 i1 _ _ made.given.test made.given.turned is
        (pn.runs x env1 other1 w1 (i1 + 1) s g1 (stays x other other1 v k1) (omega (arith, o1)))
        (py.runs x env1 other1 w1 (i1 + 1) s g1 (stays x other other1 v k1) (omega (arith, o1))))));
  } where
    py : Follows m n p calls b t made.next j d Always Was (λ z. Is) (pos made.next) fy
    py = gy made.next h.grows

    pn : Follows m n p calls b t (pos made.next).next j d Always Was (λ z. Is) (neg (pos made.next).next) fn
    pn = gn (pos made.next).next (omega (arith, h.grows, py.grows))

    of : Test → Bool → Form
    of c turned = if turned then If place c (neg (pos made.next).next).code (pos made.next).code Done else If place c (pos made.next).code (neg (pos made.next).next).code Done

    ends : Form
    ends = of made.given.test made.given.turned

    from : {s : ℕ} (e o : Env) → Kept m j c e o → (r : Outcome Y) (u : Result Env) → Alike m j d Is s o r u → Alike m j (or c d) Is s e r u
    from e o z r u (Both x env other w i a b y h) = Both x env other w i a (kept_on m j j c d e o other (omega arith) z b) y h
    from e o z r u (Stop end w i h) = Stop end w i h

    chosen : (y s : ℕ) (other : Env) (w : World) (i : ℕ) (r v : Outcome Y) (g : Test) (turned : Bool) → holds g other ≡ (if turned then nat_eq y 0 else not (nat_eq y 0)) → Alike m j d Is s other r (run m n p calls (neg (pos made.next).next).code other (ticked (at i w))) → Alike m j d Is s other v (run m n p calls (pos made.next).code other (ticked (at i w))) → Alike m j d Is s other (if nat_eq y 0 then r else v) (run m n p calls (of g turned) other (at i w))
    chosen y s other w i r v g true is u b = picked (nat_eq y 0) (holds g other) r v _ _ is u b
    chosen y s other w i r v g false is u b = picked_not (nat_eq y 0) (holds g other) r v _ _ is u b
