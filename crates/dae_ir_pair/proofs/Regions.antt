-- A region's own side does what its code does, and what the other side needs stays.
use Rattle.std.proofs.Common.{length, sym, subst, ◌≡◌, ℕ, Bool, true, false, not, ◌&&◌, nat_eq, if◌then◌else◌, refl, ap, arith}
use Rattle.std.proofs.lemmas.Bool.Decides.{nat_tests}
use Rattle.dae_base.proofs.Laws.{and_true, not_true}
use Rattle.dae_base.specs.Words.{loaded, width_of}
use Rattle.dae_meaning.specs.Operations.{misplaced}
use Rattle.dae_meaning.specs.Worlds.{World, ticked, fetched}
use Rattle.dae_meaning.specs.Results.{Result, At, Over, Next, Leaves, Skips, Returns, ◌▷◌, within}
use Rattle.dae_meaning.specs.Alike.{BothAt, BothOver, FirstStrays}
use Rattle.dae_ir.specs.Code.{Code, Done, Do, If, Loop, CodeMeaning, exec, Each, every}
use Rattle.dae_meaning.specs.Variables.{Env, put}
use Rattle.dae_ir.specs.Form.{Form, value, Calls, Program, does, meaning}
use Rattle.dae_ir.specs.Classes.{VariableSet, Classes, has_test, is_by_a}
use Rattle.dae_ir.specs.Rounds.{is_a_item, is_e_item}
use Rattle.dae_ir.specs.Canonical.{Sides, is_issued, does_a, does_e, on_side, with_a, with_e, region_meaning}
use Rattle.dae_ir_pair.specs.Laws.{AgreeOn, Agree}
use Rattle.dae_ir_pair.proofs.Combine.{Ends, Goes, both, bind_alike, turns_alike, within_both, within_one}
use Rattle.dae_ir_pair.proofs.Agreement.{value_agrees, computed_agrees, holds_agrees, put_agrees}
use Rattle.dae_ir_pair.proofs.Kept.{ItemKept, ConditionKept, IsClosed}
use Rattle.dae_ir.specs.declared.form.Item.{Item}
use Rattle.dae_ir.specs.declared.form.Item.TheVariants.{Assign, Load, Store, Print, Expect, Break, Continue, Call, Return, Halt}

pub bind_done : {E : Type 0} (r : Result E) → r ▷ (λ (e : E) (w : World). At Next e w) ≡ r
bind_done (At Next e w) = refl
bind_done (At Leaves e w) = refl
bind_done (At Skips e w) = refl
bind_done (At Returns e w) = refl
bind_done (Over end w) = refl

choice : {E F : Type 0} (Q : E → F → Type 0) (d : Bool) (r s : Result E) (r' s' : Result F) → Ends Q r r' → Ends Q s s' → Ends Q (if d then r else s) (if d then r' else s')
choice Q true r s r' s' h k = h
choice Q false r s r' s' h k = k

-- the same code under two meanings
module _ {M L T E F : Type 0} (m : CodeMeaning L T E) (m' : CodeMeaning L T F) (Q : E → F → Type 0) (I : L → Type 0) (J : T → Type 0) (f : L → Bool) (h : T → Bool)
    (items : (item : L) → I item → f item ≡ true → Goes Q (m.does item) (m'.does item))
    (tests : (t : T) → J t → h t ≡ true → (e : E) (x : F) → Q e x → m'.holds t x ≡ m.holds t e) (n : ℕ) where
  pub same_code : (code : Code M L T) → Each I J code → every f h code ≡ true → Goes Q (exec m n code) (exec m' n code)
  same_code Done kept is e x w q = both _ Next e x w q
  same_code (Do mark item k) kept is e x w q =
      let b = and_true (f item) (every f h k) is in
      bind_alike Q (m.does item e w) (m'.does item x w) _ _ (items item kept.0 b.0 e x w q) (same_code k kept.1 b.1)
  same_code (If mark t p r k) kept is e x w q =
      let b = and_true (h t) (every f h p && (every f h r && every f h k)) is in
      let b1 = and_true (every f h p) (every f h r && every f h k) b.1 in
      let b2 = and_true (every f h r) (every f h k) b1.1 in
      bind_alike Q _ _ _ _
      (rw (tests t kept.0 b.0 e x q) (choice Q (m.holds t e) _ _ _ _ (same_code p kept.1 b1.0 e x (ticked w) q) (same_code r kept.2 b2.0 e x (ticked w) q)))
      (same_code k kept.3 b2.1)
  same_code (Loop mark p r k) kept is e x w q =
      let b = and_true (every f h p) (every f h r && every f h k) is in
      let b1 = and_true (every f h r) (every f h k) b.1 in
      bind_alike Q _ _ _ _ (turns_alike Q _ _ _ _ (same_code p kept.0 b.0) (same_code r kept.1 b1.0) n e x w q) (same_code k kept.2 b1.1)

no_true : false ≡ true → ⊥
no_true h = cc

-- what is set is in the set not
kept_agrees : (c : VariableSet) (env other : Env) → AgreeOn c env other → (v x : ℕ) → c v ≡ false → AgreeOn c (put true v x env) other
kept_agrees c env other agree v x out u m = by (nat_eq u v) refl where
  by : (b : Bool) → nat_eq u v ≡ b → other u ≡ (if (true && b) then x else env u)
  by true e = let same : u ≡ v = grind (arith, nat_tests) in let f : c u ≡ false = rw (same) out in cc
  by false e = agree u m

module _ (p : Program) (of : ℕ → Classes) (c : Classes) (calls : Calls) where
  item_a : (e : Env) (item : Item) → ItemKept of c item → is_a_item c item ≡ true → Goes (λ env a. Agree c env (with_a e a)) (does p (is_issued c) calls item) (does_a c item)
  item_a e (Assign v x) kept is env a w ag = both _ Next _ _ _ (record {
    a = put_agrees c.s env a ag.a v _ _ (λ m. computed_agrees c.s env a ag.a x w.frame (kept.0 m));
    e = kept_agrees c.needs env e ag.e v _ (not_true (c.needs v) is);
  })
  item_a e (Load v kind x) kept is env a w ag =
      let same = value_agrees c.s env a ag.a x kept.0 in
      subst (λ (at : ℕ). Ends (λ env a. Agree c env (with_a e a)) (does p (is_issued c) calls (Load v kind x) env w) (within (misplaced (width_of kind) at (length w.memory)) w (At Next (put (c.s v) v (loaded kind (value x a) w.memory) a) (fetched (is_issued c v) w)))) (sym same)
      (within_both _ (misplaced (width_of kind) (value x env) (length w.memory)) w _ _ (both _ Next _ _ _ (record {
        a = put_agrees c.s env a ag.a v _ _ (λ _. ap (λ at. loaded kind at w.memory) same);
        e = kept_agrees c.needs env e ag.e v _ (not_true (c.needs v) is);
      })))
  item_a e Break kept is env a w ag = both _ Leaves env a _ ag
  item_a e Continue kept is env a w ag = both _ Skips env a _ ag
  item_a e (Store width x y) kept is env a w ag = absurd (no_true is)
  item_a e (Print spelling x) kept is env a w ag = absurd (no_true is)
  item_a e (Expect check) kept is env a w ag = absurd (no_true is)
  item_a e (Call v f xs) kept is env a w ag = absurd (no_true is)
  item_a e (Return x) kept is env a w ag = absurd (no_true is)
  item_a e (Halt x) kept is env a w ag = absurd (no_true is)

  -- what neither needs isn't issued
  unissued : (v : ℕ) → c.s v ≡ false → c.needs v ≡ false → is_issued c v ≡ false
  unissued v s n = rw (s, n) refl

  item_e : (a : Env) (item : Item) → ItemKept of c item → is_e_item c item ≡ true → Goes (λ env e. Agree c env (with_e a e)) (does p (is_issued c) calls item) (does_e c item)
  item_e a (Assign v x) kept is env e w ag = both _ Next _ _ _ (record {
    a = kept_agrees c.s env a ag.a v _ (not_true (c.s v) is);
    e = put_agrees c.needs env e ag.e v _ _ (λ m. computed_agrees c.needs env e ag.e x w.frame (kept.1 (not_true (c.s v) is) m));
  })
  item_e a (Load v kind x) kept is env e w ag =
      let b = and_true (not (c.s v)) (not (c.needs v)) is in
      rw (unissued v (not_true (c.s v) b.0) (not_true (c.needs v) b.1))
      (within_one _ (misplaced (width_of kind) (value x env) (length w.memory)) w _ _ (both _ Next _ _ _ (record {
        a = kept_agrees c.s env a ag.a v _ (not_true (c.s v) b.0);
        e = kept_agrees c.needs env e ag.e v _ (not_true (c.needs v) b.1);
      })))
  item_e a (Print spelling x) kept is env e w ag = rw (value_agrees c.needs env e ag.e x kept.1) (both _ Next env e _ ag)
  item_e a Break kept is env e w ag = both _ Leaves env e _ ag
  item_e a Continue kept is env e w ag = both _ Skips env e _ ag
  item_e a (Store width x y) kept is env e w ag = absurd (no_true is)
  item_e a (Expect check) kept is env e w ag = absurd (no_true is)
  item_e a (Call v f xs) kept is env e w ag = absurd (no_true is)
  item_e a (Return x) kept is env e w ag = absurd (no_true is)
  item_e a (Halt x) kept is env e w ag = absurd (no_true is)

  on_side_alike : (sides : Env → Sides) (r s : Result Env) → Ends (λ env x. Agree c env (sides x)) r s → Ends (Agree c) r (on_side sides s)
  on_side_alike sides r s (BothAt way e x w u q l) = BothAt way e (sides x) w u q l
  on_side_alike sides r s (BothOver end w u l) = BothOver end w u l
  on_side_alike sides r s (FirstStrays w x) = FirstStrays w (on_side sides x)

  pub a_region_alike : (n : ℕ) (code : Form) → IsClosed of c code → every (is_a_item c) (is_by_a c.s) code ≡ true → (env : Env) (b : Sides) (w : World) → Agree c env b → Ends (Agree c) (exec (meaning p (is_issued c) calls) n code env w) (on_side (with_a b.e) (exec (region_meaning (does_a c)) n code b.a w))
  a_region_alike n code kept is env b w ag = on_side_alike (with_a b.e) _ _
      (same_code (meaning p (is_issued c) calls) (region_meaning (does_a c)) (λ env a. Agree c env (with_a b.e a)) (ItemKept of c) (ConditionKept c) (is_a_item c) (is_by_a c.s) (item_a b.e)
      (λ t kept is env a ag. holds_agrees c.s env a ag.a t is) n code kept is env b.a w ag)

  pub e_region_alike : (n : ℕ) (code : Form) → IsClosed of c code → every (is_e_item c) (λ t. not (is_by_a c.s t)) code ≡ true → (env : Env) (b : Sides) (w : World) → Agree c env b → Ends (Agree c) (exec (meaning p (is_issued c) calls) n code env w) (on_side (with_e b.a) (exec (region_meaning (does_e c)) n code b.e w))
  e_region_alike n code kept is env b w ag = on_side_alike (with_e b.a) _ _
      (same_code (meaning p (is_issued c) calls) (region_meaning (does_e c)) (λ env e. Agree c env (with_e b.a e)) (ItemKept of c) (ConditionKept c) (is_e_item c) (λ t. not (is_by_a c.s t)) (item_e b.a)
      (λ t kept is env e ag. holds_agrees c.needs env e ag.e t (kept (not_true (has_test c.s t) is))) n code kept is env b.e w ag)
