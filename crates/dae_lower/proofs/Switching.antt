-- A switch: the search for a label, the arms from there on, and a continue of the loop outside.
use Rattle.std.proofs.Common.{◌≡◌, ℕ, zero, suc, ◌+◌, ◌*◌, ◌<◌, ◌≤◌, inl, Bool, true, false, not, ◌||◌, nat_eq, List, [], ◌∷◌, length, Option, Some, None, if◌then◌else◌, refl, ap, sym, ◌∙◌, subst, arith, add-zero}
use Rattle.dae_base.specs.declared.Place.{Place}
use Rattle.dae_meaning.specs.Results.{Result, At, Next, Leaves, Skips, Returns, Run, ◌▷◌, ◌↻◌, turns}
use Rattle.dae_meaning.specs.Worlds.{World, ticked}
use Rattle.dae_ir.specs.Code.{Done, Do, If, Loop}
use Rattle.dae_meaning.specs.Operations.{compared}
use Rattle.dae_ir.specs.Form.{Form, value as held, Calls, meaning, Program}
use Rattle.dae_meaning.specs.Variables.{Env, put}
use Rattle.dae_ir.specs.Classes.{VariableSet}
use Rattle.dae_ir.specs.declared.form.Item.TheVariants.{Assign, Break, Continue}
use Rattle.dae_ir.specs.declared.form.Value.TheVariants.{Same as Copy}
use Rattle.dae_meaning.specs.declared.Comparison.TheVariants.{NotEqual}
use Rattle.dae_ir.specs.declared.form.Operand.{Operand}
use Rattle.dae_ir.specs.declared.form.Operand.TheVariants.{Variable, Number}
use Rattle.dae_program.specs.Trees as tree
use Rattle.dae_program.specs.Trees.{Expression, Statements, Arms}
use Rattle.dae_program.specs.Outcomes.{Outcome, Gives, Ends, ◌⊳◌}
use Rattle.dae_program.specs.Expressions.{ProgramSetup, evaluate as value}
use Rattle.dae_program.specs.Statements.{execute_from as does_from}
use Rattle.dae_program.specs.Switches.{leave_switch as left, has_label as labelled, arm_with, first_arm, count_arms, count_labels, with_work}
use Rattle.dae_lower.specs.Lowering.{Made, one, ◌≫◌, ◌⨾◌, nowhere, test_of, Links, ways, where_so, switch, search, search_labels, arms_from, arms_continue}
use Rattle.dae_lower.proofs.Relation.{at, Agree, Kept, Lasts, Alike, exec_then, still_alone, put_same, put_other}
use Rattle.dae_lower.proofs.Chains.{run, Follows}
use Rattle.dae_lower.proofs.Leaves.{agree_put, kept_put}
use Rattle.dae_lower.proofs.Arguments.{Called}
use Rattle.dae_lower.proofs.Valued.{Anything}
use Rattle.dae_lower.proofs.Expressions.{faithful}
use Rattle.dae_lower.proofs.Doing.{everything, Same, Goes, Halts, same_from, Does, value_does}
use Rattle.dae_lower.proofs.Skipping.{NotSkips, arms_stay}
use Rattle.dae_lower.proofs.Statements.{SwitchesDo, ArmsDo}

-- ---- the search

-- the search ends with variable v at first, all else as it was, and at most so many items
data Finds (o : Env) (w : World) (v first most : ℕ) : Result Env → Type 0 where
  Found : (e : Env) (j : ℕ) → e v ≡ first → ((u : ℕ) → (u ≡ v → ⊥) → e u ≡ o u) → j ≤ most → Finds o w v first most (At Leaves e (at j w))

more_found : (o : Env) (w : World) (v first most more : ℕ) (r : Result Env) → most ≤ more → Finds o w v first most r → Finds o w v first more r
more_found o w v first most more r l (Found e j a b c) = Found e j a b (omega (arith, l, c))

module _ (m n : ℕ) (p : Program) (calls : Calls) where
  labels_find : (place : Place) (x : Operand) (v k c d : ℕ) (labels : List (Option ℕ)) (rest : Form) (o : Env) (w : World) → ((i : ℕ) → Finds o w v d (i + c) (run m n p calls rest o (at i w))) → (i : ℕ) → Finds o w v (if labelled (Some (held x o)) labels then k else d) (i + (length labels + (c + 2))) (run m n p calls (search_labels place x v k labels rest) o (at i w))
  unfolding compared
  labels_find place x v k c d [] rest o w h i = more_found o w v d (i + c) (i + (0 + (c + 2))) _ (omega arith) (h i)
  labels_find place x v k c d (None ∷ labels) rest o w h i = more_found o w v (if labelled (Some (held x o)) labels then k else d) (i + (length labels + (c + 2))) (i + (suc (length labels) + (c + 2))) _ (omega arith) (labels_find place x v k c d labels rest o w h i)
  labels_find place x v k c d (Some label ∷ labels) rest o w h i = by (nat_eq (held x o) label) (labels_find place x v k c d labels rest o w h (i + 1)) where
    by : (b : Bool) → Finds o w v (if labelled (Some (held x o)) labels then k else d) (i + 1 + (length labels + (c + 2))) (run m n p calls (search_labels place x v k labels rest) o (at (i + 1) w)) → Finds o w v (if b || labelled (Some (held x o)) labels then k else d) (i + (suc (length labels) + (c + 2))) ((if b then At Leaves (put true v k o) (at (i + 1 + 1 + 1) w) else At Next o (at (i + 1) w)) ▷ run m n p calls (search_labels place x v k labels rest))
    by true g = Found (put true v k o) (i + 1 + 1 + 1) (put_same v k o) (λ u e. put_other v k u o e) (omega arith)
    by false g = more_found o w v (if labelled (Some (held x o)) labels then k else d) (i + 1 + (length labels + (c + 2))) (i + (suc (length labels) + (c + 2))) _ (omega arith) g

  search_finds : (place : Place) (x : Operand) (v k : ℕ) (arms : Arms) (o : Env) (w : World) (i : ℕ) → Finds o w v (arm_with (Some (held x o)) k arms (o v)) (i + (2 * count_labels arms + 1)) (run m n p calls (search place x v k arms) o (at i w))
  search_finds place x v k tree.no_arms o w i = Found o (i + 1) refl (λ u e. refl) (omega arith)
  search_finds place x v k (tree.arm_then labels t rest) o w i =
      more_found o w v (if labelled (Some (held x o)) labels then k else arm_with (Some (held x o)) (suc k) rest (o v)) (i + (length labels + (2 * count_labels rest + 1 + 2))) (i + (2 * (suc (length labels) + count_labels rest) + 1)) _ (omega arith)
      (labels_find place x v k (2 * count_labels rest + 1) (arm_with (Some (held x o)) (suc k) rest (o v)) labels (search place x v (suc k) rest) o w (search_finds place x v (suc k) rest o w) i)

  -- ---- loops of one turn

  once : (Q : Result Env → Type 0) (b c : Run Env) (e : Env) (u : World) → ((more : Run Env) → Q (b e (ticked u) ↻ λ e u. c e u ↻ more)) → (count : ℕ) → 1 ≤ count → Q (turns b c count e u)
  once Q b c e u h zero l = absurd (omega (arith, l))
  once Q b c e u h (suc count) l = h (turns b c count)

  -- behind the search
  behind_search : (o : Env) (w : World) (v first most : ℕ) (f g : Run Env) (Q : Result Env → Type 0) (r : Result Env) → Finds o w v first most r → ((e : Env) (j : ℕ) → e v ≡ first → ((u : ℕ) → (u ≡ v → ⊥) → e u ≡ o u) → j ≤ most → Q (g e (at j w))) → Q ((r ↻ f) ▷ g)
  behind_search o w v first most f g Q r (Found e j a b c) h = h e j a b c

  -- what a switch ends with, for what its arms came to, where the flag says whether it may go on in a loop outside
  abbrev ends : Place → ℕ → Bool → Run Env → Result Env → Result Env
  ends place v goes more r =
      ((r ▷ run m n p calls (one place Break)) ↻ λ e u. run m n p calls (where_so goes (Do place (Assign (v + 1) (Copy (Number 1))) (one place Break))) e u ↻ more)
      ▷ run m n p calls (where_so goes (If place (test_of NotEqual (Variable (v + 1)) (Number 0)) (one place Continue) Done Done))

  module _ (place : Place) (v q : ℕ) (mq : m ≤ q) (qv : q ≤ v) (start : Env) where
    kept_lower : (e : Env) → Kept m (v + 2) everything start e → Kept m q everything start e
    kept_lower e k u l f = k u (omega (arith, l, qv)) f

    -- the flag is still 0
    unflagged : (t : ℕ) (env e : Env) (w : World) (i : ℕ) → start (v + 1) ≡ 0 → Agree m env e → Kept m (v + 2) everything start e → i + (t + 4) + w.loads ≤ 9 * w.items → Same m q everything t start (At Next env w) (((if not (nat_eq (e (v + 1)) 0) then At Skips e (at (i + 1 + 1) w) else At Next e (at (i + 1) w)) ▷ At Next))
    unflagged t env e w i z a k o =
        subst (λ (x : ℕ). Same m q everything t start (At Next env w) ((if not (nat_eq x 0) then At Skips e (at (i + 1 + 1) w) else At Next e (at (i + 1) w)) ▷ At Next)) (sym (k (v + 1) (omega arith) (inl (omega (arith, mq, qv))) ∙ z))
        (Goes Next env e w (i + 1) a (kept_lower e k) (omega (arith, o)))

    ends_flagged : (t : ℕ) (more : Run Env) → start (v + 1) ≡ 0 → (c r : Result Env) → Same m (v + 2) everything (t + 6) start c r → Same m q everything t start (left c) (ends place v true more r)
    unfolding compared
    ends_flagged t more z c r (Goes Next env e w i a k o) = unflagged t env e w (i + 1) z a k (omega (arith, o))
    ends_flagged t more z c r (Goes Leaves env e w i a k o) = unflagged t env e w i z a k (omega (arith, o))
    ends_flagged t more z c r (Goes Returns env e w i a k o) = Goes Returns env e w i a (kept_lower e k) (omega (arith, o))
    ends_flagged t more z c r (Halts end w i o) = Halts end w i o
    ends_flagged t more z c r (Goes Skips env e w i a k o) =
        subst (λ (x : ℕ). Same m q everything t start (At Skips env w) ((if not (nat_eq x 0) then At Skips (put true (v + 1) 1 e) (at (i + 1 + 1 + 1 + 1) w) else At Next (put true (v + 1) 1 e) (at (i + 1 + 1 + 1) w)) ▷ At Next)) (sym (put_same (v + 1) 1 e))
        (Goes Skips env (put true (v + 1) 1 e) w (i + 1 + 1 + 1 + 1) (agree_put m n p calls nowhere (v + 1) 1 env e (omega (arith, mq, qv)) a) (λ u l f. put_other (v + 1) 1 u e (λ g. omega (arith, g, l, qv)) ∙ kept_lower e k u l f) (omega (arith, o)))

    ends_unflagged : (t : ℕ) (more : Run Env) (c r : Result Env) → NotSkips c → Same m (v + 2) everything (t + 6) start c r → Same m q everything t start (left c) (ends place v false more r)
    ends_unflagged t more c r h (Goes Next env e w i a k o) = Goes Next env e w (i + 1) a (kept_lower e k) (omega (arith, o))
    ends_unflagged t more c r h (Goes Leaves env e w i a k o) = Goes Next env e w i a (kept_lower e k) (omega (arith, o))
    ends_unflagged t more c r h (Goes Returns env e w i a k o) = Goes Returns env e w i a (kept_lower e k) (omega (arith, o))
    ends_unflagged t more c r h (Goes Skips env e w i a k o) = elim h [ ]
    ends_unflagged t more c r h (Halts end w i o) = Halts end w i o

arms_fewer : (arms : Arms) → count_arms arms ≤ count_labels arms
arms_fewer tree.no_arms = omega arith
arms_fewer (tree.arm_then labels t rest) = omega (arith, arms_fewer rest)

left_on : {X : Type 0} (r : Outcome X) (f : X → Run Env) → (r ⊳ λ x env w. left (f x env w)) ≡ left (r ⊳ f)
left_on (Gives x env w) f = refl
left_on (Ends end w) f = refl

module _ (m n : ℕ) (s : ProgramSetup) (l : Links) (p : Program) (calls : Calls) (places : (k : ℕ) → s.address k ≡ l.address k) (called : Called m n s l p calls places) (some : 0 < m) (many : 1 ≤ n) where
  -- behind the search, in variables that it left
  arms_then : (place : Place) (arms : Arms) → ArmsDo m n s l p calls places called some arms → (q v first : ℕ) → m ≤ q → q ≤ v → (goes : Bool) → arms_continue arms ≡ goes → (env e : Env) (w : World) (j t : ℕ) → Agree m env e → e v ≡ first → j + (t + count_arms arms + 8) + w.loads ≤ 9 * w.items →
      Same m q everything t e (left (does_from s false n first arms env w)) (run m n p calls (where_so goes (one place (Assign (v + 1) (Copy (Number 0)))) ⨾ Loop place ((arms_from l place v 0 arms (v + 2)).code ⨾ one place Break) (where_so goes (Do place (Assign (v + 1) (Copy (Number 1))) (one place Break))) (where_so goes (If place (test_of NotEqual (Variable (v + 1)) (Number 0)) (one place Continue) Done Done))) e (at j w))
  arms_then place arms h q v first mq qv true g env e w j t a f o =
      once m n p calls (λ r. Same m q everything t e (left (does_from s false n first arms env w)) (r ▷ run m n p calls (If place (test_of NotEqual (Variable (v + 1)) (Number 0)) (one place Continue) Done Done))) (run m n p calls ((arms_from l place v 0 arms (v + 2)).code ⨾ one place Break)) (run m n p calls (Do place (Assign (v + 1) (Copy (Number 1))) (one place Break))) (put true (v + 1) 0 e) (at (j + 1) w)
      (λ more. subst (λ (r : Result Env). Same m q everything t e (left (does_from s false n first arms env w)) ((r ↻ λ e u. run m n p calls (Do place (Assign (v + 1) (Copy (Number 1))) (one place Break)) e u ↻ more) ▷ run m n p calls (If place (test_of NotEqual (Variable (v + 1)) (Number 0)) (one place Continue) Done Done))) (sym (exec_then (meaning p (λ v. true) calls) n (arms_from l place v 0 arms (v + 2)).code (one place Break) (put true (v + 1) 0 e) (at (j + 1 + 1) w)))
      (same_from m q q everything t t e (put true (v + 1) 0 e) (omega arith) (omega arith) (λ u i x. put_other (v + 1) 0 u e (λ z. omega (arith, z, i, qv))) _ _
      (ends_flagged m n p calls place v q mq qv (put true (v + 1) 0 e) t more (put_same (v + 1) 0 e) _ _
      (let d = h place v 0 (v + 2) (v + 2) (omega (arith, mq, qv)) (omega arith) (omega arith) in d.1 first first (inl (add-zero first)) env (put true (v + 1) 0 e) w (j + 1 + 1) (t + 6) (agree_put m n p calls nowhere (v + 1) 0 env e (omega (arith, mq, qv)) a) (put_other (v + 1) 0 v e (λ z. omega (arith, z)) ∙ f) (omega (arith, o)))))) n many
  arms_then place arms h q v first mq qv false g env e w j t a f o =
      once m n p calls (λ r. Same m q everything t e (left (does_from s false n first arms env w)) (r ▷ At Next)) (run m n p calls ((arms_from l place v 0 arms (v + 2)).code ⨾ one place Break)) (At Next) e (at j w)
      (λ more. subst (λ (r : Result Env). Same m q everything t e (left (does_from s false n first arms env w)) ((r ↻ λ e u. At Next e u ↻ more) ▷ At Next)) (sym (exec_then (meaning p (λ v. true) calls) n (arms_from l place v 0 arms (v + 2)).code (one place Break) e (at (j + 1) w)))
      (ends_unflagged m n p calls place v q mq qv e t more _ _ (arms_stay s n arms g first env w)
      (let d = h place v 0 (v + 2) (v + 2) (omega (arith, mq, qv)) (omega arith) (omega arith) in d.1 first first (inl (add-zero first)) env e w (j + 1) (t + 6) a f (omega (arith, o))))) n many

  -- so many units of work come first
  worked : {Z : Type 0} {c : VariableSet} {Lasting : ℕ → Z → Type 0} {Is : Z → ℕ → Env → Type 0} {made : Made Z} {g : Env → World → Outcome ℕ} (k count : ℕ) → Follows m n p calls 0 2 k k c Lasting (Anything {X = Unit {0}}) Is made (λ x. g) → Follows m n p calls 0 (2 + 9 * count) k k c Lasting (Anything {X = Unit {0}}) Is made (λ x env w. g env (with_work count w))
  worked {Z} {c} {Lasting} {Is} {made} {g} k count h = record {
    grows = h.grows;
    lasts = h.lasts;
    runs = λ x env other w i s a u o. subst (λ t. Alike m k c (Is made.given) t other (g env (with_work count w)) (run m n p calls made.code other (at i w))) (omega arith) (h.runs x env other (with_work count w) i (s + 9 * count) a u (omega (arith, o)));
  }

  -- a switch on an operand
  searched : (place : Place) (arms : Arms) → ArmsDo m n s l p calls places called some arms → (x : Operand) (q v : ℕ) → m ≤ q → q ≤ v → Lasts m nowhere q v x → (y : ℕ) (env other : Env) (w : World) (i t : ℕ) → Agree m env other → held x other ≡ y → i + (t + (2 + 9 * suc (count_labels arms))) + w.loads ≤ 9 * w.items →
      Same m q everything (t + 0) other (left (does_from s false n (first_arm y arms) arms env w)) (run m n p calls (switch place x v (arm_with None 0 arms (count_arms arms)) (search place x v 0 arms) (arms_continue arms) (arms_from l place v 0 arms (v + 2))).code other (at i w))
  searched place arms h x q v mq qv lasts y env other w i t a is o =
      once m n p calls (λ r. Same m q everything (t + 0) other (left (does_from s false n (first_arm y arms) arms env w)) (r ▷ run m n p calls (where_so (arms_continue arms) (one place (Assign (v + 1) (Copy (Number 0)))) ⨾ Loop place ((arms_from l place v 0 arms (v + 2)).code ⨾ one place Break) (where_so (arms_continue arms) (Do place (Assign (v + 1) (Copy (Number 1))) (one place Break))) (where_so (arms_continue arms) (If place (test_of NotEqual (Variable (v + 1)) (Number 0)) (one place Continue) Done Done))))) (run m n p calls (search place x v 0 arms)) (At Next) (put true v (arm_with None 0 arms (count_arms arms)) other) (at (i + 1) w)
      (λ more. behind_search m n p calls (put true v (arm_with None 0 arms (count_arms arms)) other) w v (arm_with (Some (held x (put true v (arm_with None 0 arms (count_arms arms)) other))) 0 arms (put true v (arm_with None 0 arms (count_arms arms)) other v)) (i + 1 + 1 + (2 * count_labels arms + 1)) (λ e u. At Next e u ↻ more) (run m n p calls (where_so (arms_continue arms) (one place (Assign (v + 1) (Copy (Number 0)))) ⨾ Loop place ((arms_from l place v 0 arms (v + 2)).code ⨾ one place Break) (where_so (arms_continue arms) (Do place (Assign (v + 1) (Copy (Number 1))) (one place Break))) (where_so (arms_continue arms) (If place (test_of NotEqual (Variable (v + 1)) (Number 0)) (one place Continue) Done Done)))) (λ r. Same m q everything (t + 0) other (left (does_from s false n (first_arm y arms) arms env w)) r) _ (search_finds m n p calls place x v 0 arms (put true v (arm_with None 0 arms (count_arms arms)) other) w (i + 1 + 1))
      (λ e j at_first others few. same_from m q q everything (t + 0) (t + 0) other e (omega arith) (omega arith) (λ u k f. others u (λ z. omega (arith, z, k, qv)) ∙ put_other v (arm_with None 0 arms (count_arms arms)) u other (λ z. omega (arith, z, k, qv))) _ _
      (arms_then place arms h q v (first_arm y arms) mq qv (arms_continue arms) refl env e w j (t + 0) (λ u k. others u (λ z. omega (arith, z, k, mq, qv)) ∙ put_other v (arm_with None 0 arms (count_arms arms)) u other (λ z. omega (arith, z, k, mq, qv)) ∙ a u k) (at_first ∙ found) (omega (arith, few, o, arms_fewer arms))))) n many where
        found : arm_with (Some (held x (put true v (arm_with None 0 arms (count_arms arms)) other))) 0 arms (put true v (arm_with None 0 arms (count_arms arms)) other v) ≡ first_arm y arms
        found = ap (λ z. arm_with (Some z) 0 arms (put true v (arm_with None 0 arms (count_arms arms)) other v)) (still_alone m q v nowhere x other (put true v (arm_with None 0 arms (count_arms arms)) other) mq qv lasts (kept_put m n p calls nowhere v v (arm_with None 0 arms (count_arms arms)) other (omega arith)) ∙ is) ∙ ap (λ z. arm_with (Some y) 0 arms z) (put_same v (arm_with None 0 arms (count_arms arms)) other)

  pub switches_do : SwitchesDo m n s l p calls places called some
  switches_do place e arms h harms q j = told place e arms q (value_does m n p calls 0 (2 + 9 * suc (count_labels arms)) 0 q q q (λ x n. switch place x n (arm_with None 0 arms (count_arms arms)) (search place x n 0 arms) (arms_continue arms) (arms_from l place n 0 arms (n + 2))) (λ env w. value s e env (with_work (suc (count_labels arms)) w)) (λ x env w. left (does_from s false n (first_arm x arms) arms env w)) (omega arith)
      (worked q (suc (count_labels arms)) (let f = faithful m n s l p calls places called e h in f.value nowhere q j))
      (λ o r z. ((let c = harms place o 0 (o + 2) (o + 2) (omega (arith, j, r)) (omega arith) (omega arith) in omega (arith, c.0)), searched place arms harms _ q o j r z))) where
        told : (place : Place) (e : Expression) (arms : Arms) (q : ℕ) → Does m n p calls 0 0 q q ((ways l e).value nowhere q ≫ λ x n. switch place x n (arm_with None 0 arms (count_arms arms)) (search place x n 0 arms) (arms_continue arms) (arms_from l place n 0 arms (n + 2))) (λ env w. value s e env (with_work (suc (count_labels arms)) w) ⊳ λ x env w. left (does_from s false n (first_arm x arms) arms env w)) → Does m n p calls 0 0 q q ((ways l e).value nowhere q ≫ λ x n. switch place x n (arm_with None 0 arms (count_arms arms)) (search place x n 0 arms) (arms_continue arms) (arms_from l place n 0 arms (n + 2))) (λ env w. left (value s e env (with_work (suc (count_labels arms)) w) ⊳ λ x. does_from s false n (first_arm x arms) arms))
        told place e arms q h = record { grows = h.grows; runs = λ env other w i t a o. subst (λ (r : Result Env). Same m q everything (t + 0) other r (run m n p calls ((ways l e).value nowhere q ≫ λ x n. switch place x n (arm_with None 0 arms (count_arms arms)) (search place x n 0 arms) (arms_continue arms) (arms_from l place n 0 arms (n + 2))).code other (at i w))) (left_on (value s e env (with_work (suc (count_labels arms)) w)) (λ x. does_from s false n (first_arm x arms) arms)) (h.runs env other w i t a o) }
