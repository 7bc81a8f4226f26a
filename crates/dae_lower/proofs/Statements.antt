-- Each statement's form does what the statement does.
use Rattle.std.proofs.Common.{◌≡◌, ℕ, zero, suc, ◌+◌, ◌*◌, ◌<◌, ◌≤◌, ◌⊎◌, inl, inr, Bool, true, false, not, nat_eq, nat_lt, List, Option, Some, None, if◌then◌else◌, refl, ap, sym, ◌∙◌, subst, arith}
use Rattle.std.proofs.lemmas.Bool.Decides.{nat_tests}
use Rattle.dae_base.specs.Words.{plus}
use Rattle.dae_meaning.specs.Operations.{compared}
use Rattle.dae_base.specs.declared.Place.{Place}
use Rattle.dae_meaning.specs.Results.{Result, At, Next, Leaves, Skips, Returns, Run, ◌▷◌}
use Rattle.dae_meaning.specs.Worlds.{World, ticked}
use Rattle.dae_meaning.specs.Variables.{Env, put}
use Rattle.dae_ir.specs.Form.{value as held, Calls, Program}
use Rattle.dae_ir.specs.declared.form.Item.TheVariants.{Break, Continue, Return}
use Rattle.dae_ir.specs.declared.form.Operand.TheVariants.{Number}
use Rattle.dae_program.specs.Trees as tree
use Rattle.dae_program.specs.Trees.{Expression, Expressions, Setting, Statements, Arms}
use Rattle.dae_program.specs.Scope.{IsIn, AreIn, IsSomeIn, AreSettingsIn, AreStatementsIn, AreArmsIn}
use Rattle.dae_program.specs.declared.statements.FormatPiece.{FormatPiece}
use Rattle.dae_program.specs.Outcomes.{Outcome, ◌⊳◌}
use Rattle.dae_program.specs.Expressions.{ProgramSetup, evaluate as value, arguments as values}
use Rattle.dae_program.specs.Statements.{loop as looped, test as tested, do_effects as evaluated, execute as does, execute_from as does_from}
use Rattle.dae_program.specs.Switches.{leave_switch as left, first_arm, arm_with, count_arms, count_labels, with_work}
use Rattle.dae_program.specs.Printing.{print_pieces as shown}
use Rattle.dae_program.specs.Initialising.{set_items as settled, clear as cleared}
use Rattle.dae_lower.specs.Lowering.{Made, emit, skip, one, ◌≫◌, nowhere, Links, ways, assigned, operands, leave_unless, leave_unless_some, effect_of_some, prints, zeros, settings, search, switch, statements, arms_from, arms_continue, loop, preheader, headed_loop}
use Rattle.dae_lower.proofs.Relation.{at, Agree, Kept, Alike, Both, Stop, put_other}
use Rattle.dae_lower.proofs.Chains.{run, Follows, paid, spared}
use Rattle.dae_lower.proofs.Branches.{Always}
use Rattle.dae_lower.proofs.Leaves.{agree_both, agree_put}
use Rattle.dae_lower.proofs.Valued.{Anything, Nothing}
use Rattle.dae_lower.proofs.Arguments.{Called}
use Rattle.dae_lower.proofs.Expressions.{faithful}
use Rattle.dae_lower.proofs.Doing.{everything, Same, Goes, Halts, kept_everything, same_from, after_statements, Does, cheaper_does, spared_does, skip_does, then_does, value_does, branches_do, loop_does}

module _ (m n : ℕ) (s : ProgramSetup) (l : Links) (p : Program) (calls : Calls) (places : (k : ℕ) → s.address k ≡ l.address k) (called : Called m n s l p calls places) (some : 0 < m) where
  abbrev DoesIt : ℕ → ℕ → ℕ → ℕ → Made (Unit {0}) → Run Env → Type 0
  DoesIt a b q k made r = Does m n p calls a b q k made r

  told : {a b q k : ℕ} {made : Made (Unit {0})} (r f : Run Env) → ((env : Env) (w : World) → r env w ≡ f env w) → DoesIt a b q k made r → DoesIt a b q k made f
  told {a} {b} {q} {k} {made} r f h d = record {
    grows = d.grows;
    runs = λ env other w i s g o. subst (λ (u : Result Env). Same m k everything (s + b) other u (run m n p calls made.code other (at i w))) (h env w) (d.runs env other w i s g o);
  }

  -- ---- parts of statements

  effect_does : (e : Expression) → IsIn m e → (q : ℕ) → m ≤ q → DoesIt 0 2 q q ((ways l e).effect nowhere q) (λ env w. value s e env w ⊳ λ x. At Next)
  effect_does e h q j = record { grows = made.grows; runs = λ env other w i t g o. by _ _ (made.runs tt env other w i t g tt o) } where
    made : Follows m n p calls 0 2 q q (assigned e) Always (Anything {X = Unit {0}}) Nothing ((ways l e).effect nowhere q) (λ x. value s e)
    made = let f = faithful m n s l p calls places called e h in f.effect nowhere q j

    by : {t : ℕ} {o : Env} (r : Outcome ℕ) (u : Result Env) → Alike m q (assigned e) (Nothing made) t o r u → Same m q everything t o (r ⊳ λ x. At Next) u
    by r u (Both x env other w i a b c d) = Goes Next env other w i a (kept_everything m q (assigned e) _ other b) d
    by r u (Stop end w i d) = Halts end w i d

  break_does : (q k : ℕ) (place : Place) → DoesIt 1 0 q k (emit (one place Break) q) (At Leaves)
  break_does q k place = record { grows = omega arith; runs = λ env other w i t g o. Goes Leaves env other w (i + 1) g (λ v z x. refl) (omega (arith, o)) }

  continue_does : (q : ℕ) (place : Place) → DoesIt 7 0 q q (emit (one place Continue) q) (At Skips)
  continue_does q place = record { grows = omega arith; runs = λ env other w i t g o. Goes Skips env other w (i + 1) g (λ v z x. refl) (omega (arith, o)) }

  leave_does : (place : Place) (e : Expression) → IsIn m e → (q : ℕ) → m ≤ q → DoesIt 0 0 q q (leave_unless l place e q) (tested s (Some e))
  leave_does place e h q j =
      branches_do m n p calls place skip (emit (one place Break)) (At Next) (At Leaves) (value s e) 0 1 0 q q q (omega arith)
      (let f = faithful m n s l p calls places called e h in f.condition nowhere q j)
      (λ o r. cheaper_does m n p calls 0 0 o q 1 0 q (skip o) (At Next) (omega arith) (omega arith) (omega arith) (skip_does m n p calls o q))
      (λ o r. break_does o q place)

  leave_some : (place : Place) (e : Option Expression) → IsSomeIn m e → (q : ℕ) → m ≤ q → DoesIt 0 0 q q (leave_unless_some l place e q) (tested s e)
  leave_some place None h q j = skip_does m n p calls q q
  leave_some place (Some e) h q j = leave_does place e h q j

  effect_some : (e : Option Expression) → IsSomeIn m e → (q : ℕ) → m ≤ q → DoesIt 0 0 q q (effect_of_some l e q) (evaluated s e)
  effect_some None h q j = skip_does m n p calls q q
  effect_some (Some e) h q j = cheaper_does m n p calls 0 2 q q 0 0 q _ (evaluated s (Some e)) (omega arith) (omega arith) (omega arith) (effect_does e h q j)

  -- three variables from q on become 0, which nothing reads
  abbrev unread_set : ℕ → Env → Env
  unread_set q e = put true (q + 1 + 1) 0 (put true (q + 1) 0 (put true q 0 e))

  kept_unread : (q : ℕ) (o : Env) → Kept m q everything o (unread_set q o)
  kept_unread q o v z x =
      put_other (q + 1 + 1) 0 v (put true (q + 1) 0 (put true q 0 o)) (λ e. omega (arith, e, z))
      ∙ put_other (q + 1) 0 v (put true q 0 o) (λ e. omega (arith, e, z))
      ∙ put_other q 0 v o (λ e. omega (arith, e, z))

  agree_unread : (q : ℕ) (env other : Env) → m ≤ q → Agree m env other → Agree m env (unread_set q other)
  agree_unread q env other mq g =
      agree_put m n p calls nowhere (q + 1 + 1) 0 env (put true (q + 1) 0 (put true q 0 other)) (omega (arith, mq))
      (agree_put m n p calls nowhere (q + 1) 0 env (put true q 0 other) (omega (arith, mq)) (agree_put m n p calls nowhere q 0 env other mq g))

  preheader_does : (q : ℕ) (place : Place) → m ≤ q → DoesIt 7 4 q q (preheader place q) (At Next)
  preheader_does q place mq = record {
    grows = omega arith;
    runs = λ env other w i t g o. Goes Next env (unread_set q other) w (i + 1 + 1 + 1) (agree_unread q env other mq g) (kept_unread q other) (omega (arith, o));
  }

  -- a loop behind its preheader, which the statement's own unit of work pays
  headed_does : (q : ℕ) (place : Place) (body step : ℕ → Made (Unit {0})) (check inner after : Run Env) → m ≤ q
      → ((o : ℕ) → q ≤ o → DoesIt 8 0 o o (body o) (λ env w. check env w ▷ inner))
      → ((o v : ℕ) → q ≤ o → o ≤ v → DoesIt 0 0 v o (step v) after)
      → DoesIt 7 0 q q (headed_loop place body step q) (looped false check inner after n)
  headed_does q place body step check inner after mq turn behind =
      then_does m n p calls 7 4 0 q q (preheader place q) (λ o. loop place (body o) step) (At Next) (looped false check inner after n) (omega arith)
      (preheader_does q place mq)
      (λ o r. cheaper_does m n p calls 0 0 o o 4 0 q _ (looped false check inner after n) (omega arith) (omega arith) r
      (loop_does m n p calls o o place (body o) step check inner after (turn o r) (λ v u. behind o v r u)))

  abbrev Claim : Statements → Type 0
  Claim t = (q : ℕ) → m ≤ q → DoesIt 0 0 q q (statements l t q) (does s false n t)

  rest : (b q o : ℕ) (t : Statements) → q ≤ o → m ≤ q → Claim t → DoesIt b 0 o q (statements l t o) (does s false n t)
  rest b q o t r j h = cheaper_does m n p calls 0 0 o o b 0 q _ (does s false n t) (omega arith) (omega arith) r (h o (omega (arith, j, r)))

  -- one statement, which a unit of work pays, and then those behind it
  then_rest : (q : ℕ) (made : Made (Unit {0})) (r : Run Env) (k : Statements) → m ≤ q → DoesIt 7 0 q q made r → Claim k → DoesIt 0 0 q q (made ≫ λ x. statements l k) (λ env w. r env (ticked w) ▷ does s false n k)
  then_rest q made r k j h hk =
      then_does m n p calls 0 2 0 q q made (statements l k) (λ env w. r env (ticked w)) (does s false n k) (omega arith)
      (record { grows = h.grows; runs = λ env other w i t g o. same_from m q q everything (t + 2 + 0) (t + 2) other other (omega arith) (omega arith) (λ v z x. refl) _ _ (h.runs env other (ticked w) i (t + 2) g (omega (arith, o))) })
      (λ o r. rest 2 q o k r j hk)

  kept_zero : (x q : ℕ) (o : Env) → Kept m q everything o (put true 0 x o)
  kept_zero x q o v z (inl h) = put_other 0 x v o (λ e. omega (arith, h, e, some))
  kept_zero x q o v z (inr h) = cc

  return_does : (q : ℕ) (place : Place) → DoesIt 7 0 q q (emit (one place (Return (Number 0))) q) (λ env. At Returns (put true 0 0 env))
  return_does q place = record {
    grows = omega arith;
    runs = λ env other w i t g o. Goes Returns (put true 0 0 env) (put true 0 0 other) w (i + 1) (agree_both m n p calls nowhere 0 0 env other g) (kept_zero 0 q other) (omega (arith, o));
  }

  -- ---- what is printed, set and chosen, given elsewhere

  -- the pieces of a format
  abbrev pub PrintsDo : Type 0
  PrintsDo = (place : Place) (xs : Expressions) (ps : List FormatPiece) → AreIn m xs → (q : ℕ) → m ≤ q → DoesIt 7 0 q q (operands l xs nowhere q ≫ prints place ps) (λ env w. values s xs env w ⊳ shown ps)

  -- zeros, and then items
  abbrev pub InitialisesDo : Type 0
  InitialisesDo = (place : Place) (offset size : ℕ) (items : List Setting) → size < 4294967296 → AreSettingsIn m items → (q : ℕ) → m ≤ q →
      DoesIt 7 0 q q (emit (zeros place offset size q) (q + 2) ≫ λ x. settings l place q items) (λ env w. cleared size (plus w.frame offset) env w ▷ settled s items)

  -- where arm j stands in a switch that begins at arm number first, with so many arms still to pass
  abbrev pub Stands : ℕ → ℕ → ℕ → Type 0
  Stands first j before = (before + j ≡ first) ⊎ ((before ≡ 0) × (first ≤ j))

  -- the arms from number j on, where variable v says which is the first
  abbrev pub ArmsDo : Arms → Type 0
  ArmsDo arms = (place : Place) (v j k q : ℕ) → m ≤ v → v < k → k ≤ q → (q ≤ (arms_from l place v j arms q).next) × ((first before : ℕ) → Stands first j before → (env other : Env) (w : World) (i t : ℕ) → Agree m env other → other v ≡ first → i + (t + count_arms arms) + w.loads ≤ 9 * w.items → Same m k everything t other (does_from s false n before arms env w) (run m n p calls (arms_from l place v j arms q).code other (at i w)))

  below_not : (j first : ℕ) → first ≤ j → nat_lt j first ≡ false
  below_not j first h = by (nat_lt j first) refl where
    by : (b : Bool) → nat_lt j first ≡ b → b ≡ false
    by true e = absurd (grind (arith, nat_tests, h))
    by false e = refl

  below_so : (j first : ℕ) → j < first → nat_lt j first ≡ true
  below_so j first h = by (nat_lt j first) refl where
    by : (b : Bool) → nat_lt j first ≡ b → b ≡ true
    by true e = refl
    by false e = absurd (grind (arith, nat_tests, h))

  arm_does : (labels : List (Option ℕ)) (t : Statements) (more : Arms) → Claim t → ArmsDo more → ArmsDo (tree.arm_then labels t more)
  unfolding compared
  arm_does labels t more ht hr place v j k q lv vk kq = (omega (arith, first_grows, second.0), runs) where
    first_grows : q ≤ (statements l t q).next
    first_grows = let c = ht q (omega (arith, lv, vk, kq)) in c.grows

    second : ((statements l t q).next ≤ (arms_from l place v (suc j) more (statements l t q).next).next) × ((first before : ℕ) → Stands first (suc j) before → (env other : Env) (w : World) (i t' : ℕ) → Agree m env other → other v ≡ first → i + (t' + count_arms more) + w.loads ≤ 9 * w.items → Same m k everything t' other (does_from s false n before more env w) (run m n p calls (arms_from l place v (suc j) more (statements l t q).next).code other (at i w)))
    second = hr place v (suc j) k (statements l t q).next lv vk (omega (arith, kq, first_grows))

    -- which way the test goes
    goes : (h : Bool) (other : Env) (u : World) → Result Env
    goes h other u = (if h then run m n p calls (statements l t q).code other (ticked u) else At Next other (ticked u)) ▷ run m n p calls (arms_from l place v (suc j) more (statements l t q).next).code

    runs : (first before : ℕ) → Stands first j before → (env other : Env) (w : World) (i t' : ℕ) → Agree m env other → other v ≡ first → i + (t' + suc (count_arms more)) + w.loads ≤ 9 * w.items → Same m k everything t' other (does_from s false n before (tree.arm_then labels t more) env w) (run m n p calls (arms_from l place v j (tree.arm_then labels t more) q).code other (at i w))
    runs first zero st env other w i t' g u o =
        subst (λ (h : Bool). Same m k everything t' other (does s false n t env w ▷ does_from s false n zero more) ((if h then run m n p calls (statements l t q).code other (ticked (at i w)) else At Next other (ticked (at i w))) ▷ run m n p calls (arms_from l place v (suc j) more (statements l t q).next).code)) (sym (ap not (below_not j (other v) (low st))))
        (after_statements _ _ _ _ (omega arith) (same_from m q k everything (t' + count_arms more + 0) (t' + count_arms more) other other kq (omega arith) (λ x z d. refl) _ _ (let c = ht q (omega (arith, lv, vk, kq)) in c.runs env other w (i + 1) (t' + count_arms more) g (omega (arith, o))))
        (λ env1 other1 w1 i1 g1 k1 o1. same_from m k k everything t' t' other other1 (omega arith) (omega arith) k1 _ _ (second.1 first zero (inr (refl, low' st)) env1 other1 w1 i1 t' g1 (k1 v vk (inl lv) ∙ u) o1))) where
          low : Stands first j zero → other v ≤ j
          low (inl e) = omega (arith, e, u)
          low (inr e) = omega (arith, e.1, u)

          low' : Stands first j zero → first ≤ suc j
          low' (inl e) = omega (arith, e)
          low' (inr e) = omega (arith, e.1)
    runs first (suc before) (inr e) env other w i t' g u o = absurd (omega (arith, e.0))
    runs first (suc before) (inl e) env other w i t' g u o =
        subst (λ (h : Bool). Same m k everything t' other (does_from s false n before more env w) ((if h then run m n p calls (statements l t q).code other (ticked (at i w)) else At Next other (ticked (at i w))) ▷ run m n p calls (arms_from l place v (suc j) more (statements l t q).next).code)) (sym (ap not (below_so j (other v) (omega (arith, e, u)))))
        (second.1 first before (inl (omega (arith, e))) env other w (i + 1) t' g u (omega (arith, o)))

  -- a switch, where its arms are done right
  abbrev pub SwitchesDo : Type 0
  SwitchesDo = (place : Place) (e : Expression) (arms : Arms) → IsIn m e → ArmsDo arms → (q : ℕ) → m ≤ q →
      DoesIt 0 0 q q ((ways l e).value nowhere q ≫ λ x n. switch place x n (arm_with None 0 arms (count_arms arms)) (search place x n 0 arms) (arms_continue arms) (arms_from l place n 0 arms (n + 2)))
      (λ env w. left (value s e env (with_work (suc (count_labels arms)) w) ⊳ λ x. does_from s false n (first_arm x arms) arms))

  module _ (prints_do : PrintsDo) (initialises_do : InitialisesDo) (switches_do : SwitchesDo) where
    value_then : (place : Place) (e : Expression) (k : Statements) → IsIn m e → Claim k → (q : ℕ) → m ≤ q → DoesIt 0 0 q q (statements l (tree.Return place (Some e) k) q) (does s false n (tree.Return place (Some e) k))
    value_then place e k h hk q j =
        value_does m n p calls 0 11 0 q q q (λ x n. emit (one place (Return x)) n ≫ λ x. statements l k) (λ env w. value s e env (ticked w)) (λ x env w. At Returns (put true 0 x env) w) (omega arith)
        (paid m n p calls 0 2 q (let f = faithful m n s l p calls places called e h in f.value nowhere q j))
        (λ o r z. (
          (let c = hk o (omega (arith, j, r)) in c.grows),
          λ y env other w i t g u v.
              subst (λ x. Same m q everything (t + 0) other (At Returns (put true 0 x env) w) (At Returns (put true 0 (held ((ways l e).value nowhere q).given other) other) (at (i + 1) w))) u
              (Goes Returns (put true 0 (held ((ways l e).value nowhere q).given other) env) (put true 0 (held ((ways l e).value nowhere q).given other) other) w (i + 1) (agree_both m n p calls nowhere 0 _ env other g) (kept_zero _ q other) (omega (arith, v))),
        ))

    mutual
      pub statements_do : (t : Statements) → AreStatementsIn m t → Claim t
      statements_do tree.Done h q j = skip_does m n p calls q q
      statements_do (tree.Evaluate place e k) h q j =
          then_rest q _ (λ env w. value s e env w ⊳ λ x. At Next) k j (cheaper_does m n p calls 0 2 q q 7 0 q _ (λ env w. value s e env w ⊳ λ x. At Next) (omega arith) (omega arith) (omega arith) (effect_does e h.0 q j)) (statements_do k h.1)
      statements_do (tree.Initialise place offset size items k) h q j =
          then_rest q _ (λ env w. cleared size (plus w.frame offset) env w ▷ settled s items) k j (initialises_do place offset size items h.1 h.2 q j) (statements_do k h.3)
      statements_do (tree.Print place xs ps k) h q j =
          then_rest q _ (λ env w. values s xs env w ⊳ shown ps) k j (prints_do place xs ps h.0 q j) (statements_do k h.1)
      statements_do (tree.If place e t u k) h q j =
          then_rest q _ (λ env w. value s e env w ⊳ λ x env w. if nat_eq x 0 then does s false n u env w else does s false n t env w) k j
          (branches_do m n p calls place (statements l t) (statements l u) (does s false n t) (does s false n u) (value s e) 7 8 0 q q q (omega arith)
          (spared m n p calls 7 0 2 q (let f = faithful m n s l p calls places called e h.0 in f.condition nowhere q j))
          (λ o r. rest 8 q o t r j (statements_do t h.1)) (λ o r. rest 8 q o u r j (statements_do u h.2))) (statements_do k h.3)
      statements_do (tree.Loop place test body step k) h q j =
          then_rest q _ (λ env w. looped false (tested s test) (does s false n body) (evaluated s step) n env w) k j
          (headed_does q place (λ o. leave_unless_some l place test o ≫ λ x. statements l body) (effect_of_some l step) (tested s test) (does s false n body) (evaluated s step) j
          (λ o r. then_does m n p calls 8 8 0 o o _ (statements l body) (tested s test) (does s false n body) (omega arith) (spared_does m n p calls 8 0 0 o o _ (tested s test) (leave_some place test h.0 o (omega (arith, j, r)))) (λ v u. rest 8 o v body u (omega (arith, j, r)) (statements_do body h.1)))
          (λ o v r u. cheaper_does m n p calls 0 0 v v 0 0 o _ (evaluated s step) (omega arith) (omega arith) u (effect_some step h.2 v (omega (arith, j, r, u))))) (statements_do k h.3)
      statements_do (tree.Do place body test k) h q j =
          then_rest q _ (λ env w. looped false (At Next) (does s false n body) (tested s (Some test)) n env w) k j
          (headed_does q place (statements l body) (leave_unless l place test) (At Next) (does s false n body) (tested s (Some test)) j
          (λ o r. rest 8 o o body (omega arith) (omega (arith, j, r)) (statements_do body h.0))
          (λ o v r u. cheaper_does m n p calls 0 0 v v 0 0 o _ (tested s (Some test)) (omega arith) (omega arith) u (leave_does place test h.1 v (omega (arith, j, r, u))))) (statements_do k h.2)
      statements_do (tree.Switch place e arms k) h q j =
          then_does m n p calls 0 0 0 q q _ (statements l k) (λ env w. left (value s e env (with_work (suc (count_labels arms)) w) ⊳ λ x. does_from s false n (first_arm x arms) arms)) (does s false n k) (omega arith)
          (switches_do place e arms h.0 (arms_do arms h.2) q j) (λ o r. rest 0 q o k r j (statements_do k h.3))
      statements_do (tree.Break place k) h q j =
          told (λ env w. At Leaves env (ticked w) ▷ does s false n k) (λ env w. At Leaves env (ticked w)) (λ env w. refl)
          (then_rest q _ (At Leaves) k j (cheaper_does m n p calls 1 0 q q 7 0 q _ (At Leaves) (omega arith) (omega arith) (omega arith) (break_does q q place)) (statements_do k h))
      statements_do (tree.Continue place k) h q j =
          told (λ env w. At Skips env (ticked w) ▷ does s false n k) (λ env w. At Skips env (ticked w)) (λ env w. refl)
          (then_rest q _ (At Skips) k j (continue_does q place) (statements_do k h))
      statements_do (tree.Return place None k) h q j =
          told (λ env w. At Returns (put true 0 0 env) (ticked w) ▷ does s false n k) (λ env w. At Returns (put true 0 0 env) (ticked w)) (λ env w. refl)
          (then_rest q _ (λ env. At Returns (put true 0 0 env)) k j (return_does q place) (statements_do k h.1))
      statements_do (tree.Return place (Some e) k) h q j = value_then place e k h.0 (statements_do k h.1) q j

      pub arms_do : (arms : Arms) → AreArmsIn m arms → ArmsDo arms
      arms_do tree.no_arms h = λ place v j k q lv vk kq. (omega arith, λ first before st env other w i t g u o. Goes Next env other w i g (λ x z d. refl) (omega (arith, o)))
      arms_do (tree.arm_then labels t rest') h = arm_does labels t rest' (statements_do t h.1) (arms_do rest' h.2)
