-- Statements make good code.
use Rattle.std.proofs.Common.{◌≡◌, ℕ, suc, ◌+◌, ◌<◌, ◌≤◌, ◌^◌, ◌⊎◌, inl, inr, Bool, true, false, ◌&&◌, ◌||◌, List, [], ◌∷◌, Option, Some, None, refl, arith}
use Rattle.std.proofs.lemmas.Bool.{or_cases, and_from, ltb-true}
use Rattle.dae_base.specs.declared.Place.{Place}
use Rattle.dae_base.proofs.Laws.{and_first, and_second}
use Rattle.dae_ir.specs.Code.{Done, Do, If}
use Rattle.dae_ir.specs.Classes.{VariableSet, IsWithin}
use Rattle.dae_ir.specs.SetFirst.{form_flow, assured, with_set, all_set}
use Rattle.dae_ir.specs.declared.form.Function.{Function}
use Rattle.dae_ir.specs.declared.form.Item.TheVariants.{Assign, Store, Break, Continue, Return}
use Rattle.dae_ir.specs.declared.form.Operand.{Operand}
use Rattle.dae_ir.specs.declared.form.Operand.TheVariants.{Variable, Number}
use Rattle.dae_ir.specs.declared.form.Value.TheVariants.{FrameAddress}
use Rattle.dae_meaning.specs.declared.Comparison.TheVariants.{AtLeastUnsigned}
use Rattle.dae_program.specs.Lawful.{FunctionBounds, is_sound, is_sound_some, are_sound_items, are_sound_statements, are_sound_arms, are_inside, are_arms_inside}
use Rattle.dae_program.specs.Switches.{arm_with, count_arms}
use Rattle.dae_program.specs.Trees as tree
use Rattle.dae_program.specs.Trees.{Expression, Setting, Statements, Arms}
use Rattle.dae_lower.specs.Lowering.{Made, ◌≫◌, emit, one, nowhere, test_of, Links, leave_unless, leave_unless_some, effect_of_some, prints, settings, continues, arms_continue, search, switch, statements, arms_from}
use Rattle.dae_lower_formed.specs.Bytes.{PrintBytes, ArmsPrintBytes}
use Rattle.dae_program.specs.SetFirst.{both, set_behind, set_behind_all, set_behind_some, reads_set, some_reads_set, set_behind_items, items_read_set, set_behind_statements, statements_read_set, arms_read_set}
use Rattle.dae_lower_formed.proofs.Good.{set_here, set_on, assured_grows}
use Rattle.dae_lower_formed.proofs.Makes.{OperandFits, Anything, operand_still, Makes, chain, weaker, sooner, nothing_makes, item_makes, branches_make}
use Rattle.dae_lower_formed.proofs.Expressions.{FindsFunctions, expression_makes, operands_make}
use Rattle.dae_lower_formed.proofs.Pieces.{headed_makes, prints_make, zeros_make}
use Rattle.dae_lower_formed.proofs.Switching.{AreLabelWords, switch_makes}

-- counted from 0
less_so : (n : ℕ) → n < 2 ^ 32 → 0 + n < 2 ^ 32
less_so n h = omega (arith, h)

-- where a statement continues a loop round it, it may
mutual
  continues_may : (t : Statements) (breaks may returns : Bool) → are_inside breaks may returns t ≡ true → continues t ≡ true → may ≡ true
  continues_may tree.Done breaks may returns h g = absurd (let c : false ≡ true = g in cc)
  continues_may (tree.Evaluate p e k) breaks may returns h g = continues_may k breaks may returns h g
  continues_may (tree.Initialise p offset size items k) breaks may returns h g = continues_may k breaks may returns h g
  continues_may (tree.Print p xs pieces k) breaks may returns h g = continues_may k breaks may returns h g
  continues_may (tree.If p e t u k) breaks may returns h g =
      by (or_cases (continues t) (continues u || continues k) g) (continues_may t breaks may returns (and_first _ _ h)) (continues_may u breaks may returns (and_first _ _ (and_second _ _ h))) (continues_may k breaks may returns (and_second _ _ (and_second _ _ h))) where
        by : (continues t ≡ true) ⊎ ((continues u || continues k) ≡ true) → (continues t ≡ true → may ≡ true) → (continues u ≡ true → may ≡ true) → (continues k ≡ true → may ≡ true) → may ≡ true
        by (inl a) x y z = x a
        by (inr a) x y z = behind (or_cases (continues u) (continues k) a) where
          behind : (continues u ≡ true) ⊎ (continues k ≡ true) → may ≡ true
          behind (inl b) = y b
          behind (inr b) = z b
  continues_may (tree.Loop p test body step k) breaks may returns h g = continues_may k breaks may returns (and_second _ _ h) g
  continues_may (tree.Do p body test k) breaks may returns h g = continues_may k breaks may returns (and_second _ _ h) g
  continues_may (tree.Switch p e arms k) breaks may returns h g =
      by (or_cases (arms_continue arms) (continues k) g) (arms_may arms may returns (and_first _ _ h)) (continues_may k breaks may returns (and_second _ _ h)) where
        by : (arms_continue arms ≡ true) ⊎ (continues k ≡ true) → (arms_continue arms ≡ true → may ≡ true) → (continues k ≡ true → may ≡ true) → may ≡ true
        by (inl a) x y = x a
        by (inr a) x y = y a
  continues_may (tree.Break p k) breaks may returns h g = continues_may k breaks may returns (and_second _ _ h) g
  continues_may (tree.Continue p k) breaks may returns h g = and_first _ _ h
  continues_may (tree.Return p e k) breaks may returns h g = continues_may k breaks may returns (and_second _ _ h) g

  pub arms_may : (arms : Arms) (may returns : Bool) → are_arms_inside may returns arms ≡ true → arms_continue arms ≡ true → may ≡ true
  arms_may tree.no_arms may returns h g = absurd (let c : false ≡ true = g in cc)
  arms_may (tree.arm_then labels t rest) may returns h g =
      by (or_cases (continues t) (arms_continue rest) g) (continues_may t true may returns (and_first _ _ h)) (arms_may rest may returns (and_second _ _ h)) where
        by : (continues t ≡ true) ⊎ (arms_continue rest ≡ true) → (continues t ≡ true → may ≡ true) → (arms_continue rest ≡ true → may ≡ true) → may ≡ true
        by (inl a) x y = x a
        by (inr a) x y = y a

module _ (functions : List Function) (b : FunctionBounds) (some : 0 < b.variables) (l : Links) (finds : FindsFunctions functions b l) where
  label_words : (arms : Arms) → are_sound_arms b arms ≡ true → AreLabelWords arms
  label_words tree.no_arms h = tt
  label_words (tree.arm_then labels t rest) h = (and_first _ _ h, label_words rest (and_second _ _ (and_second _ _ h)))

  leave_makes : (r : Bool) (d : VariableSet) (p : Place) (e : Expression) → is_sound b e ≡ true → reads_set d e ≡ true → (n : ℕ) (s : VariableSet) → b.variables ≤ n → IsWithin d s → Makes functions true r Anything n s (set_behind d e) (leave_unless l p e n)
  leave_makes r d p e h g n s j w =
      weaker functions (set_behind d e) (λ v z. and_from (set_behind d e v) true z refl) (branches_make functions p _ _ j ((expression_makes functions b some l finds d e h g).condition true r nowhere n s j w)
      (λ q f k o t u. nothing_makes functions tt u tt)
      (λ q f k o t u. item_makes functions p Break (λ v z. z) (refl, tt, tt)))

  leave_some_makes : (r : Bool) (d : VariableSet) (p : Place) (e : Option Expression) → is_sound_some b e ≡ true → some_reads_set d e ≡ true → (n : ℕ) (s : VariableSet) → b.variables ≤ n → IsWithin d s → Makes functions true r Anything n s (set_behind_some d e) (leave_unless_some l p e n)
  leave_some_makes r d p None h g n s j w = nothing_makes functions tt w tt
  leave_some_makes r d p (Some e) h g n s j w = leave_makes r d p e h g n s j w

  effect_some_makes : (r : Bool) (d : VariableSet) (e : Option Expression) → is_sound_some b e ≡ true → some_reads_set d e ≡ true → (n : ℕ) (s : VariableSet) → b.variables ≤ n → IsWithin d s → Makes functions true r Anything n s (set_behind_some d e) (effect_of_some l e n)
  effect_some_makes r d None h g n s j w = nothing_makes functions tt w tt
  effect_some_makes r d (Some e) h g n s j w = (expression_makes functions b some l finds d e h g).effect true r nowhere n s j w

  items_make : (i r : Bool) (d : VariableSet) (p : Place) (v : ℕ) (items : List Setting) → are_sound_items b items ≡ true → items_read_set d items ≡ true → (n : ℕ) (s : VariableSet) → b.variables ≤ v → v < n → IsWithin d s → Makes functions i r Anything n s (set_behind_items d items) (settings l p v items n)
  items_make i r d p v [] h g n s j o w = nothing_makes functions tt w tt
  items_make i r d p v (item ∷ items) h g n s j o w =
      chain functions (λ y n. emit (Do p (Assign v (FrameAddress item.offset)) (one p (Store item.width (Variable v) y))) n ≫ λ x. settings l p v items) (let m : b.variables ≤ n = omega (arith, j, o) in m) ((expression_makes functions b some l finds d item.value (and_first _ _ (and_second _ _ h)) (and_first _ _ g)).value i r nowhere n s (omega (arith, j, o)) w)
      (λ q e y k t z u x. chain functions (λ x. settings l p v items) k (placed q e y (omega (arith, o, t)) u x)
      (λ q2 e2 y2 k2 t2 z2 u2 x2. items_make i r (set_behind d item.value) p v items (and_second _ _ (and_second _ _ h)) (and_second _ _ g) q2 e2 j (omega (arith, o, t, t2)) u2)) where
        placed : (q : ℕ) (e : VariableSet) (y : Operand) → v < q → IsWithin (set_behind d item.value) e → OperandFits q e y → Makes functions i r Anything q e (set_behind d item.value) (emit (Do p (Assign v (FrameAddress item.offset)) (one p (Store item.width (Variable v) y))) q)
        placed q e y o u x = record {
          grows = omega arith;
          good = ((refl, ((omega (arith, some, j), o), ltb-true item.offset (2 ^ 32) (and_first _ _ (and_first _ _ h))), refl), ((refl, (o, x.0), (set_here v e, (operand_still q q e (with_set v e) (omega arith) (set_on v e) y x).1)), tt));
          sets = λ v' z. set_on v e v' (u v' z);
          given = tt;
        }

  mutual
    -- Breaks and continues may stand where their flags say so, in a loop of the form.
    pub statements_make : (d : VariableSet) (t : Statements) (i breaks may r : Bool) → (breaks ≡ true → i ≡ true) → (may ≡ true → i ≡ true) → are_sound_statements b t ≡ true → are_inside breaks may r t ≡ true → PrintBytes t → statements_read_set d t ≡ true →
        (n : ℕ) (s : VariableSet) → b.variables ≤ n → IsWithin d s → Makes functions i r Anything n s (set_behind_statements d t) (statements l t n)
    statements_make d tree.Done i breaks may r hb hm h f y g n s j w = nothing_makes functions tt w tt
    statements_make d (tree.Evaluate p e k) i breaks may r hb hm h f y g n s j w =
        chain functions (λ x. statements l k) j ((expression_makes functions b some l finds d e (and_first _ _ h) (and_first _ _ g)).effect i r nowhere n s j w)
        (λ q v x o t z u a. statements_make (set_behind d e) k i breaks may r hb hm (and_second _ _ h) f y (and_second _ _ g) q v o u)
    statements_make d (tree.Initialise p offset size items k) i breaks may r hb hm h f y g n s j w =
        chain functions (λ x. statements l k) j
        (sooner functions n (omega arith) (chain functions (λ x. settings l p n items) (let m : b.variables ≤ n + 1 = omega (arith, j) in m) (zeros_make functions p offset size some j w (ltb-true size (2 ^ 32) (and_second _ _ (and_first _ _ (and_first _ _ h)))))
        (λ q v x o t z u a. items_make i r d p n items (and_first _ _ (and_second _ _ h)) (and_first _ _ g) q v j (omega (arith, t)) u)))
        (λ q v x o t z u a. statements_make (set_behind_items d items) k i breaks may r hb hm (and_second _ _ (and_second _ _ h)) f y (and_second _ _ g) q v o u)
    statements_make d (tree.Print p xs pieces k) i breaks may r hb hm h f y g n s j w =
        chain functions (λ x. statements l k) j
        (chain functions (prints p pieces) j (operands_make functions b some l finds d xs (and_first _ _ h) (and_first _ _ g) i r nowhere n s j w)
        (λ q v ys o t z u a. prints_make functions p pieces ys y.0 some q v o u a.0))
        (λ q v x o t z u a. statements_make (set_behind_all d xs) k i breaks may r hb hm (and_second _ _ h) f y.1 (and_second _ _ g) q v o u)
    statements_make d (tree.If p e t u k) i breaks may r hb hm h f y g n s j w =
        let c = set_behind d e in
        let more = and_second (is_sound b e) (are_sound_statements b t && (are_sound_statements b u && are_sound_statements b k)) h in
        let last = and_second (are_sound_statements b t) (are_sound_statements b u && are_sound_statements b k) more in
        chain functions (λ x. statements l k) j
        (branches_make functions p _ _ j ((expression_makes functions b some l finds d e (and_first _ _ h) (and_first _ _ (and_first _ _ g))).condition i r nowhere n s j w)
        (λ q v o a z m. statements_make c t i breaks may r hb hm (and_first _ _ more) (and_first _ _ f) y.0 (and_first _ _ (and_second _ _ (and_first _ _ g))) q v o m)
        (λ q v o a z m. statements_make c u i breaks may r hb hm (and_first _ _ last) (and_first _ _ (and_second _ _ f)) y.1 (and_second _ _ (and_second _ _ (and_first _ _ g))) q v o m))
        (λ q v x o a z m e. statements_make (both (set_behind_statements c t) (set_behind_statements c u)) k i breaks may r hb hm (and_second _ _ last) (and_second _ _ (and_second _ _ f)) y.2 (and_second _ _ g) q v o m)
    statements_make d (tree.Loop p test body step k) i breaks may r hb hm h f y g n s j w =
        let more = and_second (is_sound_some b test) (are_sound_statements b body && (is_sound_some b step && are_sound_statements b k)) h in
        let last = and_second (are_sound_statements b body) (is_sound_some b step && are_sound_statements b k) more in
        chain functions (λ x. statements l k) j
        (headed_makes functions p (λ o. leave_unless_some l p test o ≫ λ x. statements l body) (effect_of_some l step) some j w
        (λ o u a t. chain functions (λ x. statements l body) a (leave_some_makes r d p test (and_first _ _ h) (and_first _ _ (and_first _ _ g)) o u a (λ v z. t v (w v z)))
        (λ q v x o a z m e. statements_make (set_behind_some d test) body true true true r (λ x. refl) (λ x. refl) (and_first _ _ more) (and_first _ _ f) y.0 (and_first _ _ (and_second _ _ (and_first _ _ g))) q v o m))
        (λ o u a t. effect_some_makes r d step (and_first _ _ last) (and_second _ _ (and_second _ _ (and_first _ _ g))) o u a (λ v z. t v (w v z))))
        (λ q v x o a z m e. statements_make d k i breaks may r hb hm (and_second _ _ last) (and_second _ _ f) y.1 (and_second _ _ g) q v o m)
    statements_make d (tree.Do p body test k) i breaks may r hb hm h f y g n s j w =
        chain functions (λ x. statements l k) j
        (headed_makes functions p (statements l body) (leave_unless l p test) some j w
        (λ o u a t. statements_make d body true true true r (λ x. refl) (λ x. refl) (and_first _ _ h) (and_first _ _ f) y.0 (and_first _ _ (and_first _ _ g)) o u a (λ v z. t v (w v z)))
        (λ o u a t. leave_makes r d p test (and_first _ _ (and_second _ _ h)) (and_second _ _ (and_first _ _ g)) o u a (λ v z. t v (w v z))))
        (λ q v x o a z m e. statements_make d k i breaks may r hb hm (and_second _ _ (and_second _ _ h)) (and_second _ _ f) y.1 (and_second _ _ g) q v o m)
    statements_make d (tree.Switch p e arms k) i breaks may r hb hm h f y g n s j w =
        let c = set_behind d e in
        chain functions (λ x. statements l k) j
        (chain functions (λ x n. switch p x n (arm_with None 0 arms (count_arms arms)) (search p x n 0 arms) (arms_continue arms) (arms_from l p n 0 arms (n + 2))) j ((expression_makes functions b some l finds d e (and_first _ _ (and_first _ _ h)) (and_first _ _ (and_first _ _ g))).value i r nowhere n s j w)
        (λ q v x o a z m u. switch_makes functions r (arms_continue arms) (λ t. hm (arms_may arms may r (and_first _ _ f) t)) some o m p x arms (ltb-true (count_arms arms) (2 ^ 32) (and_second _ _ (and_first _ _ h))) (label_words arms (and_first _ _ (and_second _ _ h))) u (arms_from l p q 0 arms (q + 2))
        (λ v2 z2 t. arms_make c arms may r (and_first _ _ (and_second _ _ h)) (and_first _ _ f) y.0 (and_second _ _ (and_first _ _ g)) p q 0 (less_so (count_arms arms) (ltb-true (count_arms arms) (2 ^ 32) (and_second _ _ (and_first _ _ h)))) (q + 2) v2 (omega (arith, o)) (omega arith) (λ v' t'. z2 v' (m v' t')) t)))
        (λ q v x o a z m u. statements_make c k i breaks may r hb hm (and_second _ _ (and_second _ _ h)) (and_second _ _ f) y.1 (and_second _ _ g) q v o m)
    statements_make d (tree.Break p k) i breaks may r hb hm h f y g n s j w =
        chain functions (λ x. statements l k) j (item_makes functions p Break (λ v z. z) (hb (and_first _ _ f), tt, tt))
        (λ q v x o a z m u. statements_make all_set k i breaks may r hb hm h (and_second _ _ f) y g q v o m)
    statements_make d (tree.Continue p k) i breaks may r hb hm h f y g n s j w =
        chain functions (λ x. statements l k) j (item_makes functions p Continue (λ v z. z) (hm (and_first _ _ f), tt, tt))
        (λ q v x o a z m u. statements_make all_set k i breaks may r hb hm h (and_second _ _ f) y g q v o m)
    statements_make d (tree.Return p None k) i breaks may r hb hm h f y g n s j w =
        chain functions (λ x. statements l k) j (item_makes functions p (Return (Number 0)) (λ v z. z) (and_first _ _ f, omega arith, refl))
        (λ q v x o a z m u. statements_make all_set k i breaks may r hb hm h (and_second _ _ f) y g q v o m)
    statements_make d (tree.Return p (Some e) k) i breaks may r hb hm h f y g n s j w =
        chain functions (λ x n. emit (one p (Return x)) n ≫ λ x. statements l k) j ((expression_makes functions b some l finds d e (and_first _ _ h) (and_first _ _ g)).value i r nowhere n s j w)
        (λ q v x o a z m u. chain functions (λ x. statements l k) o (item_makes functions p (Return x) (λ v z. z) (and_first _ _ f, u.0, u.1))
        (λ q2 v2 x2 o2 a2 z2 m2 u2. statements_make all_set k i breaks may r hb hm (and_second _ _ h) (and_second _ _ f) y (and_second _ _ g) q2 v2 o2 m2))

    arms_make : (d : VariableSet) (arms : Arms) (may r : Bool) → are_sound_arms b arms ≡ true → are_arms_inside may r arms ≡ true → ArmsPrintBytes arms → arms_read_set d arms ≡ true → (p : Place) (v k : ℕ) → k + count_arms arms < 2 ^ 32 →
        (n : ℕ) (s : VariableSet) → b.variables ≤ n → v < n → IsWithin d s → s v ≡ true → Makes functions true r Anything n s d (arms_from l p v k arms n)
    arms_make d tree.no_arms may r h f y g p v k low n s j o w z = nothing_makes functions tt w tt
    arms_make d (tree.arm_then labels t rest) may r h f y g p v k low n s j o w z =
        chain functions (λ x. arms_from l p v (suc k) rest) j (guarded (statements l t n) (statements_make d t true true may r (λ x. refl) (λ x. refl) (and_first _ _ (and_second _ _ h)) (and_first _ _ f) y.0 (and_first _ _ g) n s j w))
        (λ q e x a c u m i. arms_make d rest may r (and_second _ _ (and_second _ _ h)) (and_second _ _ f) y.1 (and_second _ _ g) p v (suc k) (omega (arith, low)) q e a (omega (arith, o, c)) m (u v z)) where
          guarded : (made : Made (Unit {0})) → Makes functions true r Anything n s (set_behind_statements d t) made → Makes functions true r Anything n s d (emit (If p (test_of AtLeastUnsigned (Number k) (Variable v)) made.code Done Done) made.next)
          guarded made m = record {
            grows = m.grows;
            good = (((omega (arith, low), omega (arith, o, m.grows)), z), m.good, tt, tt);
            sets = λ u a. and_from (assured form_flow s made.code u) (s u) (assured_grows made.code s u (w u a)) (w u a);
            given = tt;
          }
