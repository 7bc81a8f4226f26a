-- The objects of lawful trees lie in memory.
use Rattle.std.proofs.Common.{◌≡◌, ℕ, ◌≤◌, Bool, true, false, ◌&&◌, List, [], ◌∷◌, Option, Some, None, refl, ap, sym, ◌∙◌, subst}
use Rattle.std.specs.List.{list_all}
use Rattle.std.proofs.lemmas.Bool.{leb-true, eqb-true}
use Rattle.dae_base.specs.declared.Width.{Width}
use Rattle.dae_base.specs.Words.{plus, size, width_of}
use Rattle.dae_base.proofs.Laws.{and_first, and_second}
use Rattle.dae_meaning.specs.Operations.{combined}
use Rattle.dae_meaning.specs.declared.Operator.{Operator}
use Rattle.dae_meaning.specs.declared.Operator.TheVariants.{Add, Subtract, Multiply, DivideSigned, DivideUnsigned, RemainderSigned, RemainderUnsigned, And, Or, Xor, ShiftLeft, ShiftRightSigned, ShiftRightUnsigned}
use Rattle.dae_program.specs.declared.program.FrameSlot.{FrameSlot}
use Rattle.dae_program.specs.Lawful.{FunctionBounds, is_good, fits_frame, adds, number_of, if_number, is_named, is_checked_or_named, is_sound, is_sound_target, are_sound, is_sound_some, are_sound_items, are_sound_statements, are_sound_arms, is_sound_slot}
use Rattle.dae_program.specs.Placed.{IsGood, IsInFrame, IsNamed, IsTested, IsPlaced, IsTargetPlaced, ArePlaced, IsSomePlaced, AreSettingsPlaced, AreSlotsPlaced, AreStatementsPlaced, AreArmsPlaced}
use Rattle.dae_program.specs.Trees as tree
use Rattle.dae_program.specs.Trees.{Expression, Target, Expressions, Setting, Statements, Arms}
use Rattle.dae_program.proofs.Numbers.{plus_plus, plus_zero, in_frame_by_numbers, aggregate_by_numbers}

-- ---- sums with a number

adds_is : (operator : Operator) → adds operator ≡ true → (x y : ℕ) → combined operator x y ≡ plus x y
unfolding combined
adds_is Add h x y = refl
adds_is Subtract h x y = absurd (let c : false ≡ true = h in cc)
adds_is Multiply h x y = absurd (let c : false ≡ true = h in cc)
adds_is DivideSigned h x y = absurd (let c : false ≡ true = h in cc)
adds_is DivideUnsigned h x y = absurd (let c : false ≡ true = h in cc)
adds_is RemainderSigned h x y = absurd (let c : false ≡ true = h in cc)
adds_is RemainderUnsigned h x y = absurd (let c : false ≡ true = h in cc)
adds_is And h x y = absurd (let c : false ≡ true = h in cc)
adds_is Or h x y = absurd (let c : false ≡ true = h in cc)
adds_is Xor h x y = absurd (let c : false ≡ true = h in cc)
adds_is ShiftLeft h x y = absurd (let c : false ≡ true = h in cc)
adds_is ShiftRightSigned h x y = absurd (let c : false ≡ true = h in cc)
adds_is ShiftRightUnsigned h x y = absurd (let c : false ≡ true = h in cc)

is_some_number : (e : Expression) (test : ℕ → Bool) → if_number (number_of e) test ≡ true → (j : ℕ) × (e ≡ tree.Number j) × (test j ≡ true)
is_some_number (tree.Number j) test h = (j, refl, h)
is_some_number (tree.Address number offset) test h = absurd (let c : false ≡ true = h in cc)
is_some_number (tree.Frame p offset) test h = absurd (let c : false ≡ true = h in cc)
is_some_number (tree.Variable p v) test h = absurd (let c : false ≡ true = h in cc)
is_some_number (tree.Read p kind checked x) test h = absurd (let c : false ≡ true = h in cc)
is_some_number (tree.Convert p kind x) test h = absurd (let c : false ≡ true = h in cc)
is_some_number (tree.Not p x) test h = absurd (let c : false ≡ true = h in cc)
is_some_number (tree.Binary p operator x y) test h = absurd (let c : false ≡ true = h in cc)
is_some_number (tree.Compare p comparison turned x y) test h = absurd (let c : false ≡ true = h in cc)
is_some_number (tree.And p x y) test h = absurd (let c : false ≡ true = h in cc)
is_some_number (tree.Or p x y) test h = absurd (let c : false ≡ true = h in cc)
is_some_number (tree.Conditional p x y z) test h = absurd (let c : false ≡ true = h in cc)
is_some_number (tree.Comma x y) test h = absurd (let c : false ≡ true = h in cc)
is_some_number (tree.Assign p kind t x) test h = absurd (let c : false ≡ true = h in cc)
is_some_number (tree.Update p kind t operator x) test h = absurd (let c : false ≡ true = h in cc)
is_some_number (tree.Step p kind t change new) test h = absurd (let c : false ≡ true = h in cc)
is_some_number (tree.Call p f xs) test h = absurd (let c : false ≡ true = h in cc)
is_some_number (tree.Putchar p x) test h = absurd (let c : false ≡ true = h in cc)
is_some_number (tree.Exit p x) test h = absurd (let c : false ≡ true = h in cc)
is_some_number (tree.Abort p) test h = absurd (let c : false ≡ true = h in cc)

good : (width : Width) (x memory : ℕ) → is_good width x memory ≡ true → IsGood width x memory
good width x memory h = (eqb-true _ 0 (and_first _ _ h), leb-true 16 x (and_first _ _ (and_second _ _ h)), leb-true _ memory (and_second _ _ (and_second _ _ h)))

-- in a memory that isn't longer than addresses reach
module _ (b : FunctionBounds) (small : b.memory ≤ 4294967296) where
  in_frame : (width : Width) (offset : ℕ) → fits_frame width offset b.frame ≡ true → IsInFrame b.memory b.frame width offset
  in_frame width offset h = in_frame_by_numbers b.memory b.frame width offset small (eqb-true _ 0 (and_first _ _ h)) (leb-true _ b.frame (and_second _ _ h))

  pub slots_placed : (slots : List (Option FrameSlot)) → list_all (is_sound_slot b.frame) slots ≡ true → AreSlotsPlaced b.address b.memory b.frame slots
  slots_placed [] h = tt
  slots_placed (None ∷ slots) h = slots_placed slots h
  slots_placed (Some slot ∷ slots) h = (in_frame slot.width slot.offset (and_second _ _ (and_first _ _ h)), slots_placed slots (and_second _ _ h))

  -- g adds k
  abbrev AddsNumber : ℕ → (ℕ → ℕ) → Type 0
  AddsNumber k g = (x y : ℕ) → g (plus x y) ≡ plus x (plus y k)

  one_more : (operator : Operator) (k j : ℕ) (g : ℕ → ℕ) → adds operator ≡ true → AddsNumber k g → AddsNumber (plus j k) (λ x. g (combined operator x j))
  one_more operator k j g a h x y = ap g (adds_is operator a (plus x y) j ∙ plus_plus x y j) ∙ (h x (plus y j) ∙ ap (plus x) (plus_plus y j k))

  named : (width : Width) (k : ℕ) (e : Expression) → is_named b width k e ≡ true → (g : ℕ → ℕ) → AddsNumber k g → IsNamed b.address b.memory b.frame width g e
  named width k (tree.Address number offset) h g a = subst (λ (x : ℕ). IsGood width x b.memory) (sym (a (b.address number) offset)) (good width _ b.memory h)
  named width k (tree.Frame p offset) h g a = λ top f. subst (λ (x : ℕ). IsGood width x b.memory) (sym (a top offset)) (in_frame width (plus offset k) h top f)
  named width k (tree.Binary p operator x y) h g a =
      let n = is_some_number y (λ j. is_named b width (plus j k) x) (and_second _ _ h) in
      (n.0, n.1, named width (plus n.0 k) x n.2 (λ z. g (combined operator z n.0)) (one_more operator k n.0 g (and_first _ _ h) a))
  named width k (tree.Conditional p x y z) h g a = (named width k y (and_first _ _ h) g a, named width k z (and_second _ _ h) g a)
  named width k (tree.Comma x y) h g a = named width k y h g a
  named width k (tree.Number j) h g a = absurd (let c : false ≡ true = h in cc)
  named width k (tree.Variable p v) h g a = absurd (let c : false ≡ true = h in cc)
  named width k (tree.Read p kind checked x) h g a = absurd (let c : false ≡ true = h in cc)
  named width k (tree.Convert p kind x) h g a = absurd (let c : false ≡ true = h in cc)
  named width k (tree.Not p x) h g a = absurd (let c : false ≡ true = h in cc)
  named width k (tree.Compare p comparison turned x y) h g a = absurd (let c : false ≡ true = h in cc)
  named width k (tree.And p x y) h g a = absurd (let c : false ≡ true = h in cc)
  named width k (tree.Or p x y) h g a = absurd (let c : false ≡ true = h in cc)
  named width k (tree.Assign p kind t x) h g a = absurd (let c : false ≡ true = h in cc)
  named width k (tree.Update p kind t operator x) h g a = absurd (let c : false ≡ true = h in cc)
  named width k (tree.Step p kind t change new) h g a = absurd (let c : false ≡ true = h in cc)
  named width k (tree.Call p f xs) h g a = absurd (let c : false ≡ true = h in cc)
  named width k (tree.Putchar p x) h g a = absurd (let c : false ≡ true = h in cc)
  named width k (tree.Exit p x) h g a = absurd (let c : false ≡ true = h in cc)
  named width k (tree.Abort p) h g a = absurd (let c : false ≡ true = h in cc)

  checked_or_named : (checked : Bool) (width : Width) (e : Expression) → is_checked_or_named b checked width e ≡ true → IsTested b.address b.memory b.frame checked width e
  checked_or_named true width e h = tt
  checked_or_named false width e h = named width 0 e h (λ x. x) plus_zero

  mutual
    placed : (e : Expression) → is_sound b e ≡ true → IsPlaced b.address b.memory b.frame e
    placed (tree.Number k) h = tt
    placed (tree.Address number offset) h = tt
    placed (tree.Frame p offset) h = tt
    placed (tree.Variable p v) h = tt
    placed (tree.Read p kind checked x) h = (checked_or_named checked (width_of kind) x (and_first _ _ h), placed x (and_second _ _ h))
    placed (tree.Convert p kind x) h = placed x h
    placed (tree.Not p x) h = placed x h
    placed (tree.Binary p operator x y) h = (placed x (and_first _ _ h), placed y (and_second _ _ h))
    placed (tree.Compare p comparison turned x y) h = (placed x (and_first _ _ h), placed y (and_second _ _ h))
    placed (tree.And p x y) h = (placed x (and_first _ _ h), placed y (and_second _ _ h))
    placed (tree.Or p x y) h = (placed x (and_first _ _ h), placed y (and_second _ _ h))
    placed (tree.Conditional p x y z) h = (placed x (and_first _ _ h), placed y (and_first _ _ (and_second _ _ h)), placed z (and_second _ _ (and_second _ _ h)))
    placed (tree.Comma x y) h = (placed x (and_first _ _ h), placed y (and_second _ _ h))
    placed (tree.Assign p kind t x) h = (target_placed (width_of kind) t (and_first _ _ h), placed x (and_second _ _ h))
    placed (tree.Update p kind t operator x) h = (target_placed (width_of kind) t (and_first _ _ h), placed x (and_second _ _ h))
    placed (tree.Step p kind t change new) h = target_placed (width_of kind) t (and_first _ _ h)
    placed (tree.Call p f xs) h = all_placed xs (and_second _ _ h)
    placed (tree.Putchar p x) h = placed x h
    placed (tree.Exit p x) h = placed x h
    placed (tree.Abort p) h = tt

    target_placed : (width : Width) (t : Target) → is_sound_target b width t ≡ true → IsTargetPlaced b.address b.memory b.frame width t
    target_placed width (tree.InVariable v) h = tt
    target_placed width (tree.AtAddress checked x) h = (checked_or_named checked width x (and_first _ _ h), placed x (and_second _ _ h))

    all_placed : (xs : Expressions) → are_sound b xs ≡ true → ArePlaced b.address b.memory b.frame xs
    all_placed tree.no_expressions h = tt
    all_placed (tree.expression_then x xs) h = (placed x (and_first _ _ h), all_placed xs (and_second _ _ h))

  some_placed : (x : Option Expression) → is_sound_some b x ≡ true → IsSomePlaced b.address b.memory b.frame x
  some_placed None h = tt
  some_placed (Some x) h = placed x h

  items_placed : (items : List Setting) → are_sound_items b items ≡ true → AreSettingsPlaced b.address b.memory b.frame items
  items_placed [] h = tt
  items_placed (item ∷ items) h = (in_frame item.width item.offset (and_second _ _ (and_first _ _ h)), placed item.value (and_first _ _ (and_second _ _ h)), items_placed items (and_second _ _ (and_second _ _ h)))

  mutual
    pub statements_placed : (t : Statements) → are_sound_statements b t ≡ true → AreStatementsPlaced b.address b.memory b.frame t
    statements_placed tree.Done h = tt
    statements_placed (tree.Evaluate p x k) h = (placed x (and_first _ _ h), statements_placed k (and_second _ _ h))
    statements_placed (tree.Initialise p offset size items k) h = (aggregate_by_numbers b.memory b.frame size offset small (leb-true _ b.frame (and_second _ _ (and_first _ _ h))), items_placed items (and_first _ _ (and_second _ _ h)), statements_placed k (and_second _ _ (and_second _ _ h)))
    statements_placed (tree.Print p xs pieces k) h = (all_placed xs (and_first _ _ h), statements_placed k (and_second _ _ h))
    statements_placed (tree.If p x t u k) h =
        let more = and_second (is_sound b x) (are_sound_statements b t && (are_sound_statements b u && are_sound_statements b k)) h in
        let last = and_second (are_sound_statements b t) (are_sound_statements b u && are_sound_statements b k) more in
        (placed x (and_first _ _ h), statements_placed t (and_first _ _ more), statements_placed u (and_first _ _ last), statements_placed k (and_second _ _ last))
    statements_placed (tree.Loop p e body step k) h =
        let more = and_second (is_sound_some b e) (are_sound_statements b body && (is_sound_some b step && are_sound_statements b k)) h in
        let last = and_second (are_sound_statements b body) (is_sound_some b step && are_sound_statements b k) more in
        (some_placed e (and_first _ _ h), statements_placed body (and_first _ _ more), some_placed step (and_first _ _ last), statements_placed k (and_second _ _ last))
    statements_placed (tree.Do p body x k) h = (statements_placed body (and_first _ _ h), placed x (and_first _ _ (and_second _ _ h)), statements_placed k (and_second _ _ (and_second _ _ h)))
    statements_placed (tree.Switch p x arms k) h = (placed x (and_first _ _ (and_first _ _ h)), arms_placed arms (and_first _ _ (and_second _ _ h)), statements_placed k (and_second _ _ (and_second _ _ h)))
    statements_placed (tree.Break p k) h = statements_placed k h
    statements_placed (tree.Continue p k) h = statements_placed k h
    statements_placed (tree.Return p x k) h = (some_placed x (and_first _ _ h), statements_placed k (and_second _ _ h))

    arms_placed : (arms : Arms) → are_sound_arms b arms ≡ true → AreArmsPlaced b.address b.memory b.frame arms
    arms_placed tree.no_arms h = tt
    arms_placed (tree.arm_then labels t rest) h = (statements_placed t (and_first _ _ (and_second _ _ h)), arms_placed rest (and_second _ _ (and_second _ _ h)))
