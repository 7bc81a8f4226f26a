-- Lawful trees keep to their variables, and their numbers are words.
use Rattle.std.proofs.Common.{◌≡◌, ℕ, ◌^◌, true, ◌&&◌, List, [], ◌∷◌, Option, Some, None}
use Rattle.std.specs.List.{list_all, AllByRecursion}
use Rattle.std.proofs.lemmas.Bool.{ltb-true}
use Rattle.dae_base.specs.declared.Width.{Width}
use Rattle.dae_base.specs.Words.{width_of}
use Rattle.dae_base.proofs.Laws.{and_first, and_second}
use Rattle.dae_program.specs.declared.program.FrameSlot.{FrameSlot}
use Rattle.dae_program.specs.Switches.{count_arms}
use Rattle.dae_program.specs.Lawful.{FunctionBounds, is_sound, is_sound_target, are_sound, is_sound_some, are_sound_items, are_sound_statements, are_sound_arms, is_label_word, is_sound_slot}
use Rattle.dae_program.specs.Scope.{IsIn, IsTargetIn, AreIn, IsSomeIn, AreSettingsIn, IsLabel, AreStatementsIn, AreArmsIn, AreSlotsIn}
use Rattle.dae_program.specs.Trees as tree
use Rattle.dae_program.specs.Trees.{Expression, Target, Expressions, Setting, Statements, Arms}

are_labels : (labels : List (Option ℕ)) → list_all is_label_word labels ≡ true → AllByRecursion IsLabel labels
are_labels [] h = tt
are_labels (None ∷ labels) h = (tt, are_labels labels h)
are_labels (Some k ∷ labels) h = (ltb-true k (2 ^ 32) (and_first _ _ h), are_labels labels (and_second _ _ h))

pub slots_in : (frame : ℕ) (slots : List (Option FrameSlot)) → list_all (is_sound_slot frame) slots ≡ true → AreSlotsIn slots
slots_in frame [] h = tt
slots_in frame (None ∷ slots) h = slots_in frame slots h
slots_in frame (Some slot ∷ slots) h = (ltb-true slot.offset (2 ^ 32) (and_first _ _ (and_first _ _ h)), slots_in frame slots (and_second _ _ h))

module _ (b : FunctionBounds) where
  mutual
    in_scope : (e : Expression) → is_sound b e ≡ true → IsIn b.variables e
    in_scope (tree.Number k) h = ltb-true k (2 ^ 32) h
    in_scope (tree.Address number offset) h = ltb-true offset (2 ^ 32) h
    in_scope (tree.Frame p offset) h = ltb-true offset (2 ^ 32) h
    in_scope (tree.Variable p v) h = ltb-true v b.variables h
    in_scope (tree.Read p kind checked x) h = in_scope x (and_second _ _ h)
    in_scope (tree.Convert p kind x) h = in_scope x h
    in_scope (tree.Not p x) h = in_scope x h
    in_scope (tree.Binary p operator x y) h = (in_scope x (and_first _ _ h), in_scope y (and_second _ _ h))
    in_scope (tree.Compare p comparison turned x y) h = (in_scope x (and_first _ _ h), in_scope y (and_second _ _ h))
    in_scope (tree.And p x y) h = (in_scope x (and_first _ _ h), in_scope y (and_second _ _ h))
    in_scope (tree.Or p x y) h = (in_scope x (and_first _ _ h), in_scope y (and_second _ _ h))
    in_scope (tree.Conditional p x y z) h = (in_scope x (and_first _ _ h), in_scope y (and_first _ _ (and_second _ _ h)), in_scope z (and_second _ _ (and_second _ _ h)))
    in_scope (tree.Comma x y) h = (in_scope x (and_first _ _ h), in_scope y (and_second _ _ h))
    in_scope (tree.Assign p kind t x) h = (target_in (width_of kind) t (and_first _ _ h), in_scope x (and_second _ _ h))
    in_scope (tree.Update p kind t operator x) h = (target_in (width_of kind) t (and_first _ _ h), in_scope x (and_second _ _ h))
    in_scope (tree.Step p kind t change new) h = (target_in (width_of kind) t (and_first _ _ h), ltb-true change (2 ^ 32) (and_second _ _ h))
    in_scope (tree.Call p f xs) h = all_in xs (and_second _ _ h)
    in_scope (tree.Putchar p x) h = in_scope x h
    in_scope (tree.Exit p x) h = in_scope x h
    in_scope (tree.Abort p) h = tt

    target_in : (width : Width) (t : Target) → is_sound_target b width t ≡ true → IsTargetIn b.variables t
    target_in width (tree.InVariable v) h = (ltb-true 0 v (and_first _ _ h), ltb-true v b.variables (and_second _ _ h))
    target_in width (tree.AtAddress checked x) h = in_scope x (and_second _ _ h)

    all_in : (xs : Expressions) → are_sound b xs ≡ true → AreIn b.variables xs
    all_in tree.no_expressions h = tt
    all_in (tree.expression_then x xs) h = (in_scope x (and_first _ _ h), all_in xs (and_second _ _ h))

  some_in : (x : Option Expression) → is_sound_some b x ≡ true → IsSomeIn b.variables x
  some_in None h = tt
  some_in (Some x) h = in_scope x h

  items_in : (items : List Setting) → are_sound_items b items ≡ true → AreSettingsIn b.variables items
  items_in [] h = tt
  items_in (item ∷ items) h = (ltb-true item.offset (2 ^ 32) (and_first _ _ (and_first _ _ h)), in_scope item.value (and_first _ _ (and_second _ _ h)), items_in items (and_second _ _ (and_second _ _ h)))

  mutual
    pub statements_in : (t : Statements) → are_sound_statements b t ≡ true → AreStatementsIn b.variables t
    statements_in tree.Done h = tt
    statements_in (tree.Evaluate p x k) h = (in_scope x (and_first _ _ h), statements_in k (and_second _ _ h))
    statements_in (tree.Initialise p offset size items k) h = (ltb-true offset (2 ^ 32) (and_first _ _ (and_first _ _ (and_first _ _ h))), ltb-true size (2 ^ 32) (and_second _ _ (and_first _ _ (and_first _ _ h))), items_in items (and_first _ _ (and_second _ _ h)), statements_in k (and_second _ _ (and_second _ _ h)))
    statements_in (tree.Print p xs pieces k) h = (all_in xs (and_first _ _ h), statements_in k (and_second _ _ h))
    statements_in (tree.If p x t u k) h =
        let more = and_second (is_sound b x) (are_sound_statements b t && (are_sound_statements b u && are_sound_statements b k)) h in
        let last = and_second (are_sound_statements b t) (are_sound_statements b u && are_sound_statements b k) more in
        (in_scope x (and_first _ _ h), statements_in t (and_first _ _ more), statements_in u (and_first _ _ last), statements_in k (and_second _ _ last))
    statements_in (tree.Loop p e body step k) h =
        let more = and_second (is_sound_some b e) (are_sound_statements b body && (is_sound_some b step && are_sound_statements b k)) h in
        let last = and_second (are_sound_statements b body) (is_sound_some b step && are_sound_statements b k) more in
        (some_in e (and_first _ _ h), statements_in body (and_first _ _ more), some_in step (and_first _ _ last), statements_in k (and_second _ _ last))
    statements_in (tree.Do p body x k) h = (statements_in body (and_first _ _ h), in_scope x (and_first _ _ (and_second _ _ h)), statements_in k (and_second _ _ (and_second _ _ h)))
    statements_in (tree.Switch p x arms k) h = (in_scope x (and_first _ _ (and_first _ _ h)), ltb-true (count_arms arms) (2 ^ 32) (and_second _ _ (and_first _ _ h)), arms_in arms (and_first _ _ (and_second _ _ h)), statements_in k (and_second _ _ (and_second _ _ h)))
    statements_in (tree.Break p k) h = statements_in k h
    statements_in (tree.Continue p k) h = statements_in k h
    statements_in (tree.Return p x k) h = (some_in x (and_first _ _ h), statements_in k (and_second _ _ h))

    arms_in : (arms : Arms) → are_sound_arms b arms ≡ true → AreArmsIn b.variables arms
    arms_in tree.no_arms h = tt
    arms_in (tree.arm_then labels t rest) h = (are_labels labels (and_first _ _ h), statements_in t (and_first _ _ (and_second _ _ h)), arms_in rest (and_second _ _ (and_second _ _ h)))
