-- Where all variables of a function are set, each that it names is set before it is read.
use Rattle.std.proofs.Common.{◌≡◌, true, ◌&&◌, List, [], ◌∷◌, Option, Some, None, refl}
use Rattle.std.proofs.lemmas.Bool.{and_from}
use Rattle.dae_base.specs.declared.Width.{Width}
use Rattle.dae_base.specs.Words.{width_of}
use Rattle.dae_base.proofs.Laws.{and_first, and_second}
use Rattle.dae_ir.specs.Classes.{VariableSet, IsWithin}
use Rattle.dae_ir.specs.SetFirst.{all_set}
use Rattle.dae_program.specs.Lawful.{FunctionBounds, is_sound, is_sound_target, are_sound, is_sound_some, are_sound_items, are_sound_statements, are_sound_arms}
use Rattle.dae_program.specs.Trees as tree
use Rattle.dae_program.specs.Trees.{Expression, Target, Expressions, Setting, Statements, Arms}
use Rattle.dae_lower_formed.specs.Formed.{below}
use Rattle.dae_program.specs.SetFirst.{both, with_target, set_behind, set_behind_target, set_behind_all, set_behind_some, is_old_set, reads_set, reads_set_target, all_read_set, some_reads_set, set_behind_items, items_read_set, set_behind_statements, statements_read_set, arms_read_set}
use Rattle.dae_lower_formed.proofs.Good.{set_on, within_both}

-- ---- nothing that is set before is lost

target_keeps : (t : Target) (d : VariableSet) → IsWithin d (with_target t d)
target_keeps (tree.InVariable v) d = set_on v d
target_keeps (tree.AtAddress checked a) d = λ v h. h

mutual
  keeps : (e : Expression) (d : VariableSet) → IsWithin d (set_behind d e)
  keeps (tree.Number k) d v h = h
  keeps (tree.Address object offset) d v h = h
  keeps (tree.Frame p offset) d v h = h
  keeps (tree.Variable p u) d v h = h
  keeps (tree.Read p kind checked a) d v h = keeps a d v h
  keeps (tree.Convert p kind a) d v h = keeps a d v h
  keeps (tree.Not p a) d v h = keeps a d v h
  keeps (tree.Binary p operator a b) d v h = keeps b (set_behind d a) v (keeps a d v h)
  keeps (tree.Compare p comparison turned a b) d v h = keeps b (set_behind d a) v (keeps a d v h)
  keeps (tree.And p a b) d v h = keeps a d v h
  keeps (tree.Or p a b) d v h = keeps a d v h
  keeps (tree.Conditional p a b c) d v h = and_from (set_behind (set_behind d a) b v) (set_behind (set_behind d a) c v) (keeps b (set_behind d a) v (keeps a d v h)) (keeps c (set_behind d a) v (keeps a d v h))
  keeps (tree.Comma a b) d v h = keeps b (set_behind d a) v (keeps a d v h)
  keeps (tree.Assign p kind t a) d v h = target_keeps t (set_behind (set_behind_target d t) a) v (keeps a (set_behind_target d t) v (target_before t d v h))
  keeps (tree.Update p kind t operator a) d v h = target_keeps t (set_behind (set_behind_target d t) a) v (keeps a (set_behind_target d t) v (target_before t d v h))
  keeps (tree.Step p kind t change new) d v h = target_before t d v h
  keeps (tree.Call p f xs) d v h = all_keep xs d v h
  keeps (tree.Putchar p a) d v h = keeps a d v h
  keeps (tree.Exit p a) d v h = refl
  keeps (tree.Abort p) d v h = h

  target_before : (t : Target) (d : VariableSet) → IsWithin d (set_behind_target d t)
  target_before (tree.InVariable u) d v h = h
  target_before (tree.AtAddress checked a) d v h = keeps a d v h

  all_keep : (xs : Expressions) (d : VariableSet) → IsWithin d (set_behind_all d xs)
  all_keep tree.no_expressions d v h = h
  all_keep (tree.expression_then a xs) d v h = all_keep xs (set_behind d a) v (keeps a d v h)

some_keep : (e : Option Expression) (d : VariableSet) → IsWithin d (set_behind_some d e)
some_keep None d v h = h
some_keep (Some e) d v h = keeps e d v h

items_keep : (items : List Setting) (d : VariableSet) → IsWithin d (set_behind_items d items)
items_keep [] d v h = h
items_keep (item ∷ items) d v h = items_keep items (set_behind d item.value) v (keeps item.value d v h)

statements_keep : (t : Statements) (d : VariableSet) → IsWithin d (set_behind_statements d t)
statements_keep tree.Done d v h = h
statements_keep (tree.Evaluate p e k) d v h = statements_keep k (set_behind d e) v (keeps e d v h)
statements_keep (tree.Initialise p offset size items k) d v h = statements_keep k (set_behind_items d items) v (items_keep items d v h)
statements_keep (tree.Print p xs pieces k) d v h = statements_keep k (set_behind_all d xs) v (all_keep xs d v h)
statements_keep (tree.If p e t u k) d v h =
    let c = set_behind d e in
    statements_keep k (both (set_behind_statements c t) (set_behind_statements c u)) v (and_from (set_behind_statements c t v) (set_behind_statements c u v) (statements_keep t c v (keeps e d v h)) (statements_keep u c v (keeps e d v h)))
statements_keep (tree.Loop p test body step k) d v h = statements_keep k d v h
statements_keep (tree.Do p body test k) d v h = statements_keep k d v h
statements_keep (tree.Switch p e arms k) d v h = statements_keep k (set_behind d e) v (keeps e d v h)
statements_keep (tree.Break p k) d v h = statements_keep k all_set v refl
statements_keep (tree.Continue p k) d v h = statements_keep k all_set v refl
statements_keep (tree.Return p e k) d v h = statements_keep k all_set v refl

-- ---- what is read

module _ (b : FunctionBounds) where
  abbrev Holds : VariableSet → Type 0
  Holds d = IsWithin (below b.variables) d

  on : (d c : VariableSet) → Holds d → IsWithin d c → Holds c
  on d c h w v g = w v (h v g)

  everything : Holds all_set
  everything v g = refl

  old_below : (d : VariableSet) (width : Width) (t : Target) → Holds d → is_sound_target b width t ≡ true → is_old_set d t ≡ true
  old_below d width (tree.InVariable v) w h = w v (and_second _ _ h)
  old_below d width (tree.AtAddress checked a) w h = refl

  mutual
    reads_below : (e : Expression) (d : VariableSet) → Holds d → is_sound b e ≡ true → reads_set d e ≡ true
    reads_below (tree.Number k) d w h = refl
    reads_below (tree.Address object offset) d w h = refl
    reads_below (tree.Frame p offset) d w h = refl
    reads_below (tree.Variable p v) d w h = w v h
    reads_below (tree.Read p kind checked a) d w h = reads_below a d w (and_second _ _ h)
    reads_below (tree.Convert p kind a) d w h = reads_below a d w h
    reads_below (tree.Not p a) d w h = reads_below a d w h
    reads_below (tree.Binary p operator x y) d w h = and_from (reads_set d x) (reads_set (set_behind d x) y) (reads_below x d w (and_first _ _ h)) (reads_below y (set_behind d x) (on d (set_behind d x) w (keeps x d)) (and_second _ _ h))
    reads_below (tree.Compare p comparison turned x y) d w h = and_from (reads_set d x) (reads_set (set_behind d x) y) (reads_below x d w (and_first _ _ h)) (reads_below y (set_behind d x) (on d (set_behind d x) w (keeps x d)) (and_second _ _ h))
    reads_below (tree.And p x y) d w h = and_from (reads_set d x) (reads_set (set_behind d x) y) (reads_below x d w (and_first _ _ h)) (reads_below y (set_behind d x) (on d (set_behind d x) w (keeps x d)) (and_second _ _ h))
    reads_below (tree.Or p x y) d w h = and_from (reads_set d x) (reads_set (set_behind d x) y) (reads_below x d w (and_first _ _ h)) (reads_below y (set_behind d x) (on d (set_behind d x) w (keeps x d)) (and_second _ _ h))
    reads_below (tree.Conditional p x y z) d w h =
        let c = set_behind d x in
        let l = on d c w (keeps x d) in
        and_from (reads_set d x) (reads_set c y && reads_set c z) (reads_below x d w (and_first _ _ h)) (and_from (reads_set c y) (reads_set c z) (reads_below y c l (and_first _ _ (and_second _ _ h))) (reads_below z c l (and_second _ _ (and_second _ _ h))))
    reads_below (tree.Comma x y) d w h = and_from (reads_set d x) (reads_set (set_behind d x) y) (reads_below x d w (and_first _ _ h)) (reads_below y (set_behind d x) (on d (set_behind d x) w (keeps x d)) (and_second _ _ h))
    reads_below (tree.Assign p kind t x) d w h =
        and_from (reads_set_target d t) (reads_set (set_behind_target d t) x) (target_below t d (width_of kind) w (and_first _ _ h)) (reads_below x (set_behind_target d t) (on d (set_behind_target d t) w (target_before t d)) (and_second _ _ h))
    reads_below (tree.Update p kind t operator x) d w h =
        and_from (reads_set_target d t && is_old_set d t) (reads_set (set_behind_target d t) x)
        (and_from (reads_set_target d t) (is_old_set d t) (target_below t d (width_of kind) w (and_first _ _ h)) (old_below d (width_of kind) t w (and_first _ _ h)))
        (reads_below x (set_behind_target d t) (on d (set_behind_target d t) w (target_before t d)) (and_second _ _ h))
    reads_below (tree.Step p kind t change new) d w h =
        and_from (reads_set_target d t) (is_old_set d t) (target_below t d (width_of kind) w (and_first _ _ h)) (old_below d (width_of kind) t w (and_first _ _ h))
    reads_below (tree.Call p f xs) d w h = all_below xs d w (and_second _ _ h)
    reads_below (tree.Putchar p a) d w h = reads_below a d w h
    reads_below (tree.Exit p a) d w h = reads_below a d w h
    reads_below (tree.Abort p) d w h = refl

    target_below : (t : Target) (d : VariableSet) (width : Width) → Holds d → is_sound_target b width t ≡ true → reads_set_target d t ≡ true
    target_below (tree.InVariable v) d width w h = refl
    target_below (tree.AtAddress checked a) d width w h = reads_below a d w (and_second _ _ h)

    all_below : (xs : Expressions) (d : VariableSet) → Holds d → are_sound b xs ≡ true → all_read_set d xs ≡ true
    all_below tree.no_expressions d w h = refl
    all_below (tree.expression_then x xs) d w h =
        and_from (reads_set d x) (all_read_set (set_behind d x) xs) (reads_below x d w (and_first _ _ h)) (all_below xs (set_behind d x) (on d (set_behind d x) w (keeps x d)) (and_second _ _ h))

  some_below : (e : Option Expression) (d : VariableSet) → Holds d → is_sound_some b e ≡ true → some_reads_set d e ≡ true
  some_below None d w h = refl
  some_below (Some e) d w h = reads_below e d w h

  items_below : (items : List Setting) (d : VariableSet) → Holds d → are_sound_items b items ≡ true → items_read_set d items ≡ true
  items_below [] d w h = refl
  items_below (item ∷ items) d w h =
      let c = set_behind d item.value in
      and_from (reads_set d item.value) (items_read_set c items) (reads_below item.value d w (and_first _ _ (and_second _ _ h))) (items_below items c (on d c w (keeps item.value d)) (and_second _ _ (and_second _ _ h)))

  mutual
    pub statements_below : (t : Statements) (d : VariableSet) → Holds d → are_sound_statements b t ≡ true → statements_read_set d t ≡ true
    statements_below tree.Done d w h = refl
    statements_below (tree.Evaluate p e k) d w h =
        let c = set_behind d e in
        and_from (reads_set d e) (statements_read_set c k) (reads_below e d w (and_first _ _ h)) (statements_below k c (on d c w (keeps e d)) (and_second _ _ h))
    statements_below (tree.Initialise p offset size items k) d w h =
        let c = set_behind_items d items in
        and_from (items_read_set d items) (statements_read_set c k) (items_below items d w (and_first _ _ (and_second _ _ h))) (statements_below k c (on d c w (items_keep items d)) (and_second _ _ (and_second _ _ h)))
    statements_below (tree.Print p xs pieces k) d w h =
        let c = set_behind_all d xs in
        and_from (all_read_set d xs) (statements_read_set c k) (all_below xs d w (and_first _ _ h)) (statements_below k c (on d c w (all_keep xs d)) (and_second _ _ h))
    statements_below (tree.If p e t u k) d w h =
        let more = and_second (is_sound b e) (are_sound_statements b t && (are_sound_statements b u && are_sound_statements b k)) h in
        let last = and_second (are_sound_statements b t) (are_sound_statements b u && are_sound_statements b k) more in
        let c = set_behind d e in
        let l = on d c w (keeps e d) in
        let f = both (set_behind_statements c t) (set_behind_statements c u) in
        and_from (reads_set d e && (statements_read_set c t && statements_read_set c u)) (statements_read_set f k)
        (and_from (reads_set d e) (statements_read_set c t && statements_read_set c u) (reads_below e d w (and_first _ _ h)) (and_from (statements_read_set c t) (statements_read_set c u) (statements_below t c l (and_first _ _ more)) (statements_below u c l (and_first _ _ last))))
        (statements_below k f (within_both (below b.variables) (set_behind_statements c t) (set_behind_statements c u) (on c (set_behind_statements c t) l (statements_keep t c)) (on c (set_behind_statements c u) l (statements_keep u c))) (and_second _ _ last))
    statements_below (tree.Loop p test body step k) d w h =
        let more = and_second (is_sound_some b test) (are_sound_statements b body && (is_sound_some b step && are_sound_statements b k)) h in
        let last = and_second (are_sound_statements b body) (is_sound_some b step && are_sound_statements b k) more in
        let c = set_behind_some d test in
        and_from (some_reads_set d test && (statements_read_set c body && some_reads_set d step)) (statements_read_set d k)
        (and_from (some_reads_set d test) (statements_read_set c body && some_reads_set d step) (some_below test d w (and_first _ _ h)) (and_from (statements_read_set c body) (some_reads_set d step) (statements_below body c (on d c w (some_keep test d)) (and_first _ _ more)) (some_below step d w (and_first _ _ last))))
        (statements_below k d w (and_second _ _ last))
    statements_below (tree.Do p body test k) d w h =
        and_from (statements_read_set d body && reads_set d test) (statements_read_set d k)
        (and_from (statements_read_set d body) (reads_set d test) (statements_below body d w (and_first _ _ h)) (reads_below test d w (and_first _ _ (and_second _ _ h))))
        (statements_below k d w (and_second _ _ (and_second _ _ h)))
    statements_below (tree.Switch p e arms k) d w h =
        let c = set_behind d e in
        let l = on d c w (keeps e d) in
        and_from (reads_set d e && arms_read_set c arms) (statements_read_set c k)
        (and_from (reads_set d e) (arms_read_set c arms) (reads_below e d w (and_first _ _ (and_first _ _ h))) (arms_below arms c l (and_first _ _ (and_second _ _ h))))
        (statements_below k c l (and_second _ _ (and_second _ _ h)))
    statements_below (tree.Break p k) d w h = statements_below k all_set everything h
    statements_below (tree.Continue p k) d w h = statements_below k all_set everything h
    statements_below (tree.Return p e k) d w h =
        and_from (some_reads_set d e) (statements_read_set all_set k) (some_below e d w (and_first _ _ h)) (statements_below k all_set everything (and_second _ _ h))

    arms_below : (arms : Arms) (d : VariableSet) → Holds d → are_sound_arms b arms ≡ true → arms_read_set d arms ≡ true
    arms_below tree.no_arms d w h = refl
    arms_below (tree.arm_then labels t rest) d w h =
        and_from (statements_read_set d t) (arms_read_set d rest) (statements_below t d w (and_first _ _ (and_second _ _ h))) (arms_below rest d w (and_second _ _ (and_second _ _ h)))
