-- What fits its file is sound, wherever the file's objects are put.
use Rattle.std.proofs.Common.{◌≡◌, ℕ, ◌+◌, ◌-◌, ◌%◌, ◌^◌, ◌≤◌, Bool, true, false, ◌&&◌, List, [], ◌∷◌, length, Option, Some, None, refl, sym, subst, arith}
use Rattle.std.proofs.lemmas.Bool.{false≢true, and_from, leb-true}
use Rattle.std.specs.Prelude.{slice_get, nat_eq, nat_le, not, ◌||◌}
use Rattle.std.specs.List.{list_all}
use Rattle.dae_base.specs.declared.Width.{Width}
use Rattle.dae_base.specs.Words.{plus, width_of}
use Rattle.dae_base.proofs.Laws.{and_first, and_second}
use Rattle.dae_types_kinds.specs.declared.tables.Entity.TheVariants as entity
use Rattle.dae_types_kinds.specs.declared.types.Layout.{Layout}
use Rattle.dae_types_kinds.specs.Types.{layout_at}
use Rattle.dae_types_kinds.specs.Values.{object_type}
use Rattle.dae_types_plans.specs.Steps.{parameter_types}
use Rattle.dae_program.specs.Lawful.{FunctionBounds, adds, number_of, if_number, is_good, is_named, is_checked_or_named, is_sound, is_sound_target, are_sound, is_sound_some, are_sound_items, are_sound_statements, are_sound_arms, are_inside, are_arms_inside, prints_bytes, arms_print_bytes, count, takes, is_word, is_byte, is_label_word, fits_frame, is_sound_slot, is_lawful_body}
use Rattle.dae_program.specs.Views.{view_statements}
use Rattle.dae_program.specs.Switches.{count_arms}
use Rattle.dae_program.specs.Trees as tree
use Rattle.dae_program.specs.Trees.{Expression, Target, Expressions, Setting, Statements, Arms}
use Rattle.dae_types_typed.specs.declared.files.FileParts.{FileParts}
use Rattle.dae_types_typed.specs.declared.files.TypedFunction.{TypedFunction}
use Rattle.dae_types_typed.specs.Sound.{tables_of, is_used, is_called_main, is_sound_function, function_at, HasRoom, HaveRoom, AreCallable}
use Rattle.dae_types_sound.specs.declared.extents.FunctionExtent.{FunctionExtent}
use Rattle.dae_types_sound.specs.declared.extents.FileNames.{FileNames}
use Rattle.dae_types_sound.specs.declared.extents.Jumps.{Jumps}
use Rattle.dae_types_sound.specs.Fit.{has_bytes, is_in_object, names_bytes, is_checked_or_fit, known_count, parameters_at, is_fit, is_fit_target, are_fit, is_fit_some, is_fit_item, is_fit_aggregate, are_fit_statements, are_fit_arms, loop_jumps, switch_jumps, function_extent, body_jumps, has_parameters, is_fit_function}
use Rattle.dae_types_sound.proofs.Numbers.{good_within}

-- the names are those that a file uses
pub record AreUsed (f : FileParts) (n : FileNames) : Type 0 where
  pub literals : n.literals ≡ length f.literals
  pub objects : (o : ℕ) (l : Layout) → slice_get n.objects o ≡ Some (Some l) → (is_used f.uses (entity.Object o) ≡ true) × (l ≡ layout_at (tables_of f) (object_type (slice_get f.objects o)))
  pub functions : (r c : ℕ) → slice_get n.functions r ≡ Some (Some c) → (is_used f.uses (entity.Function r) ≡ true) × (c ≡ length (parameter_types (tables_of f) r))

by_number : (o : Option ℕ) (f g : ℕ → Bool) → ((j : ℕ) → f j ≡ true → g j ≡ true) → if_number o f ≡ true → if_number o g ≡ true
by_number None f g h i = i
by_number (Some j) f g h i = h j i

module _ (f : FileParts) (n : FileNames) (are : AreUsed f n) (x : FunctionExtent) (memory : ℕ) (address : ℕ → ℕ) (parameters : ℕ → Option ℕ) (small : memory ≤ 2 ^ 26) (room : HaveRoom f memory address) (callable : AreCallable f parameters) where
  abbrev b : FunctionBounds
  b = record { variables = x.variables; parameters = parameters; address = address; memory = memory; frame = x.frame }

  in_object : (width : Width) (object k : ℕ) → is_in_object n width object k ≡ true → is_good width (plus (address object) k) memory ≡ true
  in_object width object k h = by (slice_get n.objects (object - n.literals)) refl (and_second _ _ h)
    where
      by : (o : Option (Option Layout)) → slice_get n.objects (object - n.literals) ≡ o → has_bytes width k o ≡ true → is_good width (plus (address object) k) memory ≡ true
      by None e g = absurd (false≢true g)
      by (Some None) e g = absurd (false≢true g)
      by (Some (Some l)) e g =
          let used = are.objects (object - n.literals) l e in
          let low : n.literals ≤ object = leb-true n.literals object (and_first _ _ h) in
          let literals = are.literals in
          let place : length f.literals + (object - n.literals) ≡ object = omega (arith, literals, low) in
          let r = room (object - n.literals) used.0 in
          let r' : HasRoom memory (address object) l = subst (λ z. HasRoom memory (address z) l) place (subst (HasRoom memory (address (length f.literals + (object - n.literals)))) (sym used.1) r) in
          good_within width (address object) k memory l r'.aligned r'.low r'.fits small g

  named : (width : Width) (k : ℕ) (e : Expression) → names_bytes n x width k e ≡ true → is_named b width k e ≡ true
  named width k (tree.Address object offset) h = in_object width object (plus offset k) h
  named width k (tree.Frame p offset) h = h
  named width k (tree.Binary p operator a c) h = and_from (adds operator) (if_number (number_of c) (λ j. is_named b width (plus j k) a)) (and_first _ _ h) (by_number (number_of c) (λ j. names_bytes n x width (plus j k) a) (λ j. is_named b width (plus j k) a) (λ j g. named width (plus j k) a g) (and_second _ _ h))
  named width k (tree.Conditional p a c d) h = and_from (is_named b width k c) (is_named b width k d) (named width k c (and_first _ _ h)) (named width k d (and_second _ _ h))
  named width k (tree.Comma a c) h = named width k c h
  named width k (tree.Number j) h = h
  named width k (tree.Variable p v) h = h
  named width k (tree.Read p kind checked a) h = h
  named width k (tree.Convert p kind a) h = h
  named width k (tree.Not p a) h = h
  named width k (tree.Compare p comparison turned a c) h = h
  named width k (tree.And p a c) h = h
  named width k (tree.Or p a c) h = h
  named width k (tree.Assign p kind t a) h = h
  named width k (tree.Update p kind t operator a) h = h
  named width k (tree.Step p kind t change new) h = h
  named width k (tree.Call p g xs) h = h
  named width k (tree.Putchar p a) h = h
  named width k (tree.Exit p a) h = h
  named width k (tree.Abort p) h = h

  checked_or : (checked : Bool) (width : Width) (e : Expression) → is_checked_or_fit n x checked width e ≡ true → is_checked_or_named b checked width e ≡ true
  checked_or true width e h = h
  checked_or false width e h = named width 0 e h

  taken : (g m : ℕ) → takes (parameters_at n g) m ≡ true → takes (parameters g) m ≡ true
  taken g m h = by (slice_get n.functions g) refl h
    where
      by : (o : Option (Option ℕ)) → slice_get n.functions g ≡ o → takes (known_count o) m ≡ true → takes (parameters g) m ≡ true
      by None e i = absurd (false≢true i)
      by (Some None) e i = absurd (false≢true i)
      by (Some (Some c)) e i =
          let used = are.functions g c e in
          subst (λ o. takes o m ≡ true) (sym (callable g used.0)) (subst (λ z. nat_eq m z ≡ true) used.1 i)

  mutual
    sound : (e : Expression) → is_fit n x e ≡ true → is_sound b e ≡ true
    sound (tree.Number k) h = h
    sound (tree.Address object offset) h = h
    sound (tree.Frame p offset) h = h
    sound (tree.Variable p v) h = h
    sound (tree.Read p kind checked a) h = and_from (is_checked_or_named b checked (width_of kind) a) (is_sound b a) (checked_or checked (width_of kind) a (and_first _ _ h)) (sound a (and_second _ _ h))
    sound (tree.Convert p kind a) h = sound a h
    sound (tree.Not p a) h = sound a h
    sound (tree.Binary p operator a c) h = and_from (is_sound b a) (is_sound b c) (sound a (and_first _ _ h)) (sound c (and_second _ _ h))
    sound (tree.Compare p comparison turned a c) h = and_from (is_sound b a) (is_sound b c) (sound a (and_first _ _ h)) (sound c (and_second _ _ h))
    sound (tree.And p a c) h = and_from (is_sound b a) (is_sound b c) (sound a (and_first _ _ h)) (sound c (and_second _ _ h))
    sound (tree.Or p a c) h = and_from (is_sound b a) (is_sound b c) (sound a (and_first _ _ h)) (sound c (and_second _ _ h))
    sound (tree.Conditional p a c d) h =
        let more = and_second (is_fit n x a) (is_fit n x c && is_fit n x d) h in
        and_from (is_sound b a) (is_sound b c && is_sound b d) (sound a (and_first _ _ h)) (and_from (is_sound b c) (is_sound b d) (sound c (and_first _ _ more)) (sound d (and_second _ _ more)))
    sound (tree.Comma a c) h = and_from (is_sound b a) (is_sound b c) (sound a (and_first _ _ h)) (sound c (and_second _ _ h))
    sound (tree.Assign p kind t a) h = and_from (is_sound_target b (width_of kind) t) (is_sound b a) (sound_target (width_of kind) t (and_first _ _ h)) (sound a (and_second _ _ h))
    sound (tree.Update p kind t operator a) h = and_from (is_sound_target b (width_of kind) t) (is_sound b a) (sound_target (width_of kind) t (and_first _ _ h)) (sound a (and_second _ _ h))
    sound (tree.Step p kind t change new) h = and_from (is_sound_target b (width_of kind) t) (is_word change) (sound_target (width_of kind) t (and_first _ _ h)) (and_second _ _ h)
    sound (tree.Call p g xs) h = and_from (takes (parameters g) (count xs)) (are_sound b xs) (taken g (count xs) (and_first _ _ h)) (all_sound xs (and_second _ _ h))
    sound (tree.Putchar p a) h = sound a h
    sound (tree.Exit p a) h = sound a h
    sound (tree.Abort p) h = h

    sound_target : (width : Width) (t : Target) → is_fit_target n x width t ≡ true → is_sound_target b width t ≡ true
    sound_target width (tree.InVariable v) h = h
    sound_target width (tree.AtAddress checked a) h = and_from (is_checked_or_named b checked width a) (is_sound b a) (checked_or checked width a (and_first _ _ h)) (sound a (and_second _ _ h))

    all_sound : (xs : Expressions) → are_fit n x xs ≡ true → are_sound b xs ≡ true
    all_sound tree.no_expressions h = h
    all_sound (tree.expression_then a xs) h = and_from (is_sound b a) (are_sound b xs) (sound a (and_first _ _ h)) (all_sound xs (and_second _ _ h))

  sound_some : (e : Option Expression) → is_fit_some n x e ≡ true → is_sound_some b e ≡ true
  sound_some None h = h
  sound_some (Some e) h = sound e h

  sound_items : (items : List Setting) → list_all (is_fit_item n x) items ≡ true → are_sound_items b items ≡ true
  sound_items [] h = h
  sound_items (item ∷ items) h =
      let here = and_first (is_fit_item n x item) (list_all (is_fit_item n x) items) h in
      and_from (is_word item.offset && fits_frame item.width item.offset x.frame) (is_sound b item.value && are_sound_items b items) (and_first _ _ here)
      (and_from (is_sound b item.value) (are_sound_items b items) (sound item.value (and_second _ _ here)) (sound_items items (and_second _ _ h)))

  -- ---- statements

  mutual
    pub sound_statements : (j : Jumps) (t : Statements) → are_fit_statements n x j t ≡ true → are_sound_statements b t ≡ true
    sound_statements j tree.Done h = h
    sound_statements j (tree.Evaluate p e k) h = and_from (is_sound b e) (are_sound_statements b k) (sound e (and_first _ _ h)) (sound_statements j k (and_second _ _ h))
    sound_statements j (tree.Initialise p offset bytes items k) h =
        let here = and_first (is_fit_aggregate x offset bytes && list_all (is_fit_item n x) items) (are_fit_statements n x j k) h in
        and_from (is_fit_aggregate x offset bytes) (are_sound_items b items && are_sound_statements b k) (and_first _ _ here)
        (and_from (are_sound_items b items) (are_sound_statements b k) (sound_items items (and_second _ _ here)) (sound_statements j k (and_second _ _ h)))
    sound_statements j (tree.Print p xs pieces k) h = and_from (are_sound b xs) (are_sound_statements b k) (all_sound xs (and_first _ _ (and_first _ _ h))) (sound_statements j k (and_second _ _ h))
    sound_statements j (tree.If p e t u k) h =
        let here = and_first (is_fit n x e && (are_fit_statements n x j t && are_fit_statements n x j u)) (are_fit_statements n x j k) h in
        let more = and_second (is_fit n x e) (are_fit_statements n x j t && are_fit_statements n x j u) here in
        and_from (is_sound b e) (are_sound_statements b t && (are_sound_statements b u && are_sound_statements b k)) (sound e (and_first _ _ here))
        (and_from (are_sound_statements b t) (are_sound_statements b u && are_sound_statements b k) (sound_statements j t (and_first _ _ more))
        (and_from (are_sound_statements b u) (are_sound_statements b k) (sound_statements j u (and_second _ _ more)) (sound_statements j k (and_second _ _ h))))
    sound_statements j (tree.Loop p test body step k) h =
        let here = and_first (is_fit_some n x test && (are_fit_statements n x (loop_jumps j) body && is_fit_some n x step)) (are_fit_statements n x j k) h in
        let more = and_second (is_fit_some n x test) (are_fit_statements n x (loop_jumps j) body && is_fit_some n x step) here in
        and_from (is_sound_some b test) (are_sound_statements b body && (is_sound_some b step && are_sound_statements b k)) (sound_some test (and_first _ _ here))
        (and_from (are_sound_statements b body) (is_sound_some b step && are_sound_statements b k) (sound_statements (loop_jumps j) body (and_first _ _ more))
        (and_from (is_sound_some b step) (are_sound_statements b k) (sound_some step (and_second _ _ more)) (sound_statements j k (and_second _ _ h))))
    sound_statements j (tree.Do p body test k) h =
        let here = and_first (are_fit_statements n x (loop_jumps j) body && is_fit n x test) (are_fit_statements n x j k) h in
        and_from (are_sound_statements b body) (is_sound b test && are_sound_statements b k) (sound_statements (loop_jumps j) body (and_first _ _ here))
        (and_from (is_sound b test) (are_sound_statements b k) (sound test (and_second _ _ here)) (sound_statements j k (and_second _ _ h)))
    sound_statements j (tree.Switch p e arms k) h =
        let here = and_first ((is_fit n x e && is_word (count_arms arms)) && are_fit_arms n x (switch_jumps j) arms) (are_fit_statements n x j k) h in
        let head = and_first (is_fit n x e && is_word (count_arms arms)) (are_fit_arms n x (switch_jumps j) arms) here in
        and_from (is_sound b e && is_word (count_arms arms)) (are_sound_arms b arms && are_sound_statements b k)
        (and_from (is_sound b e) (is_word (count_arms arms)) (sound e (and_first _ _ head)) (and_second _ _ head))
        (and_from (are_sound_arms b arms) (are_sound_statements b k) (sound_arms (switch_jumps j) arms (and_second _ _ here)) (sound_statements j k (and_second _ _ h)))
    sound_statements j (tree.Break p k) h = sound_statements j k (and_second _ _ h)
    sound_statements j (tree.Continue p k) h = sound_statements j k (and_second _ _ h)
    sound_statements j (tree.Return p e k) h = and_from (is_sound_some b e) (are_sound_statements b k) (sound_some e (and_second _ _ (and_first _ _ h))) (sound_statements j k (and_second _ _ h))

    sound_arms : (j : Jumps) (arms : Arms) → are_fit_arms n x j arms ≡ true → are_sound_arms b arms ≡ true
    sound_arms j tree.no_arms h = h
    sound_arms j (tree.arm_then labels t rest) h =
        let here = and_first (list_all is_label_word labels && are_fit_statements n x j t) (are_fit_arms n x j rest) h in
        and_from (list_all is_label_word labels) (are_sound_statements b t && are_sound_arms b rest) (and_first _ _ here)
        (and_from (are_sound_statements b t) (are_sound_arms b rest) (sound_statements j t (and_second _ _ here)) (sound_arms j rest (and_second _ _ h)))

-- jumps stand where they may, also where a return may stand besides
module _ (n : FileNames) (x : FunctionExtent) where
  mutual
    pub inside : (j : Jumps) (returns : Bool) → (j.returns ≡ true → returns ≡ true) → (t : Statements) → are_fit_statements n x j t ≡ true → are_inside j.breaks j.continues returns t ≡ true
    inside j r i tree.Done h = h
    inside j r i (tree.Evaluate p e k) h = inside j r i k (and_second _ _ h)
    inside j r i (tree.Initialise p offset bytes items k) h = inside j r i k (and_second _ _ h)
    inside j r i (tree.Print p xs pieces k) h = inside j r i k (and_second _ _ h)
    inside j r i (tree.If p e t u k) h =
        let here = and_first (is_fit n x e && (are_fit_statements n x j t && are_fit_statements n x j u)) (are_fit_statements n x j k) h in
        let more = and_second (is_fit n x e) (are_fit_statements n x j t && are_fit_statements n x j u) here in
        and_from (are_inside j.breaks j.continues r t) (are_inside j.breaks j.continues r u && are_inside j.breaks j.continues r k) (inside j r i t (and_first _ _ more))
        (and_from (are_inside j.breaks j.continues r u) (are_inside j.breaks j.continues r k) (inside j r i u (and_second _ _ more)) (inside j r i k (and_second _ _ h)))
    inside j r i (tree.Loop p test body step k) h =
        let here = and_first (is_fit_some n x test && (are_fit_statements n x (loop_jumps j) body && is_fit_some n x step)) (are_fit_statements n x j k) h in
        let more = and_second (is_fit_some n x test) (are_fit_statements n x (loop_jumps j) body && is_fit_some n x step) here in
        and_from (are_inside true true r body) (are_inside j.breaks j.continues r k) (inside (loop_jumps j) r i body (and_first _ _ more)) (inside j r i k (and_second _ _ h))
    inside j r i (tree.Do p body test k) h =
        let here = and_first (are_fit_statements n x (loop_jumps j) body && is_fit n x test) (are_fit_statements n x j k) h in
        and_from (are_inside true true r body) (are_inside j.breaks j.continues r k) (inside (loop_jumps j) r i body (and_first _ _ here)) (inside j r i k (and_second _ _ h))
    inside j r i (tree.Switch p e arms k) h =
        let here = and_first ((is_fit n x e && is_word (count_arms arms)) && are_fit_arms n x (switch_jumps j) arms) (are_fit_statements n x j k) h in
        and_from (are_arms_inside j.continues r arms) (are_inside j.breaks j.continues r k) (arms_inside (switch_jumps j) r refl i arms (and_second _ _ here)) (inside j r i k (and_second _ _ h))
    inside j r i (tree.Break p k) h = and_from j.breaks (are_inside j.breaks j.continues r k) (and_first _ _ h) (inside j r i k (and_second _ _ h))
    inside j r i (tree.Continue p k) h = and_from j.continues (are_inside j.breaks j.continues r k) (and_first _ _ h) (inside j r i k (and_second _ _ h))
    inside j r i (tree.Return p e k) h = and_from r (are_inside j.breaks j.continues r k) (i (and_first _ _ (and_first _ _ h))) (inside j r i k (and_second _ _ h))

    arms_inside : (j : Jumps) (returns : Bool) → j.breaks ≡ true → (j.returns ≡ true → returns ≡ true) → (arms : Arms) → are_fit_arms n x j arms ≡ true → are_arms_inside j.continues returns arms ≡ true
    arms_inside j r e i tree.no_arms h = h
    arms_inside j r e i (tree.arm_then labels t rest) h =
        let here = and_first (list_all is_label_word labels && are_fit_statements n x j t) (are_fit_arms n x j rest) h in
        and_from (are_inside true j.continues r t) (are_arms_inside j.continues r rest) (subst (λ z. are_inside z j.continues r t ≡ true) e (inside j r i t (and_second _ _ here))) (arms_inside j r e i rest (and_second _ _ h))

  mutual
    pub print_bytes : (j : Jumps) (t : Statements) → are_fit_statements n x j t ≡ true → prints_bytes t ≡ true
    print_bytes j tree.Done h = h
    print_bytes j (tree.Evaluate p e k) h = print_bytes j k (and_second _ _ h)
    print_bytes j (tree.Initialise p offset bytes items k) h = print_bytes j k (and_second _ _ h)
    print_bytes j (tree.Print p xs pieces k) h = and_from (list_all is_byte pieces) (prints_bytes k) (and_second _ _ (and_first _ _ h)) (print_bytes j k (and_second _ _ h))
    print_bytes j (tree.If p e t u k) h =
        let here = and_first (is_fit n x e && (are_fit_statements n x j t && are_fit_statements n x j u)) (are_fit_statements n x j k) h in
        let more = and_second (is_fit n x e) (are_fit_statements n x j t && are_fit_statements n x j u) here in
        and_from (prints_bytes t) (prints_bytes u && prints_bytes k) (print_bytes j t (and_first _ _ more)) (and_from (prints_bytes u) (prints_bytes k) (print_bytes j u (and_second _ _ more)) (print_bytes j k (and_second _ _ h)))
    print_bytes j (tree.Loop p test body step k) h =
        let here = and_first (is_fit_some n x test && (are_fit_statements n x (loop_jumps j) body && is_fit_some n x step)) (are_fit_statements n x j k) h in
        let more = and_second (is_fit_some n x test) (are_fit_statements n x (loop_jumps j) body && is_fit_some n x step) here in
        and_from (prints_bytes body) (prints_bytes k) (print_bytes (loop_jumps j) body (and_first _ _ more)) (print_bytes j k (and_second _ _ h))
    print_bytes j (tree.Do p body test k) h =
        let here = and_first (are_fit_statements n x (loop_jumps j) body && is_fit n x test) (are_fit_statements n x j k) h in
        and_from (prints_bytes body) (prints_bytes k) (print_bytes (loop_jumps j) body (and_first _ _ here)) (print_bytes j k (and_second _ _ h))
    print_bytes j (tree.Switch p e arms k) h =
        let here = and_first ((is_fit n x e && is_word (count_arms arms)) && are_fit_arms n x (switch_jumps j) arms) (are_fit_statements n x j k) h in
        and_from (arms_print_bytes arms) (prints_bytes k) (arms_bytes (switch_jumps j) arms (and_second _ _ here)) (print_bytes j k (and_second _ _ h))
    print_bytes j (tree.Break p k) h = print_bytes j k (and_second _ _ h)
    print_bytes j (tree.Continue p k) h = print_bytes j k (and_second _ _ h)
    print_bytes j (tree.Return p e k) h = print_bytes j k (and_second _ _ h)

    arms_bytes : (j : Jumps) (arms : Arms) → are_fit_arms n x j arms ≡ true → arms_print_bytes arms ≡ true
    arms_bytes j tree.no_arms h = h
    arms_bytes j (tree.arm_then labels t rest) h =
        let here = and_first (list_all is_label_word labels && are_fit_statements n x j t) (are_fit_arms n x j rest) h in
        and_from (prints_bytes t) (arms_print_bytes rest) (print_bytes j t (and_second _ _ here)) (arms_bytes j rest (and_second _ _ h))

-- ---- functions

module _ (f : FileParts) (n : FileNames) (are : AreUsed f n) (memory : ℕ) (address : ℕ → ℕ) (parameters : ℕ → Option ℕ) (small : memory ≤ 2 ^ 26) (room : HaveRoom f memory address) (callable : AreCallable f parameters) where
  lawful : (t : TypedFunction) (returns : Bool) → is_fit_function f n t ≡ true → (not (is_called_main f t.routine) ≡ true → returns ≡ true) → is_lawful_body memory t.variables parameters returns (function_at address t) ≡ true
  lawful t returns h i =
      let head = and_first (has_parameters f t) ((not (is_called_main f t.routine) || nat_eq (length t.parameters) 0) && are_fit_statements n (function_extent t) (body_jumps (not (is_called_main f t.routine))) (view_statements t.body)) h in
      let more = and_second (nat_eq (length t.parameters) (length (parameter_types (tables_of f) t.routine))) ((nat_eq (t.frame % 4) 0 && nat_le (1 + length t.parameters) t.variables) && list_all (is_sound_slot t.frame) t.parameters) head in
      let body = and_second _ _ (and_second (has_parameters f t) ((not (is_called_main f t.routine) || nat_eq (length t.parameters) 0) && are_fit_statements n (function_extent t) (body_jumps (not (is_called_main f t.routine))) (view_statements t.body)) h) in
      let sound' = sound_statements f n are (function_extent t) memory address parameters small room callable (body_jumps (not (is_called_main f t.routine))) (view_statements t.body) body in
      and_from
      ((nat_eq (t.frame % 4) 0 && nat_le (1 + length t.parameters) t.variables) && (list_all (is_sound_slot t.frame) t.parameters && are_sound_statements (b f n are (function_extent t) memory address parameters small room callable) (view_statements t.body)))
      (are_inside false false returns (view_statements t.body))
      (and_from (nat_eq (t.frame % 4) 0 && nat_le (1 + length t.parameters) t.variables) (list_all (is_sound_slot t.frame) t.parameters && are_sound_statements (b f n are (function_extent t) memory address parameters small room callable) (view_statements t.body)) (and_first _ _ more)
      (and_from (list_all (is_sound_slot t.frame) t.parameters) (are_sound_statements (b f n are (function_extent t) memory address parameters small room callable) (view_statements t.body)) (and_second _ _ more) sound'))
      (inside n (function_extent t) (body_jumps (not (is_called_main f t.routine))) returns i (view_statements t.body) body)

  sound_function : (t : TypedFunction) → is_fit_function f n t ≡ true → is_sound_function f memory address parameters t ≡ true
  sound_function t h =
      let main = is_called_main f t.routine in
      let rest = and_second (has_parameters f t) ((not (is_called_main f t.routine) || nat_eq (length t.parameters) 0) && are_fit_statements n (function_extent t) (body_jumps (not (is_called_main f t.routine))) (view_statements t.body)) h in
      let count' = and_first _ _ (and_first (has_parameters f t) ((not (is_called_main f t.routine) || nat_eq (length t.parameters) 0) && are_fit_statements n (function_extent t) (body_jumps (not (is_called_main f t.routine))) (view_statements t.body)) h) in
      and_from
      (nat_eq (length t.parameters) (length (parameter_types (tables_of f) t.routine)) && is_lawful_body memory t.variables parameters true (function_at address t))
      (not main || (nat_eq (length t.parameters) 0 && is_lawful_body memory t.variables parameters false (function_at address t)))
      (and_from (nat_eq (length t.parameters) (length (parameter_types (tables_of f) t.routine))) (is_lawful_body memory t.variables parameters true (function_at address t)) count' (lawful t true h (λ e. refl)))
      (by main refl (and_first _ _ rest))
    where
      by : (m : Bool) → is_called_main f t.routine ≡ m → (not m || nat_eq (length t.parameters) 0) ≡ true → (not m || (nat_eq (length t.parameters) 0 && is_lawful_body memory t.variables parameters false (function_at address t))) ≡ true
      by false e g = refl
      by true e g = and_from (nat_eq (length t.parameters) 0) (is_lawful_body memory t.variables parameters false (function_at address t)) g (lawful t false h (λ i. subst (λ z. not z ≡ true) e i))

  pub sound_functions : (ts : List TypedFunction) → list_all (is_fit_function f n) ts ≡ true → list_all (is_sound_function f memory address parameters) ts ≡ true
  sound_functions [] h = h
  sound_functions (t ∷ ts) h =
      and_from (is_sound_function f memory address parameters t) (list_all (is_sound_function f memory address parameters) ts) (sound_function t (and_first _ _ h)) (sound_functions ts (and_second _ _ h))
