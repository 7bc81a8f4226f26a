-- What the tests of types, declarations and uses show.
use Rattle.std.proofs.Common.{◌≡◌, ℕ, zero, suc, ◌+◌, Bool, true, false, ◌&&◌, ◌||◌, inl, inr, List, [], ◌∷◌, ◌++◌, length, Option, Some, None, refl, ap, sym, ◌∙◌, subst, arith}
use Rattle.std.proofs.lemmas.Bool.{false≢true, or_cases, not-true, eqb-true, ltb-true}
use Rattle.std.specs.Prelude.{slice_get, not, if◌then◌else◌}
use Rattle.std.specs.List.{list_all, list_any, AllByRecursion}
use Rattle.dae_base.proofs.Laws.{append_further, and_first, and_second}
use Rattle.dae_types_kinds.specs.declared.tables.Entity.{Entity}
use Rattle.dae_types_kinds.specs.declared.tables.Entity.TheVariants as entity
use Rattle.dae_types_kinds.specs.declared.tables.StaticObject.{StaticObject}
use Rattle.dae_types_kinds.specs.declared.tables.Routine.{Routine}
use Rattle.dae_types_kinds.specs.declared.tables.EntityUse.{EntityUse}
use Rattle.dae_types_kinds.specs.declared.types.Layout.{Layout}
use Rattle.dae_types_kinds.specs.declared.types.Shape.{Shape}
use Rattle.dae_types_kinds.specs.declared.types.Shape.TheVariants as shape
use Rattle.dae_types_kinds.specs.declared.types.Structure.{Structure}
use Rattle.dae_types_kinds.specs.Tables.{Tables}
use Rattle.dae_types_kinds.specs.Types as types
use Rattle.dae_types_kinds.specs.Types.{shape_of, shape_or, is_complete, layout, layout_of, layout_or, layout_at}
use Rattle.dae_types_kinds.specs.Values.{object_type}
use Rattle.dae_types_plans.specs.Steps.{parameter_types}
use Rattle.dae_types_file_plans.specs.declared.declarations.FileDeclaration.{FileDeclaration}
use Rattle.dae_types_typed.specs.declared.files.FileParts.{FileParts}
use Rattle.dae_types_typed.specs.Linkage.{is_object, is_function, is_reference, is_library, type_in}
use Rattle.dae_types_typed.specs.Sound.{tables_of, is_there, is_declared, is_called_main, is_used, is_use_of, same_entity, laid_out, members_of, AreElementsComplete, AreChains, AreLaidOut, IsSoundDeclaration}
use Rattle.dae_types_sound.specs.Declarations.{same_flag, is_sound_declaration, same_numbers, is_callable, is_sound_use}
use Rattle.dae_types_sound.specs.Names.{used_layout, used_layouts, used_count, used_counts, names_in}
use Rattle.dae_types_sound.specs.Shapes.{is_sound_shape, are_sound_shapes, same_layout, is_laid_out, are_laid_out}
use Rattle.dae_types_sound.proofs.Fitting.{AreUsed}

-- ---- types

sound_shape_at : (s : Tables) (n : ℕ) (xs : List Shape) (k : ℕ) (x : Shape) → are_sound_shapes s n xs ≡ true → slice_get xs k ≡ Some x → is_sound_shape s (n + k) x ≡ true
sound_shape_at s n [] k x h g = absurd cc
sound_shape_at s n (y ∷ ys) zero x h g =
    let e : y ≡ x = cc in
    let z : n + 0 ≡ n = omega arith in
    rw z (subst (λ z. is_sound_shape s n z ≡ true) e (and_first _ _ h))
sound_shape_at s n (y ∷ ys) (suc k) x h g = let z : n + suc k ≡ suc n + k = omega arith in rw z (sound_shape_at s (suc n) ys k x (and_second _ _ h) g)

shape_there : (s : Tables) (n : ℕ) (x : Shape) → shape_or (slice_get s.shapes n) ≡ x → are_sound_shapes s 0 s.shapes ≡ true → is_sound_shape s n x ≡ true
shape_there s n x h all = by (slice_get s.shapes n) refl h
  where
    by : (o : Option Shape) → slice_get s.shapes n ≡ o → shape_or o ≡ x → is_sound_shape s n x ≡ true
    by None e g = subst (λ z. is_sound_shape s n z ≡ true) g refl
    by (Some y) e g = let z : 0 + n ≡ n = omega arith in subst (λ m. is_sound_shape s m x ≡ true) z (sound_shape_at s 0 s.shapes n x all (e ∙ ap Some g))

pub elements_complete : (s : Tables) → are_sound_shapes s 0 s.shapes ≡ true → AreElementsComplete s
unfolding shape_of
elements_complete s all n e count h = let q = shape_there s n (shape.Array e count) h all in (ltb-true e n (and_first _ _ q), and_second _ _ q)

pub chains : (s : Tables) → are_sound_shapes s 0 s.shapes ≡ true → AreChains s
unfolding shape_of
chains s all n before t h = ltb-true before n (shape_there s n (shape.Parameter before t) h all)

same_layouts : (l m : Layout) → same_layout l m ≡ true → l ≡ m
same_layouts l m h =
    let size = eqb-true l.size m.size (and_first _ _ h) in
    let align = eqb-true l.align m.align (and_second _ _ h) in
    ap (λ z. record { size = z; align = l.align }) size ∙ ap (λ z. record { size = m.size; align = z }) align

laid_out_at : (s : Tables) (n : ℕ) (xs : List Structure) (k : ℕ) (x : Structure) → are_laid_out s n xs ≡ true → slice_get xs k ≡ Some x → is_laid_out s (n + k) x.layout ≡ true
laid_out_at s n [] k x h g = absurd cc
laid_out_at s n (y ∷ ys) zero x h g =
    let e : y ≡ x = cc in
    let z : n + 0 ≡ n = omega arith in
    rw z (subst (λ (z : Structure). is_laid_out s n z.layout ≡ true) e (and_first _ _ h))
laid_out_at s n (y ∷ ys) (suc k) x h g = let z : n + suc k ≡ suc n + k = omega arith in rw z (laid_out_at s (suc n) ys k x (and_second _ _ h) g)

pub layouts : (s : Tables) → are_laid_out s 0 s.structures ≡ true → AreLaidOut s
unfolding layout_of
layouts s all n l h = by (slice_get s.structures n) refl h
  where
    by : (o : Option Structure) → slice_get s.structures n ≡ o → layout_or o ≡ Some l → l ≡ laid_out s (layout 0 1) (members_of s n)
    by None e g = absurd cc
    by (Some x) e g =
        let z : 0 + n ≡ n = omega arith in
        let q = subst (λ m. is_laid_out s m x.layout ≡ true) z (laid_out_at s 0 s.structures n x all e) in
        same_layouts l (laid_out s (layout 0 1) (members_of s n)) (subst (λ o. is_laid_out s n o ≡ true) g q)

-- ---- declarations

same_flags : (b c : Bool) → same_flag b c ≡ true → b ≡ c
same_flags true c h = sym h
same_flags false true h = absurd (false≢true h)
same_flags false false h = refl

by_role : (b c d : Bool) → b ≡ true → c ≡ false → ((not b || c) || d) ≡ true → d ≡ true
by_role true false d p q h = h
by_role true true d p q h = absurd (false≢true (sym q))
by_role false c d p q h = absurd (false≢true p)

sound_declaration : (f : FileParts) (d : FileDeclaration) → is_sound_declaration f d ≡ true → IsSoundDeclaration f d
sound_declaration f d h =
    let kind' = same_flag (types.is_function (shape_of (tables_of f) (type_in f d.entity))) (is_function d.entity) in
    let complete' = is_complete (tables_of f) (type_in f d.entity) in
    let head = and_first (is_there f d.entity && kind') ((not (is_object d.entity) || is_reference d.role) || complete') h in
    let tail = and_second (is_there f d.entity && kind') ((not (is_object d.entity) || is_reference d.role) || complete') h in
    record {
      there = and_first (is_there f d.entity) kind' head;
      kind = same_flags (types.is_function (shape_of (tables_of f) (type_in f d.entity))) (is_function d.entity) (and_second (is_there f d.entity) kind' head);
      complete = λ p q. by_role (is_object d.entity) (is_reference d.role) complete' p q tail;
    }

pub sound_declarations : (f : FileParts) (ds : List FileDeclaration) → list_all (is_sound_declaration f) ds ≡ true → AllByRecursion (IsSoundDeclaration f) ds
sound_declarations f [] h = tt
sound_declarations f (d ∷ ds) h =
    (sound_declaration f d (and_first (is_sound_declaration f d) (list_all (is_sound_declaration f) ds) h), sound_declarations f ds (and_second (is_sound_declaration f d) (list_all (is_sound_declaration f) ds) h))

pub numbers_equal : (ms ns : List ℕ) → same_numbers ms ns ≡ true → ms ≡ ns
numbers_equal [] [] h = refl
numbers_equal [] (n ∷ ns) h = absurd (false≢true h)
numbers_equal (m ∷ ms) [] h = absurd (false≢true h)
numbers_equal (m ∷ ms) (n ∷ ns) h = ap (λ z. z ∷ ms) (eqb-true m n (and_first _ _ h)) ∙ ap (λ z. n ∷ z) (numbers_equal ms ns (and_second _ _ h))

-- ---- uses

entities_equal : (x y : Entity) → same_entity x y ≡ true → x ≡ y
entities_equal (entity.Object m) (entity.Object n) h = ap entity.Object (eqb-true m n h)
entities_equal (entity.Function m) (entity.Function n) h = ap entity.Function (eqb-true m n h)
entities_equal x y h = absurd (false≢true h)

used_sound : (f : FileParts) (e : Entity) (us : List EntityUse) → list_all (is_sound_use f) us ≡ true → is_used us e ≡ true → (is_declared f e ≡ true) × (is_callable f e ≡ true)
used_sound f e [] all h = absurd (false≢true h)
used_sound f e (u ∷ us) all h = elim (or_cases (is_use_of e u) (list_any (is_use_of e) us) h) [
  | inl g ↦ (let same = entities_equal e u.entity g in
      let here = and_first (is_sound_use f u) (list_all (is_sound_use f) us) all in
      (subst (λ z. is_declared f z ≡ true) (sym same) (and_first _ _ here), subst (λ z. is_callable f z ≡ true) (sym same) (and_second _ _ here)))
  | inr g ↦ used_sound f e us (and_second _ _ all) g
]

pub uses_declared : (f : FileParts) → list_all (is_sound_use f) f.uses ≡ true → (e : Entity) → is_used f.uses e ≡ true → is_declared f e ≡ true
uses_declared f all e h = (used_sound f e f.uses all h).0

pub calls_sound : (f : FileParts) → list_all (is_sound_use f) f.uses ≡ true → (n : ℕ) → is_used f.uses (entity.Function n) ≡ true → (is_library (slice_get f.routines n) ≡ false) × (is_called_main f n ≡ false)
calls_sound f all n h =
    let q = (used_sound f (entity.Function n) f.uses all h).1 in
    (not-true (is_library (slice_get f.routines n)) (and_first _ _ q), not-true (is_called_main f n) (and_second _ _ q))

-- ---- what bodies may name

abbrev layouts_from : FileParts → ℕ → List StaticObject → List (Option Layout)
layouts_from f o [] = []
layouts_from f o (x ∷ xs) = used_layout f o x ∷ layouts_from f (suc o) xs

nothing_behind : {A : Type 0} (xs : List A) → xs ≡ xs ++ []
nothing_behind [] = refl
nothing_behind (x ∷ xs) = ap (λ k. x ∷ k) (nothing_behind xs)

layouts_behind : (f : FileParts) (done : List (Option Layout)) (o : ℕ) (xs : List StaticObject) → used_layouts f done o xs ≡ done ++ layouts_from f o xs
layouts_behind f done o [] = nothing_behind done
layouts_behind f done o (x ∷ xs) = layouts_behind f (done ++ used_layout f o x ∷ []) (suc o) xs ∙ append_further done (used_layout f o x) (layouts_from f (suc o) xs)

used_if : {A : Type 0} (b : Bool) (x y : A) → (if b then Some x else None) ≡ Some y → (b ≡ true) × (y ≡ x)
used_if true x y h = (refl, (let e : x ≡ y = cc in sym e))
used_if false x y h = absurd cc

layout_at_number : (f : FileParts) (o k : ℕ) (xs : List StaticObject) (l : Layout) → slice_get (layouts_from f o xs) k ≡ Some (Some l) → (is_used f.uses (entity.Object (o + k)) ≡ true) × (l ≡ layout_at (tables_of f) (object_type (slice_get xs k)))
layout_at_number f o k [] l h = absurd cc
layout_at_number f o zero (x ∷ xs) l h =
    let z : o + 0 ≡ o = omega arith in
    let e : used_layout f o x ≡ Some l = cc in
    let q = used_if (is_used f.uses (entity.Object o)) (layout_at (tables_of f) x.type_id) l e in
    (subst (λ n. is_used f.uses (entity.Object n) ≡ true) (sym z) q.0, q.1)
layout_at_number f o (suc k) (x ∷ xs) l h =
    let z : o + suc k ≡ suc o + k = omega arith in
    let q = layout_at_number f (suc o) k xs l h in
    (subst (λ n. is_used f.uses (entity.Object n) ≡ true) (sym z) q.0, q.1)

abbrev counts_from : FileParts → ℕ → List Routine → List (Option ℕ)
counts_from f r [] = []
counts_from f r (x ∷ xs) = used_count f r ∷ counts_from f (suc r) xs

counts_behind : (f : FileParts) (done : List (Option ℕ)) (r : ℕ) (xs : List Routine) → used_counts f done r xs ≡ done ++ counts_from f r xs
counts_behind f done r [] = nothing_behind done
counts_behind f done r (x ∷ xs) = counts_behind f (done ++ used_count f r ∷ []) (suc r) xs ∙ append_further done (used_count f r) (counts_from f (suc r) xs)

count_at_number : (f : FileParts) (r k : ℕ) (xs : List Routine) (c : ℕ) → slice_get (counts_from f r xs) k ≡ Some (Some c) → (is_used f.uses (entity.Function (r + k)) ≡ true) × (c ≡ length (parameter_types (tables_of f) (r + k)))
count_at_number f r k [] c h = absurd cc
count_at_number f r zero (x ∷ xs) c h =
    let z : r + 0 ≡ r = omega arith in
    let e : used_count f r ≡ Some c = cc in
    rw z (used_if (is_used f.uses (entity.Function r)) (length (parameter_types (tables_of f) r)) c e)
count_at_number f r (suc k) (x ∷ xs) c h = let z : r + suc k ≡ suc r + k = omega arith in rw z (count_at_number f (suc r) k xs c h)

pub are_used : (f : FileParts) → AreUsed f (names_in f)
are_used f = record {
  literals = refl;
  objects = λ o l h. (let z : 0 + o ≡ o = omega arith in
      let q = layout_at_number f 0 o f.objects l (sym (ap (λ ls. slice_get ls o) (layouts_behind f [] 0 f.objects)) ∙ h) in
      (subst (λ n. is_used f.uses (entity.Object n) ≡ true) z q.0, q.1));
  functions = λ r c h. (let z : 0 + r ≡ r = omega arith in
      subst (λ n. (is_used f.uses (entity.Function n) ≡ true) × (c ≡ length (parameter_types (tables_of f) n))) z
      (count_at_number f 0 r f.routines c (sym (ap (λ ls. slice_get ls r) (counts_behind f [] 0 f.routines)) ∙ h)));
}
