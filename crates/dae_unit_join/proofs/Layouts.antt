-- Layouts of types: their alignment, what is incomplete, and that a type which is the same in two files is laid out alike.
use Rattle.std.proofs.Common.{◌≡◌, ℕ, zero, suc, ◌<◌, ◌≤◌, Bool, true, false, ◌&&◌, List, [], ◌∷◌, length, Option, Some, None, inl, inr, refl, sym, ap, subst, ◌∙◌, arith}
use Rattle.std.proofs.lemmas.Bool.{false≢true, cases_lt, and_parts, and_from}
use Rattle.std.proofs.lemmas.Bool.Decides.{nat_tests}
use Rattle.std.proofs.lemmas.Option.{slice_get_past}
use Rattle.std.specs.Prelude.{filter, slice_get, is_some, if◌then◌else◌}
use Rattle.std.specs.List.{list_all}
use Rattle.std.specs.Str.{bytes_eq}
use Rattle.dae_types_kinds.specs.declared.types.Layout.{Layout}
use Rattle.dae_types_kinds.specs.declared.types.Shape.{Shape}
use Rattle.dae_types_kinds.specs.declared.types.Shape.TheVariants as shape
use Rattle.dae_types_kinds.specs.declared.tables.Component.{Component}
use Rattle.dae_types_kinds.specs.Tables.{Tables}
use Rattle.dae_types_kinds.specs.Types.{shape_of, shape_or, is_complete, is_complete_shape, is_function, layout, layout_of, layout_else, layout_at, layout_within, shape_layout, repeated, placed, counts_agree}
use Rattle.dae_types_typed.specs.declared.files.FileParts.{FileParts}
use Rattle.dae_types_typed.specs.Sound.{tables_of, members_of, is_member_of, laid_out, has_complete_type, AreElementsComplete, AreLaidOut, IsSound, bytes_of}
use Rattle.dae_unit.specs.Across.{same_within_files, shape_across, same_members, same_bodies, same_tag, tag_of}

-- ---- types by their shapes

pub past_shapes : (s : Tables) (n : ℕ) → length s.shapes ≤ n → shape_of s n ≡ shape.Void
unfolding shape_of
past_shapes s n h = ap shape_or (slice_get_past s.shapes n h)

stable : (s : Tables) → AreElementsComplete s → (a b n : ℕ) → n < a → n < b → layout_within a s n ≡ layout_within b s n
stable s el zero b n l m = absurd (omega arith)
stable s el (suc a) zero n l m = absurd (omega arith)
stable s el (suc a) (suc b) n l m = by (shape_of s n) refl (λ e i j. stable s el a b e i j)
  where
    by : (x : Shape) → shape_of s n ≡ x → ((e : ℕ) → e < a → e < b → layout_within a s e ≡ layout_within b s e) → shape_layout (layout_within a s) s x ≡ shape_layout (layout_within b s) s x
    by (shape.Array e c) p later = let h = (el n e c p).0 in ap (repeated c) (later e (omega arith) (omega arith))
    by x p later = refl

no_array : (e : ℕ) (c : Option ℕ) → shape.Void ≡ shape.Array e c → ⊥
no_array e c p = cc

deeper : (s : Tables) → AreElementsComplete s → (n k : ℕ) → length s.shapes ≡ suc k → (x : Shape) → shape_of s n ≡ x → shape_layout (layout_within k s) s x ≡ shape_layout (layout_within (suc k) s) s x
deeper s el n k q (shape.Array e c) p =
    let h = (el n e c p).0 in
    ap (repeated c) (stable s el k (suc k) e (elim (cases_lt n (suc k)) [ inl l ↦ omega arith | inr l ↦ absurd (no_array e c (sym (past_shapes s n (omega arith)) ∙ p)) ]) (elim (cases_lt n (suc k)) [ inl l ↦ omega arith | inr l ↦ absurd (no_array e c (sym (past_shapes s n (omega arith)) ∙ p)) ]))
deeper s el n k q x p = refl

-- an array lies behind its elements, so that a layout doesn't depend on a counter
pub layout_is : (s : Tables) → AreElementsComplete s → (n : ℕ) (x : Shape) → shape_of s n ≡ x → layout_at s n ≡ shape_layout (layout_at s) s x
unfolding layout_at
layout_is s el n x p = by (length s.shapes) refl
  where
    by : (k : ℕ) → length s.shapes ≡ k → layout_within k s n ≡ shape_layout (layout_within k s) s x
    by zero q = subst (λ y. layout_within zero s n ≡ shape_layout (layout_within zero s) s y) (sym (past_shapes s n (omega arith)) ∙ p) refl
    by (suc k) q = ap (shape_layout (layout_within k s) s) p ∙ deeper s el n k q x p

-- ---- alignment

pub laid_align : (s : Tables) (l : Layout) (cs : List Component) → 1 ≤ l.align → let m = laid_out s l cs in 1 ≤ m.align
laid_align s l [] h = h
laid_align s l (c ∷ cs) h = laid_align s (placed l (layout_at s c.type_id)) cs (omega arith)

align_else : (s : Tables) → AreLaidOut s → (m : ℕ) (o : Option Layout) → layout_of s m ≡ o → let l = layout_else o in 1 ≤ l.align
align_else s lay m None p = omega arith
align_else s lay m (Some l) p = subst (λ (l : Layout). 1 ≤ l.align) (sym (lay m l p)) (laid_align s (layout 0 1) (members_of s m) (omega arith))

align_repeated : (c : Option ℕ) (l : Layout) → let m = repeated c l in m.align ≡ l.align
align_repeated None l = refl
align_repeated (Some n) l = refl

align_within : (s : Tables) → AreLaidOut s → (k n : ℕ) → let l = layout_within k s n in 1 ≤ l.align
align_within s lay zero n = omega arith
align_within s lay (suc k) n = by (shape_of s n) (align_within s lay k)
  where
    by : (x : Shape) → ((e : ℕ) → let l = layout_within k s e in 1 ≤ l.align) → let l = shape_layout (layout_within k s) s x in 1 ≤ l.align
    by (shape.Array e c) later = subst (λ m. 1 ≤ m) (sym (align_repeated c (layout_within k s e))) (later e)
    by (shape.Struct m) later = align_else s lay m (layout_of s m) refl
    by x later = omega arith

-- no alignment is 0
pub align_at : (s : Tables) → AreLaidOut s → (n : ℕ) → let l = layout_at s n in 1 ≤ l.align
unfolding layout_at
align_at s lay n = align_within s lay (length s.shapes) n

-- ---- incomplete types

empty_else : (o : Option Layout) → is_some o ≡ false → let l = layout_else o in l.size ≡ 0
empty_else None h = refl
empty_else (Some l) h = absurd cc

-- an object of an incomplete type has no byte
pub incomplete_empty : (s : Tables) → AreElementsComplete s → (n : ℕ) → is_complete s n ≡ false → is_function (shape_of s n) ≡ false → let l = layout_at s n in l.size ≡ 0
incomplete_empty s el n h k = by (shape_of s n) refl h k
  where
    at : (x : Shape) → shape_of s n ≡ x → (let l = shape_layout (layout_at s) s x in l.size ≡ 0) → let l = layout_at s n in l.size ≡ 0
    at x p z = subst (λ (l : Layout). l.size ≡ 0) (sym (layout_is s el n x p)) z

    by : (x : Shape) → shape_of s n ≡ x → is_complete_shape s x ≡ false → is_function x ≡ false → let l = layout_at s n in l.size ≡ 0
    by shape.Void p h k = at shape.Void p refl
    by (shape.Array e None) p h k = at (shape.Array e None) p refl
    by (shape.Struct m) p h k = at (shape.Struct m) p (empty_else (layout_of s m) h)
    by x p h k = absurd cc

-- ---- two files

-- alike in alignment, and wholly where both types are complete
pub record AreAlike (l m : Layout) (c d : Bool) : Type 0 where
  pub align : l.align ≡ m.align
  pub same : c ≡ true → d ≡ true → l ≡ m

pub alike : (l : Layout) (c d : Bool) → AreAlike l l c d
alike l c d = record { align = refl; same = λ p q. refl }

alike_by : (l m : Layout) (c d : Bool) → l ≡ m → AreAlike l m c d
alike_by l m c d e = record { align = ap (λ (x : Layout). x.align) e; same = λ p q. e }

repeated_alike : (c d : Option ℕ) (l m : Layout) → counts_agree c d ≡ true → l ≡ m → AreAlike (repeated c l) (repeated d m) (is_some c) (is_some d)
repeated_alike None None l m h e = alike_by (repeated None l) (repeated None m) false false (ap (repeated None) e)
repeated_alike None (Some d) l m h e = record { align = ap (λ (x : Layout). x.align) e; same = λ p q. absurd (false≢true p) }
repeated_alike (Some c) None l m h e = record { align = ap (λ (x : Layout). x.align) e; same = λ p q. absurd (false≢true q) }
repeated_alike (Some c) (Some d) l m h e =
    let same : c ≡ d = grind (arith, nat_tests) in
    alike_by (repeated (Some c) l) (repeated (Some d) m) true true (ap (repeated (Some c)) e ∙ ap (λ n. repeated (Some n) m) same)

passes_filter : {A : Type 0} (p q : A → Bool) (xs : List A) → list_all p xs ≡ true → list_all p (filter q xs) ≡ true
passes_filter p q [] h = refl
passes_filter p q (x ∷ xs) h = let parts = and_parts (p x) (list_all p xs) h in by (q x) parts.0 (passes_filter p q xs parts.1)
  where
    by : (b : Bool) → p x ≡ true → list_all p (filter q xs) ≡ true → list_all p (if b then x ∷ filter q xs else filter q xs) ≡ true
    by true h all = and_from (p x) (list_all p (filter q xs)) h all
    by false h all = all

module _ (f g : FileParts) (sf : IsSound f) (sg : IsSound g) where
  abbrev Alike : (m n : ℕ) → Type 0
  Alike m n = AreAlike (layout_at (tables_of f) m) (layout_at (tables_of g) n) (is_complete (tables_of f) m) (is_complete (tables_of g) n)

  members_alike : (same : ℕ → ℕ → Bool) → ((m n : ℕ) → same m n ≡ true → Alike m n) → (l : Layout) (cs ds : List Component) → same_members same f g cs ds ≡ true → list_all (has_complete_type (tables_of f)) cs ≡ true → list_all (has_complete_type (tables_of g)) ds ≡ true → laid_out (tables_of f) l cs ≡ laid_out (tables_of g) l ds
  members_alike same later l [] [] h a b = refl
  members_alike same later l [] (d ∷ ds) h a b = absurd (false≢true h)
  members_alike same later l (c ∷ cs) [] h a b = absurd (false≢true h)
  members_alike same later l (c ∷ cs) (d ∷ ds) h a b =
      let parts = and_parts (bytes_eq (bytes_of f.names c.name) (bytes_of g.names d.name)) (same c.type_id d.type_id && same_members same f g cs ds) h in
      let rest = and_parts (same c.type_id d.type_id) (same_members same f g cs ds) parts.1 in
      let left = and_parts (has_complete_type (tables_of f) c) (list_all (has_complete_type (tables_of f)) cs) a in
      let right = and_parts (has_complete_type (tables_of g) d) (list_all (has_complete_type (tables_of g)) ds) b in
      let one = later c.type_id d.type_id rest.0 in
      let e : layout_at (tables_of f) c.type_id ≡ layout_at (tables_of g) d.type_id = one.same left.0 right.0 in
      ap (λ m. laid_out (tables_of f) (placed l m) cs) e ∙ members_alike same later (placed l (layout_at (tables_of g) d.type_id)) cs ds rest.1 left.1 right.1

  bodies_alike : (same : ℕ → ℕ → Bool) → ((m n : ℕ) → same m n ≡ true → Alike m n) → (m n : ℕ) → same_bodies same f g m n ≡ true → layout_else (layout_of (tables_of f) m) ≡ layout_else (layout_of (tables_of g) n)
  bodies_alike same later m n h =
      let parts = and_parts (is_some (layout_of (tables_of f) m) && is_some (layout_of (tables_of g) n)) (same_members same f g (members_of (tables_of f) m) (members_of (tables_of g) n)) h in
      let both = and_parts (is_some (layout_of (tables_of f) m)) (is_some (layout_of (tables_of g) n)) parts.0 in
      let laid = members_alike same later (layout 0 1) (members_of (tables_of f) m) (members_of (tables_of g) n) parts.1 (passes_filter (has_complete_type (tables_of f)) (is_member_of m) f.components sf.members) (passes_filter (has_complete_type (tables_of g)) (is_member_of n) g.components sg.members) in
      by (layout_of (tables_of f) m) refl (layout_of (tables_of g) n) refl both.0 both.1 laid
    where
      by : (o : Option Layout) → layout_of (tables_of f) m ≡ o → (q : Option Layout) → layout_of (tables_of g) n ≡ q → is_some o ≡ true → is_some q ≡ true → laid_out (tables_of f) (layout 0 1) (members_of (tables_of f) m) ≡ laid_out (tables_of g) (layout 0 1) (members_of (tables_of g) n) → layout_else o ≡ layout_else q
      by None e q p a b laid = absurd (false≢true a)
      by (Some l) e None p a b laid = absurd (false≢true b)
      by (Some l) e (Some k) p a b laid = sf.layouts m l e ∙ laid ∙ sym (sg.layouts n k p)

  shapes_alike : (same : Bool → ℕ → ℕ → Bool) → ((m n : ℕ) → same false m n ≡ true → Alike m n) → (m n : ℕ) (x : Shape) → shape_of (tables_of f) m ≡ x → (y : Shape) → shape_of (tables_of g) n ≡ y → shape_across same f g false x y ≡ true → AreAlike (shape_layout (layout_at (tables_of f)) (tables_of f) x) (shape_layout (layout_at (tables_of g)) (tables_of g) y) (is_complete_shape (tables_of f) x) (is_complete_shape (tables_of g) y)
  shapes_alike same later m n (shape.Array a c) p (shape.Array b d) q h =
      let parts = and_parts (counts_agree c d) (same false a b) h in
      let one = later a b parts.1 in
      repeated_alike c d (layout_at (tables_of f) a) (layout_at (tables_of g) b) parts.0 (one.same (sf.elements m a c p).1 (sg.elements n b d q).1)
  shapes_alike same later m n (shape.Struct a) p (shape.Struct b) q h =
      let parts = and_parts (same_tag (tag_of f (slice_get f.structures a)) (tag_of g (slice_get g.structures b))) (same_bodies (same false) f g a b) h in
      alike_by (layout_else (layout_of (tables_of f) a)) (layout_else (layout_of (tables_of g) b)) (is_some (layout_of (tables_of f) a)) (is_some (layout_of (tables_of g) b)) (bodies_alike (same false) later a b parts.1)
  shapes_alike same later m n shape.Void p shape.Void q h = alike (layout 0 1) false false
  shapes_alike same later m n shape.Char p shape.Char q h = alike (layout 1 1) true true
  shapes_alike same later m n shape.SignedChar p shape.SignedChar q h = alike (layout 1 1) true true
  shapes_alike same later m n shape.UnsignedChar p shape.UnsignedChar q h = alike (layout 1 1) true true
  shapes_alike same later m n shape.Short p shape.Short q h = alike (layout 2 2) true true
  shapes_alike same later m n shape.UnsignedShort p shape.UnsignedShort q h = alike (layout 2 2) true true
  shapes_alike same later m n shape.Int p shape.Int q h = alike (layout 4 4) true true
  shapes_alike same later m n shape.Unsigned p shape.Unsigned q h = alike (layout 4 4) true true
  shapes_alike same later m n (shape.Pointer a) p (shape.Pointer b) q h = alike (layout 4 4) true true
  shapes_alike same later m n (shape.Function r ps) p (shape.Function t qs) q h = alike (layout 4 4) false false
  shapes_alike same later m n shape.NoParameters p shape.NoParameters q h = alike (layout 4 4) true true
  shapes_alike same later m n (shape.Parameter ps a) p (shape.Parameter qs b) q h = alike (layout 4 4) true true
  shapes_alike same later m n x p y q h = absurd (false≢true h)

  -- one type of two files is laid out alike
  pub types_alike : (k m n : ℕ) → same_within_files k f g false m n ≡ true → Alike m n
  types_alike zero m n h = absurd (false≢true h)
  types_alike (suc k) m n h =
      let one = shapes_alike (same_within_files k f g) (types_alike k) m n (shape_of (tables_of f) m) refl (shape_of (tables_of g) n) refl h in
      record {
        align = ap (λ (l : Layout). l.align) (layout_is (tables_of f) sf.elements m (shape_of (tables_of f) m) refl) ∙ one.align ∙ sym (ap (λ (l : Layout). l.align) (layout_is (tables_of g) sg.elements n (shape_of (tables_of g) n) refl));
        same = λ a b. layout_is (tables_of f) sf.elements m (shape_of (tables_of f) m) refl ∙ one.same a b ∙ sym (layout_is (tables_of g) sg.elements n (shape_of (tables_of g) n) refl);
      }
