-- What is one object or function in two files: names that are the same, and the types and kinds that go with them.
use Rattle.std.proofs.Common.{◌≡◌, ◌≢◌, ◌⊎◌, ℕ, zero, suc, Bool, true, false, ◌&&◌, inl, inr, List, length, Option, Some, None, refl, sym, ap, subst, ◌∙◌, arith}
use Rattle.std.proofs.lemmas.Bool.{false≢true, and_parts, or_cases, or_left, or_right, cases_eq}
use Rattle.std.proofs.lemmas.Bool.Decides.{nat_tests}
use Rattle.std.proofs.lemmas.Slice.Eq.{bytes_eq-Decides}
use Rattle.std.specs.Prelude.{slice_get, nat_eq, not}
use Rattle.dae_types_kinds.specs.declared.types.Shape.{Shape}
use Rattle.dae_types_kinds.specs.declared.types.Shape.TheVariants as shape
use Rattle.dae_types_kinds.specs.declared.tables.Entity.{Entity}
use Rattle.dae_types_kinds.specs.declared.tables.Entity.TheVariants as entity
use Rattle.dae_types_kinds.specs.Types as types
use Rattle.dae_types_kinds.specs.Types.{shape_of}
use Rattle.dae_types_file_plans.specs.declared.declarations.FileDeclaration.{FileDeclaration}
use Rattle.dae_types_typed.specs.declared.files.FileParts.{FileParts}
use Rattle.dae_types_typed.specs.Linkage.{is_object, is_function, name_in, same_name, type_in}
use Rattle.dae_types_typed.specs.Sound.{tables_of, same_entity, IsSound, IsSoundDeclaration, is_there}
use Rattle.dae_unit.specs.declared.errors.Clash.TheVariants.{Types}
use Rattle.dae_unit.specs.declared.rows.FileRow.{FileRow}
use Rattle.dae_unit.specs.Across.{same_across, same_within_files, shape_across}
use Rattle.dae_unit.specs.Linkage.{external_name, is_one, entity_of, rows_of}
use Rattle.dae_unit.specs.Clashes.{clashes, first_clash, same_types, name_of}
use Rattle.dae_unit.proofs.LawsOfEntities.{entities_same}
use Rattle.dae_unit_join.proofs.Among.{Among}
use Rattle.dae_unit_join.proofs.Rows.{apart}

pub names_equal : (a b : Option (List ℕ)) → same_name a b ≡ true → a ≡ b
names_equal None b h = absurd (false≢true h)
names_equal (Some x) None h = absurd (false≢true h)
names_equal (Some x) (Some y) h = ap Some (grind (arith, bytes_eq-Decides x y))

pub one_cases : (files : List FileParts) (j : ℕ) (x : Entity) (k : ℕ) (y : Entity) → is_one files j x k y ≡ true → (same_name (external_name files j x) (external_name files k y) ≡ true) ⊎ ((j ≡ k) × (x ≡ y))
unfolding is_one
one_cases files j x k y h = elim (or_cases (same_name (external_name files j x) (external_name files k y)) (nat_eq j k && same_entity x y) h) [
  | inl e ↦ inl e
  | inr e ↦ (let parts = and_parts (nat_eq j k) (same_entity x y) e in let same : j ≡ k = grind (arith, nat_tests, parts.0) in inr (same, entities_same x y parts.1))
]

pub one_by_name : (files : List FileParts) (j : ℕ) (x : Entity) (k : ℕ) (y : Entity) → same_name (external_name files j x) (external_name files k y) ≡ true → is_one files j x k y ≡ true
unfolding is_one
one_by_name files j x k y h = or_left (same_name (external_name files j x) (external_name files k y)) (nat_eq j k && same_entity x y) h

-- an object is one with itself
pub one_itself : (files : List FileParts) (k : ℕ) (x : Entity) → is_object x ≡ true → is_one files k x k x ≡ true
unfolding is_one
one_itself files k (entity.Object n) h = or_right (same_name (external_name files k (entity.Object n)) (external_name files k (entity.Object n))) (nat_eq k k && nat_eq n n) (grind (arith, nat_tests))
one_itself files k x h = absurd (false≢true h)

pub one_transitive : (files : List FileParts) (i : ℕ) (x : Entity) (j : ℕ) (y : Entity) (k : ℕ) (z : Entity) → is_one files i x j y ≡ true → is_one files j y k z ≡ true → is_one files i x k z ≡ true
one_transitive files i x j y k z g h = elim (one_cases files j y k z h) [
  | inr e ↦ subst (λ w. is_one files i x w z ≡ true) e.0 (subst (λ w. is_one files i x j w ≡ true) e.1 g)
  | inl b ↦ elim (one_cases files i x j y g) [
    | inr e ↦ subst (λ w. is_one files w x k z ≡ true) (sym e.0) (subst (λ w. is_one files j w k z ≡ true) (sym e.1) h)
    | inl a ↦ one_by_name files i x k z (subst (λ w. same_name w (external_name files k z) ≡ true) (sym (names_equal (external_name files i x) (external_name files j y) a)) b)
  ]
]

pub name_at : (files : List FileParts) (k : ℕ) (f : FileParts) (e : Entity) → slice_get files k ≡ Some f → external_name files k e ≡ name_in f e
unfolding external_name
name_at files k f e h = let go : Option FileParts → Option (List ℕ) = λ o. elim o [ None ↦ None | Some g ↦ name_in g e ] in ap go h

-- ---- two of one name in two files have the same type

-- one and the same of one file, or of two files and with the same type
abbrev pub AreRelated : (f g : FileParts) (x y : Entity) → Type 0
AreRelated f g x y = ((f ≡ g) × (x ≡ y)) ⊎ ((same_across f g (type_in f x) (type_in g y) ≡ true) ⊎ (same_across g f (type_in g y) (type_in f x) ≡ true))

-- where not both fail, and the first does, the second holds
pub then_second : (b c : Bool) → b ≡ false → (not b && not c) ≡ false → c ≡ true
then_second true c e h = absurd cc
then_second false true e h = refl
then_second false false e h = absurd cc

no_clash : (files : List FileParts) (x y : FileRow) (f g : FileParts) → slice_get files x.file ≡ Some f → slice_get files y.file ≡ Some g → same_name (name_of files x) (name_of files y) ≡ true → x.file ≢ y.file → clashes files Types x y ≡ false → same_across f g (type_in f (entity_of x)) (type_in g (entity_of y)) ≡ true
unfolding clashes
no_clash files x y f g p q name other h = by (slice_get files x.file) (slice_get files y.file) p q (same_name (name_of files x) (name_of files y)) name h
  where
    by : (o u : Option FileParts) → o ≡ Some f → u ≡ Some g → (b : Bool) → b ≡ true → (b && (not (nat_eq x.file y.file) && not (same_types o u (entity_of x) (entity_of y)))) ≡ false → same_across f g (type_in f (entity_of x)) (type_in g (entity_of y)) ≡ true
    by None u p q b e h = absurd cc
    by (Some a) None p q b e h = absurd cc
    by (Some a) (Some b) p q false e h = absurd cc
    by (Some a) (Some b) p q true e h =
        let first : a ≡ f = cc in
        let second : b ≡ g = cc in
        let apart' : nat_eq x.file y.file ≡ false = grind (arith, nat_tests, other) in
        let found : same_across a b (type_in a (entity_of x)) (type_in b (entity_of y)) ≡ true = then_second (nat_eq x.file y.file) (same_across a b (type_in a (entity_of x)) (type_in b (entity_of y))) apart' h in
        subst (λ z. same_across z g (type_in z (entity_of x)) (type_in g (entity_of y)) ≡ true) first (subst (λ z. same_across a z (type_in a (entity_of x)) (type_in z (entity_of y)) ≡ true) second found)

pub related : (files : List FileParts) → first_clash files Types (rows_of files) ≡ None → (x y : FileRow) (f g : FileParts) → slice_get files x.file ≡ Some f → slice_get files y.file ≡ Some g → IsSound f → Among x (rows_of files) → Among y (rows_of files) → is_one files x.file (entity_of x) y.file (entity_of y) ≡ true → AreRelated f g (entity_of x) (entity_of y)
related files none x y f g p q sf m n one = elim (one_cases files x.file (entity_of x) y.file (entity_of y) one) [
  | inr e ↦ inl (same_file e.0, e.1)
  | inl name ↦ elim (cases_eq x.file y.file) [
    | inl e ↦ inl (same_file e, sf.names (entity_of x) (entity_of y) (here name (same_file e)))
    | inr other ↦ elim (apart files Types (rows_of files) none x y m n) [
      | inl e ↦ absurd (other (ap (λ (z : FileRow). z.file) e))
      | inr e ↦ elim e [
        | inl h ↦ inr (inl (no_clash files x y f g p q name other h))
        | inr h ↦ inr (inr (no_clash files y x g f q p (back name) (λ e. other (sym e)) h))
      ]
    ]
  ]
]
  where
    same_file : x.file ≡ y.file → f ≡ g
    same_file e = let h : Some f ≡ Some g = sym p ∙ ap (slice_get files) e ∙ q in cc

    here : same_name (external_name files x.file (entity_of x)) (external_name files y.file (entity_of y)) ≡ true → f ≡ g → same_name (name_in f (entity_of x)) (name_in f (entity_of y)) ≡ true
    here name e =
        let a = name_at files x.file f (entity_of x) p in
        let b = name_at files y.file g (entity_of y) q in
        subst (λ z. same_name (name_in f (entity_of x)) (name_in z (entity_of y)) ≡ true) (sym e) (subst (λ z. same_name (name_in f (entity_of x)) z ≡ true) b (subst (λ z. same_name z (external_name files y.file (entity_of y)) ≡ true) a name))

    back : same_name (external_name files x.file (entity_of x)) (external_name files y.file (entity_of y)) ≡ true → same_name (external_name files y.file (entity_of y)) (external_name files x.file (entity_of x)) ≡ true
    back name =
        let e = names_equal (external_name files x.file (entity_of x)) (external_name files y.file (entity_of y)) name in
        subst (λ z. same_name z (external_name files x.file (entity_of x)) ≡ true) e (subst (λ z. same_name (external_name files x.file (entity_of x)) z ≡ true) (sym e) name)

-- ---- kinds

kinds_within : (f g : FileParts) (k : ℕ) (x y : Shape) → shape_across (same_within_files k f g) f g false x y ≡ true → types.is_function x ≡ types.is_function y
kinds_within f g k (shape.Function r ps) (shape.Function t qs) h = refl
kinds_within f g k (shape.Function r ps) y h = absurd (false≢true h)
kinds_within f g k x (shape.Function t qs) h = absurd (false≢true h)
kinds_within f g k x y h = refl

kinds_across : (f g : FileParts) (m n : ℕ) → same_across f g m n ≡ true → types.is_function (shape_of (tables_of f) m) ≡ types.is_function (shape_of (tables_of g) n)
unfolding same_across
kinds_across f g m n h = by (length f.shapes) h
  where
    by : (k : ℕ) → same_within_files k f g false m n ≡ true → types.is_function (shape_of (tables_of f) m) ≡ types.is_function (shape_of (tables_of g) n)
    by zero h = absurd (false≢true h)
    by (suc k) h = kinds_within f g k (shape_of (tables_of f) m) (shape_of (tables_of g) n) h

-- both are functions, or neither is
pub kinds_alike : (f g : FileParts) (d e : FileDeclaration) → IsSoundDeclaration f d → IsSoundDeclaration g e → AreRelated f g d.entity e.entity → is_function d.entity ≡ is_function e.entity
kinds_alike f g d e sd se (inl h) = ap is_function h.1
kinds_alike f g d e sd se (inr (inl h)) = sym sd.kind ∙ kinds_across f g (type_in f d.entity) (type_in g e.entity) h ∙ se.kind
kinds_alike f g d e sd se (inr (inr h)) = sym sd.kind ∙ sym (kinds_across g f (type_in g e.entity) (type_in f d.entity) h) ∙ se.kind

-- what is there and no function is an object
pub object_if : (f : FileParts) (x : Entity) → is_there f x ≡ true → is_function x ≡ false → is_object x ≡ true
object_if f (entity.Object n) h k = refl
object_if f (entity.Function n) h k = absurd cc
object_if f x h k = absurd (false≢true h)
