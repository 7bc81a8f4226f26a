-- What a question about two types asks is whether they are the same.
use Rattle.std.proofs.Common.{arith, ◌≡◌, ◌<◌, ◌-◌, ◌&&◌, ℕ, zero, suc, Bool, true, false, if◌then◌else◌, refl, sym, ◌∙◌}
use Rattle.dae_types_kinds.specs.declared.types.Shape.{Shape}
use Rattle.dae_types_kinds.specs.declared.types.Shape.TheVariants as shape
use Rattle.dae_types_kinds.specs.Tables.{Tables}
use Rattle.dae_types_kinds.specs.Types.{counts_agree, same_shape, same_within, shape_of}
use Rattle.dae_types_tables.specs.declared.sameness.Question.{Question}
use Rattle.dae_types_tables.specs.declared.sameness.Question.TheVariants as question
use Rattle.dae_types_tables.specs.Questions.{question_of}

abbrev answered : Question → (ℕ → ℕ → Bool) → Bool
answered (question.Settled same) f = same
answered (question.One m n) f = f m n
answered (question.Both m n p q) f = f m n && f p q

arrays_answered : (alike : Bool) (m n : ℕ) (f : ℕ → ℕ → Bool) → answered (if alike then question.One m n else question.Settled false) f ≡ (alike && f m n)
arrays_answered true m n f = refl
arrays_answered false m n f = refl

shapes_answered : (f : ℕ → ℕ → Bool) (x y : Shape) → answered (question_of x y) f ≡ same_shape f x y
shapes_answered f shape.Void shape.Void = refl
shapes_answered f shape.Char shape.Char = refl
shapes_answered f shape.SignedChar shape.SignedChar = refl
shapes_answered f shape.UnsignedChar shape.UnsignedChar = refl
shapes_answered f shape.Short shape.Short = refl
shapes_answered f shape.UnsignedShort shape.UnsignedShort = refl
shapes_answered f shape.Int shape.Int = refl
shapes_answered f shape.Unsigned shape.Unsigned = refl
shapes_answered f (shape.Pointer m) (shape.Pointer n) = refl
shapes_answered f (shape.Array m c) (shape.Array n d) = arrays_answered (counts_agree c d) m n f
shapes_answered f (shape.Struct m) (shape.Struct n) = refl
shapes_answered f (shape.Function r ps) (shape.Function t qs) = refl
shapes_answered f shape.NoParameters shape.NoParameters = refl
shapes_answered f (shape.Parameter ps m) (shape.Parameter qs n) = refl
shapes_answered f x y = refl

-- two types by the question that their shapes ask
answers_same : (k : ℕ) (s : Tables) (m n : ℕ) (x y : Shape) (q : Question) → 0 < k → x ≡ shape_of s m → y ≡ shape_of s n → q ≡ question_of x y → answered q (same_within (k - 1) s) ≡ same_within k s m n
answers_same zero s m n x y q h left right is = absurd (omega (arith, h))
answers_same (suc k) s m n x y q h left right is =
    let e : suc k - 1 ≡ k = omega arith in
    rw (e, is, left, right) (shapes_answered (same_within k s) (shape_of s m) (shape_of s n))

both_by_second : (x y : Bool) → y ≡ true → (x && y) ≡ x
both_by_second true y h = h
both_by_second false y h = refl

neither_by_second : (x y : Bool) → y ≡ false → (x && y) ≡ false
neither_by_second true y h = h
neither_by_second false y h = refl

pub settled_same : (k : ℕ) (s : Tables) (m n : ℕ) (x y : Shape) (same answer : Bool) → 0 < k → x ≡ shape_of s m → y ≡ shape_of s n → question.Settled same ≡ question_of x y → same_within k s m n ≡ answer → same ≡ answer
settled_same k s m n x y same answer h left right is before = answers_same k s m n x y (question.Settled same) h left right is ∙ before

pub one_same : (k : ℕ) (s : Tables) (m n : ℕ) (x y : Shape) (one other : ℕ) (answer : Bool) → 0 < k → x ≡ shape_of s m → y ≡ shape_of s n → question.One one other ≡ question_of x y → same_within k s m n ≡ answer → same_within (k - 1) s one other ≡ answer
one_same k s m n x y one other answer h left right is before = answers_same k s m n x y (question.One one other) h left right is ∙ before

pub both_same : (k : ℕ) (s : Tables) (m n : ℕ) (x y : Shape) (one other first second : ℕ) (called answer : Bool) → 0 < k → x ≡ shape_of s m → y ≡ shape_of s n → question.Both one other first second ≡ question_of x y → called ≡ same_within (k - 1) s first second → called ≡ true → same_within k s m n ≡ answer → same_within (k - 1) s one other ≡ answer
both_same k s m n x y one other first second called answer h left right is by holds before =
    sym (both_by_second (same_within (k - 1) s one other) (same_within (k - 1) s first second) (sym by ∙ holds)) ∙ answers_same k s m n x y (question.Both one other first second) h left right is ∙ before

pub neither_same : (k : ℕ) (s : Tables) (m n : ℕ) (x y : Shape) (one other first second : ℕ) (called answer : Bool) → 0 < k → x ≡ shape_of s m → y ≡ shape_of s n → question.Both one other first second ≡ question_of x y → called ≡ same_within (k - 1) s first second → called ≡ false → same_within k s m n ≡ answer → false ≡ answer
neither_same k s m n x y one other first second called answer h left right is by fails before =
    sym (neither_by_second (same_within (k - 1) s one other) (same_within (k - 1) s first second) (sym by ∙ fails)) ∙ answers_same k s m n x y (question.Both one other first second) h left right is ∙ before
