-- The form of a program and the streams of its form are small beside the tokens of the files.
use Rattle.std.proofs.Common.{◌≡◌, ℕ, zero, suc, ◌+◌, ◌*◌, ◌≤◌, Bool, List, [], ◌∷◌, Some, inl, inr, refl, sym, subst, arith}
use Rattle.std.specs.Prelude.{slice_get, nat_eq}
use Rattle.dae_program.specs.Views.{view_statements}
use Rattle.dae_program.specs.declared.program.Function.{Function}
use Rattle.dae_program.specs.declared.program.Program.{Program}
use Rattle.dae_ir.specs.Classes.{Classes}
use Rattle.dae_ir.specs.Form.{form_of}
use Rattle.dae_ir.specs.Programs.{IsFunctionOf, AreFunctionsOf}
use Rattle.dae_ir.specs.Streams.{actions_of}
use Rattle.dae_ir.specs.declared.form.Function.{Function as FormFunction}
use Rattle.dae_ir.specs.declared.stream.StreamFunction.{StreamFunction}
use Rattle.dae_sizes.specs.Worth.{IsDefinition}
use Rattle.dae_lower_formed.specs.Formed.{plain, IsFunctionFormOf, AreFormsOf, IsFormOf}
use Rattle.dae_lower_formed.specs.Sizes.{IsSmall, FormsSmall}
use Rattle.dae_ir_pair.specs.Sizes.{burden}
use Rattle.dae_lower_formed.specs.Code.{loaded_burden, loads_in, most_code_in_function, CodeWithin}
use Rattle.dae_ir_pair.specs.Sizes.{words_in, WordsAreBounded}
use Rattle.dae_sizes.specs.From.{AreFrom}
use Rattle.dae_sizes.specs.Small.{tokens, text, HasFew, HasLittle}
use Rattle.dae_sizes.specs.Sources.{Source, sources_in}
use Rattle.dae_sizes.specs.Promise.{FunctionsAreFew, FunctionsAreLittle, FormsAreFew, FormsAreLittle, StreamsAreLittle}
use Rattle.dae_sizes.proofs.From.{AreAlike}

from_alike : {X Y Z : Type 0} (R : X → Y → Type 0) (T : Y → Z → Type 0) (S : X → Z → Type 0) → ((x : X) (y : Y) (z : Z) → R x y → T y z → S x z) →
    (xs : List X) (ys : List Y) (zs : List Z) → AreFrom R xs ys → AreAlike T ys zs → AreFrom S xs zs
from_alike R T S h xs [] [] r t = tt
from_alike R T S h xs [] (z ∷ zs) r t = absurd t
from_alike R T S h xs (y ∷ ys) [] r t = tt
from_alike R T S h [] (y ∷ ys) (z ∷ zs) r t = absurd r
from_alike R T S h (x ∷ xs) (y ∷ ys) (z ∷ zs) (inl r) t = inl (h x y z r.0 t.0, from_alike R T S h xs ys zs r.1 t.1)
from_alike R T S h (x ∷ xs) (y ∷ ys) (z ∷ zs) (inr r) t = inr (from_alike R T S h xs (y ∷ ys) (z ∷ zs) r t)

-- ---- forms

-- what holds at each place holds of all
forms_alike : (p : Program) (T : Function → FormFunction → Type 0) (k : ℕ) (fs : List Function) (gs : List FormFunction) → AreFormsOf p k fs gs → ((j : ℕ) (f : Function) (g : FormFunction) → slice_get fs j ≡ Some f → slice_get gs j ≡ Some g → T f g) → AreAlike T fs gs
forms_alike p T k [] [] a h = tt
forms_alike p T k [] (g ∷ gs) a h = absurd a
forms_alike p T k (f ∷ fs) [] a h = absurd a
forms_alike p T k (f ∷ fs) (g ∷ gs) a h = (h zero f g refl refl, forms_alike p T (k + 1) fs gs a.1 (λ j x y d e. h (suc j) x y d e))

pub forms_are_few : FormsSmall → FunctionsAreFew → FormsAreFew
forms_are_few small few cs ir is =
    let p = is.program in
    let R : Source → Function → Type 0 = λ x f. HasFew x.external f.variables f.parameters (view_statements f.body) in
    let T : Function → FormFunction → Type 0 = λ f g. IsSmall (plain p f) f.variables g in
    let S : Source → FormFunction → Type 0 = λ x g. IsDefinition x.external × (7 + g.variables ≤ 4 * tokens x.external) × (loads_in (form_of g.body) ≤ g.variables) in
    let forms : IsFormOf p ir = is.form in
    from_alike R T S (λ x f g r t. (r.0, (let h = r.1 in omega (arith, h, t.variables)), omega (arith, t.loads))) (sources_in cs) p.functions ir.functions
    (subst (AreFrom R (sources_in cs)) (sym is.functions) (few cs is.typed is.from))
    (forms_alike p T 0 p.functions ir.functions forms.functions (λ j f g d e. small p ir forms j f g d e))

code_alike : (within : CodeWithin) (p : Program) (k : ℕ) (fs : List Function) (gs : List FormFunction) → AreFormsOf p k fs gs → AreAlike (λ f (g : FormFunction). loaded_burden (form_of g.body) ≤ most_code_in_function (plain p f)) fs gs
code_alike within p k [] [] a = tt
code_alike within p k [] (g ∷ gs) a = absurd a
code_alike within p k (f ∷ fs) [] a = absurd a
code_alike within p k (f ∷ fs) (g ∷ gs) a =
    let one : IsFunctionFormOf p k f g = a.0 in
    (rw one.body (within f.place (nat_eq k p.main) (plain p f) f.variables), code_alike within p (k + 1) fs gs a.1)

pub forms_are_little : CodeWithin → FunctionsAreLittle → FormsAreLittle
forms_are_little within little cs ir is =
    let p = is.program in
    let R : Source → Function → Type 0 = λ x f. HasLittle x.literals x.external f.parameters (view_statements f.body) in
    let T : Function → FormFunction → Type 0 = λ f g. loaded_burden (form_of g.body) ≤ most_code_in_function (plain p f) in
    let S : Source → FormFunction → Type 0 = λ x g. 28 + loaded_burden (form_of g.body) ≤ 16 * tokens x.external + 8 * text x.literals x.external in
    let forms : IsFormOf p ir = is.form in
    from_alike R T S (λ x f g r t. omega (arith, r, t)) (sources_in cs) p.functions ir.functions
    (subst (AreFrom R (sources_in cs)) (sym is.functions) (little cs is.typed is.from))
    (code_alike within p 0 p.functions ir.functions forms.functions)

-- ---- streams

words_alike : (bounded : WordsAreBounded) (by_a : Bool) (of : ℕ → Classes) (cap k : ℕ) (fs : List FormFunction) (gs : List StreamFunction) → AreFunctionsOf by_a of cap k fs gs → AreAlike (λ (f : FormFunction) (g : StreamFunction). words_in (actions_of g.body) ≤ 14 * burden (form_of f.body)) fs gs
words_alike bounded by_a of cap k [] [] a = tt
words_alike bounded by_a of cap k [] (g ∷ gs) a = absurd a
words_alike bounded by_a of cap k (f ∷ fs) [] a = absurd a
words_alike bounded by_a of cap k (f ∷ fs) (g ∷ gs) a =
    let one : IsFunctionOf by_a of (of k) cap f g = a.0 in
    (rw one.body (bounded by_a of (of k) cap (form_of f.body)), words_alike bounded by_a of cap (k + 1) fs gs a.1)

pub streams_are_little : WordsAreBounded → FormsAreLittle → StreamsAreLittle
streams_are_little bounded little cs ir by_a of cap s is stream =
    let R : Source → FormFunction → Type 0 = λ x g. 28 + loaded_burden (form_of g.body) ≤ 16 * tokens x.external + 8 * text x.literals x.external in
    let T : FormFunction → StreamFunction → Type 0 = λ f g. words_in (actions_of g.body) ≤ 14 * burden (form_of f.body) in
    let S : Source → StreamFunction → Type 0 = λ x g. words_in (actions_of g.body) + 25 ≤ 224 * tokens x.external + 112 * text x.literals x.external in
    from_alike R T S (λ x f g r t. omega (arith, r, t)) (sources_in cs) ir.functions s.functions (little cs ir is) (words_alike bounded by_a of cap 0 ir.functions s.functions stream.functions)
