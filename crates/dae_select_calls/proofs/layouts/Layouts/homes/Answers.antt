use Rattle.std.proofs.Common.{◌≡◌, ℕ, List, [], length, slice_get, Option, Some, None, ap, sym, ◌∙◌, refl, subst}
use Rattle.std.proofs.lemmas.Option.{slice_get_past, slice_get_read}
use Rattle.dae_select_walks.specs.declared.Home.{Home}
use Rattle.dae_select_calls.specs.declared.layouts.FunctionLayout.{FunctionLayout}
use Rattle.dae_select_calls.specs.Layouts.{homes_at}
use Rattle.dae_select_walks.specs.Homes.{home_among}
use Rattle.dae_select_values.specs.Tables.{IsNear}
use Rattle.dae_select_calls.proofs.layouts.Layouts.homes.Goals as goal

pub returns-in-Some-clause-homes : goal.returns-in-Some-clause-homes
returns-in-Some-clause-homes c =
    let all = c.as_slice.result.now in let f = c.args.function in
    let look = c.in-Some.ensures.lookup in
    let here : slice_get c.args.self.now.functions f ≡ Some c.in-Some.layout.now = ap (λ (l : List FunctionLayout). slice_get l f) (sym c.as_slice.ensures) ∙ slice_get_read all (length all) f c.in-Some.layout.now refl look.3.0 look.1 in
    ap (λ (l : List Home). home_among l c.as_slice-residents.result.now) (c.as_slice-in-Some.ensures ∙ ap homes_at (sym here))
    ∙ ap (λ (n : List ℕ). home_among (homes_at (slice_get c.args.self.now.functions f)) n) c.as_slice-residents.ensures

pub returns-in-Some-clause-near : goal.returns-in-Some-clause-near
returns-in-Some-clause-near c = λ small v.
    let all = c.as_slice.result.now in let f = c.args.function in
    let look = c.in-Some.ensures.lookup in
    let here : slice_get c.args.self.now.functions f ≡ Some c.in-Some.layout.now = ap (λ (l : List FunctionLayout). slice_get l f) (sym c.as_slice.ensures) ∙ slice_get_read all (length all) f c.in-Some.layout.now refl look.3.0 look.1 in
    let same = ap (λ (l : List Home). home_among l c.as_slice-residents.result.now) (c.as_slice-in-Some.ensures ∙ ap homes_at (sym here))
    ∙ ap (λ (n : List ℕ). home_among (homes_at (slice_get c.args.self.now.functions f)) n) c.as_slice-residents.ensures in
    subst (λ (h : ℕ → Home). IsNear (h v)) (sym same) (small.homes f v)

pub returns-in-None-clause-homes : goal.returns-in-None-clause-homes
returns-in-None-clause-homes c =
    let f = c.args.function in
    let none : slice_get c.args.self.now.functions f ≡ None = ap (λ (l : List FunctionLayout). slice_get l f) (sym c.as_slice.ensures) ∙ slice_get_past c.as_slice.result.now f c.in-None.ensures.lookup.3 in
    ap (λ (n : List ℕ). home_among [] n) c.as_slice-residents.ensures ∙ ap (λ (o : Option FunctionLayout). home_among (homes_at o) c.args.self.now.residents) (sym none)

pub returns-in-None-clause-near : goal.returns-in-None-clause-near
returns-in-None-clause-near c = λ small v.
    let f = c.args.function in
    let none : slice_get c.args.self.now.functions f ≡ None = ap (λ (l : List FunctionLayout). slice_get l f) (sym c.as_slice.ensures) ∙ slice_get_past c.as_slice.result.now f c.in-None.ensures.lookup.3 in
    let same = ap (λ (n : List ℕ). home_among [] n) c.as_slice-residents.ensures ∙ ap (λ (o : Option FunctionLayout). home_among (homes_at o) c.args.self.now.residents) (sym none) in
    subst (λ (h : ℕ → Home). IsNear (h v)) (sym same) (small.homes f v)
