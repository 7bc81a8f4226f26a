use Rattle.std.proofs.Common.{◌≡◌, ℕ, ◌-◌, ◌<◌, ◌^◌, true, List, inl, refl, subst, sym, ◌∙◌}
use Rattle.std.specs.List.{AllByRecursion, AllZip, list_all}
use Rattle.std.proofs.lemmas.Result.{err_from_is_err_and}
use Rattle.dae_ir.specs.declared.stream.StreamFunction.{StreamFunction}
use Rattle.dae_select_calls.specs.declared.layouts.FunctionLayout.{FunctionLayout}
use Rattle.dae_link.specs.Residents.{AreResidents}
use Rattle.dae_link.specs.Settled.{IsLayoutOf, IsFrameWithin, HasAtMost, is_numberable}
use Rattle.dae_link.proofs.Settling.{zip_few, too_deep}
use Rattle.dae_link.proofs.homes.unplaced_layouts.Goals as goal

pub layouts_of-requires : goal.layouts_of-requires
layouts_of-requires c = subst (λ (fs : List StreamFunction). list_all is_numberable fs ≡ true) (sym c.as_slice.ensures) c.requires

pub largest_frame-largest-requires : goal.largest_frame-largest-requires
largest_frame-largest-requires c =
    subst (λ (ls : List FunctionLayout). AllByRecursion (λ (l : FunctionLayout). l.variables < 2 ^ 26 - 19) ls) (sym c.as_slice-2.ensures.value)
    (zip_few _ _ c.in_ok-functions.ensures.layouts)

pub returns-in_err-functions-clause-private : goal.returns-in_err-functions-clause-private
returns-in_err-functions-clause-private c =
    let p = err_from_is_err_and c.from_residual.result c.from_residual.ensures.1 in
    rw p.1 (λ same n most.
    inl (c.in_err-functions.ensures.private (sym p.2 ∙ same) n (subst (λ (fs : List StreamFunction). AllByRecursion (HasAtMost n) fs) (sym c.as_slice.ensures) most)))

pub returns-in_err-private-clause-private : goal.returns-in_err-private-clause-private
returns-in_err-private-clause-private c =
    let ls = c.in_ok-functions.functions.items in
    let zip = subst (λ (fs : List StreamFunction). AllZip IsLayoutOf fs ls) c.as_slice.ensures c.in_ok-functions.ensures.layouts in
    let p = err_from_is_err_and c.from_residual-in_err-private.result c.from_residual-in_err-private.ensures.1 in
    rw p.1 (λ same.
    too_deep c.args.stream.now ls c.largest_frame-largest.result zip
    (λ n some all. c.largest_frame-largest.ensures.few n some (subst (λ (xs : List FunctionLayout). AllByRecursion (IsFrameWithin n) xs) (sym c.as_slice-2.ensures.value) all))
    c.in_err-private.ensures.err.1)

pub returns-clause-layouts : goal.returns-clause-layouts
returns-clause-layouts c =
    let ls = c.in_ok-functions.functions.items in
    let largest = c.largest_frame-largest in
    let same = c.as_slice-2.ensures.value ∙ sym c.from_vec.ensures in
    let words = c.in_ok-private.ensures.ok in
    record {
      side = refl;
      limit = refl;
      memory = refl;
      functions = subst (λ (xs : List FunctionLayout). AllZip IsLayoutOf c.args.stream.now.functions xs) (sym c.from_vec.ensures)
          (subst (λ (fs : List StreamFunction). AllZip IsLayoutOf fs ls) c.as_slice.ensures c.in_ok-functions.ensures.layouts);
      frames = subst (λ (xs : List FunctionLayout). AllByRecursion (IsFrameWithin largest.result) xs) same largest.ensures.all;
      least = largest.ensures.least;
      most = largest.ensures.most;
      few = λ n some all. largest.ensures.few n some (subst (λ (xs : List FunctionLayout). AllByRecursion (IsFrameWithin n) xs) (sym same) all);
      private = words.0;
      low = words.1;
      residents = subst (λ (xs : List FunctionLayout). AreResidents xs c.from_vec-2.result) (c.as_slice-4.ensures.value ∙ sym c.from_vec.ensures) (subst (λ (ns : List ℕ). AreResidents c.as_slice-4.result.now ns) (sym c.from_vec-2.ensures) c.in_ok-residents.ensures);
    }
