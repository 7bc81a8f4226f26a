use Rattle.std.proofs.Common.{◌≡◌, ◌+◌, ◌++◌, List, [], ◌∷◌, length, take, refl, subst, sym, ap, ◌∙◌, arith}
use Rattle.std.proofs.lemmas.Option.{slice_get_read}
use Rattle.std.proofs.lemmas.List.{take_more, take_all}
use Rattle.std.specs.List.{AllZip}
use Rattle.dae_base.proofs.Laws.{passes_at}
use Rattle.dae_ir.specs.declared.stream.StreamFunction.{StreamFunction}
use Rattle.dae_select_calls.specs.declared.layouts.FunctionLayout.{FunctionLayout}
use Rattle.dae_link.specs.Settled.{IsLayoutOf, is_numberable}
use Rattle.dae_link.proofs.Settling.{zip_more}
use Rattle.dae_link.proofs.homes.layouts_of.Goals as goal

pub layout_of-requires : goal.layout_of-requires
layout_of-requires c =
    let fs = c.args.functions.now in
    passes_at is_numberable fs c.loop-index.index c.index-functions-index.result c.requires
    (slice_get_read fs (length fs) c.loop-index.index c.index-functions-index.result refl c.loop-index-test.true c.index-functions-index.is)

pub loop-index-preserved : goal.loop-index-preserved
loop-index-preserved c =
    let fs = c.args.functions.now in
    let i = c.loop-index.index in
    let f = c.index-functions-index.result in
    let e : take (i + 1) fs ≡ take i fs ++ f ∷ [] = take_more fs i f c.loop-index-test.true ∙ ap (λ (g : StreamFunction). take i fs ++ g ∷ []) (sym c.index-functions-index.is) in
    let more = zip_more (take i fs) c.loop-index.layouts.items f c.in_ok-layout_of.field-0 c.loop-index.invariant c.in_ok-layout_of.ensures.layout in
    subst (λ (l : List StreamFunction). AllZip IsLayoutOf l c.push.new.self.items) (sym e) (subst (λ (l : List FunctionLayout). AllZip IsLayoutOf (take i fs ++ f ∷ []) l) (sym c.in_ok-push.ensures.items) more)

pub returns-clause-layouts : goal.returns-clause-layouts
returns-clause-layouts c =
    subst (λ (l : List StreamFunction). AllZip IsLayoutOf l c.loop-index.layouts.items) (take_all c.loop-index.index c.args.functions.now (omega (arith, c.loop-index-test.false))) c.loop-index.invariant
