use Rattle.std.proofs.Common.{◌≡◌, ◌+◌, ◌++◌, List, [], ◌∷◌, take, subst, sym, ap, ◌∙◌, arith}
use Rattle.std.proofs.lemmas.List.{take_more, take_all, length-take-le}
use Rattle.dae_ir.specs.Classes.{classes_of}
use Rattle.dae_ir.specs.Programs.{AreFunctionsOf}
use Rattle.dae_ir.specs.declared.form.Function.{Function}
use Rattle.dae_ir.specs.declared.stream.StreamFunction.{StreamFunction}
use Rattle.dae_split.specs.Making.{is_a}
use Rattle.dae_split.proofs.Functions.{are_more, calls_of_function}
use Rattle.dae_split.proofs.streams.split_functions.Goals as goal

pub loop-i-preserved : goal.loop-i-preserved
loop-i-preserved c =
    let a = c.args in
    let fs = a.functions.now in
    let i = c.loop-i.i in
    let f = c.index-functions-i.result in
    let made = c.in_ok-split_function.field-0 in
    let e : take (i + 1) fs ≡ take i fs ++ f ∷ [] = take_more fs i f c.loop-i-test.true ∙ ap (λ (g : Function). take i fs ++ g ∷ []) (sym c.index-functions-i.is) in
    let more = are_more (is_a a.side) (classes_of a.tables.now) a.cap 0 i (take i fs) c.loop-i.streams f made (omega (arith, length-take-le i fs (omega (arith, c.loop-i-test.true)))) c.loop-i.invariant c.in_ok-split_function.ensures in
    let grown = subst (λ (gs : List StreamFunction). AreFunctionsOf (is_a a.side) (classes_of a.tables.now) a.cap 0 (take i fs ++ f ∷ []) gs) (sym c.in_ok-push.ensures.ok) more in
    subst (λ (l : List Function). AreFunctionsOf (is_a a.side) (classes_of a.tables.now) a.cap 0 l c.push.new.self) (sym e) grown

pub split_function-requires : goal.split_function-requires
split_function-requires c = calls_of_function c.args.functions.now c.loop-i.i c.index-functions-i.result c.loop-i-test.true c.index-functions-i.is c.requires

pub returns : goal.returns
returns c =
    let a = c.args in
    subst (λ (l : List Function). AreFunctionsOf (is_a a.side) (classes_of a.tables.now) a.cap 0 l c.loop-i.streams) (take_all c.loop-i.i a.functions.now (omega (arith, c.loop-i-test.false))) c.loop-i.invariant
