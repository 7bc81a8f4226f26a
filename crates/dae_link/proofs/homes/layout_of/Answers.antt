use Rattle.std.proofs.Common.{◌≡◌, ℕ, List, length, refl, ap, sym, ◌∙◌, subst, arith}
use Rattle.std.specs.List.{AllByRecursion}
use Rattle.std.proofs.lemmas.Result.{err_from_is_err_and}
use Rattle.dae_ir.specs.Streams.{actions_of}
use Rattle.dae_select_walks.specs.Homes.{AreHomes, home_in}
use Rattle.dae_select_walks.specs.Live.{function_lives}
use Rattle.dae_select_walks.specs.declared.Home.{Home}
use Rattle.dae_regalloc.specs.Given.{AreFew, IsRegister}
use Rattle.dae_regalloc.specs.Seen.{AreBelow}
use Rattle.dae_link.specs.Settled.{is_frameless}
use Rattle.dae_link.proofs.homes.layout_of.Goals as goal

pub returns-clause-layout : goal.returns-clause-layout
returns-clause-layout c =
    let n = c.in_ok-count_of.field-0 in
    let homes = c.in_ok-homes.homes.items in
    let places = function_lives c.args.function.now.parameters (actions_of c.args.function.now.body) in
    let few = c.in_ok-count_of.ensures.ok in
    let same : n ≡ length homes = (let a = few.0 in let l = c.len.ensures in omega arith) in
    record {
      count = same ∙ ap length (sym c.from_vec.ensures);
      few = few.1;
      homes = subst (λ (hs : List Home). AreHomes n places (home_in hs)) (sym c.from_vec.ensures) (c.in_ok-homes.ensures.homes n);
      inside = subst (λ (m : ℕ). AllByRecursion (AreBelow m) places) (sym same) c.in_ok-homes.ensures.inside;
      least = λ m below. (let few = c.in_ok-homes.ensures.least m below in omega arith);
      registers = subst (λ (hs : List Home). AreFew 18 places → (v : ℕ) → IsRegister (home_in hs v)) (sym c.from_vec.ensures) c.in_ok-homes.ensures.registers;
      frame = refl;
      leaf = c.is_leaf_function.ensures;
      frameless = c.is_frameless-frameless.ensures ∙ ap (is_frameless c.args.function.now) (c.as_slice.ensures.value ∙ sym c.from_vec.ensures);
      entry = refl;
    }

pub returns-in_err-count_of-clause-private : goal.returns-in_err-count_of-clause-private
returns-in_err-count_of-clause-private c =
    let f = c.args.function.now in
    let p = err_from_is_err_and c.from_residual-in_err-count_of.result c.from_residual-in_err-count_of.ensures.1 in
    rw p.1 (λ same n most.
    let few = c.in_ok-homes.ensures.least f.variables most.0.own in
    let all = most.0.few in let large = c.in_err-count_of.ensures.err.1 in let l = c.len.ensures in omega arith)
