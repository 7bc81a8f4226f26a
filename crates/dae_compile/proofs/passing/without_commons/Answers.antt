use Rattle.std.proofs.Common.{List, subst}
use Rattle.dae_ir.specs.declared.stream.Class.{Class}
use Rattle.dae_commons.specs.Forms.{IsCommoningOf}
use Rattle.dae_hoist.specs.Forms.{IsHoistOf}
use Rattle.dae_compile.proofs.passing.without_commons.Goals as goal

pub returns : goal.returns
returns c =
    let form = c.in_ok-form.form in
    record {
      tables = c.in_ok-tables.tables;
      least = c.in_ok-tables.ensures.least;
      rows = form.tables;
      hoisted = form.ir;
      hoist = subst (λ (t : List (List Class)). IsHoistOf t form.tables c.args.ir form.ir) c.as_slice.ensures c.in_ok-form.ensures;
      commoning = subst (λ (t : List (List Class)). IsCommoningOf t form.ir c.in_ok-new.new) c.as_slice-2.ensures c.in_ok-new.ensures;
    }
