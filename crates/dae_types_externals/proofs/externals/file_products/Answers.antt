use Rattle.std.proofs.lemmas.Result.{err_from_is_err_and}
use Rattle.dae_tree.specs.FileViews.{view_externals}
use Rattle.dae_types_tables.specs.Seen.{tables}
use Rattle.dae_types_products.specs.Products.{as_products}
use Rattle.dae_types_externals.proofs.Steps.{file_ends, file_follows}
use Rattle.dae_types_externals.proofs.externals.file_products.Goals as goal

pub returns-in_err-check_end : goal.returns-in_err-check_end
returns-in_err-check_end c =
    let p = err_from_is_err_and c.from_residual-in_err-check_end.result c.from_residual-in_err-check_end.ensures.1 in
    rw (p.1, p.2) (file_follows c.in_err-check_end.field-0.0 (view_externals c.args.list.now) (tables c.args.checker.now) (tables c.externals.new.checker) (as_products c.in_ok-products.products) c.in_ok-products.ensures c.in_err-check_end.ensures)

pub returns : goal.returns
returns c = file_ends (view_externals c.args.list.now) (tables c.args.checker.now) (tables c.externals.new.checker) (as_products c.in_ok-products.products) _ c.in_ok-products.ensures c.in_ok-check_end.ensures
