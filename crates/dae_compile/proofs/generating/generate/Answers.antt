use Rattle.std.proofs.Common.{List, sym, ap, ◌∙◌}
use Rattle.std.proofs.lemmas.Result.{err_from_is_err_and}
use Rattle.dae_ir.specs.declared.stream.Class.{Class}
use Rattle.dae_report.specs.Reports.{report_of}
use Rattle.dae_compile.proofs.Private.{needs_too_much, private_within}
use Rattle.dae_compile.proofs.Calls.{short_code, too_long}
use Rattle.dae_compile.proofs.Counting.{uncounted}
use Rattle.dae_compile.proofs.generating.generate.Goals as goal

pub returns-then-not-can_count-clause-err : goal.returns-then-not-can_count-clause-err
returns-then-not-can_count-clause-err c = λ code. uncounted c.args.ir.now (sym c.can_count.ensures ∙ c.if-not-can_count.true)

pub count-requires : goal.count-requires
count-requires c = sym c.can_count.ensures ∙ c.if-not-can_count.false

pub returns-clause-compiled : goal.returns-clause-compiled
returns-clause-compiled c =
    let d = c.in_ok-decoupled.ensures in
    c.in_ok-image.ensures.compiled c.args.ir.now _ c.args.cap d.classes d.pair d.budget

pub returns-clause-report : goal.returns-clause-report
returns-clause-report c =
    let d = c.in_ok-decoupled.ensures in
    record {
      tables = c.in_ok-decoupled.decoupled.classes;
      classes = d.classes;
      counts = c.in_ok-report.ensures ∙ ap (λ (tables : List (List Class)). report_of tables c.args.ir.now) c.as_slice.ensures;
    }

pub returns-clause-private : goal.returns-clause-private
returns-clause-private c =
    let d = c.in_ok-decoupled.ensures in
    private_within c.args.ir.now _ c.args.cap c.requires.ready.scoped _ _ d.pair c.in_ok-image.ensures.private

pub returns-clause-short : goal.returns-clause-short
returns-clause-short c =
    let d = c.in_ok-decoupled.ensures in
    short_code c.args.ir.now _ c.args.cap _ d.pair _ c.in_ok-image.ensures.short

pub returns-in_err-image-clause-err : goal.returns-in_err-image-clause-err
returns-in_err-image-clause-err c =
    let d = c.in_ok-decoupled.ensures in
    let p = err_from_is_err_and c.from_residual-in_err-image.result c.from_residual-in_err-image.ensures.1 in
    rw p.1 (λ code. too_long c.args.ir.now _ c.args.cap _ d.pair (c.in_err-image.ensures.err (sym p.2 ∙ code)))

pub returns-in_err-image-clause-deep : goal.returns-in_err-image-clause-deep
returns-in_err-image-clause-deep c =
    let d = c.in_ok-decoupled.ensures in
    let p = err_from_is_err_and c.from_residual-in_err-image.result c.from_residual-in_err-image.ensures.1 in
    rw p.1 (λ deep. needs_too_much c.args.ir.now _ c.args.cap c.requires.ready.scoped _ d.pair (c.in_err-image.ensures.deep (sym p.2 ∙ deep)))
