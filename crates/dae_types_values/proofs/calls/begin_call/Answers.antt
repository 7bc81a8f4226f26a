use Rattle.std.proofs.Common.{length, ap, sym, ◌∙◌}
use Rattle.std.specs.Prelude.{slice_get}
use Rattle.dae_types_kinds.specs.Values.{library_of}
use Rattle.dae_types_kinds.specs.Values.{is_printf}
use Rattle.dae_types_plans.specs.Steps.{is_main, parameter_types, with_call}
use Rattle.dae_types_tables.specs.Seen.{tables}
use Rattle.dae_types_values.specs.Results.{differs_in_number}
use Rattle.dae_types_values.proofs.Rows.{call_goes_on, count_fails, differs_as, main_fails, printf_fails}
use Rattle.dae_types_values.proofs.calls.begin_call.Goals as goal

pub returns-then-is_printf : goal.returns-then-is_printf
returns-then-is_printf c =
    let s = tables c.args.checker.now in
    let library = c.library_of-library.ensures ∙ ap library_of c.routine.ensures in
    let printf = ap is_printf (sym library) ∙ (sym c.is_printf.ensures ∙ c.if-is_printf.true) in
    printf_fails c.args.place (is_main s c.args.name.number) (library_of (slice_get s.routines c.args.function)) c.args.given (length (parameter_types s c.args.function)) _ c.broken.result c.broken.ensures printf

pub returns-then-is_main : goal.returns-then-is_main
returns-then-is_main c =
    let s = tables c.args.checker.now in
    let library = c.library_of-library.ensures ∙ ap library_of c.routine.ensures in
    let printf = ap is_printf (sym library) ∙ (sym c.is_printf.ensures ∙ c.if-is_printf.false) in
    let main = sym c.is_main.ensures ∙ c.if-is_main.true in
    main_fails c.args.place (is_main s c.args.name.number) (library_of (slice_get s.routines c.args.function)) c.args.given (length (parameter_types s c.args.function)) _ c.broken-then-is_main.result c.broken-then-is_main.ensures printf main

pub returns-then-differs : goal.returns-then-differs
returns-then-differs c =
    let s = tables c.args.checker.now in
    let library = c.library_of-library.ensures ∙ ap library_of c.routine.ensures in
    let printf = ap is_printf (sym library) ∙ (sym c.is_printf.ensures ∙ c.if-is_printf.false) in
    let main = sym c.is_main.ensures ∙ c.if-is_main.false in
    let differs = differs_as (differs_in_number s c.args.function c.args.given) c.in_ok-differs.differs _ c.in_ok-differs.ensures c.if-differs.true in
    count_fails c.args.place (is_main s c.args.name.number) (library_of (slice_get s.routines c.args.function)) c.args.given (length (parameter_types s c.args.function)) _ c.broken-then-differs.result c.broken-then-differs.ensures printf main differs

pub returns : goal.returns
returns c =
    let s = tables c.args.checker.now in
    let library = c.library_of-library.ensures ∙ ap library_of c.routine.ensures in
    let printf = ap is_printf (sym library) ∙ (sym c.is_printf.ensures ∙ c.if-is_printf.false) in
    let main = sym c.is_main.ensures ∙ c.if-is_main.false in
    let differs = differs_as (differs_in_number s c.args.function c.args.given) c.in_ok-differs.differs _ c.in_ok-differs.ensures c.if-differs.false in
    call_goes_on (tables c.note_call.new.checker) s (with_call c.args.function c.args.name.place c.library_of-library.result s) c.note_call.result c.args.place c.args.name c.args.function c.args.given printf main differs (ap (λ l. with_call c.args.function c.args.name.place l s) (sym library)) c.note_call.ensures
