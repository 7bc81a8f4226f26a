use Rattle.std.proofs.Common.{refl, rules}
use Rattle.std.proofs.lemmas.Result.{err_from_is_err_and}
use Rattle.dae_tree.specs.Views.{view}
use Rattle.dae_types_tables.specs.Seen.{tables}
use Rattle.dae_types_values.specs.Results.{views}
use Rattle.dae_types_plans.specs.Expressions.{plan_value}
use Rattle.dae_types_walk.specs.Plans.{plan_type_name}
use Rattle.dae_types_walk.proofs.Rows.{call_refused, call_broken, call_done, call_found, call_missed, called_then, sizeof_type_gives, sizeof_then, cast_gives, cast_then, structure_body_gives, enumeration_body_gives, function_gives, function_then}
use Rattle.dae_types_walk.proofs.cycle.+tree.Goals as goal

pub call-returns-in_err-begin_call : goal.call-returns-in_err-begin_call
call-returns-in_err-begin_call t c =
    let p = err_from_is_err_and c.from_residual.result c.from_residual.ensures.1 in
    rw (p.1, p.2) (call_refused c.in_err-begin_call.field-0.0 c.args.place c.args.name c.args.function c.args.list.now (tables c.args.checker.now) c.in_err-begin_call.ensures)

pub call-returns-in_err-arguments : goal.call-returns-in_err-arguments
call-returns-in_err-arguments t c =
    let p = err_from_is_err_and c.from_residual-in_err-arguments.result c.from_residual-in_err-arguments.ensures.1 in
    rw (p.1, p.2) (call_broken c.in_err-arguments.field-0.0 c.args.place c.args.name c.args.function c.args.list.now (tables c.args.checker.now) (tables c.begin_call.new.checker) c.in_ok-begin_call.ensures c.in_err-arguments.ensures)

pub call-returns : goal.call-returns
call-returns t c =
    call_done c.call.result c.args.place c.args.name c.args.function c.args.list.now (tables c.args.checker.now) (tables c.begin_call.new.checker) (tables c.arguments.new.checker) (views c.in_ok-arguments.arguments) c.in_ok-begin_call.ensures c.in_ok-arguments.ensures c.call.ensures

pub call_or_refuse-returns-in-Some : goal.call_or_refuse-returns-in-Some
call_or_refuse-returns-in-Some t c =
    let w = c.in-Call in
    call_found _ _ _ w.callee w.field-1 w.list c.deref-in-Some-2.result.now c.deref.result.now c.deref-in-Some.result.now c.place.result (c.in-Some.name, c.in-Some.function) (tables c.args.checker.now) w.is c.deref-in-Some-2.ensures.value c.deref.ensures c.deref-in-Some.ensures c.place.ensures (search rules) c.call.ensures

pub call_or_refuse-returns-in_ok-x-in-None : goal.call_or_refuse-returns-in_ok-x-in-None
call_or_refuse-returns-in_ok-x-in-None t c =
    let w = c.in-Call in
    call_missed _ _ _ w.callee w.field-1 w.list c.deref-in-None-3.result.now c.deref.result.now (tables c.args.checker.now) w.is c.deref-in-None-3.ensures.value c.deref.ensures (search rules)
    (called_then _ _ w.callee.value c.deref-in-None.result.now c.deref-in-None-2.result.now c.place-in-None.result c.deref-in-None-3.result.now _ _ c.deref-in-None.ensures c.deref-in-None-2.ensures c.place-in-None.ensures c.in_ok-x-in-None.ensures c.no_call.ensures)

pub expression-returns-in_ok-type_id-in-SizeofType : goal.expression-returns-in_ok-type_id-in-SizeofType
expression-returns-in_ok-type_id-in-SizeofType t c =
    let w = c.in-SizeofType in
    let n = c.deref-in-SizeofType.result.now in
    sizeof_type_gives _ _ _ w.place w.field-1 w.name n _ w.is c.deref-in-SizeofType.ensures (sizeof_then _ _ w.place (plan_type_name n w.place) _ _ _ c.in_ok-type_id-in-SizeofType.ensures c.sizeof-in-SizeofType.ensures)

pub expression-returns-in_err-type_id-in-SizeofType : goal.expression-returns-in_err-type_id-in-SizeofType
expression-returns-in_err-type_id-in-SizeofType t c =
    let w = c.in-SizeofType in
    sizeof_type_gives _ _ _ w.place w.field-1 w.name c.deref-in-SizeofType.result.now _ w.is c.deref-in-SizeofType.ensures (search rules)

pub expression-returns-in_ok-type_id-in-Cast : goal.expression-returns-in_ok-type_id-in-Cast
expression-returns-in_ok-type_id-in-Cast t c =
    let w = c.in-Cast in
    let n = c.deref-in-Cast.result.now in
    let x = c.deref-in-Cast-2.result.now in
    cast_gives _ _ _ w.place w.name w.a n x _ w.is c.deref-in-Cast.ensures c.deref-in-Cast-2.ensures (cast_then _ _ w.place (plan_type_name n w.place) (plan_value (view x)) _ _ _ c.in_ok-type_id-in-Cast.ensures c.cast.ensures)

pub expression-returns-in_err-type_id-in-Cast : goal.expression-returns-in_err-type_id-in-Cast
expression-returns-in_err-type_id-in-Cast t c =
    let w = c.in-Cast in
    cast_gives _ _ _ w.place w.name w.a c.deref-in-Cast.result.now w.a.value _ w.is c.deref-in-Cast.ensures refl (search rules)

pub specifier-returns-in-StructureBody : goal.specifier-returns-in-StructureBody
specifier-returns-in-StructureBody t c =
    let w = c.in-StructureBody in
    structure_body_gives _ _ _ _ _ _ w.place w.tag _ w.list c.deref.result.now _ w.is c.deref.ensures.value c.structure.ensures

pub specifier-returns-in-EnumerationBody : goal.specifier-returns-in-EnumerationBody
specifier-returns-in-EnumerationBody t c =
    let w = c.in-EnumerationBody in
    enumeration_body_gives _ _ _ _ _ _ w.field-0 w.tag w.field-2 w.list w.field-4 c.deref-in-EnumerationBody.result.now _ w.is c.deref-in-EnumerationBody.ensures.value c.enumeration.ensures

pub declarator-returns-in_ok-base-in-Function : goal.declarator-returns-in_ok-base-in-Function
declarator-returns-in_ok-base-in-Function t c =
    let w = c.in-Function in
    function_gives _ _ _ _ _ _ w.inner w.q w.list c.deref-in-Function.result.now _ w.is c.deref-in-Function.ensures.value (function_then _ _ _ _ _ w.q c.deref-in-Function.result.now w.inner.value c.deref-in-Function-2.result.now _ _ _ c.in_ok-base-in-Function.ensures c.deref-in-Function-2.ensures c.declarator-in-Function.ensures)

pub declarator-returns-in_err-base-in-Function : goal.declarator-returns-in_err-base-in-Function
declarator-returns-in_err-base-in-Function t c =
    let w = c.in-Function in
    function_gives _ _ _ _ _ _ w.inner w.q w.list c.deref-in-Function.result.now _ w.is c.deref-in-Function.ensures.value (search rules)
