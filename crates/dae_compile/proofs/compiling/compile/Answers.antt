use Rattle.std.proofs.Common.{refl}
use Rattle.dae_accept.specs.Read.{texts_in}
use Rattle.dae_compile.proofs.Accesses.{keeps_accesses}
use Rattle.dae_compile.proofs.Numbers.{have_numbers}
use Rattle.dae_compile.proofs.Small.{few_functions, few_variables, never_deep, never_long, small}
use Rattle.dae_compile.proofs.compiling.compile.Goals as goal

pub returns-in-Ok-clause-compiled : goal.returns-in-Ok-clause-compiled
returns-in-Ok-clause-compiled c =
    let range = c.args.options.ranges in
    let made = c.in-Ok.ensures.compiled in
    let image = made.image in
    let result = c.in-Ok.compiled in
    record {
      image = record {
        program = c.in_ok-program.program;
        accepted = c.in_ok-program.ensures.accepted;
        compiled = image;
        keeps = c.in-Ok.ensures.keeps;
        accesses = keeps_accesses c.sets_bounded.ensures c.later_forms_do_programs.ensures c.functions_initialise_constants.ensures c.functions_test_values.ensures
            (texts_in c.args.texts.now) c.in_ok-program.program c.args.options.calls c.args.options.cap result.image range.called c.in_ok-program.ensures.files image;
        budget = c.in-Ok.ensures.budget;
        small = small c.forms_are_within.ensures c.frames_are_within.ensures (texts_in c.args.texts.now) c.in_ok-program.program c.args.options.calls c.args.options.cap result.image
            c.in_ok-program.ensures.files image;
        named = c.in-Ok.ensures.names;
      };
      report = made.report;
    }

pub compile_program-requires-clause-functions : goal.compile_program-requires-clause-functions
compile_program-requires-clause-functions c =
    few_functions c.functions_are_counted.ensures c.read_are_within.ensures (texts_in c.args.texts.now) c.in_ok-program.program c.in_ok-program.ensures.files

pub compile_program-requires-clause-numbers : goal.compile_program-requires-clause-numbers
compile_program-requires-clause-numbers c =
    have_numbers c.forms_name.ensures c.variables_within.ensures c.functions_are_within.ensures c.definitions_are_short.ensures (texts_in c.args.texts.now) c.in_ok-program.program c.in_ok-program.ensures.files

pub compile_program-requires-clause-variables : goal.compile_program-requires-clause-variables
compile_program-requires-clause-variables c =
    few_variables c.definitions_are_short.ensures c.frames_are_within.ensures (texts_in c.args.texts.now) c.in_ok-program.program c.in_ok-program.ensures.files

pub unreachable-requires : goal.unreachable-requires
unreachable-requires c =
    never_long c.read_are_within.ensures c.forms_are_within.ensures (texts_in c.args.texts.now) c.in_ok-program.program c.args.options.calls c.in_ok-program.ensures.files (c.in-Err-Code.ensures.long c.in-Err-Code.field-0-is)

pub unreachable-requires-in-Err-Private : goal.unreachable-requires-in-Err-Private
unreachable-requires-in-Err-Private c =
    never_deep c.definitions_are_short.ensures c.frames_are_within.ensures (texts_in c.args.texts.now) c.in_ok-program.program c.args.options.calls c.args.options.ranges.shallow
    c.in_ok-program.ensures.files (c.in-Err-Private.ensures.deep c.in-Err-Private.field-0-is)
