-- The types of the library's functions.
use Rattle.dae_types_kinds.specs.declared.types.Shape.TheVariants as shape
use Rattle.dae_types_kinds.specs.Tables.{Tables}
use Rattle.dae_types_kinds.specs.Types.{char_id, int_id, made, no_parameters_id, void_id}

-- int (char *), int (int), void (int) and void (void) are made
abbrev pub with_library_types : Tables → Tables
with_library_types s =
    let text = made (shape.Pointer char_id) s in
    let list_of_text = made (shape.Parameter no_parameters_id text.1) text.0 in
    let printf = made (shape.Function int_id list_of_text.1) list_of_text.0 in
    let list_of_int = made (shape.Parameter no_parameters_id int_id) printf.0 in
    let putchar = made (shape.Function int_id list_of_int.1) list_of_int.0 in
    let exit = made (shape.Function void_id list_of_int.1) putchar.0 in
    (made (shape.Function void_id no_parameters_id) exit.0).0
