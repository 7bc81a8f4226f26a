use Rattle.dae_slice.specs.Graphs.{marked}
use Rattle.dae_slice.specs.declared.items.Sought.TheVariants.{Addresses, Needs}
use Rattle.dae_slice.proofs.Scoped.{targets_there, range_kept}
use Rattle.dae_slice.proofs.Entries.{are_classes, has_rows, if_ok_more}
use Rattle.dae_slice.proofs.tables.classes.Goals as goal

pub marks-requires : goal.marks-requires
marks-requires c =
    rw c.as_slice-functions.ensures (record {
      targets = targets_there c.args.ir.now.functions c.requires.functions;
      range = range_kept c.args.ir.now.functions c.requires.functions Addresses;
    })

pub marks-requires-2 : goal.marks-requires-2
marks-requires-2 c =
    rw c.as_slice-functions.ensures (record {
      targets = targets_there c.args.ir.now.functions c.requires.functions;
      range = range_kept c.args.ir.now.functions c.requires.functions (Needs (record { ref_ptr = (0, 0); now = c.in_ok-a.a }));
    })

pub returns-clause-least : goal.returns-clause-least
returns-clause-least c =
    let functions = c.args.ir.now.functions in
    let a = rw c.as_slice-functions.ensures at c.in_ok-a.ensures in
    let e = rw c.as_slice-functions.ensures at c.in_ok-e.ensures in
    let tables = rw c.as_slice-functions.ensures at c.make_tables.ensures in
    if_ok_more _ _ c.make_tables.result tables (λ t h.
    are_classes c.args.ir.now _ (marked c.in_ok-e.e) t a e
    (range_kept functions c.requires.functions Addresses)
    (range_kept functions c.requires.functions (Needs (record { ref_ptr = (0, 0); now = c.in_ok-a.a }))) h)

pub returns-clause-rows : goal.returns-clause-rows
returns-clause-rows c =
    let functions = c.args.ir.now.functions in
    let tables = rw c.as_slice-functions.ensures at c.make_tables.ensures in
    if_ok_more _ _ c.make_tables.result tables (λ t h. has_rows functions (marked c.in_ok-a.a) (marked c.in_ok-e.e) t h)
