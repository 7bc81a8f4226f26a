use Rattle.std.proofs.Common.{subst}
use Rattle.std.proofs.lemmas.List.Elements.{recursion_from_All}
use Rattle.std.specs.List.{All}
use Rattle.dae_tree.specs.Files.{IsFile}
use Rattle.dae_accept.specs.Read.{texts_in}
use Rattle.dae_accept.specs.Accepted.{AreTyped}
use Rattle.dae_accept.proofs.Counted.{few_files, few_functions, few_texts}
use Rattle.dae_accept.proofs.Origins.{of_files}
use Rattle.dae_accept.proofs.accepting.accept.Goals as goal

pub join-requires-clause-files : goal.join-requires-clause-files
join-requires-clause-files c =
    few_files (texts_in c.args.texts.now) c.in_ok-files.files.items c.in_ok-typed.typed.items (few_texts c.args.texts.now c.requires.few) c.in_ok-files.ensures
    (subst (λ files. AreTyped files c.in_ok-typed.typed.items) c.as_slice-2.ensures.value c.in_ok-typed.ensures)

pub join-requires-clause-functions : goal.join-requires-clause-functions
join-requires-clause-functions c =
    few_functions c.functions_are_counted.ensures c.read_are_within.ensures (texts_in c.args.texts.now) c.in_ok-files.files.items c.in_ok-typed.typed.items c.in_ok-files.ensures
    (subst (λ files. AreTyped files c.in_ok-typed.typed.items) c.as_slice-2.ensures.value c.in_ok-typed.ensures)

pub returns-clause-files : goal.returns-clause-files
returns-clause-files c =
    of_files (texts_in c.args.texts.now) c.args.memory c.in_ok-files.files.items c.in_ok-typed.typed.items c.in_ok-program.program
    c.in_ok-files.ensures (recursion_from_All IsFile c.in_ok-files.files.items (subst (All IsFile) c.as_slice.ensures.value c.see_files.ensures))
    (subst (λ files. AreTyped files c.in_ok-typed.typed.items) c.as_slice-2.ensures.value c.in_ok-typed.ensures)
    c.in_ok-program.ensures.parameters c.in_ok-program.ensures.ok
