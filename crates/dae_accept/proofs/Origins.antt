-- The files of an accepted program are typed, with the parameters of their functions.
use Rattle.std.proofs.Common.{ℕ, List, [], ◌∷◌}
use Rattle.std.specs.List.{AllByRecursion}
use Rattle.dae_tree.specs.Files.{FileContents, IsFile}
use Rattle.dae_program.specs.declared.program.Program.{Program}
use Rattle.dae_types_typed.specs.declared.files.FileParts.{FileParts}
use Rattle.dae_types.specs.Answers.{IsTypedFile}
use Rattle.dae_types.specs.Names.{numbers_in}
use Rattle.dae_sizes.specs.Sources.{AreTypedAs, IsTypedAs}
use Rattle.dae_unit_join.specs.Promise.{HaveParameters, IsJoinedTo}
use Rattle.dae_accept.specs.Read.{AreRead}
use Rattle.dae_accept.specs.Accepted.{AreTyped}
use Rattle.dae_accept.specs.Origins.{IsOfFiles}

one_typed : (c : FileContents) (t : FileParts) → IsFile c → IsTypedFile c t → HaveParameters t → IsTypedAs c t
one_typed c t parsed h p = record {
  parsed = parsed;
  numbers = numbers_in c.names;
  typed = record { tables = h.tables; products = h.products; spellings = c.names; checked = h.checked; reads = h.reads };
  parameters = p;
}

typed_as : (cs : List FileContents) (ts : List FileParts) → AllByRecursion IsFile cs → AreTyped cs ts → AllByRecursion HaveParameters ts → AreTypedAs cs ts
typed_as [] [] a h p = tt
typed_as [] (t ∷ ts) a h p = absurd h
typed_as (c ∷ cs) [] a h p = absurd h
typed_as (c ∷ cs) (t ∷ ts) a h p = (one_typed c t a.0 h.0 p.0, typed_as cs ts a.1 h.1 p.1)

pub of_files : (texts : List (List ℕ)) (memory : ℕ) (cs : List FileContents) (ts : List FileParts) (p : Program)
    → AreRead texts cs → AllByRecursion IsFile cs → AreTyped cs ts → AllByRecursion HaveParameters ts → IsJoinedTo ts memory p → IsOfFiles texts p
of_files texts memory cs ts p read parsed checked parameters joined =
    let parts = joined.parts in
    let made = parts.made in
    record { files = cs; read = read; typed = ts; from = typed_as cs ts parsed checked parameters; functions = made.functions }
