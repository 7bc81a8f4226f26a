-- How small the functions, the form and the code of a program are beside the tokens of its files.
use Rattle.std.specs.Prelude.{◌≡◌, ℕ, ◌+◌, ◌-◌, ◌*◌, ◌≤◌, Bool, List, [], ◌∷◌}
use Rattle.std.specs.List.{AllByRecursion}
use Rattle.dae_tree.specs.Depth.{greatest_length}
use Rattle.dae_tree.specs.Files.{FileContents}
use Rattle.dae_program.specs.Views.{view_statements}
use Rattle.dae_program.specs.declared.program.Function.{Function}
use Rattle.dae_program.specs.declared.program.Program.{Program}
use Rattle.dae_types_typed.specs.declared.files.FileParts.{FileParts}
use Rattle.dae_unit.specs.Meanings.{functions_from}
use Rattle.dae_ir.specs.Classes.{Classes}
use Rattle.dae_ir.specs.Form.{form_of}
use Rattle.dae_ir.specs.Programs.{IsStreamOf}
use Rattle.dae_ir.specs.Streams.{actions_of}
use Rattle.dae_ir.specs.declared.form.Function.{Function as FormFunction}
use Rattle.dae_ir.specs.declared.form.Ir.{Ir}
use Rattle.dae_ir.specs.declared.stream.Stream.{Stream}
use Rattle.dae_ir.specs.declared.stream.StreamFunction.{StreamFunction}
use Rattle.dae_lower_formed.specs.Formed.{IsFormOf}
use Rattle.dae_lower_formed.specs.Sizes.{most_made_in, most_made_of_slots}
use Rattle.dae_sizes.specs.Worth.{IsDefinition}
use Rattle.dae_lower_formed.specs.Code.{loaded_burden, loads_in}
use Rattle.dae_ir_pair.specs.Sizes.{words_in}
use Rattle.dae_sizes.specs.From.{AreFrom}
use Rattle.dae_sizes.specs.Small.{tokens, text, HasFew, HasLittle}
use Rattle.dae_sizes.specs.Sources.{Source, sources_in, AreTypedAs, ArePlanned, AreUpTo, count_functions, tokens_in, bytes_in}

-- ---- the functions of files

-- at most one for every second token
abbrev pub FunctionsAreCounted : Type 0
FunctionsAreCounted = (files : List FileContents) (typed : List FileParts) → ArePlanned files typed → 2 * count_functions typed ≤ tokens_in files

-- ---- the functions that files join to

abbrev pub FunctionsAreFew : Type 0
FunctionsAreFew =
    (files : List FileContents) (typed : List FileParts) → AreTypedAs files typed →
    AreFrom (λ (x : Source) (f : Function). HasFew x.external f.variables f.parameters (view_statements f.body)) (sources_in files) (functions_from [] 0 typed)

-- where no definition has more than n tokens, a function has fewer than 4 for each of n
abbrev pub FunctionsAreWithin : Type 0
FunctionsAreWithin =
    (files : List FileContents) (typed : List FileParts) (n : ℕ) → AreTypedAs files typed → AreUpTo n files →
    AllByRecursion (λ (f : Function). 7 + (f.variables + (most_made_of_slots f.parameters + most_made_in (view_statements f.body))) ≤ 4 * n) (functions_from [] 0 typed)

abbrev pub FunctionsAreLittle : Type 0
FunctionsAreLittle =
    (files : List FileContents) (typed : List FileParts) → AreTypedAs files typed →
    AreFrom (λ (x : Source) (f : Function). HasLittle x.literals x.external f.parameters (view_statements f.body)) (sources_in files) (functions_from [] 0 typed)

-- ---- the form of a program of these functions

pub record IsForm (files : List FileContents) (ir : Ir) : Type 0 where
  pub typed : List FileParts
  pub from : AreTypedAs files typed
  pub program : Program
  pub functions : program.functions ≡ functions_from [] 0 typed
  pub form : IsFormOf program ir

-- a function has at most 4 variables for each token of its definition, and 7 fewer, and no more loads than variables
abbrev pub FormsAreFew : Type 0
FormsAreFew =
    (files : List FileContents) (ir : Ir) → IsForm files ir →
    AreFrom (λ (x : Source) (g : FormFunction). IsDefinition x.external × (7 + g.variables ≤ 4 * tokens x.external) × (loads_in (form_of g.body) ≤ g.variables)) (sources_in files) ir.functions

-- twice a frame of 19 words, one for each variable, one for every second variable beyond 9 and one for every second load has at
-- most 16 words for each token
abbrev pub HasFrameWithin : ℕ → FormFunction → Type 0
HasFrameWithin n g =
    38 + (2 * g.variables + (g.variables - 9) + loads_in (form_of g.body)) ≤ 16 * n + 1

abbrev pub FramesAreSmall : Type 0
FramesAreSmall =
    (files : List FileContents) (ir : Ir) → IsForm files ir →
    AreFrom (λ (x : Source) (g : FormFunction). HasFrameWithin (tokens x.external) g) (sources_in files) ir.functions

-- and at most 8 items for each token and 4 for each byte of a literal, where a call counts one and a half more, and a load a half
abbrev pub FormsAreLittle : Type 0
FormsAreLittle =
    (files : List FileContents) (ir : Ir) → IsForm files ir →
    AreFrom (λ (x : Source) (g : FormFunction). 28 + loaded_burden (form_of g.body) ≤ 16 * tokens x.external + 8 * text x.literals x.external) (sources_in files) ir.functions

-- where no definition has more than n tokens, such a frame has at most 8 words for each of n
abbrev pub FramesAreWithin : Type 0
FramesAreWithin =
    (files : List FileContents) (ir : Ir) (n : ℕ) → IsForm files ir → AreUpTo n files →
    AllByRecursion (HasFrameWithin n) ir.functions

-- the definitions of files that are typed have at most 8,192 tokens
abbrev pub DefinitionsAreShort : Type 0
DefinitionsAreShort = (files : List FileContents) (typed : List FileParts) → AreTypedAs files typed → AreUpTo greatest_length files

-- what the code of functions weighs, with each load once more, and with 28 for each function
abbrev pub burdens_of : List FormFunction → ℕ
burdens_of [] = 0
burdens_of (g ∷ gs) = 28 + loaded_burden (form_of g.body) + burdens_of gs

-- that is at most 16 for each token of the files and 8 for each byte of their literals
abbrev pub FormsAreWithin : Type 0
FormsAreWithin = (files : List FileContents) (ir : Ir) → IsForm files ir → burdens_of ir.functions ≤ 16 * tokens_in files + 8 * bytes_in files

-- a stream has at most 224 words for each token of the definition and 112 for each byte of a literal, with the 25 that its
-- function begins and ends with
abbrev pub StreamsAreLittle : Type 0
StreamsAreLittle =
    (files : List FileContents) (ir : Ir) (by_a : Bool) (of : ℕ → Classes) (cap : ℕ) (s : Stream) → IsForm files ir → IsStreamOf by_a of cap ir s →
    AreFrom (λ (x : Source) (g : StreamFunction). words_in (actions_of g.body) + 25 ≤ 224 * tokens x.external + 112 * text x.literals x.external) (sources_in files) s.functions

-- the words of functions, each with the 25 that it begins and ends with
abbrev pub words_of : List StreamFunction → ℕ
words_of [] = 0
words_of (g ∷ gs) = words_in (actions_of g.body) + 25 + words_of gs

-- a stream has at most 224 words for each token of the files, 112 for each byte of their literals, and 8
abbrev pub StreamsAreWithin : Type 0
StreamsAreWithin =
    (files : List FileContents) (ir : Ir) (by_a : Bool) (of : ℕ → Classes) (cap : ℕ) (s : Stream) → IsForm files ir → IsStreamOf by_a of cap ir s →
    8 + words_of s.functions ≤ 224 * tokens_in files + 112 * bytes_in files + 8
