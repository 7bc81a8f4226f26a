use Rattle.std.proofs.Common.{◌≡◌, List, [], Some, None, sym, ap, subst, ◌∙◌}
use Rattle.std.specs.Prelude.{slice_get}
use Rattle.dae_tree.specs.FileViews.{view_externals}
use Rattle.dae_tree.specs.Files.{FileContents}
use Rattle.dae_tree.specs.Marks.{marks}
use Rattle.dae_tree.specs.Reading.{Reading}
use Rattle.dae_tree.specs.Statements.{IsTreeOf}
use Rattle.dae_tree.specs.Trees.{External}
use Rattle.dae_parse_grammar.specs.Machine.{onto}
use Rattle.dae_parse_states.specs.declared.frames.FileSoFar.{FileSoFar}
use Rattle.dae_parse_states.specs.Frames.{ShowsFile}
use Rattle.dae_parse.specs.Parsed.{IsWithinLimits, IsFileOf}
use Rattle.dae_parse.proofs.Files.{deep_at, none_of, seen_file, is_file}
use Rattle.dae_parse.proofs.reading.whole.Goals as goal

-- what was read, with a tree in memory and none too long, is the file
file_of : (r : Reading) (f : FileContents) (b : FileSoFar) (xs : List External) → ShowsFile b xs → IsTreeOf (marks r.tokens) (onto xs []) → (list : _) → b.read.tree ≡ Some list → f.externals ≡ list.items
    → slice_get b.read.depths.places.items 200 ≡ None → b.too_long ≡ None → f.names ≡ r.names → f.literals ≡ r.literals → f.stdio ≡ r.stdio → f.stdlib ≡ r.stdlib → IsFileOf r f
file_of r f b xs shows i list t e deep long n l io lib =
    let limits : IsWithinLimits r.tokens (onto xs []) = record { tree = i; shallow = deep_at b xs shows ∙ deep; short = sym shows.too_long ∙ long } in
    let seen : view_externals f.externals ≡ onto xs [] = ap view_externals e ∙ seen_file b xs shows list t in
    record { tree = subst (IsWithinLimits r.tokens) (sym seen) limits; names = n; literals = l; stdio = io; stdlib = lib }

pub tree_or_depth-requires : goal.tree_or_depth-requires
tree_or_depth-requires c = c.requires.tree.1.read.holds.kept

pub returns-in-Err : goal.returns-in-Err
returns-in-Err c =
    let t = c.requires.tree in
    (onto t.0 [], t.2, deep_at c.args.before t.0 t.1 ∙ c.in-Err.ensures.deep)

pub returns-in-Some : goal.returns-in-Some
returns-in-Some c =
    let t = c.requires.tree in
    (onto t.0 [], t.2, deep_at c.args.before t.0 t.1 ∙ c.in-Ok.ensures.shallow, sym t.1.too_long ∙ c.in-Some.is)

pub new-requires : goal.new-requires
new-requires c =
    let t = c.requires.tree in
    let w = file_of c.args.tokens.now (record { externals = c.from_vec.result; names = c.in_ok-names.names; literals = c.in_ok-literals.literals; stdio = c.headers.result.stdio; stdlib = c.headers.result.stdlib }) c.args.before t.0 t.1 t.2 c.in-Ok.externals c.in-Ok.ensures.tree c.from_vec.ensures c.in-Ok.ensures.shallow (none_of _ c.in_default.not-Some)
    (c.in_ok-names.ensures ∙ c.names.ensures) (c.in_ok-literals.ensures ∙ c.literals.ensures) c.headers.ensures.stdio c.headers.ensures.stdlib in
    is_file c.args.tokens.now _ c.requires.reading w.tree w.names w.literals

pub returns : goal.returns
returns c =
    let t = c.requires.tree in
    let w = file_of c.args.tokens.now (record { externals = c.from_vec.result; names = c.in_ok-names.names; literals = c.in_ok-literals.literals; stdio = c.headers.result.stdio; stdlib = c.headers.result.stdlib }) c.args.before t.0 t.1 t.2 c.in-Ok.externals c.in-Ok.ensures.tree c.from_vec.ensures c.in-Ok.ensures.shallow (none_of _ c.in_default.not-Some)
    (c.in_ok-names.ensures ∙ c.names.ensures) (c.in_ok-literals.ensures ∙ c.literals.ensures) c.headers.ensures.stdio c.headers.ensures.stdlib in
    subst (IsFileOf c.args.tokens.now) (sym c.new.ensures) w
