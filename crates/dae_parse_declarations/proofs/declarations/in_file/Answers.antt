use Rattle.std.proofs.Common.{◌≡◌, List, [], ◌∷◌, length, refl, subst, arith}
use Rattle.dae_tree.specs.Statements.{spell_declaration}
use Rattle.dae_tree.specs.Trees as tree
use Rattle.dae_parse_grammar.specs.Frames as plain
use Rattle.dae_parse_grammar.specs.Taken.{stack_taken, externals_before}
use Rattle.dae_parse_declarations.proofs.Counts.{taken_of, declared_too_long}
use Rattle.dae_parse_declarations.proofs.declarations.in_file.Goals as goal

pub returns : goal.returns
returns c = λ d xs s a b bottom e m.
    let all : length (externals_before (tree.Declared d ∷ xs) c.args.machine.now.rest) ≡ c.args.total =
    subst (λ (t : List plain.Frame). length (stack_taken t (externals_before xs (spell_declaration d c.args.machine.now.rest))) ≡ c.args.total) bottom e in
    let taken : c.saturating_sub-taken.result ≡ length (externals_before (tree.Declared d ∷ xs) []) =
    omega (arith, c.saturating_sub-taken.ensures, c.len.ensures, taken_of (tree.Declared d ∷ xs) c.args.machine.now.rest c.args.total all) in (
      record {
        read = c.in_ok-read.ensures xs (tree.Declared d) b.read (c.declared_external.ensures d a);
        taken = taken;
        too_long = declared_too_long xs d c.args.before.too_long b.too_long;
      },
      m.0,
      refl,
      refl,
      m.1,
    )
