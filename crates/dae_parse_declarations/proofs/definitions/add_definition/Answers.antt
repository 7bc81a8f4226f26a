use Rattle.std.proofs.Common.{◌≡◌, ◌∷◌, [], length, Some, refl, ap, ◌∙◌, arith, Bool}
use Rattle.dae_tree.specs.Depth.{place_of_specifiers}
use Rattle.dae_tree.specs.Statements.{spell_external}
use Rattle.dae_tree.specs.Trees as tree
use Rattle.dae_parse_grammar.specs.Taken.{externals_before}
use Rattle.dae_parse_parts.specs.Scopes.{Scopes, closed_to}
use Rattle.dae_parse_declarations.proofs.Counts.{taken_of, length_of, defined_too_long}
use Rattle.dae_parse_declarations.proofs.definitions.add_definition.Goals as goal

pub returns : goal.returns
returns c = λ p ds ss ws d outside xs a b k f e m.
    let x = tree.Defined ws d p ds ss in
    let rest = c.args.machine.now.rest in
    let whole = c.in_ok-whole.ensures ws d p ds ss b k a in
    let end : c.saturating_sub-end.result ≡ length (externals_before (x ∷ xs) []) = omega (arith, c.saturating_sub-end.ensures, c.len.ensures, taken_of (x ∷ xs) rest c.args.total e) in
    let long : c.saturating_sub.result ≡ length (spell_external x []) = omega (arith, c.saturating_sub.ensures, c.saturating_sub-end.ensures, c.len.ensures, f.taken, length_of x xs rest c.args.total e) in
    let place : c.first.result ≡ Some (place_of_specifiers ws p) = c.first.ensures ∙ whole.holds.places.entries 0 (omega arith) in
    let scope = c.close.ensures ∙ ap (closed_to c.args.machine.now.scope.names) m.1 in (
      record {
        read = c.in_ok-read.ensures xs x f.read whole;
        taken = end;
        too_long = defined_too_long xs ws d p ds ss c.args.before.too_long c.too_long_by-too_long.result c.first.result c.saturating_sub.result f.too_long long place c.too_long_by-too_long.ensures;
      },
      m.0,
      ap (λ (s : Scopes Bool). s.names) scope,
      refl,
      ap (λ (s : Scopes Bool). s.outside) scope,
    )
