use Rattle.std.proofs.Common.{◌≡◌, List, ◌∷◌, length, refl, sym, ap, subst, ◌∙◌, Bool}
use Rattle.dae_tree.specs.Marks.{TokenMark}
use Rattle.dae_tree.specs.Spelling.{spell_specifiers, spell_declarator}
use Rattle.dae_tree.specs.Statements.{spell_statement}
use Rattle.dae_parse_grammar.specs.Machine.{defined}
use Rattle.dae_parse_grammar.specs.Taken.{stack_taken}
use Rattle.dae_parse_parts.specs.Scopes.{Scopes}
use Rattle.dae_parse_states.specs.Kept.{Frame}
use Rattle.dae_parse_states.specs.Kept as frame
use Rattle.dae_parse_states.specs.declared.frames.DeclarationFrame.{DeclarationFrame}
use Rattle.dae_parse_states.specs.declared.frames.DeclarationFrame.TheVariants as declaration
use Rattle.dae_parse_states.specs.Frames.{ShowsStack}
use Rattle.dae_parse_states.specs.States.{frames_of}
use Rattle.dae_parse_declarations.proofs.Below.{file_or_none, is_defined}
use Rattle.dae_parse_declarations.proofs.definitions.in_definition.Goals as goal

pub returns-in_default-pop_declaration : goal.returns-in_default-pop_declaration
returns-in_default-pop_declaration c = λ b ws d outside s shows is k l bottom e m.
    file_or_none b ws d outside (frames_of c.args.machine.now) s c.args.machine.now.rest m.0 (λ f below q. c.in_default-pop_declaration.ensures.stack (declaration.InFile f) below q)

pub returns-in_default-file_of : goal.returns-in_default-file_of
returns-in_default-file_of c = λ b ws d outside s shows is k l bottom e m.
    file_or_none b ws d outside (frames_of c.args.machine.now) s c.args.machine.now.rest m.0 (λ f below q.
    let y = sym c.in-Some.ensures.stack ∙ q in
    let z : c.in-Some.frame ≡ declaration.InFile f = cc in
    c.in_default-file_of.ensures.none f z refl)

pub returns : goal.returns
returns c = λ b ws d outside s shows is k l bottom e m.
    let new = c.pop_declaration.new.self in
    let before = c.in-Some-file_of.before in
    let popped = c.in-Some.ensures in
    let top = popped.stack ∙ ap (λ (f : DeclarationFrame). frame.Declaration f ∷ frames_of new) (c.in-Some-file_of.ensures.some before refl) in
    let stack = subst (λ (fs : List Frame). ShowsStack fs s) top m.0 in
    let count = subst (λ (ts : List TokenMark). length (stack_taken s (spell_specifiers ws (spell_declarator d (spell_statement b ts)))) ≡ c.args.total) (sym popped.rest) e in
    let w = is_defined b ws d outside s new.rest c.args.found before (frames_of new) new.scope.outside c.args.total shows (sym c.in-Block.is ∙ is) stack bottom count (ap (λ (t : Scopes Bool). t.outside) popped.scope ∙ m.1) in
    let same = ap (λ (ts : List TokenMark). defined ws d outside b s ts) (sym popped.rest) ∙ w.same in
    rw same (c.add_definition.ensures w.place w.declarations w.statements ws d outside w.externals w.body k l w.file w.count (w.stack, w.scopes))
