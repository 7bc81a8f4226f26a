-- What stands below the body of a function.
use Rattle.std.proofs.Common.{◌≡◌, ℕ, length, List, [], ◌∷◌, Some, None, refl}
use Rattle.dae_base.specs.declared.Place.{Place}
use Rattle.dae_tree.specs.Marks.{TokenMark}
use Rattle.dae_tree.specs.Names.{Names}
use Rattle.dae_tree.specs.Spelling.{spell_specifiers, spell_declarator}
use Rattle.dae_tree.specs.Statements.{spell_statement}
use Rattle.dae_tree.specs.declared.statements.Statement.{Statement}
use Rattle.dae_tree.specs.Trees as tree
use Rattle.dae_parse_grammar.specs.Frames as plain
use Rattle.dae_parse_grammar.specs.Machine.{defined}
use Rattle.dae_parse_states.specs.declared.frames.FileSoFar.{FileSoFar}
use Rattle.dae_parse_states.specs.Kept.{Frame}
use Rattle.dae_parse_states.specs.Kept as frame
use Rattle.dae_parse_states.specs.declared.frames.DeclarationFrame.TheVariants as declaration
use Rattle.dae_parse_grammar.specs.Taken.{stack_taken, externals_before}
use Rattle.std.specs.Prelude.{Box}
use Rattle.std.specs.declared.alloc.Global.{Global}
use Rattle.dae_parse_parts.specs.declared.reading.Read.{Read}
use Rattle.dae_parse_nodes.specs.Parts.{ShowsStatement}
use Rattle.dae_parse_states.specs.States.{outside_stack}
use Rattle.dae_parse_states.specs.Bottom.{IsBottom}
use Rattle.dae_parse_states.specs.declared.frames.StatementKind.TheVariants as statement_kind
use Rattle.dae_parse_states.specs.Frames.{ShowsStack, ShowsFile, kind_of_statement}

-- it stands in a file alone
pub file_or_none : (b : tree.Statement) (ws : tree.Specifiers) (d : tree.Declarator) (outside : Names) (fs : List Frame) (s : List plain.Frame) (ts : List TokenMark) → ShowsStack fs s → ((f : FileSoFar) (below : List Frame) → ¬ (fs ≡ frame.Declaration (declaration.InFile f) ∷ below))
    → defined ws d outside b s ts ≡ None
file_or_none (tree.Block p ds ss) ws d outside [] (plain.awaits_declaration (plain.in_file xs) ∷ s) ts shows h = absurd shows
file_or_none (tree.Block p ds ss) ws d outside (frame.Declaration (declaration.InFile f) ∷ below) (plain.awaits_declaration (plain.in_file xs) ∷ s) ts shows h = absurd (h f below refl)
file_or_none (tree.Block p ds ss) ws d outside (_ ∷ below) (plain.awaits_declaration (plain.in_file xs) ∷ s) ts shows h = absurd shows.0
file_or_none _ ws d outside fs s ts shows h = refl

-- the parts of a definition, and what stands before it
pub record IsDefined (b : tree.Statement) (ws : tree.Specifiers) (d : tree.Declarator) (outside : Names) (s : List plain.Frame) (ts : List TokenMark) (found : Read (Box Statement Global)) (before : FileSoFar) (below : List Frame) (os : List Names) (total : ℕ) : Type 0 where
  pub place : Place
  pub declarations : List tree.Declaration
  pub statements : tree.Statements
  pub externals : List tree.External
  pub body : ShowsStatement found (tree.Block place declarations statements)
  pub file : ShowsFile before externals
  pub count : length (externals_before (tree.Defined ws d place declarations statements ∷ externals) ts) ≡ total
  pub stack : ShowsStack below []
  pub scopes : os ≡ outside ∷ []
  pub same : defined ws d outside b s ts ≡ Some (plain.state (plain.externals (tree.Defined ws d place declarations statements ∷ externals)) [] outside ts)

pub is_defined : (b : tree.Statement) (ws : tree.Specifiers) (d : tree.Declarator) (outside : Names) (s : List plain.Frame) (ts : List TokenMark) (found : Read (Box Statement Global)) (before : FileSoFar) (below : List Frame) (os : List Names) (total : ℕ)
    → ShowsStatement found b → statement_kind.Block ≡ kind_of_statement b → ShowsStack (frame.Declaration (declaration.InFile before) ∷ below) s → IsBottom s → length (stack_taken s (spell_specifiers ws (spell_declarator d (spell_statement b ts)))) ≡ total → os ≡ outside ∷ outside_stack s
    → IsDefined b ws d outside s ts found before below os total
is_defined (tree.Block p ds ss) ws d outside [] ts found before below os total shows is stack bottom e o = absurd stack
is_defined (tree.Block p ds ss) ws d outside (plain.awaits_declaration (plain.in_file xs) ∷ []) ts found before below os total shows is stack bottom e o =
    record { place = p; declarations = ds; statements = ss; externals = xs; body = shows; file = stack.0; count = e; stack = stack.1; scopes = o; same = refl }
is_defined (tree.Block p ds ss) ws d outside (plain.awaits_declaration (plain.in_file xs) ∷ g ∷ t) ts found before below os total shows is stack bottom e o = cc
is_defined (tree.Block p ds ss) ws d outside (_ ∷ t) ts found before below os total shows is stack bottom e o = absurd stack.0
is_defined _ ws d outside s ts found before below os total shows is stack bottom e o = absurd cc
