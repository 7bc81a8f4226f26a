-- The stack: a list that grows at the end, seen from the end, out of its boxes.
use Rattle.std.proofs.Common.{◌≡◌, List, [], ◌∷◌, ◌++◌, map, reverse, Option, Some, None, refl, ap}
use Rattle.std.specs.Prelude.{Box}
use Rattle.std.specs.declared.alloc.Global.{Global}
use Rattle.std.proofs.lemmas.List.{reverse-append}
use Rattle.dae_parse_states.specs.declared.frames.ExpressionFrame.{ExpressionFrame}
use Rattle.dae_parse_states.specs.declared.frames.SpecifiersFrame.{SpecifiersFrame}
use Rattle.dae_parse_states.specs.declared.frames.DeclaratorFrame.{DeclaratorFrame}
use Rattle.dae_parse_states.specs.declared.frames.InitialiserFrame.{InitialiserFrame}
use Rattle.dae_parse_states.specs.declared.frames.DeclarationFrame.{DeclarationFrame}
use Rattle.dae_parse_states.specs.declared.frames.StatementFrame.{StatementFrame}
use Rattle.dae_parse_states.specs.declared.frames.Frame.{Frame as FrameInMemory}
use Rattle.dae_parse_states.specs.declared.frames.Frame.TheVariants as boxed
use Rattle.dae_parse_states.specs.Kept.{Frame, out_of_box}
use Rattle.dae_parse_states.specs.Kept as frame
use Rattle.dae_parse_states.specs.States.{Popped}

pub stack_more : (fs : List FrameInMemory) (f : FrameInMemory) → map out_of_box (reverse (fs ++ f ∷ [])) ≡ out_of_box f ∷ map out_of_box (reverse fs)
stack_more fs f = ap (map out_of_box) (reverse-append fs (f ∷ []))

-- ---- a frame that isn't one of a kind

pub not_expression : (o : Option FrameInMemory) (old new : List Frame) → Popped o old new → ((b : Box ExpressionFrame Global) → o ≡ Some (boxed.Expression b) → ⊥) → (x : ExpressionFrame) (below : List Frame) → old ≡ frame.Expression x ∷ below → ⊥
not_expression None old new p never x below e = cc
not_expression (Some (boxed.Expression b)) old new p never x below e = absurd (never b refl)
not_expression (Some (boxed.Specifiers b)) old new p never x below e = cc
not_expression (Some (boxed.Declarator b)) old new p never x below e = cc
not_expression (Some (boxed.Initialiser b)) old new p never x below e = cc
not_expression (Some (boxed.Declaration b)) old new p never x below e = cc
not_expression (Some (boxed.Statement b)) old new p never x below e = cc

pub not_specifiers : (o : Option FrameInMemory) (old new : List Frame) → Popped o old new → ((b : Box SpecifiersFrame Global) → o ≡ Some (boxed.Specifiers b) → ⊥) → (x : SpecifiersFrame) (below : List Frame) → old ≡ frame.Specifiers x ∷ below → ⊥
not_specifiers None old new p never x below e = cc
not_specifiers (Some (boxed.Expression b)) old new p never x below e = cc
not_specifiers (Some (boxed.Specifiers b)) old new p never x below e = absurd (never b refl)
not_specifiers (Some (boxed.Declarator b)) old new p never x below e = cc
not_specifiers (Some (boxed.Initialiser b)) old new p never x below e = cc
not_specifiers (Some (boxed.Declaration b)) old new p never x below e = cc
not_specifiers (Some (boxed.Statement b)) old new p never x below e = cc

pub not_declarator : (o : Option FrameInMemory) (old new : List Frame) → Popped o old new → ((b : Box DeclaratorFrame Global) → o ≡ Some (boxed.Declarator b) → ⊥) → (x : DeclaratorFrame) (below : List Frame) → old ≡ frame.Declarator x ∷ below → ⊥
not_declarator None old new p never x below e = cc
not_declarator (Some (boxed.Expression b)) old new p never x below e = cc
not_declarator (Some (boxed.Specifiers b)) old new p never x below e = cc
not_declarator (Some (boxed.Declarator b)) old new p never x below e = absurd (never b refl)
not_declarator (Some (boxed.Initialiser b)) old new p never x below e = cc
not_declarator (Some (boxed.Declaration b)) old new p never x below e = cc
not_declarator (Some (boxed.Statement b)) old new p never x below e = cc

pub not_initialiser : (o : Option FrameInMemory) (old new : List Frame) → Popped o old new → ((b : Box InitialiserFrame Global) → o ≡ Some (boxed.Initialiser b) → ⊥) → (x : InitialiserFrame) (below : List Frame) → old ≡ frame.Initialiser x ∷ below → ⊥
not_initialiser None old new p never x below e = cc
not_initialiser (Some (boxed.Expression b)) old new p never x below e = cc
not_initialiser (Some (boxed.Specifiers b)) old new p never x below e = cc
not_initialiser (Some (boxed.Declarator b)) old new p never x below e = cc
not_initialiser (Some (boxed.Initialiser b)) old new p never x below e = absurd (never b refl)
not_initialiser (Some (boxed.Declaration b)) old new p never x below e = cc
not_initialiser (Some (boxed.Statement b)) old new p never x below e = cc

pub not_declaration : (o : Option FrameInMemory) (old new : List Frame) → Popped o old new → ((b : Box DeclarationFrame Global) → o ≡ Some (boxed.Declaration b) → ⊥) → (x : DeclarationFrame) (below : List Frame) → old ≡ frame.Declaration x ∷ below → ⊥
not_declaration None old new p never x below e = cc
not_declaration (Some (boxed.Expression b)) old new p never x below e = cc
not_declaration (Some (boxed.Specifiers b)) old new p never x below e = cc
not_declaration (Some (boxed.Declarator b)) old new p never x below e = cc
not_declaration (Some (boxed.Initialiser b)) old new p never x below e = cc
not_declaration (Some (boxed.Declaration b)) old new p never x below e = absurd (never b refl)
not_declaration (Some (boxed.Statement b)) old new p never x below e = cc

pub not_statement : (o : Option FrameInMemory) (old new : List Frame) → Popped o old new → ((b : Box StatementFrame Global) → o ≡ Some (boxed.Statement b) → ⊥) → (x : StatementFrame) (below : List Frame) → old ≡ frame.Statement x ∷ below → ⊥
not_statement None old new p never x below e = cc
not_statement (Some (boxed.Expression b)) old new p never x below e = cc
not_statement (Some (boxed.Specifiers b)) old new p never x below e = cc
not_statement (Some (boxed.Declarator b)) old new p never x below e = cc
not_statement (Some (boxed.Initialiser b)) old new p never x below e = cc
not_statement (Some (boxed.Declaration b)) old new p never x below e = cc
not_statement (Some (boxed.Statement b)) old new p never x below e = absurd (never b refl)
