-- What stands on the stack of the grammar's machine, by the top frame in memory.
use Rattle.std.proofs.Common.{List, [], ◌∷◌}
use Rattle.std.specs.Prelude.{Box}
use Rattle.std.specs.declared.alloc.Global.{Global}
use Rattle.dae_parse_nodes.specs.declared.values.Loop.{Loop}
use Rattle.dae_parse_nodes.specs.Parts.{ShowsOptional, ShowsSpecified, ShowsDeclared, ShowsLoop}
use Rattle.dae_parse_grammar.specs.Frames as plain
use Rattle.dae_parse_states.specs.Kept.{Frame}
use Rattle.dae_parse_states.specs.Kept as frame
use Rattle.dae_parse_states.specs.declared.frames.ExpressionFrame.TheVariants as expression
use Rattle.dae_parse_states.specs.declared.frames.DeclaratorFrame.TheVariants as declarator
use Rattle.dae_parse_states.specs.declared.frames.StatementFrame.TheVariants as statement
use Rattle.dae_parse_states.specs.Frames.{manner_of, ShowsHead, ShowsStack}

pub popped_in_test : (h : _) (p : _) (below : List Frame) (P : List plain.Frame → Type 0) (stack : List plain.Frame) → ShowsStack (frame.Expression (expression.InTest h p) ∷ below) stack
    → ((a : _) (t : List plain.Frame) → ShowsHead h a → ShowsStack below t → P (plain.awaits_expression (plain.in_test a p) ∷ t)) → P stack
popped_in_test h p below P [] shows next = absurd shows
popped_in_test h p below P (plain.awaits_expression (plain.in_test a q) ∷ t) shows next = rw (← shows.0.1) (next a t shows.0.0 shows.1)
popped_in_test h p below P (_ ∷ t) shows next = absurd shows.0

pub popped_in_start : (p : _) (r : _) (below : List Frame) (P : List plain.Frame → Type 0) (stack : List plain.Frame) → ShowsStack (frame.Expression (expression.InStart p r) ∷ below) stack
    → ((t : List plain.Frame) → ShowsStack below t → P (plain.awaits_expression (plain.in_start p r) ∷ t)) → P stack
popped_in_start p r below P [] shows next = absurd shows
popped_in_start p r below P (plain.awaits_expression (plain.in_start q u) ∷ t) shows next = rw (← shows.0.0, ← shows.0.1) (next t shows.1)
popped_in_start p r below P (_ ∷ t) shows next = absurd shows.0

pub popped_in_loop_test : (p : _) (r : _) (a : _) (v : _) (below : List Frame) (P : List plain.Frame → Type 0) (stack : List plain.Frame) → ShowsStack (frame.Expression (expression.InLoopTest p r a v) ∷ below) stack
    → ((e : _) (t : List plain.Frame) → ShowsOptional a e → ShowsStack below t → P (plain.awaits_expression (plain.in_loop_test p r e v) ∷ t)) → P stack
popped_in_loop_test p r a v below P [] shows next = absurd shows
popped_in_loop_test p r a v below P (plain.awaits_expression (plain.in_loop_test q u e w) ∷ t) shows next = rw (← shows.0.0, ← shows.0.1, ← shows.0.3) (next e t shows.0.2 shows.1)
popped_in_loop_test p r a v below P (_ ∷ t) shows next = absurd shows.0

pub popped_in_return : (p : _) (below : List Frame) (P : List plain.Frame → Type 0) (stack : List plain.Frame) → ShowsStack (frame.Expression (expression.InReturn p) ∷ below) stack
    → ((t : List plain.Frame) → ShowsStack below t → P (plain.awaits_expression (plain.in_return p) ∷ t)) → P stack
popped_in_return p below P [] shows next = absurd shows
popped_in_return p below P (plain.awaits_expression (plain.in_return q) ∷ t) shows next = rw (← shows.0) (next t shows.1)
popped_in_return p below P (_ ∷ t) shows next = absurd shows.0

pub popped_in_group : (p : _) (m : _) (below : List Frame) (P : List plain.Frame → Type 0) (stack : List plain.Frame) → ShowsStack (frame.Declarator (declarator.InGroup p m) ∷ below) stack
    → ((t : List plain.Frame) → ShowsStack below t → P (plain.awaits_declarator (plain.in_group p (manner_of m)) ∷ t)) → P stack
popped_in_group p m below P [] shows next = absurd shows
popped_in_group p m below P (plain.awaits_declarator (plain.in_group q n) ∷ t) shows next = rw (← shows.0.0, ← shows.0.1) (next t shows.1)
popped_in_group p m below P (_ ∷ t) shows next = absurd shows.0

pub popped_for_body : (l : Box Loop Global) (a : _) (below : List Frame) (P : List plain.Frame → Type 0) (stack : List plain.Frame) → ShowsStack (frame.Statement (statement.ForBody l a) ∷ below) stack
    → ((k : _) (e : _) (t : List plain.Frame) → ShowsLoop l.value k → ShowsOptional a e → ShowsStack below t → P (plain.awaits_statement (plain.for_body k e) ∷ t)) → P stack
popped_for_body l a below P [] shows next = absurd shows
popped_for_body l a below P (plain.awaits_statement (plain.for_body k e) ∷ t) shows next = next k e t shows.0.0 shows.0.1 shows.1
popped_for_body l a below P (_ ∷ t) shows next = absurd shows.0

pub popped_in_definition : (s : _) (d : _) (below : List Frame) (P : List plain.Frame → Type 0) (stack : List plain.Frame) → ShowsStack (frame.Statement (statement.InDefinition s d) ∷ below) stack
    → ((ws : _) (e : _) (outside : _) (t : List plain.Frame) → ShowsSpecified s ws → ShowsDeclared d e → ShowsStack below t → P (plain.awaits_statement (plain.in_definition ws e outside) ∷ t)) → P stack
popped_in_definition s d below P [] shows next = absurd shows
popped_in_definition s d below P (plain.awaits_statement (plain.in_definition ws e outside) ∷ t) shows next = next ws e outside t shows.0.0 shows.0.1 shows.1
popped_in_definition s d below P (_ ∷ t) shows next = absurd shows.0
