-- What the machine's state shows of a state of the grammar's machine.
use Rattle.std.specs.Prelude.{◌≡◌, List, [], ◌∷◌, map, Option, Some, None, Result, IfOk, reverse}
use Rattle.std.specs.declared.alloc.AllocError.{AllocError}
use Rattle.dae_tree.specs.Marks.{TokenMark}
use Rattle.dae_tree.specs.Names.{Names}
use Rattle.dae_parse_grammar.specs.Frames as plain
use Rattle.dae_parse_parts.specs.Scopes.{Scopes}
use Rattle.dae_parse_states.specs.Frames.{ShowsDoing, ShowsStack}
use Rattle.dae_parse_states.specs.declared.frames.Frame.{Frame as FrameInMemory}
use Rattle.dae_parse_states.specs.Kept.{Frame, out_of_box}
use Rattle.dae_parse_states.specs.declared.frames.Doing.{Doing}
use Rattle.dae_parse_states.specs.declared.machine.Parser.{Parser}

-- the names that each open scope goes back to, the innermost first
abbrev pub outside_frame : plain.Frame → List Names → List Names
outside_frame (plain.awaits_specifiers (plain.for_parameter o before)) os = o.outside ∷ os
outside_frame (plain.awaits_declarator (plain.of_parameter o before ws)) os = o.outside ∷ os
outside_frame (plain.awaits_declaration (plain.in_block i)) os = i.outside ∷ os
outside_frame (plain.awaits_statement (plain.in_statements i before)) os = i.outside ∷ os
outside_frame (plain.awaits_statement (plain.in_definition ws d outside)) os = outside ∷ os
outside_frame _ os = os

abbrev pub outside_stack : List plain.Frame → List Names
outside_stack [] = []
outside_stack (f ∷ s) = outside_frame f (outside_stack s)

abbrev pub outside_doing : plain.Doing → List Names → List Names
outside_doing (plain.declarations i) os = i.outside ∷ os
outside_doing (plain.statements i before) os = i.outside ∷ os
outside_doing _ os = os

-- the frames, the top first
abbrev pub frames_of : Parser → List Frame
frames_of m = map out_of_box (reverse m.stack.items)

-- the top frame was taken, or none was there
abbrev pub Popped : Option FrameInMemory → List Frame → List Frame → Type 0
Popped None old new = old ≡ []
Popped (Some f) old new = old ≡ out_of_box f ∷ new

-- the top frame was one of a kind and was taken, or it was none of that kind
abbrev pub PoppedOf : {A : Type 0} → (A → Frame) → Option A → List Frame → List Frame → Type 0
PoppedOf {A} of None old new = (x : A) (below : List Frame) → ¬ (old ≡ of x ∷ below)
PoppedOf of (Some x) old new = old ≡ of x ∷ new

-- before a step
abbrev pub Stands : Parser → List plain.Frame → List Names → Type 0
Stands m s outside = ShowsStack (frames_of m) s × (m.scope.outside ≡ outside)

abbrev pub ShowsState : Doing → Parser → plain.ParserState → Type 0
ShowsState d m (plain.state e s names tokens) = ShowsDoing d e × ShowsStack (frames_of m) s × (m.scope.names ≡ names) × (m.rest ≡ tokens) × (m.scope.outside ≡ outside_doing e (outside_stack s))

-- what a step comes to: the next state, or none
abbrev pub Follows : Option Doing → Parser → Option plain.ParserState → Type 0
Follows (Some d) m (Some t) = ShowsState d m t
Follows (Some d) m None = ⊥
Follows None m t = t ≡ None

-- What a step does, by what the grammar's machine does next with its stack, its names and its tokens: what shows a state
-- before the step shows the state behind it.
abbrev pub Steps : Parser → Result (Option Doing) AllocError → Parser → (List plain.Frame → Names → List TokenMark → Option plain.ParserState) → Type 0
Steps old result new next = (s : List plain.Frame) → Stands old s (outside_stack s) → IfOk result (λ r. Follows r new (next s old.scope.names old.rest))
