-- Where a file stands in the machine.
use Rattle.std.specs.Prelude.{◌≡◌, List, [], ◌∷◌}
use Rattle.dae_parse_grammar.specs.Frames.{Frame, awaits_declaration, in_file, Doing, externals, ParserState, state}

-- What is read of a file stands at the bottom of the stack alone.
abbrev pub IsBottom : List Frame → Type 0
IsBottom [] = Unit {0}
IsBottom (awaits_declaration (in_file before) ∷ s) = s ≡ []
IsBottom (_ ∷ s) = IsBottom s

-- Between two externals nothing stands on the stack.
abbrev pub IsEmptyAt : Doing → List Frame → Type 0
IsEmptyAt (externals before) s = s ≡ []
IsEmptyAt _ s = Unit {0}

-- Both hold of a state's stack.
abbrev pub IsBottomState : ParserState → Type 0
IsBottomState (state d s names ts) = IsBottom s × IsEmptyAt d s
