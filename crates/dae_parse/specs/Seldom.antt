-- What the machine does seldom.
use Rattle.dae_parse_states.specs.declared.frames.Doing.{Doing}
use Rattle.dae_parse_states.specs.declared.frames.Doing.TheVariants as doing

abbrev pub IsSeldom : Doing → Type 0
IsSeldom (doing.Seek a) = ⊥
IsSeldom (doing.Operated a b) = ⊥
IsSeldom (doing.Gave a) = ⊥
IsSeldom (doing.Calling a b c) = ⊥
IsSeldom (doing.Specifying a b) = ⊥
IsSeldom (doing.GaveSpecifiers a) = ⊥
IsSeldom (doing.Declaring a b) = ⊥
IsSeldom (doing.Suffixing a b) = ⊥
IsSeldom (doing.GaveDeclarator a) = ⊥
IsSeldom doing.Initialising = ⊥
IsSeldom (doing.Listing a b) = ⊥
IsSeldom (doing.GaveInitialiser a) = ⊥
IsSeldom (doing.AfterItem a b) = ⊥
IsSeldom (doing.GaveDeclaration a) = ⊥
IsSeldom (doing.Externals a) = ⊥
IsSeldom (doing.Declarations a) = ⊥
IsSeldom (doing.Statements a b) = ⊥
IsSeldom doing.AtStatement = ⊥
IsSeldom (doing.GaveStatement a b) = ⊥
IsSeldom _ = Unit {0}
