-- The order of places in a text, in which the first refusal of a list has the least place.
use Rattle.std.specs.Prelude.{◌≡◌, ◌<◌, ◌≤◌, ◌⊎◌, All, List, [], ◌∷◌, ◌++◌, Result, Ok, Err}
use Rattle.dae_base.specs.declared.Place.{Place}
use Rattle.dae_tree.specs.Replacing.{Tested, token, failed}
use Rattle.dae_tree.specs.declared.faults.LexError.{LexError}
use Rattle.dae_tree.specs.declared.faults.LexError.TheVariants as errors

-- a place stands no later in a text than another
abbrev pub IsNoLater : Place → Place → Type 0
IsNoLater p q = (p.line < q.line) ⊎ ((p.line ≡ q.line) × (p.col ≤ q.col))

-- the places of refusals
abbrev pub place_of_error : LexError → List Place
place_of_error (errors.BadByte p) = p ∷ []
place_of_error (errors.TooManyTokens p) = p ∷ []
place_of_error (errors.Refused construct p) = p ∷ []
place_of_error errors.Memory = []

abbrev pub refusals : List Tested → List Place
refusals [] = []
refusals (token t ∷ ts) = refusals ts
refusals (failed error ∷ ts) = place_of_error error ++ refusals ts

-- a refusal has the least place of all refusals in the list
abbrev pub HasLeastPlace : {A : Type 0} → Result A LexError → List Tested → Type 0
HasLeastPlace (Ok x) list = Unit {0}
HasLeastPlace (Err errors.Memory) list = Unit {0}
HasLeastPlace (Err (errors.BadByte p)) list = All (IsNoLater p) (refusals list)
HasLeastPlace (Err (errors.TooManyTokens p)) list = All (IsNoLater p) (refusals list)
HasLeastPlace (Err (errors.Refused construct p)) list = All (IsNoLater p) (refusals list)
