-- What is read of several texts, one after the other.
use Rattle.std.proofs.Common.{◌≡◌, ◌+◌, ◌<◌, List, ◌∷◌, ◌++◌, ◌∙◌, Result, Ok, Err}
use Rattle.dae_tree.specs.declared.faults.LexError.{LexError}
use Rattle.dae_tree.specs.Reading.{Reading}

-- with what is read already
abbrev pub behind : List Reading → Result (List Reading) LexError → Result (List Reading) LexError
behind done (Ok rs) = Ok (done ++ rs)
behind done (Err e) = Err e
