-- The pieces that a sink was given.
use Rattle.std.specs.Prelude.{ℕ, List}
use Rattle.std.specs.Coded.{Coded, coded_ℕ, coded_list}

-- how the logic stores them
abbrev pub pieces_code : Coded (List (List ℕ))
pieces_code = coded_list (coded_list coded_ℕ)
