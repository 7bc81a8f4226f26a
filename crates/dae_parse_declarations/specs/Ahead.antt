-- What a parenthesis before a declarator begins.
use Rattle.std.specs.Prelude.{Bool, false, List}
use Rattle.dae_tree.specs.Marks.{TokenMark}
use Rattle.dae_tree.specs.Names.{Names}
use Rattle.dae_tree.specs.Grammar.{Manner, by_name}
use Rattle.dae_parse_grammar.specs.Machine.{begins_parameters}

-- whether parameters stand behind it, where a name may be lacking
abbrev pub parameters_ahead : Manner → Names → List TokenMark → Bool
parameters_ahead by_name names ts = false
parameters_ahead m names ts = begins_parameters names ts
