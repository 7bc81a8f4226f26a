-- What the code has of a line.
use Rattle.std.specs.Prelude.{List, [], map}
use Rattle.dae_tree.specs.Pieces.{Cut}
use Rattle.dae_tree.specs.Directives.{DirectiveLine, text, include, define, refuse, marks_of}
use Rattle.dae_lex_scan.specs.Cuts.{cut_of}
use Rattle.dae_lex_scan.specs.declared.directives.ReadLine.{ReadLine}
use Rattle.dae_lex_scan.specs.declared.directives.ReadLine.TheVariants as read

abbrev pub line_from : List Cut → ReadLine → DirectiveLine
line_from all read.Text = text all
line_from all read.Nothing = text []
line_from all (read.Include hash header) = include hash header
line_from all (read.Define hash name rest) =
    define hash (record { name = name.spelling.now; body = marks_of (map cut_of rest.now) })
line_from all (read.Refuse error) = refuse error
