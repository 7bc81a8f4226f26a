use Rattle.std.proofs.Common.{◌≡◌, drop}
use Rattle.dae_lex.specs.Numbers.{cuts_of}
use Rattle.dae_tree.specs.Directives.{same_spellings}
use Rattle.dae_lex.proofs.directives.same_body.Given as goal

abbrev pub invariant-loop-i : goal.invariant-loop-i
invariant-loop-i l = same_spellings (cuts_of (drop l.i l.a)) (cuts_of (drop l.i l.b)) ≡ same_spellings (cuts_of l.a) (cuts_of l.b)
