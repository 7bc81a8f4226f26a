use Rattle.dae_accept.proofs.Seen.{Starts}
use Rattle.dae_accept.proofs.reading.parse_all.Given as goal

abbrev pub invariant-loop-tokens : goal.invariant-loop-tokens
invariant-loop-tokens l = Starts l.readings l.tokens-index l.files.items
