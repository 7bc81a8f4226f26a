use Rattle.std.proofs.Common.{◌≡◌, ◌++◌, drop, map}
use Rattle.dae_lex.proofs.finish.own_names.Given as goal

abbrev pub invariant-loop-name : goal.invariant-loop-name
invariant-loop-name l = l.owned.items ++ map (λ k. k.now) (drop l.name-index l.names) ≡ map (λ k. k.now) l.names
