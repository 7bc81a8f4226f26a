use Rattle.std.proofs.Common.{ℕ, ◌≤◌}
use Rattle.dae_alias.specs.Meeting.{known_in}
use Rattle.dae_alias.proofs.Marks.{MarkedTo}
use Rattle.dae_alias.proofs.marking.+mark.Given as goal

abbrev pub invariant-mark_statements-loop-statement : goal.invariant-mark_statements-loop-statement
invariant-mark_statements-loop-statement l = record {
  marked : MarkedTo l.statements l.fn.marks.items l.statement-index l.walk l.marks.items;
  seldom : (v : ℕ) → (let known = known_in l.walk in known.times v) ≤ l.statement-index;
}
