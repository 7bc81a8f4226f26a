-- A turn of a `go`, and what it comes to.
use Rattle.std.proofs.Common.{◌≡◌, ℕ, suc, ◌+◌, ◌%◌, ◌^◌, ◌<◌, true, false, List, sym, subst, arith}
use Rattle.std.specs.Prelude.{Some}
use Rattle.dae_machine.specs.declared.End.{End}
use Rattle.dae_machine.specs.declared.Pick.{Pick}
use Rattle.dae_machine.specs.declared.Turn.TheVariants as turn
use Rattle.dae_machine.specs.Held.{HeldMachine}
use Rattle.dae_machine.specs.Rests.{TurnedTo}
use Rattle.dae_machine.specs.Turns.{pick_of}
use Rattle.dae_debug.specs.Breaks.{HeldBreaks}
use Rattle.dae_debug.specs.Sessions.{GoesOn, TakesTurn, Went, most_steps, one_turn, reached, reaches_break, rested}
use Rattle.dae_debug.proofs.Held.{held_same}

module _ (breaks : HeldBreaks) (start : HeldMachine) (turns k word : ℕ) (m n : HeldMachine) (lt : k < turns) (way : GoesOn breaks start k m)
    (few : m.state.steps < most_steps) (is : word ≡ m.state.steps % 2 ^ 32) (same : n.setup ≡ m.setup) where
  takes : (pick : Pick) (piece : List ℕ) → TurnedTo (turn.Stepped pick piece) word m.setup m.state n.state → TakesTurn m pick n
  takes pick piece t = record {
    few = few;
    picks = subst (λ (w : ℕ). pick_of m.setup m.state w ≡ Some pick) is t.0;
    piece = piece;
    steps = record { setup = same; state = t.1 };
  }

  pub goes_more : (pick : Pick) (piece : List ℕ) → TurnedTo (turn.Stepped pick piece) word m.setup m.state n.state → reaches_break breaks pick n.state ≡ false
      → GoesOn breaks start (k + 1) n
  goes_more pick piece t none =
      let add : suc k ≡ k + 1 = omega arith in
      subst (λ (j : ℕ). GoesOn breaks start j n) add (one_turn way (takes pick piece t) none)

  pub stops_there : (pick : Pick) (piece : List ℕ) → TurnedTo (turn.Stepped pick piece) word m.setup m.state n.state → reaches_break breaks pick n.state ≡ true
      → Went breaks turns start n
  stops_there pick piece t at = reached lt way (takes pick piece t) at

  pub rests_final : (end : End) → TurnedTo (turn.Final end) word m.setup m.state n.state → Went breaks turns start n
  rests_final end t =
      let f = t.0 in
      subst (λ (h : HeldMachine). Went breaks turns start h) (sym (held_same n m same t.2)) (rested lt way f.quiet)

  pub rests_stuck : TurnedTo turn.Stuck word m.setup m.state n.state → Went breaks turns start n
  rests_stuck t =
      let s = t.0 in
      subst (λ (h : HeldMachine). Went breaks turns start h) (sym (held_same n m same t.1)) (rested lt way s.quiet)
