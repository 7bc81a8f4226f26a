-- A tick prints at most one piece.
use Rattle.std.proofs.Common.{◌≡◌, ℕ, ◌≤◌, Bool, true, false, List, [], ◌∷◌, ◌++◌, refl, ap, sym, ◌∙◌, subst, append-nil, arith}
use Rattle.std.specs.Prelude.{Option, Some, None}
use Rattle.std.specs.List.{concat}
use Rattle.std.proofs.lemmas.List.{append_cancel_left}
use Rattle.std.proofs.lemmas.List.Folds.{concat-append}
use Rattle.dae_base.proofs.Laws.{map_some_is}
use Rattle.dae_base.specs.declared.Side.TheVariants.{A}
use Rattle.dae_machine.specs.declared.Pick.{Pick}
use Rattle.dae_machine.specs.declared.Pick.TheVariants.{A as MoveA, E as MoveE, Fill, Drain}
use Rattle.dae_machine.specs.Ends.{is_e}
use Rattle.dae_machine.specs.Machine.{Setup, State, drained, filled, move, moved_a, step}
use Rattle.dae_machine.specs.Memory.{drain, fill}
use Rattle.dae_machine.specs.Runs.{often}
use Rattle.dae_cli_options.specs.declared.options.Costs.{Costs}
use Rattle.dae_cli_drive.specs.Pieces.{pieces, pieces_on, then_later, unprinted}
use Rattle.dae_timing.specs.Clocks.{Clock}
use Rattle.dae_timing.specs.Ticks.{in_order, picks_of}
use Rattle.dae_timing.proofs.LawsOfTicks.{prints_once}

-- only E prints
quiet : (setup : Setup) (s t : State) (p : Pick) → is_e p ≡ false → step setup (unprinted s) p ≡ Some t → t.printed ≡ []
quiet setup s t MoveA e h = let x = map_some_is (moved_a (unprinted s)) (move setup A s.a s.queues) t h in sym (ap (λ (u : State). u.printed) x.2)
quiet setup s t MoveE e h = cc
quiet setup s t (Fill side n) e h = let x = map_some_is (filled (unprinted s)) (fill side n s.queues s.memory) t h in sym (ap (λ (u : State). u.printed) x.2)
quiet setup s t Drain e h = let x = map_some_is (drained (unprinted s)) (drain s.queues s.memory) t h in sym (ap (λ (u : State). u.printed) x.2)

later_none : (piece : List ℕ) → then_later piece [] ≡ then_later (concat (then_later piece [])) []
later_none [] = refl
later_none (b ∷ bs) = rw (append-nil (b ∷ bs)) refl

module _ (setup : Setup) where
  -- picks without a step of E print nothing
  no_pieces : (s : State) (ps : List Pick) → often is_e ps ≡ 0 → pieces setup s ps ≡ []
  no_pieces s [] h = refl
  no_pieces s (p ∷ ps) h = by_e (is_e p) refl (λ t none. no_pieces t ps none) where
    by_step : (o : Option State) → step setup (unprinted s) p ≡ o → is_e p ≡ false → ((t : State) → pieces setup t ps ≡ []) → pieces_on o (λ t. pieces setup t ps) ≡ []
    by_step None e not later = refl
    by_step (Some t) e not later = ap (λ (text : List ℕ). then_later text (pieces setup t ps)) (quiet setup s t p not e) ∙ later t

    by_e : (b : Bool) → is_e p ≡ b → ((t : State) → often is_e ps ≡ 0 → pieces setup t ps ≡ []) → pieces setup s (p ∷ ps) ≡ []
    by_e true e later = absurd (let k = rw e at h in omega arith)
    by_e false e later = by_step (step setup (unprinted s) p) refl e (λ t. later t (let k = rw e at h in omega arith))

  -- picks with at most one step of E print at most one piece
  one_piece : (s : State) (ps : List Pick) → often is_e ps ≤ 1 → pieces setup s ps ≡ then_later (concat (pieces setup s ps)) []
  one_piece s [] h = refl
  one_piece s (p ∷ ps) h = by_e (is_e p) refl (λ t few. one_piece t ps few) where
    by_step : (o : Option State) → step setup (unprinted s) p ≡ o → is_e p ≡ false → ((t : State) → pieces setup t ps ≡ then_later (concat (pieces setup t ps)) []) → pieces_on o (λ t. pieces setup t ps) ≡ then_later (concat (pieces_on o (λ t. pieces setup t ps))) []
    by_step None e not later = refl
    by_step (Some t) e not later = subst (λ (text : List ℕ). then_later text (pieces setup t ps) ≡ then_later (concat (then_later text (pieces setup t ps))) []) (sym (quiet setup s t p not e)) (later t)

    by_print : (o : Option State) → often is_e ps ≡ 0 → pieces_on o (λ t. pieces setup t ps) ≡ then_later (concat (pieces_on o (λ t. pieces setup t ps))) []
    by_print None none = refl
    by_print (Some t) none = rw (no_pieces t ps none) (later_none t.printed)

    by_e : (b : Bool) → is_e p ≡ b → ((t : State) → often is_e ps ≤ 1 → pieces setup t ps ≡ then_later (concat (pieces setup t ps)) []) → pieces setup s (p ∷ ps) ≡ then_later (concat (pieces setup s (p ∷ ps))) []
    by_e true e later = by_print (step setup (unprinted s) p) (let k = rw e at h in omega arith)
    by_e false e later = by_step (step setup (unprinted s) p) refl e (λ t. later t (let k = rw e at h in omega arith))

-- what more pieces come to, where with them a text was printed behind another
pub rest_printed : (before text : List ℕ) (ps qs : List (List ℕ)) → before ≡ concat ps → before ++ text ≡ concat (ps ++ qs) → concat qs ≡ text
rest_printed before text ps qs first all = append_cancel_left before (concat qs) text (ap (λ (l : List ℕ). l ++ concat qs) first ∙ sym (concat-append ps qs) ∙ sym all)

-- the pieces of a tick's picks are what they print together
pub tick_pieces : (setup : Setup) (k : Costs) (c : Clock) (s : State) (text : List ℕ) → concat (pieces setup s (in_order (picks_of setup k c))) ≡ text → pieces setup s (in_order (picks_of setup k c)) ≡ then_later text []
tick_pieces setup k c s text e = one_piece setup s (in_order (picks_of setup k c)) (prints_once setup k c) ∙ ap (λ (l : List ℕ). then_later l []) e
