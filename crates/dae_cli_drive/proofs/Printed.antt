-- The pieces that runs print.
use Rattle.std.proofs.Common.{◌≡◌, ℕ, List, [], ◌∷◌, ◌++◌, refl, ap, sym, ◌∙◌, append_assoc, append-nil}
use Rattle.std.specs.Prelude.{Option, Some, option_map}
use Rattle.std.specs.List.{concat}
use Rattle.std.proofs.lemmas.Option.{same_Some}
use Rattle.dae_base.proofs.Laws.{and_then_some, map_some_is}
use Rattle.dae_base.specs.declared.Side.TheVariants.{A, E}
use Rattle.dae_machine.specs.declared.Pick.{Pick}
use Rattle.dae_machine.specs.declared.Pick.TheVariants.{A as MoveA, E as MoveE, Fill, Drain}
use Rattle.dae_machine.specs.Memory.{fill, drain}
use Rattle.dae_machine.specs.Machine.{Setup, State, move, moved_a, moved_e, filled, drained, step, Runs}
use Rattle.dae_machine.specs.Printing.{behind}
use Rattle.dae_machine.specs.Runs.{run_by}
use Rattle.dae_cli_drive.specs.Pieces.{pieces, pieces_on, then_later, unprinted}

-- a step of a state, seen as a step of the state without what was printed
pub record Front (setup : Setup) (s t : State) (p : Pick) : Type 0 where
  pub next : State
  pub steps : step setup (unprinted s) p ≡ Some next
  pub is : t ≡ behind s.printed next

nothing_more : (s t : State) → s.printed ≡ t.printed → t ≡ record t { printed = s.printed ++ [] }
nothing_more s t e = ap (λ (text : List ℕ). record t { printed = text }) (sym e ∙ sym (append-nil s.printed))

pub front : (setup : Setup) (s t : State) (p : Pick) → step setup s p ≡ Some t → Front setup s t p
front setup s t MoveA h =
    let x = map_some_is (moved_a s) (move setup A s.a s.queues) t h in
    record { next = moved_a (unprinted s) x.0; steps = ap (option_map (moved_a (unprinted s))) x.1; is = sym x.2 ∙ nothing_more s (moved_a s x.0) refl }
front setup s t MoveE h =
    let x = map_some_is (moved_e s) (move setup E s.e s.queues) t h in
    record { next = moved_e (unprinted s) x.0; steps = ap (option_map (moved_e (unprinted s))) x.1; is = sym x.2 }
front setup s t (Fill side n) h =
    let x = map_some_is (filled s) (fill side n s.queues s.memory) t h in
    record { next = filled (unprinted s) x.0; steps = ap (option_map (filled (unprinted s))) x.1; is = sym x.2 ∙ nothing_more s (filled s x.0) refl }
front setup s t Drain h =
    let x = map_some_is (drained s) (drain s.queues s.memory) t h in
    record { next = drained (unprinted s) x.0; steps = ap (option_map (drained (unprinted s))) x.1; is = sym x.2 ∙ nothing_more s (drained s x.0) refl }

-- what was printed before changes no piece
pub same_pieces : (setup : Setup) (s : State) (text : List ℕ) (ps : List Pick) → pieces setup (behind text s) ps ≡ pieces setup s ps
same_pieces setup s text [] = refl
same_pieces setup s text (p ∷ ps) = refl

then_append : (piece : List ℕ) (xs ys : List (List ℕ)) → then_later piece (xs ++ ys) ≡ then_later piece xs ++ ys
then_append [] xs ys = refl
then_append (b ∷ bs) xs ys = refl

then_concat : (piece : List ℕ) (xs : List (List ℕ)) → concat (then_later piece xs) ≡ piece ++ concat xs
then_concat [] xs = refl
then_concat (b ∷ bs) xs = refl

-- the pieces of a first step, and of what comes then
pieces_first : (setup : Setup) (s t : State) (p : Pick) (ps : List Pick) (f : Front setup s t p) → pieces setup s (p ∷ ps) ≡ then_later f.next.printed (pieces setup t ps)
pieces_first setup s t p ps f =
    ap (λ (o : Option State). pieces_on o (λ u. pieces setup u ps)) f.steps
    ∙ ap (then_later f.next.printed) (sym (same_pieces setup f.next s.printed ps) ∙ ap (λ (u : State). pieces setup u ps) (sym f.is))

-- the pieces of a run, and of what comes then
pub pieces_after : (setup : Setup) (s t : State) (ps qs : List Pick) → Runs setup s ps t → pieces setup s (ps ++ qs) ≡ pieces setup s ps ++ pieces setup t qs
pieces_after setup s t [] qs run = ap (λ (u : State). pieces setup u qs) (same_Some s t run)
pieces_after setup s t (p ∷ ps) qs run =
    let x = and_then_some (λ (v : State). run_by (step setup) v ps) (step setup s p) t run in
    let f = front setup s x.0 p x.1 in
    pieces_first setup s x.0 p (ps ++ qs) f
    ∙ ap (then_later f.next.printed) (pieces_after setup x.0 t ps qs x.2)
    ∙ then_append f.next.printed (pieces setup x.0 ps) (pieces setup t qs)
    ∙ ap (λ (l : List (List ℕ)). l ++ pieces setup t qs) (sym (pieces_first setup s x.0 p ps f))

-- together the pieces of a run are what it prints
pub pieces_printed : (setup : Setup) (s t : State) (ps : List Pick) → Runs setup s ps t → t.printed ≡ s.printed ++ concat (pieces setup s ps)
pieces_printed setup s t [] run = sym (append-nil s.printed ∙ ap (λ (u : State). u.printed) (same_Some s t run))
pieces_printed setup s t (p ∷ ps) run =
    let x = and_then_some (λ (v : State). run_by (step setup) v ps) (step setup s p) t run in
    let f = front setup s x.0 p x.1 in
    pieces_printed setup x.0 t ps x.2
    ∙ ap (λ (u : State). u.printed ++ concat (pieces setup x.0 ps)) f.is
    ∙ append_assoc s.printed f.next.printed (concat (pieces setup x.0 ps))
    ∙ ap (λ (l : List ℕ). s.printed ++ l) (sym (then_concat f.next.printed (pieces setup x.0 ps)) ∙ ap concat (sym (pieces_first setup s x.0 p ps f)))
