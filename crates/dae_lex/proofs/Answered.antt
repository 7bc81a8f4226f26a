-- From what was read of the pieces to what is read of the text.
use Rattle.std.proofs.Common.{◌≡◌, ℕ, List, map, subst, ap, sym, ◌∙◌, Result, Ok, Err}
use Rattle.dae_base.specs.declared.Place.{Place}
use Rattle.dae_tree.specs.declared.headers.Header.TheVariants.{Stdio, Stdlib}
use Rattle.dae_tree.specs.declared.tokens.Includes.{Includes}
use Rattle.dae_tree.specs.declared.tokens.Room.{Room}
use Rattle.dae_tree.specs.declared.faults.LexError.{LexError}
use Rattle.dae_tree.specs.declared.faults.LexError.TheVariants.{BadByte, TooManyTokens, Refused, Memory}
use Rattle.dae_tree.specs.Lines.{joined_lines, start_of, spot_behind}
use Rattle.dae_tree.specs.Pieces.{Cut, cut}
use Rattle.dae_tree.specs.Replacing.{TokenRead, TextItem}
use Rattle.dae_tree.specs.Directives.{lines_of, includes}
use Rattle.dae_tree.specs.Reading.{Reading}
use Rattle.dae_tree.specs.Tokens.{reads_of, room_after, with_room, tokens_of}
use Rattle.dae_lex.specs.declared.output.Output.{Output}
use Rattle.dae_lex.specs.Settling.{read_of, Fails}
use Rattle.dae_lex.specs.Whole.{items_of_pieces, HasRead, reading_with}

abbrev by_pieces : ℕ → List ℕ → Room → List Cut → Result (Reading × Room) LexError
by_pieces file text room ps = with_room file text room (lines_of ps) (items_of_pieces room ps) (reads_of room (items_of_pieces room ps))

failed_room : (file : ℕ) (text : List ℕ) (room : Room) (ls : List (List Cut)) (items : List TextItem) (x : Result (List TokenRead) LexError) (e : LexError)
    → Fails e x → Fails e (with_room file text room ls items x)
failed_room file text room ls items x Memory h = tt
failed_room file text room ls items (Ok rs) (BadByte p) h = absurd (cc)
failed_room file text room ls items (Ok rs) (TooManyTokens p) h = absurd (cc)
failed_room file text room ls items (Ok rs) (Refused c p) h = absurd (cc)
failed_room file text room ls items (Err f) (BadByte p) h = let k : f ≡ BadByte p = cc in ap Err k
failed_room file text room ls items (Err f) (TooManyTokens p) h = let k : f ≡ TooManyTokens p = cc in ap Err k
failed_room file text room ls items (Err f) (Refused c p) h = let k : f ≡ Refused c p = cc in ap Err k

abbrev answer_of : Reading → Room → Result (Reading × Room) LexError
answer_of r left = Ok (r, left)

module _ (file : ℕ) (text : List ℕ) (room : Room) (ps : List Cut) (cuts : ps ≡ cut 0 (joined_lines file text)) where
  pub failed : (e : LexError) → Fails e (reads_of room (items_of_pieces room ps)) → Fails e (tokens_of file text room)
  failed e h =
      failed_room file text room (lines_of (cut 0 (joined_lines file text))) (items_of_pieces room (cut 0 (joined_lines file text))) _ e
      (subst (λ qs. Fails e (reads_of room (items_of_pieces room qs))) cuts h)

  pub answered : (seen : Includes) (out : Output) (end : Place) (tokens : Reading) → HasRead room ps seen out → end ≡ (spot_behind (start_of file) text).place
      → tokens ≡ reading_with text (map read_of out.tokens.items) seen.stdio seen.stdlib end
      → tokens_of file text room ≡ Ok (tokens, out.room)
  answered seen out end tokens h e d =
      let rs = map read_of out.tokens.items in
      let items = items_of_pieces room ps in
      let place = (spot_behind (start_of file) text).place in
      let whole : reading_with text rs (includes Stdio (lines_of ps)) (includes Stdlib (lines_of ps)) place ≡ tokens =
      ap (λ b. reading_with text rs b (includes Stdlib (lines_of ps)) place) (sym h.stdio)
      ∙ ap (λ b. reading_with text rs seen.stdio b place) (sym h.stdlib)
      ∙ ap (λ p. reading_with text rs seen.stdio seen.stdlib p) (sym e) ∙ sym d in
      ap (by_pieces file text room) (sym cuts)
      ∙ ap (with_room file text room (lines_of ps) items) h.reads
      ∙ ap (λ (r : Reading). answer_of r (room_after room items rs)) whole ∙ ap (answer_of tokens) (sym h.room_left)
