-- More turns change no end of a program, and take back no output.
use Rattle.std.proofs.Common.{ℕ, zero, suc, ◌+◌, Bool, true, false, nat_eq, List, [], ◌∷◌, ◌++◌, length, Option, Some, None, refl}
use Rattle.dae_base.specs.Words.{plus, loaded}
use Rattle.dae_base.specs.declared.LoadKind.TheVariants.{U8}
use Rattle.dae_base.specs.declared.Width.TheVariants.{B1}
use Rattle.dae_meaning.specs.Worlds.{World, ticked, back}
use Rattle.dae_meaning.specs.Results.{Result, At, Over, Trapped, Astray, Going, Next, Leaves, Skips, Returns, Run, ◌▷◌, ◌↻◌, world_of}
use Rattle.dae_meaning.specs.Alike.{IsFront}
use Rattle.dae_meaning.specs.Operations.{spelled, misplaced}
use Rattle.dae_meaning.specs.Variables.{Env, put, entered}
use Rattle.dae_meaning.specs.declared.Spelling.TheVariants.{Byte}
use Rattle.dae_meaning.proofs.Laws.{front_same, front_on}
use Rattle.dae_program.specs.declared.statements.FormatPiece.{FormatPiece}
use Rattle.dae_program.specs.declared.statements.FormatPiece.TheVariants as piece
use Rattle.dae_program.specs.declared.program.FrameSlot.{FrameSlot}
use Rattle.dae_program.specs.Turns.{IsBelow, Same, Fewer, TurnsInOrder}
use Rattle.dae_program.specs.Trees as tree
use Rattle.dae_program.specs.Trees.{Expression, Target, Expressions, Setting, Statements, Arms, Program, Function}
use Rattle.dae_program.specs.Outcomes.{Outcome, Gives, Ends, unless, with_read}
use Rattle.dae_program.specs.Expressions.{ProgramSetup, with_printed}
use Rattle.dae_program.specs.Printing.{print_text, print_pieces, most_bytes}
use Rattle.dae_program.specs.Initialising.{clear, set_items}
use Rattle.dae_program.specs.Switches.{first_arm}
use Rattle.dae_program.specs.Statements.{test, do_effects, loop, execute, execute_from}
use Rattle.dae_program.specs.Calls.{keep_parameters, enter, no_room, result_of, call}
use Rattle.dae_program.proofs.Above.{AboveRuns, over_grown, then_grown, loop_grown, then_over, loop_over, value_over, choice_over, leave_over, Above, AboveResult, Giving, Ending, GoingTo, GoingOn, SameResult, GoingResult}
use Rattle.dae_program.proofs.AboveExpressions.{unless_above, store_over, evaluate_above, arguments_above}

-- ---- printing and clearing add output alone

text_grows : (most x : ℕ) (env : Env) (w : World) → IsFront w.printed (world_of (print_text most x env w)).printed
text_grows zero x env w = front_same w.printed
text_grows (suc most) x env w =
    over_grown w.printed _ _ (value_over w.printed (unless (misplaced B1 x (length w.memory)) (Gives (loaded U8 x w.memory) env (with_read w)) w) _ _ _ (unless_above (misplaced B1 x (length w.memory)) (Gives (loaded U8 x w.memory) env (with_read w)) w (front_same w.printed)) (λ b env w. choice_over (nat_eq b 0) w.printed _ _ _ _ (SameResult (At Next env w) (front_same w.printed)) (SameResult (print_text most (plus x 1) env (with_printed (spelled Byte b) w)) (front_on w.printed (w.printed ++ spelled Byte b) _ (spelled Byte b, refl) (text_grows most (plus x 1) env (with_printed (spelled Byte b) w))))))

shown_grows : (ps : List FormatPiece) (words : List ℕ) (env : Env) (w : World) → IsFront w.printed (world_of (print_pieces ps words env w)).printed
shown_grows [] words env w = front_same w.printed
shown_grows (piece.Byte b ∷ ps) words env w = front_on w.printed (w.printed ++ spelled Byte b) _ (spelled Byte b, refl) (shown_grows ps words env _)
shown_grows (piece.Word spelling k ∷ ps) words env w = front_on w.printed (w.printed ++ spelled spelling _) _ (spelled spelling _, refl) (shown_grows ps words env _)
shown_grows (piece.String k ∷ ps) words env w = front_on w.printed (world_of (print_text most_bytes _ env (ticked w))).printed _ (text_grows most_bytes _ env (ticked w)) (then_grown (print_text most_bytes _ env (ticked w)) _ (λ e u. shown_grows ps words e u))

clear_over : (count x : ℕ) (env : Env) (w : World) → AboveResult w.printed (clear count x env w) (clear count x env w)
clear_over zero x env w = SameResult (At Next env w) (front_same w.printed)
clear_over (suc count) x env w = then_over w.printed _ _ _ _ (store_over B1 x 0 env (ticked w)) (clear_over count (plus x 1))

keep_over : (slots : List (Option FrameSlot)) (k : ℕ) (env : Env) (w : World) → AboveResult w.printed (keep_parameters slots k env w) (keep_parameters slots k env w)
keep_over [] k env w = SameResult (At Next env w) (front_same w.printed)
keep_over (None ∷ slots) k env w = keep_over slots (k + 1) env w
keep_over (Some slot ∷ slots) k env w = then_over w.printed _ _ _ _ (store_over slot.width (plus w.frame slot.offset) (env k) env (ticked w)) (keep_over slots (k + 1))

-- ---- loops

abbrev LoopsOver : Bool → Bool → ℕ → ℕ → Type 0
LoopsOver last last' n n' = (t t' b b' c c' : Run Env) → AboveRuns t t' → AboveRuns b b' → AboveRuns c c' → AboveRuns (loop last t b c n) (loop last' t' b' c' n')

tested_last : (n : ℕ) → LoopsOver false true n n
tested_last zero t t' b b' c c' ht hb hc env w = GoingResult w _ (front_same w.printed) (front_on w.printed (world_of (t' env (ticked w))).printed _ (over_grown w.printed _ _ (ht env (ticked w))) (loop_grown (t' env (ticked w)) _ (λ e u. front_same u.printed)))
tested_last (suc n) t t' b b' c c' ht hb hc env w =
    loop_over w.printed (t env (ticked w) ▷ b) (t' env (ticked w) ▷ b') _ _ (then_over w.printed (t env (ticked w)) (t' env (ticked w)) b b' (ht env (ticked w)) hb) (λ e u. loop_over u.printed (c e u) (c' e u) _ _ (hc e u) (tested_last n t t' b b' c c' ht hb hc))

one_more : (xs : List ℕ) (r q : Result Env) (b f : Run Env) → AboveResult xs r q → ((e : Env) (w : World) → IsFront w.printed (world_of (b e w)).printed) → ((e : Env) (w : World) → IsFront w.printed (world_of (f e w)).printed) → AboveResult xs (r ↻ λ e w. Over Going w) ((q ▷ b) ↻ f)
one_more xs r q b f (SameResult (At Next e w) a) hb hf = GoingResult w _ a (front_on w.printed (world_of (b e w)).printed _ (hb e w) (loop_grown (b e w) f hf))
one_more xs r q b f (SameResult (At Leaves e w) a) hb hf = SameResult (At Next e w) a
one_more xs r q b f (SameResult (At Skips e w) a) hb hf = GoingResult w _ a (hf e w)
one_more xs r q b f (SameResult (At Returns e w) a) hb hf = SameResult (At Returns e w) a
one_more xs r q b f (SameResult (Over end w) a) hb hf = SameResult (Over end w) a
one_more xs r q b f (GoingResult w t a h) hb hf = GoingResult w _ a (front_on w.printed (world_of t).printed _ h (front_on (world_of t).printed (world_of (t ▷ b)).printed _ (then_grown t b hb) (loop_grown (t ▷ b) f hf)))

untested_next : (n : ℕ) → LoopsOver true false n (suc n)
untested_next zero t t' b b' c c' ht hb hc env w =
    one_more w.printed (t env (ticked w)) (t' env (ticked w)) b' _ (ht env (ticked w)) (λ e u. over_grown u.printed _ _ (hb e u)) (λ e u. front_on u.printed (world_of (c' e u)).printed _ (over_grown u.printed _ _ (hc e u)) (loop_grown (c' e u) _ (λ e u. front_same u.printed)))
untested_next (suc n) t t' b b' c c' ht hb hc env w =
    loop_over w.printed (t env (ticked w) ▷ b) (t' env (ticked w) ▷ b') _ _ (then_over w.printed (t env (ticked w)) (t' env (ticked w)) b b' (ht env (ticked w)) hb) (λ e u. loop_over u.printed (c e u) (c' e u) _ _ (hc e u) (untested_next n t t' b b' c c' ht hb hc))

-- ---- statements

module _ (last last' : Bool) (n n' : ℕ) (loops : LoopsOver last last' n n') where
  module _ (address : ℕ → ℕ) (calls more : ℕ → List ℕ → World → Outcome ℕ) (called : (f : ℕ) (xs : List ℕ) (w : World) → Above w.printed (calls f xs w) (more f xs w)) where
    abbrev fewer : ProgramSetup
    fewer = record { address = address; calls = calls }

    abbrev all : ProgramSetup
    all = record { address = address; calls = more }

    test_over : (e : Option Expression) → AboveRuns (test fewer e) (test all e)
    test_over None env w = SameResult (At Next env w) (front_same w.printed)
    test_over (Some e) env w = value_over w.printed _ _ _ _ (evaluate_above address calls more called e env w) (λ x env w. choice_over (nat_eq x 0) w.printed _ _ _ _ (SameResult (At Leaves env w) (front_same w.printed)) (SameResult (At Next env w) (front_same w.printed)))

    effects_over : (e : Option Expression) → AboveRuns (do_effects fewer e) (do_effects all e)
    effects_over None env w = SameResult (At Next env w) (front_same w.printed)
    effects_over (Some e) env w = value_over w.printed _ _ _ _ (evaluate_above address calls more called e env w) (λ x env w. SameResult (At Next env w) (front_same w.printed))

    items_over : (items : List Setting) → AboveRuns (set_items fewer items) (set_items all items)
    items_over [] env w = SameResult (At Next env w) (front_same w.printed)
    items_over (item ∷ items) env w = value_over w.printed _ _ _ _ (evaluate_above address calls more called item.value env w) (λ y env w. then_over w.printed _ _ _ _ (store_over item.width (plus w.frame item.offset) y env w) (items_over items))

    mutual
      execute_over : (t : Statements) → AboveRuns (execute fewer last n t) (execute all last' n' t)
      execute_over tree.Done env w = SameResult (At Next env w) (front_same w.printed)
      execute_over (tree.Evaluate p e k) env w = then_over w.printed _ _ _ _ (value_over w.printed _ _ _ _ (evaluate_above address calls more called e env (ticked w)) (λ x env w. SameResult (At Next env w) (front_same w.printed))) (execute_over k)
      execute_over (tree.Initialise p offset size items k) env w = then_over w.printed _ _ _ _ (then_over w.printed _ _ _ _ (clear_over size (plus w.frame offset) env (ticked w)) (items_over items)) (execute_over k)
      execute_over (tree.Print p xs ps k) env w = then_over w.printed _ _ _ _ (value_over w.printed _ _ _ _ (arguments_above address calls more called xs env (ticked w)) (λ words env w. SameResult (print_pieces ps words env w) (shown_grows ps words env w))) (execute_over k)
      execute_over (tree.If p e t u k) env w = then_over w.printed _ _ _ _ (value_over w.printed _ _ _ _ (evaluate_above address calls more called e env (ticked w)) (λ x env w. choice_over (nat_eq x 0) w.printed _ _ _ _ (execute_over u env w) (execute_over t env w))) (execute_over k)
      execute_over (tree.Loop p e body step k) env w = then_over w.printed _ _ _ _ (loops (test fewer e) (test all e) (execute fewer last n body) (execute all last' n' body) (do_effects fewer step) (do_effects all step) (test_over e) (execute_over body) (effects_over step) env (ticked w)) (execute_over k)
      execute_over (tree.Do p body e k) env w = then_over w.printed _ _ _ _ (loops (At Next) (At Next) (execute fewer last n body) (execute all last' n' body) (test fewer (Some e)) (test all (Some e)) (λ env w. SameResult (At Next env w) (front_same w.printed)) (execute_over body) (test_over (Some e)) env (ticked w)) (execute_over k)
      execute_over (tree.Switch p e arms k) env w = then_over w.printed _ _ _ _ (leave_over w.printed _ _ (value_over w.printed _ _ _ _ (evaluate_above address calls more called e env _) (λ x env w. arms_over arms (first_arm x arms) env w))) (execute_over k)
      execute_over (tree.Break p k) env w = SameResult (At Leaves env (ticked w)) (front_same w.printed)
      execute_over (tree.Continue p k) env w = SameResult (At Skips env (ticked w)) (front_same w.printed)
      execute_over (tree.Return p None k) env w = SameResult (At Returns (put true 0 0 env) (ticked w)) (front_same w.printed)
      execute_over (tree.Return p (Some e) k) env w = value_over w.printed _ _ _ _ (evaluate_above address calls more called e env (ticked w)) (λ x env w. SameResult (At Returns (put true 0 x env) w) (front_same w.printed))

      arms_over : (arms : Arms) (before : ℕ) → AboveRuns (execute_from fewer last n before arms) (execute_from all last' n' before arms)
      arms_over tree.no_arms before env w = SameResult (At Next env w) (front_same w.printed)
      arms_over (tree.arm_then labels t rest) zero env w = then_over w.printed _ _ _ _ (execute_over t env w) (arms_over rest zero)
      arms_over (tree.arm_then labels t rest) (suc before) env w = arms_over rest before env w

  result_above : (xs : List ℕ) (old : World) (r q : Result Env) → AboveResult xs r q → Above xs (result_of old r) (result_of old q)
  result_above xs old r q (SameResult (At Next e w) a) = Giving 0 e (back old w) a
  result_above xs old r q (SameResult (At Leaves e w) a) = Giving (e 0) e (back old w) a
  result_above xs old r q (SameResult (At Skips e w) a) = Giving (e 0) e (back old w) a
  result_above xs old r q (SameResult (At Returns e w) a) = Giving (e 0) e (back old w) a
  result_above xs old r q (SameResult (Over end w) a) = Ending end w a
  result_above xs old r q (GoingResult w (At Next e u) a b) = GoingTo w 0 e (back old u) a b
  result_above xs old r q (GoingResult w (At Leaves e u) a b) = GoingTo w (e 0) e (back old u) a b
  result_above xs old r q (GoingResult w (At Skips e u) a b) = GoingTo w (e 0) e (back old u) a b
  result_above xs old r q (GoingResult w (At Returns e u) a b) = GoingTo w (e 0) e (back old u) a b
  result_above xs old r q (GoingResult w (Over end u) a b) = GoingOn w end u a b

  unless_both : (o : Option ℕ) (w : World) (r q : Outcome ℕ) → Above w.printed r q → Above w.printed (unless o r w) (unless o q w)
  unless_both None w r q h = h
  unless_both (Some code) w r q h = Ending (Trapped code) w (front_same w.printed)

  call_above : (p : Program) (depth f : ℕ) (xs : List ℕ) (w : World) → Above w.printed (call p last n depth f xs w) (call p last' n' depth f xs w)
  call_above p zero f xs w = unless_both (no_room p (p.function f) w) w _ _ (Ending Astray w (front_same w.printed))
  call_above p (suc depth) f xs w =
      let g = p.function f in
      unless_both (no_room p g w) w _ _ (result_above w.printed w _ _
      (then_over w.printed _ _ _ _ (keep_over g.parameters 1 (entered (λ _. true) 1 xs) (enter g w))
      (execute_over g.address (λ h. call p last n depth (g.callee h)) (λ h. call p last' n' depth (g.callee h)) (λ h. call_above p depth (g.callee h)) g.body)))

below : (xs : List ℕ) (r q : Outcome ℕ) → Above xs r q → IsBelow r q
below xs r q (Giving x env w a) = Same (Gives x env w)
below xs r q (Ending end w a) = Same (Ends end w)
below xs r q (GoingTo w x env u a b) = Fewer w (Gives x env u) b
below xs r q (GoingOn w end u a b) = Fewer w (Ends end u) b

pub turns_in_order : TurnsInOrder
turns_in_order p n depth f xs w = (below w.printed _ _ (call_above false true n n (tested_last n) p depth f xs w), below w.printed _ _ (call_above true false n (suc n) (untested_next n) p depth f xs w))
