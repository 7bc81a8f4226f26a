-- Statements that hold no continue of a loop round them don't continue it.
use Rattle.std.proofs.Common.{◌≡◌, ℕ, zero, suc, Bool, true, false, ◌||◌, nat_eq, List, [], ◌∷◌, length, Option, Some, None, if◌then◌else◌}
use Rattle.std.proofs.lemmas.Bool.{or_parts}
use Rattle.dae_meaning.specs.Results.{Result, At, Over, End, Next, Leaves, Skips, Returns, Run, ◌▷◌, ◌↻◌, within}
use Rattle.dae_meaning.specs.Worlds.{World, ticked}
use Rattle.dae_meaning.specs.Variables.{Env}
use Rattle.dae_program.specs.Trees as tree
use Rattle.dae_program.specs.Trees.{Expression, Setting, Statements, Arms}
use Rattle.dae_program.specs.declared.statements.FormatPiece.{FormatPiece}
use Rattle.dae_program.specs.declared.statements.FormatPiece.TheVariants as piece
use Rattle.dae_program.specs.Outcomes.{Outcome, Gives, Ends, ◌⊳◌, unless, store, with_written, with_read}
use Rattle.dae_program.specs.Expressions.{ProgramSetup, evaluate as value, with_printed}
use Rattle.dae_program.specs.Printing.{print_text as text, print_pieces as shown, most_bytes}
use Rattle.dae_program.specs.Initialising.{set_items as settled, clear as cleared}
use Rattle.dae_program.specs.Statements.{test as tested, do_effects as evaluated, loop as looped, execute as does, execute_from as does_from}
use Rattle.dae_program.specs.Switches.{leave_switch as left, first_arm}
use Rattle.dae_base.specs.Words.{plus, loaded}
use Rattle.dae_base.specs.declared.Width.{Width}
use Rattle.dae_base.specs.declared.Width.TheVariants.{B1}
use Rattle.dae_base.specs.declared.LoadKind.TheVariants.{U8}
use Rattle.dae_meaning.specs.Operations.{spelled, misplaced}
use Rattle.dae_meaning.specs.declared.Spelling.TheVariants.{Byte}
use Rattle.dae_lower.specs.Lowering.{continues, arms_continue}

pub data NotSkips : Result Env → Type 0 where
  goes_next : (e : Env) (w : World) → NotSkips (At Next e w)
  goes_behind : (e : Env) (w : World) → NotSkips (At Leaves e w)
  goes_back : (e : Env) (w : World) → NotSkips (At Returns e w)
  goes_nowhere : (end : End) (w : World) → NotSkips (Over end w)

not_then : (r : Result Env) (f : Run Env) → NotSkips r → ((e : Env) (w : World) → NotSkips (f e w)) → NotSkips (r ▷ f)
not_then r f (goes_next e w) k = k e w
not_then r f (goes_behind e w) k = goes_behind e w
not_then r f (goes_back e w) k = goes_back e w
not_then r f (goes_nowhere end w) k = goes_nowhere end w

not_loop : (r : Result Env) (f : Run Env) → ((e : Env) (w : World) → NotSkips (f e w)) → NotSkips (r ↻ f)
not_loop (At Next e w) f k = k e w
not_loop (At Leaves e w) f k = goes_next e w
not_loop (At Skips e w) f k = k e w
not_loop (At Returns e w) f k = goes_back e w
not_loop (Over end w) f k = goes_nowhere end w

not_value : {X : Type 0} (r : Outcome X) (f : X → Run Env) → ((x : X) (e : Env) (w : World) → NotSkips (f x e w)) → NotSkips (r ⊳ f)
not_value (Gives x e w) f k = k x e w
not_value (Ends end w) f k = goes_nowhere end w

not_choice : (b : Bool) (r q : Result Env) → NotSkips r → NotSkips q → NotSkips (if b then r else q)
not_choice true r q h k = h
not_choice false r q h k = k

not_left : (r : Result Env) → NotSkips r → NotSkips (left r)
not_left r (goes_next e w) = goes_next e w
not_left r (goes_behind e w) = goes_next e w
not_left r (goes_back e w) = goes_back e w
not_left r (goes_nowhere end w) = goes_nowhere end w

text_stays : (most x : ℕ) (e : Env) (w : World) → NotSkips (text most x e w)
text_stays zero x e w = goes_nowhere _ w
text_stays (suc most) x e w = not_value (unless (misplaced B1 x (length w.memory)) (Gives (loaded U8 x w.memory) e (with_read w)) w) _ (λ b e w. not_choice (nat_eq b 0) _ _ (goes_next e w) (text_stays most (plus x 1) e (with_printed (spelled Byte b) w)))

shown_stays : (ps : List FormatPiece) (words : List ℕ) (e : Env) (w : World) → NotSkips (shown ps words e w)
shown_stays [] words e w = goes_next e w
shown_stays (piece.Byte b ∷ ps) words e w = shown_stays ps words e _
shown_stays (piece.Word spelling k ∷ ps) words e w = shown_stays ps words e _
shown_stays (piece.String k ∷ ps) words e w = not_then _ _ (text_stays most_bytes _ e _) (λ e w. shown_stays ps words e w)

stores_stays : (width : Width) (x y : ℕ) (e : Env) (w : World) → NotSkips (store width x y e w)
stores_stays width x y e w = by (misplaced width x (length w.memory)) where
  by : (o : Option ℕ) → NotSkips (within o w (At Next e (with_written width x y w)))
  by None = goes_next e (with_written width x y w)
  by (Some code) = goes_nowhere _ w

cleared_stays : (count x : ℕ) (e : Env) (w : World) → NotSkips (cleared count x e w)
cleared_stays zero x e w = goes_next e w
cleared_stays (suc count) x e w = not_then _ _ (stores_stays B1 x 0 e (ticked w)) (λ e w. cleared_stays count (plus x 1) e w)

settled_stays : (s : ProgramSetup) (items : List Setting) (e : Env) (w : World) → NotSkips (settled s items e w)
settled_stays s [] e w = goes_next e w
settled_stays s (item ∷ items) e w = not_value _ _ (λ x e w. not_then _ _ (stores_stays item.width (plus w.frame item.offset) x e w) (λ e w. settled_stays s items e w))

looped_stays : (test body step : Run Env) (n : ℕ) (e : Env) (w : World) → NotSkips (looped false test body step n e w)
looped_stays test body step zero e w = goes_nowhere _ w
looped_stays test body step (suc n) e w = not_loop (test e (ticked w) ▷ body) _ (λ e w. not_loop (step e w) _ (λ e w. looped_stays test body step n e w))

module _ (s : ProgramSetup) (n : ℕ) where
  mutual
    statements_stay : (t : Statements) → continues t ≡ false → (e : Env) (w : World) → NotSkips (does s false n t e w)
    statements_stay tree.Done h e w = goes_next e w
    statements_stay (tree.Evaluate place x k) h e w = not_then _ _ (not_value _ _ (λ x e w. goes_next e w)) (statements_stay k h)
    statements_stay (tree.Initialise place offset size items k) h e w = not_then _ _ (not_then _ _ (cleared_stays size (plus w.frame offset) e (ticked w)) (λ e w. settled_stays s items e w)) (statements_stay k h)
    statements_stay (tree.Print place xs ps k) h e w = not_then _ _ (not_value _ _ (λ words e w. shown_stays ps words e w)) (statements_stay k h)
    statements_stay (tree.If place x t u k) h e w =
        not_then _ _ (not_value (value s x e (ticked w)) _ (λ x e w. not_choice (nat_eq x 0) _ _ (statements_stay u ((or_parts (continues u) (continues k) ((or_parts (continues t) (continues u || continues k) h).1)).0) e w) (statements_stay t ((or_parts (continues t) (continues u || continues k) h).0) e w)))
        (statements_stay k ((or_parts (continues u) (continues k) ((or_parts (continues t) (continues u || continues k) h).1)).1))
    statements_stay (tree.Loop place test body step k) h e w = not_then _ _ (looped_stays (tested s test) (does s false n body) (evaluated s step) n e _) (statements_stay k h)
    statements_stay (tree.Do place body test k) h e w = not_then _ _ (looped_stays (At Next) (does s false n body) (tested s (Some test)) n e _) (statements_stay k h)
    statements_stay (tree.Switch place x arms k) h e w = not_then _ _ (not_left _ (not_value _ _ (λ x e w. arms_stay arms ((or_parts (arms_continue arms) (continues k) h).0) (first_arm x arms) e w))) (statements_stay k ((or_parts (arms_continue arms) (continues k) h).1))
    statements_stay (tree.Break place k) h e w = goes_behind e _
    statements_stay (tree.Continue place k) h e w = cc
    statements_stay (tree.Return place None k) h e w = goes_back _ _
    statements_stay (tree.Return place (Some x) k) h e w = not_value _ _ (λ x e w. goes_back _ w)

    pub arms_stay : (arms : Arms) → arms_continue arms ≡ false → (before : ℕ) (e : Env) (w : World) → NotSkips (does_from s false n before arms e w)
    arms_stay tree.no_arms h before e w = goes_next e w
    arms_stay (tree.arm_then labels t rest) h zero e w = not_then _ _ (statements_stay t ((or_parts (continues t) (arms_continue rest) h).0) e w) (arms_stay rest ((or_parts (continues t) (arms_continue rest) h).1) zero)
    arms_stay (tree.arm_then labels t rest) h (suc before) e w = arms_stay rest ((or_parts (continues t) (arms_continue rest) h).1) before e w
