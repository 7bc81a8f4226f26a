-- What calls do (C90 6.3.2.2, 6.7.1). Arguments are parameters' first values, and all other variables begin as 0. A frame in
-- memory stands on top of the caller's. The language has a limit on calls inside one another, of which main is the first:
-- where a call would pass it, or its frame the memory's end, that is trap 4, behind the arguments. Each parameter that is
-- stored in the frame is one unit of work.
use Rattle.std.specs.Prelude.{ℕ, zero, suc, ◌+◌, Bool, true, ◌||◌, nat_lt, List, [], ◌∷◌, length, Option, Some, None}
use Rattle.dae_base.specs.Words.{plus}
use Rattle.dae_meaning.specs.Worlds.{World, ticked, back}
use Rattle.dae_meaning.specs.Results.{Result, At, Over, Next, Leaves, Skips, Returns, Astray, Run, ◌▷◌}
use Rattle.dae_meaning.specs.Variables.{Env, entered}
use Rattle.dae_meaning.specs.Operations.{passed}
use Rattle.dae_program.specs.declared.program.FrameSlot.{FrameSlot}
use Rattle.dae_program.specs.Outcomes.{Outcome, Gives, Ends, unless, store}
use Rattle.dae_program.specs.Expressions.{Calls}
use Rattle.dae_program.specs.Statements.{execute}
use Rattle.dae_program.specs.Trees.{Function, Program}

-- parameters from number k on are stored in the frame, where they have a slot
abbrev pub keep_parameters : List (Option FrameSlot) → ℕ → Run Env
keep_parameters [] k env w = At Next env w
keep_parameters (None ∷ slots) k env w = keep_parameters slots (k + 1) env w
keep_parameters (Some slot ∷ slots) k env w =
    store slot.width (plus w.frame slot.offset) (env k) env (ticked w) ▷ keep_parameters slots (k + 1)

-- a function's frame stands on top of its caller's
abbrev pub enter : Function → World → World
enter f w = record w { frame = w.top; top = w.top + f.frame; depth = w.depth + 1 }

-- the call would stand too deep, or its frame doesn't fit the memory
abbrev pub no_room : Program → Function → World → Option ℕ
no_room p f w = passed (nat_lt p.limit (w.depth + 1) || nat_lt (length w.memory) (w.top + f.frame))

-- a call's value is what was returned, or 0 where the function's end was reached; no break or continue is left over
abbrev pub result_of : World → Result Env → Outcome ℕ
result_of old (At Next env w) = Gives 0 env (back old w)
result_of old (At Leaves env w) = Gives (env 0) env (back old w)
result_of old (At Skips env w) = Gives (env 0) env (back old w)
result_of old (At Returns env w) = Gives (env 0) env (back old w)
result_of old (Over end w) = Ends end w

-- at most n turns of each loop, and at most depth calls inside one another; one more that has room goes astray, and none has
-- where depth is the limit less the calls that are active
abbrev pub call : Program → Bool → ℕ → ℕ → Calls
call p last n zero f xs w = unless (no_room p (p.function f) w) (Ends Astray w) w
call p last n (suc depth) f xs w =
    let function = p.function f in
    let env = entered (λ _. true) 1 xs in
    unless (no_room p function w)
    (result_of w (keep_parameters function.parameters 1 env (enter function w) ▷ execute
    (record { address = function.address; calls = λ g. call p last n depth (function.callee g) })
    last n function.body)) w
