-- How a local aggregate with an initialiser begins (C90 6.5.7): all its bytes are 0, and then each item that is given is set,
-- in the order of the members. Each byte that is cleared is a unit of work.
use Rattle.std.specs.Prelude.{ℕ, zero, suc, List, [], ◌∷◌}
use Rattle.dae_base.specs.Words.{plus}
use Rattle.dae_base.specs.declared.Width.TheVariants.{B1}
use Rattle.dae_meaning.specs.Worlds.{ticked}
use Rattle.dae_meaning.specs.Results.{At, Next, Run, ◌▷◌}
use Rattle.dae_meaning.specs.Variables.{Env}
use Rattle.dae_program.specs.Outcomes.{◌⊳◌, store}
use Rattle.dae_program.specs.Expressions.{ProgramSetup, evaluate}
use Rattle.dae_program.specs.Trees.{Setting}

-- so many zero bytes from an address on
abbrev pub clear : ℕ → ℕ → Run Env
clear zero x env w = At Next env w
clear (suc count) x env w = store B1 x 0 env (ticked w) ▷ clear count (plus x 1)

-- the items, each at its offset in the frame
abbrev pub set_items : ProgramSetup → List Setting → Run Env
set_items s [] env w = At Next env w
set_items s (item ∷ items) env w =
    evaluate s item.value env w ⊳ λ y env w. store item.width (plus w.frame item.offset) y env w ▷ set_items s items
