-- Nothing is left.
use Rattle.std.proofs.Common.{◌≡◌, ◌∙◌, ℕ, Bool, true, false, List, [], ◌∷◌, length, refl, rules, arith}
use Rattle.std.specs.Prelude.{◌==◌}
use Rattle.std.proofs.lemmas.Bool.Decides.{nat_tests}
use Rattle.dae_debug_commands.proofs.Lines.{read_all}
use Rattle.dae_debug_commands.proofs.scripts.read_script.Goals as goal

empty : (xs : List ℕ) (b : Bool) → b ≡ (length xs == 0) → b ≡ true → xs ≡ []
empty [] b is e = refl
empty (x ∷ xs) b is e = absurd (let f : b ≡ false = is ∙ grind (arith, nat_tests) in cc)

pub returns : goal.returns
returns c = read_all c.args.script.now c.loop-rest.rest.now c.loop-rest.commands.items c.loop-rest.invariant (empty c.loop-rest.rest.now c.is_empty.result c.is_empty.ensures (search rules))
