-- When a plan fits a processor: homes in their ranges, frames as long as the homes need, none needed where there is none, numbers that
-- don't wrap, registers for numbers that are no variable's, and none of its variables in what a function spares.
use Rattle.std.specs.Prelude.{◌≡◌, ◌≢◌, ℕ, ◌^◌, ◌≤◌, ◌<◌, true, length, Some}
use Rattle.std.specs.List.{AllByRecursion}
use Rattle.dae_ir.specs.Programs.{side}
use Rattle.dae_select_walks.specs.Walks.{WalkSetting}
use Rattle.dae_select_walks.specs.declared.Home.TheVariants.{Register, Slot}
use Rattle.dae_select_walks.specs.Homes.{IsHome, frame_words, number_key, resident_home, resident_register}
use Rattle.dae_select_walks.specs.Agrees.{Plan}

pub record Fits (s : WalkSetting) (plan : Plan) (variables : ℕ → ℕ) : Type 0 where
  pub side : s.side ≡ side plan.by_a
  pub memory : s.memory ≡ plan.memory
  pub homes : (f v : ℕ) → IsHome (variables f) (plan.home f v)
  pub words : (f : ℕ) → plan.words f ≡ frame_words (variables f)
  pub largest : (f : ℕ) → plan.words f ≤ plan.largest
  pub private : plan.private ≤ 2 ^ 28
  pub common : plan.memory ≤ 2 ^ 26
  pub least : 64 ≤ plan.memory
  pub limit : plan.limit ≤ 4096
  pub residents : (f n : ℕ) → plan.home f (number_key n) ≡ resident_home 27 plan.residents n
  pub apart : (f v n r : ℕ) → v < variables f → resident_register (resident_home 27 plan.residents n) ≡ Some r → plan.home f v ≢ Register r
  pub few : length plan.residents ≤ 3
  pub leaves : (f : ℕ) → plan.frameless f ≡ true → plan.leaf f ≡ true
  pub spares : (f r : ℕ) → plan.spares f r ≡ true → plan.leaf f ≡ true
  pub spared : (f v r : ℕ) → v < variables f → plan.spares f r ≡ true → plan.home f v ≢ Register r
  pub frameless : (f v i : ℕ) → plan.frameless f ≡ true → plan.home f v ≢ Slot i
  pub small : AllByRecursion (λ n. n < 2 ^ 32) plan.residents
