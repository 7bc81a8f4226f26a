-- The code of a function does its actions.
use Rattle.std.proofs.Common.{◌≡◌, ℕ, ◌+◌, ◌^◌, ◌<◌, true, not, ◌&&◌, List, Option, length, refl, arith}
use Rattle.std.proofs.lemmas.Bool.Decides.{nat_tests}
use Rattle.dae_encode.specs.declared.Inst.{Inst}
use Rattle.dae_ir.specs.Classes.{VariableSet}
use Rattle.dae_ir.specs.Streams.{Actions}
use Rattle.dae_ir.specs.declared.form.Operand.{Operand}
use Rattle.dae_ir.specs.declared.stream.Action.TheVariants.{Return}
use Rattle.dae_select_walks.specs.Live.{nowhere, none, is}
use Rattle.dae_select_walks.specs.Facts.{unknown}
use Rattle.dae_select_walks.specs.declared.VariableStanding.TheVariants.{Settled}
use Rattle.dae_select_walks.specs.Compiled.{Exits, exit, exits, ways_of}
use Rattle.dae_select_walks.proofs.LawsOfWalks.{comes_here}
use Rattle.dae_select_blocks.specs.Code.{code_of, unspared}
use Rattle.dae_select_blocks.specs.Laws.{CodeDoes}
use Rattle.dae_select_blocks.proofs.Whole.{Stood, Done', code_done}
use Rattle.dae_select_blocks.proofs.Joined.{calls_done, returns_done}
use Rattle.dae_select_blocks.specs.Sizes.{most_words_in, is_short}
use Rattle.dae_select_blocks.proofs.Sizes.{code_length}
use Rattle.dae_select_blocks.proofs.Lengths.{late_short, simple_short, placed_short, early_short, branch_short, back_branch_short, prepared_short, resumed_short, entry_short, leave_short}

short_is : (code : Actions) → is_short code ≡ true → most_words_in code < 2 ^ 17
short_is code e = grind (arith, nat_tests)

pub code_does : CodeDoes
code_does s plan variables program entries fine is_plan linked f code stands =
    let body : List Inst = code_of (is_short code) plan variables f Settled unknown code nowhere 0 0 in
    let small = stands.small in
    let end : ℕ = plan.start f + length body in
    let x : Exits = exits (exit end none) (exit end none) (exit end none) in
    let returns : (f : ℕ) (y : Option Operand) (k : VariableSet) (x : Exits) (leaves skips here : ℕ) → Stood s plan variables fine program is_plan entries 14 46 (is_short code) f (Return y) k (ways_of x) leaves skips here → Done' s plan variables fine program is_plan entries 14 46 (is_short code) f unknown (Return y) k x leaves skips here =
    λ f y k x leaves skips here t. returns_done s plan variables fine program is_plan entries linked 14 46 (is_short code) f y k x leaves skips here (let l = leave_short plan.by_a (plan.leaf f) (plan.home f) y in omega arith) t in (
      end,
      code_done s plan variables fine program is_plan entries 14 46 (is_short code)
          (λ f a live leaves skips is. (let l = simple_short plan variables f a live leaves skips is in omega arith))
          (λ f a. (let l = placed_short (plan.home f) a in omega arith))
          (λ f q v d y. (let l = early_short (plan.home f) q v d y in omega arith))
          (λ f y a. (let l = late_short (plan.home f) y a in omega arith))
          (λ f b way n. (let l = branch_short (plan.home f) (is_short code) b way n in omega arith))
          (λ f b way n. (let l = back_branch_short (plan.home f) b way n in omega arith))
          (λ f g v xs k x leaves skips here t. calls_done s plan variables fine program is_plan entries linked 14 46 (is_short code) f g v xs k x leaves skips here
          (let l1 = prepared_short plan variables f g xs (unspared plan f g (λ u. k u && not (is v u))) in let l2 = entry_short plan g in omega arith)
          (let l = resumed_short plan variables f g v (unspared plan f g (λ u. k u && not (is v u))) in omega arith) t)
          returns (plan.start f) end (omega arith) (λ e. (let long = code_length (is_short code) plan variables f Settled unknown code nowhere 0 0 in let few = short_is code e in omega arith)) (omega arith)
          f Settled unknown code x 0 0 (plan.start f) tt tt (record { leaves = refl; skips = refl }) stands.wanted stands.right stands.there (omega arith) (omega arith) (omega arith) (omega arith) (omega arith) (omega arith)
          (λ m p h. comes_here s h),
    )
