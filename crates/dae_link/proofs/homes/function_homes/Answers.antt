use Rattle.std.proofs.Common.{◌≡◌, ℕ, true, List, length, sym, subst}
use Rattle.std.specs.List.{AllByRecursion}
use Rattle.std.proofs.lemmas.Result.{IfOk-weaker}
use Rattle.dae_ir.specs.Streams.{actions_of}
use Rattle.dae_ir.specs.declared.stream.Step.{Step}
use Rattle.dae_select_walks.specs.Homes.{AreHomes, home_in}
use Rattle.dae_select_walks.specs.Live.{function_lives}
use Rattle.dae_regalloc.specs.Given.{AreFew, IsRegister}
use Rattle.dae_regalloc.specs.Seen.{AreBelow, can_number}
use Rattle.dae_link.specs.Settled.{AreHomesOf}
use Rattle.dae_link.proofs.Mirroring.{own_right}
use Rattle.dae_link.proofs.homes.function_homes.Goals as goal

pub allocate-requires : goal.allocate-requires
allocate-requires c = subst (λ (b : List Step). can_number (actions_of b) ≡ true) (sym c.as_slice.ensures) c.requires

pub returns : goal.returns
returns c =
    let f = c.args.function.now in let homes = c.in_ok-homes.homes.items in
    let given : AreHomesOf f homes = record {
      homes = λ n. subst (λ (b : List Step). AreHomes n (function_lives f.parameters (actions_of b)) (home_in homes)) c.as_slice.ensures (c.in_ok-homes.ensures.homes n);
      inside = subst (λ (b : List Step). AllByRecursion (AreBelow (length homes)) (function_lives f.parameters (actions_of b))) c.as_slice.ensures c.in_ok-homes.ensures.inside;
      least = λ n below. c.in_ok-homes.ensures.few n (subst (λ (b : List Step). AllByRecursion (AreBelow n) (function_lives f.parameters (actions_of b))) (sym c.as_slice.ensures) below);
      registers = subst (λ (b : List Step). AreFew 18 (function_lives f.parameters (actions_of b)) → (v : ℕ) → IsRegister (home_in homes v)) c.as_slice.ensures c.in_ok-homes.ensures.registers;
    } in
    IfOk-weaker c.own_homes.result _ _ (λ own same. subst (AreHomesOf f) (sym same) (own_right f homes given)) c.own_homes.ensures
