use Rattle.std.proofs.Common.{◌≡◌, ℕ, ◌≤◌, List, subst, sym, arith}
use Rattle.std.specs.List.{AllByRecursion, AllZip}
use Rattle.std.proofs.lemmas.Result.{IfOk-weaker}
use Rattle.dae_ir.specs.Streams.{actions_of}
use Rattle.dae_select_walks.specs.Live.{function_lives}
use Rattle.dae_select_walks.specs.declared.Home.{Home}
use Rattle.dae_regalloc.specs.declared.Span.{Span}
use Rattle.dae_regalloc.specs.Scan.{AreClear, depth_at, NoSlot}
use Rattle.dae_regalloc.specs.Seen.{number_in, AreBelow}
use Rattle.dae_select_walks.specs.Homes.{home_in}
use Rattle.dae_regalloc.specs.Given.{IsOwnHome, numbered_home}
use Rattle.dae_regalloc.proofs.Giving.{allocated, all_registers, held_below}
use Rattle.dae_regalloc.proofs.allocating.allocate.Goals as goal

pub returns-clause-homes : goal.returns-clause-homes
returns-clause-homes c =
    let seen = c.in_ok-seen.seen in let homes = c.in_ok-homes.homes.items in
    let places = function_lives c.args.parameters (actions_of c.args.body.now) in
    let clear = subst (λ (l : List Span). AreClear l homes) c.as_slice.ensures.value c.in_ok-homes.ensures.clear in
    let own = subst (λ (l : List Span). AllZip IsOwnHome l homes) c.as_slice.ensures.value c.in_ok-homes.ensures.own in
    IfOk-weaker c.homes_by_variable.result _ _
    (λ table h variables. allocated seen homes (home_in table.items) places variables c.in_ok-seen.ensures clear own
    (subst (λ (l : List Home). (v : ℕ) → home_in table.items v ≡ numbered_home l (number_in seen.numbers v)) c.as_slice-2.ensures.value h)) c.homes_by_variable.ensures.homes

pub returns-clause-registers : goal.returns-clause-registers
returns-clause-registers c =
    let seen = c.in_ok-seen.seen in let homes = c.in_ok-homes.homes.items in
    let places = function_lives c.args.parameters (actions_of c.args.body.now) in
    let few = subst (λ (l : List Span). ((place : ℕ) → depth_at l place ≤ 18) → NoSlot homes) c.as_slice.ensures.value c.in_ok-homes.ensures.registers in
    IfOk-weaker c.homes_by_variable.result _ _
    (λ table h. all_registers seen homes (home_in table.items) places c.in_ok-seen.ensures few
    (subst (λ (l : List Home). (v : ℕ) → home_in table.items v ≡ numbered_home l (number_in seen.numbers v)) c.as_slice-2.ensures.value h)) c.homes_by_variable.ensures.homes

pub returns-clause-inside : goal.returns-clause-inside
returns-clause-inside c =
    let seen = c.in_ok-seen.seen in
    let places = function_lives c.args.parameters (actions_of c.args.body.now) in
    IfOk-weaker c.homes_by_variable.result _ _
    (λ table long. subst (λ (n : ℕ). AllByRecursion (AreBelow n) places) (sym long) (held_below seen places c.in_ok-seen.ensures.held)) c.homes_by_variable.ensures.length

pub returns-clause-few : goal.returns-clause-few
returns-clause-few c =
    IfOk-weaker c.homes_by_variable.result _ _
    (λ table long n below. (let few = c.in_ok-seen.ensures.few n below in omega arith)) c.homes_by_variable.ensures.length
