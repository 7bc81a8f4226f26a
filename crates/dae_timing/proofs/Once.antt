-- E steps at most once in a tick.
use Rattle.std.proofs.Common.{◌≡◌, ◌+◌, ◌≤◌, Bool, true, false, ◌++◌, refl, sym, ap, arith}
use Rattle.std.specs.Prelude.{Option, Some, None, nat_lt, if◌then◌else◌}
use Rattle.std.specs.Option.{option_to_list}
use Rattle.dae_base.specs.declared.Side.{Side}
use Rattle.dae_base.specs.declared.Side.TheVariants.{A, E}
use Rattle.dae_machine.specs.declared.Pick.{Pick}
use Rattle.dae_machine.specs.declared.Pick.TheVariants.{A as MoveA, Drain}
use Rattle.dae_machine.specs.Ends.{is_e}
use Rattle.dae_machine.specs.Machine.{Setup}
use Rattle.dae_machine.specs.Memory.{loads_of}
use Rattle.dae_machine.specs.Runs.{often}
use Rattle.dae_machine.specs.Turns.{is_enabled}
use Rattle.dae_machine.proofs.LawsOfRuns.{often-append}
use Rattle.dae_cli_options.specs.declared.options.Costs.{Costs}
use Rattle.dae_timing.specs.Clocks.{Clock, issues_of}
use Rattle.dae_timing.specs.Ticks.{after_drain, after_fill, after_fills, after_side, drain_of, fill_of, in_order, picks_of, step_of}
use Rattle.dae_timing.proofs.Slots.{ripe_fills}

-- a pick that is no step of E, where there is one
abbrev NotOfE : Option Pick → Type 0
NotOfE o = (p : Pick) → o ≡ Some p → is_e p ≡ false

none_of_e : (o : Option Pick) → NotOfE o → often is_e (option_to_list o) ≡ 0
none_of_e None h = refl
none_of_e (Some p) h = rw (h p refl) refl

one_at_most : (o : Option Pick) → often is_e (option_to_list o) ≤ 1
one_at_most None = omega arith
one_at_most (Some p) = by_test (is_e p) where
  by_test : (b : Bool) → (if b then 1 else 0) + 0 ≤ 1
  by_test true = omega arith
  by_test false = omega arith

not_drain : (setup : Setup) (c : Clock) → NotOfE (drain_of setup c)
not_drain setup c = by_test (is_enabled setup c.state Drain) where
  by_test : (b : Bool) → NotOfE (if b then Some Drain else None)
  by_test true p h = let e : Drain ≡ p = cc in ap is_e (sym e)
  by_test false p h = cc

not_fill : (setup : Setup) (k : Costs) (side : Side) (c : Clock) → NotOfE (fill_of setup k side c)
not_fill setup k side c p h =
    let f = ripe_fills setup c.state side k.load c.ticks (loads_of side c.state.queues).slots (issues_of side c) p h in
    ap is_e f.1

not_a : (setup : Setup) (c : Clock) → NotOfE (step_of setup A c)
not_a setup c = by_free (nat_lt c.ticks c.free_a) (is_enabled setup c.state MoveA) where
  by_free : (x b : Bool) → NotOfE (if x then None else (if b then Some MoveA else None))
  by_free true b p h = cc
  by_free false true p h = let e : MoveA ≡ p = cc in ap is_e (sym e)
  by_free false false p h = cc

pub prints_once : (setup : Setup) (k : Costs) (c : Clock) → often is_e (in_order (picks_of setup k c)) ≤ 1
prints_once setup k c =
    let c1 = after_drain setup c in
    let c2 = after_fill setup k A c1 in
    let c3 = after_fills setup k c in
    let c4 = after_side setup k E c3 in
    let d = option_to_list (drain_of setup c) in
    let fa = option_to_list (fill_of setup k A c1) in
    let fe = option_to_list (fill_of setup k E c2) in
    let e = option_to_list (step_of setup E c3) in
    let a = option_to_list (step_of setup A c4) in
    let n1 = none_of_e (drain_of setup c) (not_drain setup c) in
    let n2 = none_of_e (fill_of setup k A c1) (not_fill setup k A c1) in
    let n3 = none_of_e (fill_of setup k E c2) (not_fill setup k E c2) in
    let n4 = one_at_most (step_of setup E c3) in
    let n5 = none_of_e (step_of setup A c4) (not_a setup c4) in
    let s1 = often-append is_e d (fa ++ (fe ++ (e ++ a))) in
    let s2 = often-append is_e fa (fe ++ (e ++ a)) in
    let s3 = often-append is_e fe (e ++ a) in
    let s4 = often-append is_e e a in
    omega (arith, s1, s2, s3, s4, n1, n2, n3, n4, n5)
