-- A machine is what no step changes and its state.
use Rattle.std.proofs.Common.{◌≡◌, [], subst, ap, ◌∙◌}
use Rattle.std.proofs.Props.{props}
use Rattle.dae_machine.specs.Held.{HeldMachine}
use Rattle.dae_machine.specs.Machine.{Setup, State}
use Rattle.dae_machine.specs.Opened.{opened, setup_of}
use Rattle.dae_base.specs.declared.Depths.{Depths}
use Rattle.dae_image.specs.declared.Image.{Image}
use Rattle.dae_debug.specs.Breaks.{HeldBreaks, no_breaks}
use Rattle.dae_debug.specs.Sessions.{opened_session, session}

abbrev held_with : (setup : Setup) (state : State) → state.printed ≡ [] → HeldMachine
held_with setup state silent = record { setup = setup; state = state; silent = silent }

one_silent : (state : State) → IsProp (state.printed ≡ [])
one_silent state = hlevel props

pub held_same : (m n : HeldMachine) → m.setup ≡ n.setup → m.state ≡ n.state → m ≡ n
held_same m n p q =
    subst (λ (s : State). (x : s.printed ≡ []) → m ≡ held_with n.setup s x) q
    (subst (λ (u : Setup). (x : m.state.printed ≡ []) → m ≡ held_with u m.state x) p
    (λ x. ap (held_with m.setup m.state) (one_silent m.state m.silent x))) n.silent

pub opened_so : (image : Image) (depths : Depths) (machine : HeldMachine) (breaks : HeldBreaks) → machine.setup ≡ setup_of image depths → machine.state ≡ opened image
    → breaks ≡ no_breaks image → session machine breaks ≡ opened_session image depths
opened_so image depths machine breaks p q r =
    let same = held_same machine (let s = opened_session image depths in s.machine) p q in
    ap (λ (m : HeldMachine). session m breaks) same ∙ ap (session (let s = opened_session image depths in s.machine)) r
