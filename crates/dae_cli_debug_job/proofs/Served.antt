-- A session on its way through its commands, with the replies put out; and what that comes to is due.
use Rattle.std.proofs.Common.{◌≡◌, ◌≢◌, ℕ, suc, ◌+◌, ◌<◌, ◌≤◌, List, [], ◌∷◌, ◌++◌, map, length, drop, get_or, refl, ap, sym, ◌∙◌, subst, append_assoc, append-nil, drop-cons, arith}
use Rattle.std.specs.Prelude.{Option, Some, None}
use Rattle.std.proofs.lemmas.List.{drop_all, map-append}
use Rattle.std.proofs.lemmas.Option.{same_Some}
use Rattle.dae_io.specs.Sinks.{SinkState, IsPut, IsPutFailed}
use Rattle.dae_machine.specs.Held.{HeldMachine}
use Rattle.dae_machine.specs.Machine.{State}
use Rattle.dae_debug_commands.specs.declared.DebugCommand.{DebugCommand}
use Rattle.dae_debug_commands.specs.declared.DebugCommand.TheVariants.{Quit}
use Rattle.dae_debug.specs.Scripts.{Replies, no_command, no_line, quits, replies}
use Rattle.dae_debug.specs.Sessions.{HeldSession, opened_session}
use Rattle.dae_debug.proofs.LawsOfSessions.{Fit, answers_fit, opened_fit, some_replies}
use Rattle.dae_cli_drive.specs.declared.driving.Driven.{Driven}
use Rattle.dae_cli_drive.specs.declared.driving.Driven.TheVariants.{SinkFailed}
use Rattle.dae_cli_drive.specs.Images.{status_of}
use Rattle.dae_cli_drive.specs.Notes.{end_puts}
use Rattle.dae_cli_drive.specs.Puts.{AreCut, AreMade, Gives, GivesDue, Out, Put, answer, gives_part, sinks}
use Rattle.dae_cli_drive.specs.Turns.{AreOut, Rested}
use Rattle.dae_cli_drive.proofs.Laws.{Good, comes_out, cut_after, cut_here, cut_more, gives_same, gives_then, made_then}
use Rattle.dae_cli_debug_job.specs.Debugging.{DueOfCommands, IsOpened, RepliesTo, ServesAll, ServesInPart, Stands, due_replies}

-- ---- how a machine stands

pub some_stand : (s : HeldSession) → (let m = s.machine in Good m.state) → (how : Driven) × Stands how s
some_stand s good =
    let m = s.machine in
    let t = m.state in
    let out = comes_out m.setup m.state (λ i. 0) 0 good in
    let same : m.state ≡ out.last = same_Some m.state out.last out.made in
    let count : t.steps + 0 ≡ t.steps = omega arith in
    (out.how, subst (λ (u : State). Rested out.how t.steps m.setup u) (sym same) (subst (λ (n : ℕ). Rested out.how n m.setup out.last) count out.rested))

pub not_failed : (how : Driven) (s : HeldSession) → Stands how s → how ≢ SinkFailed
not_failed how s stands e = subst (λ (h : Driven). Stands h s) e stands

-- ---- on the way: the replies so far were put, and those to the commands that are left come behind them

pub record Serving (commands : List (Option DebugCommand)) (start : HeldSession) (i : ℕ) (now : HeldSession) (out out_now : SinkState) : Type 0 where
  pub done : List (List ℕ)
  pub behind : (texts : List (List ℕ)) (end : HeldSession) → Replies now (drop i commands) texts end → Replies start commands (done ++ texts) end
  pub put : AreOut (map Out done) out out_now
  pub fit : Fit now

pub begins : (commands : List (Option DebugCommand)) (start : HeldSession) (out : SinkState) → IsOpened start → Serving commands start 0 start out out
begins commands start out is = record {
  done = [];
  behind = λ texts end r. r;
  put = λ note. refl;
  fit = subst Fit (sym is.2) (opened_fit is.0 (let s = opened_session is.0 is.1 in s.machine) refl);
}

by_command : (c : Option DebugCommand) (now next end : HeldSession) (text : List ℕ) (later : List (Option DebugCommand)) (texts : List (List ℕ)) → RepliesTo c now text next
    → Replies next later texts end → Replies now (c ∷ later) (text ∷ texts) end
by_command (Some c) now next end text later texts a r = replies a r
by_command None now next end text later texts a r =
    subst (λ (t : List ℕ). Replies now (None ∷ later) (t ∷ texts) end) (sym a.0) (no_command (subst (λ (s : HeldSession). Replies s later texts end) a.1 r))

next_fit : (c : Option DebugCommand) (now next : HeldSession) (text : List ℕ) → RepliesTo c now text next → Fit now → Fit next
next_fit (Some c) now next text a fit = answers_fit c now next text a fit
next_fit None now next text a fit = subst Fit (sym a.1) fit

module _ (commands : List (Option DebugCommand)) (start now : HeldSession) (i : ℕ) (out out_now : SinkState) (w : Serving commands start i now out out_now) where
  -- all commands were done
  pub ends : length commands ≤ i → Replies start commands w.done now
  ends all =
      let none : drop i commands ≡ [] = drop_all i commands all in
      subst (λ (ts : List (List ℕ)). Replies start commands ts now) (append-nil w.done) (w.behind [] now (rw none no_line))

  module _ (command d : Option DebugCommand) (lt : i < length commands) (is : get_or commands i d ≡ command) where
    here : drop i commands ≡ command ∷ drop (i + 1) commands
    here =
        let add : suc i ≡ i + 1 = omega arith in
        drop-cons commands i d lt ∙ ap (λ (c : Option DebugCommand). c ∷ drop (suc i) commands) is ∙ ap (λ (n : ℕ). command ∷ drop n commands) add

    -- the command ends the session
    pub ends_here : command ≡ Some Quit → Replies start commands w.done now
    ends_here e =
        let quit : drop i commands ≡ Some Quit ∷ drop (i + 1) commands = here ∙ ap (λ (c : Option DebugCommand). c ∷ drop (i + 1) commands) e in
        subst (λ (ts : List (List ℕ)). Replies start commands ts now) (append-nil w.done) (w.behind [] now (rw quit quits))

    module _ (text : List ℕ) (next : HeldSession) (a : RepliesTo command now text next) where
      more : (texts : List (List ℕ)) (end : HeldSession) → Replies next (drop (i + 1) commands) texts end → Replies start commands (w.done ++ text ∷ texts) end
      more texts end r =
          w.behind (text ∷ texts) end
          (subst (λ (cs : List (Option DebugCommand)). Replies now cs (text ∷ texts) end) (sym here) (by_command command now next end text (drop (i + 1) commands) texts a r))

      -- its reply was put
      pub goes_on : (out_next : SinkState) → IsPut text out_now out_next → Serving commands start (i + 1) next out out_next
      goes_on out_next put = record {
        done = w.done ++ text ∷ [];
        behind = λ texts end r. subst (λ (ts : List (List ℕ)). Replies start commands ts end) (sym (append_assoc w.done (text ∷ []) texts)) (more texts end r);
        put = λ note. subst (λ (l : List Put). AreMade l (sinks out note) (sinks out_next note)) (sym (map-append Out w.done (text ∷ [])))
            (made_then (map Out w.done) (Out text ∷ []) (sinks out note) (sinks out_now note) (sinks out_next note) (w.put note) (sinks out_next note, (put, refl), refl));
        fit = next_fit command now next text a w.fit;
      }

      -- the put of its reply failed
      pub stops : (out_next : SinkState) → IsPutFailed text out_now out_next → ServesInPart commands start out out_next
      stops out_next failed =
          let rest = some_replies next (drop (i + 1) commands) (next_fit command now next text a w.fit) in
          let fit = rest.fit in
          let stand = some_stand rest.end fit.good in
          record {
            texts = w.done ++ text ∷ rest.texts;
            end = rest.end;
            how = stand.0;
            replied = more rest.texts rest.end rest.replied;
            stands = stand.1;
            cut = λ note. subst (λ (l : List Put). AreCut l (sinks out note) (sinks out_next note)) (sym (map-append Out w.done (text ∷ rest.texts)))
                (cut_after (map Out w.done) (Out text ∷ map Out rest.texts) (sinks out note) (sinks out_now note) (sinks out_next note) (w.put note)
                (cut_here (Out text) (map Out rest.texts) (sinks out_now note) (sinks out_next note) (failed, refl)));
          }

-- ---- what is due

pub served_due : (start now : HeldSession) (commands : List (Option DebugCommand)) (machine : HeldMachine) (how : Driven) (status : ℕ) (out out_now n n' : SinkState) → machine ≡ now.machine
    → ServesAll how commands start now out out_now → Gives (answer (status_of how) (end_puts how machine.setup machine.state None)) status (sinks out_now n) (sinks out_now n')
    → GivesDue (DueOfCommands start commands) status (sinks out n) (sinks out_now n')
served_due start now commands machine how status out out_now n n' is s given =
    let lines : end_puts how machine.setup machine.state None ≡ (let m = now.machine in end_puts how m.setup m.state None) = ap (λ (m : HeldMachine). end_puts how m.setup m.state None) is in (
      answer (status_of how) (map Out s.texts ++ (let m = now.machine in end_puts how m.setup m.state None)),
      due_replies s.texts now how s.replied s.stands,
      gives_then (map Out s.texts) (let m = now.machine in end_puts how m.setup m.state None) (status_of how) status (sinks out n) (sinks out_now n) (sinks out_now n') (s.put n)
          (gives_same (ap (answer (status_of how)) lines) given),
    )

pub stopped_due : (start : HeldSession) (commands : List (Option DebugCommand)) (out out_now n : SinkState) → ServesInPart commands start out out_now
    → GivesDue (DueOfCommands start commands) 6 (sinks out n) (sinks out_now n)
stopped_due start commands out out_now n s = (
  answer (status_of s.how) (map Out s.texts ++ (let e = s.end in let m = e.machine in end_puts s.how m.setup m.state None)),
  due_replies s.texts s.end s.how s.replied s.stands,
  gives_part refl (cut_more (map Out s.texts) (let e = s.end in let m = e.machine in end_puts s.how m.setup m.state None) (sinks out n) (sinks out_now n) (s.cut n)),
)
