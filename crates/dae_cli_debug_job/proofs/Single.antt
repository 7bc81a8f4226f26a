-- For a script on an image at most one answer is due, but for want of memory.
use Rattle.std.proofs.Common.{◌≡◌, ℕ, List, [], ◌∷◌, ◌++◌, map, refl, ap, sym, ◌∙◌, subst}
use Rattle.std.specs.Prelude.{Option, Some, None}
use Rattle.dae_base.specs.declared.Depths.{Depths}
use Rattle.dae_base.specs.Ones.{IsTheOne}
use Rattle.dae_image.specs.declared.Image.{Image}
use Rattle.dae_debug_commands.specs.declared.DebugCommand.{DebugCommand}
use Rattle.dae_debug_commands.specs.Scripts.{AreRead, lines_of}
use Rattle.dae_debug.specs.Sessions.{HeldSession, opened_session}
use Rattle.dae_debug.proofs.LawsOfSessions.{one_script}
use Rattle.dae_cli_drive.specs.declared.driving.Driven.{Driven}
use Rattle.dae_cli_drive.specs.Images.{IsSingle, status_of}
use Rattle.dae_cli_drive.specs.Notes.{end_puts}
use Rattle.dae_cli_drive.specs.Puts.{Answer, Out, answer}
use Rattle.dae_cli_drive.proofs.Laws.{one_rest, single_budgeted, single_opened}
use Rattle.dae_cli_debug_job.specs.Debugging.{DueOfCommands, DueOfDebugging, DueOfScript, Stands, due_replies, due_script}

one_found : {X : Type 0} {Has : X → Type 0} (found other : Option X) → IsTheOne Has found → IsTheOne Has other → found ≡ other
one_found None None x y = refl
one_found None (Some v) x y = x.only v y.has
one_found (Some v) other x y = sym (y.only v x.has)

same_read : (lines : List (List ℕ)) (commands others : List (Option DebugCommand)) → AreRead lines commands → AreRead lines others → commands ≡ others
same_read [] [] [] x y = refl
same_read [] [] (d ∷ ds) x y = absurd y
same_read [] (c ∷ cs) others x y = absurd x
same_read (l ∷ ls) [] others x y = absurd x
same_read (l ∷ ls) (c ∷ cs) [] x y = absurd y
same_read (l ∷ ls) (c ∷ cs) (d ∷ ds) x y =
    ap (λ (z : Option DebugCommand). z ∷ cs) (one_found c d x.0 y.0) ∙ ap (λ (zs : List (Option DebugCommand)). d ∷ zs) (same_read ls cs ds x.1 y.1)

abbrev replied_answer : List (List ℕ) → HeldSession → Driven → Answer
replied_answer texts end how = answer (status_of how) (map Out texts ++ (let m = end.machine in end_puts how m.setup m.state None))

single_commands : (start : HeldSession) (commands : List (Option DebugCommand)) → IsSingle (DueOfCommands start commands)
single_commands start commands a b (due_replies texts end how replied stands) (due_replies texts' end' how' replied' stands') n n' =
    let same = one_script start end end' commands texts texts' replied replied' in
    let there : Stands how end' = subst (λ (s : HeldSession). Stands how s) same.1 stands in
    let h : how ≡ how' = one_rest how how' (let m = end'.machine in let t = m.state in t.steps) (let m = end'.machine in m.setup) (let m = end'.machine in m.state) there stands' in
    ap (λ (ts : List (List ℕ)). replied_answer ts end how) same.0 ∙ ap (λ (s : HeldSession). replied_answer texts' s how) same.1 ∙ ap (replied_answer texts' end') h

single_script : (image : Image) (d : Depths) (script : List ℕ) → IsSingle (DueOfScript image d script)
single_script image d script a b (due_script commands read x) (due_script commands' read' y) n n' =
    let same = same_read (lines_of script) commands commands' read read' in
    single_commands (opened_session image d) commands' a b (subst (λ (cs : List (Option DebugCommand)). DueOfCommands (opened_session image d) cs a) same x) y n n'

pub single_debugging : (image : Image) (d : Depths) (script : List ℕ) → IsSingle (DueOfDebugging image d script)
single_debugging image d script = single_budgeted image _ (single_opened image d _ (single_script image d script))
