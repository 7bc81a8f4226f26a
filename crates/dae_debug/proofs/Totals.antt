-- Each session has a reply to each command, and each script has its replies.
use Rattle.std.proofs.Common.{◌≡◌, ◌≢◌, ◌⊎◌, inl, inr, ℕ, zero, suc, ◌+◌, ◌%◌, ◌^◌, ◌<◌, ◌≤◌, Bool, true, false, ◌&&◌, ◌||◌, nat_eq, List, [], ◌∷◌, length, get_or, set, refl, ap, sym, ◌∙◌, subst, length-set, arith}
use Rattle.std.specs.Prelude.{Option, Some, None, codes}
use Rattle.std.specs.List.{All, list_any}
use Rattle.std.proofs.lemmas.Bool.Decides.{nat_tests}
use Rattle.std.proofs.lemmas.List.{get_or-set_same, get_or-set_other}
use Rattle.dae_base.specs.declared.Side.{Side}
use Rattle.dae_base.specs.declared.Side.TheVariants.{A, E}
use Rattle.dae_base.proofs.Laws.{some_of}
use Rattle.dae_image.specs.declared.Image.{Image}
use Rattle.dae_image.specs.declared.LineMark.{LineMark}
use Rattle.dae_machine.specs.Answers.{processor}
use Rattle.dae_machine.specs.declared.Pick.{Pick}
use Rattle.dae_machine.specs.Held.{HeldMachine}
use Rattle.dae_machine.specs.Machine.{State, Runs, step}
use Rattle.dae_machine.specs.Opened.{opened}
use Rattle.dae_machine.specs.Tries.{Stepped}
use Rattle.dae_machine.specs.Turns.{pick_of}
use Rattle.dae_machine.proofs.LawsOfRuns.{picked_goes, quiet_where_none, opened_counted}
use Rattle.dae_trace.specs.Lines.{line}
use Rattle.dae_cli_drive.specs.Notes.{shown_line}
use Rattle.dae_cli_drive.proofs.Laws.{Good, run_keeps}
use Rattle.dae_debug_commands.specs.declared.Breakpoint.{Breakpoint}
use Rattle.dae_debug_commands.specs.declared.DebugCommand.{DebugCommand}
use Rattle.dae_debug_commands.specs.declared.DebugCommand.TheVariants.{Step, Go, Break, Registers, Queues, Stores, Memory, Quit}
use Rattle.dae_debug.specs.Breaks.{AddsBreak, AreInside, HeldBreaks, is_mark_at, is_mark_of, no_breaks, other, seen, words_of}
use Rattle.dae_debug.specs.Scripts.{Replies, no_command, no_line, quits, replies}
use Rattle.dae_debug.specs.Sessions.{Answers, GoesOn, HeldSession, TakesTurn, Went, goes, most_steps, no_step_left, no_turn, no_turn_left, one_turn, reached, reaches_break, rested, session, spent_text, steps, steps_not, took_all, took_most}
use Rattle.dae_debug.specs.Texts.{queues_text, registers_text, stores_text, taken_text}
use Rattle.dae_debug.proofs.Flags.{adds_on_a, adds_on_e, inside_of, inside_still, none_inside}

-- a machine on its way from an opened one, and marks that are inside its codes
pub record Fit (s : HeldSession) : Type 0 where
  pub good : (let m = s.machine in Good m.state)
  pub inside : AreInside s.breaks

-- ---- a step

pub stepped_good : (m n : HeldMachine) (pick : Pick) (piece : List ℕ) → Good m.state → Stepped pick piece m n → Good n.state
stepped_good m n pick piece good to =
    let run : Runs m.setup m.state (pick ∷ []) (record n.state { printed = piece }) = rw to.state refl in
    let keeps = (run_keeps m.setup m.state (record n.state { printed = piece }) (pick ∷ []) good run).0 in
    record { counted = keeps.counted; halts = keeps.halts }

-- the machine behind a step
abbrev behind_step : HeldMachine → State → HeldMachine
behind_step m t = record { setup = m.setup; state = record t { printed = [] }; silent = refl }

steps_so : (m : HeldMachine) (pick : Pick) (t : State) → step m.setup m.state pick ≡ Some t → Stepped pick t.printed m (behind_step m t)
steps_so m pick t h = record { setup = refl; state = h }

less_or : (m n : ℕ) → (m < n) ⊎ (n ≤ m)
less_or zero zero = inr (omega arith)
less_or zero (suc n) = inl (omega arith)
less_or (suc m) zero = inr (omega arith)
less_or (suc m) (suc n) = by_less (less_or m n) where
  by_less : (m < n) ⊎ (n ≤ m) → (suc m < suc n) ⊎ (suc n ≤ suc m)
  by_less (inl h) = inl (omega arith)
  by_less (inr h) = inr (omega arith)

-- a reply, and the session after it
record Answered (s : HeldSession) (command : DebugCommand) : Type 0 where
  text : List ℕ
  next : HeldSession
  answers : Answers command s text next
  fit : Fit next

some_step : (s : HeldSession) (pick : Pick) → Fit s → Answered s (Step pick)
some_step s pick fit = by_count (less_or (let m = s.machine in let t = m.state in t.steps) most_steps) where
  by_state : (few : (let m = s.machine in let t = m.state in t.steps) < most_steps) (o : Option State) → (let m = s.machine in step m.setup m.state pick) ≡ o → Answered s (Step pick)
  by_state few None e = record { text = codes "not enabled\n"; next = s; answers = steps_not few e; fit = fit }
  by_state few (Some t) e =
      let to = steps_so s.machine pick t e in
      record {
        text = line (let m = s.machine in m.state) pick;
        next = session (behind_step s.machine t) s.breaks;
        answers = steps few to;
        fit = record { good = stepped_good s.machine (behind_step s.machine t) pick t.printed fit.good to; inside = fit.inside };
      }

  by_count : ((let m = s.machine in let t = m.state in t.steps) < most_steps) ⊎ (most_steps ≤ (let m = s.machine in let t = m.state in t.steps)) → Answered s (Step pick)
  by_count (inl few) = by_state few (let m = s.machine in step m.setup m.state pick) refl
  by_count (inr most) = record { text = spent_text; next = s; answers = no_step_left most; fit = fit }

-- ---- turns

-- where turns led
record Led (breaks : HeldBreaks) (turns : ℕ) (start : HeldMachine) : Type 0 where
  end : HeldMachine
  went : Went breaks turns start end
  good : Good end.state

abbrev LaterTurns : HeldBreaks → ℕ → HeldMachine → ℕ → Type 0
LaterTurns breaks turns start k = (n : HeldMachine) → GoesOn breaks start (suc k) n → Good n.state → Led breaks turns start

some_turns : (breaks : HeldBreaks) (start m : HeldMachine) (turns k left : ℕ) → k + left ≡ turns → GoesOn breaks start k m → Good m.state → Led breaks turns start
some_turns breaks start m turns k zero e way good =
    let same : k ≡ turns = omega (arith, e) in
    record { end = m; went = took_all (subst (λ (j : ℕ). GoesOn breaks start j m) same way); good = good }
some_turns breaks start m turns k (suc left) e way good = by_count (λ n w g. some_turns breaks start n turns (suc k) left (omega (arith, e)) w g) (less_or (let t = m.state in t.steps) most_steps) where
  lt : k < turns
  lt = omega (arith, e)

  by_break : LaterTurns breaks turns start k → (pick : Pick) (n : HeldMachine) → TakesTurn m pick n → Good n.state → (b : Bool) → reaches_break breaks pick n.state ≡ b → Led breaks turns start
  by_break later pick n turn then true at = record { end = n; went = reached lt way turn at; good = then }
  by_break later pick n turn then false at = later n (one_turn way turn at) then

  by_pick : LaterTurns breaks turns start k → (let t = m.state in t.steps) < most_steps → (o : Option Pick) → pick_of m.setup m.state (let t = m.state in t.steps % 2 ^ 32) ≡ o → Led breaks turns start
  by_pick later few None p = record { end = m; went = rested lt way (quiet_where_none m.setup m.state (let t = m.state in t.steps % 2 ^ 32) p); good = good }
  by_pick later few (Some pick) p =
      let found = some_of (step m.setup m.state pick) (picked_goes m.setup m.state good.counted (let t = m.state in t.steps % 2 ^ 32) pick p) in
      let to = steps_so m pick found.0 found.1 in
      let n = behind_step m found.0 in
      let turn : TakesTurn m pick n = record { few = few; picks = p; piece = (let t = found.0 in t.printed); steps = to } in
      by_break later pick n turn (stepped_good m n pick (let t = found.0 in t.printed) good to) (reaches_break breaks pick n.state) refl

  by_count : LaterTurns breaks turns start k → ((let t = m.state in t.steps) < most_steps) ⊎ (most_steps ≤ (let t = m.state in t.steps)) → Led breaks turns start
  by_count later (inl few) = by_pick later few (pick_of m.setup m.state (let t = m.state in t.steps % 2 ^ 32)) refl
  by_count later (inr most) = record { end = m; went = took_most lt way most; good = good }

some_go : (s : HeldSession) (turns : ℕ) → Fit s → Answered s (Go turns)
some_go s turns fit = by_count (less_or (let m = s.machine in let t = m.state in t.steps) most_steps) where
  by_count : ((let m = s.machine in let t = m.state in t.steps) < most_steps) ⊎ (most_steps ≤ (let m = s.machine in let t = m.state in t.steps)) → Answered s (Go turns)
  by_count (inl few) =
      let led = some_turns s.breaks s.machine s.machine turns 0 turns (omega arith) no_turn fit.good in
      record {
        text = taken_text (let n = led.end in let t = n.state in t.steps);
        next = session led.end s.breaks;
        answers = goes few led.went;
        fit = record { good = led.good; inside = fit.inside };
      }
  by_count (inr most) = record { text = spent_text; next = s; answers = no_turn_left most; fit = fit }

-- ---- a breakpoint

or_assoc : (x y z : Bool) → ((x || y) || z) ≡ (x || (y || z))
or_assoc true y z = refl
or_assoc false y z = refl

or_nothing : (x : Bool) → x ≡ (x || false)
or_nothing true = refl
or_nothing false = refl

one_flag : (words : List Bool) (at word : ℕ) → at < length words → get_or (set words at true) word false ≡ (get_or words word false || nat_eq at word)
one_flag words at word inside = by_word (nat_eq at word) refl where
  or_one : (x : Bool) → true ≡ (x || true)
  or_one true = refl
  or_one false = refl

  by_word : (b : Bool) → nat_eq at word ≡ b → get_or (set words at true) word false ≡ (get_or words word false || b)
  by_word true e = (let same : at ≡ word = grind (arith, nat_tests) in ap (λ (w : ℕ). get_or (set words at true) w false) (sym same) ∙ get_or-set_same words at true false inside ∙ or_one (get_or words word false))
  by_word false e = (let apart : word ≢ at = (λ f. grind (arith, nat_tests)) in get_or-set_other words at word true false apart ∙ or_nothing (get_or words word false))

-- flags with those of the marks of a breakpoint
record Flagged (place : Breakpoint) (marks : List LineMark) (words : List Bool) : Type 0 where
  after : List Bool
  long : length after ≡ length words
  flags : (word : ℕ) → get_or after word false ≡ (get_or words word false || list_any (is_mark_at place word) marks)

abbrev LaterFlags : Breakpoint → List LineMark → Type 0
LaterFlags place ms = (ws : List Bool) → All (λ mark. is_mark_of place mark ≡ true → mark.word < length ws) ms → Flagged place ms ws

some_flags : (place : Breakpoint) (marks : List LineMark) (words : List Bool) → All (λ mark. is_mark_of place mark ≡ true → mark.word < length words) marks → Flagged place marks words
some_flags place [] words inside = record { after = words; long = refl; flags = λ word. or_nothing (get_or words word false) }
some_flags place (m ∷ ms) words inside = by_mark (λ ws in_ms. some_flags place ms ws in_ms) (is_mark_of place m) refl where
  test : (b : Bool) → is_mark_of place m ≡ b → (word : ℕ) → list_any (is_mark_at place word) (m ∷ ms) ≡ ((b && nat_eq m.word word) || list_any (is_mark_at place word) ms)
  test b e word = ap (λ (c : Bool). (c && nat_eq m.word word) || list_any (is_mark_at place word) ms) e

  by_mark : LaterFlags place ms → (b : Bool) → is_mark_of place m ≡ b → Flagged place (m ∷ ms) words
  by_mark later false e =
      let r = later words (λ k d lt. inside (suc k) d (omega arith)) in
      record { after = r.after; long = r.long; flags = λ word. r.flags word ∙ ap (λ (c : Bool). get_or words word false || c) (sym (test false e word)) }
  by_mark later true e =
      let l = length-set words m.word true in
      let here = inside 0 m (omega arith) e in
      let r = later (set words m.word true) (λ k d lt one. let h = inside (suc k) d (omega arith) one in omega (arith, h, l)) in
      record {
        after = r.after;
        long = r.long ∙ l;
        flags = λ word.
            r.flags word ∙ ap (λ (c : Bool). c || list_any (is_mark_at place word) ms) (one_flag words m.word word here)
            ∙ or_assoc (get_or words word false) (nat_eq m.word word) (list_any (is_mark_at place word) ms)
            ∙ ap (λ (c : Bool). get_or words word false || c) (sym (test true e word));
      }

-- breakpoints with one more
record Added (place : Breakpoint) (breaks : HeldBreaks) : Type 0 where
  after : HeldBreaks
  adds : AddsBreak place breaks after
  inside : AreInside after

some_break : (place : Breakpoint) (breaks : HeldBreaks) → AreInside breaks → Added place breaks
some_break place breaks inside = by_side place.side refl where
  flagged : Flagged place breaks.marks (words_of place.side breaks)
  flagged = some_flags place breaks.marks (words_of place.side breaks) (inside_of place breaks.marks breaks.a breaks.e inside)

  by_side : (side : Side) → place.side ≡ side → Added place breaks
  by_side A e =
      let f : Flagged place breaks.marks breaks.a = subst (λ (s : Side). Flagged place breaks.marks (words_of s breaks)) e flagged in
      record {
        after = seen breaks.marks f.after breaks.e;
        adds = adds_on_a place breaks.marks breaks.a f.after breaks.e e f.long f.flags;
        inside = inside_still breaks.marks breaks.a breaks.e f.after breaks.e f.long refl inside;
      }
  by_side E e =
      let f : Flagged place breaks.marks breaks.e = subst (λ (s : Side). Flagged place breaks.marks (words_of s breaks)) e flagged in
      record {
        after = seen breaks.marks breaks.a f.after;
        adds = adds_on_e place breaks.marks breaks.a breaks.e f.after e f.long f.flags;
        inside = inside_still breaks.marks breaks.a breaks.e breaks.a f.after refl f.long inside;
      }

-- ---- each command, and a script

some_answer : (s : HeldSession) (command : DebugCommand) → command ≢ Quit → Fit s → Answered s command
some_answer s (Step pick) other fit = some_step s pick fit
some_answer s (Go turns) other fit = some_go s turns fit
some_answer s (Break place) other fit =
    let b = some_break place s.breaks fit.inside in
    record { text = codes "ok\n"; next = session s.machine b.after; answers = (refl, refl, b.adds); fit = record { good = fit.good; inside = b.inside } }
some_answer s (Registers side) other fit = record { text = registers_text (processor side (let m = s.machine in m.state)); next = s; answers = (refl, refl); fit = fit }
some_answer s Queues other fit = record { text = queues_text (let m = s.machine in let t = m.state in t.queues); next = s; answers = (refl, refl); fit = fit }
some_answer s Stores other fit = record { text = stores_text (let m = s.machine in let t = m.state in t.queues); next = s; answers = (refl, refl); fit = fit }
some_answer s (Memory shown) other fit = record { text = shown_line shown (let m = s.machine in let t = m.state in t.memory); next = s; answers = (refl, refl); fit = fit }
some_answer s Quit other fit = absurd (other refl)

-- the replies to a script, and the session after them
pub record Scripted (s : HeldSession) (commands : List (Option DebugCommand)) : Type 0 where
  pub texts : List (List ℕ)
  pub end : HeldSession
  pub replied : Replies s commands texts end
  pub fit : Fit end

behind_answer : (s : HeldSession) (command : DebugCommand) (later : List (Option DebugCommand)) → Answered s command → ((t : HeldSession) → Fit t → Scripted t later) → Scripted s (Some command ∷ later)
behind_answer s command later a go =
    let r = go a.next a.fit in
    record { texts = a.text ∷ r.texts; end = r.end; replied = replies a.answers r.replied; fit = r.fit }

pub some_replies : (s : HeldSession) (commands : List (Option DebugCommand)) → Fit s → Scripted s commands
some_replies s [] fit = record { texts = []; end = s; replied = no_line; fit = fit }
some_replies s (None ∷ later) fit =
    let r = some_replies s later fit in
    record { texts = codes "bad command\n" ∷ r.texts; end = r.end; replied = no_command r.replied; fit = r.fit }
some_replies s (Some Quit ∷ later) fit = record { texts = []; end = s; replied = quits; fit = fit }
some_replies s (Some (Step pick) ∷ later) fit = behind_answer s (Step pick) later (some_answer s (Step pick) (λ e. cc) fit) (λ t f. some_replies t later f)
some_replies s (Some (Go turns) ∷ later) fit = behind_answer s (Go turns) later (some_answer s (Go turns) (λ e. cc) fit) (λ t f. some_replies t later f)
some_replies s (Some (Break place) ∷ later) fit = behind_answer s (Break place) later (some_answer s (Break place) (λ e. cc) fit) (λ t f. some_replies t later f)
some_replies s (Some (Registers side) ∷ later) fit = behind_answer s (Registers side) later (some_answer s (Registers side) (λ e. cc) fit) (λ t f. some_replies t later f)
some_replies s (Some Queues ∷ later) fit = behind_answer s Queues later (some_answer s Queues (λ e. cc) fit) (λ t f. some_replies t later f)
some_replies s (Some Stores ∷ later) fit = behind_answer s Stores later (some_answer s Stores (λ e. cc) fit) (λ t f. some_replies t later f)
some_replies s (Some (Memory shown) ∷ later) fit = behind_answer s (Memory shown) later (some_answer s (Memory shown) (λ e. cc) fit) (λ t f. some_replies t later f)

-- a session that is opened on an image
pub opened_fit : (image : Image) (machine : HeldMachine) → machine.state ≡ opened image → Fit (session machine (no_breaks image))
opened_fit image machine is = record {
  good = subst Good (sym is) (record { counted = opened_counted image; halts = refl });
  inside = none_inside image;
}

-- ---- what a command keeps

went_good : (breaks : HeldBreaks) (turns : ℕ) (start end : HeldMachine) → Went breaks turns start end → Good start.state → Good end.state
went_good breaks turns start end went good = by went where
  on : (k : ℕ) (m : HeldMachine) → GoesOn breaks start k m → Good m.state
  on zero m no_turn = good
  on (suc k) m (one_turn {m = l} {pick = pick} way turn none) = let t = turn in stepped_good l m pick t.piece (on k l way) t.steps

  by : Went breaks turns start end → Good end.state
  by (took_all way) = on turns end way
  by (took_most {k = k} lt way most) = on k end way
  by (rested {k = k} lt way quiet) = on k end way
  by (reached {k = k} {m = l} {pick = pick} lt way turn at) = let t = turn in stepped_good l end pick t.piece (on k l way) t.steps

lengths : (place : Breakpoint) (before after : HeldBreaks) → AddsBreak place before after → (length after.a ≡ length before.a) × (length after.e ≡ length before.e)
lengths place before after adds = by place.side refl where
  by : (side : Side) → place.side ≡ side → (length after.a ≡ length before.a) × (length after.e ≡ length before.e)
  by A e = (subst (λ (s : Side). length (words_of s after) ≡ length (words_of s before)) e adds.long, ap length (subst (λ (s : Side). words_of (other s) after ≡ words_of (other s) before) e adds.others))
  by E e = (ap length (subst (λ (s : Side). words_of (other s) after ≡ words_of (other s) before) e adds.others), subst (λ (s : Side). length (words_of s after) ≡ length (words_of s before)) e adds.long)

added_inside : (place : Breakpoint) (before after : HeldBreaks) → AddsBreak place before after → AreInside before → AreInside after
added_inside place before after adds inside =
    let l = lengths place before after adds in
    subst (λ (marks : List LineMark). AreInside (seen marks after.a after.e)) (sym adds.marks) (inside_still before.marks before.a before.e after.a after.e l.0 l.1 inside)

same_fit : (s t : HeldSession) → t ≡ s → Fit s → Fit t
same_fit s t e fit = subst Fit (sym e) fit

pub answers_fit : (command : DebugCommand) (s t : HeldSession) (text : List ℕ) → Answers command s text t → Fit s → Fit t
answers_fit (Step pick) s t text (steps {piece = piece} {n = n} few to) fit = record { good = stepped_good s.machine n pick piece fit.good to; inside = fit.inside }
answers_fit (Step pick) s t text (steps_not few none) fit = fit
answers_fit (Step pick) s t text (no_step_left most) fit = fit
answers_fit (Go turns) s t text (goes {n = n} few went) fit = record { good = went_good s.breaks turns s.machine n went fit.good; inside = fit.inside }
answers_fit (Go turns) s t text (no_turn_left most) fit = fit
answers_fit (Break place) s t text a fit = record {
  good = subst (λ (m : HeldMachine). Good m.state) (sym a.1) fit.good;
  inside = added_inside place s.breaks t.breaks a.2 fit.inside;
}
answers_fit (Registers side) s t text a fit = same_fit s t a.1 fit
answers_fit Queues s t text a fit = same_fit s t a.1 fit
answers_fit Stores s t text a fit = same_fit s t a.1 fit
answers_fit (Memory shown) s t text a fit = same_fit s t a.1 fit
answers_fit Quit s t text a fit = absurd a
