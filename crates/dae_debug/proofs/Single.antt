-- A script has one list of replies, and leads to one session.
use Rattle.std.proofs.Common.{◌≡◌, ◌⊎◌, inl, inr, ℕ, zero, suc, ◌<◌, ◌≤◌, Bool, true, false, List, [], ◌∷◌, length, get_or, refl, ap, sym, ◌∙◌, subst, arith}
use Rattle.std.proofs.lemmas.Bool.{cases_order}
use Rattle.std.specs.Prelude.{Option, Some, None, codes}
use Rattle.dae_base.specs.declared.Side.{Side}
use Rattle.dae_base.specs.declared.Side.TheVariants.{A, E}
use Rattle.dae_machine.specs.declared.Pick.{Pick}
use Rattle.dae_machine.specs.Held.{HeldMachine}
use Rattle.dae_machine.specs.Machine.{State, IsQuiet, step}
use Rattle.dae_machine.specs.Tries.{Stepped}
use Rattle.dae_cli_drive.proofs.Laws.{none_or_some, some_same}
use Rattle.dae_debug_commands.specs.declared.Breakpoint.{Breakpoint}
use Rattle.dae_debug_commands.specs.declared.DebugCommand.{DebugCommand}
use Rattle.dae_debug_commands.specs.declared.DebugCommand.TheVariants.{Step, Go, Break, Registers, Queues, Stores, Memory, Quit}
use Rattle.dae_debug.specs.Breaks.{AddsBreak, HeldBreaks, other, words_of}
use Rattle.dae_debug.specs.Scripts.{Replies, no_command, no_line, quits, replies}
use Rattle.dae_debug.specs.Sessions.{Answers, GoesOn, GoesTo, HeldSession, StepsTo, TakesTurn, Went, goes, most_steps, no_step_left, no_turn, no_turn_left, one_turn, reached, reaches_break, rested, session, steps, steps_not, took_all, took_most}
use Rattle.dae_debug.specs.Texts.{taken_text}
use Rattle.dae_debug.proofs.Held.{held_same}

-- ---- a step

abbrev silenced : State → State
silenced t = record t { printed = [] }

silent_is : (m : HeldMachine) → m.state ≡ silenced m.state
silent_is m = ap (λ (text : List ℕ). record m.state { printed = text }) m.silent

stepped_one : (m n o : HeldMachine) (pick : Pick) (piece other : List ℕ) → Stepped pick piece m n → Stepped pick other m o → n ≡ o
stepped_one m n o pick piece other x y =
    let both : record n.state { printed = piece } ≡ record o.state { printed = other } = some_same x.state y.state in
    held_same n o (x.setup ∙ sym y.setup) (silent_is n ∙ ap silenced both ∙ sym (silent_is o))

takes_one : (m n o : HeldMachine) (pick other : Pick) → TakesTurn m pick n → TakesTurn m other o → (pick ≡ other) × (n ≡ o)
takes_one m n o pick other x y =
    let p : pick ≡ other = some_same x.picks y.picks in
    let to : Stepped other x.piece m n = subst (λ (q : Pick). Stepped q x.piece m n) p x.steps in
    (p, stepped_one m n o other x.piece y.piece to y.steps)

-- ---- turns

module _ (breaks : HeldBreaks) (start : HeldMachine) where
  on_one : (k : ℕ) (m n : HeldMachine) → GoesOn breaks start k m → GoesOn breaks start k n → m ≡ n
  on_one zero m n no_turn no_turn = refl
  on_one (suc k) m n (one_turn {m = l} {pick = p} way turn none) (one_turn {m = l'} {pick = q} way' turn' none') =
      let same = on_one k l l' way way' in
      (takes_one l' m n p q (subst (λ (h : HeldMachine). TakesTurn h p m) same turn) turn').1

  -- the turn behind so many, where there are more
  record Further (m : HeldMachine) : Type 0 where
    pick : Pick
    next : HeldMachine
    turn : TakesTurn m pick next
    none : reaches_break breaks pick next.state ≡ false

  further : (j k : ℕ) (m n : HeldMachine) → k < j → GoesOn breaks start k m → GoesOn breaks start j n → Further m
  further zero k m n lt way far = absurd (omega arith)
  further (suc j) k m n lt way (one_turn {m = l} {pick = p} before turn none) = by_last (λ less. further j k m l less way before) (cases_order j k) where
    by_last : (k < j → Further m) → (j ≡ k) ⊎ ((j < k) ⊎ (k < j)) → Further m
    by_last earlier (inr (inr less)) = earlier less
    by_last earlier (inr (inl more)) = absurd (omega (arith, lt, more))
    by_last earlier (inl e) =
        let same : l ≡ m = on_one k l m (subst (λ (i : ℕ). GoesOn breaks start i l) e before) way in
        record { pick = p; next = n; turn = subst (λ (h : HeldMachine). TakesTurn h p n) same turn; none = none }

  -- where turns stop, behind so many that go on
  data Stops (turns k : ℕ) (m : HeldMachine) : HeldMachine → Type 0 where
    stop_count : k ≡ turns → Stops turns k m m
    stop_most : k < turns → (let t = m.state in most_steps ≤ t.steps) → Stops turns k m m
    stop_quiet : k < turns → IsQuiet m.setup m.state → Stops turns k m m
    stop_break : {pick : Pick} {end : HeldMachine} → k < turns → TakesTurn m pick end → reaches_break breaks pick end.state ≡ true → Stops turns k m end

  record Stopped (turns : ℕ) (end : HeldMachine) : Type 0 where
    count : ℕ
    at : HeldMachine
    way : GoesOn breaks start count at
    stops : Stops turns count at end

  stopped : (turns : ℕ) (end : HeldMachine) → Went breaks turns start end → Stopped turns end
  stopped turns end (took_all way) = record { count = turns; at = end; way = way; stops = stop_count refl }
  stopped turns end (took_most {k = k} lt way most) = record { count = k; at = end; way = way; stops = stop_most lt most }
  stopped turns end (rested {k = k} lt way quiet) = record { count = k; at = end; way = way; stops = stop_quiet lt quiet }
  stopped turns end (reached {k = k} {m = m} lt way turn at) = record { count = k; at = m; way = way; stops = stop_break lt turn at }

  no_more : (turns k : ℕ) (m end : HeldMachine) → Stops turns k m end → k < turns → Further m → ⊥
  no_more turns k m end (stop_count e) lt f = absurd (omega (arith, e, lt))
  no_more turns k m end (stop_most less most) lt f = let t = f.turn in let few = t.few in absurd (omega (arith, few, most))
  no_more turns k m end (stop_quiet less quiet) lt f = let t = f.turn in let s = t.steps in none_or_some (quiet f.pick) s.state
  no_more turns k m end (stop_break {pick = p} less turn at) lt f =
      let same = takes_one m end f.next p f.pick turn f.turn in
      let there : reaches_break breaks f.pick (let n = f.next in n.state) ≡ true =
      subst (λ (h : HeldMachine). reaches_break breaks f.pick h.state ≡ true) same.1 (subst (λ (q : Pick). reaches_break breaks q end.state ≡ true) same.0 at) in
      let none = f.none in
      cc

  at_most : (turns k : ℕ) (m end : HeldMachine) → Stops turns k m end → k ≤ turns
  at_most turns k m end (stop_count e) = omega (arith, e)
  at_most turns k m end (stop_most less most) = omega (arith, less)
  at_most turns k m end (stop_quiet less quiet) = omega (arith, less)
  at_most turns k m end (stop_break less turn at) = omega (arith, less)

  same_stop : (turns k : ℕ) (m end other : HeldMachine) → Stops turns k m end → Stops turns k m other → end ≡ other
  same_stop turns k m end other (stop_count e) (stop_count f) = refl
  same_stop turns k m end other (stop_count e) (stop_most less most) = refl
  same_stop turns k m end other (stop_count e) (stop_quiet less quiet) = refl
  same_stop turns k m end other (stop_count e) (stop_break less turn at) = absurd (omega (arith, e, less))
  same_stop turns k m end other (stop_most less most) (stop_count f) = refl
  same_stop turns k m end other (stop_most less most) (stop_most less' most') = refl
  same_stop turns k m end other (stop_most less most) (stop_quiet less' quiet) = refl
  same_stop turns k m end other (stop_most less most) (stop_break less' turn at) = let few = turn.few in absurd (omega (arith, few, most))
  same_stop turns k m end other (stop_quiet less quiet) (stop_count f) = refl
  same_stop turns k m end other (stop_quiet less quiet) (stop_most less' most) = refl
  same_stop turns k m end other (stop_quiet less quiet) (stop_quiet less' quiet') = refl
  same_stop turns k m end other (stop_quiet less quiet) (stop_break {pick = p} less' turn at) = let s = turn.steps in absurd (none_or_some (quiet p) s.state)
  same_stop turns k m end other (stop_break less turn at) (stop_count f) = absurd (omega (arith, f, less))
  same_stop turns k m end other (stop_break less turn at) (stop_most less' most) = let few = turn.few in absurd (omega (arith, few, most))
  same_stop turns k m end other (stop_break {pick = p} less turn at) (stop_quiet less' quiet) = let s = turn.steps in absurd (none_or_some (quiet p) s.state)
  same_stop turns k m end other (stop_break {pick = p} less turn at) (stop_break {pick = q} less' turn' at') = (takes_one m end other p q turn turn').1

  went_one : (turns : ℕ) (end other : HeldMachine) → Went breaks turns start end → Went breaks turns start other → end ≡ other
  went_one turns end other x y = by_count (stopped turns end x) (stopped turns other y) where
    by_count : Stopped turns end → Stopped turns other → end ≡ other
    by_count a b = by (cases_order a.count b.count) where
      by : (a.count ≡ b.count) ⊎ ((a.count < b.count) ⊎ (b.count < a.count)) → end ≡ other
      by (inr (inl less)) =
          let most = at_most turns b.count b.at other b.stops in
          absurd (no_more turns a.count a.at end a.stops (omega (arith, less, most)) (further b.count a.count a.at b.at less a.way b.way))
      by (inr (inr less)) =
          let most = at_most turns a.count a.at end a.stops in
          absurd (no_more turns b.count b.at other b.stops (omega (arith, less, most)) (further a.count b.count b.at a.at less b.way a.way))
      by (inl e) =
          let way : GoesOn breaks start b.count a.at = subst (λ (k : ℕ). GoesOn breaks start k a.at) e a.way in
          let same = on_one b.count a.at b.at way b.way in
          let here : Stops turns b.count b.at end = subst (λ (h : HeldMachine). Stops turns b.count h end) same (subst (λ (k : ℕ). Stops turns k a.at end) e a.stops) in
          same_stop turns b.count b.at end other here b.stops

-- ---- a breakpoint

same_flags : (xs ys : List Bool) → length xs ≡ length ys → ((k : ℕ) → get_or xs k false ≡ get_or ys k false) → xs ≡ ys
same_flags [] [] l e = refl
same_flags [] (y ∷ ys) l e = absurd (omega arith)
same_flags (x ∷ xs) [] l e = absurd (omega arith)
same_flags (x ∷ xs) (y ∷ ys) l e =
    let head : x ≡ y = e 0 in
    let tail : xs ≡ ys = same_flags xs ys (omega arith) (λ k. e (suc k)) in
    λ i. head i ∷ tail i

adds_one : (place : Breakpoint) (before x y : HeldBreaks) → AddsBreak place before x → AddsBreak place before y → x ≡ y
adds_one place before x y p q = by place.side refl where
  marks : x.marks ≡ y.marks
  marks = p.marks ∙ sym q.marks

  here : words_of place.side x ≡ words_of place.side y
  here = same_flags (words_of place.side x) (words_of place.side y) (p.long ∙ sym q.long) (λ k. p.words k ∙ sym (q.words k))

  there : words_of (other place.side) x ≡ words_of (other place.side) y
  there = p.others ∙ sym q.others

  by : (side : Side) → place.side ≡ side → x ≡ y
  by A e =
      let a : x.a ≡ y.a = subst (λ (s : Side). words_of s x ≡ words_of s y) e here in
      let b : x.e ≡ y.e = subst (λ (s : Side). words_of (other s) x ≡ words_of (other s) y) e there in
      λ i. record { marks = marks i; a = a i; e = b i }
  by E e =
      let a : x.a ≡ y.a = subst (λ (s : Side). words_of (other s) x ≡ words_of (other s) y) e there in
      let b : x.e ≡ y.e = subst (λ (s : Side). words_of s x ≡ words_of s y) e here in
      λ i. record { marks = marks i; a = a i; e = b i }

-- ---- a command

step_one : (s : HeldSession) (x y : List ℕ) (t u : HeldSession) (pick : Pick) → StepsTo s pick x t → StepsTo s pick y u → (x ≡ y) × (t ≡ u)
step_one s x y t u pick (steps {piece = p} {n = n} few to) (steps {piece = q} {n = o} few' to') =
    (refl, ap (λ (m : HeldMachine). session m s.breaks) (stepped_one s.machine n o pick p q to to'))
step_one s x y t u pick (steps few to) (steps_not few' none) = absurd (none_or_some none to.state)
step_one s x y t u pick (steps few to) (no_step_left most) = absurd (omega (arith, few, most))
step_one s x y t u pick (steps_not few none) (steps few' to) = absurd (none_or_some none to.state)
step_one s x y t u pick (steps_not few none) (steps_not few' none') = (refl, refl)
step_one s x y t u pick (steps_not few none) (no_step_left most) = absurd (omega (arith, few, most))
step_one s x y t u pick (no_step_left most) (steps few to) = absurd (omega (arith, few, most))
step_one s x y t u pick (no_step_left most) (steps_not few none) = absurd (omega (arith, few, most))
step_one s x y t u pick (no_step_left most) (no_step_left most') = (refl, refl)

go_one : (s : HeldSession) (x y : List ℕ) (t u : HeldSession) (turns : ℕ) → GoesTo s turns x t → GoesTo s turns y u → (x ≡ y) × (t ≡ u)
go_one s x y t u turns (goes {n = n} few went) (goes {n = o} few' went') =
    let same = went_one s.breaks s.machine turns n o went went' in
    (ap (λ (m : HeldMachine). let z = m.state in taken_text z.steps) same, ap (λ (m : HeldMachine). session m s.breaks) same)
go_one s x y t u turns (goes few went) (no_turn_left most) = absurd (omega (arith, few, most))
go_one s x y t u turns (no_turn_left most) (goes few went) = absurd (omega (arith, few, most))
go_one s x y t u turns (no_turn_left most) (no_turn_left most') = (refl, refl)

answers_one : (s : HeldSession) (x y : List ℕ) (t u : HeldSession) (command : DebugCommand) → Answers command s x t → Answers command s y u → (x ≡ y) × (t ≡ u)
answers_one s x y t u (Step pick) a b = step_one s x y t u pick a b
answers_one s x y t u (Go turns) a b = go_one s x y t u turns a b
answers_one s x y t u (Break place) a b =
    let machine : t.machine ≡ u.machine = a.1 ∙ sym b.1 in
    let breaks : t.breaks ≡ u.breaks = adds_one place s.breaks t.breaks u.breaks a.2 b.2 in
    (a.0 ∙ sym b.0, λ i. record { machine = machine i; breaks = breaks i })
answers_one s x y t u (Registers side) a b = (a.0 ∙ sym b.0, a.1 ∙ sym b.1)
answers_one s x y t u Queues a b = (a.0 ∙ sym b.0, a.1 ∙ sym b.1)
answers_one s x y t u Stores a b = (a.0 ∙ sym b.0, a.1 ∙ sym b.1)
answers_one s x y t u (Memory shown) a b = (a.0 ∙ sym b.0, a.1 ∙ sym b.1)
answers_one s x y t u Quit a b = absurd a

-- ---- a script

pub one_script : (s t u : HeldSession) (commands : List (Option DebugCommand)) (xs ys : List (List ℕ)) → Replies s commands xs t → Replies s commands ys u → (xs ≡ ys) × (t ≡ u)
one_script s t u [] xs ys no_line no_line = (refl, refl)
one_script s t u (None ∷ later) xs ys (no_command {texts = ts} r) (no_command {texts = us} q) =
    let same = one_script s t u later ts us r q in
    (ap (λ (l : List (List ℕ)). codes "bad command\n" ∷ l) same.0, same.1)
one_script s t u (Some c ∷ later) xs ys quits quits = (refl, refl)
one_script s t u (Some c ∷ later) xs ys quits (replies a q) = absurd a
one_script s t u (Some c ∷ later) xs ys (replies a r) quits = absurd a
one_script s t u (Some c ∷ later) xs ys (replies {t = v} {text = x} {texts = ts} a r) (replies {t = w} {text = y} {texts = us} b q) =
    let here = answers_one s x y v w c a b in
    let same = one_script w t u later ts us (subst (λ (z : HeldSession). Replies z later ts t) here.1 r) q in
    (ap (λ (z : List ℕ). z ∷ ts) here.0 ∙ ap (λ (l : List (List ℕ)). y ∷ l) same.0, same.1)
