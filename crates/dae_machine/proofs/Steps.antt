-- What a step makes of the parts of a machine.
use Rattle.std.proofs.Common.{◌≡◌, ℕ, ◌+◌, Bool, List, [], length, true, false, refl, ap, sym, ◌∙◌, subst}
use Rattle.std.specs.Prelude.{Option, Some, None, IsSome, is_some, option_map}
use Rattle.dae_base.specs.declared.Side.{Side}
use Rattle.dae_base.specs.declared.Side.TheVariants.{A, E}
use Rattle.dae_base.proofs.Laws.{some_of, none_of}
use Rattle.dae_encode.specs.Processor.{Processor, request}
use Rattle.dae_core.specs.declared.CoreAnswer.{CoreAnswer}
use Rattle.dae_core.specs.declared.CoreAnswer.TheVariants.{Did, Halted as IsHalted}
use Rattle.dae_core.specs.Held.{HeldCore, HeldQueues, IsSame}
use Rattle.dae_core.specs.Moves.{answered_by, granted_by, unprinted, Came, Tells}
use Rattle.dae_machine.specs.declared.Pick.{Pick}
use Rattle.dae_machine.specs.declared.Pick.TheVariants.{A as MoveA, E as MoveE, Fill}
use Rattle.dae_core.specs.Queues.{loads_of, with_loads_of}
use Rattle.dae_queues.specs.Lists.{with_value}
use Rattle.dae_machine.specs.Answers.{answer, is_done}
use Rattle.dae_machine.specs.Machine.{Setup, State, filled, step}
use Rattle.dae_machine.specs.Memory.{fill, filling}
use Rattle.dae_machine.specs.Held.{AreCounted, HeldMachine, IsSound, is_plain, seen}
use Rattle.dae_machine.proofs.Moves.{opens, fronts, afters, answer_is, a_moved, a_told, e_moved, e_told, tells_same, ToldBy}
use Rattle.dae_machine.proofs.Kept.{counted_after, counted_filled, unplain_after}

-- a processor that is the same but for its state, which didn't change either
same_core : (c c' : HeldCore) → IsSame c c' → c'.processor ≡ c.processor → c' ≡ c
same_core c c' s e =
    ap (λ (x : Side). record { side = x; copies = c'.copies; code = c'.code; processor = c'.processor }) s.side
    ∙ ap (λ (x : Bool). record { side = c.side; copies = x; code = c'.code; processor = c'.processor }) s.copies
    ∙ ap (λ (x : List ℕ). record { side = c.side; copies = c.copies; code = x; processor = c'.processor }) s.code
    ∙ ap (λ (x : Processor). record { side = c.side; copies = c.copies; code = c.code; processor = x }) e

-- the parts of a machine after a step of this machine, which printed this
pub record Moved (m : HeldMachine) (pick : Pick) (piece : List ℕ) (a e : HeldCore) (q : HeldQueues) (memory : List ℕ) (taken : ℕ) : Type 0 where
  pub sound : IsSound a e q memory taken
  pub setup : (seen a e q memory taken).setup ≡ m.setup
  pub state : step m.setup m.state pick ≡ Some (record (seen a e q memory taken).state { printed = piece })

-- what a processor tells of the step of its core
abbrev pub ToldOf : ℕ → HeldCore → HeldQueues → CoreAnswer → HeldCore → HeldQueues → Type 0
ToldOf size c q answer c' q' =
    Tells answer (granted_by opens fronts afters c.side c.processor q (request c.copies c.side c.code size c.processor)) c.processor q c'.processor q'

-- what a try of a core came to, as an answer
abbrev pub CameTo : ℕ → HeldCore → HeldQueues → Option (List ℕ) → HeldCore → HeldQueues → Type 0
CameTo size c q tried c' q' =
    Came tried (granted_by opens fronts afters c.side c.processor q (request c.copies c.side c.code size c.processor)) c.processor q c'.processor q'

abbrev pub answer_of : Option (List ℕ) → CoreAnswer
answer_of None = IsHalted
answer_of (Some piece) = Did piece

pub told_by : (size : ℕ) (c c' : HeldCore) (q q' : HeldQueues) (tried : Option (List ℕ)) → CameTo size c q tried c' q' → ToldOf size c q (answer_of tried) c' q'
told_by size c c' q q' None t = t
told_by size c c' q q' (Some piece) t = t

pub done_by : (tried : Option (List ℕ)) → is_done (answer_of tried) ≡ is_some tried
done_by None = refl
done_by (Some piece) = refl

module _ (a e : HeldCore) (q : HeldQueues) (memory : List ℕ) (taken : ℕ) (sound : IsSound a e q memory taken) where
  -- the machine that has these parts
  abbrev whole : HeldMachine
  whole = seen a e q memory taken

  told_a : (answer : CoreAnswer) (a' : HeldCore) (q' : HeldQueues) → ToldOf (length memory) a q answer a' q' → ToldBy whole.setup whole.state A a.processor answer a'.processor q'
  told_a answer a' q' told = rw (← sound.on_a) told

  told_e : (answer : CoreAnswer) (e' : HeldCore) (q' : HeldQueues) → ToldOf (length memory) e q answer e' q' → ToldBy whole.setup whole.state E e.processor answer e'.processor q'
  told_e answer e' q' told = rw (← sound.on_e, ← sound.same) told

  by_a : (answer : CoreAnswer) (a' : HeldCore) (q' : HeldQueues) → is_some (step whole.setup whole.state MoveA) ≡ true → IsSame a a' → ToldOf (length memory) a q answer a' q' → Moved whole MoveA [] a' e q' memory (taken + 1)
  by_a answer a' q' enabled kept told =
      let found = some_of (step whole.setup whole.state MoveA) enabled in
      let moved = a_moved whole.setup whole.state found.0 a'.processor q' answer found.1 (told_a answer a' q' told) in
      let counted = counted_after whole.setup whole.state found.0 MoveA sound.counted found.1 in
      record {
        sound = record {
          on_a = kept.side ∙ sound.on_a;
          on_e = sound.on_e;
          same = sound.same ∙ sym kept.copies;
          counted = subst (λ (t : State). AreCounted t.queues t.steps) moved.0 counted;
          small = sound.small;
          ends = sound.ends;
        };
        setup = rw (kept.copies, kept.code, moved.1);
        state = found.1 ∙ ap Some moved.0;
      }

  by_e : (answer : CoreAnswer) (e' : HeldCore) (q' : HeldQueues) → is_some (step whole.setup whole.state MoveE) ≡ true → IsSame e e' → ToldOf (length memory) e q answer e' q' → (piece : List ℕ) × (answer ≡ Did piece) × Moved whole MoveE piece a e' q' memory (taken + 1)
  by_e answer e' q' enabled kept told =
      let found = some_of (step whole.setup whole.state MoveE) enabled in
      let moved = e_moved whole.setup whole.state found.0 e'.processor q' answer found.1 (told_e answer e' q' told) in
      let counted = counted_after whole.setup whole.state found.0 MoveE sound.counted found.1 in (
        moved.0,
        moved.1,
        record {
          sound = record {
            on_a = sound.on_a;
            on_e = kept.side ∙ sound.on_e;
            same = kept.copies ∙ sound.same;
            counted = subst (λ (t : State). AreCounted t.queues t.steps) moved.2 counted;
            small = sound.small;
            ends = subst (λ (t : State). is_plain t.e.halt ≡ false) moved.2 (unplain_after whole.setup whole.state found.0 MoveE sound.ends found.1);
          };
          setup = rw (kept.code, moved.3);
          state = found.1 ∙ ap Some moved.2;
        },
      )

module _ (a e : HeldCore) (q : HeldQueues) (memory : List ℕ) (taken : ℕ) (sound : IsSound a e q memory taken) (m : HeldMachine) (is : seen a e q memory taken ≡ m) where
  -- whether a processor has a step is told by what it answers
  a_goes_by : (size : ℕ) (answer : CoreAnswer) (a' : HeldCore) (q' : HeldQueues) → size ≡ length memory → ToldOf size a q answer a' q' → is_some (step m.setup m.state MoveA) ≡ is_done answer
  a_goes_by size answer a' q' same_size told =
      subst (λ (m : HeldMachine). is_some (step m.setup m.state MoveA) ≡ is_done answer) is
      (a_told (seen a e q memory taken).setup (seen a e q memory taken).state a'.processor q' answer (told_a a e q memory taken sound answer a' q' (rw (← same_size) told)))

  e_goes_by : (size : ℕ) (answer : CoreAnswer) (e' : HeldCore) (q' : HeldQueues) → size ≡ length memory → ToldOf size e q answer e' q' → is_some (step m.setup m.state MoveE) ≡ is_done answer
  e_goes_by size answer e' q' same_size told =
      subst (λ (m : HeldMachine). is_some (step m.setup m.state MoveE) ≡ is_done answer) is
      (e_told (seen a e q memory taken).setup (seen a e q memory taken).state e'.processor q' answer (told_e a e q memory taken sound answer e' q' (rw (← same_size) told)))

  pub a_step : (size : ℕ) (answer : CoreAnswer) (a' : HeldCore) (q' : HeldQueues) → size ≡ length memory → IsSame a a' → ToldOf size a q answer a' q' → is_done answer ≡ true → Moved m MoveA [] a' e q' memory (taken + 1)
  a_step size answer a' q' same_size kept told done =
      let enabled = a_goes_by size answer a' q' same_size told ∙ done in
      subst (λ (m : HeldMachine). Moved m MoveA [] a' e q' memory (taken + 1)) is
      (by_a a e q memory taken sound answer a' q' (subst (λ (m : HeldMachine). is_some (step m.setup m.state MoveA) ≡ true) (sym is) enabled) kept (rw (← same_size) told))

  pub e_step : (size : ℕ) (answer : CoreAnswer) (piece : List ℕ) (e' : HeldCore) (q' : HeldQueues) → size ≡ length memory → IsSame e e' → ToldOf size e q answer e' q' → answer ≡ Did piece → Moved m MoveE piece a e' q' memory (taken + 1)
  e_step size answer piece e' q' same_size kept told did =
      let enabled = e_goes_by size answer e' q' same_size told ∙ ap is_done did in
      let moved = by_e a e q memory taken sound answer e' q' (subst (λ (m : HeldMachine). is_some (step m.setup m.state MoveE) ≡ true) (sym is) enabled) kept (rw (← same_size) told) in
      let same : moved.0 ≡ piece = cc (moved.1, did) in
      subst (λ (m : HeldMachine). Moved m MoveE piece a e' q' memory (taken + 1)) is (subst (λ (p : List ℕ). Moved (seen a e q memory taken) MoveE p a e' q' memory (taken + 1)) same moved.2)

  -- where it has none nothing changes
  pub a_stay : (size : ℕ) (answer : CoreAnswer) (a' : HeldCore) (q' : HeldQueues) → size ≡ length memory → IsSame a a' → ToldOf size a q answer a' q' → is_done answer ≡ false → (step m.setup m.state MoveA ≡ None) × (seen a' e q' memory taken ≡ m)
  a_stay size answer a' q' same_size kept told done =
      let stayed = tells_same answer _ a.processor a'.processor q q' told done in
      (none_of _ (a_goes_by size answer a' q' same_size told ∙ done), ap (λ (z : HeldCore). seen z e q' memory taken) (same_core a a' kept stayed.0) ∙ ap (λ (z : HeldQueues). seen a e z memory taken) stayed.1 ∙ is)

  pub e_stay : (size : ℕ) (answer : CoreAnswer) (e' : HeldCore) (q' : HeldQueues) → size ≡ length memory → IsSame e e' → ToldOf size e q answer e' q' → is_done answer ≡ false → (step m.setup m.state MoveE ≡ None) × (seen a e' q' memory taken ≡ m)
  e_stay size answer e' q' same_size kept told done =
      let stayed = tells_same answer _ e.processor e'.processor q q' told done in
      (none_of _ (e_goes_by size answer e' q' same_size told ∙ done), ap (λ (z : HeldCore). seen a z q' memory taken) (same_core e e' kept stayed.0) ∙ ap (λ (z : HeldQueues). seen a e z memory taken) stayed.1 ∙ is)

  -- what the processors would answer
  pub a_look : (size : ℕ) → size ≡ length memory → unprinted (answered_by opens fronts a.side a.processor q (request a.copies a.side a.code size a.processor)) ≡ answer m.setup m.state A
  a_look size same_size = subst (λ (m : HeldMachine). unprinted (answered_by opens fronts a.side a.processor q (request a.copies a.side a.code size a.processor)) ≡ answer m.setup m.state A) is (rw (same_size, sound.on_a) (answer_is (seen a e q memory taken).setup (seen a e q memory taken).state A))

  pub e_look : (size : ℕ) → size ≡ length memory → unprinted (answered_by opens fronts e.side e.processor q (request e.copies e.side e.code size e.processor)) ≡ answer m.setup m.state E
  e_look size same_size = subst (λ (m : HeldMachine). unprinted (answered_by opens fronts e.side e.processor q (request e.copies e.side e.code size e.processor)) ≡ answer m.setup m.state E) is (rw (same_size, sound.on_e, sound.same) (answer_is (seen a e q memory taken).setup (seen a e q memory taken).state E))

-- a fill keeps what is true of every machine
pub fill_sound : (a e : HeldCore) (q : HeldQueues) (memory : List ℕ) (taken : ℕ) (side : Side) (n w : ℕ) → IsSound a e q memory taken → IsSound a e (record q { queues = with_loads_of side (with_value n w (loads_of side q.queues).slots) q.queues }) memory (taken + 1)
fill_sound a e q memory taken side n w s = record { on_a = s.on_a; on_e = s.on_e; same = s.same; counted = counted_filled side n w q.queues taken s.counted; small = s.small; ends = s.ends }

-- where a fill is a step, its slot may be filled
under : {X Y : Type 0} (o : Option X) (f : X → Y) → IsSome (option_map f o) → IsSome o
under None f h = h
under (Some x) f h = refl

pub fill_enabled : (setup : Setup) (s : State) (side : Side) (n : ℕ) → IsSome (step setup s (Fill side n)) → IsSome (filling side n s.queues s.memory)
fill_enabled setup s side n h = under (filling side n s.queues s.memory) _ (under (fill side n s.queues s.memory) (filled s) h)
