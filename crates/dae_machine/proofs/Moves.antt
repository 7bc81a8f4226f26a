-- One step of a processor over the machine's queues is one step of the machine.
use Rattle.std.proofs.Common.{◌≡◌, ℕ, ◌+◌, Bool, true, false, List, ◌++◌, refl, ap, sym, ◌∙◌}
use Rattle.std.specs.Prelude.{Option, Some, None, is_some, option_map, if◌then◌else◌}
use Rattle.dae_base.proofs.Laws.{map_some_is, some_map}
use Rattle.dae_base.specs.declared.Side.{Side}
use Rattle.dae_base.specs.declared.Side.TheVariants.{A, E}
use Rattle.dae_base.specs.declared.Queue.{Queue}
use Rattle.dae_base.specs.declared.Depths.{Depths}
use Rattle.dae_encode.specs.declared.QueueUse.{QueueUse}
use Rattle.dae_encode.specs.declared.QueueUse.TheVariants.{Nothing, Take, Push, Load, StoreAddress}
use Rattle.dae_encode.specs.declared.Request.{Request}
use Rattle.dae_encode.specs.declared.Request.TheVariants.{Halted, Faulty, Asks}
use Rattle.dae_encode.specs.Instructions.{form}
use Rattle.dae_encode.specs.Processor.{Processor, After, request, finish}
use Rattle.dae_core.specs.declared.CoreAnswer.{CoreAnswer}
use Rattle.dae_core.specs.declared.CoreAnswer.TheVariants.{Did, Waits, Halted as IsHalted, Faulted}
use Rattle.dae_core.specs.Held.{HeldQueues}
use Rattle.dae_core.specs.Moves.{answered_by, finished, offered_by, granted_by, unprinted, waits, Tells}
use Rattle.dae_core.specs.Queues.{Queues, commit, front, peek, ready}
use Rattle.dae_machine.specs.declared.Pick.TheVariants.{A as MoveA, E as MoveE}
use Rattle.dae_machine.specs.Answers.{answer, is_done, processor}
use Rattle.dae_machine.specs.Machine.{Setup, State, code, granted, move, moved_a, moved_e, step}

-- the queues as a processor sees them
abbrev pub opens : HeldQueues → QueueUse → Bool
opens h access = ready h.depths access h.queues

abbrev pub fronts : HeldQueues → Queue → Option ℕ
fronts h queue = front queue h.queues

abbrev pub afters : HeldQueues → QueueUse → ℕ → HeldQueues
afters h access word = record h { queues = commit access word h.queues }

abbrev pub held : Depths → Queues → HeldQueues
held d q = record { depths = d; queues = q }

given_is : (h : HeldQueues) (u : QueueUse) → offered_by fronts h u ≡ peek u h.queues
given_is h Nothing = refl
given_is h (Take k) = refl
given_is h (Push k) = refl
given_is h (Load k kind) = refl
given_is h (StoreAddress width) = refl

map_if : {X Y Z : Type 0} (b : Bool) (f : X → Y) (g : Y → Z) (o : Option X) → (if b then option_map (λ (x : X). g (f x)) o else None) ≡ option_map g (if b then option_map f o else None)
map_if true f g None = refl
map_if true f g (Some x) = refl
map_if false f g o = refl

-- the same queues with these depths
abbrev pub put_back : Depths → After × Queues → After × HeldQueues
put_back d r = (r.0, held d r.1)

pub granted_is : (d : Depths) (side : Side) (p : Processor) (q : Queues) (asked : Request) → granted_by opens fronts afters side p (held d q) asked ≡ option_map (put_back d) (granted d side p q asked)
granted_is d side p q Halted = refl
granted_is d side p q (Faulty fault) = refl
granted_is d side p q (Asks u w i) =
    rw (given_is (held d q) u) (map_if (ready d u q) (λ (r : After). (r, commit u w q)) (put_back d) (finish side p u i (form i) (peek u q)))

-- the answer of a move that was granted
told_some : {Q : Type 0} (answer : CoreAnswer) (came : Option (After × Q)) (r : After × Q) (p p' : Processor) (q q' : Q) → came ≡ Some r → Tells answer came p q p' q' → (answer ≡ Did r.0.1) × (p' ≡ r.0.0) × (q' ≡ r.1)
told_some (Did piece) came r p p' q q' e t = let same : r ≡ ((p', piece), q') = cc in (ap (λ (z : After × _). Did z.0.1) (sym same), ap (λ (z : After × _). z.0.0) (sym same), ap (λ (z : After × _). z.1) (sym same))
told_some (Waits k) came r p p' q q' e t = absurd (cc (e, t.0))
told_some IsHalted came r p p' q q' e t = absurd (cc (e, t.0))
told_some (Faulted fault) came r p p' q q' e t = absurd (cc (e, t.0))

module _ (setup : Setup) (s : State) where
  abbrev pub asked_by : Side → Processor → Request
  asked_by side p = request setup.copies side (code setup side) setup.memory p

  abbrev pub ToldBy : Side → Processor → CoreAnswer → Processor → HeldQueues → Type 0
  ToldBy side p answer p' h' =
      Tells answer (granted_by opens fronts afters side p (held setup.depths s.queues) (asked_by side p)) p (held setup.depths s.queues) p' h'

  told_move : (side : Side) (p p' : Processor) (h' : HeldQueues) (answer : CoreAnswer) (r : After × Queues) → move setup side p s.queues ≡ Some r → ToldBy side p answer p' h' → (answer ≡ Did r.0.1) × (p' ≡ r.0.0) × (h' ≡ held setup.depths r.1)
  told_move side p p' h' answer r e t =
      let came = granted_is setup.depths side p s.queues (asked_by side p) ∙ ap (option_map (put_back setup.depths)) e in
      told_some answer _ (put_back setup.depths r) p p' (held setup.depths s.queues) h' came t

  -- where A has a step, its answer tells the state after it
  pub a_moved : (t : State) (p' : Processor) (h' : HeldQueues) (answer : CoreAnswer) → step setup s MoveA ≡ Some t → ToldBy A s.a answer p' h' → (t ≡ record s { a = p'; queues = h'.queues; steps = s.steps + 1 }) × (h'.depths ≡ setup.depths)
  a_moved t p' h' answer e told =
      let x = map_some_is (moved_a s) (move setup A s.a s.queues) t e in
      let m = told_move A s.a p' h' answer x.0 x.1 told in
      (rw (m.1, m.2) (sym x.2), ap (λ (h : HeldQueues). h.depths) m.2)

  -- where E has a step, its answer tells the state after it, and what it printed
  pub e_moved : (t : State) (p' : Processor) (h' : HeldQueues) (answer : CoreAnswer) → step setup s MoveE ≡ Some t → ToldBy E s.e answer p' h' → (piece : List ℕ) × (answer ≡ Did piece) × (t ≡ record s { e = p'; queues = h'.queues; printed = s.printed ++ piece; steps = s.steps + 1 }) × (h'.depths ≡ setup.depths)
  e_moved t p' h' answer e told =
      let x = map_some_is (moved_e s) (move setup E s.e s.queues) t e in
      let m = told_move E s.e p' h' answer x.0 x.1 told in
      (x.0.0.1, m.0, rw (m.1, m.2) (sym x.2), ap (λ (h : HeldQueues). h.depths) m.2)

-- ---- whether a processor has a step, and that nothing changes where it has none

tells_done : {Q : Type 0} (answer : CoreAnswer) (came : Option (After × Q)) (p p' : Processor) (q q' : Q) → Tells answer came p q p' q' → is_some came ≡ is_done answer
tells_done (Did piece) came p p' q q' t = ap is_some t
tells_done (Waits k) came p p' q q' t = ap is_some t.0
tells_done IsHalted came p p' q q' t = ap is_some t.0
tells_done (Faulted fault) came p p' q q' t = ap is_some t.0

pub tells_same : {Q : Type 0} (answer : CoreAnswer) (came : Option (After × Q)) (p p' : Processor) (q q' : Q) → Tells answer came p q p' q' → is_done answer ≡ false → (p' ≡ p) × (q' ≡ q)
tells_same (Did piece) came p p' q q' t h = cc
tells_same (Waits k) came p p' q q' t h = (t.1, t.2)
tells_same IsHalted came p p' q q' t h = (t.1, t.2)
tells_same (Faulted fault) came p p' q q' t h = (t.1, t.2)

module _ (setup : Setup) (s : State) where
  told_done : (side : Side) (p p' : Processor) (h' : HeldQueues) (answer : CoreAnswer) → ToldBy setup s side p answer p' h' → is_some (move setup side p s.queues) ≡ is_done answer
  told_done side p p' h' answer told =
      sym (some_map (put_back setup.depths) (move setup side p s.queues))
      ∙ ap is_some (sym (granted_is setup.depths side p s.queues (asked_by setup s side p)))
      ∙ tells_done answer _ p p' (held setup.depths s.queues) h' told

  pub a_told : (p' : Processor) (h' : HeldQueues) (answer : CoreAnswer) → ToldBy setup s A s.a answer p' h' → is_some (step setup s MoveA) ≡ is_done answer
  a_told p' h' answer told = some_map (moved_a s) (move setup A s.a s.queues) ∙ told_done A s.a p' h' answer told

  pub e_told : (p' : Processor) (h' : HeldQueues) (answer : CoreAnswer) → ToldBy setup s E s.e answer p' h' → is_some (step setup s MoveE) ≡ is_done answer
  e_told p' h' answer told = some_map (moved_e s) (move setup E s.e s.queues) ∙ told_done E s.e p' h' answer told

-- ---- what a processor would answer

unprinted_done : (answer : CoreAnswer) → is_done (unprinted answer) ≡ is_done answer
unprinted_done (Did piece) = refl
unprinted_done (Waits k) = refl
unprinted_done IsHalted = refl
unprinted_done (Faulted fault) = refl

waits_done : (d : Depths) (u : QueueUse) (q : Queues) → ready d u q ≡ false → is_done (waits u) ≡ false
waits_done d Nothing q h = cc
waits_done d (Take k) q h = refl
waits_done d (Push k) q h = refl
waits_done d (Load k kind) q h = refl
waits_done d (StoreAddress width) q h = refl

answer_done_by : (d : Depths) (u : QueueUse) (q : Queues) (b : Bool) (o : Option After) (f : After → After × Queues) → ready d u q ≡ b → is_done (if b then finished o else waits u) ≡ is_some (if b then option_map f o else None)
answer_done_by d u q true None f h = refl
answer_done_by d u q true (Some r) f h = refl
answer_done_by d u q false o f h = waits_done d u q h

answer_done : (d : Depths) (side : Side) (p : Processor) (q : Queues) (asked : Request) → is_done (answered_by opens fronts side p (held d q) asked) ≡ is_some (granted d side p q asked)
answer_done d side p q Halted = refl
answer_done d side p q (Faulty fault) = refl
answer_done d side p q (Asks u w i) =
    rw (given_is (held d q) u) (answer_done_by d u q (ready d u q) (finish side p u i (form i) (peek u q)) (λ (r : After). (r, commit u w q)) refl)

answered_is : (d : Depths) (side : Side) (p : Processor) (q : Queues) (asked : Request) → answered_by opens fronts side p (held d q) asked ≡ answered_by (λ (q : Queues) (access : QueueUse). ready d access q) (λ (q : Queues) (queue : Queue). front queue q) side p q asked
answered_is d side p q Halted = refl
answered_is d side p q (Faulty fault) = refl
answered_is d side p q (Asks u w i) = rw (given_is (held d q) u) refl

-- what a processor answers over the queues with their depths
pub answer_is : (setup : Setup) (s : State) (side : Side) → unprinted (answered_by opens fronts side (processor side s) (held setup.depths s.queues) (asked_by setup s side (processor side s))) ≡ answer setup s side
answer_is setup s side =
    ap unprinted (answered_is setup.depths side (processor side s) s.queues (asked_by setup s side (processor side s)))

-- a processor has a step exactly where it answers that it would do one
pub a_goes : (setup : Setup) (s : State) → is_done (answer setup s A) ≡ is_some (step setup s MoveA)
a_goes setup s =
    ap is_done (sym (answer_is setup s A))
    ∙ unprinted_done _
    ∙ answer_done setup.depths A s.a s.queues (asked_by setup s A s.a)
    ∙ sym (some_map (moved_a s) (move setup A s.a s.queues))

pub e_goes : (setup : Setup) (s : State) → is_done (answer setup s E) ≡ is_some (step setup s MoveE)
e_goes setup s =
    ap is_done (sym (answer_is setup s E))
    ∙ unprinted_done _
    ∙ answer_done setup.depths E s.e s.queues (asked_by setup s E s.e)
    ∙ sym (some_map (moved_e s) (move setup E s.e s.queues))
