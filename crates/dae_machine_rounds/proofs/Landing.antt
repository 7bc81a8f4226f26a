-- The states of the machine between rounds, and how a stretch of a pair lands.
use Rattle.std.proofs.Common.{◌≡◌, ℕ, ◌+◌, ◌*◌, ◌≤◌, ◌⊎◌, inl, inr, List, ◌++◌, length, refl, ap, sym, ◌∙◌, subst, append_assoc, length-append, arith}
use Rattle.std.specs.Prelude.{Some}
use Rattle.std.proofs.Math.Nat.{mul-add}
use Rattle.dae_base.specs.Words.{AreBytes}
use Rattle.dae_encode.specs.declared.Halt.{Halt}
use Rattle.dae_encode.specs.declared.Halt.TheVariants.{Status, Trap}
use Rattle.dae_encode.specs.Processor.{Processor}
use Rattle.dae_machine.specs.declared.Pick.{Pick}
use Rattle.dae_machine.specs.Runs.{often}
use Rattle.dae_machine.specs.Ends.{is_a, is_e, AwaitsMessage}
use Rattle.dae_machine.specs.Machine.{Setup, State, step, Runs, IsFinal}
use Rattle.dae_machine.proofs.LawsOfRuns.{run-on}
use Rattle.dae_meaning.specs.Worlds.{World}
use Rattle.dae_meaning.specs.Results.{Result, At, Over, Way, Next, Leaves, Skips, Returns, Halted as HaltedWith, Trapped, Going, Astray}
use Rattle.dae_ir.specs.Code.{Done}
use Rattle.dae_ir.specs.Canonical.{Sides}
use Rattle.dae_ir.specs.Streams.{Actions}
use Rattle.dae_machine.proofs.LawsOfRuns.{often-append}
use Rattle.dae_machine_rounds.specs.Spots.{Behind, Ends, Point, point, left, skipped, HeldCall, Spot, spot}
use Rattle.dae_machine_rounds.specs.Order.{picks_of, PickRounds, none, more, InOrder}
use Rattle.dae_machine_rounds.proofs.Slots.{Counts, resting}

-- as many loads were taken as reserved
abbrev pub level : Counts → Counts
level c = record c { ld_taken = c.ld_reserved }

-- both points to which each way leads from code with ka and ke behind it
abbrev pub exits : Actions → Behind → Actions → Behind → Way → Point × Point
exits ka ba ke be Next = (point ka ba, point ke be)
exits ka ba ke be Leaves = (left ba, left be)
exits ka ba ke be Skips = (skipped ba, skipped be)
exits ka ba ke be Returns = (point Done Ends, point Done Ends)

-- a Continue takes E an instruction
abbrev pub least_of : Way → ℕ
least_of Next = 0
least_of Leaves = 0
least_of Skips = 1
least_of Returns = 0

-- the memory has its size, and bytes
pub record IsSound (setup : Setup) (w : World) : Type 0 where
  pub size : length w.memory ≡ setup.memory
  pub bytes : AreBytes w.memory

module _ (setup : Setup) (most : ℕ) (At_a At_e : Spot → Processor → Type 0) where
  -- both sides have come so far, nothing is in the queues, and memory and output are the world's
  pub record Stands (at : Point × Point) (ca ce : List HeldCall) (b : Sides) (w : World) (s : State) : Type 0 where
    pub a : At_a (spot at.0 b.a w ca) s.a
    pub e : At_e (spot at.1 b.e w ce) s.e
    pub counts : Counts
    pub queues : s.queues ≡ resting (level counts)
    pub memory : s.memory ≡ w.memory
    pub printed : s.printed ≡ w.printed

  -- whole rounds lead there. The account began with base, and 8 are added for each item
  pub record Arrived (s : State) (base : ℕ) (least : ℕ) (at : Point × Point) (ca ce : List HeldCall) (b : Sides) (w' : World) : Type 0 where
    pub state : State
    pub picks : List Pick
    pub rounds : PickRounds setup s picks state
    pub units : ℕ
    pub few : length picks ≤ most * units
    pub cost : units + base ≤ 8 * w'.items
    pub some : least ≤ often is_e picks
    pub stands : Stands at ca ce b w' state
    pub sound : IsSound setup w'

  -- rounds lead to a final state
  pub record Ended (s : State) (base : ℕ) (halt : Halt) (w' : World) : Type 0 where
    pub state : State
    pub picks : List Pick
    pub order : InOrder setup s picks state
    pub units : ℕ
    pub few : length picks ≤ most * units
    pub cost : units + base ≤ 8 * w'.items
    pub final : IsFinal setup state
    pub halt' : state.e.halt ≡ Some halt
    pub memory : state.memory ≡ w'.memory
    pub printed : state.printed ≡ w'.printed

  -- rounds lead on: E makes at least n steps, or A makes as many as the bound while E waits for its message
  pub record GoesOn (s : State) (base : ℕ) (bound n : ℕ) (w' : World) : Type 0 where
    pub state : State
    pub picks : List Pick
    pub order : InOrder setup s picks state
    pub units : ℕ
    pub few : length picks ≤ most * units
    pub cost : units + base ≤ 8 * w'.items + 24
    pub moves : (n ≤ often is_e picks) ⊎ ((bound ≤ often is_a picks) × AwaitsMessage setup state)
    pub printed : state.printed ≡ w'.printed

  abbrev pub Lands : State → ℕ → ℕ → ℕ → (Way → Point × Point) → List HeldCall → List HeldCall → Result Sides → Type 0
  Lands s base bound n go ca ce (At way b w') = Arrived s base (least_of way) (go way) ca ce b w'
  Lands s base bound n go ca ce (Over (HaltedWith x) w') = Ended s base (Status x) w'
  Lands s base bound n go ca ce (Over (Trapped code) w') = Ended s base (Trap code) w'
  Lands s base bound n go ca ce (Over Going w') = GoesOn s base bound n w'
  Lands s base bound n go ca ce (Over Astray w') = Unit {0}

-- ---- rounds, one after the other

pub rounds-append : {setup : Setup} {s t u : State} {ps qs : List Pick} → PickRounds setup s ps t → PickRounds setup t qs u → PickRounds setup s (ps ++ qs) u
rounds-append (none e) y = y
rounds-append {setup} {s} {u = u} {qs = qs} (more {ps = ps} r is e h x) y = subst (λ (zs : List Pick). PickRounds setup s zs u) (sym (append_assoc (picks_of r) ps qs)) (more r is e h (rounds-append x y))

pub rounds_run : {setup : Setup} {s t : State} {ps : List Pick} → PickRounds setup s ps t → Runs setup s ps t
rounds_run (none e) = refl
rounds_run {setup} {s} (more {t = t} {u = u} {ps = ps} r is e h x) = run-on (step setup) s t u (picks_of r) ps h (rounds_run x)

pub order_run : {setup : Setup} {s t : State} {ps : List Pick} → InOrder setup s ps t → Runs setup s ps t
order_run {setup} {s} {t} o = subst (λ (zs : List Pick). Runs setup s zs t) o.all (run-on (step setup) s o.between t o.whole o.last (rounds_run o.rounds) o.runs)

-- rounds, and then a run in order
pub then_order : {setup : Setup} {s t u : State} {ps qs : List Pick} → PickRounds setup s ps t → InOrder setup t qs u → InOrder setup s (ps ++ qs) u
then_order {ps = ps} x o = record {
  whole = ps ++ o.whole;
  between = o.between;
  rounds = rounds-append x o.rounds;
  last = o.last;
  round = o.round;
  is_round = o.is_round;
  rest = o.rest;
  front = o.front;
  runs = o.runs;
  all = append_assoc ps o.whole o.last ∙ ap (λ (zs : List Pick). ps ++ zs) o.all;
}

module _ {setup : Setup} {most : ℕ} {At_a At_e : Spot → Processor → Type 0} where
  -- a stretch that has arrived somewhere, and what lands from there: of the account, d is left for the way there
  pub then_lands : (s : State) (base d base0 base1 bound k j j' : ℕ) (at : Point × Point) (go : Way → Point × Point) (ca ce ca' ce' : List HeldCall) (b : Sides) (w1 : World) (r : Result Sides) → base + d ≤ base0 → 8 * w1.items ≤ base1 + d → j' ≤ k + j → (x : Arrived setup most At_a At_e s base0 k at ca' ce' b w1)
      → Lands setup most At_a At_e x.state base1 bound j go ca ce r → Lands setup most At_a At_e s base bound j' go ca ce r
  then_lands s base d base0 base1 bound k j j' at go ca ce ca' ce' b w1 (At way b' w') h i l x y =
      let lengths = length-append x.picks y.picks in
      let oftens = often-append is_e x.picks y.picks in
      let product = mul-add most x.units y.units in
      let a0 = x.few in let a1 = y.few in let a2 = x.cost in let a3 = y.cost in let a4 = y.some in
      record { state = y.state; picks = x.picks ++ y.picks; rounds = rounds-append x.rounds y.rounds; units = x.units + y.units; few = omega arith; cost = omega arith; some = omega arith; stands = y.stands; sound = y.sound }
  then_lands s base d base0 base1 bound k j j' at go ca ce ca' ce' b w1 (Over (HaltedWith c) w') h i l x y =
      let lengths = length-append x.picks y.picks in
      let product = mul-add most x.units y.units in
      let a0 = x.few in let a1 = y.few in let a2 = x.cost in let a3 = y.cost in
      record { state = y.state; picks = x.picks ++ y.picks; order = then_order x.rounds y.order; units = x.units + y.units; few = omega arith; cost = omega arith; final = y.final; halt' = y.halt'; memory = y.memory; printed = y.printed }
  then_lands s base d base0 base1 bound k j j' at go ca ce ca' ce' b w1 (Over (Trapped c) w') h i l x y =
      let lengths = length-append x.picks y.picks in
      let product = mul-add most x.units y.units in
      let a0 = x.few in let a1 = y.few in let a2 = x.cost in let a3 = y.cost in
      record { state = y.state; picks = x.picks ++ y.picks; order = then_order x.rounds y.order; units = x.units + y.units; few = omega arith; cost = omega arith; final = y.final; halt' = y.halt'; memory = y.memory; printed = y.printed }
  then_lands s base d base0 base1 bound k j j' at go ca ce ca' ce' b w1 (Over Going w') h i l x y =
      let lengths = length-append x.picks y.picks in
      let oftens = often-append is_e x.picks y.picks in
      let oftens_a = often-append is_a x.picks y.picks in
      let product = mul-add most x.units y.units in
      let a0 = x.few in let a1 = y.few in let a2 = x.cost in let a3 = y.cost in let a4 = x.some in
      record {
        state = y.state;
        picks = x.picks ++ y.picks;
        order = then_order x.rounds y.order;
        units = x.units + y.units;
        few = omega arith;
        cost = omega arith;
        moves = elim (y.moves) [ inl h ↦ inl (omega arith) | inr h ↦ inr (let h0 = h.0 in omega arith, h.1) ];
        printed = y.printed;
      }
  then_lands s base d base0 base1 bound k j j' at go ca ce ca' ce' b w1 (Over Astray w') h i l x y = tt

module _ (setup : Setup) (most : ℕ) (At_a At_e : Spot → Processor → Type 0) where
  -- there is less in the account, and fewer steps of E are claimed
  pub less : (s : State) (base base' bound j j' : ℕ) (go : Way → Point × Point) (ca ce : List HeldCall) (r : Result Sides) → base' ≤ base → j' ≤ j → Lands setup most At_a At_e s base bound j go ca ce r → Lands setup most At_a At_e s base' bound j' go ca ce r
  less s base base' bound j j' go ca ce (At way b w) h i y = let c = y.cost in record { state = y.state; picks = y.picks; rounds = y.rounds; units = y.units; few = y.few; cost = omega arith; some = y.some; stands = y.stands; sound = y.sound }
  less s base base' bound j j' go ca ce (Over (HaltedWith x) w) h i y = let c = y.cost in record { state = y.state; picks = y.picks; order = y.order; units = y.units; few = y.few; cost = omega arith; final = y.final; halt' = y.halt'; memory = y.memory; printed = y.printed }
  less s base base' bound j j' go ca ce (Over (Trapped x) w) h i y = let c = y.cost in record { state = y.state; picks = y.picks; order = y.order; units = y.units; few = y.few; cost = omega arith; final = y.final; halt' = y.halt'; memory = y.memory; printed = y.printed }
  less s base base' bound j j' go ca ce (Over Going w) h i y = let c = y.cost in record { state = y.state; picks = y.picks; order = y.order; units = y.units; few = y.few; cost = omega arith; moves = elim (y.moves) [ inl m ↦ inl (omega arith) | inr m ↦ inr (m.0, m.1) ]; printed = y.printed }
  less s base base' bound j j' go ca ce (Over Astray w) h i y = tt
