-- Code in rounds lands on the machine as it does in canonical order.
use Rattle.std.proofs.Common.{length, ◌≡◌, ℕ, zero, suc, ◌+◌, ◌-◌, ◌*◌, ◌≤◌, inl, Bool, true, false, List, ◌∷◌, Option, Some, None, if◌then◌else◌, refl, ap, subst, arith, []}
use Rattle.dae_base.specs.declared.Place.{Place}
use Rattle.dae_encode.specs.Processor.{Processor}
use Rattle.dae_machine.specs.Machine.{Setup, State}
use Rattle.dae_meaning.specs.Worlds.{World, ticked, back}
use Rattle.dae_meaning.specs.Results.{Result, At, Over, Way, Next, Leaves, Skips, Returns, Halted, Trapped, Going, Astray, Run, ◌▷◌, ◌↻◌, turns, within}
use Rattle.dae_ir.specs.Code.{Done, Do, If, Loop, Each, CodeMeaning, exec}
use Rattle.dae_meaning.specs.Variables.{Env, put, entered}
use Rattle.dae_ir.specs.Form.{called, Form, Program, value, values, fault, ended, deeper, holds}
use Rattle.dae_ir.specs.Classes.{Classes, VariableSet}
use Rattle.dae_ir.specs.Rounds.{Breaks, Continues, Enters, Gives, Halts, Round, Group, Alone, Region, Decision, Rounds}
use Rattle.dae_ir.specs.Canonical.{Sides, PairCalls, canonical, does_round, put_both, entered_both}
use Rattle.dae_ir.specs.Streams.{Actions, mark, side_of, jump_action, arguments_in, kept, region_of}
use Rattle.dae_ir.specs.declared.form.Operand.{Operand}
use Rattle.dae_ir.specs.declared.stream.Mark.{Mark}
use Rattle.dae_ir.specs.declared.stream.Branch.TheVariants.{Tells, Hears}
use Rattle.dae_ir.specs.declared.form.Check.TheVariants.{Room}
use Rattle.dae_machine_rounds.specs.Spots.{turn_least, weight_of, Behind, Ends, After, Body, Turn, Point, point, left, skipped, HeldCall, waits, Spot, spot, put_some, given, with_result, Arrives, Moves, goes_behind, ends_body, ends_step, breaks, continues, enters, calls_it, returns, goes_back}
use Rattle.dae_machine_rounds.specs.Sides.{Implements}
use Rattle.dae_machine_rounds.proofs.Laws.{level, exits, least_of, IsSound, Stands, Arrived, Lands, then_lands, less, rest_empty, GroupFits, group_lands, Part, one_move, control, told_by_a, told_by_e, both_halt}
use Rattle.dae_machine.specs.Walks.{nothing}
use Rattle.dae_machine_rounds.specs.Order.{PickRound as Turn_of, none}
use Rattle.dae_core.specs.Queues.{Queues}
use Rattle.dae_machine_rounds.proofs.Turned.{IsTold, one_is_none, told_group, told_region}

abbrev no_round : Turn_of
no_round = record { access = []; fills = []; execute = []; hears = []; drains = [] }

-- what both sides do with the same result
kept_put : (flag : Bool) (v x : ℕ) (env : Env) → put_some (kept flag v) x env ≡ put flag v x env
kept_put true v x env = refl
kept_put false v x env = refl

kept_result : (flag : Bool) (x : Operand) (env : Env) → with_result (kept flag x) env ≡ put flag 0 (value x env) env
kept_result true x env = refl
kept_result false x env = refl

given_is : (callee : VariableSet) (k : ℕ) (xs : List Operand) (env : Env) → given (arguments_in callee k xs) env ≡ entered callee k (values xs env)
given_is callee k [] env = refl
given_is callee k (x ∷ xs) env = by (callee k) (given_is callee (k + 1) xs env) where
  by : (b : Bool) → given (arguments_in callee (k + 1) xs) env ≡ entered callee (k + 1) (values xs env) → given (if b then record { parameter = k; operand = x } ∷ arguments_in callee (k + 1) xs else arguments_in callee (k + 1) xs) env ≡ put b k (value x env) (entered callee (k + 1) (values xs env))
  by true h = ap (λ (e : Env). put true k (value x env) e) h
  by false h = h

arguments_few : (callee : VariableSet) (k : ℕ) (xs : List Operand) → length (arguments_in callee k xs) ≤ length xs
arguments_few callee k [] = omega arith
arguments_few callee k (x ∷ xs) = by (callee k) (arguments_few callee (k + 1) xs) where
  by : (b : Bool) → length (arguments_in callee (k + 1) xs) ≤ length xs → length (if b then record { parameter = k; operand = x } ∷ arguments_in callee (k + 1) xs else arguments_in callee (k + 1) xs) ≤ length (x ∷ xs)
  by true h = omega arith
  by false h = omega arith

module _ (setup : Setup) (p : Program) (body_a body_e : ℕ → Actions) (most : ℕ) (At_a At_e : Spot → Processor → Type 0) (code_a : Implements setup p true body_a most At_a) (code_e : Implements setup p false body_e most At_e) (positive : 1 ≤ most) (of : ℕ → Classes) (cap n : ℕ) where
  abbrev Lands' : State → ℕ → ℕ → (Way → Point × Point) → List HeldCall → List HeldCall → Result Sides → Type 0
  Lands' s base j go ca ce r = Lands setup most At_a At_e s base n j go ca ce r

  abbrev Stands' : Point × Point → List HeldCall → List HeldCall → Sides → World → State → Type 0
  Stands' = Stands setup most At_a At_e

  abbrev Arrived' : State → ℕ → ℕ → Point × Point → List HeldCall → List HeldCall → Sides → World → Type 0
  Arrived' = Arrived setup most At_a At_e

  stands_ticked : (at : Point × Point) (ca ce : List HeldCall) (b : Sides) (w : World) (s : State) → Stands' at ca ce b w s → Stands' at ca ce b (ticked w) s
  stands_ticked at ca ce b w s h = record { a = h.a; e = h.e; counts = h.counts; queues = h.queues; memory = h.memory; printed = h.printed }

  stands_unticked : (at : Point × Point) (ca ce : List HeldCall) (b : Sides) (w : World) (s : State) → Stands' at ca ce b (ticked w) s → Stands' at ca ce b w s
  stands_unticked at ca ce b w s h = record { a = h.a; e = h.e; counts = h.counts; queues = h.queues; memory = h.memory; printed = h.printed }

  sound_ticked : (w : World) → IsSound setup w → IsSound setup (ticked w)
  sound_ticked w h = record { size = h.size; bytes = h.bytes }

  elsewhere : (s : State) (base base' k : ℕ) (at at' : Point × Point) (ca ce : List HeldCall) (b : Sides) (w : World) → at ≡ at' → base' ≤ base → Arrived' s base k at ca ce b w → Arrived' s base' k at' ca ce b w
  elsewhere s base base' k at at' ca ce b w e h y =
      let c = y.cost in
      record { state = y.state; picks = y.picks; rounds = y.rounds; units = y.units; few = y.few; cost = omega arith; some = y.some; stands = subst (λ (z : Point × Point). Stands' z ca ce b w y.state) e y.stands; sound = y.sound }

  -- one stretch, and then another, with d of the account for the way to it
  bind : (s : State) (base d j : ℕ) (go go' : Way → Point × Point) (ca ce : List HeldCall) (r : Result Sides) (f : Run Sides) → go Leaves ≡ go' Leaves → go Skips ≡ go' Skips → go Returns ≡ go' Returns → Lands' s (base + d) j go ca ce r
      → ((b : Sides) (w : World) (x : Arrived' s (base + d) 0 (go Next) ca ce b w) → Lands' x.state (8 * w.items - d) j go' ca ce (f b w)) → Lands' s base j go' ca ce (r ▷ f)
  bind s base d j go go' ca ce (At Next b w) f l k t x h = let c = x.cost in then_lands s base d (base + d) (8 * w.items - d) n 0 j j (go Next) go' ca ce ca ce b w (f b w) (omega arith) (omega arith) (omega arith) x (h b w x)
  bind s base d j go go' ca ce (At Leaves b w) f l k t x h = elsewhere s (base + d) base 0 _ _ ca ce b w l (omega arith) x
  bind s base d j go go' ca ce (At Skips b w) f l k t x h = elsewhere s (base + d) base 1 _ _ ca ce b w k (omega arith) x
  bind s base d j go go' ca ce (At Returns b w) f l k t x h = elsewhere s (base + d) base 0 _ _ ca ce b w t (omega arith) x
  bind s base d j go go' ca ce (Over (Halted c) w) f l k t x h = less setup most At_a At_e s (base + d) base n j j go' ca ce (Over (Halted c) w) (omega arith) (omega arith) x
  bind s base d j go go' ca ce (Over (Trapped c) w) f l k t x h = less setup most At_a At_e s (base + d) base n j j go' ca ce (Over (Trapped c) w) (omega arith) (omega arith) x
  bind s base d j go go' ca ce (Over Going w) f l k t x h = less setup most At_a At_e s (base + d) base n j j go' ca ce (Over Going w) (omega arith) (omega arith) x
  bind s base d j go go' ca ce (Over Astray w) f l k t x h = tt

  -- the same in a loop
  turn : (s : State) (base d j : ℕ) (go go' : Way → Point × Point) (ca ce : List HeldCall) (r : Result Sides) (f : Run Sides) → go Leaves ≡ go' Next → go Returns ≡ go' Returns → Lands' s (base + d) j go ca ce r
      → ((b : Sides) (w : World) (x : Arrived' s (base + d) 0 (go Next) ca ce b w) → Lands' x.state (8 * w.items - d) j go' ca ce (f b w)) → ((b : Sides) (w : World) (x : Arrived' s (base + d) 1 (go Skips) ca ce b w) → (k : ℕ) × (Lands' x.state (8 * w.items - d) k go' ca ce (f b w)) × (j ≤ 1 + k)) → Lands' s base j go' ca ce (r ↻ f)
  turn s base d j go go' ca ce (At Next b w) f l t x h i = let c = x.cost in then_lands s base d (base + d) (8 * w.items - d) n 0 j j (go Next) go' ca ce ca ce b w (f b w) (omega arith) (omega arith) (omega arith) x (h b w x)
  turn s base d j go go' ca ce (At Leaves b w) f l t x h i = elsewhere s (base + d) base 0 _ _ ca ce b w l (omega arith) x
  turn s base d j go go' ca ce (At Skips b w) f l t x h i = let c = x.cost in let y = i b w x in then_lands s base d (base + d) (8 * w.items - d) n 1 y.0 j (go Skips) go' ca ce ca ce b w (f b w) (omega arith) (omega arith) y.2 x y.1
  turn s base d j go go' ca ce (At Returns b w) f l t x h i = elsewhere s (base + d) base 0 _ _ ca ce b w t (omega arith) x
  turn s base d j go go' ca ce (Over (Halted c) w) f l t x h i = less setup most At_a At_e s (base + d) base n j j go' ca ce (Over (Halted c) w) (omega arith) (omega arith) x
  turn s base d j go go' ca ce (Over (Trapped c) w) f l t x h i = less setup most At_a At_e s (base + d) base n j j go' ca ce (Over (Trapped c) w) (omega arith) (omega arith) x
  turn s base d j go go' ca ce (Over Going w) f l t x h i = less setup most At_a At_e s (base + d) base n j j go' ca ce (Over Going w) (omega arith) (omega arith) x
  turn s base d j go go' ca ce (Over Astray w) f l t x h i = tt

  -- two stretches of a turn, where the second is told of from where the first has come to
  bind_turn : (s : State) (base d j : ℕ) (go go' : Way → Point × Point) (ca ce : List HeldCall) (r : Result Sides) (g f : Run Sides) → go Leaves ≡ go' Next → go Returns ≡ go' Returns → Lands' s (base + d) j go ca ce r
      → ((b : Sides) (w : World) (x : Arrived' s (base + d) 0 (go Next) ca ce b w) → Lands' x.state (8 * w.items - d) j go' ca ce (g b w ↻ f)) → ((b : Sides) (w : World) (x : Arrived' s (base + d) 1 (go Skips) ca ce b w) → (k : ℕ) × (Lands' x.state (8 * w.items - d) k go' ca ce (f b w)) × (j ≤ 1 + k)) → Lands' s base j go' ca ce ((r ▷ g) ↻ f)
  bind_turn s base d j go go' ca ce (At Next b w) g f l t x h i = let c = x.cost in then_lands s base d (base + d) (8 * w.items - d) n 0 j j (go Next) go' ca ce ca ce b w (g b w ↻ f) (omega arith) (omega arith) (omega arith) x (h b w x)
  bind_turn s base d j go go' ca ce (At Leaves b w) g f l t x h i = elsewhere s (base + d) base 0 _ _ ca ce b w l (omega arith) x
  bind_turn s base d j go go' ca ce (At Skips b w) g f l t x h i = let c = x.cost in let y = i b w x in then_lands s base d (base + d) (8 * w.items - d) n 1 y.0 j (go Skips) go' ca ce ca ce b w (f b w) (omega arith) (omega arith) y.2 x y.1
  bind_turn s base d j go go' ca ce (At Returns b w) g f l t x h i = elsewhere s (base + d) base 0 _ _ ca ce b w t (omega arith) x
  bind_turn s base d j go go' ca ce (Over (Halted c) w) g f l t x h i = less setup most At_a At_e s (base + d) base n j j go' ca ce (Over (Halted c) w) (omega arith) (omega arith) x
  bind_turn s base d j go go' ca ce (Over (Trapped c) w) g f l t x h i = less setup most At_a At_e s (base + d) base n j j go' ca ce (Over (Trapped c) w) (omega arith) (omega arith) x
  bind_turn s base d j go go' ca ce (Over Going w) g f l t x h i = less setup most At_a At_e s (base + d) base n j j go' ca ce (Over Going w) (omega arith) (omega arith) x
  bind_turn s base d j go go' ca ce (Over Astray w) g f l t x h i = tt

  -- ---- what is to be shown of calls and of regions

  abbrev pub ends_at : Way → Point × Point
  ends_at way = (point Done Ends, point Done Ends)

  -- a call of a function lands at its end
  abbrev pub CallsLand : PairCalls → Type 0
  CallsLand calls = (f : ℕ) (xs ys : List ℕ) (w : World) (s : State) (ca ce : List HeldCall) → Stands' (point (body_a f) Ends, point (body_e f) Ends) ca ce (entered_both (of f) xs ys) (deeper p f w) s → IsSound setup w
      → Lands' s (8 * w.items) n ends_at ca ce (calls f xs ys w)

  abbrev pub RegionLands : PairCalls → Classes → Bool → Form → Type 0
  RegionLands calls c by_a code = (place : Place) (ng : ℕ) (ka : Actions) (ba : Behind) (ke : Actions) (be : Behind) (ca ce : List HeldCall) (b : Sides) (w : World) (s : State) → Stands' (point (region_of true of c cap ng place by_a code ka) ba, point (region_of false of c cap ng place by_a code ke) be) ca ce b w s → IsSound setup w
      → Lands' s (8 * w.items) n (exits ka ba ke be) ca ce (does_round p n calls c (Region by_a code) b w)

  -- there is room for each group and each told condition, and each region lands
  abbrev pub RoundFits : PairCalls → Classes → Round → Type 0
  RoundFits calls c (Group g last) = GroupFits c setup.depths g last
  RoundFits calls c (Alone jump) = Unit {0}
  RoundFits calls c (Region by_a code) = RegionLands calls c by_a code

  abbrev pub DecisionFits : Decision → Type 0
  DecisionFits d = (d.by_a ≡ true → 1 ≤ setup.depths.ab) × (d.by_a ≡ false → 1 ≤ setup.depths.eb)

  -- ---- control flow

  nothing_done : (s : State) (at : Point × Point) (ca ce : List HeldCall) (b : Sides) (w : World) → Stands' at ca ce b w s → IsSound setup w → Arrived' s (8 * w.items) 0 at ca ce b w
  nothing_done s at ca ce b w stands sound = record { state = s; picks = []; rounds = none (rest_empty s.queues (level stands.counts) stands.queues); units = 0; few = omega arith; cost = omega arith; some = omega arith; stands = stands; sound = sound }

  -- both sides make one silent move each, of which E's number counts, and the world is ticked or not
  both_move : (s : State) (base la le : ℕ) (at at' : Point × Point) (ca ce : List HeldCall) (b b' : Sides) (w w' : World) → Stands' at ca ce b w s → IsSound setup w' → Moves p true setup.memory body_a la (spot at.0 b.a w ca) [] (Arrives (spot at'.0 b'.a w' ca)) → Moves p false setup.memory body_e le (spot at.1 b.e w ce) [] (Arrives (spot at'.1 b'.e w' ce))
      → weight_of at.0.code at.0.behind ≡ 1 → weight_of at.1.code at.1.behind ≡ 1 → w'.memory ≡ w.memory → w'.printed ≡ w.printed → 2 + base ≤ 8 * w'.items → Arrived' s base le at' ca ce b' w'
  both_move s base la le at at' ca ce b b' w w' stands sound move_a move_e one_a one_e memory printed cost =
      control setup p body_a body_e most At_a At_e code_a code_e positive s base at at' ca ce ca ce b b' w w' 1 1 le stands sound (λ m x. part_a one_a (one_move move_a)) (λ m x. part_e one_e (one_move move_e)) memory printed (omega arith) where
        part_a : {m : List ℕ} {a t : Spot} {q : Queues} {l n : ℕ} → n ≡ 1 → Part setup p true body_a m a q [] (Arrives t) q n l → Part setup p true body_a m a q [] (Arrives t) q 1 0
        part_a e y = let f = y.few in record { moves = y.moves; fills = y.fills; instructions = y.instructions; does = y.does; few = omega arith; some = omega arith }

        part_e : {m : List ℕ} {a t : Spot} {q : Queues} {l n : ℕ} → n ≡ 1 → Part setup p false body_e m a q [] (Arrives t) q n l → Part setup p false body_e m a q [] (Arrives t) q 1 l
        part_e e y = let f = y.few in record { moves = y.moves; fills = y.fills; instructions = y.instructions; does = y.does; few = omega arith; some = y.some }

  -- behind a branch
  behind_branch : (s : State) (base : ℕ) (ka : Actions) (ba : Behind) (ke : Actions) (be : Behind) (ca ce : List HeldCall) (b : Sides) (w : World) → Stands' (point Done (After ka ba), point Done (After ke be)) ca ce b w s → IsSound setup w → 2 + base ≤ 8 * w.items → Arrived' s base 0 (point ka ba, point ke be) ca ce b w
  behind_branch s base ka ba ke be ca ce b w stands sound cost = both_move s base 0 0 (point Done (After ka ba), point Done (After ke be)) (point ka ba, point ke be) ca ce b b w w stands sound (goes_behind w) (goes_behind w) refl refl refl refl cost

  module _ (m : CodeMeaning Round Decision Sides) where
    -- what code does from where it stands
    abbrev pub CodeLands : Classes → Rounds → Type 0
    CodeLands c r = (ng : ℕ) (ka : Actions) (ba : Behind) (ke : Actions) (be : Behind) (ca ce : List HeldCall) (b : Sides) (w : World) (s : State) → Stands' (point (side_of true of c cap ng r ka) ba, point (side_of false of c cap ng r ke) be) ca ce b w s → IsSound setup w → Lands' s (8 * w.items) n (exits ka ba ke be) ca ce (exec m n r b w)

    -- what code does as the body of a turn that begins with a test that is told: with what is behind it, an instruction more
    abbrev pub Onward_from : Point × Point → List HeldCall → List HeldCall → (Way → Point × Point) → ℕ → Run Sides → Type 0
    Onward_from at ca ce go j f = (b : Sides) (w : World) (s : State) → Stands' at ca ce b w s → IsSound setup w → 1 ≤ w.items → Lands' s (8 * w.items - 6) j go ca ce (f b w)

    abbrev pub TurnLands : Classes → Rounds → Type 0
    TurnLands c r =
        (ng : ℕ) (ba be : Behind) (ca ce : List HeldCall) (go : Way → Point × Point) (j : ℕ) (f : Run Sides) → IsTold (side_of false of c cap ng r Done) → suc j ≤ n → exits Done ba Done be Leaves ≡ go Next → exits Done ba Done be Returns ≡ go Returns
        → Onward_from (exits Done ba Done be Next) ca ce go j f → Onward_from (exits Done ba Done be Skips) ca ce go j f
        → (b : Sides) (w : World) (s : State) → Stands' (point (side_of true of c cap ng r Done) ba, point (side_of false of c cap ng r Done) be) ca ce b w s → IsSound setup w → 1 ≤ w.items → Lands' s (8 * w.items - 6) (suc j) go ca ce (exec m n r b w ↻ f)

    -- a branch, and what is behind it
    branch_lands : (c : Classes) (r k : Rounds) → CodeLands c r → CodeLands c k → (ng : ℕ) (ka : Actions) (ba : Behind) (ke : Actions) (be : Behind) (ca ce : List HeldCall) (b : Sides) (w : World) (s : State) (told : Arrived' s (8 * w.items + 2) 1 (point (side_of true of c cap 0 r Done) (After (side_of true of c cap ng k ka) ba), point (side_of false of c cap 0 r Done) (After (side_of false of c cap ng k ke) be)) ca ce b (ticked w))
        → Lands' s (8 * w.items) n (exits ka ba ke be) ca ce (exec m n r b (ticked w) ▷ exec m n k)
    branch_lands c r k ih ik ng ka ba ke be ca ce b w s told =
        let ka' = side_of true of c cap ng k ka in
        let ke' = side_of false of c cap ng k ke in
        let go = exits Done (After ka' ba) Done (After ke' be) in
        let inner = ih 0 Done (After ka' ba) Done (After ke' be) ca ce b (ticked w) told.state told.stands told.sound in
        let first = then_lands s (8 * w.items + 2) 0 (8 * w.items + 2) (8 * (w.items + 1)) n 1 n n _ go ca ce ca ce b (ticked w) (exec m n r b (ticked w)) (omega arith) (omega arith) (omega arith) told inner in
        bind s (8 * w.items) 2 n go (exits ka ba ke be) ca ce (exec m n r b (ticked w)) (exec m n k) refl refl refl first (λ b' w' x. (
        let cost = x.cost in
        let z = behind_branch x.state (8 * w'.items - 2) ka' ba ke' be ca ce b' w' x.stands x.sound (omega arith) in
        then_lands x.state (8 * w'.items - 2) 0 (8 * w'.items - 2) (8 * w'.items) n 0 n n (point ka' ba, point ke' be) (exits ka ba ke be) ca ce ca ce b' w' (exec m n k b' w') (omega arith) (omega arith) (omega arith) z (ik ng ka ba ke be ca ce b' w' z.state z.stands z.sound)))

    -- the same at the begin of a turn
    branch_turn : (c : Classes) (r k : Rounds) → CodeLands c r → CodeLands c k → (ng : ℕ) (ba be : Behind) (ca ce : List HeldCall) (go : Way → Point × Point) (j : ℕ) (f : Run Sides) → suc j ≤ n → exits Done ba Done be Leaves ≡ go Next → exits Done ba Done be Returns ≡ go Returns
        → Onward_from (exits Done ba Done be Next) ca ce go j f → Onward_from (exits Done ba Done be Skips) ca ce go j f → (b : Sides) (w : World) (s : State) → 1 ≤ w.items
        → (told : Arrived' s (8 * w.items + 2) 1 (point (side_of true of c cap 0 r Done) (After (side_of true of c cap ng k Done) ba), point (side_of false of c cap 0 r Done) (After (side_of false of c cap ng k Done) be)) ca ce b (ticked w))
        → Lands' s (8 * w.items - 6) (suc j) go ca ce ((exec m n r b (ticked w) ▷ exec m n k) ↻ f)
    branch_turn c r k ih ik ng ba be ca ce go j f small l t next skips b w s some told =
        let ka' = side_of true of c cap ng k Done in
        let ke' = side_of false of c cap ng k Done in
        let inside = exits Done (After ka' ba) Done (After ke' be) in
        let inner = ih 0 Done (After ka' ba) Done (After ke' be) ca ce b (ticked w) told.state told.stands told.sound in
        then_lands s (8 * w.items - 6) 8 (8 * w.items + 2) (8 * w.items) n 1 j (suc j) _ go ca ce ca ce b (ticked w) ((exec m n r b (ticked w) ▷ exec m n k) ↻ f) (omega arith) (omega arith) (omega arith) told
        (bind_turn told.state (8 * w.items) 8 j inside go ca ce (exec m n r b (ticked w)) (exec m n k) f l t
        (less setup most At_a At_e told.state (8 * (w.items + 1)) (8 * w.items + 8) n n j inside ca ce (exec m n r b (ticked w)) (omega arith) (omega arith) inner)
        (λ b' w' x. (
        let cost = x.cost in
        let z = behind_branch x.state (8 * w'.items - 2) ka' ba ke' be ca ce b' w' x.stands x.sound (omega arith) in
        then_lands x.state (8 * w'.items - 8) 6 (8 * w'.items - 2) (8 * w'.items - 6) n 0 j j (point ka' ba, point ke' be) go ca ce ca ce b' w' (exec m n k b' w' ↻ f) (omega arith) (omega arith) (omega arith) z
        (turn z.state (8 * w'.items - 6) 6 j (exits Done ba Done be) go ca ce (exec m n k b' w') f l t
        (less setup most At_a At_e z.state (8 * w'.items) (8 * w'.items - 6 + 6) n n j (exits Done ba Done be) ca ce (exec m n k b' w') (omega arith) (omega arith) (ik ng Done ba Done be ca ce b' w' z.state z.stands z.sound))
        (λ b'' w'' y. (let cost' = y.cost in next b'' w'' y.state y.stands y.sound (omega arith)))
        (λ b'' w'' y. (let cost' = y.cost in (j, skips b'' w'' y.state y.stands y.sound (omega arith), omega arith))))))
        (λ b' w' x. (
        let cost = x.cost in
        (j, less setup most At_a At_e x.state (8 * w'.items - 6) (8 * w'.items - 8) n j j go ca ce (f b' w') (omega arith) (omega arith) (skips b' w' x.state x.stands x.sound (omega arith)), omega arith))))

    -- ---- loops

    module _ (c : Classes) (body step : Rounds) (ih : CodeLands c body) (it : TurnLands c body) (is : CodeLands c step) (ka : Actions) (ba : Behind) (ke : Actions) (be : Behind) (ca ce : List HeldCall) where
      abbrev xa : Actions
      xa = side_of true of c cap 0 body Done

      abbrev ya : Actions
      ya = side_of true of c cap 0 step Done

      abbrev xe : Actions
      xe = side_of false of c cap 0 body Done

      abbrev ye : Actions
      ye = side_of false of c cap 0 step Done

      abbrev at_body : Point × Point
      at_body = (point xa (Body xa ya ka ba), point xe (Body xe ye ke be))

      abbrev at_step : Point × Point
      at_step = (point ya (Turn xa ya ka ba), point ye (Turn xe ye ke be))

      -- the step, and then the other turns
      abbrev Turns : ℕ → Type 0
      Turns j = (b : Sides) (w : World) (s : State) → Stands' at_body ca ce b w s → IsSound setup w → Lands' s (8 * w.items + 2) j (exits ka ba ke be) ca ce (turns (exec m n body) (exec m n step) j b w)

      step_lands : (j i : ℕ) → i ≤ n → i ≤ suc j → i ≤ turn_least xe + j → Turns j → (b : Sides) (w : World) (s : State) → Stands' at_step ca ce b w s → IsSound setup w → 4 ≤ 8 * w.items → Lands' s (8 * w.items - 4) i (exits ka ba ke be) ca ce (exec m n step b w ↻ turns (exec m n body) (exec m n step) j)
      step_lands j i small one so turns_land b w s stands sound some =
          let go = exits Done (Turn xa ya ka ba) Done (Turn xe ye ke be) in
          let inner = is 0 Done (Turn xa ya ka ba) Done (Turn xe ye ke be) ca ce b w s stands sound in
          turn s (8 * w.items - 4) 4 i go (exits ka ba ke be) ca ce (exec m n step b w) (turns (exec m n body) (exec m n step) j) refl refl
          (less setup most At_a At_e s (8 * w.items) (8 * w.items - 4 + 4) n n i go ca ce (exec m n step b w) (omega arith) small inner)
          (λ b' w' x. (
          let cost = x.cost in
          let z = both_move x.state (8 * w'.items - 2) (turn_least xa) (turn_least xe) (point Done (Turn xa ya ka ba), point Done (Turn xe ye ke be)) at_body ca ce b' b' w' w' x.stands x.sound (ends_step w') (ends_step w') refl refl refl refl (omega arith) in
          then_lands x.state (8 * w'.items - 4) 2 (8 * w'.items - 2) (8 * w'.items + 2) n (turn_least xe) j i at_body (exits ka ba ke be) ca ce ca ce b' w' (turns (exec m n body) (exec m n step) j b' w') (omega arith) (omega arith) so z (turns_land b' w' z.state z.stands z.sound)))
          (λ b' w' x. (
          let cost = x.cost in
          (j, less setup most At_a At_e x.state (8 * w'.items + 2) (8 * w'.items - 4) n j j (exits ka ba ke be) ca ce (turns (exec m n body) (exec m n step) j b' w') (omega arith) (omega arith) (turns_land b' w' x.state x.stands x.sound), omega arith)))

      -- a turn, and then the others
      turn_lands_so : (j : ℕ) → suc j ≤ n → Turns j → (b : Sides) (w : World) (s : State) → Stands' at_body ca ce b w s → IsSound setup w → Lands' s (8 * w.items + 2) (suc j) (exits ka ba ke be) ca ce (turns (exec m n body) (exec m n step) (suc j) b w)
      turn_lands_so j small others b w s stands sound = by (turn_least xe) refl where
        go : Way → Point × Point
        go = exits Done (Body xa ya ka ba) Done (Body xe ye ke be)

        after : Run Sides
        after b w = exec m n step b w ↻ turns (exec m n body) (exec m n step) j

        -- from the body's end to the step
        ends : (i : ℕ) → i ≤ n → i ≤ suc j → i ≤ turn_least xe + j → Onward_from (go Next) ca ce (exits ka ba ke be) i after
        ends i few one so b' w' s' stands' sound' some =
            let z = both_move s' (8 * w'.items - 2) 0 0 (point Done (Body xa ya ka ba), point Done (Body xe ye ke be)) at_step ca ce b' b' w' w' stands' sound' (ends_body w') (ends_body w') refl refl refl refl (omega arith) in
            then_lands s' (8 * w'.items - 6) 4 (8 * w'.items - 2) (8 * w'.items - 4) n 0 i i at_step (exits ka ba ke be) ca ce ca ce b' w' (after b' w') (omega arith) (omega arith) (omega arith) z
            (step_lands j i few one so others b' w' z.state z.stands z.sound (omega arith))

        skips : (i : ℕ) → i ≤ n → i ≤ suc j → i ≤ turn_least xe + j → Onward_from (go Skips) ca ce (exits ka ba ke be) i after
        skips i few one so b' w' s' stands' sound' some =
            less setup most At_a At_e s' (8 * w'.items - 4) (8 * w'.items - 6) n i i (exits ka ba ke be) ca ce (after b' w') (omega arith) (omega arith) (step_lands j i few one so others b' w' s' stands' sound' (omega arith))

        by : (t : ℕ) → turn_least xe ≡ t → Lands' s (8 * w.items + 2) (suc j) (exits ka ba ke be) ca ce (exec m n body b (ticked w) ↻ after)
        by zero e =
            less setup most At_a At_e s (8 * (w.items + 1) - 6) (8 * w.items + 2) n (suc j) (suc j) (exits ka ba ke be) ca ce (exec m n body b (ticked w) ↻ after) (omega arith) (omega arith)
            (it 0 (Body xa ya ka ba) (Body xe ye ke be) ca ce (exits ka ba ke be) j after e small refl refl (ends j (omega arith) (omega arith) (omega arith)) (skips j (omega arith) (omega arith) (omega arith))
            b (ticked w) s (stands_ticked at_body ca ce b w s stands) (sound_ticked w sound) (omega arith))
        by (suc t) e =
            let inner = ih 0 Done (Body xa ya ka ba) Done (Body xe ye ke be) ca ce b (ticked w) s (stands_ticked at_body ca ce b w s stands) (sound_ticked w sound) in
            turn s (8 * w.items + 2) 6 (suc j) go (exits ka ba ke be) ca ce (exec m n body b (ticked w)) after refl refl
            (less setup most At_a At_e s (8 * (w.items + 1)) (8 * w.items + 2 + 6) n n (suc j) go ca ce (exec m n body b (ticked w)) (omega arith) small inner)
            (λ b' w' x. (let cost = x.cost in ends (suc j) small (omega arith) (omega arith) b' w' x.state x.stands x.sound (omega arith)))
            (λ b' w' x. (let cost = x.cost in (suc j, skips (suc j) small (omega arith) (omega arith) b' w' x.state x.stands x.sound (omega arith), omega arith)))

      turns_land : (j : ℕ) → j ≤ n → Turns j
      turns_land zero small b w s stands sound = record {
        state = s;
        picks = [];
        order = record { whole = []; between = s; rounds = none (rest_empty s.queues (level stands.counts) stands.queues); last = []; round = no_round; is_round = record { access = nothing; fills = tt; execute = tt; hears = nothing; drains = inl refl }; rest = []; front = refl; runs = refl; all = refl };
        units = 0;
        few = omega arith;
        cost = omega arith;
        moves = inl (omega arith);
        printed = stands.printed;
      }
      turns_land (suc j) small b w s stands sound = turn_lands_so j small (turns_land j (omega arith)) b w s stands sound

      pub loop_lands : (mark : Mark) (b : Sides) (w : World) (s : State) → Stands' (point (Loop mark xa ya ka) ba, point (Loop mark xe ye ke) be) ca ce b w s → IsSound setup w → Lands' s (8 * w.items) n (exits ka ba ke be) ca ce (turns (exec m n body) (exec m n step) n b w)
      loop_lands mark b w s stands sound =
          -- the account of the way into the loop is that of its first turn
          let z = both_move s (8 * w.items + 6) 0 0 (point (Loop mark xa ya ka) ba, point (Loop mark xe ye ke) be) at_body ca ce b b w (ticked w) stands (sound_ticked w sound) (enters w) (enters w) refl refl refl refl (omega arith) in
          then_lands s (8 * w.items) 6 (8 * w.items + 6) (8 * w.items + 2) n 0 n n at_body (exits ka ba ke be) ca ce ca ce b (ticked w) (turns (exec m n body) (exec m n step) n b w) (omega arith) (omega arith) (omega arith) z
          (turns_land n (omega arith) b w z.state (stands_unticked at_body ca ce b w z.state z.stands) sound)

  -- ---- what stands between groups

  module _ (calls : PairCalls) (calls_land : CallsLand calls) (c : Classes) where
    -- behind a call
    comes_back : (mark : Mark) (v : ℕ) (ka : Actions) (ba : Behind) (ke : Actions) (be : Behind) (ca ce : List HeldCall) (b r : Sides) (w w' : World) (s : State) (base : ℕ)
        → Stands' (point Done Ends, point Done Ends) (waits (kept (c.s v) v) (point ka ba) b.a w ∷ ca) (waits (kept (c.needs v) v) (point ke be) b.e w ∷ ce) r w' s → IsSound setup w' → 6 + base ≤ 8 * w'.items
        → Arrived' s base 0 (point ka ba, point ke be) ca ce (put_both c v (r.a 0) (r.e 0) b) (back w w')
    comes_back mark v ka ba ke be ca ce b r w w' s base stands sound cost =
        let wa = waits (kept (c.s v) v) (point ka ba) b.a w in
        let we = waits (kept (c.needs v) v) (point ke be) b.e w in
        let move_a : Moves p true setup.memory body_a 0 (spot (point Done Ends) r.a w' (wa ∷ ca)) [] (Arrives (spot (point ka ba) (put (c.s v) v (r.a 0) b.a) (back w w') ca)) =
        subst (λ (z : Env). Moves p true setup.memory body_a 0 (spot (point Done Ends) r.a w' (wa ∷ ca)) [] (Arrives (spot (point ka ba) z (back w w') ca))) (kept_put (c.s v) v (r.a 0) b.a) (goes_back w') in
        let move_e : Moves p false setup.memory body_e 0 (spot (point Done Ends) r.e w' (we ∷ ce)) [] (Arrives (spot (point ke be) (put (c.needs v) v (r.e 0) b.e) (back w w') ce)) =
        subst (λ (z : Env). Moves p false setup.memory body_e 0 (spot (point Done Ends) r.e w' (we ∷ ce)) [] (Arrives (spot (point ke be) z (back w w') ce))) (kept_put (c.needs v) v (r.e 0) b.e) (goes_back w') in
        control setup p body_a body_e most At_a At_e code_a code_e positive s base (point Done Ends, point Done Ends) (point ka ba, point ke be) (wa ∷ ca) (we ∷ ce) ca ce r (put_both c v (r.a 0) (r.e 0) b) w' (back w w') 3 3 0 stands (record { size = sound.size; bytes = sound.bytes }) (λ m x. one_move move_a) (λ m x. one_move move_e) refl refl (omega arith)

    -- how a call has ended, from the entry of the function
    back_lands : (mark : Mark) (v : ℕ) (ka : Actions) (ba : Behind) (ke : Actions) (be : Behind) (ca ce : List HeldCall) (b : Sides) (w : World) (s : State) (base : ℕ) (r : Result Sides)
        → Lands' s (base + 6) n ends_at (waits (kept (c.s v) v) (point ka ba) b.a w ∷ ca) (waits (kept (c.needs v) v) (point ke be) b.e w ∷ ce) r → Lands' s base n (exits ka ba ke be) ca ce (ended (λ (r : Sides). put_both c v (r.a 0) (r.e 0) b) w r)
    back_lands mark v ka ba ke be ca ce b w s base (At way r w') x =
        let cost = x.cost in
        let wa = waits (kept (c.s v) v) (point ka ba) b.a w in
        let we = waits (kept (c.needs v) v) (point ke be) b.e w in
        let b' = put_both c v (r.a 0) (r.e 0) b in
        let z = comes_back mark v ka ba ke be ca ce b r w w' x.state (8 * w'.items - 6) x.stands x.sound (omega arith) in
        then_lands s base 6 (base + 6) (8 * w'.items - 6) n (least_of way) 0 0 (point Done Ends, point Done Ends) (exits ka ba ke be) ca ce (wa ∷ ca) (we ∷ ce) r w' (At Next b' (back w w')) (omega arith) (omega arith) (omega arith) x z
    back_lands mark v ka ba ke be ca ce b w s base (Over (Halted k) w') x = less setup most At_a At_e s (base + 6) base n n n ends_at ca ce (Over (Halted k) w') (omega arith) (omega arith) x
    back_lands mark v ka ba ke be ca ce b w s base (Over (Trapped k) w') x = less setup most At_a At_e s (base + 6) base n n n ends_at ca ce (Over (Trapped k) w') (omega arith) (omega arith) x
    back_lands mark v ka ba ke be ca ce b w s base (Over Going w') x = less setup most At_a At_e s (base + 6) base n n n ends_at ca ce (Over Going w') (omega arith) (omega arith) x
    back_lands mark v ka ba ke be ca ce b w s base (Over Astray w') x = tt

    call_lands : (mark : Mark) (v f : ℕ) (xs : List Operand) (ka : Actions) (ba : Behind) (ke : Actions) (be : Behind) (ca ce : List HeldCall) (b : Sides) (w : World) (s : State)
        → Stands' (point (Do mark (jump_action true of c (Enters v f xs)) ka) ba, point (Do mark (jump_action false of c (Enters v f xs)) ke) be) ca ce b w s → IsSound setup w → (o : Option ℕ) → fault p (Room f) w b.a ≡ o
        → Lands' s (8 * w.items) n (exits ka ba ke be) ca ce (within o w (ended (λ (r : Sides). put_both c v (r.a 0) (r.e 0) b) w (calls f (values xs b.a) (values xs b.e) (called xs w))))
    call_lands mark v f xs ka ba ke be ca ce b w s stands sound (Some code) e = tt
    call_lands mark v f xs ka ba ke be ca ce b w s stands sound None e =
        let wa = waits (kept (c.s v) v) (point ka ba) b.a w in
        let we = waits (kept (c.needs v) v) (point ke be) b.e w in
        let entry = entered_both (of f) (values xs b.a) (values xs b.e) in
        let u = deeper p f (called xs w) in
        let sa = spot (point (Do mark (jump_action true of c (Enters v f xs)) ka) ba) b.a w ca in
        let se = spot (point (Do mark (jump_action false of c (Enters v f xs)) ke) be) b.e w ce in
        let move_a : Moves p true setup.memory body_a 0 sa [] (Arrives (spot (point (body_a f) Ends) entry.a u (wa ∷ ca))) =
        subst (λ (z : Env). Moves p true setup.memory body_a 0 sa [] (Arrives (spot (point (body_a f) Ends) z u (wa ∷ ca)))) (given_is (of f).s 1 xs b.a) (calls_it w sound.size e) in
        let move_e : Moves p false setup.memory body_e 0 se [] (Arrives (spot (point (body_e f) Ends) entry.e u (we ∷ ce))) =
        subst (λ (z : Env). Moves p false setup.memory body_e 0 se [] (Arrives (spot (point (body_e f) Ends) z u (we ∷ ce)))) (given_is (of f).needs 1 xs b.e) (calls_it w sound.size e) in
        let go : Point × Point = (point (Do mark (jump_action true of c (Enters v f xs)) ka) ba, point (Do mark (jump_action false of c (Enters v f xs)) ke) be) in
        let few_a = arguments_few (of f).s 1 xs in
        let few_e = arguments_few (of f).needs 1 xs in
        let z = control setup p body_a body_e most At_a At_e code_a code_e positive s (8 * w.items + 6) go (point (body_a f) Ends, point (body_e f) Ends) ca ce (wa ∷ ca) (we ∷ ce) b entry w u (4 + length (arguments_in (of f).s 1 xs)) (4 + length (arguments_in (of f).needs 1 xs)) 0 stands (record { size = sound.size; bytes = sound.bytes }) (λ m x. one_move move_a) (λ m x. one_move move_e) refl refl (omega arith) in
        back_lands mark v ka ba ke be ca ce b w s (8 * w.items) (calls f (values xs b.a) (values xs b.e) (called xs w))
        (then_lands s (8 * w.items + 6) 0 (8 * w.items + 6) (8 * (w.items + (2 + length xs))) n 0 n n (point (body_a f) Ends, point (body_e f) Ends) ends_at (wa ∷ ca) (we ∷ ce) (wa ∷ ca) (we ∷ ce) entry u (calls f (values xs b.a) (values xs b.e) (called xs w)) (omega arith) (omega arith) (omega arith) z
        (calls_land f (values xs b.a) (values xs b.e) (called xs w) z.state (wa ∷ ca) (we ∷ ce) z.stands (record { size = sound.size; bytes = sound.bytes })))

    at_ends : (mark : Mark) (x : Operand) (ka : Actions) (ba : Behind) (ke : Actions) (be : Behind) (ca ce : List HeldCall) (b : Sides) (w : World) (s : State)
        → Stands' (point (Do mark (jump_action true of c (Gives x)) ka) ba, point (Do mark (jump_action false of c (Gives x)) ke) be) ca ce b w s → IsSound setup w → Arrived' s (8 * w.items) 0 (point Done Ends, point Done Ends) ca ce (put_both c 0 (value x b.a) (value x b.e) b) (ticked w)
    at_ends mark x ka ba ke be ca ce b w s stands sound =
        let sa = spot (point (Do mark (jump_action true of c (Gives x)) ka) ba) b.a w ca in
        let se = spot (point (Do mark (jump_action false of c (Gives x)) ke) be) b.e w ce in
        let go : Point × Point = (point (Do mark (jump_action true of c (Gives x)) ka) ba, point (Do mark (jump_action false of c (Gives x)) ke) be) in
        let move_a : Moves p true setup.memory body_a 0 sa [] (Arrives (spot (point Done Ends) (put (c.s 0) 0 (value x b.a) b.a) (ticked w) ca)) =
        subst (λ (z : Env). Moves p true setup.memory body_a 0 sa [] (Arrives (spot (point Done Ends) z w ca))) (kept_result (c.s 0) x b.a) (returns w) in
        let move_e : Moves p false setup.memory body_e 0 se [] (Arrives (spot (point Done Ends) (put (c.needs 0) 0 (value x b.e) b.e) (ticked w) ce)) =
        subst (λ (z : Env). Moves p false setup.memory body_e 0 se [] (Arrives (spot (point Done Ends) z w ce))) (kept_result (c.needs 0) x b.e) (returns w) in
        both_move s (8 * w.items) 0 0 go (point Done Ends, point Done Ends) ca ce b (put_both c 0 (value x b.a) (value x b.e) b) w (ticked w) stands (sound_ticked w sound) move_a move_e refl refl refl refl (omega arith)

    -- a condition is told, by the side that decides it
    told_lands : (place : Place) (d : Decision) (r k q : Rounds) (ng : ℕ) (ka : Actions) (ba : Behind) (ke : Actions) (be : Behind) (ca ce : List HeldCall) (b : Sides) (w : World) (s : State) → CodeLands (canonical p n calls c) c r → CodeLands (canonical p n calls c) c q → CodeLands (canonical p n calls c) c k → DecisionFits d
        → Stands' (point (side_of true of c cap ng (If place d r q k) ka) ba, point (side_of false of c cap ng (If place d r q k) ke) be) ca ce b w s → IsSound setup w → Lands' s (8 * w.items) n (exits ka ba ke be) ca ce (exec (canonical p n calls c) n (If place d r q k) b w)
    told_lands place d r k q ng ka ba ke be ca ce b w s ih iq ik fits stands sound = by d.by_a fits stands where
      m : CodeMeaning Round Decision Sides
      m = canonical p n calls c

      by : (by_a : Bool) → (by_a ≡ true → 1 ≤ setup.depths.ab) × (by_a ≡ false → 1 ≤ setup.depths.eb)
          → Stands' (point (If (mark place ng) (if by_a then Tells d.test else Hears) (side_of true of c cap 0 r Done) (side_of true of c cap 0 q Done) (side_of true of c cap ng k ka)) ba, point (If (mark place ng) (if by_a then Hears else Tells d.test) (side_of false of c cap 0 r Done) (side_of false of c cap 0 q Done) (side_of false of c cap ng k ke)) be) ca ce b w s
          → Lands' s (8 * w.items) n (exits ka ba ke be) ca ce ((if (if by_a then holds d.test b.a else holds d.test b.e) then exec (canonical p n calls c) n r b (ticked w) else exec (canonical p n calls c) n q b (ticked w)) ▷ exec (canonical p n calls c) n k)
      by true fits stands = branch (holds d.test b.a) (told_by_a setup p body_a body_e most At_a At_e code_a code_e positive s (8 * w.items + 2) (mark place ng) d.test (side_of true of c cap 0 r Done) (side_of true of c cap 0 q Done) (side_of true of c cap ng k ka) ba (side_of false of c cap 0 r Done) (side_of false of c cap 0 q Done) (side_of false of c cap ng k ke) be ca ce b w stands sound (fits.0 refl) (omega arith)) where
        branch : (t : Bool) → Arrived' s (8 * w.items + 2) 1 (point (if t then side_of true of c cap 0 r Done else side_of true of c cap 0 q Done) (After (side_of true of c cap ng k ka) ba), point (if t then side_of false of c cap 0 r Done else side_of false of c cap 0 q Done) (After (side_of false of c cap ng k ke) be)) ca ce b (ticked w)
            → Lands' s (8 * w.items) n (exits ka ba ke be) ca ce ((if t then exec (canonical p n calls c) n r b (ticked w) else exec (canonical p n calls c) n q b (ticked w)) ▷ exec (canonical p n calls c) n k)
        branch true x = branch_lands (canonical p n calls c) c r k ih ik ng ka ba ke be ca ce b w s x
        branch false x = branch_lands (canonical p n calls c) c q k iq ik ng ka ba ke be ca ce b w s x
      by false fits stands = branch (holds d.test b.e) (told_by_e setup p body_a body_e most At_a At_e code_a code_e positive s (8 * w.items + 2) (mark place ng) d.test (side_of true of c cap 0 r Done) (side_of true of c cap 0 q Done) (side_of true of c cap ng k ka) ba (side_of false of c cap 0 r Done) (side_of false of c cap 0 q Done) (side_of false of c cap ng k ke) be ca ce b w stands sound (fits.1 refl) (omega arith)) where
        branch : (t : Bool) → Arrived' s (8 * w.items + 2) 1 (point (if t then side_of true of c cap 0 r Done else side_of true of c cap 0 q Done) (After (side_of true of c cap ng k ka) ba), point (if t then side_of false of c cap 0 r Done else side_of false of c cap 0 q Done) (After (side_of false of c cap ng k ke) be)) ca ce b (ticked w)
            → Lands' s (8 * w.items) n (exits ka ba ke be) ca ce ((if t then exec (canonical p n calls c) n r b (ticked w) else exec (canonical p n calls c) n q b (ticked w)) ▷ exec (canonical p n calls c) n k)
        branch true x = branch_lands (canonical p n calls c) c r k ih ik ng ka ba ke be ca ce b w s x
        branch false x = branch_lands (canonical p n calls c) c q k iq ik ng ka ba ke be ca ce b w s x

    -- the rest behind something that needs nothing of the account
    rest_lands : (k : Rounds) (ng : ℕ) (ka : Actions) (ba : Behind) (ke : Actions) (be : Behind) (ca ce : List HeldCall) (w : World) (s : State) (r : Result Sides) → CodeLands (canonical p n calls c) c k → Lands' s (8 * w.items) n (exits (side_of true of c cap ng k ka) ba (side_of false of c cap ng k ke) be) ca ce r
        → Lands' s (8 * w.items) n (exits ka ba ke be) ca ce (r ▷ exec (canonical p n calls c) n k)
    rest_lands k ng ka ba ke be ca ce w s r ih x =
        let go = exits (side_of true of c cap ng k ka) ba (side_of false of c cap ng k ke) be in
        bind s (8 * w.items) 0 n go (exits ka ba ke be) ca ce r (exec (canonical p n calls c) n k) refl refl refl (less setup most At_a At_e s (8 * w.items) (8 * w.items + 0) n n n go ca ce r (omega arith) (omega arith) x)
        (λ b' w' y. less setup most At_a At_e y.state (8 * w'.items) (8 * w'.items - 0) n n n (exits ka ba ke be) ca ce (exec (canonical p n calls c) n k b' w') (omega arith) (omega arith) (ih ng ka ba ke be ca ce b' w' y.state y.stands y.sound))

    -- a condition is told at the begin of a turn
    told_turn : (place : Place) (d : Decision) (r k q : Rounds) → CodeLands (canonical p n calls c) c r → CodeLands (canonical p n calls c) c q → CodeLands (canonical p n calls c) c k → DecisionFits d → TurnLands (canonical p n calls c) c (If place d r q k)
    told_turn place d r k q ih iq ik fits ng ba be ca ce go j f is small l t next skips b w s stands sound some = by d.by_a fits stands where
      m : CodeMeaning Round Decision Sides
      m = canonical p n calls c

      branch : (told : Bool) → Arrived' s (8 * w.items + 2) 1 (point (if told then side_of true of c cap 0 r Done else side_of true of c cap 0 q Done) (After (side_of true of c cap ng k Done) ba), point (if told then side_of false of c cap 0 r Done else side_of false of c cap 0 q Done) (After (side_of false of c cap ng k Done) be)) ca ce b (ticked w)
          → Lands' s (8 * w.items - 6) (suc j) go ca ce (((if told then exec (canonical p n calls c) n r b (ticked w) else exec (canonical p n calls c) n q b (ticked w)) ▷ exec (canonical p n calls c) n k) ↻ f)
      branch true x = branch_turn (canonical p n calls c) c r k ih ik ng ba be ca ce go j f small l t next skips b w s some x
      branch false x = branch_turn (canonical p n calls c) c q k iq ik ng ba be ca ce go j f small l t next skips b w s some x

      by : (by_a : Bool) → (by_a ≡ true → 1 ≤ setup.depths.ab) × (by_a ≡ false → 1 ≤ setup.depths.eb)
          → Stands' (point (If (mark place ng) (if by_a then Tells d.test else Hears) (side_of true of c cap 0 r Done) (side_of true of c cap 0 q Done) (side_of true of c cap ng k Done)) ba, point (If (mark place ng) (if by_a then Hears else Tells d.test) (side_of false of c cap 0 r Done) (side_of false of c cap 0 q Done) (side_of false of c cap ng k Done)) be) ca ce b w s
          → Lands' s (8 * w.items - 6) (suc j) go ca ce (((if (if by_a then holds d.test b.a else holds d.test b.e) then exec (canonical p n calls c) n r b (ticked w) else exec (canonical p n calls c) n q b (ticked w)) ▷ exec (canonical p n calls c) n k) ↻ f)
      by true fits stands = branch (holds d.test b.a) (told_by_a setup p body_a body_e most At_a At_e code_a code_e positive s (8 * w.items + 2) (mark place ng) d.test (side_of true of c cap 0 r Done) (side_of true of c cap 0 q Done) (side_of true of c cap ng k Done) ba (side_of false of c cap 0 r Done) (side_of false of c cap 0 q Done) (side_of false of c cap ng k Done) be ca ce b w stands sound (fits.0 refl) (omega arith))
      by false fits stands = branch (holds d.test b.e) (told_by_e setup p body_a body_e most At_a At_e code_a code_e positive s (8 * w.items + 2) (mark place ng) d.test (side_of true of c cap 0 r Done) (side_of true of c cap 0 q Done) (side_of true of c cap ng k Done) ba (side_of false of c cap 0 r Done) (side_of false of c cap 0 q Done) (side_of false of c cap ng k Done) be ca ce b w stands sound (fits.1 refl) (omega arith))

    -- the rest of a turn
    rest_turn : (k : Rounds) (ng : ℕ) (ba be : Behind) (ca ce : List HeldCall) (go : Way → Point × Point) (j : ℕ) (f : Run Sides) (w : World) (s : State) (r : Result Sides) → TurnLands (canonical p n calls c) c k → IsTold (side_of false of c cap ng k Done) → suc j ≤ n → exits Done ba Done be Leaves ≡ go Next → exits Done ba Done be Returns ≡ go Returns
        → Onward_from (canonical p n calls c) (exits Done ba Done be Next) ca ce go j f → Onward_from (canonical p n calls c) (exits Done ba Done be Skips) ca ce go j f → 1 ≤ w.items → Lands' s (8 * w.items) n (exits (side_of true of c cap ng k Done) ba (side_of false of c cap ng k Done) be) ca ce r
        → Lands' s (8 * w.items - 6) (suc j) go ca ce ((r ▷ exec (canonical p n calls c) n k) ↻ f)
    rest_turn k ng ba be ca ce go j f w s r ih is small l t next skips some x =
        let inside = exits (side_of true of c cap ng k Done) ba (side_of false of c cap ng k Done) be in
        bind_turn s (8 * w.items - 6) 6 (suc j) inside go ca ce r (exec (canonical p n calls c) n k) f l t
        (less setup most At_a At_e s (8 * w.items) (8 * w.items - 6 + 6) n n (suc j) inside ca ce r (omega arith) small x)
        (λ b' w' y. (let cost = y.cost in ih ng ba be ca ce go j f is small l t next skips b' w' y.state y.stands y.sound (omega arith)))
        (λ b' w' y. (let cost = y.cost in (j, skips b' w' y.state y.stands y.sound (omega arith), omega arith)))

    mutual
      pub code_lands : (r : Rounds) → Each (RoundFits calls c) DecisionFits r → CodeLands (canonical p n calls c) c r
      code_lands Done fits ng ka ba ke be ca ce b w s stands sound = nothing_done s (point ka ba, point ke be) ca ce b w stands sound
      code_lands (Do place (Group g last) k) fits ng ka ba ke be ca ce b w s stands sound =
          rest_lands k (ng + 1) ka ba ke be ca ce w s _ (code_lands k fits.1)
          (group_lands setup p body_a body_e most At_a At_e code_a code_e positive c ng g (side_of true of c cap (ng + 1) k ka) ba (side_of false of c cap (ng + 1) k ke) be ca ce w s n b sound last fits.0 stands)
      code_lands (Do place (Alone Breaks) k) fits ng ka ba ke be ca ce b w s stands sound =
          both_move s (8 * w.items) 0 0 (point (Do (mark place ng) (jump_action true of c Breaks) (side_of true of c cap ng k ka)) ba, point (Do (mark place ng) (jump_action false of c Breaks) (side_of false of c cap ng k ke)) be) (left ba, left be) ca ce b b w (ticked w) stands (sound_ticked w sound) (breaks w) (breaks w) refl refl refl refl (omega arith)
      code_lands (Do place (Alone Continues) k) fits ng ka ba ke be ca ce b w s stands sound =
          both_move s (8 * w.items) 1 1 (point (Do (mark place ng) (jump_action true of c Continues) (side_of true of c cap ng k ka)) ba, point (Do (mark place ng) (jump_action false of c Continues) (side_of false of c cap ng k ke)) be) (skipped ba, skipped be) ca ce b b w (ticked w) stands (sound_ticked w sound) (continues w) (continues w) refl refl refl refl (omega arith)
      code_lands (Do place (Alone (Enters v f xs)) k) fits ng ka ba ke be ca ce b w s stands sound =
          rest_lands k ng ka ba ke be ca ce w s _ (code_lands k fits.1) (call_lands (mark place ng) v f xs (side_of true of c cap ng k ka) ba (side_of false of c cap ng k ke) be ca ce b w s stands sound (fault p (Room f) w b.a) refl)
      code_lands (Do place (Alone (Gives x)) k) fits ng ka ba ke be ca ce b w s stands sound =
          at_ends (mark place ng) x (side_of true of c cap ng k ka) ba (side_of false of c cap ng k ke) be ca ce b w s stands sound
      code_lands (Do place (Alone (Halts x)) k) fits ng ka ba ke be ca ce b w s stands sound =
          both_halt setup p body_a body_e most At_a At_e code_a code_e positive s (8 * w.items) (mark place ng) x (side_of true of c cap ng k ka) ba (side_of false of c cap ng k ke) be ca ce b w stands sound (omega arith)
      code_lands (Do place (Region by_a code) k) fits ng ka ba ke be ca ce b w s stands sound =
          rest_lands k ng ka ba ke be ca ce w s _ (code_lands k fits.1) (fits.0 place ng (side_of true of c cap ng k ka) ba (side_of false of c cap ng k ke) be ca ce b w s stands sound)
      code_lands (If place d r q k) fits ng ka ba ke be ca ce b w s stands sound =
          told_lands place d r k q ng ka ba ke be ca ce b w s (code_lands r fits.1) (code_lands q fits.2) (code_lands k fits.3) fits.0 stands sound
      code_lands (Loop place body step k) fits ng ka ba ke be ca ce b w s stands sound =
          let ka' = side_of true of c cap ng k ka in
          let ke' = side_of false of c cap ng k ke in
          rest_lands k ng ka ba ke be ca ce w s _ (code_lands k fits.2)
          (less setup most At_a At_e s (8 * w.items) (8 * w.items) n n n (exits ka' ba ke' be) ca ce (turns (exec (canonical p n calls c) n body) (exec (canonical p n calls c) n step) n b w) (omega arith) (omega arith)
          (loop_lands (canonical p n calls c) c body step (code_lands body fits.0) (turn_lands body fits.0) (code_lands step fits.1) ka' ba ke' be ca ce (mark place ng) b w s stands sound))

      -- a turn that begins with a test that is told
      turn_lands : (r : Rounds) → Each (RoundFits calls c) DecisionFits r → TurnLands (canonical p n calls c) c r
      turn_lands Done fits ng ba be ca ce go j f is small l t next skips b w s stands sound some = absurd (one_is_none is)
      turn_lands (Do place (Group g last) k) fits ng ba be ca ce go j f is small l t next skips b w s stands sound some =
          rest_turn k (ng + 1) ba be ca ce go j f w s _ (turn_lands k fits.1) (told_group c ng false g last (side_of false of c cap (ng + 1) k Done) is) small l t next skips some
          (group_lands setup p body_a body_e most At_a At_e code_a code_e positive c ng g (side_of true of c cap (ng + 1) k Done) ba (side_of false of c cap (ng + 1) k Done) be ca ce w s n b sound last fits.0 stands)
      turn_lands (Do place (Alone jump) k) fits ng ba be ca ce go j f is small l t next skips b w s stands sound some = absurd (one_is_none is)
      turn_lands (Do place (Region by_a code) k) fits ng ba be ca ce go j f is small l t next skips b w s stands sound some =
          rest_turn k ng ba be ca ce go j f w s _ (turn_lands k fits.1) (told_region of c cap ng place by_a code (side_of false of c cap ng k Done) is) small l t next skips some
          (fits.0 place ng (side_of true of c cap ng k Done) ba (side_of false of c cap ng k Done) be ca ce b w s stands sound)
      turn_lands (If place d r q k) fits ng ba be ca ce go j f is small l t next skips b w s stands sound some =
          told_turn place d r k q (code_lands r fits.1) (code_lands q fits.2) (code_lands k fits.3) fits.0 ng ba be ca ce go j f is small l t next skips b w s stands sound some
      turn_lands (Loop place body step k) fits ng ba be ca ce go j f is small l t next skips b w s stands sound some = absurd (one_is_none is)
