-- Regions land: one side's run of its region, and the message behind a region of A that holds a loop.
use Rattle.std.proofs.Common.{◌≡◌, ℕ, suc, ◌+◌, ◌*◌, ◌≤◌, inl, inr, Bool, true, false, List, [], ◌∷◌, ◌++◌, length, refl, ap, sym, ◌∙◌, subst, append-nil, length-append, arith, None}
use Rattle.std.proofs.Math.Nat.{mul-add, mul-suc}
use Rattle.std.proofs.lemmas.Bool.{lt-ltb}
use Rattle.dae_base.specs.declared.Place.{Place}
use Rattle.dae_base.specs.declared.Side.TheVariants.{E}
use Rattle.dae_base.specs.declared.Queue.TheVariants.{Ab}
use Rattle.dae_encode.specs.declared.Inst.{Inst}
use Rattle.dae_encode.specs.declared.QueueUse.TheVariants.{Take}
use Rattle.dae_encode.specs.declared.Request.TheVariants.{Asks}
use Rattle.dae_encode.specs.Processor.{Processor, request}
use Rattle.dae_machine.specs.declared.Pick.{Pick}
use Rattle.dae_machine.specs.Ends.{is_a}
use Rattle.dae_machine.specs.Machine.{Setup, State, step, Runs}
use Rattle.dae_machine.proofs.LawsOfRuns.{run-on}
use Rattle.dae_meaning.specs.Worlds.{World}
use Rattle.dae_meaning.specs.Results.{Result, At, Over, Way, Next, Leaves, Skips, Returns, Halted, Trapped, Going, Astray}
use Rattle.dae_ir.specs.Code.{Do, Each, exec}
use Rattle.dae_meaning.specs.Variables.{Env}
use Rattle.dae_ir.specs.Form.{Form, Program}
use Rattle.dae_ir.specs.Classes.{Classes}
use Rattle.dae_ir.specs.Rounds.{stays, rounds, is_a_item, is_e_item}
use Rattle.dae_ir_pair.specs.Budget.{OwnWithin}
use Rattle.dae_ir.specs.declared.form.Item.{Item}
use Rattle.dae_ir.specs.Canonical.{Sides, PairCalls, does_a, does_e, region_meaning, on_side, with_a, with_e}
use Rattle.dae_ir.specs.Streams.{Actions, mark, when, has_loop, inside_of}
use Rattle.dae_ir.specs.Deeds.{deed}
use Rattle.dae_ir.specs.declared.form.Operand.TheVariants.{Number}
use Rattle.dae_ir.specs.declared.form.Test.{Test}
use Rattle.dae_ir.specs.declared.stream.Action.TheVariants.{Tell, Hear}
use Rattle.dae_machine.specs.Uses.{Use, Takes}
use Rattle.dae_machine_rounds.specs.Follows.{Leaves as Leaves', Follows, went, takes, pushes}
use Rattle.dae_machine_rounds.specs.Spots.{Behind, Point, point, HeldCall, Spot, spot, Arrives, acts}
use Rattle.dae_machine.specs.Walks.{Walks, stays as stays', quiet, makes}
use Rattle.dae_machine_rounds.specs.Sides.{Implements}
use Rattle.dae_machine.specs.Walks.{nothing}
use Rattle.dae_machine_rounds.specs.Order.{PickRound, none}
use Rattle.dae_machine.specs.Walks.{state_of, Grants, ends, grants}
use Rattle.dae_machine.proofs.LawsOfRuns.{ran_e}
use Rattle.dae_machine.proofs.LawsOfRuns.{often-append}
use Rattle.dae_machine_rounds.proofs.Laws.{loads_words, Does, did_a, did_e, does_both, does_one, does_same, held, resting, none_waits, with_al, level, exits, IsSound, Stands, Arrived, Lands, one_each, Part, play, ends_with, rest_words, rest_empty, arrives, no_move}
use Rattle.dae_machine_rounds.proofs.Sided.{exit, IsBlock, Still, Does_as}
use Rattle.dae_machine_rounds.proofs.RegionsA.{whole_region_a}
use Rattle.dae_machine_rounds.proofs.RegionsE.{region_e_does}
use Rattle.dae_machine_rounds.proofs.RegionEnds.{WayFits, NotGoing, stays_fit, no_loop_ends, way_a, going_a, way_e, going_e}
use Rattle.dae_machine_rounds.proofs.Stretches.{RegionLands}

-- the silent instructions before a message is taken
record Before (setup : Setup) (p : Processor) (n : ℕ) : Type 0 where
  processor : Processor
  steps : ℕ
  walks : Walks setup E p [] steps processor
  few : steps ≤ n
  word : ℕ
  inst : Inst
  asks : request setup.copies E setup.code_e setup.memory processor ≡ Asks (Take Ab) word inst

before_message : {setup : Setup} {p q : Processor} {x n : ℕ} {uses : List Use} → Walks setup E p (Takes Ab x ∷ uses) n q → Before setup p n
before_message (quiet g w) = let b = before_message w in let f = b.few in record { processor = b.processor; steps = suc b.steps; walks = quiet g b.walks; few = omega arith; word = b.word; inst = b.inst; asks = b.asks }
before_message {p = p} (makes g w) = record { processor = p; steps = 0; walks = stays'; few = omega arith; word = g.word; inst = g.inst; asks = g.asks }

spot_still : (at : Point) (env : Env) (w u : World) (text : List ℕ) (calls : List HeldCall) → Still w text u → spot at env w calls ≡ spot at env u calls
spot_still at env w u text calls h = rw (h.frame, h.top, h.depth) refl

still_sound : (setup : Setup) (w u : World) (text : List ℕ) → Still w text u → IsSound setup w → IsSound setup u
still_sound setup w u text h s = record { size = rw h.memory s.size; bytes = rw h.memory s.bytes }

-- what the items of a region are to be
abbrev pub ItemOfA : Setup → Classes → Item → Type 0
ItemOfA setup c item = (is_a_item c item ≡ true) × OwnWithin c setup.depths item

abbrev pub ItemOfE : Classes → Item → Type 0
ItemOfE c item = is_e_item c item ≡ true

module _ (setup : Setup) (p : Program) (body_a body_e : ℕ → Actions) (most : ℕ) (At_a At_e : Spot → Processor → Type 0) (code_a : Implements setup p true body_a most At_a) (code_e : Implements setup p false body_e most At_e) (positive : 1 ≤ most) (of : ℕ → Classes) (cap n : ℕ) where
  abbrev Lands' : State → ℕ → (Way → Point × Point) → List HeldCall → List HeldCall → Result Sides → Type 0
  Lands' s base go ca ce r = Lands setup most At_a At_e s base n n go ca ce r

  -- one round in which each side does its part
  one_part : (s : State) (base : ℕ) (at at' : Point × Point) (ca ce : List HeldCall) (b b' : Sides) (w w' : World) (text ab : List ℕ) (t r na ne : ℕ) → (stands : Stands setup most At_a At_e at ca ce b w s) → IsSound setup w → Still w text w'
      → Part setup p true body_a w.memory (spot at.0 b.a w ca) (resting (level stands.counts)) [] (Arrives (spot at'.0 b'.a w' ca)) (held (with_al t r (level stands.counts)) [] [] [] ab [] []) na 0
      → Part setup p false body_e w.memory (spot at.1 b.e w ce) (held (with_al t r (level stands.counts)) [] [] [] ab [] []) text (Arrives (spot at'.1 b'.e w' ce)) (resting (with_al t r (level stands.counts))) ne 0
      → na + ne + base ≤ 8 * w'.items → Arrived setup most At_a At_e s base 0 at' ca ce b' w'
  one_part s base at at' ca ce b b' w w' text ab t r na ne stands sound still part_a part_e cost =
      let x = level stands.counts in
      let x' = with_al t r x in
      let played = play setup p body_a body_e most At_a At_e code_a code_e positive w.memory s (spot at.0 b.a w ca) (spot at.1 b.e w ce) (resting x) (resting x') x' 0 0 [] [] [] ab [] [] text (Arrives (spot at'.0 b'.a w' ca)) (Arrives (spot at'.1 b'.e w' ce)) na ne 0 0
      stands.a stands.e stands.queues (rest_words x) stands.memory (none_waits 0) part_a (λ wait. part_e) in
      let t' = state_of played.a played.e (resting x') s.memory (s.printed ++ text) played.total in
      arrives setup p body_a body_e most At_a At_e code_a code_e positive s t' base w' at' ca ce b' (na + 0 + ne + 0) 0 (rest_empty s.queues x stands.queues)
      (ends_with setup p body_a body_e most At_a At_e code_a code_e positive s t' _ _ text (resting x') _ 0 0 played [] [] nothing (inl refl) (omega arith) refl) (omega arith)
      (record { a = played.agrees_a; e = played.agrees_e; counts = with_al t r stands.counts; queues = refl; memory = stands.memory ∙ sym still.memory; printed = ap (λ (z : List ℕ). z ++ text) stands.printed ∙ sym still.printed }) (still_sound setup w w' text still sound)

  e_part : (s : State) (base : ℕ) (at at' : Point × Point) (ca ce : List HeldCall) (b b' : Sides) (w w' : World) (text : List ℕ) (t r na ne : ℕ) → (stands : Stands setup most At_a At_e at ca ce b w s) → IsSound setup w → Still w text w'
      → Part setup p true body_a w.memory (spot at.0 b.a w ca) (resting (level stands.counts)) [] (Arrives (spot at'.0 b'.a w' ca)) (resting (level stands.counts)) na 0
      → Part setup p false body_e w.memory (spot at.1 b.e w ce) (resting (level stands.counts)) text (Arrives (spot at'.1 b'.e w' ce)) (resting (with_al t r (level stands.counts))) ne 0
      → na + ne + base ≤ 8 * w'.items → Arrived setup most At_a At_e s base 0 at' ca ce b' w'
  e_part s base at at' ca ce b b' w w' text t r na ne stands sound still part_a part_e cost =
      let x = level stands.counts in
      let x' = with_al t r x in
      let played = play setup p body_a body_e most At_a At_e code_a code_e positive w.memory s (spot at.0 b.a w ca) (spot at.1 b.e w ce) (resting x) (resting x') x 0 0 [] [] [] [] [] [] text (Arrives (spot at'.0 b'.a w' ca)) (Arrives (spot at'.1 b'.e w' ce)) na ne 0 0
      stands.a stands.e stands.queues (rest_words x) stands.memory (none_waits 0) part_a (λ wait. part_e) in
      let t' = state_of played.a played.e (resting x') s.memory (s.printed ++ text) played.total in
      arrives setup p body_a body_e most At_a At_e code_a code_e positive s t' base w' at' ca ce b' (na + 0 + ne + 0) 0 (rest_empty s.queues x stands.queues)
      (ends_with setup p body_a body_e most At_a At_e code_a code_e positive s t' _ _ text (resting x') _ 0 0 played [] [] nothing (inl refl) (omega arith) refl) (omega arith)
      (record { a = played.agrees_a; e = played.agrees_e; counts = with_al t r stands.counts; queues = refl; memory = stands.memory ∙ sym still.memory; printed = ap (λ (z : List ℕ). z ++ text) stands.printed ∙ sym still.printed }) (still_sound setup w w' text still sound)

  -- ---- A's

  module _ (c : Classes) (place : Place) (ng : ℕ) (ka : Actions) (ba : Behind) (ke : Actions) (be : Behind) (ca ce : List HeldCall) (b : Sides) (w : World) (s : State) (sound : IsSound setup w) where
    a_lands : (code : Actions) (loops : Bool) → (loops ≡ true → 1 ≤ setup.depths.ab) → (stands : Stands setup most At_a At_e (point code ba, point (when loops (mark place ng) (Hear None) ke) be) ca ce b w s) → (r : Result Env) → WayFits false r → (loops ≡ false → NotGoing r)
        → Does_as setup p true body_a w.memory ca (spot (point code ba) b.a w ca) (level stands.counts) w (8 * w.items + 2) n (exit (when loops (mark place ng) (Tell (Number 0)) ka) ba) r → Lands' s (8 * w.items) (exits ka ba ke be) ca ce (on_side (with_a b.e) r)
    a_lands code false room stands (At Next env w') way going y =
        let still : Still w [] w' = subst (λ (z : List ℕ). Still w z w') (y.quiet refl) y.still in
        let cost = y.cost in
        one_part s (8 * w.items) (point code ba, point ke be) (point ka ba, point ke be) ca ce b (record { a = env; e = b.e }) w w' [] [] y.al_taken y.al_reserved (y.moves + y.fills) 0 stands sound still
        (record { moves = y.moves; fills = y.fills; instructions = y.instructions; does = does_same refl refl refl (y.quiet refl) y.does; few = omega arith; some = omega arith })
        (subst (λ (z : Spot). Part setup p false body_e w.memory (spot (point ke be) b.e w ce) (resting (with_al y.al_taken y.al_reserved (level stands.counts))) [] (Arrives z) (resting (with_al y.al_taken y.al_reserved (level stands.counts))) 0 0) (spot_still (point ke be) b.e w w' [] ce still) no_move) (omega arith)
    a_lands code true room stands (At Next env w') way going y =
        let still : Still w [] w' = subst (λ (z : List ℕ). Still w z w') (y.quiet refl) y.still in
        let cost = y.cost in
        let one = room refl in
        let x' = with_al y.al_taken y.al_reserved (level stands.counts) in
        let size' : length w'.memory ≡ setup.memory = rw still.memory sound.size in
        let tells : Does setup p true body_a w.memory 1 0 0 (spot (point (Do (mark place ng) (Tell (Number 0)) ka) ba) env w' ca) (resting x') [] (Arrives (spot (point ka ba) env w' ca)) (held x' [] [] [] (0 ∷ []) [] []) =
        does_one (acts w' refl size' (pushes went)) (grants {q = resting x'} (lt-ltb 0 setup.depths.ab (omega arith)) refl ends) (tt, tt) in
        let follows : Follows (deed p false (Hear None) w b.e) (Takes Ab 0 ∷ []) (Leaves' b.e) = takes 0 went in
        let hears : Does setup p false body_e w.memory 1 0 0 (spot (point (Do (mark place ng) (Hear None) ke) be) b.e w ce) (held x' [] [] [] (0 ∷ []) [] []) [] (Arrives (spot (point ke be) b.e w ce)) (resting x') =
        does_one (acts w refl sound.size follows) (grants {q = held x' [] [] [] (0 ∷ []) [] []} refl refl ends) (omega arith, tt) in
        let part_e : Part setup p false body_e w.memory (spot (point (Do (mark place ng) (Hear None) ke) be) b.e w ce) (held x' [] [] [] (0 ∷ []) [] []) [] (Arrives (spot (point ke be) b.e w ce)) (resting x') 1 0 = record { moves = 1; fills = 0; instructions = 0; does = hears; few = omega arith; some = omega arith } in
        one_part s (8 * w.items) (point code ba, point (Do (mark place ng) (Hear None) ke) be) (point ka ba, point ke be) ca ce b (record { a = env; e = b.e }) w w' [] (0 ∷ []) y.al_taken y.al_reserved (y.moves + y.fills + 1) 1 stands sound still
        (record { moves = _; fills = _; instructions = _; does = does_both (does_same refl refl refl (y.quiet refl) y.does) tells; few = omega arith; some = omega arith })
        (subst (λ (z : Spot). Part setup p false body_e w.memory (spot (point (Do (mark place ng) (Hear None) ke) be) b.e w ce) (held x' [] [] [] (0 ∷ []) [] []) [] (Arrives z) (resting x') 1 0) (spot_still (point ke be) b.e w w' [] ce still) part_e) (omega arith)
    a_lands code loops room stands (At Leaves env w') way going y = absurd (let e : false ≡ true = way in cc)
    a_lands code loops room stands (At Skips env w') way going y = absurd (let e : false ≡ true = way in cc)
    a_lands code loops room stands (At Returns env w') way going y = absurd way
    a_lands code loops room stands (Over (Halted k) w') way going y = absurd y
    a_lands code loops room stands (Over (Trapped k) w') way going y = absurd y
    a_lands code false room stands (Over Going w') way going y = absurd (going refl)
    a_lands code true room stands (Over Going w') way going y =
        let x = level stands.counts in
        let x' = with_al y.al_taken y.al_reserved x in
        let d = did_a setup p body_a most At_a code_a w.memory s stands.memory stands.queues stands.a y.does in
        let ra = d.ran in
        let follows : Follows (deed p false (Hear None) w b.e) (Takes Ab 0 ∷ []) (Leaves' b.e) = takes 0 went in
        let walked = code_e.moves s.e stands.e (acts w refl sound.size follows) (omega arith, tt) in
        let before = before_message walked.walks in
        let s1 = state_of d.after s.e (resting x') s.memory s.printed ra.total in
        let none_e : Grants setup.depths E s.memory 0 (resting x') [] (resting x') = ends in
        let re = ran_e setup s1 before.walks none_e in
        let s2 = state_of d.after before.processor (resting x') s.memory (s.printed ++ []) re.total in
        let round : PickRound = record { access = ra.picks; fills = []; execute = re.picks; hears = []; drains = [] } in
        let still : Still w [] w' = subst (λ (z : List ℕ). Still w z w') (y.quiet refl) y.still in
        let all = run-on (step setup) s s1 s2 ra.picks re.picks ra.runs re.runs in
        let shape : ra.picks ++ re.picks ≡ ra.picks ++ (re.picks ++ []) = ap (λ (zs : List Pick). ra.picks ++ zs) (sym (append-nil re.picks)) in
        let lengths = length-append ra.picks (re.picks ++ []) in let lengths' = length-append re.picks [] in
        let c1 = ra.count in let c2 = re.count in let f1 = d.few in let f2 = before.few in let f3 = walked.few in
        let e1 = mul-add most y.moves y.fills in
        let e2 = mul-suc most (y.moves + y.fills) in
        let o1 = one_each most y.fills positive in
        let cost = y.cost in let some = y.some in let some' = d.some in let v = ra.moves' in
        let oftens = often-append is_a ra.picks (re.picks ++ []) in
        record {
          state = s2;
          picks = ra.picks ++ (re.picks ++ []);
          order = record { whole = []; between = s; rounds = none (rest_empty s.queues x stands.queues); last = ra.picks ++ (re.picks ++ []); round = round; is_round = record { access = ra.access; fills = tt; execute = re.execute; hears = nothing; drains = inl refl }; rest = []; front = append-nil (ra.picks ++ (re.picks ++ [])); runs = subst (λ (zs : List Pick). Runs setup s zs s2) shape all; all = refl };
          units = suc (y.moves + y.fills);
          few = omega arith;
          cost = omega arith;
          moves = inr (omega arith, record { word = before.word; inst = before.inst; asks = before.asks; none = refl });
          printed = append-nil s.printed ∙ (stands.printed ∙ (sym (append-nil w.printed) ∙ sym still.printed));
        }
    a_lands code loops room stands (Over Astray w') way going y = tt

    -- ---- E's

    e_lands : (code : Actions) (stands : Stands setup most At_a At_e (point ka ba, point code be) ca ce b w s) → (r : Result Env) → WayFits false r
        → Does_as setup p false body_e w.memory ce (spot (point code be) b.e w ce) (level stands.counts) w (8 * w.items) n (exit ke be) r → Lands' s (8 * w.items) (exits ka ba ke be) ca ce (on_side (with_e b.a) r)
    e_lands code stands (At Next env w') way y =
        let cost = y.cost in
        let x = level stands.counts in
        let no : Part setup p true body_a w.memory (spot (point ka ba) b.a w ca) (resting x) [] (Arrives (spot (point ka ba) b.a w' ca)) (resting x) 0 0 = subst (λ (z : Spot). Part setup p true body_a w.memory (spot (point ka ba) b.a w ca) (resting x) [] (Arrives z) (resting x) 0 0) (spot_still (point ka ba) b.a w w' y.text ca y.still) no_move in
        e_part s (8 * w.items) (point ka ba, point code be) (point ka ba, point ke be) ca ce b (record { a = b.a; e = env }) w w' y.text y.al_taken y.al_reserved 0 (y.moves + y.fills) stands sound y.still no
        (record { moves = y.moves; fills = y.fills; instructions = y.instructions; does = y.does; few = omega arith; some = omega arith }) (omega arith)
    e_lands code stands (At Leaves env w') way y = absurd (let e : false ≡ true = way in cc)
    e_lands code stands (At Skips env w') way y = absurd (let e : false ≡ true = way in cc)
    e_lands code stands (At Returns env w') way y = absurd way
    e_lands code stands (Over (Halted k) w') way y = absurd y
    e_lands code stands (Over (Trapped k) w') way y = absurd y
    e_lands code stands (Over Going w') way y =
        let x = level stands.counts in
        let d = did_e setup p body_e most At_e code_e w.memory s stands.memory stands.queues stands.e y.does in
        let re = d.ran in
        let round : PickRound = record { access = []; fills = []; execute = re.picks; hears = []; drains = [] } in
        let c2 = re.count in let f1 = d.few in let cost = y.cost in let some = y.some in let some' = d.some in let v = re.moves' in
        record {
          state = state_of s.a d.after (resting (with_al y.al_taken y.al_reserved x)) s.memory (s.printed ++ y.text) re.total;
          picks = re.picks;
          order = record { whole = []; between = s; rounds = none (rest_empty s.queues x stands.queues); last = re.picks; round = round; is_round = record { access = nothing; fills = tt; execute = re.execute; hears = nothing; drains = inl refl }; rest = []; front = refl; runs = re.runs; all = refl };
          units = y.moves;
          few = omega arith;
          cost = omega arith;
          moves = inl (omega arith);
          printed = ap (λ (z : List ℕ). z ++ y.text) stands.printed ∙ sym y.still.printed;
        }
    e_lands code stands (Over Astray w') way y = tt

  -- what A's region is to be
  pub region_a_lands : (calls : PairCalls) (c : Classes) (code : Form) → IsBlock code → stays false code ≡ true → (has_loop code ≡ true → 1 ≤ setup.depths.ab) → Each (ItemOfA setup c) (λ (t : Test). Unit {0}) code → RegionLands setup p body_a body_e most At_a At_e code_a code_e positive of cap n calls c true code
  region_a_lands calls c code is stay room fits place ng ka ba ke be ca ce b w s stands sound =
      let k = when (has_loop code) (mark place ng) (Tell (Number 0)) ka in
      a_lands c place ng ka ba ke be ca ce b w s sound (inside_of true of c ng (rounds c cap false code []) k) (has_loop code) room stands (exec (region_meaning (does_a c)) n code b.a w) (stays_fit (does_a c) (way_a c) (going_a c) n false code stay b.a w) (λ e. no_loop_ends (does_a c) (way_a c) (going_a c) n code e b.a w)
      (whole_region_a setup p body_a w.memory ca of c cap n sound.size (loads_words w.memory sound.bytes) code is fits ng k ba b.a w (level stands.counts) refl)

  pub region_e_lands : (calls : PairCalls) (c : Classes) (code : Form) → IsBlock code → stays false code ≡ true → Each (ItemOfE c) (λ (t : Test). Unit {0}) code → RegionLands setup p body_a body_e most At_a At_e code_a code_e positive of cap n calls c false code
  region_e_lands calls c code is stay fits place ng ka ba ke be ca ce b w s stands sound =
      e_lands c place ng ka ba ke be ca ce b w s sound (inside_of false of c ng (rounds c cap false code []) ke) stands (exec (region_meaning (does_e c)) n code b.e w) (stays_fit (does_e c) (way_e c) (going_e c) n false code stay b.e w)
      (region_e_does setup p body_e w.memory ce of c cap n sound.size (loads_words w.memory sound.bytes) code fits [] tt ng ke be b.e w (level stands.counts) refl)
