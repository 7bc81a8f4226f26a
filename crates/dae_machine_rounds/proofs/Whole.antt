-- A pair's outcome tells every run of an image that does the pair.
use Rattle.std.proofs.Common.{if◌then◌else◌, ◌≡◌, ℕ, ◌+◌, ◌*◌, ◌≤◌, inl, inr, Bool, true, false, List, ◌∷◌, ◌++◌, length, refl, ap, sym, ◌∙◌, subst, append-nil, length-append, arith, []}
use Rattle.std.proofs.Math.Nat.{mul-add, mul-le-mul_left}
use Rattle.dae_base.specs.declared.Side.TheVariants.{A, E}
use Rattle.dae_encode.specs.declared.Halt.{Halt}
use Rattle.dae_encode.specs.declared.Halt.TheVariants.{Status, Trap}
use Rattle.dae_encode.specs.Processor.{Processor}
use Rattle.dae_machine.specs.declared.Pick.{Pick}
use Rattle.dae_machine.specs.Runs.{often}
use Rattle.dae_machine.specs.Ends.{is_a, is_e, IsPrefixOf, HasRuns}
use Rattle.dae_machine.specs.Machine.{Setup, State, step, Runs, IsCounted}
use Rattle.dae_machine.proofs.LawsOfRuns.{run-on}
use Rattle.dae_machine.proofs.LawsOfRuns.{can_only_end, prefix_refl}
use Rattle.dae_meaning.specs.Worlds.{World}
use Rattle.dae_meaning.specs.Results.{Result, Over, Way, End, Halted as HaltedWith, Trapped, Going, Astray}
use Rattle.dae_ir.specs.Code.{Done}
use Rattle.dae_ir.specs.Form.{Program, deeper}
use Rattle.dae_ir.specs.Classes.{Classes}
use Rattle.dae_ir.specs.Rounds.{rounds}
use Rattle.dae_ir.specs.Canonical.{Sides, pair_calls_of, entered_both}
use Rattle.dae_ir_pair.specs.Budget.{Covers}
use Rattle.dae_machine.proofs.LawsOfRuns.{often-append}
use Rattle.dae_machine_rounds.specs.Spots.{Ends, point, Point, Spot, spot}
use Rattle.dae_machine_rounds.specs.Sides.{Implements}
use Rattle.dae_machine.specs.Walks.{nothing}
use Rattle.dae_machine_rounds.specs.Order.{InOrder, PickRound, picks_of, PickRounds}
use Rattle.dae_machine_rounds.specs.Promises.{Begins, OnlyEnds, EndsAs}
use Rattle.dae_machine.specs.Walks.{state_of, Grants, ends}
use Rattle.dae_machine.proofs.LawsOfRuns.{ran_a, ran_e}
use Rattle.dae_machine_rounds.proofs.Laws.{Counts, resting, GoesOn, level, IsSound, Stands, Ended, Lands, then_order, order_run, rest_empty, one_round}
use Rattle.dae_machine_rounds.proofs.Calls.{body_of, calls_land}

often_few : (e : Pick → Bool) (ps : List Pick) → often e ps ≤ length ps
often_few e [] = omega arith
often_few e (p ∷ ps) = by (e p) (often_few e ps) where
  by : (b : Bool) → often e ps ≤ length ps → (if b then 1 else 0) + often e ps ≤ length (p ∷ ps)
  by true h = omega arith
  by false h = omega arith

module _ (setup : Setup) (p : Program) (of : ℕ → Classes) (cap : ℕ) (most : ℕ) (At_a At_e : Spot → Processor → Type 0) (code_a : Implements setup p true (body_of setup p of cap true) most At_a) (code_e : Implements setup p false (body_of setup p of cap false) most At_e) (positive : 1 ≤ most)
    (covers : (f : ℕ) → Covers (of f) setup.depths (rounds (of f) cap true (p.body f) []))
    (main : ℕ) (w : World) (start : State) (x : Counts) (queues : start.queues ≡ resting (level x)) (memory : start.memory ≡ w.memory) (printed : start.printed ≡ w.printed) (sound : IsSound setup w)
    (begins_a : Begins setup true most At_a start.a (spot (point (body_of setup p of cap true main) Ends) (entered_both (of main) [] []).a (deeper p main w) [])) (begins_e : Begins setup false most At_e start.e (spot (point (body_of setup p of cap false main) Ends) (entered_both (of main) [] []).e (deeper p main w) [])) where
  abbrev entry : Point × Point
  entry = (point (body_of setup p of cap true main) Ends, point (body_of setup p of cap false main) Ends)

  -- both sides have come to main's entry
  record Begun : Type 0 where
    state : State
    picks : List Pick
    rounds' : PickRounds setup start picks state
    few : length picks ≤ most * 2
    stands : Stands setup most At_a At_e entry [] [] (entered_both (of main) [] []) (deeper p main w) state

  begun : Begun
  begun =
      let none_a : Grants setup.depths A start.memory 0 start.queues [] start.queues = ends in
      let none_e : Grants setup.depths E start.memory 0 start.queues [] start.queues = ends in
      let ra = ran_a setup start begins_a.walks none_a in
      let s1 = state_of begins_a.after start.e start.queues start.memory start.printed ra.total in
      let re = ran_e setup s1 begins_e.walks none_e in
      let s2 = state_of begins_a.after begins_e.after start.queues start.memory (start.printed ++ []) re.total in
      let round : PickRound = record { access = ra.picks; fills = []; execute = re.picks; hears = []; drains = [] } in
      let all = run-on (step setup) start s1 s2 ra.picks re.picks ra.runs re.runs in
      let shape : ra.picks ++ re.picks ≡ picks_of round = ap (λ (zs : List Pick). ra.picks ++ zs) (sym (append-nil re.picks)) in
      let l = length-append ra.picks (re.picks ++ []) in let l' = length-append re.picks [] in
      let c1 = ra.count in let c2 = re.count in let f1 = begins_a.few in let f2 = begins_e.few in
      let two : most * 2 ≡ most + most = omega arith in
      record {
        state = s2;
        picks = picks_of round;
        rounds' = one_round round (record { access = ra.access; fills = tt; execute = re.execute; hears = nothing; drains = inl refl }) (rest_empty start.queues (level x) queues) (subst (λ (zs : List Pick). Runs setup start zs s2) shape all) (rest_empty start.queues (level x) queues);
        few = omega arith;
        stands = record { a = begins_a.agrees; e = begins_e.agrees; counts = x; queues = queues; memory = memory; printed = append-nil start.printed ∙ printed };
      }

  abbrev outcome : ℕ → ℕ → Result Sides
  outcome n limit = pair_calls_of p of cap n limit main [] [] w

  -- it lands from there
  lands : (n limit : ℕ) → Lands setup most At_a At_e begun.state (8 * w.items) n n (λ (way : Way). (point Done Ends, point Done Ends)) [] [] (outcome n limit)
  lands n limit = calls_land setup p of cap most At_a At_e code_a code_e positive n covers limit main [] [] w begun.state [] [] begun.stands sound

  module _ (counted : IsCounted start) where
    ended : (halt : Halt) (u : World) → Ended setup most At_a At_e begun.state (8 * w.items) halt u → OnlyEnds setup start most halt u
    ended halt u y =
        let order = then_order begun.rounds' y.order in
        let l = length-append begun.picks y.picks in
        let f1 = begun.few in let f2 = y.few in let c = y.cost in
        let product = mul-add most 2 y.units in
        record {
          state = y.state;
          picks = begun.picks ++ y.picks;
          order = order;
          short = at_most (2 + y.units) (8 * u.items + 14) (omega arith) (omega arith);
          final = y.final;
          halt' = y.halt';
          memory = y.memory;
          printed = y.printed;
          only = can_only_end setup start counted y.state (begun.picks ++ y.picks) (order_run order) y.final;
        } where
          at_most : (a b : ℕ) → a ≤ b → length (begun.picks ++ y.picks) ≤ most * a → length (begun.picks ++ y.picks) ≤ most * b
          at_most a b h i = let k = mul-le-mul_left most h in omega arith

    pub ends_as : (n limit : ℕ) (end : End) (u : World) → outcome n limit ≡ Over end u → EndsAs setup start most end u
    ends_as n limit (HaltedWith status) u e = ended (Status status) u (subst (λ (r : Result Sides). Lands setup most At_a At_e begun.state (8 * w.items) n n (λ (way : Way). (point Done Ends, point Done Ends)) [] [] r) e (lands n limit))
    ends_as n limit (Trapped code) u e = ended (Trap code) u (subst (λ (r : Result Sides). Lands setup most At_a At_e begun.state (8 * w.items) n n (λ (way : Way). (point Done Ends, point Done Ends)) [] [] r) e (lands n limit))
    ends_as n limit Going u e = tt
    ends_as n limit Astray u e = tt

    -- a run in canonical order for each bound
    pub record Onward (n : ℕ) (u : World) : Type 0 where
      pub state : State
      pub picks : List Pick
      pub order : InOrder setup start picks state
      pub long : n ≤ length picks
      pub short : length picks ≤ most * (8 * u.items + 26)
      pub printed' : state.printed ≡ u.printed

    pub onward : (n limit : ℕ) (u : World) → outcome n limit ≡ Over Going u → Onward n u
    onward n limit u e = by (subst (λ (r : Result Sides). Lands setup most At_a At_e begun.state (8 * w.items) n n (λ (way : Way). (point Done Ends, point Done Ends)) [] [] r) e (lands n limit)) where
      by : GoesOn setup most At_a At_e begun.state (8 * w.items) n n u → Onward n u
      by y =
          let l = length-append begun.picks y.picks in
          let f1 = begun.few in let f2 = y.few in let c = y.cost in
          let product = mul-add most 2 y.units in
          let k = mul-le-mul_left most (units_few y.units c) in
          let e1 = often_few is_e y.picks in let e2 = often_few is_a y.picks in
          record {
            state = y.state;
            picks = begun.picks ++ y.picks;
            order = then_order begun.rounds' y.order;
            long = elim (y.moves) [ inl h ↦ (omega arith) | inr h ↦ (let h0 = h.0 in omega arith) ];
            short = omega arith;
            printed' = y.printed;
          } where
            units_few : (units : ℕ) → units + 8 * w.items ≤ 8 * u.items + 24 → 2 + units ≤ 8 * u.items + 26
            units_few units h = omega arith

    -- a run for each bound
    pub has_run : (outputs : ℕ → List ℕ) (n limit : ℕ) (u : World) → u.printed ≡ outputs n → outcome n limit ≡ Over Going u → HasRuns setup start outputs n
    has_run outputs n limit u same e =
        let y = subst (λ (r : Result Sides). Lands setup most At_a At_e begun.state (8 * w.items) n n (λ (way : Way). (point Done Ends, point Done Ends)) [] [] r) e (lands n limit) in
        let order = then_order begun.rounds' y.order in
        let oe = often-append is_e begun.picks y.picks in
        let oa = often-append is_a begun.picks y.picks in
        record {
          picks = begun.picks ++ y.picks;
          state = y.state;
          runs = order_run order;
          moves = elim (y.moves) [ inl h ↦ inl (omega arith) | inr h ↦ inr (let h0 = h.0 in omega arith, h.1) ];
          prints = subst (λ (zs : List ℕ). IsPrefixOf zs y.state.printed) (y.printed ∙ same) (prefix_refl y.state.printed);
          bound = n;
          no_more = subst (λ (zs : List ℕ). IsPrefixOf y.state.printed zs) (y.printed ∙ same) (prefix_refl y.state.printed);
        }
