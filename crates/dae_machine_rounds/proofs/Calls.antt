-- Calls land, with calls inside one another up to a limit, where the budget covers each function's rounds.
use Rattle.std.proofs.Common.{◌≡◌, ℕ, zero, suc, ◌*◌, ◌≤◌, Bool, true, false, List, [], arith}
use Rattle.dae_encode.specs.Processor.{Processor}
use Rattle.dae_machine.specs.Machine.{Setup, State}
use Rattle.dae_meaning.specs.Results.{Result, At, Over, Way, Next, Leaves, Skips, Returns, Halted, Trapped, Going, Astray}
use Rattle.dae_ir.specs.Code.{Done, Do, If, Loop, Each}
use Rattle.dae_ir.specs.Form.{Form, Program, deeper}
use Rattle.dae_ir.specs.Classes.{Classes}
use Rattle.dae_ir.specs.declared.form.Item.{Item}
use Rattle.dae_ir.specs.declared.form.Test.{Test}
use Rattle.dae_ir.specs.Rounds.{is_a_item, Round, Group, Alone, Region, Decision, Rounds, rounds, is_for_e, is_copied}
use Rattle.dae_ir.specs.Canonical.{Sides, PairCalls, pair_calls_of, entered_both}
use Rattle.dae_ir.specs.Streams.{Actions, stream_of}
use Rattle.dae_ir_pair.specs.Budget.{OwnWithin, Covers, AWithin, EWithin, AtMost}
use Rattle.dae_machine_rounds.specs.Spots.{Ends, point, HeldCall, Spot}
use Rattle.dae_machine_rounds.specs.Sides.{Implements}
use Rattle.dae_machine_rounds.proofs.Laws.{exits, Lands}
use Rattle.dae_machine_rounds.proofs.Regions.{ItemOfA, region_a_lands, region_e_lands}
use Rattle.dae_machine_rounds.proofs.RegionRounds.{IsRegion, rounds_ok}
use Rattle.dae_machine_rounds.proofs.Stretches.{RoundFits, DecisionFits, CallsLand, code_lands}

module _ (setup : Setup) (p : Program) (of : ℕ → Classes) (cap : ℕ) where
  abbrev pub body_of : Bool → ℕ → Actions
  body_of by_a f = stream_of by_a of (of f) cap (p.body f)

  module _ (most : ℕ) (At_a At_e : Spot → Processor → Type 0) (code_a : Implements setup p true (body_of true) most At_a) (code_e : Implements setup p false (body_of false) most At_e) (positive : 1 ≤ most) (n : ℕ) where
    -- A's own loads in a region, with what its items are
    items_of_a : (c : Classes) (code : Form) → Each (λ (item : Item). is_a_item c item ≡ true) (λ (t : Test). Unit {0}) code → Each (OwnWithin c setup.depths) (λ (t : Test). Unit {0}) code → Each (ItemOfA setup c) (λ (t : Test). Unit {0}) code
    items_of_a c Done h i = tt
    items_of_a c (Do place item k) h i = ((h.0, i.0), items_of_a c k h.1 i.1)
    items_of_a c (If place t x y k) h i = (tt, items_of_a c x h.1 i.1, items_of_a c y h.2 i.2, items_of_a c k h.3 i.3)
    items_of_a c (Loop place x y k) h i = (items_of_a c x h.0 i.0, items_of_a c y h.1 i.1, items_of_a c k h.2 i.2)

    round_fits : (calls : PairCalls) (c : Classes) (r : Round) → AWithin c setup.depths r → EWithin setup.depths r → AtMost (is_for_e c) setup.depths.ld r → AtMost (is_copied c) setup.depths.cq r → IsRegion c r → RoundFits setup p (body_of true) (body_of false) most At_a At_e code_a code_e positive of cap n calls c r
    round_fits calls c (Group g last) a e ld cq h = record { room = record { ld = omega (arith, ld); cq = omega (arith, cq); al = a.0; ab = a.2 }; sa = a.1; sd = e.0; eb = e.1 }
    round_fits calls c (Alone jump) a e ld cq h = tt
    round_fits calls c (Region true code) a e ld cq h = region_a_lands setup p (body_of true) (body_of false) most At_a At_e code_a code_e positive of cap n calls c code h.block h.stays' a.1 (items_of_a c code h.items a.0)
    round_fits calls c (Region false code) a e ld cq h = region_e_lands setup p (body_of true) (body_of false) most At_a At_e code_a code_e positive of cap n calls c code h.block h.stays' h.items

    all_fit : (calls : PairCalls) (c : Classes) (r : Rounds) → Each (AWithin c setup.depths) (λ (q : Decision). q.by_a ≡ true → 1 ≤ setup.depths.ab) r → Each (EWithin setup.depths) (λ (q : Decision). q.by_a ≡ false → 1 ≤ setup.depths.eb) r → Each (AtMost (is_for_e c) setup.depths.ld) (λ (q : Decision). Unit {0}) r → Each (AtMost (is_copied c) setup.depths.cq) (λ (q : Decision). Unit {0}) r → Each (IsRegion c) (λ (q : Decision). Unit {0}) r
        → Each (RoundFits setup p (body_of true) (body_of false) most At_a At_e code_a code_e positive of cap n calls c) (DecisionFits setup p (body_of true) (body_of false) most At_a At_e code_a code_e positive of cap n) r
    all_fit calls c Done a e ld cq h = tt
    all_fit calls c (Do place r k) a e ld cq h = (round_fits calls c r a.0 e.0 ld.0 cq.0 h.0, all_fit calls c k a.1 e.1 ld.1 cq.1 h.1)
    all_fit calls c (If place d r q k) a e ld cq h = ((a.0, e.0), all_fit calls c r a.1 e.1 ld.1 cq.1 h.1, all_fit calls c q a.2 e.2 ld.2 cq.2 h.2, all_fit calls c k a.3 e.3 ld.3 cq.3 h.3)
    all_fit calls c (Loop place r q k) a e ld cq h = (all_fit calls c r a.0 e.0 ld.0 cq.0 h.0, all_fit calls c q a.1 e.1 ld.1 cq.1 h.1, all_fit calls c k a.2 e.2 ld.2 cq.2 h.2)

    abbrev rounds_of : ℕ → Rounds
    rounds_of f = rounds (of f) cap true (p.body f) []

    any_way : (s : State) (base : ℕ) (ca ce : List HeldCall) (r : Result Sides) → Lands setup most At_a At_e s base n n (exits Done Ends Done Ends) ca ce r → Lands setup most At_a At_e s base n n (λ (way : Way). (point Done Ends, point Done Ends)) ca ce r
    any_way s base ca ce (At Next b w) x = x
    any_way s base ca ce (At Leaves b w) x = x
    any_way s base ca ce (At Skips b w) x = x
    any_way s base ca ce (At Returns b w) x = x
    any_way s base ca ce (Over (Halted c) w) x = x
    any_way s base ca ce (Over (Trapped c) w) x = x
    any_way s base ca ce (Over Going w) x = x
    any_way s base ca ce (Over Astray w) x = tt

    module _ (covers : (f : ℕ) → Covers (of f) setup.depths (rounds_of f)) where
      pub calls_land : (limit : ℕ) → CallsLand setup p (body_of true) (body_of false) most At_a At_e code_a code_e positive of cap n (pair_calls_of p of cap n limit)
      calls_land zero f xs ys w s ca ce stands sound = tt
      calls_land (suc limit) f xs ys w s ca ce stands sound =
          let calls = pair_calls_of p of cap n limit in
          let c = covers f in
          any_way s (8 * w.items) ca ce _
          (code_lands setup p (body_of true) (body_of false) most At_a At_e code_a code_e positive of cap n calls (calls_land limit) (of f) (rounds_of f) (all_fit calls (of f) (rounds_of f) c.a c.e c.loads c.copies (rounds_ok (of f) cap true (p.body f) []))
          0 Done Ends Done Ends ca ce (entered_both (of f) xs ys) (deeper p f w) s stands (record { size = sound.size; bytes = sound.bytes }))
