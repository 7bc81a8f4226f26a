-- What both sides do between groups: silent moves, told conditions, and halts.
use Rattle.std.proofs.Common.{◌≡◌, ℕ, ◌+◌, ◌*◌, ◌<◌, ◌≤◌, ◌^◌, inl, Bool, true, false, List, [], ◌∷◌, ◌++◌, Some, None, if◌then◌else◌, refl, sym, ◌∙◌, subst, append-nil, arith}
use Rattle.std.proofs.lemmas.Bool.{lt-ltb}
use Rattle.dae_encode.specs.declared.Halt.TheVariants.{Plain, Status}
use Rattle.dae_encode.specs.Processor.{Processor}
use Rattle.dae_core.specs.Queues.{Queues}
use Rattle.dae_machine.specs.declared.Pick.{Pick}
use Rattle.dae_machine.specs.Machine.{Setup, State, Runs}
use Rattle.dae_meaning.specs.Worlds.{World, ticked}
use Rattle.dae_ir.specs.Code.{Do, If}
use Rattle.dae_ir.specs.Form.{Program, value, holds}
use Rattle.dae_ir.specs.Canonical.{Sides}
use Rattle.dae_ir.specs.Streams.{Actions}
use Rattle.dae_ir.specs.Deeds.{Plainly, WithStatus}
use Rattle.dae_ir.specs.declared.form.Operand.{Operand}
use Rattle.dae_ir.specs.declared.form.Test.{Test}
use Rattle.dae_ir.specs.declared.stream.Mark.{Mark}
use Rattle.dae_ir.specs.declared.stream.Action.TheVariants.{Stop}
use Rattle.dae_ir.specs.declared.stream.Branch.TheVariants.{Tells, Hears}
use Rattle.dae_machine_rounds.specs.Follows.{halts}
use Rattle.dae_machine_rounds.specs.Spots.{weight, Behind, After, Point, point, HeldCall, Spot, spot, Arrives, Halted, Moves, acts, tells, hears}
use Rattle.dae_machine_rounds.specs.Sides.{Implements}
use Rattle.dae_machine.specs.Walks.{nothing}
use Rattle.dae_machine.specs.Walks.{state_of, ends, grants}
use Rattle.dae_machine_rounds.proofs.Does.{Does, here, stops, did_a}
use Rattle.dae_machine_rounds.proofs.Both.{does_one}
use Rattle.dae_machine_rounds.proofs.Slots.{Counts, held, resting, none_waits}
use Rattle.dae_machine_rounds.proofs.Landing.{level, IsSound, Stands, Arrived, Ended}
use Rattle.dae_machine_rounds.proofs.Play.{Part, play, ends_with}
use Rattle.dae_machine_rounds.proofs.Groups.{rest_words, rest_empty, arrives, ends_so}

-- one move without a use, and none
pub one_move : {setup : Setup} {p : Program} {by_a : Bool} {body : ℕ → Actions} {m : List ℕ} {l : ℕ} {s t : Spot} {q : Queues} → Moves p by_a setup.memory body l s [] (Arrives t) → Part setup p by_a body m s q [] (Arrives t) q (weight s) l
one_move move = record { moves = _; fills = 0; instructions = _; does = does_one move ends tt; few = omega arith; some = omega arith }

pub no_move : {setup : Setup} {p : Program} {by_a : Bool} {body : ℕ → Actions} {m : List ℕ} {s : Spot} {q : Queues} → Part setup p by_a body m s q [] (Arrives s) q 0 0
no_move = record { moves = 0; fills = 0; instructions = 0; does = here; few = omega arith; some = omega arith }

pub told_word : (b : Bool) → (if b then 1 else 0) < 2 ^ 32
told_word true = omega arith
told_word false = omega arith

module _ (setup : Setup) (p : Program) (body_a body_e : ℕ → Actions) (most : ℕ) (At_a At_e : Spot → Processor → Type 0) (code_a : Implements setup p true body_a most At_a) (code_e : Implements setup p false body_e most At_e) (positive : 1 ≤ most) where
  -- each side goes on without a use of a queue that the other sees
  pub control : (s : State) (base : ℕ) (at at' : Point × Point) (ca ce ca' ce' : List HeldCall) (b b' : Sides) (w w' : World) (na ne le : ℕ) → Stands setup most At_a At_e at ca ce b w s → IsSound setup w'
      → ((m : List ℕ) (x : Counts) → Part setup p true body_a m (spot at.0 b.a w ca) (resting x) [] (Arrives (spot at'.0 b'.a w' ca')) (resting x) na 0) → ((m : List ℕ) (x : Counts) → Part setup p false body_e m (spot at.1 b.e w ce) (resting x) [] (Arrives (spot at'.1 b'.e w' ce')) (resting x) ne le)
      → w'.memory ≡ w.memory → w'.printed ≡ w.printed → na + ne + base ≤ 8 * w'.items → Arrived setup most At_a At_e s base le at' ca' ce' b' w'
  control s base at at' ca ce ca' ce' b b' w w' na ne le stands sound part_a part_e memory printed cost =
      let x = stands.counts in
      let q = resting (level x) in
      let played = play setup p body_a body_e most At_a At_e code_a code_e positive w.memory s (spot at.0 b.a w ca) (spot at.1 b.e w ce) q q (level x) 0 0 [] [] [] [] [] [] [] (Arrives (spot at'.0 b'.a w' ca')) (Arrives (spot at'.1 b'.e w' ce')) na ne 0 le
      stands.a stands.e stands.queues (rest_words (level x)) stands.memory (none_waits 0) (part_a w.memory (level x)) (λ wait. part_e w.memory (level x)) in
      let t = state_of played.a played.e q s.memory (s.printed ++ []) played.total in
      arrives setup p body_a body_e most At_a At_e code_a code_e positive s t base w' at' ca' ce' b' (na + 0 + ne + 0) le (rest_empty s.queues (level x) stands.queues)
      (ends_with setup p body_a body_e most At_a At_e code_a code_e positive s t _ _ [] q _ le 0 played [] [] nothing (inl refl) (omega arith) refl) (omega arith)
      (record { a = played.agrees_a; e = played.agrees_e; counts = x; queues = refl; memory = stands.memory ∙ sym memory; printed = append-nil s.printed ∙ (stands.printed ∙ sym printed) }) sound

  -- A decides, and tells E
  pub told_by_a : (s : State) (base : ℕ) (m : Mark) (t : Test) (xa ya ka : Actions) (ba : Behind) (xe ye ke : Actions) (be : Behind) (ca ce : List HeldCall) (b : Sides) (w : World) → Stands setup most At_a At_e (point (If m (Tells t) xa ya ka) ba, point (If m Hears xe ye ke) be) ca ce b w s → IsSound setup w → 1 ≤ setup.depths.ab → base + 2 ≤ 8 * w.items + 8
      → Arrived setup most At_a At_e s base 1 (point (if holds t b.a then xa else ya) (After ka ba), point (if holds t b.a then xe else ye) (After ke be)) ca ce b (ticked w)
  told_by_a s base m t xa ya ka ba xe ye ke be ca ce b w stands sound room cost =
      let x = stands.counts in
      let q = resting (level x) in
      let told = holds t b.a in
      let word : ℕ = if told then 1 else 0 in
      let q1 = held (level x) [] [] [] (word ∷ []) [] [] in
      let part_a : Part setup p true body_a w.memory (spot (point (If m (Tells t) xa ya ka) ba) b.a w ca) q [] (Arrives (spot (point (if told then xa else ya) (After ka ba)) b.a w ca)) q1 1 0 =
      record { moves = 1; fills = 0; instructions = 1; does = does_one (tells w) (grants {q = q} (lt-ltb 0 setup.depths.ab (omega arith)) refl ends) (tt, tt); few = omega arith; some = omega arith } in
      let part_e : Part setup p false body_e w.memory (spot (point (If m Hears xe ye ke) be) b.e w ce) q1 [] (Arrives (spot (point (if told then xe else ye) (After ke be)) b.e w ce)) q 1 1 =
      record { moves = 1; fills = 0; instructions = 1; does = does_one (hears w told) (grants {q = q1} refl refl ends) (told_word told, tt); few = omega arith; some = omega arith } in
      let played = play setup p body_a body_e most At_a At_e code_a code_e positive w.memory s (spot (point (If m (Tells t) xa ya ka) ba) b.a w ca) (spot (point (If m Hears xe ye ke) be) b.e w ce) q q (level x) 0 0 [] [] [] (word ∷ []) [] [] [] (Arrives (spot (point (if told then xa else ya) (After ka ba)) b.a w ca)) (Arrives (spot (point (if told then xe else ye) (After ke be)) b.e w ce)) 1 1 0 1
      stands.a stands.e stands.queues (rest_words (level x)) stands.memory (none_waits 0) part_a (λ wait. part_e) in
      let t' = state_of played.a played.e q s.memory (s.printed ++ []) played.total in
      arrives setup p body_a body_e most At_a At_e code_a code_e positive s t' base (ticked w) (point (if told then xa else ya) (After ka ba), point (if told then xe else ye) (After ke be)) ca ce b (1 + 0 + 1 + 0) 1 (rest_empty s.queues (level x) stands.queues)
      (ends_with setup p body_a body_e most At_a At_e code_a code_e positive s t' _ _ [] q _ 1 0 played [] [] nothing (inl refl) (omega arith) refl) (omega arith)
      (record { a = played.agrees_a; e = played.agrees_e; counts = x; queues = refl; memory = stands.memory; printed = append-nil s.printed ∙ stands.printed }) (record { size = sound.size; bytes = sound.bytes })

  -- E decides, and tells A
  pub told_by_e : (s : State) (base : ℕ) (m : Mark) (t : Test) (xa ya ka : Actions) (ba : Behind) (xe ye ke : Actions) (be : Behind) (ca ce : List HeldCall) (b : Sides) (w : World) → Stands setup most At_a At_e (point (If m Hears xa ya ka) ba, point (If m (Tells t) xe ye ke) be) ca ce b w s → IsSound setup w → 1 ≤ setup.depths.eb → base + 2 ≤ 8 * w.items + 8
      → Arrived setup most At_a At_e s base 1 (point (if holds t b.e then xa else ya) (After ka ba), point (if holds t b.e then xe else ye) (After ke be)) ca ce b (ticked w)
  told_by_e s base m t xa ya ka ba xe ye ke be ca ce b w stands sound room cost =
      let x = stands.counts in
      let q = resting (level x) in
      let told = holds t b.e in
      let word : ℕ = if told then 1 else 0 in
      let q1 = held (level x) [] [] [] [] (word ∷ []) [] in
      let sa = spot (point (If m Hears xa ya ka) ba) b.a w ca in
      let sa' = spot (point (if told then xa else ya) (After ka ba)) b.a w ca in
      let se' = spot (point (if told then xe else ye) (After ke be)) b.e w ce in
      let part_e : Part setup p false body_e w.memory (spot (point (If m (Tells t) xe ye ke) be) b.e w ce) q [] (Arrives se') q1 1 1 =
      record { moves = 1; fills = 0; instructions = 1; does = does_one (tells w) (grants {q = q} (lt-ltb 0 setup.depths.eb (omega arith)) refl ends) (tt, tt); few = omega arith; some = omega arith } in
      let played = play setup p body_a body_e most At_a At_e code_a code_e positive w.memory s sa (spot (point (If m (Tells t) xe ye ke) be) b.e w ce) q q1 (level x) 0 0 [] [] [] [] [] [] [] (Arrives sa) (Arrives se') 0 1 0 1
      stands.a stands.e stands.queues (rest_words (level x)) stands.memory (none_waits 0) no_move (λ wait. part_e) in
      let s3 = state_of played.a played.e q1 s.memory (s.printed ++ []) played.total in
      let does : Does setup p true body_a s.memory 1 0 1 sa q1 [] (Arrives sa') q = does_one (hears w told) (grants {q = q1} refl refl ends) (told_word told, tt) in
      let heard = did_a setup p body_a most At_a code_a s.memory s3 refl refl played.agrees_a does in
      let ran = heard.ran in
      let count = ran.count in let few' = heard.few in
      let t' = state_of heard.after played.e q s.memory (s.printed ++ []) ran.total in
      arrives setup p body_a body_e most At_a At_e code_a code_e positive s t' base (ticked w) (point (if told then xa else ya) (After ka ba), point (if told then xe else ye) (After ke be)) ca ce b (0 + 0 + 1 + 1) 1 (rest_empty s.queues (level x) stands.queues)
      (ends_with setup p body_a body_e most At_a At_e code_a code_e positive s t' _ _ [] q1 _ 1 1 played ran.picks [] ran.access (inl refl) (omega arith) (subst (λ (zs : List Pick). Runs setup s3 zs t') (sym (append-nil ran.picks)) ran.runs)) (omega arith)
      (record { a = heard.agrees; e = played.agrees_e; counts = x; queues = refl; memory = stands.memory; printed = append-nil s.printed ∙ stands.printed }) (record { size = sound.size; bytes = sound.bytes })

  -- both halt
  pub both_halt : (s : State) (base : ℕ) (m : Mark) (v : Operand) (ka : Actions) (ba : Behind) (ke : Actions) (be : Behind) (ca ce : List HeldCall) (b : Sides) (w : World) → Stands setup most At_a At_e (point (Do m (Stop None) ka) ba, point (Do m (Stop (Some v)) ke) be) ca ce b w s → IsSound setup w → base + 2 ≤ 8 * w.items + 8
      → Ended setup most At_a At_e s base (Status (value v b.e)) (ticked w)
  both_halt s base m v ka ba ke be ca ce b w stands sound cost =
      let x = stands.counts in
      let q = resting (level x) in
      let part_a : Part setup p true body_a w.memory (spot (point (Do m (Stop None) ka) ba) b.a w ca) q [] (Halted Plainly) q 1 0 =
      record { moves = 1; fills = 0; instructions = 0; does = stops (acts w refl sound.size halts) ends tt; few = omega arith; some = omega arith } in
      let part_e : Part setup p false body_e w.memory (spot (point (Do m (Stop (Some v)) ke) be) b.e w ce) q [] (Halted (WithStatus (value v b.e))) q 1 0 =
      record { moves = 1; fills = 0; instructions = 0; does = stops (acts w refl sound.size halts) ends tt; few = omega arith; some = omega arith } in
      let played = play setup p body_a body_e most At_a At_e code_a code_e positive w.memory s (spot (point (Do m (Stop None) ka) ba) b.a w ca) (spot (point (Do m (Stop (Some v)) ke) be) b.e w ce) q q (level x) 0 0 [] [] [] [] [] [] [] (Halted Plainly) (Halted (WithStatus (value v b.e))) 1 1 0 0
      stands.a stands.e stands.queues (rest_words (level x)) stands.memory (none_waits 0) part_a (λ wait. part_e) in
      let t' = state_of played.a played.e q s.memory (s.printed ++ []) played.total in
      ends_so setup p body_a body_e most At_a At_e code_a code_e positive s t' base (ticked w) Plain (Status (value v b.e)) (level x) 0 0 [] [] [] [] [] (1 + 0 + 1 + 0) 0 (rest_empty s.queues (level x) stands.queues)
      (ends_with setup p body_a body_e most At_a At_e code_a code_e positive s t' _ _ [] q _ 0 0 played [] [] nothing (inl refl) (omega arith) refl) (omega arith)
      played.agrees_a played.agrees_e refl stands.memory (append-nil s.printed ∙ stands.printed)
