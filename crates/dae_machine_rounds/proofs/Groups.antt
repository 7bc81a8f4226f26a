-- A group on the machine is one round.
use Rattle.std.proofs.Common.{◌≡◌, ℕ, suc, ◌+◌, ◌*◌, ◌≤◌, inl, inr, true, false, List, [], ◌∷◌, ◌++◌, length, Option, Some, None, refl, ap, sym, ◌∙◌, subst, append-nil, add-zero, arith}
use Rattle.dae_base.specs.declared.Place.{Place}
use Rattle.dae_base.specs.declared.Width.{Width}
use Rattle.dae_base.specs.declared.Depths.{Depths}
use Rattle.dae_base.specs.Words.{stored}
use Rattle.dae_base.proofs.Laws.{stored_bytes, stored_length}
use Rattle.dae_encode.specs.declared.Halt.{Halt}
use Rattle.dae_encode.specs.declared.Halt.TheVariants.{Plain, Trap}
use Rattle.dae_encode.specs.Processor.{Processor}
use Rattle.dae_queues.specs.declared.StoreAt.{StoreAt}
use Rattle.dae_core.specs.Queues.{Queues}
use Rattle.dae_machine.specs.declared.Pick.{Pick}
use Rattle.dae_machine.specs.declared.Pick.TheVariants.{Drain}
use Rattle.dae_machine.specs.Machine.{Setup, State, step, Runs}
use Rattle.dae_meaning.specs.Worlds.{World, ticked}
use Rattle.dae_meaning.specs.Results.{Next, At, Over, Result, Trapped, within, checked}
use Rattle.dae_meaning.specs.Operations.{misplaced, spelled}
use Rattle.dae_meaning.specs.Variables.{Env}
use Rattle.dae_ir.specs.Form.{Program, value, fault, with_stored, with_printed}
use Rattle.dae_ir.specs.Classes.{Classes}
use Rattle.dae_ir.specs.Rounds.{is_for_e, is_copied, how_many}
use Rattle.dae_ir.specs.Canonical.{Sides, Access, Passed, Failed, Strayed, access, execute, finished, grouped}
use Rattle.dae_ir.specs.Streams.{Actions, mark, message, parts, e_part, gives_address, hears_check, e_last, a_group, e_group, only_failure}
use Rattle.dae_ir.specs.Deeds.{Plainly, WithTrap, heard_code}
use Rattle.dae_ir.specs.declared.form.Operand.TheVariants.{Number}
use Rattle.dae_ir.specs.declared.form.Operand.{Operand}
use Rattle.dae_ir.specs.declared.form.Check.{Check}
use Rattle.dae_meaning.specs.declared.Spelling.{Spelling}
use Rattle.dae_ir.specs.declared.stream.Action.TheVariants.{Tell}
use Rattle.dae_ir.specs.declared.stream.Part.{Part as GroupPart}
use Rattle.dae_ir.specs.declared.stream.Part.TheVariants.{Sets, Loads as Load', Tests}
use Rattle.dae_ir.specs.declared.stream.Last.{Last}
use Rattle.dae_ir.specs.declared.stream.Last.TheVariants.{Nothing, Stores, Prints, Decides}
use Rattle.dae_ir_pair.specs.Budget.{is_test, any_part, is_store, is_decided}
use Rattle.dae_machine_rounds.specs.Spots.{Behind, Point, point, HeldCall, Spot, spot, Came, Arrives, Halted}
use Rattle.dae_machine_rounds.specs.Sides.{Implements}
use Rattle.dae_machine.specs.Walks.{nothing}
use Rattle.dae_machine_rounds.specs.Order.{PickRound, picks_of, IsRound, IsEmpty, PickRounds, none, more}
use Rattle.dae_machine.specs.Walks.{state_of}
use Rattle.dae_machine.specs.Walks.{AreWords, WordsWait}
use Rattle.dae_machine_rounds.proofs.Does.{Does, here, did_a}
use Rattle.dae_machine_rounds.proofs.Both.{does_both}
use Rattle.dae_machine_rounds.proofs.Worlds.{loads_words, Like, LoadsWords, fault_code}
use Rattle.dae_machine_rounds.proofs.Slots.{Counts, Loads, held, resting, sending, waiting_slots, filled_slots, words_for, NoneBars, none_waits, new_waits}
use Rattle.dae_machine_rounds.proofs.PartsA.{HasRoom, Passes, Fails, Comes, parts_come}
use Rattle.dae_machine_rounds.proofs.PartsE.{parts_taken}
use Rattle.dae_machine_rounds.proofs.Sends.{Sends, group_sends}
use Rattle.dae_machine_rounds.proofs.Failures.{FailsAs, group_fails}
use Rattle.dae_machine_rounds.proofs.Tails.{told_as, bit, has_address, issued_by, addresses, IsPlaced, closes_a, a_hears, a_hears_trap, hear_does, hear_halts, datum_does, emit_does, decide_does, decide_halts}
use Rattle.dae_machine_rounds.proofs.Landing.{level, exits, IsSound, Stands, Arrived, Ended, Lands}
use Rattle.dae_machine_rounds.proofs.Play.{one_each, Part, Played, play, Whole, ends_with}
use Rattle.dae_machine_rounds.proofs.Final.{final}

pub spot_like : (at : Point) (env : Env) (w u : World) (calls : List HeldCall) → Like w u → spot at env w calls ≡ spot at env u calls
spot_like at env w u calls h = rw (h.frame, h.top, h.depth) refl

pub rest_is : (c : Counts) → resting c ≡ sending c [] [] [] []
rest_is c = ap (λ (k : ℕ). resting (record c { ld_reserved = k })) (sym (add-zero c.ld_reserved))

pub rest_empty : (q : Queues) (c : Counts) → q ≡ resting c → IsEmpty q
rest_empty q c e = subst (λ (z : Queues). IsEmpty z) (sym e) (record { ld = refl; al = refl; sa = refl; sd = refl; ab = refl; eb = refl; cq = refl })

pub rest_words : (c : Counts) → WordsWait (resting c)
rest_words c = record { ab = tt; eb = tt; cq = tt }

pub one_round : {setup : Setup} {s t : State} (r : PickRound) → IsRound r → IsEmpty s.queues → Runs setup s (picks_of r) t → IsEmpty t.queues → PickRounds setup s (picks_of r) t
one_round {setup} {s} {t} r is e h f = subst (λ (zs : List Pick). PickRounds setup s zs t) (append-nil (picks_of r)) (more r is e h (none f))

tests_few : (g : List GroupPart) → bit (any_part is_test g) ≤ length g
tests_few [] = omega arith
tests_few (Sets place v x ∷ g) = let h = tests_few g in omega arith
tests_few (Load' place v kind x ∷ g) = let h = tests_few g in omega arith
tests_few (Tests place check ∷ g) = omega arith

-- there is room for a group
pub record GroupFits (c : Classes) (d : Depths) (g : List GroupPart) (last : Last) : Type 0 where
  pub room : HasRoom c d 0 0 g
  pub sa : is_store last ≡ true → 1 ≤ d.sa
  pub sd : is_store last ≡ true → 1 ≤ d.sd
  pub eb : is_decided last ≡ true → 1 ≤ d.eb

module _ (setup : Setup) (p : Program) (body_a body_e : ℕ → Actions) (most : ℕ) (At_a At_e : Spot → Processor → Type 0) (code_a : Implements setup p true body_a most At_a) (code_e : Implements setup p false body_e most At_e) (positive : 1 ≤ most) where
  -- a whole round leads to where both sides stand again
  pub arrives : (s t : State) (base : ℕ) (w' : World) (at : Point × Point) (ca ce : List HeldCall) (b : Sides) (n least : ℕ) → IsEmpty s.queues → Whole setup p body_a body_e most At_a At_e code_a code_e positive s t n least → n + base ≤ 8 * w'.items → Stands setup most At_a At_e at ca ce b w' t → IsSound setup w'
      → Arrived setup most At_a At_e s base least at ca ce b w'
  arrives s t base w' at ca ce b n least empty r cost stands sound =
      let u = r.bound in
      record { state = t; picks = picks_of r.round; rounds = one_round r.round r.is empty r.runs (rest_empty t.queues (level stands.counts) stands.queues); units = r.units; few = r.few; cost = omega arith; some = r.some; stands = stands; sound = sound }

  -- the last round leads to a final state
  pub ends_so : (s t : State) (base : ℕ) (w' : World) (h i : Halt) (x : Counts) (k stamp : ℕ) (m : List ℕ) (ls : Loads) (ab eb cq : List ℕ) (n least : ℕ) → IsEmpty s.queues → Whole setup p body_a body_e most At_a At_e code_a code_e positive s t n least → n + base ≤ 8 * w'.items
      → t.a.halt ≡ Some h → t.e.halt ≡ Some i → t.queues ≡ held x (filled_slots k stamp m ls) [] [] ab eb cq → t.memory ≡ w'.memory → t.printed ≡ w'.printed → Ended setup most At_a At_e s base i w'
  ends_so s t base w' h i x k stamp m ls ab eb cq n least empty r cost a e q mem out =
      let u = r.bound in
      record {
        state = t;
        picks = picks_of r.round;
        order = record { whole = []; between = s; rounds = none empty; last = picks_of r.round; round = r.round; is_round = r.is; rest = []; front = append-nil (picks_of r.round); runs = r.runs; all = refl };
        units = r.units;
        few = r.few;
        cost = omega arith;
        final = final setup t x k stamp m ls ab eb cq h i a e q;
        halt' = e;
        memory = mem;
        printed = out;
      }

  module _ (c : Classes) (n : ℕ) (g : List GroupPart) (ka : Actions) (ba : Behind) (ke : Actions) (be : Behind) (ca ce : List HeldCall) (w : World) (s : State) (bound : ℕ) where
    abbrev begin_a : Last → Point
    begin_a last = point (a_group c n g last ka) ba

    abbrev begin_e : Last → Point
    begin_e last = point (e_group c n g last ke) be

    -- E's part up to its last action
    e_parts : (last : Last) (e : Env) (u : World) (x : Counts) (stamp : ℕ) (ls : Loads) (stores : List StoreAt) (copies : List ℕ) → Like w u → length w.memory ≡ setup.memory → LoadsWords w.memory → AreWords copies → length ls ≡ how_many (is_for_e c) g → length copies ≡ how_many (is_copied c) g
        → Part setup p false body_e w.memory (spot (begin_e last) e w ce) (held x (filled_slots x.ld_taken stamp w.memory ls) stores [] (told_as (any_part is_test g)) [] copies) [] (Arrives (spot (point (e_last n last ke) be) (execute c g w.frame (words_for w.memory ls) copies e) u ce)) (held (record x { ld_taken = x.ld_taken + length ls }) [] stores [] [] [] []) (3 * length g) 0
    e_parts last e u x stamp ls stores copies like size words are h i =
        let y = parts_taken setup p body_e (e_last n last ke) be ce w.memory stamp stores c n g w e x ls copies size words are h i in
        let few = y.few in
        let bits = tests_few g in
        let heard = hear_does setup p body_e be ce w.memory n g (parts (e_part c n) g (e_last n last ke)) e w x (filled_slots x.ld_taken stamp w.memory ls) stores copies size in
        let both = does_both heard y.does in
        record {
          moves = _;
          fills = _;
          instructions = _;
          does = subst (λ (z : Spot). Does setup p false body_e w.memory (bit (any_part is_test g) + y.moves) (0 + y.fills) (0 + y.least) (spot (begin_e last) e w ce) (held x (filled_slots x.ld_taken stamp w.memory ls) stores [] (told_as (any_part is_test g)) [] copies) [] (Arrives z) (held (record x { ld_taken = x.ld_taken + length ls }) [] stores [] [] [] []))
              (spot_like (point (e_last n last ke) be) (execute c g w.frame (words_for w.memory ls) copies e) w u ce like) both;
          few = omega arith;
          some = omega arith;
        }

    -- the counts behind a group that has passed
    abbrev after : Last → Counts → ℕ → ℕ → ℕ → Counts
    after last x t r loads = record x { ld_taken = x.ld_reserved + loads; ld_reserved = x.ld_reserved + loads; al_taken = t; al_reserved = r; issued = issued_by last x.issued }

    no_bars : (last : Last) (env : Env) (i : ℕ) → NoneBars i (addresses last env i)
    no_bars Nothing env i = none_waits i
    no_bars (Stores place width x y) env i = new_waits i (value x env) width
    no_bars (Prints place spelling x) env i = none_waits i
    no_bars (Decides place check) env i = none_waits i

    module _ (b : Sides) (sound : IsSound setup w) where
      -- what E's variables are behind the group
      abbrev behind_e : List ℕ → List ℕ → Env
      behind_e words copies = execute c g w.frame words copies b.e

      -- A's part, the fills, and E's part with its last action
      passed : (last : Last) → GroupFits c setup.depths g last → Stands setup most At_a At_e (begin_a last, begin_e last) ca ce b w s → (x : Counts) → s.queues ≡ resting (level x) → (a : Env) (words copies : List ℕ) (u : World) (y : Passes setup p body_a (gives_address n last (message n (Tell (Number 0)) g (hears_check n last ka))) ba ca (length g) (spot (begin_a last) b.a w ca) (level x) [] [] w a words copies u)
          → length words ≡ how_many (is_for_e c) g → length copies ≡ how_many (is_copied c) g → IsPlaced setup.memory last a → (text : List ℕ) (c_e : Came) (q : Queues) (nl : ℕ)
          → Part setup p false body_e w.memory (spot (point (e_last n last ke) be) (behind_e words copies) u ce) (held (after last x y.al_taken y.al_reserved (length y.more)) [] (addresses last a x.issued) [] [] [] []) text c_e q nl 0
          → Played setup p body_a body_e most At_a At_e code_a code_e positive s (Arrives (spot (point (hears_check n last ka) ba) a u ca)) c_e text q (y.moves + y.fills + (has_address last + bit (any_part is_test g)) + length y.more + (3 * length g + nl)) 0
      passed last fits stands x queues a words copies u y h i good text c_e q nl part =
          let size : length u.memory ≡ setup.memory = rw y.like.memory sound.size in
          let room = fits.room in
          let closing = closes_a setup p body_a ba ca w.memory n g last (hears_check n last ka) a u (record (level x) { al_taken = y.al_taken; al_reserved = y.al_reserved }) y.more copies size good fits.sa room.ab in
          let does_a = does_both y.does closing in
          let stores = addresses last a x.issued in
          let X = record (level x) { ld_reserved = x.ld_reserved + length y.more; al_taken = y.al_taken; al_reserved = y.al_reserved; issued = issued_by last x.issued } in
          let are : length y.more ≡ how_many (is_for_e c) g = sym (length_words w.memory y.more) ∙ (ap length y.are ∙ h) in
          let few = part.few in
          play setup p body_a body_e most At_a At_e code_a code_e positive w.memory s (spot (begin_a last) b.a w ca) (spot (begin_e last) b.e w ce) (sending (level x) [] [] [] []) q X x.ld_reserved x.issued y.more stores [] (told_as (any_part is_test g)) [] copies text
          (Arrives (spot (point (hears_check n last ka) ba) a u ca)) c_e (y.moves + y.fills + (has_address last + bit (any_part is_test g))) (3 * length g + nl) 0 0 stands.a stands.e (queues ∙ rest_is (level x)) (subst (λ (z : Queues). WordsWait z) (rest_is (level x)) (rest_words (level x))) stands.memory (no_bars last a x.issued)
          (record { moves = _; fills = _; instructions = _; does = does_a; few = omega arith; some = omega arith })
          (λ wait. (
          let z = e_parts last b.e u X x.issued y.more stores copies y.like sound.size (loads_words w.memory sound.bytes) wait.cq are i in
          let z' : Part setup p false body_e w.memory (spot (begin_e last) b.e w ce) (held X (filled_slots x.ld_reserved x.issued w.memory y.more) stores [] (told_as (any_part is_test g)) [] copies) [] (Arrives (spot (point (e_last n last ke) be) (behind_e words copies) u ce)) (held (after last x y.al_taken y.al_reserved (length y.more)) [] stores [] [] [] []) (3 * length g) 0 =
          subst (λ (ws : List ℕ). Part setup p false body_e w.memory (spot (begin_e last) b.e w ce) (held X (filled_slots x.ld_reserved x.issued w.memory y.more) stores [] (told_as (any_part is_test g)) [] copies) [] (Arrives (spot (point (e_last n last ke) be) (behind_e ws copies) u ce)) (held (after last x y.al_taken y.al_reserved (length y.more)) [] stores [] [] [] []) (3 * length g) 0) y.are z in
          let few' = z'.few in
          record { moves = _; fills = _; instructions = _; does = does_both z'.does part.does; few = omega arith; some = omega arith })) where
            length_words : (m : List ℕ) (ls : Loads) → length (words_for m ls) ≡ length ls
            length_words m [] = refl
            length_words m (l ∷ ls) = ap suc (length_words m ls)

      -- A's part of the group has passed
      record Passing (last : Last) : Type 0 where
        fits : GroupFits c setup.depths g last
        stands : Stands setup most At_a At_e (begin_a last, begin_e last) ca ce b w s
        x : Counts
        queues : s.queues ≡ resting (level x)
        a : Env
        words : List ℕ
        copies : List ℕ
        u : World
        y : Passes setup p body_a (gives_address n last (message n (Tell (Number 0)) g (hears_check n last ka))) ba ca (length g) (spot (begin_a last) b.a w ca) (level x) [] [] w a words copies u
        h : length words ≡ how_many (is_for_e c) g
        i : length copies ≡ how_many (is_copied c) g

      abbrev x_of : (last : Last) → Passing last → Counts
      x_of last z = after last z.x z.y.al_taken z.y.al_reserved (length z.y.more)

      like_size : (last : Last) (z : Passing last) → length z.u.memory ≡ setup.memory
      like_size last z = rw z.y.like.memory sound.size

      like_sound : (last : Last) (z : Passing last) → IsSound setup z.u
      like_sound last z = record { size = like_size last z; bytes = rw z.y.like.memory sound.bytes }

      empty : (last : Last) (z : Passing last) → IsEmpty s.queues
      empty last z = rest_empty s.queues (level z.x) z.queues

      abbrev total : (last : Last) → Passing last → ℕ
      total last z = z.y.moves + z.y.fills + (has_address last + bit (any_part is_test g)) + length z.y.more

      total_few : (last : Last) (z : Passing last) → total last z + 3 * length g + 8 * w.items ≤ 8 * z.u.items + has_address last
      total_few last z = let cost = z.y.cost in let all = z.y.all in let bits = tests_few g in omega arith

      memory_is : (last : Last) (z : Passing last) → s.memory ≡ z.u.memory
      memory_is last z = z.stands.memory ∙ sym z.y.like.memory

      printed_is : (last : Last) (z : Passing last) → s.printed ≡ z.u.printed
      printed_is last z = z.stands.printed ∙ sym z.y.like.printed

      abbrev sides : (last : Last) → Passing last → Sides
      sides last z = record { a = z.a; e = behind_e z.words z.copies }

      -- E's last action, with what is played before it
      with_last : (last : Last) (z : Passing last) → IsPlaced setup.memory last z.a → (text : List ℕ) (c_e : Came) (q : Queues) (nl : ℕ) → Part setup p false body_e w.memory (spot (point (e_last n last ke) be) (behind_e z.words z.copies) z.u ce) (held (x_of last z) [] (addresses last z.a z.x.issued) [] [] [] []) text c_e q nl 0
          → Played setup p body_a body_e most At_a At_e code_a code_e positive s (Arrives (spot (point (hears_check n last ka) ba) z.a z.u ca)) c_e text q (total last z + (3 * length g + nl)) 0
      with_last last z good text c_e q nl part = passed last z.fits z.stands z.x z.queues z.a z.words z.copies z.u z.y z.h z.i good text c_e q nl part

      abbrev Lands' : Result Sides → Type 0
      Lands' r = Lands setup most At_a At_e s (8 * w.items) bound bound (exits ka ba ke be) ca ce r

      nothing_closes : (z : Passing Nothing) → Lands' (finished p Nothing (sides Nothing z) z.u)
      nothing_closes z =
          let last = Nothing in
          let u = z.u in
          let q = resting (x_of last z) in
          let played = with_last last z tt [] (Arrives (spot (point ke be) (behind_e z.words z.copies) u ce)) q 0 (record { moves = 0; fills = 0; instructions = 0; does = here; few = omega arith; some = omega arith }) in
          let t = state_of played.a played.e q s.memory (s.printed ++ []) played.total in
          let few = total_few last z in
          arrives s t (8 * w.items) u (point ka ba, point ke be) ca ce (sides last z) (total last z + (3 * length g + 0) + 0) 0 (empty last z) (ends_with setup p body_a body_e most At_a At_e code_a code_e positive s t _ _ [] q _ 0 0 played [] [] nothing (inl refl) (omega arith) refl) (omega arith)
          (record { a = played.agrees_a; e = played.agrees_e; counts = x_of last z; queues = refl; memory = memory_is last z; printed = append-nil s.printed ∙ printed_is last z }) (like_sound last z)

      prints_closes : (place : Place) (spelling : Spelling) (v : Operand) (z : Passing (Prints place spelling v)) → Lands' (finished p (Prints place spelling v) (sides (Prints place spelling v) z) z.u)
      prints_closes place spelling v z =
          let last = Prints place spelling v in
          let u = z.u in
          let q = resting (x_of last z) in
          let e = behind_e z.words z.copies in
          let text = spelled spelling (value v e) ++ [] in
          let played = with_last last z tt text (Arrives (spot (point ke be) e u ce)) q 1 (record { moves = 1; fills = 0; instructions = 0; does = emit_does setup p body_e be ce w.memory (mark place n) spelling v ke e u q (like_size last z); few = omega arith; some = omega arith }) in
          let t = state_of played.a played.e q s.memory (s.printed ++ text) played.total in
          let few = total_few last z in
          let sound = like_sound last z in
          arrives s t (8 * w.items) (with_printed spelling (value v e) u) (point ka ba, point ke be) ca ce (sides last z) (total last z + (3 * length g + 1) + 0) 0 (empty last z) (ends_with setup p body_a body_e most At_a At_e code_a code_e positive s t _ _ text q _ 0 0 played [] [] nothing (inl refl) (omega arith) refl) (omega arith)
          (record { a = played.agrees_a; e = played.agrees_e; counts = x_of last z; queues = refl; memory = memory_is last z; printed = ap (λ (zs : List ℕ). s.printed ++ zs) (append-nil (spelled spelling (value v e))) ∙ ap (λ (zs : List ℕ). zs ++ spelled spelling (value v e)) (printed_is last z) })
          (record { size = sound.size; bytes = sound.bytes })

      stores_closes : (place : Place) (width : Width) (v datum : Operand) (z : Passing (Stores place width v datum)) (o : Option ℕ) → misplaced width (value v z.a) (length z.u.memory) ≡ o → Lands' (within o z.u (At Next (sides (Stores place width v datum) z) (with_stored width (value v z.a) (value datum (behind_e z.words z.copies)) z.u)))
      stores_closes place width v datum z (Some code) good = tt
      stores_closes place width v datum z None good =
          let last = Stores place width v datum in
          let u = z.u in
          let e = behind_e z.words z.copies in
          let x = x_of last z in
          let addr = value v z.a in
          let store : StoreAt = record { number = z.x.issued; addr = addr; width = width } in
          let q = held x [] (store ∷ []) (value datum e ∷ []) [] [] [] in
          let sd = z.fits.sd refl in
          let fit : misplaced width addr setup.memory ≡ None = subst (λ (k : ℕ). misplaced width addr k ≡ None) (like_size last z) good in
          let played = with_last last z fit [] (Arrives (spot (point ke be) e u ce)) q 1 (record { moves = 1; fills = 0; instructions = 0; does = datum_does setup p body_e be ce w.memory (mark place n) datum ke e u x (store ∷ []) (like_size last z) sd; few = omega arith; some = omega arith }) in
          let x1 = record x { drained = x.drained + 1 } in
          let memory = stored width addr (value datum e) s.memory in
          let t = state_of played.a played.e (resting x1) memory (s.printed ++ []) (played.total + 1) in
          let few = total_few last z in
          let sound = like_sound last z in
          let drains : step setup (state_of played.a played.e q s.memory (s.printed ++ []) played.total) Drain ≡ Some t = refl in
          arrives s t (8 * w.items) (with_stored width addr (value datum e) u) (point ka ba, point ke be) ca ce (sides last z) (total last z + (3 * length g + 1) + 1) 0 (empty last z)
          (ends_with setup p body_a body_e most At_a At_e code_a code_e positive s t _ _ [] q _ 0 1 played [] (Drain ∷ []) nothing (inr refl) (let o = one_each most 1 positive in omega arith) drains) (omega arith)
          (record { a = played.agrees_a; e = played.agrees_e; counts = x1; queues = refl; memory = ap (λ (m : List ℕ). stored width addr (value datum e) m) (memory_is last z); printed = append-nil s.printed ∙ printed_is last z })
          (record { size = stored_length width addr (value datum e) u.memory ∙ sound.size; bytes = stored_bytes width addr (value datum e) u.memory sound.bytes })

      decides_closes : (place : Place) (check : Check) (z : Passing (Decides place check)) (o : Option ℕ) → fault p check z.u (behind_e z.words z.copies) ≡ o → Lands' (checked o (sides (Decides place check) z) (ticked z.u))
      decides_closes place check z None e =
          let last = Decides place check in
          let u = z.u in
          let env = behind_e z.words z.copies in
          let x = x_of last z in
          let q = held x [] [] [] [] (0 ∷ []) [] in
          let played = with_last last z tt [] (Arrives (spot (point ke be) env u ce)) q 2 (record { moves = _; fills = _; instructions = _; does = decide_does setup p body_e be ce w.memory (mark place n) check ke env u x (like_size last z) (z.fits.eb refl) e; few = omega arith; some = omega arith }) in
          let s3 = state_of played.a played.e q s.memory (s.printed ++ []) played.total in
          let heard = did_a setup p body_a most At_a code_a s.memory s3 refl refl played.agrees_a (a_hears setup p body_a ba ca s.memory n place check ka z.a u x [] [] [] (like_size last z)) in
          let ran = heard.ran in
          let count = ran.count in let few' = heard.few in
          let t = state_of heard.after played.e (resting x) s.memory (s.printed ++ []) ran.total in
          let few = total_few last z in
          let sound = like_sound last z in
          arrives s t (8 * w.items) (ticked u) (point ka ba, point ke be) ca ce (sides last z) (total last z + (3 * length g + 2) + 1) 0 (empty last z)
          (ends_with setup p body_a body_e most At_a At_e code_a code_e positive s t _ _ [] q _ 0 1 played ran.picks [] ran.access (inl refl) (omega arith) (subst (λ (zs : List Pick). Runs setup s3 zs t) (sym (append-nil ran.picks)) ran.runs)) (omega arith)
          (record { a = heard.agrees; e = played.agrees_e; counts = x; queues = refl; memory = memory_is last z; printed = append-nil s.printed ∙ printed_is last z }) (record { size = sound.size; bytes = sound.bytes })
      decides_closes place check z (Some code) e =
          let last = Decides place check in
          let u = z.u in
          let env = behind_e z.words z.copies in
          let x = x_of last z in
          let q = held x [] [] [] [] (code ∷ []) [] in
          let played = with_last last z tt [] (Halted (WithTrap code)) q 2 (record { moves = 1; fills = 0; instructions = 0; does = decide_halts setup p body_e be ce w.memory (mark place n) check _ env u x code (like_size last z) (z.fits.eb refl) e; few = omega arith; some = omega arith }) in
          let s3 = state_of played.a played.e q s.memory (s.printed ++ []) played.total in
          let heard = did_a setup p body_a most At_a code_a s.memory s3 refl refl played.agrees_a (a_hears_trap setup p body_a ba ca s.memory n place check ka z.a u x [] [] [] code (like_size last z) (fault_code p check u env code e) played.words.eb.0) in
          let ran = heard.ran in
          let count = ran.count in let few' = heard.few in
          let t = state_of heard.after played.e (resting x) s.memory (s.printed ++ []) ran.total in
          let few = total_few last z in
          ends_so s t (8 * w.items) (ticked u) Plain (Trap code) x 0 0 [] [] [] [] [] (total last z + (3 * length g + 2) + 1) 0 (empty last z)
          (ends_with setup p body_a body_e most At_a At_e code_a code_e positive s t _ _ [] q _ 0 1 played ran.picks [] ran.access (inl refl) (omega arith) (subst (λ (zs : List Pick). Runs setup s3 zs t) (sym (append-nil ran.picks)) ran.runs)) (omega arith)
          heard.agrees played.agrees_e refl (memory_is last z) (append-nil s.printed ∙ printed_is last z)

      closes : (last : Last) (z : Passing last) → Lands' (finished p last (sides last z) z.u)
      closes Nothing z = nothing_closes z
      closes (Stores place width v datum) z = stores_closes place width v datum z (misplaced width (value v z.a) (length z.u.memory)) refl
      closes (Prints place spelling v) z = prints_closes place spelling v z
      closes (Decides place check) z = decides_closes place check z (fault p check z.u (behind_e z.words z.copies)) refl

      -- a check of A has failed
      failed : (last : Last) → Stands setup most At_a At_e (begin_a last, begin_e last) ca ce b w s → (x : Counts) → s.queues ≡ resting (level x) → (code : ℕ) (u : World) → any_part is_test g ≡ true → heard_code (only_failure g) code ≡ code
          → Fails setup p body_a (gives_address n last (message n (Tell (Number 0)) g (hears_check n last ka))) ba ca (spot (begin_a last) b.a w ca) (level x) [] [] w code u → Lands' (Over (Trapped code) u)
      failed last stands x queues code u has alone y =
          let X = record (level x) { ld_reserved = x.ld_reserved + length y.more; al_taken = y.al_taken; al_reserved = y.al_reserved } in
          let q = held X (filled_slots x.ld_reserved x.issued w.memory y.more) [] [] [] [] y.copies in
          let rest = parts (e_part c n) g (e_last n last ke) in
          let part_a : Part setup p true body_a w.memory (spot (begin_a last) b.a w ca) (sending (level x) [] [] [] []) [] (Halted Plainly) (held X (waiting_slots x.ld_reserved x.issued y.more) [] [] (code ∷ []) [] y.copies) (y.moves + y.fills) 0 = record { moves = y.moves; fills = y.fills; instructions = y.least; does = y.does; few = omega arith; some = omega arith } in
          let played = play setup p body_a body_e most At_a At_e code_a code_e positive w.memory s (spot (begin_a last) b.a w ca) (spot (begin_e last) b.e w ce) (sending (level x) [] [] [] []) q X x.ld_reserved x.issued y.more [] [] (code ∷ []) [] y.copies []
          (Halted Plainly) (Halted (WithTrap code)) (y.moves + y.fills) 1 0 0 stands.a stands.e (queues ∙ rest_is (level x)) (subst (λ (z : Queues). WordsWait z) (rest_is (level x)) (rest_words (level x))) stands.memory (none_waits x.issued) part_a
          (λ wait. record { moves = 1; fills = 0; instructions = 0; does = hear_halts setup p body_e be ce w.memory n g rest b.e w X (filled_slots x.ld_reserved x.issued w.memory y.more) y.copies code has sound.size y.trap wait.ab.0 alone; few = omega arith; some = omega arith }) in
          let t = state_of played.a played.e q s.memory (s.printed ++ []) played.total in
          let cost = y.cost in let all = y.all in
          ends_so s t (8 * w.items) u Plain (Trap code) X x.ld_reserved x.issued w.memory y.more [] [] y.copies (y.moves + y.fills + length y.more + 1 + 0) 0 (rest_empty s.queues (level x) queues)
          (ends_with setup p body_a body_e most At_a At_e code_a code_e positive s t _ _ [] q _ 0 0 played [] [] nothing (inl refl) (omega arith) refl) (omega arith)
          played.agrees_a played.agrees_e refl (stands.memory ∙ sym y.like.memory) (append-nil s.printed ∙ (stands.printed ∙ sym y.like.printed))

      by_access : (last : Last) → GroupFits c setup.depths g last → Stands setup most At_a At_e (begin_a last, begin_e last) ca ce b w s → (x : Counts) → s.queues ≡ resting (level x) → (r : Access) → Sends (any_part is_test g) (how_many (is_for_e c) g) (how_many (is_copied c) g) r → FailsAs (only_failure g) r
          → Comes setup p body_a (gives_address n last (message n (Tell (Number 0)) g (hears_check n last ka))) ba ca (length g) (spot (begin_a last) b.a w ca) (level x) [] [] w r → Lands' (grouped p last behind_e r)
      by_access last fits stands x queues (Passed a words copies u) sent alone y = closes last (record { fits = fits; stands = stands; x = x; queues = queues; a = a; words = words; copies = copies; u = u; y = y; h = sent.0; i = sent.1 })
      by_access last fits stands x queues (Failed code u) sent alone y = failed last stands x queues code u sent alone y
      by_access last fits stands x queues (Strayed u) sent alone y = tt

      pub group_lands : (last : Last) → GroupFits c setup.depths g last → Stands setup most At_a At_e (begin_a last, begin_e last) ca ce b w s → Lands' (grouped p last behind_e (access p c g w b.a))
      group_lands last fits stands =
          by_access last fits stands stands.counts stands.queues (access p c g w b.a) (group_sends p c g w b.a) (group_fails p c g w b.a)
          (parts_come setup p body_a (gives_address n last (message n (Tell (Number 0)) g (hears_check n last ka))) ba ca c n g w b.a (level stands.counts) [] [] sound.size (loads_words w.memory sound.bytes) fits.room)
