-- E's run of a region of its own.
use Rattle.std.proofs.Common.{◌≡◌, ℕ, ◌+◌, ◌*◌, Bool, true, false, not, ◌&&◌, List, ◌∷◌, ◌++◌, length, if◌then◌else◌, refl, ap, sym, ◌∙◌, subst, append-nil, add-zero, arith, []}
use Rattle.dae_base.specs.declared.Place.{Place}
use Rattle.dae_base.proofs.Laws.{and_false, not_true}
use Rattle.dae_machine.specs.Machine.{Setup}
use Rattle.dae_meaning.specs.Worlds.{World, ticked}
use Rattle.dae_meaning.specs.Results.{Result, At, Next, Run, ◌▷◌}
use Rattle.dae_ir.specs.Code.{Done, Do, If, Loop, Each, CodeMeaning, exec}
use Rattle.dae_meaning.specs.Operations.{spelled}
use Rattle.dae_meaning.specs.Variables.{Env, put}
use Rattle.dae_ir.specs.Form.{Form, Program, value, computed, with_printed}
use Rattle.dae_ir.specs.Classes.{Classes}
use Rattle.dae_ir.specs.Rounds.{Alone, Breaks, Continues, Rounds, decision, rounds, closed, is_full, is_for_e, is_copied, how_many, is_e_item}
use Rattle.dae_ir.specs.Canonical.{sets_e, loads_e, execute, does_e, region_meaning}
use Rattle.dae_ir.specs.Streams.{Actions, mark, message, parts, e_part, e_last, inside_of, only_failure}
use Rattle.dae_ir.specs.declared.form.Operand.{Operand}
use Rattle.dae_meaning.specs.declared.Spelling.{Spelling}
use Rattle.dae_ir.specs.declared.form.Test.{Test}
use Rattle.dae_ir.specs.declared.form.Item.{Item}
use Rattle.dae_ir.specs.declared.form.Item.TheVariants.{Assign, Load, Store, Print, Expect, Break, Continue, Call, Return, Halt}
use Rattle.dae_ir.specs.declared.stream.Action.TheVariants.{Hear}
use Rattle.dae_ir.specs.declared.stream.Part.{Part}
use Rattle.dae_ir.specs.declared.stream.Part.TheVariants.{Sets, Loads as Load', Tests}
use Rattle.dae_ir.specs.declared.stream.Last.TheVariants.{Prints}
use Rattle.dae_ir_pair.specs.Budget.{is_test, any_part}
use Rattle.dae_machine_rounds.specs.Spots.{Arrives, Behind, After, Body, Turn, Point, point, left, skipped, HeldCall, Spot, spot, breaks, continues}
use Rattle.dae_machine_rounds.proofs.Laws.{LoadsWords, does_to, Does, here, resting, with_al, parts_taken, IsMessage, silent, message_is, emit_does}
use Rattle.dae_machine_rounds.proofs.Turned.{inside_turn}
use Rattle.dae_machine_rounds.proofs.Sided.{exit, Still, still_itself, still_ticked, still_on, Reached, Does_as, List_does, spare_less, then_does, moved, branch_does, loop_does}
use Rattle.dae_machine_rounds.proofs.RegionsA.{item_of, run_parts, parts_then}

module _ (setup : Setup) (p : Program) (body : ℕ → Actions) (m : List ℕ) (calls : List HeldCall) (of : ℕ → Classes) (c : Classes) (cap n : ℕ) (size : length m ≡ setup.memory) (words : LoadsWords m) where
  -- what E sets in its region, A doesn't need, and a load is for nobody
  abbrev pub IsPart : Part → Type 0
  IsPart (Sets place v x) = c.s v ≡ false
  IsPart (Load' place v kind x) = (c.s v ≡ false) × (c.needs v ≡ false)
  IsPart (Tests place check) = ⊥

  abbrev pub AreParts : List Part → Type 0
  AreParts [] = Unit {0}
  AreParts (q ∷ g) = IsPart q × AreParts g

  parts-more : (g : List Part) (q : Part) → AreParts g → IsPart q → AreParts (g ++ q ∷ [])
  parts-more [] q h i = (i, tt)
  parts-more (r ∷ g) q h i = (h.0, parts-more g q h.1 i)

  no_tests : (g : List Part) → AreParts g → any_part is_test g ≡ false
  no_tests [] h = refl
  no_tests (Sets place v x ∷ g) h = no_tests g h.1
  no_tests (Load' place v kind x ∷ g) h = no_tests g h.1
  no_tests (Tests place check ∷ g) h = absurd h.0

  no_loads : (g : List Part) → AreParts g → 0 ≡ how_many (is_for_e c) g
  no_loads [] h = refl
  no_loads (Sets place v x ∷ g) h = let k = no_loads g h.1 in omega arith
  no_loads (Load' place v kind x ∷ g) h = let k = no_loads g h.1 in rw (h.0.1, and_false (not (c.s v))) (omega arith)
  no_loads (Tests place check ∷ g) h = absurd h.0

  no_copies : (g : List Part) → AreParts g → 0 ≡ how_many (is_copied c) g
  no_copies [] h = refl
  no_copies (Sets place v x ∷ g) h = let k = no_copies g h.1 in rw h.0 (omega arith)
  no_copies (Load' place v kind x ∷ g) h = let k = no_copies g h.1 in rw h.0.0 (omega arith)
  no_copies (Tests place check ∷ g) h = absurd h.0

  -- E's part of such a group is what its items do
  record Same (g : List Part) (env : Env) (w : World) : Type 0 where
    after : World
    is : run_parts (does_e c) g env w ≡ At Next (execute c g w.frame [] [] env) after
    still : Still w [] after
    count : after.items ≡ w.items + length g

  same : (g : List Part) → AreParts g → (env : Env) (w : World) → Same g env w
  same [] h env w = record { after = w; is = refl; still = still_itself w; count = omega arith }
  same (Sets place v x ∷ g) h env w =
      let y = computed x w.frame env in
      let z = same g h.1 (put (c.needs v) v y env) (ticked w) in
      let count = z.count in
      record { after = z.after; is = z.is ∙ ap (λ (e : Env). At Next e z.after) (by (c.s v) (c.needs v) h.0); still = still_on w (ticked w) z.after [] [] (still_ticked w) z.still; count = omega arith } where
        by : (s e : Bool) → s ≡ false → execute c g w.frame [] [] (put e v (computed x w.frame env) env) ≡ sets_e s e (execute c g w.frame) v (computed x w.frame) [] [] env
        by true e k = absurd (let z : true ≡ false = k in cc)
        by false true k = refl
        by false false k = refl
  same (Load' place v kind x ∷ g) h env w =
      let z = same g h.1 env (ticked w) in
      let count = z.count in
      record { after = z.after; is = z.is ∙ ap (λ (e : Env). At Next e z.after) (by (c.s v) (c.needs v) h.0.0 h.0.1); still = still_on w (ticked w) z.after [] [] (still_ticked w) z.still; count = omega arith } where
        by : (s e : Bool) → s ≡ false → e ≡ false → execute c g w.frame [] [] env ≡ loads_e s e (execute c g w.frame) v [] [] env
        by true e k l = absurd (let z : true ≡ false = k in cc)
        by false true k l = absurd (let z : true ≡ false = l in cc)
        by false false k l = refl
  same (Tests place check ∷ g) h env w = absurd h.0

  spot_still : (at : Point) (env : Env) (w u : World) (text : List ℕ) → Still w text u → spot at env w calls ≡ spot at env u calls
  spot_still at env w u text h = rw (h.frame, h.top, h.depth) refl

  -- a closed group's items, behind its message
  group_does : (ng : ℕ) (g : List Part) → AreParts g → (k' k : Actions) (b : Behind) (f : Run Env) → List_does setup p false body m calls n k' k b f → (code : Actions) → IsMessage ng (Hear (only_failure g)) (parts (e_part c ng) g k') false code
      → List_does setup p false body m calls n code k b (λ env w. run_parts (does_e c) g env w ▷ f)
  group_does ng g h k' k b f l code silent env w x mem =
      let start = spot (point (parts (e_part c ng) g k') b) env w calls in
      let z = same g h env w in
      let size' : length w.memory ≡ setup.memory = rw mem size in
      let y = parts_taken setup p body k' b calls m 0 [] c ng g w env x [] [] size' words tt (no_loads g h) (no_copies g h) in
      let few = y.few in let count = z.count in
      let env' = execute c g w.frame [] [] env in
      let q_is : resting (record x { ld_taken = x.ld_taken + 0 }) ≡ resting (with_al x.al_taken x.al_reserved x) = ap (λ (j : ℕ). resting (record x { ld_taken = j })) (add-zero x.ld_taken) in
      let does0 = does_to q_is y.does in
      let does1 = subst (λ (t : Spot). Does setup p false body m y.moves y.fills y.least start (resting x) [] (Arrives t) (resting (with_al x.al_taken x.al_reserved x))) (spot_still (point k' b) env' w z.after [] z.still) does0 in
      let first : Reached setup p false body m calls start x w (8 * w.items) 0 (point k' b) env' z.after = record { al_taken = x.al_taken; al_reserved = x.al_reserved; moves = y.moves; fills = y.fills; instructions = y.least; text = []; quiet = λ e. refl; does = does1; cost = omega arith; some = omega arith; still = z.still } in
      subst (λ (r : Result Env). Does_as setup p false body m calls start x w (8 * w.items) n (exit k b) (r ▷ f)) (sym z.is)
      (then_does setup p false body m calls start x w (8 * w.items) 0 (8 * w.items) (8 * z.after.items) 0 n n (point k' b) (exit k b) env' z.after (f env' z.after) (omega arith) (omega arith) (omega arith) first (l env' z.after x (z.still.memory ∙ mem)))

  e_closed_group : (ng : ℕ) (g : List Part) → AreParts g → (k' k : Actions) (b : Behind) (f : Run Env) → List_does setup p false body m calls n k' k b f → List_does setup p false body m calls n (message ng (Hear (only_failure g)) g (parts (e_part c ng) g k')) k b (λ env w. run_parts (does_e c) g env w ▷ f)
  e_closed_group ng g h k' k b f l =
      let only = only_failure g in
      let code = message ng (Hear only) g (parts (e_part c ng) g k') in
      group_does ng g h k' k b f l code (subst (λ (z : Bool). IsMessage ng (Hear only) (parts (e_part c ng) g k') z code) (no_tests g h) (message_is ng (Hear only) g (parts (e_part c ng) g k')))

  close : (ng : ℕ) (g : List Part) → AreParts g → (r : Rounds) (k : Actions) (b : Behind) (f : Run Env) → ((ng : ℕ) → List_does setup p false body m calls n (inside_of false of c ng r k) k b f) → List_does setup p false body m calls n (inside_of false of c ng (closed g r) k) k b (λ env w. run_parts (does_e c) g env w ▷ f)
  close ng [] h r k b f l = l ng
  close ng (q ∷ g) h r k b f l = e_closed_group ng (q ∷ g) h (inside_of false of c (ng + 1) r k) k b f (l (ng + 1))

  joins : (g : List Part) (q : Part) (code : Actions) (k : Actions) (b : Behind) (f : Run Env) → List_does setup p false body m calls n code k b (λ env w. run_parts (does_e c) (g ++ q ∷ []) env w ▷ f) → List_does setup p false body m calls n code k b (λ env w. run_parts (does_e c) g env w ▷ (λ env w. does_e c (item_of q) env w ▷ f))
  joins g q code k b f l env w x mem = subst (λ (r : Result Env). Does_as setup p false body m calls (spot (point code b) env w calls) x w (8 * w.items) n (exit k b) r) (parts_then (does_e c) g q f env w) (l env w x mem)

  if_open : (ng : ℕ) (z : Bool) → z ≡ false → (r r' : Rounds) (k : Actions) (b : Behind) (f : Run Env) → List_does setup p false body m calls n (inside_of false of c ng r' k) k b f → List_does setup p false body m calls n (inside_of false of c ng (if z then r else r') k) k b f
  if_open ng true h r r' k b f l = absurd (let e : true ≡ false = h in cc)
  if_open ng false h r r' k b f l = l

  both_not : (s e : Bool) → not s && not e ≡ true → (s ≡ false) × (e ≡ false)
  both_not true e h = absurd (let z : false ≡ true = h in cc)
  both_not false e h = (refl, not_true e h)

  abbrev pub IsItem : Item → Type 0
  IsItem item = is_e_item c item ≡ true

  abbrev pub region_e : CodeMeaning Item Test Env
  region_e = region_meaning (does_e c)

  prints_does : (ng : ℕ) (place : Place) (spelling : Spelling) (v : Operand) (k' k : Actions) (b : Behind) (f : Run Env) → List_does setup p false body m calls n k' k b f → List_does setup p false body m calls n (e_last ng (Prints place spelling v) k') k b (λ env w. does_e c (Print spelling v) env w ▷ f)
  prints_does ng place spelling v k' k b f l env w x mem =
      let text = spelled spelling (value v env) in
      let start = spot (point (e_last ng (Prints place spelling v) k') b) env w calls in
      let w' = with_printed spelling (value v env) w in
      let size' : length w.memory ≡ setup.memory = rw mem size in
      let first : Reached setup p false body m calls start x w (8 * w.items) 0 (point k' b) env w' = record {
        al_taken = x.al_taken;
        al_reserved = x.al_reserved;
        moves = 1;
        fills = 0;
        instructions = 0;
        text = text ++ [];
        quiet = λ e. absurd (let z : false ≡ true = e in cc);
        does = emit_does setup p body b calls m (mark place ng) spelling v k' env w (resting x) size';
        cost = omega arith;
        some = omega arith;
        still = record { memory = refl; printed = ap (λ (z : List ℕ). w.printed ++ z) (sym (append-nil text)); frame = refl; top = refl; depth = refl };
      } in
      then_does setup p false body m calls start x w (8 * w.items) 0 (8 * w.items) (8 * (w.items + 1)) 0 n n (point k' b) (exit k b) env w' (f env w') (omega arith) (omega arith) (omega arith) first (l env w' x mem)

  pub region_e_does : (code : Form) → Each IsItem (λ (t : Test). Unit {0}) code → (g : List Part) → AreParts g → (ng : ℕ) (k : Actions) (b : Behind) → List_does setup p false body m calls n (inside_of false of c ng (rounds c cap false code g) k) k b (λ env w. run_parts (does_e c) g env w ▷ exec region_e n code)
  region_e_does Done fits g h ng k b = close ng g h Done k b (λ env w. At Next env w) (λ ng env w x mem. record { al_taken = x.al_taken; al_reserved = x.al_reserved; moves = 0; fills = 0; instructions = 0; text = []; quiet = λ e. refl; does = here; cost = omega arith; some = omega arith; still = still_itself w })
  region_e_does (Do place (Assign v y) rest) fits g h ng k b =
      let q = Sets place v y in
      let none = not_true (c.s v) fits.0 in
      if_open ng (is_full c cap g q) (rw none refl) (closed g (rounds c cap false rest (q ∷ []))) (rounds c cap false rest (g ++ q ∷ [])) k b _
      (joins g q (inside_of false of c ng (rounds c cap false rest (g ++ q ∷ [])) k) k b (exec region_e n rest) (region_e_does rest fits.1 (g ++ q ∷ []) (parts-more g q h none) ng k b))
  region_e_does (Do place (Load v kind y) rest) fits g h ng k b =
      let q = Load' place v kind y in
      let none = both_not (c.s v) (c.needs v) fits.0 in
      if_open ng (is_full c cap g q) (rw (none.0, none.1) refl) (closed g (rounds c cap false rest (q ∷ []))) (rounds c cap false rest (g ++ q ∷ [])) k b _
      (joins g q (inside_of false of c ng (rounds c cap false rest (g ++ q ∷ [])) k) k b (exec region_e n rest) (region_e_does rest fits.1 (g ++ q ∷ []) (parts-more g q h none) ng k b))
  region_e_does (Do place (Print spelling v) rest) fits g h ng k b =
      let k' = inside_of false of c (ng + 1) (rounds c cap false rest []) k in
      e_closed_group ng g h (e_last ng (Prints place spelling v) k') k b (exec region_e n (Do place (Print spelling v) rest)) (prints_does ng place spelling v k' k b (exec region_e n rest) (region_e_does rest fits.1 [] tt (ng + 1) k b))
  region_e_does (Do place Break rest) fits g h ng k b = close ng g h (Do place (Alone Breaks) (rounds c cap false rest [])) k b (exec region_e n (Do place Break rest)) (λ ng env w x mem. moved setup p false body m calls x w (ticked w) (8 * w.items) 0 _ (left b) env (breaks w) (still_ticked w) (omega arith) refl)
  region_e_does (Do place Continue rest) fits g h ng k b = close ng g h (Do place (Alone Continues) (rounds c cap false rest [])) k b (exec region_e n (Do place Continue rest)) (λ ng env w x mem. moved setup p false body m calls x w (ticked w) (8 * w.items) 1 _ (skipped b) env (continues w) (still_ticked w) (omega arith) refl)
  region_e_does (Do place (Store width y z) rest) fits g h ng k b = absurd (let e : false ≡ true = fits.0 in cc)
  region_e_does (Do place (Expect check) rest) fits g h ng k b = absurd (let e : false ≡ true = fits.0 in cc)
  region_e_does (Do place (Call v f xs) rest) fits g h ng k b = absurd (let e : false ≡ true = fits.0 in cc)
  region_e_does (Do place (Return y) rest) fits g h ng k b = absurd (let e : false ≡ true = fits.0 in cc)
  region_e_does (Do place (Halt y) rest) fits g h ng k b = absurd (let e : false ≡ true = fits.0 in cc)
  region_e_does (If place t y z rest) fits g h ng k b =
      close ng g h (If place (decision c t) (rounds c cap false y []) (rounds c cap false z []) (rounds c cap false rest [])) k b (exec region_e n (If place t y z rest)) (λ ng. (
      let k' = inside_of false of c ng (rounds c cap false rest []) k in
      spare_less setup p false body m calls n _ k b (exec region_e n (If place t y z rest))
      (branch_does setup p false body m calls n (mark place ng) t (inside_of false of c 0 (rounds c cap false y []) Done) (inside_of false of c 0 (rounds c cap false z []) Done) k' k b (exec region_e n y) (exec region_e n z) (exec region_e n rest)
      (region_e_does y fits.1 [] tt 0 Done (After k' b)) (region_e_does z fits.2 [] tt 0 Done (After k' b)) (region_e_does rest fits.3 [] tt ng k b))))
  region_e_does (Loop place y z rest) fits g h ng k b =
      close ng g h (Loop place (rounds c cap false y []) (rounds c cap false z []) (rounds c cap false rest [])) k b (exec region_e n (Loop place y z rest)) (λ ng. (
      let k' = inside_of false of c ng (rounds c cap false rest []) k in
      let xs = inside_of false of c 0 (rounds c cap false y []) Done in
      let ys = inside_of false of c 0 (rounds c cap false z []) Done in
      spare_less setup p false body m calls n _ k b (exec region_e n (Loop place y z rest))
      (loop_does setup p false body m calls n xs ys k' b (exec region_e n y) (exec region_e n z) (inside_turn of c false 0 (rounds c cap false y [])) (region_e_does y fits.0 [] tt 0 Done (Body xs ys k' b)) (region_e_does z fits.1 [] tt 0 Done (Turn xs ys k' b)) (mark place ng) k (exec region_e n rest) (region_e_does rest fits.2 [] tt ng k b))))
