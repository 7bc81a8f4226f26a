-- A's run of a region of its own.
use Rattle.std.proofs.Common.{◌≡◌, ℕ, ◌+◌, ◌*◌, ◌≤◌, Bool, true, false, not, ◌&&◌, ◌||◌, List, [], ◌∷◌, ◌++◌, length, Option, Some, None, if◌then◌else◌, refl, ap, sym, ◌∙◌, subst, append-nil, arith}
use Rattle.dae_base.specs.declared.Place.{Place}
use Rattle.dae_base.specs.Words.{loaded, width_of}
use Rattle.dae_base.proofs.Laws.{and_false, not_true}
use Rattle.dae_machine.specs.Machine.{Setup}
use Rattle.dae_meaning.specs.Worlds.{World, ticked, fetched}
use Rattle.dae_meaning.specs.Results.{Result, At, Over, Next, Leaves, Skips, Returns, Astray, Run, ◌▷◌, within}
use Rattle.dae_ir.specs.Code.{Done, Do, If, Loop, Each, CodeMeaning, exec}
use Rattle.dae_meaning.specs.Operations.{misplaced}
use Rattle.dae_meaning.specs.Variables.{Env, put}
use Rattle.dae_ir.specs.Form.{Form, Program, value, computed}
use Rattle.dae_ir.specs.Classes.{Classes}
use Rattle.dae_ir.specs.Rounds.{Alone, Breaks, Continues, Rounds, decision, rounds, closed, is_full, is_for_e, is_copied, how_many, is_a_item}
use Rattle.dae_ir.specs.Canonical.{Access, Passed, Strayed, access, with_word, with_copy, reached, is_issued, does_a, region_meaning}
use Rattle.dae_ir.specs.Streams.{Actions, mark, message, parts, a_part, inside_of}
use Rattle.dae_ir.specs.declared.form.Operand.TheVariants.{Number}
use Rattle.dae_ir.specs.declared.form.Test.{Test}
use Rattle.dae_ir.specs.declared.form.Item.{Item}
use Rattle.dae_ir.specs.declared.form.Item.TheVariants.{Assign, Load, Store, Print, Expect, Break, Continue, Call, Return, Halt}
use Rattle.dae_ir.specs.declared.stream.Action.TheVariants.{Tell}
use Rattle.dae_ir.specs.declared.stream.Part.{Part}
use Rattle.dae_ir.specs.declared.stream.Part.TheVariants.{Sets, Loads as Load', Tests}
use Rattle.dae_ir_pair.specs.Budget.{is_own_part, is_test, any_part, OwnWithin}
use Rattle.dae_core.specs.Queues.{Queues}
use Rattle.dae_machine_rounds.specs.Spots.{Arrives, Behind, After, Body, Turn, point, left, skipped, HeldCall, spot, breaks, continues}
use Rattle.dae_machine_rounds.proofs.Laws.{LoadsWords, does_to, Does, here, Counts, Loads, resting, sending, words_for, HasRoom, Comes, parts_come, with_al, IsMessage, silent, message_is, rest_is}
use Rattle.dae_machine_rounds.proofs.Turned.{inside_turn}
use Rattle.dae_machine_rounds.proofs.Sided.{exit, still_itself, still_ticked, Reached, Does_as, List_does, Spare_does, spare_less, IsBlock, then_does, moved, branch_does, loop_does}

-- one stretch and another and another
pub bind_assoc : (r : Result Env) (f g : Run Env) → (r ▷ f) ▷ g ≡ r ▷ (λ env w. f env w ▷ g)
bind_assoc (At Next env w) f g = refl
bind_assoc (At Leaves env w) f g = refl
bind_assoc (At Skips env w) f g = refl
bind_assoc (At Returns env w) f g = refl
bind_assoc (Over end w) f g = refl

-- what parts do on their side, one after the other
abbrev pub item_of : Part → Item
item_of (Sets place v x) = Assign v x
item_of (Load' place v kind x) = Load v kind x
item_of (Tests place check) = Break

abbrev pub run_parts : (Item → Run Env) → List Part → Run Env
run_parts does [] env w = At Next env w
run_parts does (q ∷ g) env w = does (item_of q) env w ▷ run_parts does g

pub parts_then : (does : Item → Run Env) (g : List Part) (q : Part) (f : Run Env) (env : Env) (w : World) → run_parts does (g ++ q ∷ []) env w ▷ f ≡ run_parts does g env w ▷ (λ env w. does (item_of q) env w ▷ f)
parts_then does [] q f env w = bind_assoc (does (item_of q) env w) (run_parts does []) f ∙ ap (λ (h : Run Env). does (item_of q) env w ▷ h) refl
parts_then does (r ∷ g) q f env w =
    bind_assoc (does (item_of r) env w) (run_parts does (g ++ q ∷ [])) f
    ∙ (by (parts_then does g q f) (does (item_of r) env w) ∙ sym (bind_assoc (does (item_of r) env w) (run_parts does g) (λ env w. does (item_of q) env w ▷ f))) where
      by : ((env : Env) (w : World) → run_parts does (g ++ q ∷ []) env w ▷ f ≡ run_parts does g env w ▷ (λ env w. does (item_of q) env w ▷ f)) → (s : Result Env) → s ▷ (λ env w. run_parts does (g ++ q ∷ []) env w ▷ f) ≡ s ▷ (λ env w. run_parts does g env w ▷ (λ env w. does (item_of q) env w ▷ f))
      by h (At Next env w) = h env w
      by h (At Leaves env w) = refl
      by h (At Skips env w) = refl
      by h (At Returns env w) = refl
      by h (Over end w) = refl

module _ (setup : Setup) (p : Program) (body : ℕ → Actions) (m : List ℕ) (calls : List HeldCall) (of : ℕ → Classes) (c : Classes) (cap n : ℕ) (size : length m ≡ setup.memory) (words : LoadsWords m) where
  -- what A sets in its region, E doesn't need; and there is room for its own loads
  abbrev pub IsPart : Part → Type 0
  IsPart (Sets place v x) = c.needs v ≡ false
  IsPart (Load' place v kind x) = (c.needs v ≡ false) × (c.s v ≡ true → 1 ≤ setup.depths.al)
  IsPart (Tests place check) = ⊥

  abbrev pub AreParts : List Part → Type 0
  AreParts [] = Unit {0}
  AreParts (q ∷ g) = IsPart q × AreParts g

  abbrev pub IsItem : Item → Type 0
  IsItem item = (is_a_item c item ≡ true) × OwnWithin c setup.depths item

  parts-more : (g : List Part) (q : Part) → AreParts g → IsPart q → AreParts (g ++ q ∷ [])
  parts-more [] q h i = (i, tt)
  parts-more (r ∷ g) q h i = (h.0, parts-more g q h.1 i)

  no_tests : (g : List Part) → AreParts g → any_part is_test g ≡ false
  no_tests [] h = refl
  no_tests (Sets place v x ∷ g) h = no_tests g h.1
  no_tests (Load' place v kind x ∷ g) h = no_tests g h.1
  no_tests (Tests place check ∷ g) h = absurd h.0

  no_loads : (g : List Part) → AreParts g → how_many (is_for_e c) g ≡ 0
  no_loads [] h = refl
  no_loads (Sets place v x ∷ g) h = let k = no_loads g h.1 in omega arith
  no_loads (Load' place v kind x ∷ g) h = let k = no_loads g h.1 in rw (h.0.0, and_false (not (c.s v))) (omega arith)
  no_loads (Tests place check ∷ g) h = absurd h.0

  no_copies : (g : List Part) → AreParts g → how_many (is_copied c) g ≡ 0
  no_copies [] h = refl
  no_copies (Sets place v x ∷ g) h = let k = no_copies g h.1 in rw (h.0, and_false (c.s v)) (omega arith)
  no_copies (Load' place v kind x ∷ g) h = let k = no_copies g h.1 in rw (h.0.0, and_false (c.s v)) (omega arith)
  no_copies (Tests place check ∷ g) h = absurd h.0

  own_room : (g : List Part) → AreParts g → any_part (is_own_part c) g ≡ true → 1 ≤ setup.depths.al
  own_room [] h k = absurd (let e : false ≡ true = k in cc)
  own_room (Sets place v x ∷ g) h k = own_room g h.1 k
  own_room (Load' place v kind x ∷ g) h k = by (own_room g h.1) (c.s v) refl k where
    by : (any_part (is_own_part c) g ≡ true → 1 ≤ setup.depths.al) → (b : Bool) → c.s v ≡ b → b || any_part (is_own_part c) g ≡ true → 1 ≤ setup.depths.al
    by i true e k = h.0.1 e
    by i false e k = i k
  own_room (Tests place check ∷ g) h k = absurd h.0

  -- A's part of such a group is what its items do
  data Same : Access → Result Env → Type 0 where
    passes : {env : Env} {w : World} → Same (Passed env [] [] w) (At Next env w)
    strays : {w : World} → Same (Strayed w) (Over Astray w)

  same_copy : (b : Bool) (x : ℕ) (r : Access) (s : Result Env) → b ≡ false → Same r s → Same (with_copy b x r) s
  same_copy true x r s h y = absurd (let e : true ≡ false = h in cc)
  same_copy false x r s h passes = passes
  same_copy false x r s h strays = strays

  same_word : (b : Bool) (x : ℕ) (r : Access) (s : Result Env) → b ≡ false → Same r s → Same (with_word b x r) s
  same_word true x r s h y = absurd (let e : true ≡ false = h in cc)
  same_word false x r s h passes = passes
  same_word false x r s h strays = strays

  same_reached : (o : Option ℕ) (w : World) (r : Access) (env : Env) (w' : World) (f : Run Env) → Same r (f env w') → Same (reached o w r) (within o w (At Next env w') ▷ f)
  same_reached None w r env w' f y = y
  same_reached (Some code) w r env w' f y = strays

  same_access : (g : List Part) → AreParts g → (env : Env) (w : World) → Same (access p c g w env) (run_parts (does_a c) g env w)
  same_access [] h env w = passes
  same_access (Sets place v x ∷ g) h env w =
      same_copy (c.s v && c.needs v) _ _ _ (rw (h.0, and_false (c.s v)) refl) (same_access g h.1 (put (c.s v) v (computed x w.frame env) env) (ticked w))
  same_access (Load' place v kind x ∷ g) h env w =
      same_reached (misplaced (width_of kind) (value x env) (length w.memory)) w _ _ _ (run_parts (does_a c) g)
      (same_word (not (c.s v) && c.needs v) _ _ _ (rw (h.0.0, and_false (not (c.s v))) refl) (same_copy (c.s v && c.needs v) _ _ _ (rw (h.0.0, and_false (c.s v)) refl) (same_access g h.1 (put (c.s v) v (loaded kind (value x env) w.memory) env) (fetched (is_issued c v) w))))
  same_access (Tests place check ∷ g) h env w = absurd h.0

  no_more : (ls : Loads) → words_for m ls ≡ [] → ls ≡ []
  no_more [] h = refl
  no_more (l ∷ ls) h = absurd (let e = ap length h in omega arith)

  -- a closed group, and then the rest
  group_does : (ng : ℕ) (g : List Part) → AreParts g → (k' k : Actions) (b : Behind) (f : Run Env) → List_does setup p true body m calls n k' k b f → (code : Actions) → IsMessage ng (Tell (Number 0)) k' false code → (env : Env) (w : World) (x : Counts) → w.memory ≡ m
      → (r : Access) (s : Result Env) → Same r s → Comes setup p body code b calls (length g) (spot (point (parts (a_part c ng) g code) b) env w calls) x [] [] w r
      → Does_as setup p true body m calls (spot (point (parts (a_part c ng) g code) b) env w calls) x w (8 * w.items) n (exit k b) (s ▷ f)
  group_does ng g h k' k b f l code is env w x mem r s strays y = tt
  group_does ng g h k' k b f l code silent env w x mem r s (passes {env = env'} {w = w'}) y =
      let start = spot (point (parts (a_part c ng) g k') b) env w calls in
      let none = no_more y.more (subst (λ (z : List ℕ). words_for z y.more ≡ []) mem y.are) in
      let cost = y.cost in let all = y.all in
      let x' = with_al y.al_taken y.al_reserved x in
      let q_is : sending x' ([] ++ y.more) [] [] [] ≡ resting x' = ap (λ (z : Loads). sending x' z [] [] []) none ∙ sym (rest_is x') in
      let does0 = does_to q_is y.does in
      let does1 = subst (λ (z : Queues). Does setup p true body w.memory y.moves y.fills y.least start z [] (Arrives (spot (point k' b) env' w' calls)) (resting x')) (sym (rest_is x)) does0 in
      let does2 = subst (λ (z : List ℕ). Does setup p true body z y.moves y.fills y.least start (resting x) [] (Arrives (spot (point k' b) env' w' calls)) (resting x')) mem does1 in
      let first : Reached setup p true body m calls start x w (8 * w.items) 0 (point k' b) env' w' = record {
        al_taken = y.al_taken;
        al_reserved = y.al_reserved;
        moves = y.moves;
        fills = y.fills;
        instructions = y.least;
        text = [];
        quiet = λ e. refl;
        does = does2;
        cost = omega arith;
        some = omega arith;
        still = record { memory = y.like.memory; printed = y.like.printed ∙ sym (append-nil w.printed); frame = y.like.frame; top = y.like.top; depth = y.like.depth };
      } in
      then_does setup p true body m calls start x w (8 * w.items) 0 (8 * w.items) (8 * w'.items) 0 n n (point k' b) (exit k b) env' w' (f env' w') (omega arith) (omega arith) (omega arith) first (l env' w' x' (y.like.memory ∙ mem))

  a_closed_group : (ng : ℕ) (q : Part) (g : List Part) → AreParts (q ∷ g) → (r : Rounds) (k : Actions) (b : Behind) (f : Run Env) → ((ng : ℕ) → List_does setup p true body m calls n (inside_of true of c ng r k) k b f)
      → List_does setup p true body m calls n (inside_of true of c ng (closed (q ∷ g) r) k) k b (λ env w. run_parts (does_a c) (q ∷ g) env w ▷ f)
  a_closed_group ng q g h r k b f l env w x mem =
      let rest = inside_of true of c (ng + 1) r k in
      let code = message ng (Tell (Number 0)) (q ∷ g) rest in
      let is : IsMessage ng (Tell (Number 0)) rest false code = subst (λ (z : Bool). IsMessage ng (Tell (Number 0)) rest z code) (no_tests (q ∷ g) h) (message_is ng (Tell (Number 0)) (q ∷ g) rest) in
      let ld = no_loads (q ∷ g) h in
      let cq = no_copies (q ∷ g) h in
      let room : HasRoom c setup.depths 0 0 (q ∷ g) = record { ld = omega arith; cq = omega arith; al = own_room (q ∷ g) h; ab = λ e. absurd (let t = no_tests (q ∷ g) h in cc) } in
      let size' : length w.memory ≡ setup.memory = rw mem size in
      let words' : LoadsWords w.memory = subst (λ (z : List ℕ). LoadsWords z) (sym mem) words in
      group_does ng (q ∷ g) h rest k b f (l (ng + 1)) code is env w x mem (access p c (q ∷ g) w env) (run_parts (does_a c) (q ∷ g) env w) (same_access (q ∷ g) h env w)
      (parts_come setup p body code b calls c ng (q ∷ g) w env x [] [] size' words' room)

  close : (ng : ℕ) (g : List Part) → AreParts g → (r : Rounds) (k : Actions) (b : Behind) (f : Run Env) → ((ng : ℕ) → List_does setup p true body m calls n (inside_of true of c ng r k) k b f) → List_does setup p true body m calls n (inside_of true of c ng (closed g r) k) k b (λ env w. run_parts (does_a c) g env w ▷ f)
  close ng [] h r k b f l = l ng
  close ng (q ∷ g) h r k b f l = a_closed_group ng q g h r k b f l

  -- an item that joins the group
  joins : (ng : ℕ) (g : List Part) (q : Part) (code : Actions) (k : Actions) (b : Behind) (f : Run Env) → List_does setup p true body m calls n code k b (λ env w. run_parts (does_a c) (g ++ q ∷ []) env w ▷ f) → List_does setup p true body m calls n code k b (λ env w. run_parts (does_a c) g env w ▷ (λ env w. does_a c (item_of q) env w ▷ f))
  joins ng g q code k b f l env w x mem = subst (λ (r : Result Env). Does_as setup p true body m calls (spot (point code b) env w calls) x w (8 * w.items) n (exit k b) r) (parts_then (does_a c) g q f env w) (l env w x mem)

  -- the group isn't full
  if_open : (ng : ℕ) (z : Bool) → z ≡ false → (r r' : Rounds) (k : Actions) (b : Behind) (f : Run Env) → List_does setup p true body m calls n (inside_of true of c ng r' k) k b f → List_does setup p true body m calls n (inside_of true of c ng (if z then r else r') k) k b f
  if_open ng true h r r' k b f l = absurd (let e : true ≡ false = h in cc)
  if_open ng false h r r' k b f l = l

  abbrev pub region_a : CodeMeaning Item Test Env
  region_a = region_meaning (does_a c)

  break_does : (ng : ℕ) (place : Place) (r : Rounds) (k : Actions) (b : Behind) (f : Run Env) → List_does setup p true body m calls n (inside_of true of c ng (Do place (Alone Breaks) r) k) k b (λ env w. At Leaves env (ticked w) ▷ f)
  break_does ng place r k b f env w x mem = moved setup p true body m calls x w (ticked w) (8 * w.items) 0 _ (left b) env (breaks w) (still_ticked w) (omega arith) refl

  continue_does : (ng : ℕ) (place : Place) (r : Rounds) (k : Actions) (b : Behind) (f : Run Env) → List_does setup p true body m calls n (inside_of true of c ng (Do place (Alone Continues) r) k) k b (λ env w. At Skips env (ticked w) ▷ f)
  continue_does ng place r k b f env w x mem = moved setup p true body m calls x w (ticked w) (8 * w.items) 1 _ (skipped b) env (continues w) (still_ticked w) (omega arith) refl

  pub region_a_does : (code : Form) → Each IsItem (λ (t : Test). Unit {0}) code → (g : List Part) → AreParts g → (ng : ℕ) (k : Actions) (b : Behind) → List_does setup p true body m calls n (inside_of true of c ng (rounds c cap false code g) k) k b (λ env w. run_parts (does_a c) g env w ▷ exec region_a n code)
  region_a_does Done fits g h ng k b = close ng g h Done k b (λ env w. At Next env w) (λ ng env w x mem. record { al_taken = x.al_taken; al_reserved = x.al_reserved; moves = 0; fills = 0; instructions = 0; text = []; quiet = λ e. refl; does = here; cost = omega arith; some = omega arith; still = still_itself w })
  region_a_does (Do place (Assign v y) rest) fits g h ng k b =
      let q = Sets place v y in
      let none = not_true (c.needs v) fits.0.0 in
      if_open ng (is_full c cap g q) (rw (none, and_false (c.s v)) refl) (closed g (rounds c cap false rest (q ∷ []))) (rounds c cap false rest (g ++ q ∷ [])) k b _
      (joins ng g q (inside_of true of c ng (rounds c cap false rest (g ++ q ∷ [])) k) k b (exec region_a n rest) (region_a_does rest fits.1 (g ++ q ∷ []) (parts-more g q h none) ng k b))
  region_a_does (Do place (Load v kind y) rest) fits g h ng k b =
      let q = Load' place v kind y in
      let none = not_true (c.needs v) fits.0.0 in
      if_open ng (is_full c cap g q) (rw (none, and_false (c.s v), and_false (not (c.s v))) refl) (closed g (rounds c cap false rest (q ∷ []))) (rounds c cap false rest (g ++ q ∷ [])) k b _
      (joins ng g q (inside_of true of c ng (rounds c cap false rest (g ++ q ∷ [])) k) k b (exec region_a n rest) (region_a_does rest fits.1 (g ++ q ∷ []) (parts-more g q h (none, fits.0.1)) ng k b))
  region_a_does (Do place Break rest) fits g h ng k b = close ng g h (Do place (Alone Breaks) (rounds c cap false rest [])) k b (exec region_a n (Do place Break rest)) (λ ng. break_does ng place (rounds c cap false rest []) k b (exec region_a n rest))
  region_a_does (Do place Continue rest) fits g h ng k b = close ng g h (Do place (Alone Continues) (rounds c cap false rest [])) k b (exec region_a n (Do place Continue rest)) (λ ng. continue_does ng place (rounds c cap false rest []) k b (exec region_a n rest))
  region_a_does (Do place (Store width y z) rest) fits g h ng k b = absurd (let e : false ≡ true = fits.0.0 in cc)
  region_a_does (Do place (Print spelling y) rest) fits g h ng k b = absurd (let e : false ≡ true = fits.0.0 in cc)
  region_a_does (Do place (Expect check) rest) fits g h ng k b = absurd (let e : false ≡ true = fits.0.0 in cc)
  region_a_does (Do place (Call v f xs) rest) fits g h ng k b = absurd (let e : false ≡ true = fits.0.0 in cc)
  region_a_does (Do place (Return y) rest) fits g h ng k b = absurd (let e : false ≡ true = fits.0.0 in cc)
  region_a_does (Do place (Halt y) rest) fits g h ng k b = absurd (let e : false ≡ true = fits.0.0 in cc)
  region_a_does (If place t y z rest) fits g h ng k b =
      close ng g h (If place (decision c t) (rounds c cap false y []) (rounds c cap false z []) (rounds c cap false rest [])) k b (exec region_a n (If place t y z rest)) (λ ng. (
      let k' = inside_of true of c ng (rounds c cap false rest []) k in
      spare_less setup p true body m calls n _ k b (exec region_a n (If place t y z rest))
      (branch_does setup p true body m calls n (mark place ng) t (inside_of true of c 0 (rounds c cap false y []) Done) (inside_of true of c 0 (rounds c cap false z []) Done) k' k b (exec region_a n y) (exec region_a n z) (exec region_a n rest)
      (region_a_does y fits.1 [] tt 0 Done (After k' b)) (region_a_does z fits.2 [] tt 0 Done (After k' b)) (region_a_does rest fits.3 [] tt ng k b))))
  region_a_does (Loop place y z rest) fits g h ng k b =
      close ng g h (Loop place (rounds c cap false y []) (rounds c cap false z []) (rounds c cap false rest [])) k b (exec region_a n (Loop place y z rest)) (λ ng. (
      let k' = inside_of true of c ng (rounds c cap false rest []) k in
      let xs = inside_of true of c 0 (rounds c cap false y []) Done in
      let ys = inside_of true of c 0 (rounds c cap false z []) Done in
      spare_less setup p true body m calls n _ k b (exec region_a n (Loop place y z rest))
      (loop_does setup p true body m calls n xs ys k' b (exec region_a n y) (exec region_a n z) (inside_turn of c true 0 (rounds c cap false y [])) (region_a_does y fits.0 [] tt 0 Done (Body xs ys k' b)) (region_a_does z fits.1 [] tt 0 Done (Turn xs ys k' b)) (mark place ng) k (exec region_a n rest) (region_a_does rest fits.2 [] tt ng k b))))

  -- a whole region, with two units to spare
  pub whole_region_a : (code : Form) → IsBlock code → Each IsItem (λ (t : Test). Unit {0}) code → (ng : ℕ) (k : Actions) (b : Behind) → Spare_does setup p true body m calls n (inside_of true of c ng (rounds c cap false code []) k) k b (exec region_a n code)
  whole_region_a Done is fits ng k b = absurd is
  whole_region_a (Do place item rest) is fits ng k b = absurd is
  whole_region_a (If place t y z rest) is fits ng k b =
      let k' = inside_of true of c ng (rounds c cap false rest []) k in
      branch_does setup p true body m calls n (mark place ng) t (inside_of true of c 0 (rounds c cap false y []) Done) (inside_of true of c 0 (rounds c cap false z []) Done) k' k b (exec region_a n y) (exec region_a n z) (exec region_a n rest)
      (region_a_does y fits.1 [] tt 0 Done (After k' b)) (region_a_does z fits.2 [] tt 0 Done (After k' b)) (region_a_does rest fits.3 [] tt ng k b)
  whole_region_a (Loop place y z rest) is fits ng k b =
      let k' = inside_of true of c ng (rounds c cap false rest []) k in
      let xs = inside_of true of c 0 (rounds c cap false y []) Done in
      let ys = inside_of true of c 0 (rounds c cap false z []) Done in
      loop_does setup p true body m calls n xs ys k' b (exec region_a n y) (exec region_a n z) (inside_turn of c true 0 (rounds c cap false y [])) (region_a_does y fits.0 [] tt 0 Done (Body xs ys k' b)) (region_a_does z fits.1 [] tt 0 Done (Turn xs ys k' b)) (mark place ng) k (exec region_a n rest) (region_a_does rest fits.2 [] tt ng k b)
