-- A region: one side's run of structured code while the other stands still.
use Rattle.std.proofs.Common.{◌≡◌, ℕ, zero, suc, ◌+◌, ◌-◌, ◌*◌, ◌≤◌, Bool, true, false, List, [], ◌++◌, if◌then◌else◌, refl, ap, sym, ◌∙◌, subst, append_assoc, append-nil, arith}
use Rattle.dae_machine.specs.Machine.{Setup}
use Rattle.dae_meaning.specs.Worlds.{World, ticked}
use Rattle.dae_meaning.specs.Results.{Result, At, Over, Way, Next, Leaves, Skips, Returns, Halted, Trapped, Going, Astray, Run, ◌▷◌, ◌↻◌, turns}
use Rattle.dae_ir.specs.Code.{Done, Do, If, Loop}
use Rattle.dae_meaning.specs.Variables.{Env}
use Rattle.dae_ir.specs.Form.{Form, Program, holds}
use Rattle.dae_ir.specs.Streams.{Actions}
use Rattle.dae_ir.specs.declared.form.Test.{Test}
use Rattle.dae_ir.specs.declared.stream.Mark.{Mark}
use Rattle.dae_ir.specs.declared.stream.Branch.TheVariants.{Silent}
use Rattle.dae_machine_rounds.specs.Spots.{turn_least, weight, Behind, Ends, After, Body, Turn, Point, point, left, skipped, HeldCall, Spot, spot, Arrives, Moves, goes_behind, ends_body, ends_step, branches, enters}
use Rattle.dae_machine.specs.Walks.{ends}
use Rattle.dae_machine_rounds.proofs.Laws.{Does, here, does_same, does_both, does_one, Counts, resting, with_al, least_of}

-- the point to which each way leads from code with k behind it
abbrev pub exit : Actions → Behind → Way → Point
exit k b Next = point k b
exit k b Leaves = left b
exit k b Skips = skipped b
exit k b Returns = point Done Ends

-- a region is a branch or a loop
abbrev pub IsBlock : Form → Type 0
IsBlock Done = ⊥
IsBlock (Do place item k) = ⊥
IsBlock (If place t x y k) = Unit {0}
IsBlock (Loop place x y k) = Unit {0}

-- what a region leaves: a world with this memory and frame, where more was printed
pub record Still (w : World) (text : List ℕ) (w' : World) : Type 0 where
  pub memory : w'.memory ≡ w.memory
  pub printed : w'.printed ≡ w.printed ++ text
  pub frame : w'.frame ≡ w.frame
  pub top : w'.top ≡ w.top
  pub depth : w'.depth ≡ w.depth

abbrev pub still_itself : (w : World) → Still w [] w
still_itself w = record { memory = refl; printed = sym (append-nil w.printed); frame = refl; top = refl; depth = refl }

abbrev pub still_ticked : (w : World) → Still w [] (ticked w)
still_ticked w = record { memory = refl; printed = sym (append-nil w.printed); frame = refl; top = refl; depth = refl }

pub still_on : (w u v : World) (t t' : List ℕ) → Still w t u → Still u t' v → Still w (t ++ t') v
still_on w u v t t' h k = record { memory = k.memory ∙ h.memory; printed = k.printed ∙ (ap (λ (z : List ℕ). z ++ t') h.printed ∙ append_assoc w.printed t t'); frame = k.frame ∙ h.frame; top = k.top ∙ h.top; depth = k.depth ∙ h.depth }

none_said : (xs ys : List ℕ) → xs ≡ [] → ys ≡ [] → xs ++ ys ≡ []
none_said xs ys h k = rw (h, k) refl

module _ (setup : Setup) (p : Program) (by_a : Bool) (body : ℕ → Actions) (m : List ℕ) (calls : List HeldCall) where
  pub record Reached (s : Spot) (x : Counts) (w : World) (base least : ℕ) (at : Point) (env : Env) (w' : World) : Type 0 where
    pub al_taken : ℕ
    pub al_reserved : ℕ
    pub moves : ℕ
    pub fills : ℕ
    pub instructions : ℕ
    pub text : List ℕ
    pub quiet : by_a ≡ true → text ≡ []
    pub does : Does setup p by_a body m moves fills instructions s (resting x) text (Arrives (spot at env w' calls)) (resting (with_al al_taken al_reserved x))
    pub cost : moves + fills + base ≤ 8 * w'.items
    pub some : least ≤ instructions
    pub still : Still w text w'

  -- the side goes on: it has made so many instructions
  pub record Onward (s : Spot) (x : Counts) (w : World) (base j : ℕ) (w' : World) : Type 0 where
    pub al_taken : ℕ
    pub al_reserved : ℕ
    pub moves : ℕ
    pub fills : ℕ
    pub instructions : ℕ
    pub text : List ℕ
    pub quiet : by_a ≡ true → text ≡ []
    pub at : Spot
    pub does : Does setup p by_a body m moves fills instructions s (resting x) text (Arrives at) (resting (with_al al_taken al_reserved x))
    pub cost : moves + fills + base ≤ 8 * w'.items + 12
    pub some : j ≤ instructions
    pub still : Still w text w'

  abbrev pub Does_as : Spot → Counts → World → ℕ → ℕ → (Way → Point) → Result Env → Type 0
  Does_as s x w base j go (At way env w') = Reached s x w base (least_of way) (go way) env w'
  Does_as s x w base j go (Over (Halted c) w') = ⊥
  Does_as s x w base j go (Over (Trapped c) w') = ⊥
  Does_as s x w base j go (Over Going w') = Onward s x w base j w'
  Does_as s x w base j go (Over Astray w') = Unit {0}

  pub then_does : (s : Spot) (x : Counts) (w : World) (base d base0 base1 k j j' : ℕ) (at : Point) (go : Way → Point) (env : Env) (w1 : World) (r : Result Env) → base + d ≤ base0 → 8 * w1.items ≤ base1 + d → j' ≤ k + j → (y : Reached s x w base0 k at env w1)
      → Does_as (spot at env w1 calls) (with_al y.al_taken y.al_reserved x) w1 base1 j go r → Does_as s x w base j' go r
  then_does s x w base d base0 base1 k j j' at go env w1 (At way env' w') h i l y z =
      let a1 = y.cost in let a2 = z.cost in let a3 = y.some in let a4 = z.some in
      record { al_taken = z.al_taken; al_reserved = z.al_reserved; moves = _; fills = _; instructions = _; text = _; quiet = λ e. none_said y.text z.text (y.quiet e) (z.quiet e); does = does_both y.does z.does; cost = omega arith; some = omega arith; still = still_on w w1 w' y.text z.text y.still z.still }
  then_does s x w base d base0 base1 k j j' at go env w1 (Over (Halted c) w') h i l y z = z
  then_does s x w base d base0 base1 k j j' at go env w1 (Over (Trapped c) w') h i l y z = z
  then_does s x w base d base0 base1 k j j' at go env w1 (Over Going w') h i l y z =
      let a1 = y.cost in let a2 = z.cost in let a3 = y.some in let a4 = z.some in
      record { al_taken = z.al_taken; al_reserved = z.al_reserved; moves = _; fills = _; instructions = _; text = _; quiet = λ e. none_said y.text z.text (y.quiet e) (z.quiet e); at = z.at; does = does_both y.does z.does; cost = omega arith; some = omega arith; still = still_on w w1 w' y.text z.text y.still z.still }
  then_does s x w base d base0 base1 k j j' at go env w1 (Over Astray w') h i l y z = tt

  pub less_does : (s : Spot) (x : Counts) (w : World) (base base' j j' : ℕ) (go : Way → Point) (r : Result Env) → base' ≤ base → j' ≤ j → Does_as s x w base j go r → Does_as s x w base' j' go r
  less_does s x w base base' j j' go (At way env w') h i y = let c = y.cost in record { al_taken = y.al_taken; al_reserved = y.al_reserved; moves = y.moves; fills = y.fills; instructions = y.instructions; text = y.text; quiet = y.quiet; does = y.does; cost = omega arith; some = y.some; still = y.still }
  less_does s x w base base' j j' go (Over (Halted c) w') h i y = y
  less_does s x w base base' j j' go (Over (Trapped c) w') h i y = y
  less_does s x w base base' j j' go (Over Going w') h i y = let c = y.cost in let k = y.some in record { al_taken = y.al_taken; al_reserved = y.al_reserved; moves = y.moves; fills = y.fills; instructions = y.instructions; text = y.text; quiet = y.quiet; at = y.at; does = y.does; cost = omega arith; some = omega arith; still = y.still }
  less_does s x w base base' j j' go (Over Astray w') h i y = tt

  other_exit : (s : Spot) (x : Counts) (w : World) (base base' k : ℕ) (at at' : Point) (env : Env) (w' : World) → at ≡ at' → base' ≤ base → Reached s x w base k at env w' → Reached s x w base' k at' env w'
  other_exit s x w base base' k at at' env w' e h y =
      let c = y.cost in
      record { al_taken = y.al_taken; al_reserved = y.al_reserved; moves = y.moves; fills = y.fills; instructions = y.instructions; text = y.text; quiet = y.quiet; does = subst (λ (z : Point). Does setup p by_a body m y.moves y.fills y.instructions s (resting x) y.text (Arrives (spot z env w' calls)) (resting (with_al y.al_taken y.al_reserved x))) e y.does; cost = omega arith; some = y.some; still = y.still }

  -- behind a stretch
  abbrev pub Behind_does : Spot → Counts → World → ℕ → ℕ → ℕ → Point → ℕ → (Way → Point) → Run Env → Type 0
  Behind_does s x w base d k at j go f = (env : Env) (w' : World) (y : Reached s x w (base + d) k at env w') → Does_as (spot at env w' calls) (with_al y.al_taken y.al_reserved x) w' (8 * w'.items - d) j go (f env w')

  pub bind_does : (s : Spot) (x : Counts) (w : World) (base d j : ℕ) (go go' : Way → Point) (r : Result Env) (f : Run Env) → go Leaves ≡ go' Leaves → go Skips ≡ go' Skips → go Returns ≡ go' Returns → Does_as s x w (base + d) j go r → Behind_does s x w base d 0 (go Next) j go' f → Does_as s x w base j go' (r ▷ f)
  bind_does s x w base d j go go' (At Next env w') f l k t y h = let c = y.cost in then_does s x w base d (base + d) (8 * w'.items - d) 0 j j (go Next) go' env w' (f env w') (omega arith) (omega arith) (omega arith) y (h env w' y)
  bind_does s x w base d j go go' (At Leaves env w') f l k t y h = other_exit s x w (base + d) base 0 _ _ env w' l (omega arith) y
  bind_does s x w base d j go go' (At Skips env w') f l k t y h = other_exit s x w (base + d) base 1 _ _ env w' k (omega arith) y
  bind_does s x w base d j go go' (At Returns env w') f l k t y h = other_exit s x w (base + d) base 0 _ _ env w' t (omega arith) y
  bind_does s x w base d j go go' (Over (Halted c) w') f l k t y h = y
  bind_does s x w base d j go go' (Over (Trapped c) w') f l k t y h = y
  bind_does s x w base d j go go' (Over Going w') f l k t y h = less_does s x w (base + d) base j j go' (Over Going w') (omega arith) (omega arith) y
  bind_does s x w base d j go go' (Over Astray w') f l k t y h = tt

  turn_does : (s : Spot) (x : Counts) (w : World) (base d j j' : ℕ) (go go' : Way → Point) (r : Result Env) (f : Run Env) → j ≤ 1 + j' → go Leaves ≡ go' Next → go Returns ≡ go' Returns → Does_as s x w (base + d) j go r
      → Behind_does s x w base d 0 (go Next) j go' f → Behind_does s x w base d 1 (go Skips) j' go' f → Does_as s x w base j go' (r ↻ f)
  turn_does s x w base d j j' go go' (At Next env w') f n l t y h i = let c = y.cost in then_does s x w base d (base + d) (8 * w'.items - d) 0 j j (go Next) go' env w' (f env w') (omega arith) (omega arith) (omega arith) y (h env w' y)
  turn_does s x w base d j j' go go' (At Leaves env w') f n l t y h i = other_exit s x w (base + d) base 0 _ _ env w' l (omega arith) y
  turn_does s x w base d j j' go go' (At Skips env w') f n l t y h i = let c = y.cost in then_does s x w base d (base + d) (8 * w'.items - d) 1 j' j (go Skips) go' env w' (f env w') (omega arith) (omega arith) n y (i env w' y)
  turn_does s x w base d j j' go go' (At Returns env w') f n l t y h i = other_exit s x w (base + d) base 0 _ _ env w' t (omega arith) y
  turn_does s x w base d j j' go go' (Over (Halted c) w') f n l t y h i = y
  turn_does s x w base d j j' go go' (Over (Trapped c) w') f n l t y h i = y
  turn_does s x w base d j j' go go' (Over Going w') f n l t y h i = less_does s x w (base + d) base j j go' (Over Going w') (omega arith) (omega arith) y
  turn_does s x w base d j j' go go' (Over Astray w') f n l t y h i = tt

  -- one silent move
  abbrev pub moved : (x : Counts) (w w' : World) (base l : ℕ) (s : Spot) (at : Point) (env : Env) → Moves p by_a setup.memory body l s [] (Arrives (spot at env w' calls)) → Still w [] w' → 1 + base ≤ 8 * w'.items → weight s ≡ 1 → Reached s x w base l at env w'
  moved x w w' base l s at env move still cost one = record { al_taken = x.al_taken; al_reserved = x.al_reserved; moves = 1; fills = 0; instructions = l; text = []; quiet = λ e. refl; does = does_same one refl refl refl (does_one move ends tt); cost = omega arith; some = omega arith; still = still }

  -- ---- control flow of any code whose lists do as they mean

  -- what a list of actions does from where the side stands
  abbrev pub List_does : ℕ → Actions → Actions → Behind → Run Env → Type 0
  List_does n code k b f = (env : Env) (w : World) (x : Counts) → w.memory ≡ m → Does_as (spot (point code b) env w calls) x w (8 * w.items) n (exit k b) (f env w)

  -- the same with two units of the account to spare
  abbrev pub Spare_does : ℕ → Actions → Actions → Behind → Run Env → Type 0
  Spare_does n code k b f = (env : Env) (w : World) (x : Counts) → w.memory ≡ m → Does_as (spot (point code b) env w calls) x w (8 * w.items + 2) n (exit k b) (f env w)

  pub spare_less : (n : ℕ) (code k : Actions) (b : Behind) (f : Run Env) → Spare_does n code k b f → List_does n code k b f
  spare_less n code k b f l env w x mem = less_does _ x w (8 * w.items + 2) (8 * w.items) n n (exit k b) (f env w) (omega arith) (omega arith) (l env w x mem)

  pub branch_does : (n : ℕ) (mark : Mark) (t : Test) (xs ys k' k : Actions) (b : Behind) (f g h : Run Env) → List_does n xs Done (After k' b) f → List_does n ys Done (After k' b) g → List_does n k' k b h
      → Spare_does n (If mark (Silent t) xs ys k') k b (λ env w. (if holds t env then f env (ticked w) else g env (ticked w)) ▷ h)
  branch_does n mark t xs ys k' k b f g h i j l env w x mem = by (holds t env) first where
    at : Spot
    at = spot (point (If mark (Silent t) xs ys k') b) env w calls

    first : Reached (spot (point (If mark (Silent t) xs ys k') b) env w calls) x w (8 * w.items + 4) 0 (point (if holds t env then xs else ys) (After k' b)) env (ticked w)
    first = moved x w (ticked w) (8 * w.items + 4) 0 _ (point (if holds t env then xs else ys) (After k' b)) env (branches w) (still_ticked w) (omega arith) refl

    onward : (zs : Actions) (f : Run Env) → List_does n zs Done (After k' b) f → Reached (spot (point (If mark (Silent t) xs ys k') b) env w calls) x w (8 * w.items + 4) 0 (point zs (After k' b)) env (ticked w) → Does_as (spot (point (If mark (Silent t) xs ys k') b) env w calls) x w (8 * w.items + 2) n (exit k b) (f env (ticked w) ▷ h)
    onward zs f i y =
        bind_does _ x w (8 * w.items + 2) 2 n (exit Done (After k' b)) (exit k b) (f env (ticked w)) h refl refl refl
        (then_does _ x w (8 * w.items + 2 + 2) 0 (8 * w.items + 4) (8 * (w.items + 1)) 0 n n (point zs (After k' b)) (exit Done (After k' b)) env (ticked w) (f env (ticked w)) (omega arith) (omega arith) (omega arith) y (i env (ticked w) (with_al y.al_taken y.al_reserved x) mem))
        (λ env' w' z. (
        let c = z.cost in
        let x' = with_al z.al_taken z.al_reserved x in
        let back = moved x' w' w' (8 * w'.items - 2) 0 (spot (point Done (After k' b)) env' w' calls) (point k' b) env' (goes_behind w') (still_itself w') (omega arith) refl in
        then_does _ x' w' (8 * w'.items - 2) 0 (8 * w'.items - 2) (8 * w'.items) 0 n n (point k' b) (exit k b) env' w' (h env' w') (omega arith) (omega arith) (omega arith) back (l env' w' x' (z.still.memory ∙ mem))))

    by : (c : Bool) → Reached (spot (point (If mark (Silent t) xs ys k') b) env w calls) x w (8 * w.items + 4) 0 (point (if c then xs else ys) (After k' b)) env (ticked w) → Does_as (spot (point (If mark (Silent t) xs ys k') b) env w calls) x w (8 * w.items + 2) n (exit k b) ((if c then f env (ticked w) else g env (ticked w)) ▷ h)
    by true y = onward xs f i y
    by false y = onward ys g j y

  module _ (n : ℕ) (xs ys k' : Actions) (b : Behind) (f g : Run Env) (one : turn_least xs ≡ 1) (i : List_does n xs Done (Body xs ys k' b) f) (i' : List_does n ys Done (Turn xs ys k' b) g) where
    abbrev at_body : Point
    at_body = point xs (Body xs ys k' b)

    abbrev at_step : Point
    at_step = point ys (Turn xs ys k' b)

    abbrev Turns_do : ℕ → Type 0
    Turns_do j = (env : Env) (w : World) (x : Counts) → w.memory ≡ m → Does_as (spot at_body env w calls) x w (8 * w.items + 3) j (exit k' b) (turns f g j env w)

    step_does : (j : ℕ) → suc j ≤ n → Turns_do j → (env : Env) (w : World) (x : Counts) → w.memory ≡ m → 4 ≤ 8 * w.items → Does_as (spot at_step env w calls) x w (8 * w.items - 4) (suc j) (exit k' b) (g env w ↻ turns f g j)
    step_does j small turns_do env w x mem some =
        let go = exit Done (Turn xs ys k' b) in
        turn_does _ x w (8 * w.items - 4) 4 (suc j) j go (exit k' b) (g env w) (turns f g j) (omega arith) refl refl
        (less_does _ x w (8 * w.items) (8 * w.items - 4 + 4) n (suc j) go (g env w) (omega arith) small (i' env w x mem))
        (λ env' w' z. (
        let c = z.cost in
        let x' = with_al z.al_taken z.al_reserved x in
        let again = moved x' w' w' (8 * w'.items - 1) (turn_least xs) (spot (point Done (Turn xs ys k' b)) env' w' calls) at_body env' (ends_step w') (still_itself w') (omega arith) refl in
        then_does _ x' w' (8 * w'.items - 4) 3 (8 * w'.items - 1) (8 * w'.items + 3) (turn_least xs) j (suc j) at_body (exit k' b) env' w' (turns f g j env' w') (omega arith) (omega arith) (omega arith) again (turns_do env' w' x' (z.still.memory ∙ mem))))
        (λ env' w' z. (
        let c = z.cost in
        let x' = with_al z.al_taken z.al_reserved x in
        less_does _ x' w' (8 * w'.items + 3) (8 * w'.items - 4) j j (exit k' b) (turns f g j env' w') (omega arith) (omega arith) (turns_do env' w' x' (z.still.memory ∙ mem))))

    turns_do : (j : ℕ) → j ≤ n → Turns_do j
    turns_do zero small env w x mem = record { al_taken = x.al_taken; al_reserved = x.al_reserved; moves = 0; fills = 0; instructions = 0; text = []; quiet = λ e. refl; at = spot at_body env w calls; does = here; cost = omega arith; some = omega arith; still = still_itself w }
    turns_do (suc j) small env w x mem =
        let go = exit Done (Body xs ys k' b) in
        turn_does _ x w (8 * w.items + 3) 5 (suc j) (suc j) go (exit k' b) (f env (ticked w)) (λ env w. g env w ↻ turns f g j) (omega arith) refl refl
        (less_does _ x w (8 * (w.items + 1)) (8 * w.items + 3 + 5) n (suc j) go (f env (ticked w)) (omega arith) small (unticked x env w (f env (ticked w)) go (i env (ticked w) x mem)))
        (λ env' w' z. (
        let c = z.cost in
        let x' = with_al z.al_taken z.al_reserved x in
        let onward = moved x' w' w' (8 * w'.items - 1) 0 (spot (point Done (Body xs ys k' b)) env' w' calls) at_step env' (ends_body w') (still_itself w') (omega arith) refl in
        then_does _ x' w' (8 * w'.items - 5) 4 (8 * w'.items - 1) (8 * w'.items - 4) 0 (suc j) (suc j) at_step (exit k' b) env' w' (g env' w' ↻ turns f g j) (omega arith) (omega arith) (omega arith) onward (step_does j small (turns_do j (omega arith)) env' w' x' (z.still.memory ∙ mem) (omega arith))))
        (λ env' w' z. (
        let c = z.cost in
        let x' = with_al z.al_taken z.al_reserved x in
        less_does _ x' w' (8 * w'.items - 4) (8 * w'.items - 5) (suc j) (suc j) (exit k' b) (g env' w' ↻ turns f g j) (omega arith) (omega arith) (step_does j small (turns_do j (omega arith)) env' w' x' (z.still.memory ∙ mem) (omega arith)))) where
          -- the same spot, told of the world before the tick
          still_before : (w w' : World) (text : List ℕ) → Still (ticked w) text w' → Still w text w'
          still_before w w' text h = record { memory = h.memory; printed = h.printed; frame = h.frame; top = h.top; depth = h.depth }

          unticked : (x : Counts) (env : Env) (w : World) (r : Result Env) (go : Way → Point) → Does_as (spot at_body env (ticked w) calls) x (ticked w) (8 * (w.items + 1)) n go r → Does_as (spot at_body env w calls) x w (8 * (w.items + 1)) n go r
          unticked x env w (At way env' w') go y = record { al_taken = y.al_taken; al_reserved = y.al_reserved; moves = y.moves; fills = y.fills; instructions = y.instructions; text = y.text; quiet = y.quiet; does = y.does; cost = y.cost; some = y.some; still = still_before w w' y.text y.still }
          unticked x env w (Over (Halted c) w') go y = y
          unticked x env w (Over (Trapped c) w') go y = y
          unticked x env w (Over Going w') go y = record { al_taken = y.al_taken; al_reserved = y.al_reserved; moves = y.moves; fills = y.fills; instructions = y.instructions; text = y.text; quiet = y.quiet; at = y.at; does = y.does; cost = y.cost; some = y.some; still = still_before w w' y.text y.still }
          unticked x env w (Over Astray w') go y = tt

    pub loop_does : (mark : Mark) (k : Actions) (h : Run Env) → List_does n k' k b h → Spare_does n (Loop mark xs ys k') k b (λ env w. turns f g n env w ▷ h)
    loop_does mark k h l env w x mem =
        let first = moved x w (ticked w) (8 * w.items + 7) 0 (spot (point (Loop mark xs ys k') b) env w calls) at_body env (enters w) (still_ticked w) (omega arith) refl in
        bind_does _ x w (8 * w.items + 2) 0 n (exit k' b) (exit k b) (turns f g n env w) h refl refl refl
        (less_does _ x w (8 * w.items + 2) (8 * w.items + 2 + 0) n n (exit k' b) (turns f g n env w) (omega arith) (omega arith)
        (then_does _ x w (8 * w.items + 2) 5 (8 * w.items + 7) (8 * w.items + 3) 0 n n at_body (exit k' b) env (ticked w) (turns f g n env w) (omega arith) (omega arith) (omega arith) first (again (turns f g n env w) (turns_do n (omega arith) env w x mem))))
        (λ env' w' z. less_does _ (with_al z.al_taken z.al_reserved x) w' (8 * w'.items) (8 * w'.items - 0) n n (exit k b) (h env' w') (omega arith) (omega arith) (l env' w' (with_al z.al_taken z.al_reserved x) (z.still.memory ∙ mem))) where
          again : (r : Result Env) → Does_as (spot at_body env w calls) x w (8 * w.items + 3) n (exit k' b) r → Does_as (spot at_body env (ticked w) calls) x (ticked w) (8 * w.items + 3) n (exit k' b) r
          again (At way env' w') y = let z = y.still in record { al_taken = y.al_taken; al_reserved = y.al_reserved; moves = y.moves; fills = y.fills; instructions = y.instructions; text = y.text; quiet = y.quiet; does = y.does; cost = y.cost; some = y.some; still = record { memory = z.memory; printed = z.printed; frame = z.frame; top = z.top; depth = z.depth } }
          again (Over (Halted c) w') y = y
          again (Over (Trapped c) w') y = y
          again (Over Going w') y = let z = y.still in record { al_taken = y.al_taken; al_reserved = y.al_reserved; moves = y.moves; fills = y.fills; instructions = y.instructions; text = y.text; quiet = y.quiet; at = y.at; does = y.does; cost = y.cost; some = y.some; still = record { memory = z.memory; printed = z.printed; frame = z.frame; top = z.top; depth = z.depth } }
          again (Over Astray w') y = tt
