-- A program whose objects are placed never goes astray.
use Rattle.std.proofs.Common.{◌≡◌, ℕ, zero, suc, ◌+◌, ◌%◌, ◌≤◌, Bool, true, false, not, ◌&&◌, ◌||◌, nat_eq, nat_lt, List, [], ◌∷◌, length, Option, Some, None, if◌then◌else◌, refl, ap, sym, ◌∙◌, subst, arith}
use Rattle.std.proofs.lemmas.Bool.Decides.{nat_tests}
use Rattle.dae_base.specs.Words.{plus, extended, loaded, low_bytes, size, width_of}
use Rattle.dae_base.specs.declared.Width.{Width}
use Rattle.dae_base.specs.declared.Width.TheVariants.{B1}
use Rattle.dae_base.specs.declared.LoadKind.{LoadKind}
use Rattle.dae_base.specs.declared.LoadKind.TheVariants.{U8}
use Rattle.dae_base.proofs.Laws.{written_length}
use Rattle.dae_meaning.specs.Results.{Result, At, Over, Way, Next, Leaves, Skips, Returns, End, Halted, Trapped, Astray, Going, Run, ◌▷◌, ◌↻◌, within}
use Rattle.dae_meaning.specs.Worlds.{World, ticked, back}
use Rattle.dae_meaning.specs.Operations.{combined, misplaced, passed, spelled}
use Rattle.dae_meaning.specs.Variables.{Env, put, entered}
use Rattle.dae_meaning.specs.declared.Operator.{Operator}
use Rattle.dae_meaning.specs.declared.Spelling.TheVariants.{Byte}
use Rattle.dae_meaning.proofs.Laws.{IsTold}
use Rattle.dae_program.specs.declared.statements.FormatPiece.{FormatPiece}
use Rattle.dae_program.specs.declared.statements.FormatPiece.TheVariants as piece
use Rattle.dae_program.specs.declared.program.FrameSlot.{FrameSlot}
use Rattle.dae_program.specs.Trees as tree
use Rattle.dae_program.specs.Trees.{Expression, Target, Expressions, Setting, Statements, Arms, Program, Function}
use Rattle.dae_program.specs.Programs.{program_end as end_of}
use Rattle.dae_program.specs.Placed.{IsGood, IsFrame, AreGood, IsInFrame, IsNamed, IsPlaced, IsTargetPlaced, ArePlaced, IsSomePlaced, AreSettingsPlaced, AreSlotsPlaced, AreStatementsPlaced, AreArmsPlaced, KeepsFrame, KeepsFrames}
use Rattle.dae_program.specs.Outcomes.{Outcome, Gives, Ends, ◌⟫◌, ◌⊳◌, Object, Local, Placed, unless, access, store, read, write, with_read, with_written}
use Rattle.dae_program.specs.Expressions.{ProgramSetup, operate as operated, divides, decide as decided, bit, evaluate as value, object as target, arguments as values, return_to as returned, with_printed}
use Rattle.dae_program.specs.Printing.{print_text as text, argument, print_pieces as shown, most_bytes}
use Rattle.dae_program.specs.Initialising.{clear as cleared, set_items as set}
use Rattle.dae_program.specs.Statements.{test as tested, do_effects as evaluated, loop as looped, execute as does, execute_from as does_from}
use Rattle.dae_program.specs.Switches.{leave_switch as left, first_arm, with_work, count_labels}
use Rattle.dae_program.specs.Calls.{keep_parameters as kept, enter as entered_world, no_room, result_of as came_back, call as calls_of}
use Rattle.dae_program.specs.Promise.{NamedNeverStray}

abbrev tests : Bool → Bool → Bool → Option ℕ
tests a b c = if not a then Some 3 else (if b || c then Some 2 else None)

good_tests : (r x s l : ℕ) → r ≡ 0 → 16 ≤ x → x + s ≤ l → tests (nat_eq r 0) (nat_lt x 16) (nat_lt l (x + s)) ≡ None
good_tests r x s l h i j = by (nat_eq r 0) (nat_lt x 16) (nat_lt l (x + s)) refl refl refl where
  by : (a b c : Bool) → nat_eq r 0 ≡ a → nat_lt x 16 ≡ b → nat_lt l (x + s) ≡ c → tests a b c ≡ None
  by true false false e f g = refl
  by true false true e f g = absurd (grind (arith, nat_tests, g, j))
  by true true c e f g = absurd (grind (arith, nat_tests, f, i))
  by false b c e f g = absurd (grind (arith, nat_tests, e, h))

good_placed : (width : Width) (x l : ℕ) → IsGood width x l → misplaced width x l ≡ None
unfolding misplaced
good_placed width x l h = good_tests (x % size width) x (size width) l h.0 h.1 h.2

abbrev Any : {X : Type 0} → X → Type 0
Any x = Unit {0}

module _ (memory start top depth : ℕ) where
  -- a function's frame is there, and memory is as long as ever
  abbrev Inside : World → Type 0
  Inside w = (length w.memory ≡ memory) × (w.frame ≡ start) × (w.top ≡ top) × (w.depth ≡ depth)

  data Sound {X : Type 0} (P : X → Type 0) : Outcome X → Type 0 where
    Given : (x : X) (env : Env) (w : World) → Inside w → P x → Sound P (Gives x env w)
    Ended : (end : End) (w : World) → IsTold end → Sound P (Ends end w)

  data Fine : Result Env → Type 0 where
    Goes : (way : Way) (env : Env) (w : World) → Inside w → Fine (At way env w)
    Halts : (end : End) (w : World) → IsTold end → Fine (Over end w)

  then_sound : {X Y : Type 0} {P : X → Type 0} {Q : Y → Type 0} (r : Outcome X) (f : X → Env → World → Outcome Y) → Sound P r → ((x : X) (env : Env) (w : World) → Inside w → P x → Sound Q (f x env w)) → Sound Q (r ⟫ f)
  then_sound r f (Given x env w i h) k = k x env w i h
  then_sound r f (Ended end w h) k = Ended end w h

  choice_sound : {X : Type 0} {P : X → Type 0} (b : Bool) (r q : Outcome X) → Sound P r → Sound P q → Sound P (if b then r else q)
  choice_sound true r q h i = h
  choice_sound false r q h i = i

  fine_value : {X : Type 0} {P : X → Type 0} (r : Outcome X) (f : X → Run Env) → Sound P r → ((x : X) (env : Env) (w : World) → Inside w → P x → Fine (f x env w)) → Fine (r ⊳ f)
  fine_value r f (Given x env w i h) k = k x env w i h
  fine_value r f (Ended end w h) k = Halts end w h

  fine_then : (r : Result Env) (f : Run Env) → Fine r → ((env : Env) (w : World) → Inside w → Fine (f env w)) → Fine (r ▷ f)
  fine_then r f (Goes Next env w i) k = k env w i
  fine_then r f (Goes Leaves env w i) k = Goes Leaves env w i
  fine_then r f (Goes Skips env w i) k = Goes Skips env w i
  fine_then r f (Goes Returns env w i) k = Goes Returns env w i
  fine_then r f (Halts end w h) k = Halts end w h

  fine_loop : (r : Result Env) (f : Run Env) → Fine r → ((env : Env) (w : World) → Inside w → Fine (f env w)) → Fine (r ↻ f)
  fine_loop r f (Goes Next env w i) k = k env w i
  fine_loop r f (Goes Leaves env w i) k = Goes Next env w i
  fine_loop r f (Goes Skips env w i) k = k env w i
  fine_loop r f (Goes Returns env w i) k = Goes Returns env w i
  fine_loop r f (Halts end w h) k = Halts end w h

  fine_choice : (b : Bool) (r q : Result Env) → Fine r → Fine q → Fine (if b then r else q)
  fine_choice true r q h i = h
  fine_choice false r q h i = i

  fine_left : (r : Result Env) → Fine r → Fine (left r)
  fine_left r (Goes Next env w i) = Goes Next env w i
  fine_left r (Goes Leaves env w i) = Goes Next env w i
  fine_left r (Goes Skips env w i) = Goes Skips env w i
  fine_left r (Goes Returns env w i) = Goes Returns env w i
  fine_left r (Halts end w h) = Halts end w h

  inside_written : (width : Width) (x y : ℕ) (w : World) → Inside w → Inside (with_written width x y w)
  inside_written width x y w i = (written_length (low_bytes (size width) y) x w.memory ∙ i.0, i.1, i.2, i.3)

  well : (width : Width) (x : ℕ) (w : World) → Inside w → IsGood width x memory → misplaced width x (length w.memory) ≡ None
  well width x w i g = ap (λ l. misplaced width x l) (i.0) ∙ good_placed width x memory g

  stores_fine : (width : Width) (x y : ℕ) (env : Env) (w : World) → Inside w → IsGood width x memory → Fine (store width x y env w)
  stores_fine width x y env w i g =
      subst (λ (o : Option ℕ). Fine (within o w (At Next env (with_written width x y w)))) (sym (well width x w i g))
      (Goes Next env (with_written width x y w) (inside_written width x y w i))

  abbrev IsObject : Width → Object → Type 0
  IsObject width (Local v) = Unit {0}
  IsObject width (Placed true x) = Unit {0}
  IsObject width (Placed false x) = IsGood width x memory

  read_sound : (kind : LoadKind) (o : Object) → IsObject (width_of kind) o → (env : Env) (w : World) → Inside w → Sound Any (read kind o env w)
  read_sound kind (Local v) g env w i = Given (env v) env w i tt
  read_sound kind (Placed true x) g env w i = by (misplaced (width_of kind) x (length w.memory)) where
    by : (o : Option ℕ) → Sound Any (access true o (Gives (loaded kind x w.memory) env (with_read w)) w)
    by None = Given (loaded kind x w.memory) env (with_read w) i tt
    by (Some code) = Ended (Trapped code) w tt
  read_sound kind (Placed false x) g env w i =
      subst (λ (o : Option ℕ). Sound Any (access false o (Gives (loaded kind x w.memory) env (with_read w)) w)) (sym (well (width_of kind) x w i g))
      (Given (loaded kind x w.memory) env (with_read w) i tt)

  write_sound : (kind : LoadKind) (o : Object) (y : ℕ) → IsObject (width_of kind) o → (env : Env) (w : World) → Inside w → Sound Any (write kind o y env w)
  write_sound kind (Local v) y g env w i = Given y (put true v y env) w i tt
  write_sound kind (Placed true x) y g env w i = by (misplaced (width_of kind) x (length w.memory)) where
    by : (o : Option ℕ) → Sound Any (access true o (Gives y env (with_written (width_of kind) x y w)) w)
    by None = Given y env (with_written (width_of kind) x y w) (inside_written (width_of kind) x y w i) tt
    by (Some code) = Ended (Trapped code) w tt
  write_sound kind (Placed false x) y g env w i =
      subst (λ (o : Option ℕ). Sound Any (access false o (Gives y env (with_written (width_of kind) x y w)) w)) (sym (well (width_of kind) x w i g))
      (Given y env (with_written (width_of kind) x y w) (inside_written (width_of kind) x y w i) tt)

  operated_sound : {P : ℕ → Type 0} (operator : Operator) (x y : ℕ) (env : Env) (w : World) → Inside w → P (combined operator x y) → Sound P (operated operator x y env w)
  operated_sound operator x y env w i h = choice_sound (divides operator && nat_eq y 0) _ _ (Ended (Trapped 1) w tt) (Given (combined operator x y) env w i h)

  decided_sound : (y : ℕ) (env : Env) (w : World) → Inside w → Sound Any (decided y env w)
  decided_sound y env w i = choice_sound (nat_eq y 0) _ _ (Given 0 env w i tt) (Given 1 env w i tt)

  returned_sound : (env : Env) (r : Outcome ℕ) → Sound Any r → Sound Any (returned env r)
  returned_sound env r (Given x e w i h) = Given x env w i h
  returned_sound env r (Ended end w h) = Ended end w h

  text_fine : (most x : ℕ) (env : Env) (w : World) → Inside w → Fine (text most x env w)
  text_fine zero x env w i = Halts (Trapped 2) w tt
  text_fine (suc most) x env w i = by (misplaced B1 x (length w.memory)) (λ env w i. text_fine most (plus x 1) env w i) where
    by : (o : Option ℕ) → ((env : Env) (w : World) → Inside w → Fine (text most (plus x 1) env w)) → Fine (unless o (Gives (loaded U8 x w.memory) env (with_read w)) w ⊳ λ b env w. if nat_eq b 0 then At Next env w else text most (plus x 1) env (with_printed (spelled Byte b) w))
    by None go = fine_choice (nat_eq (loaded U8 x w.memory) 0) _ _ (Goes Next env (with_read w) i) (go env _ i)
    by (Some code) go = Halts (Trapped code) w tt

  shown_fine : (ps : List FormatPiece) (words : List ℕ) (env : Env) (w : World) → Inside w → Fine (shown ps words env w)
  shown_fine [] words env w i = Goes Next env w i
  shown_fine (piece.Byte b ∷ ps) words env w i = shown_fine ps words env _ i
  shown_fine (piece.Word spelling k ∷ ps) words env w i = shown_fine ps words env _ i
  shown_fine (piece.String k ∷ ps) words env w i = fine_then _ _ (text_fine most_bytes (argument 0 words k) env (ticked w) i) (λ env w i. shown_fine ps words env w i)

  cleared_fine : (count x : ℕ) → AreGood count x memory → (env : Env) (w : World) → Inside w → Fine (cleared count x env w)
  cleared_fine zero x h env w i = Goes Next env w i
  cleared_fine (suc count) x h env w i = fine_then _ _ (stores_fine B1 x 0 env (ticked w) i h.0) (λ env w i. cleared_fine count (plus x 1) h.1 env w i)

  looped_fine : (last : Bool) (test body step : Run Env) → ((env : Env) (w : World) → Inside w → Fine (test env w)) → ((env : Env) (w : World) → Inside w → Fine (body env w)) → ((env : Env) (w : World) → Inside w → Fine (step env w)) → (n : ℕ) (env : Env) (w : World) → Inside w → Fine (looped last test body step n env w)
  looped_fine true test body step t b c zero env w i = fine_loop _ _ (t env (ticked w) i) (λ env w i. Halts Going w tt)
  looped_fine false test body step t b c zero env w i = Halts Going w tt
  looped_fine last test body step t b c (suc n) env w i = fine_loop _ _ (fine_then _ _ (t env (ticked w) i) b) (λ env w i. fine_loop _ _ (c env w i) (λ env w i. looped_fine last test body step t b c n env w i))

  module _ (s : ProgramSetup) (frame : ℕ) (this : IsFrame memory frame start) (calls : (f : ℕ) (xs : List ℕ) (w : World) → Inside w → Sound Any (s.calls f xs w)) where
    in_frame : (width : Width) (offset : ℕ) (w : World) → Inside w → IsInFrame memory frame width offset → IsGood width (plus w.frame offset) memory
    in_frame width offset w i h = subst (λ (f : ℕ). IsGood width (plus f offset) memory) (sym (i.1)) (h start this)

    mutual
      value_sound : (e : Expression) → IsPlaced s.address memory frame e → (env : Env) (w : World) → Inside w → Sound Any (value s e env w)
      value_sound (tree.Number k) h env w i = Given k env (ticked w) i tt
      value_sound (tree.Address object offset) h env w i = Given (plus (s.address object) offset) env (ticked w) i tt
      value_sound (tree.Frame p offset) h env w i = Given (plus w.frame offset) env (ticked w) i tt
      value_sound (tree.Variable p v) h env w i = Given (env v) env (ticked w) i tt
      value_sound (tree.Read p kind true a) h env w i = then_sound _ _ (value_sound a h.1 env (ticked w) i) (λ x env w i t. read_sound kind (Placed true x) tt env w i)
      value_sound (tree.Read p kind false a) h env w i = then_sound _ _ (named_sound (width_of kind) (λ x. x) a h.0 h.1 env (ticked w) i) (λ x env w i t. read_sound kind (Placed false x) t env w i)
      value_sound (tree.Convert p kind a) h env w i = then_sound _ _ (value_sound a h env (ticked w) i) (λ x env w i t. Given (extended kind x) env w i tt)
      value_sound (tree.Not p a) h env w i = then_sound _ _ (value_sound a h env (ticked w) i) (λ x env w i t. Given (bit (nat_eq x 0)) env w i tt)
      value_sound (tree.Binary p operator a b) h env w i = then_sound _ _ (value_sound a h.0 env (ticked w) i) (λ x env w i t. then_sound _ _ (value_sound b h.1 env w i) (λ y env w i t. operated_sound operator x y env w i tt))
      value_sound (tree.Compare p comparison turned a b) h env w i = then_sound _ _ (value_sound a h.0 env (ticked w) i) (λ x env w i t. then_sound _ _ (value_sound b h.1 env w i) (λ y env w i t. Given _ env w i tt))
      value_sound (tree.And p a b) h env w i = then_sound _ _ (value_sound a h.0 env (ticked w) i) (λ x env w i t. choice_sound (nat_eq x 0) _ _ (Given 0 env w i tt) (then_sound _ _ (value_sound b h.1 env w i) (λ y env w i t. decided_sound y env w i)))
      value_sound (tree.Or p a b) h env w i = then_sound _ _ (value_sound a h.0 env (ticked w) i) (λ x env w i t. choice_sound (nat_eq x 0) _ _ (then_sound _ _ (value_sound b h.1 env w i) (λ y env w i t. decided_sound y env w i)) (Given 1 env w i tt))
      value_sound (tree.Conditional p a b c) h env w i = then_sound _ _ (value_sound a h.0 env (ticked w) i) (λ x env w i t. choice_sound (nat_eq x 0) _ _ (value_sound c h.2 env w i) (value_sound b h.1 env w i))
      value_sound (tree.Comma a b) h env w i = then_sound _ _ (value_sound a h.0 env (ticked w) i) (λ x env w i t. value_sound b h.1 env w i)
      value_sound (tree.Assign p kind t a) h env w i = then_sound _ _ (target_sound (width_of kind) t h.0 env (ticked w) i) (λ o env w i g. then_sound _ _ (value_sound a h.1 env w i) (λ y env w i t. write_sound kind o y g env w i))
      value_sound (tree.Update p kind t operator a) h env w i = then_sound _ _ (target_sound (width_of kind) t h.0 env (ticked w) i) (λ o env w i g. then_sound _ _ (read_sound kind o g env w i) (λ x env w i t. then_sound _ _ (value_sound a h.1 env w i) (λ y env w i t. then_sound _ _ (operated_sound {P = Any} operator x y env w i tt) (λ z env w i t. write_sound kind o (extended kind z) g env w i))))
      value_sound (tree.Step p kind t change new) h env w i = then_sound _ _ (target_sound (width_of kind) t h env (ticked w) i) (λ o env w i g. then_sound _ _ (read_sound kind o g env w i) (λ x env w i t. then_sound _ _ (write_sound kind o (extended kind (plus x change)) g env w i) (λ y env w i t. Given _ env w i tt)))
      value_sound (tree.Call p f xs) h env w i = then_sound _ _ (values_sound xs h env (ticked w) i) (λ words env w i t. returned_sound env (s.calls f words w) (calls f words w i))
      value_sound (tree.Putchar p a) h env w i = then_sound _ _ (value_sound a h env (ticked w) i) (λ x env w i t. Given (extended U8 x) env _ i tt)
      value_sound (tree.Exit p a) h env w i = then_sound _ _ (value_sound a h env (ticked w) i) (λ x env w i t. Ended (Halted x) w tt)
      value_sound (tree.Abort p) h env w i = Ended (Trapped 5) (ticked w) tt

      named_sound : (width : Width) (g : ℕ → ℕ) (a : Expression) → IsNamed s.address memory frame width g a → IsPlaced s.address memory frame a → (env : Env) (w : World) → Inside w → Sound (λ x. IsGood width (g x) memory) (value s a env w)
      named_sound width g (tree.Address object offset) n h env w i = Given (plus (s.address object) offset) env (ticked w) i n
      named_sound width g (tree.Frame p offset) n h env w i = Given (plus w.frame offset) env (ticked w) i (subst (λ (f : ℕ). IsGood width (g (plus f offset)) memory) (sym (i.1)) (n start this))
      named_sound width g (tree.Binary p operator a b) n h env w i =
          subst (λ (c : Expression). Sound (λ x. IsGood width (g x) memory) (value s a env (ticked w) ⟫ λ x env w. value s c env w ⟫ λ y. operated operator x y)) (sym (n.1))
          (then_sound _ _ (named_sound width (λ x. g (combined operator x n.0)) a n.2 h.0 env (ticked w) i) (λ x env w i t. operated_sound {P = λ x. IsGood width (g x) memory} operator x n.0 env (ticked w) i t))
      named_sound width g (tree.Conditional p a b c) n h env w i = then_sound _ _ (value_sound a h.0 env (ticked w) i) (λ x env w i t. choice_sound (nat_eq x 0) _ _ (named_sound width g c n.1 h.2 env w i) (named_sound width g b n.0 h.1 env w i))
      named_sound width g (tree.Comma a b) n h env w i = then_sound _ _ (value_sound a h.0 env (ticked w) i) (λ x env w i t. named_sound width g b n h.1 env w i)
      named_sound width g (tree.Number k) n h env w i = absurd n
      named_sound width g (tree.Variable p v) n h env w i = absurd n
      named_sound width g (tree.Read p kind checked a) n h env w i = absurd n
      named_sound width g (tree.Convert p kind a) n h env w i = absurd n
      named_sound width g (tree.Not p a) n h env w i = absurd n
      named_sound width g (tree.Compare p comparison turned a b) n h env w i = absurd n
      named_sound width g (tree.And p a b) n h env w i = absurd n
      named_sound width g (tree.Or p a b) n h env w i = absurd n
      named_sound width g (tree.Assign p kind t a) n h env w i = absurd n
      named_sound width g (tree.Update p kind t operator a) n h env w i = absurd n
      named_sound width g (tree.Step p kind t change new) n h env w i = absurd n
      named_sound width g (tree.Call p f xs) n h env w i = absurd n
      named_sound width g (tree.Putchar p a) n h env w i = absurd n
      named_sound width g (tree.Exit p a) n h env w i = absurd n
      named_sound width g (tree.Abort p) n h env w i = absurd n

      target_sound : (width : Width) (t : Target) → IsTargetPlaced s.address memory frame width t → (env : Env) (w : World) → Inside w → Sound (IsObject width) (target s t env w)
      target_sound width (tree.InVariable v) h env w i = Given (Local v) env w i tt
      target_sound width (tree.AtAddress true a) h env w i = then_sound _ _ (value_sound a h.1 env w i) (λ x env w i t. Given (Placed true x) env w i tt)
      target_sound width (tree.AtAddress false a) h env w i = then_sound _ _ (named_sound width (λ x. x) a h.0 h.1 env w i) (λ x env w i t. Given (Placed false x) env w i t)

      values_sound : (xs : Expressions) → ArePlaced s.address memory frame xs → (env : Env) (w : World) → Inside w → Sound Any (values s xs env w)
      values_sound tree.no_expressions h env w i = Given [] env w i tt
      values_sound (tree.expression_then a xs) h env w i = then_sound _ _ (value_sound a h.0 env (ticked w) i) (λ x env w i t. then_sound _ _ (values_sound xs h.1 env w i) (λ words env w i t. Given (x ∷ words) env w i tt))

    set_fine : (items : List Setting) → AreSettingsPlaced s.address memory frame items → (env : Env) (w : World) → Inside w → Fine (set s items env w)
    set_fine [] h env w i = Goes Next env w i
    set_fine (item ∷ items) h env w i = fine_value _ _ (value_sound item.value h.1 env w i) (λ y env w i t. fine_then _ _ (stores_fine item.width (plus w.frame item.offset) y env w i (in_frame item.width item.offset w i h.0)) (λ env w i. set_fine items h.2 env w i))

    tested_fine : (test : Option Expression) → IsSomePlaced s.address memory frame test → (env : Env) (w : World) → Inside w → Fine (tested s test env w)
    tested_fine None h env w i = Goes Next env w i
    tested_fine (Some e) h env w i = fine_value _ _ (value_sound e h env w i) (λ x env w i t. fine_choice (nat_eq x 0) _ _ (Goes Leaves env w i) (Goes Next env w i))

    evaluated_fine : (e : Option Expression) → IsSomePlaced s.address memory frame e → (env : Env) (w : World) → Inside w → Fine (evaluated s e env w)
    evaluated_fine None h env w i = Goes Next env w i
    evaluated_fine (Some e) h env w i = fine_value _ _ (value_sound e h env w i) (λ x env w i t. Goes Next env w i)

    kept_fine : (slots : List (Option FrameSlot)) (k : ℕ) → AreSlotsPlaced s.address memory frame slots → (env : Env) (w : World) → Inside w → Fine (kept slots k env w)
    kept_fine [] k h env w i = Goes Next env w i
    kept_fine (None ∷ slots) k h env w i = kept_fine slots (k + 1) h env w i
    kept_fine (Some slot ∷ slots) k h env w i = fine_then _ _ (stores_fine slot.width (plus w.frame slot.offset) (env k) env (ticked w) i (in_frame slot.width slot.offset w i h.0)) (λ env w i. kept_fine slots (k + 1) h.1 env w i)

    module _ (last : Bool) (n : ℕ) where
      mutual
        does_fine : (t : Statements) → AreStatementsPlaced s.address memory frame t → (env : Env) (w : World) → Inside w → Fine (does s last n t env w)
        does_fine tree.Done h env w i = Goes Next env w i
        does_fine (tree.Evaluate p e k) h env w i = fine_then _ _ (fine_value _ _ (value_sound e h.0 env (ticked w) i) (λ x env w i t. Goes Next env w i)) (does_fine k h.1)
        does_fine (tree.Initialise p offset size items k) h env w i = fine_then _ _ (fine_then _ _ (cleared_fine size (plus w.frame offset) (subst (λ (f : ℕ). AreGood size (plus f offset) memory) (sym (i.1)) (h.0 start this)) env (ticked w) i) (set_fine items h.1)) (does_fine k h.2)
        does_fine (tree.Print p xs ps k) h env w i = fine_then _ _ (fine_value _ _ (values_sound xs h.0 env (ticked w) i) (λ words env w i t. shown_fine ps words env w i)) (does_fine k h.1)
        does_fine (tree.If p e t u k) h env w i = fine_then _ _ (fine_value _ _ (value_sound e h.0 env (ticked w) i) (λ x env w i g. fine_choice (nat_eq x 0) _ _ (does_fine u h.2 env w i) (does_fine t h.1 env w i))) (does_fine k h.3)
        does_fine (tree.Loop p test body step k) h env w i = fine_then _ _ (looped_fine last (tested s test) (does s last n body) (evaluated s step) (tested_fine test h.0) (does_fine body h.1) (evaluated_fine step h.2) n env (ticked w) i) (does_fine k h.3)
        does_fine (tree.Do p body test k) h env w i = fine_then _ _ (looped_fine last (At Next) (does s last n body) (tested s (Some test)) (λ env w i. Goes Next env w i) (does_fine body h.0) (tested_fine (Some test) h.1) n env (ticked w) i) (does_fine k h.2)
        does_fine (tree.Switch p e arms k) h env w i = fine_then _ _ (fine_left _ (fine_value _ _ (value_sound e h.0 env (with_work (suc (count_labels arms)) w) i) (λ x env w i t. arms_fine arms h.1 (first_arm x arms) env w i))) (does_fine k h.2)
        does_fine (tree.Break p k) h env w i = Goes Leaves env (ticked w) i
        does_fine (tree.Continue p k) h env w i = Goes Skips env (ticked w) i
        does_fine (tree.Return p None k) h env w i = Goes Returns (put true 0 0 env) (ticked w) i
        does_fine (tree.Return p (Some e) k) h env w i = fine_value _ _ (value_sound e h.0 env (ticked w) i) (λ x env w i t. Goes Returns (put true 0 x env) w i)

        arms_fine : (arms : Arms) → AreArmsPlaced s.address memory frame arms → (before : ℕ) (env : Env) (w : World) → Inside w → Fine (does_from s last n before arms env w)
        arms_fine tree.no_arms h before env w i = Goes Next env w i
        arms_fine (tree.arm_then labels t rest) h zero env w i = fine_then _ _ (does_fine t h.0 env w i) (λ env w i. arms_fine rest h.1 zero env w i)
        arms_fine (tree.arm_then labels t rest) h (suc before) env w i = arms_fine rest h.1 before env w i

came_sound : (memory start top depth start' top' depth' : ℕ) (old : World) (r : Result Env) → Inside memory start top depth old → Fine memory start' top' depth' r → Sound memory start top depth {X = ℕ} Any (came_back old r)
came_sound memory start top depth start' top' depth' old r i (Goes Next env w j) = Given 0 env (back old w) (j.0, i.1, i.2, i.3) tt
came_sound memory start top depth start' top' depth' old r i (Goes Leaves env w j) = Given (env 0) env (back old w) (j.0, i.1, i.2, i.3) tt
came_sound memory start top depth start' top' depth' old r i (Goes Skips env w j) = Given (env 0) env (back old w) (j.0, i.1, i.2, i.3) tt
came_sound memory start top depth start' top' depth' old r i (Goes Returns env w j) = Given (env 0) env (back old w) (j.0, i.1, i.2, i.3) tt
came_sound memory start top depth start' top' depth' old r i (Halts end w h) = Ended end w h

next_aligned : (a b : ℕ) → a % 4 ≡ 0 → b % 4 ≡ 0 → (a + b) % 4 ≡ 0
next_aligned a b h i = omega (arith, h, i)

module _ (p : Program) (last : Bool) (n memory : ℕ) (placed : KeepsFrames memory p) where
  -- calls with so many calls inside one another still to come
  abbrev CallsSound : ℕ → Type 0
  CallsSound fuel = (start top depth : ℕ) → depth + fuel ≡ p.limit → top % 4 ≡ 0 → 16 ≤ top → (f : ℕ) (xs : List ℕ) (w : World) → Inside memory start top depth w → Sound memory start top depth {X = ℕ} Any (calls_of p last n fuel f xs w)

  abbrev frame_of : ℕ → ℕ
  frame_of f = let h = p.function f in h.frame

  abbrev entry : List ℕ → Env
  entry xs = entered (λ _. true) 1 xs

  abbrev setup_of : ℕ → ℕ → ProgramSetup
  setup_of fuel f = let g = p.function f in record { address = g.address; calls = λ h. calls_of p last n fuel (g.callee h) }

  abbrev body_of : ℕ → Statements
  body_of f = let h = p.function f in h.body

  abbrev slots_of : ℕ → List (Option FrameSlot)
  slots_of f = let h = p.function f in h.parameters

  room_fits : (a : Bool) (f top : ℕ) (w : World) → length w.memory ≡ memory → w.top ≡ top → (a || nat_lt (length w.memory) (w.top + frame_of f)) ≡ false → top + frame_of f ≤ memory
  room_fits true f top w h i g = cc
  room_fits false f top w h i g = grind (arith, nat_tests, g, h, i)

  calls_none : CallsSound zero
  calls_none start top depth e al lo f xs w i = by (nat_lt p.limit (w.depth + 1)) refl where
    by : (b : Bool) → nat_lt p.limit (w.depth + 1) ≡ b → Sound memory start top depth {X = ℕ} Any (unless (no_room p (p.function f) w) (Ends Astray w) w)
    by true g = subst (λ (b : Bool). Sound memory start top depth {X = ℕ} Any (unless (passed (b || nat_lt (length w.memory) (w.top + frame_of f))) (Ends Astray w) w)) (sym g) (Ended (Trapped 4) w tt)
    by false g = absurd (grind (arith, nat_tests, g, e, i.3))

  calls_more : (fuel : ℕ) → CallsSound fuel → CallsSound (suc fuel)
  calls_more fuel go start top depth e al lo f xs w i = by (nat_lt p.limit (w.depth + 1) || nat_lt (length w.memory) (w.top + frame_of f)) refl where
    by : (b : Bool) → (nat_lt p.limit (w.depth + 1) || nat_lt (length w.memory) (w.top + frame_of f)) ≡ b → Sound memory start top depth {X = ℕ} Any (unless (no_room p (p.function f) w) (came_back w (kept (slots_of f) 1 (entry xs) (entered_world (p.function f) w) ▷ does (setup_of fuel f) last n (body_of f))) w)
    by true g = subst (λ (b : Bool). Sound memory start top depth {X = ℕ} Any (unless (passed b) (came_back w (kept (slots_of f) 1 (entry xs) (entered_world (p.function f) w) ▷ does (setup_of fuel f) last n (body_of f))) w)) (sym g) (Ended (Trapped 4) w tt)
    by false g =
        let own : KeepsFrame memory (p.function f) = placed f in
        let this : IsFrame memory (frame_of f) top = (al, lo, room_fits (nat_lt p.limit (w.depth + 1)) f top w i.0 i.2 g) in
        let calls : (g : ℕ) (xs : List ℕ) (w : World) → Inside memory top (top + frame_of f) (depth + 1) w → Sound memory top (top + frame_of f) (depth + 1) {X = ℕ} Any ((setup_of fuel f).calls g xs w) = λ h ys u j. go top (top + frame_of f) (depth + 1) (omega (arith, e)) (next_aligned top (frame_of f) al own.aligned) (omega (arith, lo)) (let k = p.function f in k.callee h) ys u j in
        subst (λ (b : Bool). Sound memory start top depth {X = ℕ} Any (unless (passed b) (came_back w (kept (slots_of f) 1 (entry xs) (entered_world (p.function f) w) ▷ does (setup_of fuel f) last n (body_of f))) w)) (sym g)
        (came_sound memory start top depth top (top + frame_of f) (depth + 1) w _ i
        (fine_then memory top (top + frame_of f) (depth + 1) _ _
        (kept_fine memory top (top + frame_of f) (depth + 1) (setup_of fuel f) (frame_of f) this calls (slots_of f) 1 own.parameters (entry xs) (entered_world (p.function f) w) (i.0, i.2, ap (λ t. t + frame_of f) (i.2), ap (λ d. d + 1) (i.3)))
        (does_fine memory top (top + frame_of f) (depth + 1) (setup_of fuel f) (frame_of f) this calls last n (body_of f) own.statements)))

  calls_sound : (fuel : ℕ) → CallsSound fuel
  calls_sound zero = calls_none
  calls_sound (suc fuel) = calls_more fuel (calls_sound fuel)

never : (memory start top depth : ℕ) (r : Outcome ℕ) → Sound memory start top depth Any r → end_of r ≡ Astray → ⊥
never memory start top depth r (Given x env w i h) e = cc
never memory start top depth r (Ended (Halted status) w h) e = cc
never memory start top depth r (Ended (Trapped code) w h) e = cc
never memory start top depth r (Ended Going w h) e = cc
never memory start top depth r (Ended Astray w h) e = absurd h

whole : (x : ℕ) → 0 + x ≡ x
whole x = omega arith

pub named_never_stray : NamedNeverStray
named_never_stray p last n main w placed begins =
    never (length w.memory) w.frame w.top w.depth _
    (calls_sound p last n (length w.memory) placed p.limit w.frame w.top w.depth (subst (λ (d : ℕ). d + p.limit ≡ p.limit) (sym begins.depth) (whole p.limit)) begins.aligned begins.low main [] w (refl, refl, refl, refl))
