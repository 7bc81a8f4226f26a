-- Code whose variables are renamed by webs does what the code does.
use Rattle.std.proofs.Common.{◌≡◌, ℕ, zero, suc, ◌+◌, ◌<◌, ◌≤◌, Bool, true, false, ◌||◌, nat_eq, if◌then◌else◌, List, [], ◌∷◌, length, Option, Some, None, inl, inr, refl, ap, sym, ◌∙◌, subst, arith}
use Rattle.std.proofs.lemmas.Bool.{eqb-true, eq-eqb, and_parts}
use Rattle.std.specs.Prelude.{nat_lt}
use Rattle.dae_base.specs.Words.{plus, width_of, loaded, extended}
use Rattle.dae_base.specs.declared.Width.TheVariants.{B1}
use Rattle.dae_meaning.specs.Worlds.{World, ticked, fetched, back}
use Rattle.dae_meaning.specs.Results.{End, Result, At, Over, Next, Leaves, Skips, Returns, Way, Halted, Trapped, Going, Astray, Run, ◌▷◌, ◌↻◌, turns, within, checked}
use Rattle.dae_meaning.specs.Variables.{Env, put, entered}
use Rattle.dae_meaning.specs.Operations.{misplaced, passed}
use Rattle.dae_ir.specs.Code.{Done, Do, If, Loop, exec, Each}
use Rattle.dae_ir.specs.Form.{Form, Program, Calls, value, values, holds, computed, fault, called, ended, does, meaning, with_stored, with_printed, deeper, calls_of, all_loads}
use Rattle.dae_ir.specs.Classes.{has, has_test, has_value, has_check}
use Rattle.dae_ir.specs.Scope.{ItemIn, TestIn}
use Rattle.dae_ir.specs.SetFirst.{AllRead, ItemReads}
use Rattle.dae_ir.specs.declared.form.Operand.{Operand}
use Rattle.dae_ir.specs.declared.form.Operand.TheVariants.{Variable, Number}
use Rattle.dae_ir.specs.declared.form.Value.{Value}
use Rattle.dae_ir.specs.declared.form.Value.TheVariants as val
use Rattle.dae_ir.specs.declared.form.Test.{Test}
use Rattle.dae_ir.specs.declared.form.Check.{Check}
use Rattle.dae_ir.specs.declared.form.Check.TheVariants.{Place as Good, InBounds, Zero, Room, Frame, Abort}
use Rattle.dae_ir.specs.declared.form.Function.{Function}
use Rattle.dae_ir.specs.declared.form.Item.{Item}
use Rattle.dae_ir.specs.declared.form.Item.TheVariants.{Assign, Load, Store, Print, Expect, Break, Continue, Call, Return, Halt}
use Rattle.dae_webs.specs.Current.{Current, web_of, is_web, has_web, or_own, written_as, own_webs}
use Rattle.dae_webs.specs.Renamed.{Starts, variable_set, number_after, number_behind, web_set, with_web, webs_after, webs_behind, renamed_operand, renamed_operands, renamed_test, renamed_value, renamed_check, renamed_item, renamed_code}
use Rattle.dae_webs.specs.Known.{Owns, IsDefined, IsDefinedNext, IsKnown}
use Rattle.dae_webs.proofs.Tables.{set_some, own_at}
use Rattle.dae_webs.proofs.Inside.{Within, begun, begins, or_neither, both_kept, both_some, next_kept, in_first, in_second, in_rest, second_at, rest_at, first_within, second_within, rest_within, behind_first, behind_second, rest_first, rest_second}
use Rattle.dae_webs.proofs.Owning.{IsOf, AreOwned, owned_both, owned_second, owned_rest, owned_start, set_owned, owned_next}

-- ---- the same end, in the same world

-- Q holds of the variables behind it, and J where a jump leads
pub data Matches (Q J : Env → Env → Type 0) : Result Env → Result Env → Type 0 where
  GoesOn : (e f : Env) (w : World) → Q e f → Matches Q J (At Next e w) (At Next f w)
  GoesOut : (e f : Env) (w : World) → J e f → Matches Q J (At Leaves e w) (At Leaves f w)
  GoesRound : (e f : Env) (w : World) → J e f → Matches Q J (At Skips e w) (At Skips f w)
  GoesBack : (e f : Env) (w : World) → e 0 ≡ f 0 → Matches Q J (At Returns e w) (At Returns f w)
  IsOver : (end : End) (w : World) → Matches Q J (Over end w) (Over end w)

-- of calls
pub data EndsSame : Result Env → Result Env → Type 0 where
  SameAt : (way : Way) (e f : Env) (w : World) → e 0 ≡ f 0 → EndsSame (At way e w) (At way f w)
  SameOver : (end : End) (w : World) → EndsSame (Over end w) (Over end w)

abbrev pub Relation : Type 1
Relation = Env → Env → Type 0

matches_more : (Q J Q' J' : Relation) → ((e f : Env) → Q e f → Q' e f) → ((e f : Env) → J e f → J' e f) → (r s : Result Env) → Matches Q J r s → Matches Q' J' r s
matches_more Q J Q' J' q j r s (GoesOn e f w h) = GoesOn e f w (q e f h)
matches_more Q J Q' J' q j r s (GoesOut e f w h) = GoesOut e f w (j e f h)
matches_more Q J Q' J' q j r s (GoesRound e f w h) = GoesRound e f w (j e f h)
matches_more Q J Q' J' q j r s (GoesBack e f w h) = GoesBack e f w h
matches_more Q J Q' J' q j r s (IsOver end w) = IsOver end w

abbrev Follow : Relation → Relation → Relation → Run Env → Run Env → Type 0
Follow P Q J g h = (e f : Env) (w : World) → P e f → Matches Q J (g e w) (h f w)

matches_then : (P Q J : Relation) (r s : Result Env) (g h : Run Env) → Matches P J r s → Follow P Q J g h → Matches Q J (r ▷ g) (s ▷ h)
matches_then P Q J r s g h (GoesOn e f w p) go = go e f w p
matches_then P Q J r s g h (GoesOut e f w j) go = GoesOut e f w j
matches_then P Q J r s g h (GoesRound e f w j) go = GoesRound e f w j
matches_then P Q J r s g h (GoesBack e f w o) go = GoesBack e f w o
matches_then P Q J r s g h (IsOver end w) go = IsOver end w

-- a loop's body or step, which keeps P
matches_turn : (P J : Relation) (r s : Result Env) (g h : Run Env) → Matches P P r s → Follow P P J g h → Matches P J (r ↻ g) (s ↻ h)
matches_turn P J r s g h (GoesOn e f w p) go = go e f w p
matches_turn P J r s g h (GoesOut e f w p) go = GoesOn e f w p
matches_turn P J r s g h (GoesRound e f w p) go = go e f w p
matches_turn P J r s g h (GoesBack e f w o) go = GoesBack e f w o
matches_turn P J r s g h (IsOver end w) go = IsOver end w

matches_turns : (P J : Relation) (b c b' c' : Run Env) → Follow P P P b b' → Follow P P P c c' → (n : ℕ) → Follow P P J (turns b c n) (turns b' c' n)
matches_turns P J b c b' c' hb hc zero e f w p = IsOver Going w
matches_turns P J b c b' c' hb hc (suc n) e f w p =
    matches_turn P J (b e (ticked w)) (b' f (ticked w)) _ _ (hb e f (ticked w) p)
    (λ e f w p. matches_turn P J (c e w) (c' f w) _ _ (hc e f w p) (matches_turns P J b c b' c' hb hc n))

matches_within : (Q J : Relation) (o : Option ℕ) (w : World) (r s : Result Env) → Matches Q J r s → Matches Q J (within o w r) (within o w s)
matches_within Q J None w r s h = h
matches_within Q J (Some code) w r s h = IsOver Astray w

matches_checked : (Q J : Relation) (o : Option ℕ) (e f : Env) (w : World) → Q e f → Matches Q J (checked o e w) (checked o f w)
matches_checked Q J None e f w h = GoesOn e f w h
matches_checked Q J (Some code) e f w h = IsOver (Trapped code) w

matches_if : (Q J : Relation) (b : Bool) (r s r' s' : Result Env) → Matches Q J r r' → Matches Q J s s' → Matches Q J (if b then r else s) (if b then r' else s')
matches_if Q J true r s r' s' h k = h
matches_if Q J false r s r' s' h k = k

-- ---- variables

-- the webs of m hold in f what their variables hold in e, and both have one result
abbrev pub Agree : Current → Relation
Agree m e f = (e 0 ≡ f 0) × ((v u : ℕ) → web_of m v ≡ Some u → f u ≡ e v)

agree_less : (l m : Current) → Within l m → (e f : Env) → Agree m e f → Agree l e f
agree_less l m sub e f a = (a.0, λ v u is. a.1 v u (sub v u is))

module _ (m : Current) (e f : Env) (a : Agree m e f) where
  read_same : (v : ℕ) → has_web m v ≡ true → f (written_as m v) ≡ e v
  read_same v h = by (web_of m v) refl h where
    by : (o : Option ℕ) → web_of m v ≡ o → is_web o ≡ true → f (or_own v o) ≡ e v
    by None is there = absurd cc
    by (Some u) is there = a.1 v u is

  value_same : (x : Operand) → has (has_web m) x ≡ true → value (renamed_operand m x) f ≡ value x e
  value_same (Variable v) h = read_same v h
  value_same (Number k) h = refl

  holds_same : (t : Test) → has_test (has_web m) t ≡ true → holds (renamed_test m t) f ≡ holds t e
  holds_same t h =
      let p = and_parts (has (has_web m) t.left) (has (has_web m) t.right) h in
      rw (value_same t.left p.0, value_same t.right p.1) refl

  computed_same : (x : Value) (frame : ℕ) → has_value (has_web m) x ≡ true → computed (renamed_value m x) frame f ≡ computed x frame e
  computed_same (val.Same x) frame h = value_same x h
  computed_same (val.Extended kind x) frame h = ap (λ (y : ℕ). extended kind y) (value_same x h)
  computed_same (val.Binary operator x y) frame h =
      let p = and_parts (has (has_web m) x) (has (has_web m) y) h in
      rw (value_same x p.0, value_same y p.1) refl
  computed_same (val.Holds t) frame h = ap (λ (b : Bool). if b then 1 else 0) (holds_same t h)
  computed_same (val.FrameAddress offset) frame h = refl

  values_same : (xs : List Operand) → AllRead (has_web m) xs → values (renamed_operands m xs) f ≡ values xs e
  values_same [] h = refl
  values_same (x ∷ xs) h = rw (value_same x h.0, values_same xs h.1) refl

pub same_length : (m : Current) (xs : List Operand) → length (renamed_operands m xs) ≡ length xs
same_length m [] = refl
same_length m (x ∷ xs) = ap suc (same_length m xs)

-- ---- definitions

-- two tests that follow from each other
tests_same : (u x v w : ℕ) → (u ≡ x → v ≡ w) → (v ≡ w → u ≡ x) → nat_eq u x ≡ nat_eq v w
tests_same u x v w to from = by (nat_eq u x) (nat_eq v w) refl refl where
  by : (c d : Bool) → nat_eq u x ≡ c → nat_eq v w ≡ d → c ≡ d
  by true true e h = refl
  by true false e h = sym (eq-eqb v w (to (eqb-true u x e))) ∙ h
  by false true e h = sym e ∙ eq-eqb u x (from (eqb-true v w h))
  by false false e h = refl

module _ (owner : ℕ → ℕ) (limit : ℕ) where
  -- v is set in e, and its web x in f
  put_same : (v x y w u : ℕ) (e f : Env) → IsOf owner limit x v → IsOf owner limit u w → (v ≡ w → x ≡ u) → f u ≡ e w → put true x y f u ≡ put true v y e w
  put_same v x y w u e f a c only same =
      let t : nat_eq u x ≡ nat_eq w v = tests_same u x w v (λ h. sym c.0 ∙ ap owner h ∙ a.0) (λ h. sym (only (sym h))) in
      rw t (ap (λ (z : ℕ). if nat_eq w v then y else z) same)

  put_zero : (v x y : ℕ) (e f : Env) → 0 < v → 0 < x → e 0 ≡ f 0 → put true v y e 0 ≡ put true x y f 0
  put_zero v x y e f a c same = rw (before v a, before x c) same where
    before : (z : ℕ) → 0 < z → nat_eq 0 z ≡ false
    before z h = by (nat_eq 0 z) refl where
      by : (b : Bool) → nat_eq 0 z ≡ b → b ≡ false
      by true k = absurd (let s = eqb-true 0 z k in omega (arith, h, s))
      by false k = refl

  -- a web of v isn't that of variable 0
  pub not_zero : (v x : ℕ) → owner 0 ≡ 0 → 0 < v → owner x ≡ v → 0 < x
  not_zero v zero z lt is = absurd (let s : v ≡ 0 = sym is ∙ z in omega (arith, lt, s))
  not_zero v (suc x) z lt is = omega arith

  module _ (own : ℕ) (few : own ≤ limit) (some : 0 < own) (kept : (v : ℕ) → v < own → owner v ≡ v)
      (owns : Owns) (owned : (u v : ℕ) → owns u v ≡ true → IsOf owner limit u v) where
    defined_webs : (o : Option ℕ) (m : Current) (v : ℕ) → IsOf owner limit (web_set o m v) v → AreOwned owner limit m
        → (e f : Env) → ((w u : ℕ) → web_of m w ≡ Some u → f u ≡ e w) → (y w u : ℕ) → web_of (with_web o m v) w ≡ Some u
        → put true (web_set o m v) y f u ≡ put true v y e w
    defined_webs None m v here all e f a y w u is =
        put_same v (written_as m v) y w u e f here (all w u is) (λ h. ap (λ (z : Option ℕ). or_own v z) (ap (λ (z : ℕ). web_of m z) h ∙ is)) (a w u is)
    defined_webs (Some x) m v here all e f a y w u is =
        elim (set_some m v x w u is) [
          | inl h ↦ rw (h.0, eq-eqb u x (sym h.1)) refl
          | inr h ↦ put_same v x y w u e f here (all w u h.1) (λ k. other (nat_eq w v) h.0 (eq-eqb w v (sym k))) (a w u h.1)
        ]
      where
        other : (b : Bool) → b ≡ false → b ≡ true → x ≡ u
        other true g k = absurd cc
        other false g k = absurd cc

    defined_agrees : (o : Option ℕ) (m : Current) (v : ℕ) → 0 < v → v < own → AreOwned owner limit m → IsDefined owns o m v
        → (e f : Env) → Agree m e f → (y : ℕ) → Agree (with_web o m v) (put true v y e) (put true (web_set o m v) y f)
    defined_agrees o m v first small all d e f a y =
        let here = set_owned owner limit own few kept owns owned o m all v small d in
        (put_zero v (web_set o m v) y e f first (not_zero v (web_set o m v) (kept 0 some) first here.0) a.0, defined_webs o m v here all e f a.1 y)

    -- ---- one function

    module _ (functions : List Function) (p q : Program) (frames : (g : ℕ) → q.frame g ≡ p.frame g) (limits : q.limit ≡ p.limit) (bound : ℕ) (calls calls' : Calls)
        (enters : (g : ℕ) (xs : List ℕ) (w : World) → EndsSame (calls g xs w) (calls' g xs w)) (b : Starts) where
      abbrev every : ℕ → Bool
      every v = true

      abbrev old : Form → Run Env
      old code = exec (meaning p every calls) bound code

      abbrev new : Form → Run Env
      new code = exec (meaning q every calls') bound code

      same_room : (g : ℕ) (e f : Env) (w : World) → fault q (Room g) w f ≡ fault p (Room g) w e
      same_room g e f w =
          ap (λ (limit : ℕ). passed (nat_lt limit (w.depth + 1) || nat_lt (length w.memory) (w.top + q.frame g))) limits
          ∙ ap (λ (frame : ℕ). passed (nat_lt p.limit (w.depth + 1) || nat_lt (length w.memory) (w.top + frame))) (frames g)

      same_fault : (check : Check) (m : Current) (e f : Env) (w : World) → Agree m e f → has_check (has_web m) check ≡ true → fault q (renamed_check m check) w f ≡ fault p check w e
      same_fault (Good width x) m e f w a h = ap (λ (y : ℕ). misplaced width y (length w.memory)) (value_same m e f a x h)
      same_fault (InBounds x offset) m e f w a h = ap (λ (y : ℕ). misplaced B1 (plus y offset) (length w.memory)) (value_same m e f a x h)
      same_fault (Zero x) m e f w a h = ap (λ (y : ℕ). if nat_eq y 0 then Some 1 else None) (value_same m e f a x h)
      same_fault (Room g) m e f w a h = same_room g e f w
      same_fault Frame m e f w a h = refl
      same_fault Abort m e f w a h = refl

      test_goes : (Q J : Relation) (m : Current) (e f : Env) → Agree m e f → (t : Test) → has_test (has_web m) t ≡ true → (r s r' s' : Result Env) → Matches Q J r r' → Matches Q J s s'
          → Matches Q J (if holds t e then r else s) (if holds (renamed_test m t) f then r' else s')
      test_goes Q J m e f a t known r s r' s' h k =
          subst (λ (c : Bool). Matches Q J (if holds t e then r else s) (if c then r' else s')) (sym (holds_same m e f a t known)) (matches_if Q J (holds t e) r s r' s' h k)

      -- an item, inside a loop where the webs of l are kept
      module _ (l : Current) where
        abbrev Ends : Current → Result Env → Result Env → Type 0
        Ends m r s = Matches (Agree m) (Agree l) r s

        ended_goes : (o : Option ℕ) (m : Current) (v : ℕ) → 0 < v → v < own → AreOwned owner limit m → IsDefined owns o m v
            → (e f : Env) (w : World) → Agree m e f → (r s : Result Env) → EndsSame r s
            → Ends (with_web o m v) (ended (λ (x : Env). put true v (x 0) e) w r) (ended (λ (x : Env). put true (web_set o m v) (x 0) f) w s)
        ended_goes o m v first small all d e f w a r s (SameAt way x y u is) =
            subst (λ (z : ℕ). Ends (with_web o m v) (At Next (put true v (x 0) e) (back w u)) (At Next (put true (web_set o m v) z f) (back w u))) is
            (GoesOn _ _ (back w u) (defined_agrees o m v first small all d e f a (x 0)))
        ended_goes o m v first small all d e f w a r s (SameOver end u) = IsOver end u

        item_goes : (item : Item) (o : Option ℕ) (m : Current) → ItemIn functions own item → ItemReads (has_web m) item → IsDefinedNext owns o m (variable_set item)
            → AreOwned owner limit m → Within l m → (e f : Env) (w : World) → Agree m e f
            → Ends (webs_after o m item) (does p every calls item e w) (does q every calls' (renamed_item o m item) f w)
        item_goes (Assign v x) o m i r d all sub e f w a =
            let t = i.0 in
            rw (computed_same m e f a x w.frame r) (GoesOn _ _ (ticked w) (defined_agrees o m v t.0 t.1 all d e f a (computed x w.frame e)))
        item_goes (Load v kind x) o m i r d all sub e f w a =
            let t = i.0 in
            rw (value_same m e f a x r)
            (matches_within _ _ (misplaced (width_of kind) (value x e) (length w.memory)) w _ _
            (GoesOn _ _ (fetched true w) (defined_agrees o m v t.0 t.1 all d e f a (loaded kind (value x e) w.memory))))
        item_goes (Store width x y) o m i r d all sub e f w a =
            rw (value_same m e f a x r.0, value_same m e f a y r.1)
            (matches_within _ _ (misplaced width (value x e) (length w.memory)) w _ _ (GoesOn e f (with_stored width (value x e) (value y e) w) a))
        item_goes (Print spelling x) o m i r d all sub e f w a = rw (value_same m e f a x r) (GoesOn e f (with_printed spelling (value x e) w) a)
        item_goes (Expect check) o m i r d all sub e f w a =
            subst (λ (z : Option ℕ). Ends m (checked (fault p check w e) e (ticked w)) (checked z f (ticked w))) (sym (same_fault check m e f w a r)) (matches_checked _ _ (fault p check w e) e f (ticked w) a)
        item_goes Break o m i r d all sub e f w a = GoesOut e f (ticked w) (agree_less l m sub e f a)
        item_goes Continue o m i r d all sub e f w a = GoesRound e f (ticked w) (agree_less l m sub e f a)
        item_goes (Call v g xs) o m i r d all sub e f w a =
            let t = i.0 in
            subst (λ (z : Option ℕ). Ends (with_web o m v) (does p every calls (Call v g xs) e w)
            (within z w (ended (λ (x : Env). put true (web_set o m v) (x 0) f) w (calls' g (values (renamed_operands m xs) f) (called (renamed_operands m xs) w)))))
            (sym (same_room g e f w))
            (matches_within _ _ (fault p (Room g) w e) w _ _
            (rw (values_same m e f a xs r, same_length m xs)
            (ended_goes o m v t.0 t.1 all d e f w a (calls g (values xs e) (called xs w)) (calls' g (values xs e) (called xs w)) (enters g (values xs e) (called xs w)))))
        item_goes (Return x) o m i r d all sub e f w a = rw (value_same m e f a x r) (GoesBack _ _ (ticked w) refl)
        item_goes (Halt x) o m i r d all sub e f w a = rw (value_same m e f a x r) (IsOver (Halted (value x e)) (ticked w))

      -- ---- code

      -- what has a web in l has it in m as well, and no web of it starts in the code
      abbrev Spares : Current → ℕ → Current → Form → Type 0
      Spares l n m code = (v u : ℕ) → web_of l v ≡ Some u → (web_of m v ≡ Some u) × (begins b n code v ≡ false)

      abbrev CodeGoes : Form → Type 0
      CodeGoes code =
          (l : Current) (n : ℕ) (m : Current) → IsKnown owns b n m code → AreOwned owner limit m → Spares l n m code
          → Follow (Agree m) (Agree (webs_behind b n m code)) (Agree l) (old code) (new (renamed_code b n m code))

      -- two lists, and the code behind them
      module _ (n : ℕ) (x y k : Form) (m : Current) where
        -- a jump from either list finds what was current at their start
        inner_first : Spares (in_first b n x y m) n (in_first b n x y m) x
        inner_first v u is = (is, (both_some b n x y m v u is).1)

        inner_second : Spares (in_first b n x y m) (number_behind n x) (in_second b n x y m) y
        inner_second v u is = (second_at b n x y m v ∙ is, (both_some b n x y m v u is).0)

        module _ (l : Current) (spares : (v u : ℕ) → web_of l v ≡ Some u
            → (web_of m v ≡ Some u) × ((begins b n x v || (begins b (number_behind n x) y v || begins b (number_behind (number_behind n x) y) k v)) ≡ false)) where
          parts : (v u : ℕ) → web_of l v ≡ Some u → (web_of (in_first b n x y m) v ≡ Some u) × (begins b n x v ≡ false) × (begins b (number_behind n x) y v ≡ false) × (begins b (number_behind (number_behind n x) y) k v ≡ false)
          parts v u is =
              let s = spares v u is in
              let c = or_neither (begins b n x v) (begins b (number_behind n x) y v || begins b (number_behind (number_behind n x) y) k v) s.1 in
              let d = or_neither (begins b (number_behind n x) y v) (begins b (number_behind (number_behind n x) y) k v) c.1 in
              (both_kept b n x y m v c.0 d.0 ∙ s.0, c.0, d.0, d.1)

          outer_first : Spares l n (in_first b n x y m) x
          outer_first v u is = let z = parts v u is in (z.0, z.1)

          outer_second : Spares l (number_behind n x) (in_second b n x y m) y
          outer_second v u is = let z = parts v u is in (second_at b n x y m v ∙ z.0, z.2)

          outer_rest : Spares l (number_behind (number_behind n x) y) (in_rest b n x y m) k
          outer_rest v u is = let z = parts v u is in (rest_at b n x y m v ∙ z.0, z.3)

      code_goes : (code : Form) → Each (ItemIn functions own) (TestIn own) code → CodeGoes code
      code_goes Done names l n m known all spares e f w a = GoesOn e f w a
      code_goes (Do place item k) names l n m known all spares e f w a =
          matches_then (Agree (webs_after (b n) m item)) (Agree (webs_behind b (number_after n item) (webs_after (b n) m item) k)) (Agree l) _ _ (old k) (new (renamed_code b (number_after n item) (webs_after (b n) m item) k))
          (item_goes l item (b n) m names.0 known.0 known.1 all (λ v u is. (spares v u is).0) e f w a)
          (code_goes k names.1 l (number_after n item) (webs_after (b n) m item) known.2 (owned_next owner limit own few kept owns owned (b n) (variable_set item) m all known.1)
          (λ v u is. (let s = spares v u is in
          let c = or_neither (begun (b n) (variable_set item) v) (begins b (number_after n item) k v) s.1 in
          (next_kept (b n) (variable_set item) m v c.0 ∙ s.0, c.1))))
      code_goes (If place t x y k) names l n m known all spares e f w a =
          matches_then (Agree (in_rest b n x y m)) (Agree (webs_behind b n m (If place t x y k))) (Agree l) _ _ (old k) (new (renamed_code b (number_behind (number_behind n x) y) (in_rest b n x y m) k))
          (test_goes _ _ m e f a t known.0 _ _ _ _
          (matches_more _ _ _ _ (λ e f. agree_less _ _ (rest_first b n x y m) e f) (λ e f h. h) _ _
          (code_goes x names.1 l n (in_first b n x y m) known.1 (owned_both owner limit b n x y m all) (outer_first n x y k m l spares) e f (ticked w) (agree_less _ _ (first_within b n x y m) e f a)))
          (matches_more _ _ _ _ (λ e f. agree_less _ _ (rest_second b n x y m) e f) (λ e f h. h) _ _
          (code_goes y names.2 l (number_behind n x) (in_second b n x y m) known.2 (owned_second owner limit b n x y m all) (outer_second n x y k m l spares) e f (ticked w)
          (agree_less _ _ (second_within b n x y m) e f (agree_less _ _ (first_within b n x y m) e f a)))))
          (code_goes k names.3 l (number_behind (number_behind n x) y) (in_rest b n x y m) known.3 (owned_rest owner limit b n x y m all) (outer_rest n x y k m l spares))
      code_goes (Loop place x y k) names l n m known all spares e f w a =
          matches_then (Agree (in_first b n x y m)) (Agree (webs_behind b n m (Loop place x y k))) (Agree l) _ _ (old k) (new (renamed_code b (number_behind (number_behind n x) y) (in_rest b n x y m) k))
          (matches_turns (Agree (in_first b n x y m)) (Agree l) (old x) (old y) (new (renamed_code b n (in_first b n x y m) x)) (new (renamed_code b (number_behind n x) (in_second b n x y m) y))
          (λ e f w a. matches_more _ _ _ _ (λ e f. agree_less _ _ (behind_first b n x y m) e f) (λ e f h. h) _ _
          (code_goes x names.0 (in_first b n x y m) n (in_first b n x y m) known.0 (owned_both owner limit b n x y m all) (inner_first n x y k m) e f w a))
          (λ e f w a. matches_more _ _ _ _ (λ e f. agree_less _ _ (behind_second b n x y m) e f) (λ e f h. h) _ _
          (code_goes y names.1 (in_first b n x y m) (number_behind n x) (in_second b n x y m) known.1 (owned_second owner limit b n x y m all) (inner_second n x y k m) e f w
          (agree_less _ _ (second_within b n x y m) e f a)))
          bound e f w (agree_less _ _ (first_within b n x y m) e f a))
          (λ e f w a. code_goes k names.2 l (number_behind (number_behind n x) y) (in_rest b n x y m) known.2 (owned_rest owner limit b n x y m all) (outer_rest n x y k m l spares) e f w
          (agree_less _ _ (rest_within b n x y m) e f a))

-- ---- whole programs

-- how one function is renamed: it has so many variables, and then so many
pub record Renamer (functions : List Function) (own limit : ℕ) (code code' : Form) : Type 0 where
  pub starts : Starts
  pub owns : Owns
  pub owner : ℕ → ℕ
  pub some : 0 < own
  pub few : own ≤ limit
  pub kept : (v : ℕ) → v < own → owner v ≡ v
  pub owned : (u v : ℕ) → owns u v ≡ true → (owner u ≡ v) × (u < limit)
  pub names : Each (ItemIn functions own) (TestIn own) code
  pub body : code' ≡ renamed_code starts 0 (own_webs 0 own) code
  pub known : IsKnown owns starts 0 (own_webs 0 own) code

ends_same : (Q : Relation) → ((e f : Env) → Q e f → e 0 ≡ f 0) → (r s : Result Env) → Matches Q (Agree []) r s → EndsSame r s
ends_same Q q r s (GoesOn e f w h) = SameAt Next e f w (q e f h)
ends_same Q q r s (GoesOut e f w h) = SameAt Leaves e f w h.0
ends_same Q q r s (GoesRound e f w h) = SameAt Skips e f w h.0
ends_same Q q r s (GoesBack e f w h) = SameAt Returns e f w h
ends_same Q q r s (IsOver end w) = SameOver end w

module _ (functions : List Function) (p q : Program) (own limit : ℕ → ℕ) (frames : (g : ℕ) → q.frame g ≡ p.frame g) (limits : q.limit ≡ p.limit)
    (all : (f : ℕ) → Renamer functions (own f) (limit f) (p.body f) (q.body f)) where
  abbrev Calls' : ℕ → ℕ → Type 0
  Calls' n depth = (f : ℕ) (xs : List ℕ) (w : World) → EndsSame (calls_of p all_loads n depth f xs w) (calls_of q all_loads n depth f xs w)

  call_same : (n depth : ℕ) → Calls' n depth → Calls' n (suc depth)
  call_same n depth enters f xs w =
      let r = all f in
      let start : Env = entered (λ _. true) 1 xs in
      rw (r.body, frames f)
      (ends_same (Agree (webs_behind r.starts 0 (own_webs 0 (own f)) (p.body f))) (λ e g h. h.0) _ _
      (code_goes r.owner (limit f) (own f) r.few r.some r.kept r.owns r.owned functions p q frames limits n (calls_of p all_loads n depth) (calls_of q all_loads n depth) enters r.starts (p.body f) r.names
      [] 0 (own_webs 0 (own f)) r.known (owned_start r.owner (limit f) (own f) r.few r.kept) (λ v u is. absurd cc) start start (deeper p f w)
      (refl, λ v u is. (let h = (own_at 0 (own f) v u is).0 in let same : u ≡ v = omega (arith, h) in ap start same))))

  pub calls_same : (n depth : ℕ) → Calls' n depth
  calls_same n zero f xs w = SameOver Astray w
  calls_same n (suc depth) f xs w = call_same n depth (calls_same n depth) f xs w
