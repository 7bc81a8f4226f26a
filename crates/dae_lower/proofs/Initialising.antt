-- Initialised aggregates: zeros, and then items.
use Rattle.std.proofs.Common.{◌≡◌, ℕ, zero, suc, ◌+◌, ◌*◌, ◌/◌, ◌%◌, ◌<◌, ◌≤◌, inl, inr, Bool, true, false, not, nat_eq, List, [], ◌∷◌, length, Option, Some, None, if◌then◌else◌, refl, ap, sym, ◌∙◌, subst, arith}
use Rattle.std.proofs.Math.Nat.{mul-suc, mul-zero}
use Rattle.std.proofs.lemmas.Bool.{eq-eqb, eqb-true, ne_eqb}
use Rattle.dae_base.specs.Words.{plus, minus}
use Rattle.dae_base.specs.declared.Place.{Place}
use Rattle.dae_base.specs.declared.Width.TheVariants.{B1}
use Rattle.dae_meaning.specs.Results.{Result, At, Next, Leaves, Astray, Run, ◌▷◌, ◌↻◌, turns, within}
use Rattle.dae_meaning.specs.Worlds.{World, ticked}
use Rattle.dae_ir.specs.Code.{Done, Do}
use Rattle.dae_meaning.specs.Operations.{compared, combined, misplaced}
use Rattle.dae_ir.specs.Form.{Form, value as held, Calls, Program}
use Rattle.dae_meaning.specs.Variables.{Env, put}
use Rattle.dae_ir.specs.declared.form.Item.TheVariants.{Assign, Store}
use Rattle.dae_ir.specs.declared.form.Value.TheVariants.{Binary, FrameAddress}
use Rattle.dae_meaning.specs.declared.Operator.TheVariants.{Add}
use Rattle.dae_meaning.specs.declared.Comparison.TheVariants.{NotEqual}
use Rattle.dae_ir.specs.declared.form.Operand.{Operand}
use Rattle.dae_ir.specs.declared.form.Operand.TheVariants.{Variable, Number}
use Rattle.dae_program.specs.Trees.{Setting}
use Rattle.dae_program.specs.Scope.{AreSettingsIn}
use Rattle.dae_program.specs.Expressions.{ProgramSetup, evaluate as value}
use Rattle.dae_program.specs.Initialising.{clear as cleared, set_items as settled}
use Rattle.dae_program.specs.Outcomes.{store, with_written}
use Rattle.dae_lower.specs.Lowering.{emit, one, ◌≫◌, nowhere, leaves_if_not, test_of, ways, Links, turn_bytes, zeros_at, zeros, settings}
use Rattle.dae_lower.proofs.Relation.{at, Agree, Kept, Lasts, put_same, put_other}
use Rattle.dae_lower.proofs.Chains.{run, then_done}
use Rattle.dae_lower.proofs.Leaves.{agree_put, kept_put}
use Rattle.dae_lower.proofs.Arguments.{Called}
use Rattle.dae_lower.proofs.Expressions.{faithful}
use Rattle.dae_lower.proofs.Doing.{everything, kept_everything, Same, Goes, Halts, same_from, Does, value_does, then_does, skip_does}
use Rattle.dae_lower.proofs.Statements.{InitialisesDo}
use Rattle.dae_lower.proofs.Printing.{everything_from}

-- ---- turns that clear several bytes each

-- so many bytes, and others behind them
abbrev bytes_and : ℕ → ℕ → ℕ
bytes_and zero others = others
bytes_and (suc each) others = suc (bytes_and each others)

bytes_and_is : (each others : ℕ) → bytes_and each others ≡ each + others
bytes_and_is zero others = omega arith
bytes_and_is (suc each) others = let h = bytes_and_is each others in omega (arith, h)

-- in so many turns
abbrev in_turns : ℕ → ℕ → ℕ
in_turns each zero = zero
in_turns each (suc count) = bytes_and each (in_turns each count)

one_turn_more : (a others p s each : ℕ) → a ≡ each + others → others ≡ p → s ≡ p + each → a ≡ s
one_turn_more a others p s each e f g = omega (arith, e, f, g)

in_turns_is : (each count : ℕ) → in_turns each count ≡ each * count
in_turns_is each zero = sym (mul-zero each)
in_turns_is each (suc count) =
    one_turn_more (bytes_and each (in_turns each count)) (in_turns each count) (each * count) (each * suc count) each (bytes_and_is each (in_turns each count)) (in_turns_is each count) (mul-suc each count)

turns_below : (a others count more : ℕ) → a ≡ suc more + others → count ≤ others → suc count ≤ a
turns_below a others count more e h = omega (arith, e, h)

turns_at_most : (more count : ℕ) → count ≤ in_turns (suc more) count
turns_at_most more zero = omega arith
turns_at_most more (suc count) = turns_below (bytes_and (suc more) (in_turns (suc more) count)) (in_turns (suc more) count) count more (bytes_and_is (suc more) (in_turns (suc more) count)) (turns_at_most more count)

-- so many bytes are cleared in whole turns, each of a byte and more
record IsInTurns (size each : ℕ) : Type 0 where
  pub more : ℕ
  pub some : each ≡ suc more
  pub count : ℕ
  pub makes : in_turns each count ≡ size

in_turns_if : (b : Bool) (size each other : ℕ) → (b ≡ true → IsInTurns size each) → IsInTurns size other → IsInTurns size (if b then each else other)
in_turns_if true size each other h g = h refl
in_turns_if false size each other h g = g

turns_for : (size : ℕ) → IsInTurns size (turn_bytes size)
unfolding turn_bytes
turns_for size =
    in_turns_if (nat_eq (size % 5) 0) size 5 _ (λ e. record { more = 4; some = refl; count = size / 5; makes = let t = in_turns_is 5 (size / 5) in let r = eqb-true (size % 5) 0 e in omega (arith, t, r) })
    (in_turns_if (nat_eq (size % 4) 0) size 4 _ (λ e. record { more = 3; some = refl; count = size / 4; makes = let t = in_turns_is 4 (size / 4) in let r = eqb-true (size % 4) 0 e in omega (arith, t, r) })
    (in_turns_if (nat_eq (size % 3) 0) size 3 _ (λ e. record { more = 2; some = refl; count = size / 3; makes = let t = in_turns_is 3 (size / 3) in let r = eqb-true (size % 3) 0 e in omega (arith, t, r) })
    (in_turns_if (nat_eq (size % 2) 0) size 2 1 (λ e. record { more = 1; some = refl; count = size / 2; makes = let t = in_turns_is 2 (size / 2) in let r = eqb-true (size % 2) 0 e in omega (arith, t, r) })
    (record { more = 0; some = refl; count = size; makes = let t = in_turns_is 1 size in omega (arith, t) }))))

short_if : (b : Bool) (x y : ℕ) → x ≤ 5 → y ≤ 5 → (if b then x else y) ≤ 5
short_if true x y h g = h
short_if false x y h g = g

pub turn_is_short : (size : ℕ) → turn_bytes size ≤ 5
unfolding turn_bytes
turn_is_short size =
    short_if (nat_eq (size % 5) 0) 5 _ (omega arith) (short_if (nat_eq (size % 4) 0) 4 _ (omega arith)
    (short_if (nat_eq (size % 3) 0) 3 _ (omega arith) (short_if (nat_eq (size % 2) 0) 2 1 (omega arith) (omega arith))))

-- ---- addresses

-- the address behind so many bytes
abbrev address_after : ℕ → ℕ → ℕ
address_after zero x = x
address_after (suc each) x = address_after each (plus x 1)

no_further : (start k : ℕ) → plus start k ≡ plus start (k + 0)
no_further start k = omega arith

next_address : (start k : ℕ) → plus (plus start k) 1 ≡ plus start (k + 1)
next_address start k = omega arith

next_index : (k each : ℕ) → k + 1 + each ≡ k + suc each
next_index k each = omega arith

address_after_is : (each start k : ℕ) → address_after each (plus start k) ≡ plus start (k + each)
address_after_is zero start k = no_further start k
address_after_is (suc each) start k = ap (address_after each) (next_address start k) ∙ address_after_is each start (k + 1) ∙ ap (plus start) (next_index k each)

-- two addresses in a stretch
are_apart : (start k size : ℕ) → k < size → size < 4294967296 → plus start k ≡ plus start size → ⊥
are_apart start k size h small e = omega (arith, h, small, e)

-- ---- what is left

all_cleared : (k size : ℕ) → k + 0 ≡ size → k ≡ size
all_cleared k size e = omega (arith, e)

more_left : (k a others more size : ℕ) → k + a ≡ size → a ≡ suc more + others → k < size
more_left k a others more size e f = omega (arith, e, f)

left_then : (k a others more size : ℕ) → k + a ≡ size → a ≡ suc more + others → k + suc more + others ≡ size
left_then k a others more size e f = omega (arith, e, f)

turns_enough : (count a size n : ℕ) → count ≤ a → a ≡ size → size < 4294967296 → 4294967296 ≤ n → count < n
turns_enough count a size n h e small many = omega (arith, h, e, small, many)

module _ (m n : ℕ) (p : Program) (calls : Calls) where
  abbrev body : Place → ℕ → ℕ → Form
  body place each q = leaves_if_not place (test_of NotEqual (Variable q) (Variable (q + 1))) (zeros_at place q each)

  -- the variables behind a byte
  abbrev byte_of : ℕ → Env → Env
  byte_of q other = put true q (plus (other q) 1) other

  abbrev turns_of : Place → ℕ → ℕ → ℕ → Run Env
  turns_of place each q count = turns (run m n p calls (body place each q)) (run m n p calls Done) count

  abbrev more_of : Place → ℕ → ℕ → ℕ → Run Env
  more_of place each q count e u = run m n p calls Done e u ↻ turns_of place each q count

  -- ---- the bytes of a turn, whose address is in variable q

  -- what goes on behind them does what is left, from this address on
  abbrev ClearsOn : (q t x others : ℕ) → (env other : Env) → Run Env → Type 0
  ClearsOn q t x others env other next = (other1 : Env) (w1 : World) (i1 : ℕ) → Agree m env other1 → Kept m q nowhere other other1 → other1 q ≡ x → other1 (q + 1) ≡ other (q + 1) → i1 + (t + 7) + w1.loads ≤ 9 * w1.items → Same m q nowhere t other1 (cleared others x env w1) (next other1 (at i1 w1))

  clears_on_behind : (q t x others z : ℕ) (env other : Env) (next : Run Env) → ClearsOn q t x others env other next → ClearsOn q t x others env (put true q z other) next
  clears_on_behind q t x others z env other next h other1 w1 i1 a k address end o =
      h other1 w1 i1 a (λ v l f. k v l f ∙ kept_put m n p calls nowhere q q z other (omega arith) v l f) address (end ∙ put_other q z (q + 1) other (λ e. omega (arith, e))) o

  -- a byte with others behind it, and code
  byte_stored : (place : Place) (q bytes : ℕ) (code : Form) (env other : Env) (w : World) (i t x : ℕ) (next : Run Env) → i + t + w.loads ≤ 9 * w.items → Same m q nowhere t (byte_of q other) (cleared bytes (plus x 1) env (with_written B1 x 0 (ticked w))) (run m n p calls code (byte_of q other) (at (i + 1 + 1) (with_written B1 x 0 (ticked w))) ↻ next) → (f : Option ℕ) →
      Same m q nowhere t other (within f (ticked w) (At Next env (with_written B1 x 0 (ticked w))) ▷ cleared bytes (plus x 1)) (within f (at i w) (At Next other (at (i + 1) (with_written B1 x 0 w))) ▷ run m n p calls (Do place (Assign q (Binary Add (Variable q) (Number 1))) code) ↻ next)
  unfolding combined
  byte_stored place q bytes code env other w i t x next o rest None = same_from m q q nowhere t t other (byte_of q other) (omega arith) (omega arith) (kept_put m n p calls nowhere q q (plus (other q) 1) other (omega arith)) _ _ rest
  byte_stored place q bytes code env other w i t x next o rest (Some fault) = Halts Astray (ticked w) i (omega (arith, o))

  byte_address : (q x : ℕ) (other : Env) → other q ≡ x → byte_of q other q ≡ plus x 1
  byte_address q x other e = put_same q (plus (other q) 1) other ∙ ap (λ y. plus y 1) e

  byte_agree : (q : ℕ) (env other : Env) → m ≤ q → Agree m env other → Agree m env (byte_of q other)
  byte_agree q env other mq a = agree_put m n p calls nowhere q (plus (other q) 1) env other mq a

  bytes_stored : (place : Place) (q more others : ℕ) → m ≤ q → (env other : Env) (w : World) (i t x : ℕ) (next : Run Env) → other q ≡ x → Agree m env other → i + t + w.loads ≤ 9 * w.items → ClearsOn q t (address_after (suc more) x) others env other next → Same m q nowhere t other (cleared (bytes_and (suc more) others) x env w) (run m n p calls (zeros_at place q (suc more)) other (at i w) ↻ next)
  bytes_stored place q zero others mq env other w i t x next e a o h =
      subst (λ (y : ℕ). Same m q nowhere t other (cleared (suc others) x env w) (within (misplaced B1 y (length w.memory)) (at i w) (At Next other (at (i + 1) (with_written B1 y 0 w))) ▷ run m n p calls (Do place (Assign q (Binary Add (Variable q) (Number 1))) Done) ↻ next)) (sym e)
      (byte_stored place q others Done env other w i t x next o
      (h (byte_of q other) (with_written B1 x 0 (ticked w)) (i + 1 + 1) (byte_agree q env other mq a) (kept_put m n p calls nowhere q q (plus (other q) 1) other (omega arith)) (byte_address q x other e) (put_other q (plus (other q) 1) (q + 1) other (λ d. omega (arith, d))) (omega (arith, o)))
      (misplaced B1 x (length w.memory)))
  bytes_stored place q (suc more) others mq env other w i t x next e a o h =
      subst (λ (y : ℕ). Same m q nowhere t other (cleared (suc (bytes_and (suc more) others)) x env w) (within (misplaced B1 y (length w.memory)) (at i w) (At Next other (at (i + 1) (with_written B1 y 0 w))) ▷ run m n p calls (Do place (Assign q (Binary Add (Variable q) (Number 1))) (zeros_at place q (suc more))) ↻ next)) (sym e)
      (byte_stored place q (bytes_and (suc more) others) (zeros_at place q (suc more)) env other w i t x next o
      (bytes_stored place q more others mq env (byte_of q other) (with_written B1 x 0 (ticked w)) (i + 1 + 1) t (plus x 1) next (byte_address q x other e) (byte_agree q env other mq a) (omega (arith, o)) (clears_on_behind q t (address_after (suc more) (plus x 1)) others (plus (other q) 1) env other next h))
      (misplaced B1 x (length w.memory)))

  -- ---- the turns, where the address is k bytes behind the first

  zero_turns : (place : Place) (start size more q : ℕ) → m ≤ q → size < 4294967296 → (c count : ℕ) → c < count → (k : ℕ) (env other : Env) (w : World) (i t : ℕ) → k + in_turns (suc more) c ≡ size → other q ≡ plus start k → other (q + 1) ≡ plus start size → Agree m env other → i + (t + 3) + w.loads ≤ 9 * w.items → Same m q nowhere t other (cleared (in_turns (suc more) c) (plus start k) env w) (turns_of place (suc more) q count other (at i w))
  unfolding compared
  zero_turns place start size more q mq small c zero l k env other w i t e f g a o = absurd (omega (arith, l))
  zero_turns place start size more q mq small zero (suc count) l k env other w i t e f g a o =
      subst (λ (h : Bool). Same m q nowhere t other (At Next env w) ((((if h then At Next other (at (i + 1 + 1) w) else At Leaves other (at (i + 1 + 1 + 1) w)) ▷ run m n p calls (zeros_at place q (suc more))) ↻ more_of place (suc more) q count))) (sym (ap not (eq-eqb (other q) (other (q + 1)) (f ∙ ap (plus start) (all_cleared k size e) ∙ sym g))))
      (Goes Next env other w (i + 1 + 1 + 1) a (λ v z x. refl) (omega (arith, o)))
  zero_turns place start size more q mq small (suc c) (suc count) l k env other w i t e f g a o =
      subst (λ (h : Bool). Same m q nowhere t other (cleared (bytes_and (suc more) (in_turns (suc more) c)) (plus start k) env w) ((((if h then At Next other (at (i + 1 + 1) w) else At Leaves other (at (i + 1 + 1 + 1) w)) ▷ run m n p calls (zeros_at place q (suc more))) ↻ more_of place (suc more) q count))) (sym (ap not (ne_eqb (other q) (other (q + 1)) (λ d. are_apart start k size (more_left k (bytes_and (suc more) (in_turns (suc more) c)) (in_turns (suc more) c) more size e (bytes_and_is (suc more) (in_turns (suc more) c))) small (sym f ∙ d ∙ g)))))
      (bytes_stored place q more (in_turns (suc more) c) mq env other w (i + 1 + 1) t (plus start k) (more_of place (suc more) q count) f a (omega (arith, o)) (λ other1 w1 i1 a1 k1 address end o1.
      subst (λ (x : ℕ). Same m q nowhere t other1 (cleared (in_turns (suc more) c) x env w1) (turns_of place (suc more) q count other1 (at i1 w1))) (sym (address_after_is (suc more) start k))
      (zero_turns place start size more q mq small c count (omega (arith, l)) (k + suc more) env other1 w1 i1 t (left_then k (bytes_and (suc more) (in_turns (suc more) c)) (in_turns (suc more) c) more size e (bytes_and_is (suc more) (in_turns (suc more) c))) (address ∙ address_after_is (suc more) start k) (end ∙ g) a1 (omega (arith, o1)))))

module _ (m n : ℕ) (s : ProgramSetup) (l : Links) (p : Program) (calls : Calls) (places : (k : ℕ) → s.address k ≡ l.address k) (called : Called m n s l p calls places) (some : 0 < m) (many : 4294967296 ≤ n) where
  -- items, whose addresses are all in variable v
  settings_do : (place : Place) (items : List Setting) → AreSettingsIn m items → (v q : ℕ) → m ≤ v → v < q → Does m n p calls 0 0 q v (settings l place v items q) (settled s items)
  settings_do place [] h v q mv vq = skip_does m n p calls q v
  settings_do place (item ∷ items) h v q mv vq =
      value_does m n p calls 0 2 0 q q v (λ y n. emit (Do place (Assign v (FrameAddress item.offset)) (one place (Store item.width (Variable v) y))) n ≫ λ x. settings l place v items) (value s item.value) (λ y env w. store item.width (plus w.frame item.offset) y env w ▷ settled s items) (omega (arith, vq))
      (let f = faithful m n s l p calls places called item.value h.1 in f.value nowhere q (omega (arith, mv, vq)))
      (λ o r z. by o r z (settings_do place items h.2 v o mv (omega (arith, vq, r)))) where
        y : Operand
        y = ((ways l item.value).value nowhere q).given

        by : (o : ℕ) → q ≤ o → Lasts m nowhere q o ((ways l item.value).value nowhere q).given → Does m n p calls 0 0 o v (settings l place v items o) (settled s items) → (o ≤ (emit (Do place (Assign v (FrameAddress item.offset)) (one place (Store item.width (Variable v) ((ways l item.value).value nowhere q).given))) o ≫ λ x. settings l place v items).next) × ((x : ℕ) (env other : Env) (w : World) (i t : ℕ) → Agree m env other → held ((ways l item.value).value nowhere q).given other ≡ x → i + (t + 2) + w.loads ≤ 9 * w.items → Same m v everything (t + 0) other (store item.width (plus w.frame item.offset) x env w ▷ settled s items) (run m n p calls (emit (Do place (Assign v (FrameAddress item.offset)) (one place (Store item.width (Variable v) ((ways l item.value).value nowhere q).given))) o ≫ λ x. settings l place v items).code other (at i w)))
        by o r z rest = (
          rest.grows,
          λ x env other w i t a u d.
              let other1 : Env = put true v (plus w.frame item.offset) other in
              let y1 : Operand = ((ways l item.value).value nowhere q).given in
              subst (λ (k : ℕ). Same m v everything (t + 0) other (store item.width k x env w ▷ settled s items) (within (misplaced item.width (other1 v) (length w.memory)) (at (i + 1) w) (At Next other1 (at (i + 1 + 1) (with_written item.width (other1 v) (held y1 other1) w))) ▷ run m n p calls (settings l place v items o).code)) (put_same v (plus w.frame item.offset) other)
              (subst (λ (k : ℕ). Same m v everything (t + 0) other (store item.width (other1 v) k env w ▷ settled s items) (within (misplaced item.width (other1 v) (length w.memory)) (at (i + 1) w) (At Next other1 (at (i + 1 + 1) (with_written item.width (other1 v) (held y1 other1) w))) ▷ run m n p calls (settings l place v items o).code)) (unchanged y1 o z other (plus w.frame item.offset) ∙ u)
              (stored y1 rest env other other1 w i t (agree_put m n p calls nowhere v (plus w.frame item.offset) env other mv a) (kept_everything m v nowhere other other1 (kept_put m n p calls nowhere v v (plus w.frame item.offset) other (omega arith))) d (misplaced item.width (other1 v) (length w.memory)))),
        ) where
          stored : (y1 : Operand) → Does m n p calls 0 0 o v (settings l place v items o) (settled s items) → (env other other1 : Env) (w : World) (i t : ℕ) → Agree m env other1 → Kept m v everything other other1 → i + (t + 2) + w.loads ≤ 9 * w.items → (f : Option ℕ) → Same m v everything (t + 0) other (within f w (At Next env (with_written item.width (other1 v) (held y1 other1) w)) ▷ settled s items) (within f (at (i + 1) w) (At Next other1 (at (i + 1 + 1) (with_written item.width (other1 v) (held y1 other1) w))) ▷ run m n p calls (settings l place v items o).code)
          stored y1 rest env other other1 w i t a k d None = same_from m v v everything (t + 0) (t + 0) other other1 (omega arith) (omega arith) k _ _ (rest.runs env other1 (with_written item.width (other1 v) (held y1 other1) w) (i + 1 + 1) t a (omega (arith, d)))
          stored y1 rest env other other1 w i t a k d (Some code) = Halts Astray w (i + 1) (omega (arith, d))

          unchanged : (x : Operand) (o : ℕ) → Lasts m nowhere q o x → (other : Env) (k : ℕ) → held x (put true v k other) ≡ held x other
          unchanged (Number c) o z other k = refl
          unchanged (Variable u) o (inl z) other k = put_other v k u other (λ e. omega (arith, e, z.0, vq))
          unchanged (Variable u) o (inr z) other k = put_other v k u other (λ e. omega (arith, e, z.0, mv))

  -- the variables at the loop: the end, and the first address, which is found from it
  abbrev end_set : ℕ → ℕ → ℕ → Env → World → Env
  end_set q offset size other w = put true (q + 1) (plus w.frame (plus offset size)) other

  abbrev begun : ℕ → ℕ → ℕ → Env → World → Env
  begun q offset size other w = put true q (minus (end_set q offset size other w (q + 1)) size) (end_set q offset size other w)

  first_is : (frame offset size : ℕ) → size < 4294967296 → minus (plus frame (plus offset size)) size ≡ plus (plus frame offset) 0
  first_is frame offset size small = omega (arith, small)

  end_is : (frame offset size : ℕ) → plus frame (plus offset size) ≡ plus (plus frame offset) size
  end_is frame offset size = omega arith

  whole_address : (x y : ℕ) → plus (plus x y) 0 ≡ plus x y
  whole_address x y = omega arith

  zeros_do : (place : Place) (offset size : ℕ) (q : ℕ) → m ≤ q → size < 4294967296 → Does m n p calls 7 0 (q + 2) q (emit (zeros place offset size q) (q + 2)) (λ env w. cleared size (plus w.frame offset) env w)
  unfolding combined
  zeros_do place offset size q mq small = record {
    grows = omega arith;
    runs = λ env other w i t a o.
        subst (λ (x : ℕ). Same m q everything (t + 0) other (cleared size x env w) (turns_of m n p calls place (turn_bytes size) q n (begun q offset size other w) (at (i + 1 + 1) w) ▷ At Next)) (whole_address w.frame offset)
        (subst (λ (u : Result Env). Same m q everything (t + 0) other (cleared size (plus (plus w.frame offset) 0) env w) u) (sym (then_done (turns_of m n p calls place (turn_bytes size) q n (begun q offset size other w) (at (i + 1 + 1) w))))
        (everything_from m q nowhere (t + 0) other _ _
        (same_from m q q nowhere (t + 0) (t + 0) other (begun q offset size other w) (omega arith) (omega arith) (kept_begun other w) _ _
        (subst (λ (each : ℕ). Same m q nowhere (t + 0) (begun q offset size other w) (cleared size (plus (plus w.frame offset) 0) env w) (turns_of m n p calls place each q n (begun q offset size other w) (at (i + 1 + 1) w))) (sym all.some)
        (subst (λ (bytes : ℕ). Same m q nowhere (t + 0) (begun q offset size other w) (cleared bytes (plus (plus w.frame offset) 0) env w) (turns_of m n p calls place (suc all.more) q n (begun q offset size other w) (at (i + 1 + 1) w))) makes
        (zero_turns m n p calls place (plus w.frame offset) size all.more q mq small all.count n (turns_enough all.count (in_turns (suc all.more) all.count) size n (turns_at_most all.more all.count) makes small many) 0 env (begun q offset size other w) w (i + 1 + 1) (t + 0) (none (in_turns (suc all.more) all.count) ∙ makes) (begun_first other w) (begun_end other w)
        (agree_put m n p calls nowhere q (minus (end_set q offset size other w (q + 1)) size) env (end_set q offset size other w) mq (agree_put m n p calls nowhere (q + 1) (plus w.frame (plus offset size)) env other (omega (arith, mq)) a)) (omega (arith, o))))))));
  } where
    all : IsInTurns size (turn_bytes size)
    all = turns_for size

    makes : in_turns (suc all.more) all.count ≡ size
    makes = subst (λ (each : ℕ). in_turns each all.count ≡ size) all.some all.makes

    none : (x : ℕ) → 0 + x ≡ x
    none x = omega arith

    begun_first : (other : Env) (w : World) → begun q offset size other w q ≡ plus (plus w.frame offset) 0
    begun_first other w = put_same q (minus (end_set q offset size other w (q + 1)) size) (end_set q offset size other w) ∙ ap (λ x. minus x size) (put_same (q + 1) (plus w.frame (plus offset size)) other) ∙ first_is w.frame offset size small

    begun_end : (other : Env) (w : World) → begun q offset size other w (q + 1) ≡ plus (plus w.frame offset) size
    begun_end other w = put_other q (minus (end_set q offset size other w (q + 1)) size) (q + 1) (end_set q offset size other w) (λ e. omega (arith, e)) ∙ put_same (q + 1) (plus w.frame (plus offset size)) other ∙ end_is w.frame offset size

    kept_begun : (other : Env) (w : World) → Kept m q nowhere other (begun q offset size other w)
    kept_begun other w v z x = kept_put m n p calls nowhere q q (minus (end_set q offset size other w (q + 1)) size) (end_set q offset size other w) (omega arith) v z x ∙ kept_put m n p calls nowhere (q + 1) q (plus w.frame (plus offset size)) other (omega arith) v z x

  pub initialises_do : InitialisesDo m n s l p calls places called some
  initialises_do place offset size items small h q j = record { grows = omega (arith, whole.grows); runs = whole.runs } where
    whole : Does m n p calls 7 0 (q + 2) q (emit (zeros place offset size q) (q + 2) ≫ λ x. settings l place q items) (λ env w. cleared size (plus w.frame offset) env w ▷ settled s items)
    whole = then_does m n p calls 7 0 0 (q + 2) q (emit (zeros place offset size q) (q + 2)) (settings l place q items) (λ env w. cleared size (plus w.frame offset) env w) (settled s items) (omega arith) (zeros_do place offset size q j small) (λ o r. settings_do place items h q o j (omega (arith, r)))
