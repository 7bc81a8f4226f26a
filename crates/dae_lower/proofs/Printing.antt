-- What a format prints, and the byte loop of %s.
use Rattle.std.proofs.Common.{◌≡◌, ℕ, zero, suc, ◌+◌, ◌*◌, ◌<◌, ◌≤◌, ◌⊎◌, inl, inr, Bool, true, false, not, nat_eq, nat_lt, List, [], ◌∷◌, length, Option, Some, None, if◌then◌else◌, refl, ap, sym, ◌∙◌, subst, arith}
use Rattle.std.proofs.lemmas.Bool.Decides.{nat_tests}
use Rattle.dae_base.specs.Words.{plus, loaded}
use Rattle.dae_base.specs.declared.Place.{Place}
use Rattle.dae_base.specs.declared.LoadKind.TheVariants.{U8}
use Rattle.dae_base.specs.declared.Width.TheVariants.{B1}
use Rattle.dae_meaning.specs.Results.{Result, At, Next, Leaves, Trapped, Run, ◌▷◌, ◌↻◌, turns, checked, within}
use Rattle.dae_meaning.specs.Worlds.{World, ticked}
use Rattle.dae_ir.specs.Code.{Do}
use Rattle.dae_meaning.specs.Operations.{compared, combined, misplaced, spelled}
use Rattle.dae_ir.specs.Form.{Form, value as held, values as all_held, Calls, Program}
use Rattle.dae_meaning.specs.Variables.{Env, put}
use Rattle.dae_ir.specs.Classes.{VariableSet}
use Rattle.dae_ir.specs.declared.form.Item.TheVariants.{Assign, Load, Print, Expect}
use Rattle.dae_ir.specs.declared.form.Check.TheVariants.{Place as Good}
use Rattle.dae_ir.specs.declared.form.Value.TheVariants.{Binary}
use Rattle.dae_meaning.specs.declared.Operator.TheVariants.{Add}
use Rattle.dae_meaning.specs.declared.Comparison.TheVariants.{NotEqual}
use Rattle.dae_meaning.specs.declared.Spelling.TheVariants.{Byte}
use Rattle.dae_ir.specs.declared.form.Operand.{Operand}
use Rattle.dae_ir.specs.declared.form.Operand.TheVariants.{Variable, Number}
use Rattle.dae_program.specs.Outcomes.{Gives, ◌⊳◌, unless, with_read}
use Rattle.dae_program.specs.Expressions.{ProgramSetup, arguments as values, with_printed}
use Rattle.dae_program.specs.Printing.{most_bytes, print_text as text, argument, print_pieces as shown}
use Rattle.dae_program.specs.declared.statements.FormatPiece.{FormatPiece}
use Rattle.dae_program.specs.declared.statements.FormatPiece.TheVariants as piece
use Rattle.dae_lower.specs.Lowering.{one, nowhere, leaves_if_not, test_of, prints, operands, Links, assigned_all}
use Rattle.dae_lower.proofs.Relation.{at, Agree, Kept, put_same, put_other, still_alone}
use Rattle.dae_lower.proofs.Arguments.{Called, amount, AllLast, all_wider}
use Rattle.dae_lower.proofs.Expressions.{all_faithful}
use Rattle.dae_lower.proofs.Statements.{PrintsDo}
use Rattle.dae_lower.proofs.Chains.{run, spared, weaker}
use Rattle.dae_lower.proofs.Leaves.{agree_put, kept_put}
use Rattle.dae_lower.proofs.Doing.{everything, kept_everything, Same, Goes, Halts, same_from, after_statements, value_does}

-- as many bytes may still be read as it takes to come to address 0
record Far (most x : ℕ) : Type 0 where
  some : 1 ≤ most
  far : (x ≡ 0) ⊎ (((x < 4294967296) × (4294967297 ≤ x + most)) ⊎ (4294967298 ≤ most))

far_enough : (x : ℕ) → Far most_bytes x
unfolding most_bytes
far_enough x = record { some = omega arith; far = inr (inr (omega arith)) }

-- an address that is good isn't 0
good_isnt_zero : (x size : ℕ) → misplaced B1 x size ≡ None → x ≡ 0 → ⊥
unfolding misplaced
good_isnt_zero zero size h e = cc
good_isnt_zero (suc x) size h e = omega (arith, e)

farther : (most x : ℕ) → Far (suc most) x → (x ≡ 0 → ⊥) → Far most (plus x 1)
farther most x h e = record { some = by h.far; far = to h.far } where
  by : (x ≡ 0) ⊎ (((x < 4294967296) × (4294967297 ≤ x + suc most)) ⊎ (4294967298 ≤ suc most)) → 1 ≤ most
  by (inl z) = absurd (e z)
  by (inr (inl z)) = omega (arith, z.0, z.1)
  by (inr (inr z)) = omega (arith, z)

  to : (x ≡ 0) ⊎ (((x < 4294967296) × (4294967297 ≤ x + suc most)) ⊎ (4294967298 ≤ suc most)) → (plus x 1 ≡ 0) ⊎ (((plus x 1 < 4294967296) × (4294967297 ≤ plus x 1 + most)) ⊎ (4294967298 ≤ most))
  to (inl z) = absurd (e z)
  to (inr (inl z)) = last (nat_lt (x + 1) 4294967296) refl where
    last : (b : Bool) → nat_lt (x + 1) 4294967296 ≡ b → (plus x 1 ≡ 0) ⊎ (((plus x 1 < 4294967296) × (4294967297 ≤ plus x 1 + most)) ⊎ (4294967298 ≤ most))
    last true g = let c : x + 1 < 4294967296 = grind (arith, nat_tests, g) in inr (inl (omega arith, omega (arith, c, z.1)))
    last false g = let c : 4294967296 ≤ x + 1 = grind (arith, nat_tests, g) in inl (omega (arith, c, z.0))
  to (inr (inr z)) = inr (inl (omega arith, omega (arith, z)))

pub everything_from : (m k : ℕ) (c : VariableSet) (t : ℕ) (e : Env) (r q : Result Env) → Same m k c t e r q → Same m k everything t e r q
everything_from m k c t e r q (Goes way env other w i a b o) = Goes way env other w i a (kept_everything m k c e other b) o
everything_from m k c t e r q (Halts end w i o) = Halts end w i o

module _ (m n : ℕ) (p : Program) (calls : Calls) where
  abbrev body : Place → ℕ → Form
  body place q =
      Do place (Expect (Good B1 (Variable q))) (
      Do place (Load (q + 1) U8 (Variable q)) (
      leaves_if_not place (test_of NotEqual (Variable (q + 1)) (Number 0)) (
      one place (Print Byte (Variable (q + 1))))))

  abbrev step : Place → ℕ → Form
  step place q = one place (Assign q (Binary Add (Variable q) (Number 1)))

  -- the byte that is read, the variables behind the load and behind the turn, and the world behind the turn
  abbrev byte_at : ℕ → Env → World → ℕ
  byte_at q other w = loaded U8 (other q) w.memory

  abbrev next_of : ℕ → Env → World → Env
  next_of q other w = put true (q + 1) (byte_at q other w) other

  abbrev last_of : ℕ → Env → World → Env
  last_of q other w = put true q (plus (next_of q other w q) 1) (next_of q other w)

  abbrev printed_of : ℕ → Env → World → World
  printed_of q other w = with_printed (spelled Byte (byte_at q other w)) (with_read w)

  abbrev turns_of : Place → ℕ → ℕ → Run Env
  turns_of place q count = turns (run m n p calls (body place q)) (run m n p calls (step place q)) count

  abbrev more_of : Place → ℕ → ℕ → Run Env
  more_of place q count e u = run m n p calls (step place q) e u ↻ turns_of place q count

  module _ (place : Place) (q k : ℕ) (mq : m ≤ q) (kq : k ≤ q) (most count : ℕ) (env other : Env) (w : World) (i t : ℕ) (a : Agree m env other) (o : i + (t + 7) + w.loads ≤ 9 * w.items) where
    next_q : next_of q other w q ≡ other q
    next_q = put_other (q + 1) (byte_at q other w) q other (λ e. omega (arith, e))

    last_q : last_of q other w q ≡ plus (other q) 1
    last_q = put_same q (plus (next_of q other w q) 1) (next_of q other w) ∙ ap (λ x. plus x 1) next_q

    agree_next : Agree m env (next_of q other w)
    agree_next = agree_put m n p calls nowhere (q + 1) (byte_at q other w) env other (omega (arith, mq)) a

    agree_last : Agree m env (last_of q other w)
    agree_last = agree_put m n p calls nowhere q (plus (next_of q other w q) 1) env (next_of q other w) mq agree_next

    kept_next : Kept m k nowhere other (next_of q other w)
    kept_next = kept_put m n p calls nowhere (q + 1) k (byte_at q other w) other (omega (arith, kq))

    kept_last : Kept m k nowhere other (last_of q other w)
    kept_last v z x = kept_put m n p calls nowhere q k (plus (next_of q other w q) 1) (next_of q other w) kq v z x ∙ kept_next v z x

    far_on : Far (suc most) (other q) → misplaced B1 (other q) (length w.memory) ≡ None → Far most (last_of q other w q)
    far_on far none = subst (λ (x : ℕ). Far most x) (sym last_q) (farther most (other q) far (good_isnt_zero (other q) (length w.memory) none))

    abbrev Rest : Type 0
    Rest = Same m k nowhere t (last_of q other w) (text most (last_of q other w q) env (printed_of q other w)) (turns_of place q count (last_of q other w) (at (i + 1 + 1 + 1 + 1 + 1 + 1) (printed_of q other w)))

    abbrev behind : Bool → Result Env
    behind h = ((if h then At Next (next_of q other w) (at (i + 1 + 1 + 1 + 1) (with_read w)) else At Leaves (next_of q other w) (at (i + 1 + 1 + 1 + 1 + 1) (with_read w))) ▷ run m n p calls (one place (Print Byte (Variable (q + 1))))) ↻ more_of place q count

    tested : (z : Bool) → Rest → Same m k nowhere t other (if z then At Next env (with_read w) else text most (plus (other q) 1) env (printed_of q other w)) (behind (not z))
    unfolding combined
    tested true rest = Goes Next env (next_of q other w) (with_read w) (i + 1 + 1 + 1 + 1 + 1) agree_next kept_next (omega (arith, o))
    tested false rest =
        subst (λ (x : ℕ). Same m k nowhere t other (text most x env (printed_of q other w)) (behind true)) last_q
        (subst (λ (x : ℕ). Same m k nowhere t other (text most (last_of q other w q) env (printed_of q other w)) (turns_of place q count (last_of q other w) (at (i + 1 + 1 + 1 + 1 + 1 + 1) (with_printed (spelled Byte x) (with_read w))))) (sym (put_same (q + 1) (byte_at q other w) other))
        (same_from m k k nowhere t t other (last_of q other w) (omega arith) (omega arith) kept_last _ _ rest))

    fetched : (f : Option ℕ) → misplaced B1 (other q) (length w.memory) ≡ f → (f ≡ None → Rest) →
        Same m k nowhere t other (unless f (Gives (byte_at q other w) env (with_read w)) w ⊳ λ b env w. if nat_eq b 0 then At Next env w else text most (plus (other q) 1) env (with_printed (spelled Byte b) w))
        ((checked {E = Env} f other (at (i + 1 + 1) w) ▷ run m n p calls (Do place (Load (q + 1) U8 (Variable q)) (leaves_if_not place (test_of NotEqual (Variable (q + 1)) (Number 0)) (one place (Print Byte (Variable (q + 1))))))) ↻ more_of place q count)
    unfolding compared
    fetched None e rest =
        subst (λ (f : Option ℕ). Same m k nowhere t other (if nat_eq (byte_at q other w) 0 then At Next env (with_read w) else text most (plus (other q) 1) env (printed_of q other w)) ((within f (at (i + 1 + 1) w) (At Next (next_of q other w) (at (i + 1 + 1 + 1) (with_read w))) ▷ run m n p calls (leaves_if_not place (test_of NotEqual (Variable (q + 1)) (Number 0)) (one place (Print Byte (Variable (q + 1)))))) ↻ more_of place q count)) (sym e)
        (subst (λ (x : ℕ). Same m k nowhere t other (if nat_eq (byte_at q other w) 0 then At Next env (with_read w) else text most (plus (other q) 1) env (printed_of q other w)) (behind (not (nat_eq x 0)))) (sym (put_same (q + 1) (byte_at q other w) other))
        (tested (nat_eq (byte_at q other w) 0) (rest refl)))
    fetched (Some code) e rest = Halts (Trapped code) w (i + 1 + 1) (omega (arith, o))

  -- the turns of the loop, where the address is in variable q
  text_turns : (place : Place) (q k : ℕ) → m ≤ q → k ≤ q → (most count : ℕ) → most ≤ count → (env other : Env) (w : World) (i t : ℕ) → Far most (other q) → Agree m env other → i + (t + 7) + w.loads ≤ 9 * w.items → Same m k nowhere t other (text most (other q) env w) (turns_of place q count other (at i w))
  unfolding spelled
  text_turns place q k mq kq zero count l env other w i t far a o = absurd (omega (arith, far.some))
  text_turns place q k mq kq (suc most) zero l env other w i t far a o = absurd (omega (arith, l))
  text_turns place q k mq kq (suc most) (suc count) l env other w i t far a o =
      fetched place q k mq kq most count env other w i t a o (misplaced B1 (other q) (length w.memory)) refl (λ none.
      text_turns place q k mq kq most count (omega (arith, l)) env (last_of q other w) (printed_of q other w) (i + 1 + 1 + 1 + 1 + 1 + 1) t (far_on place q k mq kq most count env other w i t a o far none) (agree_last place q k mq kq most count env other w i t a o) (omega (arith, o)))

-- ---- the pieces of a format

module _ (m n : ℕ) (s : ProgramSetup) (l : Links) (p : Program) (calls : Calls) (places : (k : ℕ) → s.address k ≡ l.address k) (called : Called m n s l p calls places) (some : 0 < m) (many : most_bytes ≤ n) where
  argument_held : (ys : List Operand) (k : ℕ) (o : Env) → held (argument (Number 0) ys k) o ≡ argument 0 (all_held ys o) k
  argument_held [] k o = refl
  argument_held (y ∷ ys) zero o = refl
  argument_held (y ∷ ys) (suc k) o = argument_held ys k o

  still_all : (k q : ℕ) (ys : List Operand) (e f : Env) → m ≤ k → k ≤ q → AllLast m n s l p calls places nowhere k q ys → Kept m q nowhere e f → all_held ys f ≡ all_held ys e
  still_all k q [] e f i j h a = refl
  still_all k q (y ∷ ys) e f i j h a = ap (λ x. x ∷ all_held ys f) (still_alone m k q nowhere y e f i j h.0 a) ∙ ap (λ xs. held y e ∷ xs) (still_all k q ys e f i j h.1 a)

  -- the variables below b stay
  abbrev PiecesDo : Place → List FormatPiece → List Operand → ℕ → ℕ → Type 0
  PiecesDo place ps ys b q = (q ≤ (prints place ps ys q).next) × ((words : List ℕ) (env other : Env) (w : World) (i t : ℕ) → Agree m env other → all_held ys other ≡ words → i + t + w.loads ≤ 9 * w.items → Same m b nowhere t other (shown ps words env w) (run m n p calls (prints place ps ys q).code other (at i w)))

  string_does : (place : Place) (j : ℕ) (ps : List FormatPiece) (ys : List Operand) (k b q : ℕ) → m ≤ k → k ≤ q → b ≤ q → AllLast m n s l p calls places nowhere k q ys → PiecesDo place ps ys q (q + 2) → PiecesDo place (piece.String j ∷ ps) ys b q
  string_does place j ps ys k b q mk kq bq h rest = (
    omega (arith, rest.0),
    λ words env other w i t a e o.
        same_from m q b nowhere t t other other bq (omega arith) (λ v z x. refl) _ _
        (subst (λ (x : ℕ). Same m q nowhere t other (text most_bytes x env (ticked w) ▷ shown ps words) (run m n p calls (prints place (piece.String j ∷ ps) ys q).code other (at i w))) (put_same q (held (argument (Number 0) ys j) other) other ∙ argument_held ys j other ∙ ap (λ xs. argument 0 xs j) e)
        (after_statements _ _ _ _ (omega arith)
        (same_from m q q nowhere t t other (put true q (held (argument (Number 0) ys j) other) other) (omega arith) (omega arith) (kept_put m n p calls nowhere q q (held (argument (Number 0) ys j) other) other (omega arith)) _ _
        (text_turns m n p calls place q q (omega (arith, mk, kq)) (omega arith) most_bytes n many env (put true q (held (argument (Number 0) ys j) other) other) (ticked w) (i + 1) t (far_enough (put true q (held (argument (Number 0) ys j) other) other q)) (agree_put m n p calls nowhere q (held (argument (Number 0) ys j) other) env other (omega (arith, mk, kq)) a) (omega (arith, o))))
        (λ env1 other1 w1 i1 a1 k1 o1. same_from m q q nowhere t t other other1 (omega arith) (omega arith) k1 _ _ (rest.1 words env1 other1 w1 i1 t a1 (still_all k q ys other other1 mk kq h k1 ∙ e) o1)))),
  )

  pieces_do : (place : Place) (ps : List FormatPiece) (ys : List Operand) (k b q : ℕ) → m ≤ k → k ≤ q → b ≤ q → AllLast m n s l p calls places nowhere k q ys → PiecesDo place ps ys b q
  unfolding spelled
  pieces_do place [] ys k b q mk kq bq h = (omega arith, λ words env other w i t a e o. Goes Next env other w i a (λ v z x. refl) o)
  pieces_do place (piece.Byte c ∷ ps) ys k b q mk kq bq h = (let d = pieces_do place ps ys k b q mk kq bq h in d.0, λ words env other w i t a e o. let d = pieces_do place ps ys k b q mk kq bq h in d.1 words env other (with_printed (spelled Byte c) w) (i + 1) t a e (omega (arith, o)))
  pieces_do place (piece.Word spelling j ∷ ps) ys k b q mk kq bq h = (
    let c = pieces_do place ps ys k b q mk kq bq h in c.0,
    λ words env other w i t a e o.
        subst (λ (x : ℕ). Same m b nowhere t other (shown ps words env (with_printed (spelled spelling x) (ticked w))) (run m n p calls (prints place (piece.Word spelling j ∷ ps) ys q).code other (at i w))) (argument_held ys j other ∙ ap (λ xs. argument 0 xs j) e)
        (let c = pieces_do place ps ys k b q mk kq bq h in c.1 words env other (with_printed (spelled spelling (held (argument (Number 0) ys j) other)) (ticked w)) (i + 1) t a e (omega (arith, o))),
  )
  pieces_do place (piece.String j ∷ ps) ys k b q mk kq bq h =
      string_does place j ps ys k b q mk kq bq h (pieces_do place ps ys k q (q + 2) mk (omega (arith, kq)) (omega arith) (all_wider m n s l p calls places nowhere k q k (q + 2) ys (omega arith) (omega arith) h))

  pub prints_do : PrintsDo m n s l p calls places called some
  prints_do place xs ps h q j =
      value_does m n p calls 7 7 0 q q q (prints place ps) (values s xs) (shown ps) (omega arith)
      (weaker m n p calls 7 (amount m n s l p calls places xs + 7) q 7 7 q (assigned_all xs) (omega arith) (omega arith) (omega arith) (λ v z. z) (spared m n p calls 7 0 (amount m n s l p calls places xs) q (all_faithful m n s l p calls places called xs h nowhere q j)))
      (λ o r z. let d = pieces_do place ps (operands l xs nowhere q).given q q o j r (omega (arith, r)) z in (
        d.0,
        λ y env other w i t a e v.
            everything_from m q nowhere (t + 0) other _ _ (d.1 y env other w i (t + 0) a e (omega (arith, v))),
      ))
