-- The loops that lowering adds.
use Rattle.std.proofs.Common.{◌≡◌, ℕ, suc, ◌+◌, ◌-◌, ◌<◌, ◌≤◌, List, [], ◌∷◌, ◌++◌, refl, ap, sym, subst, ◌∙◌, arith}
use Rattle.dae_base.specs.declared.Place.{Place}
use Rattle.dae_ir.specs.Code.{Done, Do, Loop}
use Rattle.dae_base.specs.declared.Width.TheVariants.{B1}
use Rattle.dae_base.specs.Words.{plus}
use Rattle.dae_ir.specs.Form.{Form, before, form_of}
use Rattle.dae_ir.specs.declared.form.Item.TheVariants.{Assign, Store}
use Rattle.dae_ir.specs.declared.form.Operand.{Operand}
use Rattle.dae_ir.specs.declared.form.Operand.TheVariants.{Variable, Number}
use Rattle.dae_ir.specs.declared.form.Statement.{Statement, Simple}
use Rattle.dae_ir.specs.declared.form.Value.TheVariants.{Binary, FrameAddress, Same}
use Rattle.dae_lower.specs.Lowering.{emit, leaves_if_not, one, only, set, test_of, text_loop, turn_bytes, unread, zeros, zeros_at, ◌⨾◌}
use Rattle.dae_lower_programs.proofs.Reserving.{two_reserved}
use Rattle.dae_lower_programs.proofs.Rows.{two_codes, two_items}
use Rattle.dae_lower_programs.specs.Parts.{text_turn, zero_then, zero_turn}
use Rattle.dae_lower_maker.proofs.Laws.{behind_behind, behind_done, form_of_pushed, parts_written}
use Rattle.dae_lower_maker.specs.Making.{CodeSoFar, Writes}
use Rattle.dae_lower_maker.specs.Numbers.{late, late_in, number_after}
use Rattle.dae_meaning.specs.declared.Comparison.TheVariants.{NotEqual}
use Rattle.dae_meaning.specs.declared.Operator.TheVariants.{Add, Subtract}

-- a variable that nothing reads, whatever was given for it
pub unread_written : (place : Place) (a b : CodeSoFar) (y : Operand) → Writes (set place (Same (Number 0)) a.next) a b y → Writes (unread place a.next) a b tt
unread_written place a b y h = record {
  grows = h.grows;
  fits = λ lt. (let w = h.fits lt in record { code = w.code; given = refl; next = w.next });
  full = h.full;
}

abbrev text_code : Place → Operand → ℕ → ℕ → Form
text_code p x n m = Do p (Assign n (Same x)) (Loop p (text_turn p n m) (one p (Assign n (Binary Add (Variable n) (Number 1)))) Done)

pub text_written : (place : Place) (x : Operand) (a b c d e : CodeSoFar) (v u : ℕ) (body step : List Statement)
    → v ≡ a.next → b ≡ record { code = a.code; next = number_after v } → u ≡ b.next → c ≡ record { code = b.code; next = number_after u }
    → form_of body ≡ text_turn place v u → form_of step ≡ one place (Assign v (Binary Add (Variable v) (Number 1)))
    → Writes (only (one place (Assign v (Same x))) (tt {0}) c.next) c d tt
    → Writes (emit (Loop place (form_of body) (form_of step) Done) d.next) d e tt
    → Writes (text_loop place x a.next) a e tt
text_written place x a b c d e v u body step is begun next after body_is step_is p q =
    two_reserved (emit behind c.next) (text_loop place x a.next) a b c e v u tt is begun next after
    (parts_written (only (one place (Assign v (Same x))) (tt {0}) c.next) (emit (Loop place (form_of body) (form_of step) Done) d.next) (emit behind c.next) c d e tt tt tt p q
    (λ h k. record { code = two_codes c.code d.code e.code (one place (Assign v (Same x))) (Loop place (form_of body) (form_of step) Done) h.code k.code; given = refl; next = k.next ∙ h.next })
    (λ some. omega (arith, some)) (λ h some. omega (arith, some)))
    (λ more two same w. record {
      code = w.code ∙ ap (λ (k : Form). k ⨾ behind) same ∙ ap (λ (k : Form). a.code ⨾ k) (codes more);
      given = refl;
      next = w.next ∙ two ∙ ap (λ n. n + 2) is;
    })
    (λ more some. subst (λ (k : Form). 0 < late_in k) (codes more) some)
    (subst (λ (n : ℕ). late n ≤ late_in (text_loop place x a.next).code) (sym is) (omega arith)) where
      behind : Form
      behind = Do place (Assign v (Same x)) (Loop place (form_of body) (form_of step) Done)

      codes : u ≡ v + 1 → behind ≡ text_code place x a.next (a.next + 1)
      codes more =
          ap (λ (f : Form). Do place (Assign v (Same x)) (Loop place f (form_of step) Done)) body_is
          ∙ ap (λ (f : Form). Do place (Assign v (Same x)) (Loop place (text_turn place v u) f Done)) step_is
          ∙ ap (λ m. text_code place x v m) more
          ∙ ap (λ n. text_code place x n (n + 1)) is

-- ---- zeros

pub zero_pushed : (p : Place) (v : ℕ) (xs ys zs : List Statement) → ys ≡ xs ++ Simple p (Store B1 (Variable v) (Number 0)) ∷ [] → zs ≡ ys ++ Simple p (Assign v (Binary Add (Variable v) (Number 1))) ∷ [] → (rest : Form) → (form_of zs ⨾ rest) ≡ (form_of xs ⨾ zero_then p v rest)
zero_pushed p v xs ys zs a b rest =
    let store = Simple p (Store B1 (Variable v) (Number 0)) in
    let next = Simple p (Assign v (Binary Add (Variable v) (Number 1))) in
    ap (λ (ls : List Statement). form_of ls ⨾ rest) b ∙ ap (λ (f : Form). f ⨾ rest) (form_of_pushed ys next) ∙ behind_behind (form_of ys) (before next Done) rest
    ∙ ap (λ (ls : List Statement). form_of ls ⨾ (before next Done ⨾ rest)) a ∙ ap (λ (f : Form). f ⨾ (before next Done ⨾ rest)) (form_of_pushed xs store) ∙ behind_behind (form_of xs) (before store Done) (before next Done ⨾ rest)

one_to_go : (count i : ℕ) → i < count → count - i ≡ suc (count - (i + 1))
one_to_go count i h = omega (arith, h)

none_to_go : (count i : ℕ) → count ≤ i → count - i ≡ 0
none_to_go count i h = omega (arith, h)

pub zeros_go_on : (p : Place) (v count i : ℕ) (all old new : Form) → i < count → ((rest : Form) → (new ⨾ rest) ≡ (old ⨾ zero_then p v rest)) → (old ⨾ zeros_at p v (count - i)) ≡ all → (new ⨾ zeros_at p v (count - (i + 1))) ≡ all
zeros_go_on p v count i all old new lt more h = more (zeros_at p v (count - (i + 1))) ∙ sym (ap (λ k. old ⨾ zeros_at p v k) (one_to_go count i lt)) ∙ h

pub zeros_end : (p : Place) (v count i : ℕ) (all now : Form) → count ≤ i → (now ⨾ zeros_at p v (count - i)) ≡ all → now ≡ all
zeros_end p v count i all now le h = sym (behind_done now) ∙ sym (ap (λ k. now ⨾ zeros_at p v k) (none_to_go count i le)) ∙ h

-- a turn
pub turn_made : (p : Place) (size n m count : ℕ) (leave : Statement) (xs ys block : List Statement) → xs ≡ [] → ys ≡ xs ++ leave ∷ [] → form_of block ≡ (form_of ys ⨾ zeros_at p n count) → count ≡ turn_bytes size → ((f : Form) → before leave f ≡ leaves_if_not p (test_of NotEqual (Variable n) (Variable m)) f)
    → form_of block ≡ zero_turn p size n m
turn_made p size n m count leave xs ys block a b e is h =
    e ∙ ap (λ (ls : List Statement). form_of ls ⨾ zeros_at p n count) (b ∙ ap (λ (ls : List Statement). ls ++ leave ∷ []) a)
    ∙ ap (λ (f : Form). f ⨾ zeros_at p n count) (h Done)
    ∙ ap (λ k. leaves_if_not p (test_of NotEqual (Variable n) (Variable m)) (zeros_at p n k)) is

abbrev zero_code : Place → (offset size n m : ℕ) → Form
zero_code p offset size n m = Do p (Assign m (FrameAddress offset)) (Do p (Assign n (Binary Subtract (Variable m) (Number size))) (Loop p (zero_turn p size n m) Done Done))

pub zeros_written : (place : Place) (offset size behind : ℕ) (a b c d e f : CodeSoFar) (v u : ℕ) (body step : List Statement)
    → v ≡ a.next → b ≡ record { code = a.code; next = number_after v } → u ≡ b.next → c ≡ record { code = b.code; next = number_after u }
    → behind ≡ plus offset size → form_of body ≡ zero_turn place size v u → step ≡ []
    → Writes (only (one place (Assign u (FrameAddress behind))) (tt {0}) c.next) c d tt
    → Writes (only (one place (Assign v (Binary Subtract (Variable u) (Number size)))) (tt {0}) d.next) d e tt
    → Writes (emit (Loop place (form_of body) (form_of step) Done) e.next) e f tt
    → Writes (only (zeros place offset size a.next) a.next (a.next + 2)) a f v
zeros_written place offset size behind a b c d e f v u body step is begun next after behind_is body_is step_is p q r =
    two_reserved (emit all c.next) (only (zeros place offset size a.next) a.next (a.next + 2)) a b c f v u v is begun next after
    (parts_written (emit (Do place (Assign u (FrameAddress behind)) (one place (Assign v (Binary Subtract (Variable u) (Number size))))) c.next) (emit (spin (form_of body) (form_of step)) e.next) (emit all c.next) c e f tt tt tt
    (two_items place (Assign u (FrameAddress behind)) (Assign v (Binary Subtract (Variable u) (Number size))) c d e p q) r
    (λ h k. record { code = two_codes c.code e.code f.code (Do place (Assign u (FrameAddress behind)) (one place (Assign v (Binary Subtract (Variable u) (Number size))))) (spin (form_of body) (form_of step)) h.code k.code; given = refl; next = k.next ∙ h.next })
    (λ some. omega (arith, some)) (λ h some. omega (arith, some)))
    (λ more two same w. record {
      code = w.code ∙ ap (λ (k : Form). k ⨾ all) same ∙ ap (λ (k : Form). a.code ⨾ k) (codes more);
      given = is;
      next = w.next ∙ two ∙ ap (λ n. n + 2) is;
    })
    (λ more some. subst (λ (k : Form). 0 < late_in k) (codes more) some)
    (subst (λ (n : ℕ). late n ≤ late_in (zeros place offset size a.next)) (sym is) (omega arith)) where
      spin : Form → Form → Form
      spin x y = Loop place x y Done

      all : Form
      all = Do place (Assign u (FrameAddress behind)) (Do place (Assign v (Binary Subtract (Variable u) (Number size))) (spin (form_of body) (form_of step)))

      codes : u ≡ v + 1 → all ≡ zero_code place (plus offset size) size a.next (a.next + 1)
      codes more =
          ap (λ (x : Form). Do place (Assign u (FrameAddress behind)) (Do place (Assign v (Binary Subtract (Variable u) (Number size))) (spin x (form_of step)))) body_is
          ∙ ap (λ (xs : List Statement). Do place (Assign u (FrameAddress behind)) (Do place (Assign v (Binary Subtract (Variable u) (Number size))) (spin (zero_turn place size v u) (form_of xs)))) step_is
          ∙ ap (λ k. zero_code place k size v u) behind_is
          ∙ ap (λ m. zero_code place (plus offset size) size v m) more
          ∙ ap (λ n. zero_code place (plus offset size) size n (n + 1)) is
