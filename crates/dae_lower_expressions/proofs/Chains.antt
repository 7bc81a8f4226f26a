-- Parts of expressions, one behind the outer.
use Rattle.std.proofs.Common.{◌≡◌, ◌⊎◌, ℕ, ◌+◌, ◌-◌, ◌^◌, ◌<◌, ◌≤◌, Bool, true, false, if◌then◌else◌, List, inl, inr, refl, ap, sym, ◌∙◌, subst, arith}
use Rattle.dae_base.specs.declared.Place.{Place}
use Rattle.dae_ir.specs.Classes.{VariableSet}
use Rattle.dae_ir.specs.Code.{Done, If}
use Rattle.dae_ir.specs.Form.{Form, form_of}
use Rattle.dae_ir.specs.declared.form.Operand.TheVariants.{Variable}
use Rattle.dae_ir.specs.declared.form.Statement.{Statement}
use Rattle.dae_ir.specs.declared.form.Test.{Test}
use Rattle.dae_lower.specs.Lowering.{nowhere, Made, Condition, ◌≫◌, ◌⨾◌, nothing, skip, emit, or, branches}
use Rattle.dae_lower_expressions.proofs.Counting.{with_never, part_last, counted_both}
use Rattle.dae_lower_expressions.specs.Lowered.{LoweringState, Lowers, IsBlock, Whole, WroteBlock}
use Rattle.dae_lower_maker.proofs.Laws.{after_fits, after_full, after_grows, behind_behind, behind_done, below_or_last, late_then, late_there, nothing_written, written_on}
use Rattle.dae_lower_maker.specs.Counting.{MarkCounts, never, both, is_counted, Changes}
use Rattle.dae_lower_maker.specs.declared.later.Change.TheVariants.{Add}
use Rattle.dae_lower_maker.specs.Making.{CodeSoFar, Writes, Wrote, forked}
use Rattle.dae_lower_maker.specs.Numbers.{late, late_in, number_after}

-- what holds no others
pub leaf_lowered : {Y : Type 0} (made : VariableSet → ℕ → Made Y) (a b : LoweringState) (y : Y) → b.later ≡ a.later → Writes (made (is_counted a.later) a.written.next) a.written b.written y → Lowers made never a b y
leaf_lowered made a b y same h = record {
  by = λ rest e. let k = e ∙ with_never rest in (same ∙ k, subst (λ (c : MarkCounts). Writes (made (is_counted c) a.written.next) a.written b.written y) k h);
}

-- nothing is written
pub nothing_lowered : {Y : Type 0} (a : LoweringState) (y : Y) → Lowers (λ later. nothing y) never a a y
nothing_lowered a y = leaf_lowered (λ later. nothing y) a a y refl (nothing_written a.written y)

-- a part, and what holds no others
pub then_lowered : {X Y : Type 0} (f : VariableSet → ℕ → Made X) (g : X → ℕ → Made Y) (some : MarkCounts) (a b c : LoweringState) (x : X) (y : Y) → Lowers f some a b x → c.later ≡ b.later → Writes (g x b.written.next) b.written c.written y → Lowers (λ later n. f later n ≫ g) some a c y
then_lowered f g some a b c x y h same k = record {
  by = λ rest e. let i = h.by rest e in (same ∙ i.0, written_on (f (is_counted rest) a.written.next) g a.written b.written c.written x y i.1 k);
}

-- a part for its effects
pub dropped_lowered : {X : Type 0} (f : VariableSet → ℕ → Made X) (some : MarkCounts) (a b : LoweringState) (x : X) → Lowers f some a b x → Lowers (λ later n. f later n ≫ λ x. skip) some a b tt
dropped_lowered f some a b x h = then_lowered f (λ x. skip) some a b b x tt h refl (nothing_written b.written tt)

-- a part that gives something else
pub given_lowered : {X Y : Type 0} (f : VariableSet → ℕ → Made X) (g : X → Y) (some : MarkCounts) (a b : LoweringState) (x : X) → Lowers f some a b x → Lowers (λ later n. f later n ≫ λ x. nothing (g x)) some a b (g x)
given_lowered f g some a b x h = then_lowered f (λ x. nothing (g x)) some a b b x (g x) h refl (nothing_written b.written (g x))

-- two parts, of which the second assigns the variables of a set
pub both_lowered : {X Y : Type 0} (f : VariableSet → ℕ → Made X) (g : X → VariableSet → ℕ → Made Y) (some others : MarkCounts) (s : VariableSet) (a b c : LoweringState) (x : X) (y : Y) → is_counted others ≡ s → Lowers f some a b x → Lowers (g x) others b c y → Lowers (λ later n. f (or later s) n ≫ λ x. g x later) (both some others) a c y
both_lowered f g some others s a b c x y told h k = record {
  by = λ rest e.
      let i = h.by (both rest others) (e ∙ part_last rest some others) in
      let j = k.by rest i.0 in
      let set = counted_both rest others ∙ ap (λ t. or (is_counted rest) t) told in
      (j.0, written_on (f (or (is_counted rest) s) a.written.next) (λ x. g x (is_counted rest)) a.written b.written c.written x y (subst (λ (t : VariableSet). Writes (f t a.written.next) a.written b.written x) set i.1) j.1);
}

-- the same assignments
pub same_lowered : {Y : Type 0} (f : VariableSet → ℕ → Made Y) (some others : MarkCounts) (a b : LoweringState) (y : Y) → some ≡ others → Lowers f some a b y → Lowers f others a b y
same_lowered f some others a b y e h = subst (λ (c : MarkCounts). Lowers f c a b y) e h

-- ---- branches

fork_late : (turned : Bool) (p : Place) (t : Test) (a b : Form) → late_in (if turned then If p t b a Done else If p t a b Done) ≡ late_in a + late_in b
fork_late true p t a b = omega arith
fork_late false p t a b = omega arith

pub late_branches : (place : Place) (cond : Made Condition) (f g : ℕ → Made (Unit {0})) → late_in (branches place cond f g).code ≡ late_in cond.code + (late_in (f cond.next).code + late_in (g (f cond.next).next).code)
late_branches place cond f g =
    let s = late_then cond.code (if cond.given.turned then If place cond.given.test (g (f cond.next).next).code (f cond.next).code Done else If place cond.given.test (f cond.next).code (g (f cond.next).next).code Done) in
    let i = fork_late cond.given.turned place cond.given.test (f cond.next).code (g (f cond.next).next).code in omega (arith, s, i)

-- what is written last is the branches
pub branched : (place : Place) (cond : Made Condition) (f g : ℕ → Made (Unit {0})) (a b d e z : CodeSoFar) (c : Condition) (inner outer : List Statement) → Writes cond a b c → IsBlock (f b.next) b d inner → IsBlock (g d.next) d e outer → Writes (emit (forked place c (form_of inner) (form_of outer)) e.next) e z tt → Writes (branches place cond f g) a z tt
branched place cond f g a b d e z c inner outer w i j p = record {
  grows = omega (arith, w.grows, i.grows, j.grows, p.grows);
  fits = λ lt. wrote (w.fits (omega (arith, i.grows, j.grows, p.grows, lt))) (i.fits (omega (arith, j.grows, p.grows, lt))) (j.fits (omega (arith, p.grows, lt))) (p.fits lt);
  full = λ start over. by_first start (below_or_last b.next) over;
} where
  first : Wrote cond a b c → WroteBlock (f b.next) b d inner → form_of inner ≡ (f cond.next).code
  first w i = i.block ∙ ap (λ n. (f n).code) w.next

  between : Wrote cond a b c → WroteBlock (f b.next) b d inner → d.next ≡ (f cond.next).next
  between w i = i.next ∙ ap (λ n. (f n).next) w.next

  second : Wrote cond a b c → WroteBlock (f b.next) b d inner → WroteBlock (g d.next) d e outer → form_of outer ≡ (g (f cond.next).next).code
  second w i j = j.block ∙ ap (λ n. (g n).code) (between w i)

  wrote : Wrote cond a b c → WroteBlock (f b.next) b d inner → WroteBlock (g d.next) d e outer → Wrote (emit (forked place c (form_of inner) (form_of outer)) e.next) e z tt → Wrote (branches place cond f g) a z tt
  wrote w i j p = record {
    code = p.code ∙ ap (λ (k : Form). k ⨾ forked place c (form_of inner) (form_of outer)) (j.code ∙ i.code ∙ w.code)
        ∙ behind_behind a.code cond.code (forked place c (form_of inner) (form_of outer))
        ∙ ap (λ (k : Form). a.code ⨾ (cond.code ⨾ k)) (
        ap (λ (c : Condition). forked place c (form_of inner) (form_of outer)) w.given
        ∙ ap (λ (k : Form). forked place cond.given k (form_of outer)) (first w i)
        ∙ ap (λ (k : Form). forked place cond.given (f cond.next).code k) (second w i j));
    given = refl;
    next = p.next ∙ (j.next ∙ ap (λ n. (g n).next) (between w i));
  }

  all : late_in (branches place cond f g).code ≡ late_in cond.code + (late_in (f cond.next).code + late_in (g (f cond.next).next).code)
  all = late_branches place cond f g

  yes : Wrote cond a b c → 0 < late_in (f b.next).code → 0 < late_in (branches place cond f g).code
  yes w some = let same = ap (λ n. late_in (f n).code) w.next in omega (arith, all, same, some)

  no : Wrote cond a b c → WroteBlock (f b.next) b d inner → 0 < late_in (g d.next).code → 0 < late_in (branches place cond f g).code
  no w i some = let same = ap (λ n. late_in (g n).code) (between w i) in omega (arith, all, same, some)

  last : Wrote cond a b c → WroteBlock (f b.next) b d inner → WroteBlock (g d.next) d e outer → 0 < late_in (forked place c (form_of inner) (form_of outer)) → 0 < late_in (branches place cond f g).code
  last w i j some =
      let l = fork_late c.turned place c.test (form_of inner) (form_of outer) in
      let m = ap (λ k. late_in k) (first w i) in
      let n = ap (λ k. late_in k) (second w i j) in omega (arith, all, l, m, n, some)

  by_third : b.next < 2 ^ 32 - 1 → d.next < 2 ^ 32 - 1 → (e.next < 2 ^ 32 - 1) ⊎ (2 ^ 32 - 1 ≤ e.next) → 2 ^ 32 - 1 ≤ z.next → 0 < late_in (branches place cond f g).code
  by_third lb ld (inl le) over = last (w.fits lb) (i.fits ld) (j.fits le) (p.full le over)
  by_third lb ld (inr le) over = no (w.fits lb) (i.fits ld) (j.full ld le)

  by_second : b.next < 2 ^ 32 - 1 → (d.next < 2 ^ 32 - 1) ⊎ (2 ^ 32 - 1 ≤ d.next) → 2 ^ 32 - 1 ≤ z.next → 0 < late_in (branches place cond f g).code
  by_second lb (inl ld) over = by_third lb ld (below_or_last e.next) over
  by_second lb (inr ld) over = yes (w.fits lb) (i.full lb ld)

  by_first : a.next < 2 ^ 32 - 1 → (b.next < 2 ^ 32 - 1) ⊎ (2 ^ 32 - 1 ≤ b.next) → 2 ^ 32 - 1 ≤ z.next → 0 < late_in (branches place cond f g).code
  by_first start (inl lb) over = by_second lb (below_or_last d.next) over
  by_first start (inr lb) over = let some = w.full start lb in omega (arith, all, some)

-- a block for which the next variable stays
pub exact_block : (made : Made (Unit {0})) (a b : CodeSoFar) (inner : List Statement) → WroteBlock made a b inner → made.next ≡ a.next → IsBlock made a b inner
exact_block made a b inner h same = record {
  grows = omega (arith, h.next, same);
  fits = λ lt. h;
  full = λ start over. absurd (omega (arith, h.next, same, start, over));
}

-- one variable is left to what is written, which sets it
reserved : (f : ℕ → Made (Unit {0})) (a c : CodeSoFar) (v : ℕ) → v ≡ a.next → Writes (f (number_after v)) (record { code = a.code; next = number_after v }) c tt → late v ≤ late_in (f (v + 1)).code → Writes (f (v + 1) ≫ λ x. nothing (Variable v)) a c (Variable v)
reserved f a c v is w sets = record {
  grows = let g = after_grows v in omega (arith, is, g, w.grows);
  fits = λ lt. wrote (after_fits v (omega (arith, w.grows, lt))) (w.fits lt);
  full = λ start over. by (below_or_last (number_after v)) over;
} where
  wrote : number_after v ≡ v + 1 → Wrote (f (number_after v)) (record { code = a.code; next = number_after v }) c tt → Wrote (f (v + 1) ≫ λ x. nothing (Variable v)) a c (Variable v)
  wrote one h =
      let u = subst (λ (n : ℕ). Wrote (f n) (record { code = a.code; next = n }) c tt) one h in
      record { code = u.code ∙ ap (λ (k : Form). a.code ⨾ k) (sym (behind_done (f (v + 1)).code)); given = refl; next = u.next }

  all : late_in (f (v + 1) ≫ λ x. nothing (Variable v)).code ≡ late_in (f (v + 1)).code
  all = ap (λ (k : Form). late_in k) (behind_done (f (v + 1)).code)

  by : (number_after v < 2 ^ 32 - 1) ⊎ (2 ^ 32 - 1 ≤ number_after v) → 2 ^ 32 - 1 ≤ c.next → 0 < late_in (f (v + 1) ≫ λ x. nothing (Variable v)).code
  by (inl lt) over =
      let same = ap (λ (n : ℕ). late_in (f n).code) (after_fits v lt) in
      let some = w.full lt over in omega (arith, all, same, some)
  by (inr le) over =
      let more = after_full v le in
      let one = late_there v (omega (arith, more)) in omega (arith, all, one, sets)

pub reserved_lowered : (f : ℕ → VariableSet → ℕ → Made (Unit {0})) (some : MarkCounts) (a b c : LoweringState) (v : ℕ) → v ≡ a.written.next → b.written ≡ record { code = a.written.code; next = number_after v } → b.later ≡ a.later → ((later : VariableSet) → late v ≤ late_in (f v later (v + 1)).code) → Lowers (f v) some b c tt → Lowers (λ later n. f n later (n + 1) ≫ λ x. nothing (Variable n)) some a c (Variable v)
reserved_lowered f some a b c v is after same sets h = record {
  by = λ rest e.
      let k = h.by rest (same ∙ e) in
      let w = subst (λ (s : CodeSoFar). Writes (f v (is_counted rest) s.next) s c.written tt) after k.1 in
      let u = reserved (f v (is_counted rest)) a.written c.written v is w (sets (is_counted rest)) in
      (k.0, subst (λ (n : ℕ). Writes (f n (is_counted rest) (n + 1) ≫ λ x. nothing (Variable n)) a.written c.written (Variable v)) is u);
}

-- what is counted first, and lowered then, is a whole
pub whole_made : {Y : Type 0} (made : VariableSet → ℕ → Made Y) (some old now : MarkCounts) (a : CodeSoFar) (b : LoweringState) (y : Y) → Changes Add some old now → Lowers made some (record { written = a; later = now }) b y → Whole (made nowhere) (record { written = a; later = old }) b y
whole_made made some old now a b y h k = record {
  by = λ e. let i = k.by never (h ∙ ap (λ c. both c some) e) in (i.0, i.1);
}
