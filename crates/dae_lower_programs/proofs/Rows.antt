-- Whole parts, one behind the other.
use Rattle.std.proofs.Common.{◌≡◌, ◌⊎◌, ℕ, ◌-◌, ◌^◌, ◌<◌, ◌≤◌, List, [], inl, inr, refl, ap, sym, ◌∙◌, subst, arith}
use Rattle.dae_base.specs.declared.Place.{Place}
use Rattle.dae_ir.specs.Code.{Done, Do, Loop}
use Rattle.dae_ir.specs.Form.{Form, form_of}
use Rattle.dae_ir.specs.declared.form.Item.{Item}
use Rattle.dae_ir.specs.declared.form.Statement.{Statement}
use Rattle.dae_lower.specs.Lowering.{Made, Condition, branches, emit, loop, nothing, one, only, skip, ◌⨾◌, ◌≫◌}
use Rattle.dae_lower_expressions.specs.Lowered.{IsBlock, LoweringState, Whole, WroteBlock}
use Rattle.dae_lower_expressions.proofs.Laws.{alone, branched, exact_block}
use Rattle.dae_lower_programs.specs.Made.{WholeBlock}
use Rattle.dae_lower_maker.proofs.Laws.{behind_behind, behind_done, below_or_last, nothing_written, parts_written, written_on}
use Rattle.dae_lower_maker.specs.Making.{CodeSoFar, Writes, Wrote, forked}
use Rattle.dae_lower_maker.specs.Numbers.{late_in}

-- what is written without a count
pub leaf_whole : {Y : Type 0} (made : ℕ → Made Y) (a b : LoweringState) (y : Y) → b.later ≡ a.later → Writes (made a.written.next) a.written b.written y → Whole made a b y
leaf_whole made a b y same h = record { by = λ e. (same ∙ e, h) }

-- nothing is written
pub nothing_whole : {Y : Type 0} (a : LoweringState) (y : Y) → Whole (nothing y) a a y
nothing_whole a y = leaf_whole (nothing y) a a y refl (nothing_written a.written y)

-- one part after the other
pub then_whole : {X Y : Type 0} (f : ℕ → Made X) (g : X → ℕ → Made Y) (a b c : LoweringState) (x : X) (y : Y) → Whole f a b x → Whole (g x) b c y → Whole (λ n. f n ≫ g) a c y
then_whole f g a b c x y h k = record {
  by = λ e. let i = h.by e in let j = k.by i.0 in (j.0, written_on (f a.written.next) g a.written b.written c.written x y i.1 j.1);
}

-- a part, and nothing behind it
pub last_whole : {X : Type 0} (f : ℕ → Made X) (a b : LoweringState) (x : X) → Whole f a b x → Whole (λ n. f n ≫ λ x. skip) a b tt
last_whole f a b x h = then_whole f (λ x. skip) a b b x tt h (nothing_whole b tt)

-- ---- lists: the first parts are written, and then the rest of them

pub record Leads (all rest : ℕ → Made (Unit {0})) (a now : LoweringState) : Type 0 where
  pub follows : (b : LoweringState) → Whole rest now b tt → Whole all a b tt

pub first_leads : (all : ℕ → Made (Unit {0})) (a : LoweringState) → Leads all all a a
first_leads all a = record { follows = λ b h. h }

pub next_leads : (all rest first behind : ℕ → Made (Unit {0})) (a now new : LoweringState) → ((n : ℕ) → rest n ≡ (first n ≫ λ x. behind)) → Leads all rest a now → Whole first now new tt → Leads all behind a new
next_leads all rest first behind a now new e h k = record {
  follows = λ b g. h.follows b (subst (λ (f : ℕ → Made (Unit {0})). Whole f now b tt) (sym (λ i n. e n i)) (then_whole first (λ x. behind) now new b tt tt k g));
}

pub last_leads : (all rest : ℕ → Made (Unit {0})) (a now : LoweringState) → rest ≡ skip → Leads all rest a now → Whole all a now tt
last_leads all rest a now e h = h.follows now (subst (λ (f : ℕ → Made (Unit {0})). Whole f now now tt) (sym e) (nothing_whole now tt))

-- ---- code in front

-- what was written in two steps
pub two_codes : (a b c first second : Form) → b ≡ a ⨾ first → c ≡ b ⨾ second → c ≡ a ⨾ (first ⨾ second)
two_codes a b c first second h k = k ∙ ap (λ d. d ⨾ second) h ∙ behind_behind a first second

-- ---- blocks

-- statements of their own, and what is written with them
pub block_written : {Y : Type 0} (block : Made (Unit {0})) (second all : Made Y) (a b c : CodeSoFar) (inner : List Statement) (y : Y) → IsBlock block a b inner → Writes second b c y → (WroteBlock block a b inner → Wrote second b c y → Wrote all a c y)
    → (0 < late_in block.code → 0 < late_in all.code) → (WroteBlock block a b inner → 0 < late_in second.code → 0 < late_in all.code) → Writes all a c y
block_written {Y} block second all a b c inner y i w join here there = record {
  grows = omega (arith, i.grows, w.grows);
  fits = λ lt. join (i.fits (omega (arith, w.grows, lt))) (w.fits lt);
  full = λ start over. by start over (below_or_last b.next);
} where
  by : a.next < 2 ^ 32 - 1 → 2 ^ 32 - 1 ≤ c.next → (b.next < 2 ^ 32 - 1) ⊎ (2 ^ 32 - 1 ≤ b.next) → 0 < late_in all.code
  by start over (inl lt) = there (i.fits lt) (w.full lt over)
  by start over (inr le) = here (i.full start le)

pub block_whole : (made : ℕ → Made (Unit {0})) (a b c d : LoweringState) (outer inner : List Statement)
    → b.written ≡ record { code = Done; next = a.written.next } → b.later ≡ a.later → form_of outer ≡ a.written.code → Whole made b c tt
    → form_of inner ≡ c.written.code → d.written ≡ record { code = form_of outer; next = c.written.next } → d.later ≡ c.later → WholeBlock made a d inner
block_whole made a b c d outer inner begun same out h in_it ended after = record {
  by = λ q.
      let i = h.by (same ∙ q) in
      let w = subst (λ (s : CodeSoFar). Writes (made s.next) s c.written tt) begun i.1 in
      (after ∙ i.0, alone (made a.written.next) a.written c.written d.written outer inner out in_it ended w);
}

-- the branches of a condition
pub branches_whole : (place : Place) (cond : ℕ → Made Condition) (f g : ℕ → Made (Unit {0})) (a b d e z : LoweringState) (c : Condition) (inner outer : List Statement)
    → Whole cond a b c → WholeBlock f b d inner → WholeBlock g d e outer → z.later ≡ e.later
    → Writes (emit (forked place c (form_of inner) (form_of outer)) e.written.next) e.written z.written tt
    → Whole (λ n. branches place (cond n) f g) a z tt
branches_whole place cond f g a b d e z c inner outer h i j same p = record {
  by = λ q.
      let k = h.by q in
      let l = i.by k.0 in
      let m = j.by l.0 in
      (same ∙ m.0, branched place (cond a.written.next) f g a.written b.written d.written e.written z.written c inner outer k.1 l.1 m.1 p);
}

-- a loop of a body and a step
pub loop_whole : (place : Place) (f g : ℕ → Made (Unit {0})) (a b c z : LoweringState) (body step : List Statement)
    → WholeBlock f a b body → WholeBlock g b c step → z.later ≡ c.later
    → Writes (emit (Loop place (form_of body) (form_of step) Done) c.written.next) c.written z.written tt
    → Whole (λ n. loop place (f n) g) a z tt
loop_whole place f g a b c z body step h i same p = record {
  by = λ q.
      let j = h.by q in
      let k = i.by j.0 in
      (same ∙ k.0, looped j.1 k.1);
} where
  -- the step, and then the loop
  behind : IsBlock (g b.written.next) b.written c.written step → Writes (only (Loop place (form_of body) (g b.written.next).code Done) (tt {0}) (g b.written.next).next) b.written z.written tt
  behind k =
      block_written (g b.written.next) (emit (Loop place (form_of body) (form_of step) Done) c.written.next) (only (Loop place (form_of body) (g b.written.next).code Done) (tt {0}) (g b.written.next).next) b.written c.written z.written step tt k p
      (λ k w. record { code = w.code ∙ ap (λ d. d ⨾ Loop place (form_of body) (form_of step) Done) k.code ∙ ap (λ u. b.written.code ⨾ Loop place (form_of body) u Done) k.block; given = refl; next = w.next ∙ k.next })
      (λ some. omega (arith, some)) (λ k some. let same = ap (λ u. late_in u) k.block in omega (arith, same, some))

  looped : IsBlock (f a.written.next) a.written b.written body → IsBlock (g b.written.next) b.written c.written step → Writes (loop place (f a.written.next) g) a.written z.written tt
  looped j k =
      block_written (f a.written.next) (only (Loop place (form_of body) (g b.written.next).code Done) (tt {0}) (g b.written.next).next) (loop place (f a.written.next) g) a.written b.written z.written body tt j (behind k)
      (λ j w. record {
        code = w.code ∙ ap (λ d. d ⨾ Loop place (form_of body) (g b.written.next).code Done) j.code ∙ ap (λ u. a.written.code ⨾ Loop place u (g b.written.next).code Done) j.block
            ∙ ap (λ n. a.written.code ⨾ Loop place (f a.written.next).code (g n).code Done) j.next;
        given = refl;
        next = w.next ∙ ap (λ n. (g n).next) j.next;
      })
      (λ some. omega (arith, some))
      (λ j some. let same = ap (λ u. late_in u) j.block in let step = ap (λ n. late_in (g n).code) j.next in omega (arith, same, step, some))

-- two items
pub two_items : (place : Place) (first second : Item) (a b c : CodeSoFar) → Writes (only (one place first) (tt {0}) a.next) a b tt → Writes (only (one place second) (tt {0}) b.next) b c tt → Writes (emit (Do place first (one place second)) a.next) a c tt
two_items place first second a b c h k =
    parts_written (only (one place first) (tt {0}) a.next) (only (one place second) (tt {0}) b.next) (emit (Do place first (one place second)) a.next) a b c tt tt tt h k
    (λ h k. record { code = two_codes a.code b.code c.code (one place first) (one place second) h.code k.code; given = refl; next = k.next ∙ h.next })
    (λ some. omega (arith, some)) (λ h some. omega (arith, some))

-- ---- what nothing stands behind, with something behind it

pub seam_one : (f : Made (Unit {0})) (h : ℕ → Made (Unit {0})) → (f ≫ λ u. h) ≡ ((f ≫ λ u. skip) ≫ λ u. h)
seam_one f h = ap (λ (k : Form). record { code = k ⨾ (h f.next).code; given = (h f.next).given; next = (h f.next).next }) (sym (behind_done f.code))

pub seam_two : {X : Type 0} (f : Made X) (g : X → ℕ → Made (Unit {0})) (h : ℕ → Made (Unit {0})) → (f ≫ λ x n. g x n ≫ λ u. h) ≡ ((f ≫ λ x n. g x n ≫ λ u. skip) ≫ λ u. h)
seam_two f g h =
    let e = g f.given f.next in
    ap (λ (k : Form). record { code = k; given = (h e.next).given; next = (h e.next).next })
    (ap (λ (k : Form). f.code ⨾ (k ⨾ (h e.next).code)) (sym (behind_done e.code)) ∙ sym (behind_behind f.code (e.code ⨾ Done) (h e.next).code))

-- ---- blocks that need no variable

pub empty_block : (a : LoweringState) (inner : List Statement) → inner ≡ [] → WholeBlock skip a a inner
empty_block a inner e = record { by = λ q. (q, exact_block (skip a.written.next) a.written a.written inner (record { code = refl; block = ap form_of e; next = refl }) refl) }

pub code_block : (code : Form) (a : LoweringState) (inner : List Statement) → form_of inner ≡ code → WholeBlock (emit code) a a inner
code_block code a inner e = record { by = λ q. (q, exact_block (emit code a.written.next) a.written a.written inner (record { code = refl; block = e; next = refl }) refl) }
