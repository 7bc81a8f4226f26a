-- What reads set variables alone by flags does so by sets.
use Rattle.std.proofs.Common.{◌≡◌, ℕ, zero, suc, ◌+◌, inl, inr, Bool, true, false, ◌&&◌, ◌||◌, List, [], ◌∷◌, length, Option, Some, None, refl, ap, sym, ◌∙◌, subst, arith}
use Rattle.std.proofs.lemmas.Bool.{cases_eq, false≢true, and_parts, and_from, or_left, or_right, eq-eqb}
use Rattle.std.specs.Prelude.{slice_set, nat_eq, is_some, if◌then◌else◌}
use Rattle.dae_meaning.specs.Variables.{VariableSet, with_set, all_set, parameters_set}
use Rattle.dae_program.specs.SetFirst.{both, with_target, set_behind, set_behind_target, set_behind_all, set_behind_some, is_old_set, reads_set, reads_set_target, all_read_set, some_reads_set, set_behind_items, items_read_set, set_behind_statements, statements_read_set, arms_read_set, is_set_first}
use Rattle.dae_program.specs.Views.{view_statements}
use Rattle.dae_types_typed.specs.declared.files.TypedFunction.{TypedFunction}
use Rattle.dae_types_typed.specs.Sound.{function_at}
use Rattle.dae_program.specs.Trees as tree
use Rattle.dae_program.specs.Trees.{Expression, Target, Expressions, Setting, Statements, Arms}
use Rattle.dae_types_ready.specs.Reads.{flagged, Flagged, ◌⊳⊳◌, read_variable, all_flags, meet, both_ways, aside, reading, reading_target, reading_old, setting_target, reading_all, reading_some, reading_items, reading_statements, reading_arms, flags_from, first_flags, is_reading_body}

-- by flags no more is set
abbrev pub IsWithinSet : List Bool → VariableSet → Type 0
IsWithinSet d c = (v : ℕ) → flagged d v ≡ true → c v ≡ true

-- ---- steps

pub record Steps (r : Flagged) (f : List Bool → Flagged) (e : List Bool) : Type 0 where
  pub between : List Bool
  pub first : r ≡ Some between
  pub second : f between ≡ Some e

pub parts : (r : Flagged) (f : List Bool → Flagged) (e : List Bool) → (r ⊳⊳ f) ≡ Some e → Steps r f e
parts None f e h = absurd cc
parts (Some d) f e h = record { between = d; first = refl; second = h }

same_flags : (c d : List Bool) → Some c ≡ Some d → c ≡ d
same_flags c d h = cc

pub none_is_set : (v : ℕ) → flagged [] v ≡ false
none_is_set zero = refl
none_is_set (suc v) = refl

under_read : (v : ℕ) (d e : List Bool) (c : VariableSet) → IsWithinSet d c → read_variable v d ≡ Some e → (c v ≡ true) × (e ≡ d)
under_read v d e c u h = by (flagged d v) refl h
  where
    by : (b : Bool) → flagged d v ≡ b → (if b then Some d else None) ≡ Some e → (c v ≡ true) × (e ≡ d)
    by true i g = (u v i, same_flags e d (sym g))
    by false i g = absurd cc

kept : (d : List Bool) (v w : ℕ) → (w ≡ v → ⊥) → flagged (slice_set d v true) w ≡ flagged d w
kept [] v w other = refl
kept (b ∷ d) zero zero other = absurd (other refl)
kept (b ∷ d) zero (suc w) other = refl
kept (b ∷ d) (suc v) zero other = refl
kept (b ∷ d) (suc v) (suc w) other = kept d v w (λ e. other (ap suc e))

set_there : (d : List Bool) (v w : ℕ) → flagged (slice_set d v true) w ≡ true → (nat_eq w v || flagged d w) ≡ true
set_there d v w h = elim (cases_eq w v) [
  | inl e ↦ or_left (nat_eq w v) (flagged d w) (eq-eqb w v e)
  | inr other ↦ or_right (nat_eq w v) (flagged d w) (sym (kept d v w other) ∙ h)
]

under_set : (v : ℕ) (d : List Bool) (c : VariableSet) → IsWithinSet d c → IsWithinSet (slice_set d v true) (with_set v c)
under_set v d c u w h = by (nat_eq w v) (set_there d v w h)
  where
    by : (b : Bool) → (b || flagged d w) ≡ true → (b || c w) ≡ true
    by true g = refl
    by false g = u w g

under_all : (d : List Bool) → IsWithinSet d all_set
under_all d v h = refl

meet_parts : (d e : List Bool) (v : ℕ) → flagged (meet d e) v ≡ true → (flagged d v ≡ true) × (flagged e v ≡ true)
meet_parts [] e v h = absurd (false≢true (sym (none_is_set v) ∙ h))
meet_parts (b ∷ d) [] v h = absurd (false≢true (sym (none_is_set v) ∙ h))
meet_parts (b ∷ d) (c ∷ e) zero h = and_parts b c h
meet_parts (b ∷ d) (c ∷ e) (suc v) h = meet_parts d e v h

under_both : (d e : List Bool) (a b : VariableSet) → IsWithinSet d a → IsWithinSet e b → IsWithinSet (meet d e) (both a b)
under_both d e a b u w v h = let p = meet_parts d e v h in and_from (a v) (b v) (u v p.0) (w v p.1)

-- ---- what a step comes to

-- all that is read is set, and by flags no more is set behind
abbrev SetsBehind : Bool → VariableSet → List Bool → Type 0
SetsBehind reads behind e = (reads ≡ true) × IsWithinSet e behind

under_same : (d e : List Bool) (c : VariableSet) → IsWithinSet d c → Some d ≡ Some e → IsWithinSet e c
under_same d e c u h = subst (λ z. IsWithinSet z c) (same_flags d e h) u

aside_parts : (r : Flagged) (d e : List Bool) → aside r d ≡ Some e → (z : List Bool) × (r ≡ Some z) × (e ≡ d)
aside_parts r d e h = let s = parts r (λ _. Some d) e h in (s.between, s.first, same_flags e d (sym s.second))

-- one expression behind another, by what each comes to
reads_two : (a b : Expression) (d e : List Bool) (c : VariableSet) → ((y : List Bool) → reading a d ≡ Some y → SetsBehind (reads_set c a) (set_behind c a) y) → ((y z : List Bool) → IsWithinSet y (set_behind c a) → reading b y ≡ Some z → SetsBehind (reads_set (set_behind c a) b) (set_behind (set_behind c a) b) z) → (reading a d ⊳⊳ reading b) ≡ Some e → SetsBehind (reads_set c a && reads_set (set_behind c a) b) (set_behind (set_behind c a) b) e
reads_two a b d e c f g h =
    let s = parts (reading a d) (reading b) e h in
    let one = f s.between s.first in
    let two = g s.between e one.1 s.second in
    (and_from (reads_set c a) (reads_set (set_behind c a) b) one.0 two.0, two.1)

-- the second of which may not be evaluated
reads_aside : (a b : Expression) (d e : List Bool) (c : VariableSet) → ((y : List Bool) → reading a d ≡ Some y → SetsBehind (reads_set c a) (set_behind c a) y) → ((y z : List Bool) → IsWithinSet y (set_behind c a) → reading b y ≡ Some z → SetsBehind (reads_set (set_behind c a) b) (set_behind (set_behind c a) b) z) → (reading a d ⊳⊳ λ d. aside (reading b d) d) ≡ Some e → SetsBehind (reads_set c a && reads_set (set_behind c a) b) (set_behind c a) e
reads_aside a b d e c f g h =
    let s = parts (reading a d) (λ d. aside (reading b d) d) e h in
    let one = f s.between s.first in
    let t = aside_parts (reading b s.between) s.between e s.second in
    let two = g s.between t.0 one.1 t.1 in
    (and_from (reads_set c a) (reads_set (set_behind c a) b) one.0 two.0, subst (λ z. IsWithinSet z (set_behind c a)) (sym t.2) one.1)

mutual
  pub reads : (a : Expression) (d e : List Bool) (c : VariableSet) → IsWithinSet d c → reading a d ≡ Some e → SetsBehind (reads_set c a) (set_behind c a) e
  reads (tree.Number k) d e c u h = (refl, under_same d e c u h)
  reads (tree.Address object offset) d e c u h = (refl, under_same d e c u h)
  reads (tree.Frame p offset) d e c u h = (refl, under_same d e c u h)
  reads (tree.Variable p v) d e c u h = let q = under_read v d e c u h in (q.0, subst (λ z. IsWithinSet z c) (sym q.1) u)
  reads (tree.Read p kind checked a) d e c u h = reads a d e c u h
  reads (tree.Convert p kind a) d e c u h = reads a d e c u h
  reads (tree.Not p a) d e c u h = reads a d e c u h
  reads (tree.Binary p operator a b) d e c u h = reads_two a b d e c (λ y g. reads a d y c u g) (λ y z w g. reads b y z (set_behind c a) w g) h
  reads (tree.Compare p comparison turned a b) d e c u h = reads_two a b d e c (λ y g. reads a d y c u g) (λ y z w g. reads b y z (set_behind c a) w g) h
  reads (tree.And p a b) d e c u h = reads_aside a b d e c (λ y g. reads a d y c u g) (λ y z w g. reads b y z (set_behind c a) w g) h
  reads (tree.Or p a b) d e c u h = reads_aside a b d e c (λ y g. reads a d y c u g) (λ y z w g. reads b y z (set_behind c a) w g) h
  reads (tree.Conditional p a b g) d e c u h =
      let s = parts (reading a d) (λ d. both_ways (reading b d) (reading g d)) e h in
      let one = reads a d s.between c u s.first in
      let t = parts (reading b s.between) (λ y. reading g s.between ⊳⊳ λ z. Some (meet y z)) e s.second in
      let two = reads b s.between t.between (set_behind c a) one.1 t.first in
      let w = parts (reading g s.between) (λ z. Some (meet t.between z)) e t.second in
      let three = reads g s.between w.between (set_behind c a) one.1 w.first in (
        and_from (reads_set c a) (reads_set (set_behind c a) b && reads_set (set_behind c a) g) one.0 (and_from (reads_set (set_behind c a) b) (reads_set (set_behind c a) g) two.0 three.0),
        under_same (meet t.between w.between) e (both (set_behind (set_behind c a) b) (set_behind (set_behind c a) g)) (under_both t.between w.between (set_behind (set_behind c a) b) (set_behind (set_behind c a) g) two.1 three.1) w.second,
      )
  reads (tree.Comma a b) d e c u h = reads_two a b d e c (λ y g. reads a d y c u g) (λ y z w g. reads b y z (set_behind c a) w g) h
  reads (tree.Assign p kind t a) d e c u h =
      let s = parts (reading_target t d) (λ d. reading a d ⊳⊳ setting_target t) e h in
      let one = reads_target t d s.between c u s.first in
      let w = parts (reading a s.between) (setting_target t) e s.second in
      let two = reads a s.between w.between (set_behind_target c t) one.1 w.first in
      (and_from (reads_set_target c t) (reads_set (set_behind_target c t) a) one.0 two.0, sets_target t w.between e (set_behind (set_behind_target c t) a) two.1 w.second)
  reads (tree.Update p kind t operator a) d e c u h =
      let s = parts (reading_target t d) (λ d. reading_old t d ⊳⊳ λ d. reading a d ⊳⊳ setting_target t) e h in
      let one = reads_target t d s.between c u s.first in
      let o = parts (reading_old t s.between) (λ d. reading a d ⊳⊳ setting_target t) e s.second in
      let old = reads_old t d s.between o.between c u s.first o.first in
      let w = parts (reading a o.between) (setting_target t) e o.second in
      let two = reads a o.between w.between (set_behind_target c t) (subst (λ z. IsWithinSet z (set_behind_target c t)) (sym old.1) one.1) w.first in (
        and_from (reads_set_target c t && is_old_set c t) (reads_set (set_behind_target c t) a) (and_from (reads_set_target c t) (is_old_set c t) one.0 old.0) two.0,
        sets_target t w.between e (set_behind (set_behind_target c t) a) two.1 w.second,
      )
  reads (tree.Step p kind t change new) d e c u h =
      let s = parts (reading_target t d) (reading_old t) e h in
      let one = reads_target t d s.between c u s.first in
      let old = reads_old t d s.between e c u s.first s.second in
      (and_from (reads_set_target c t) (is_old_set c t) one.0 old.0, subst (λ z. IsWithinSet z (set_behind_target c t)) (sym old.1) one.1)
  reads (tree.Call p f xs) d e c u h = reads_all xs d e c u h
  reads (tree.Putchar p a) d e c u h = reads a d e c u h
  reads (tree.Exit p a) d e c u h = let s = parts (reading a d) (λ d. Some (all_flags d)) e h in ((reads a d s.between c u s.first).0, under_all e)
  reads (tree.Abort p) d e c u h = (refl, under_same d e c u h)

  reads_target : (t : Target) (d e : List Bool) (c : VariableSet) → IsWithinSet d c → reading_target t d ≡ Some e → SetsBehind (reads_set_target c t) (set_behind_target c t) e
  reads_target (tree.InVariable v) d e c u h = (refl, under_same d e c u h)
  reads_target (tree.AtAddress checked a) d e c u h = reads a d e c u h

  -- the address is read before
  reads_old : (t : Target) (d y e : List Bool) (c : VariableSet) → IsWithinSet d c → reading_target t d ≡ Some y → reading_old t y ≡ Some e → (is_old_set c t ≡ true) × (e ≡ y)
  reads_old (tree.InVariable v) d y e c u g h = under_read v y e c (under_same d y c u g) h
  reads_old (tree.AtAddress checked a) d y e c u g h = (refl, same_flags e y (sym h))

  sets_target : (t : Target) (d e : List Bool) (c : VariableSet) → IsWithinSet d c → setting_target t d ≡ Some e → IsWithinSet e (with_target t c)
  sets_target (tree.InVariable v) d e c u h = under_same (slice_set d v true) e (with_set v c) (under_set v d c u) h
  sets_target (tree.AtAddress checked a) d e c u h = under_same d e c u h

  reads_all : (xs : Expressions) (d e : List Bool) (c : VariableSet) → IsWithinSet d c → reading_all xs d ≡ Some e → SetsBehind (all_read_set c xs) (set_behind_all c xs) e
  reads_all tree.no_expressions d e c u h = (refl, under_same d e c u h)
  reads_all (tree.expression_then a xs) d e c u h =
      let s = parts (reading a d) (reading_all xs) e h in
      let one = reads a d s.between c u s.first in
      let two = reads_all xs s.between e (set_behind c a) one.1 s.second in
      (and_from (reads_set c a) (all_read_set (set_behind c a) xs) one.0 two.0, two.1)

reads_some : (a : Option Expression) (d e : List Bool) (c : VariableSet) → IsWithinSet d c → reading_some a d ≡ Some e → SetsBehind (some_reads_set c a) (set_behind_some c a) e
reads_some None d e c u h = (refl, under_same d e c u h)
reads_some (Some a) d e c u h = reads a d e c u h

reads_items : (items : List Setting) (d e : List Bool) (c : VariableSet) → IsWithinSet d c → reading_items items d ≡ Some e → SetsBehind (items_read_set c items) (set_behind_items c items) e
reads_items [] d e c u h = (refl, under_same d e c u h)
reads_items (item ∷ items) d e c u h =
    let s = parts (reading item.value d) (reading_items items) e h in
    let one = reads item.value d s.between c u s.first in
    let two = reads_items items s.between e (set_behind c item.value) one.1 s.second in
    (and_from (reads_set c item.value) (items_read_set (set_behind c item.value) items) one.0 two.0, two.1)

mutual
  pub reads_statements : (t : Statements) (d e : List Bool) (c : VariableSet) → IsWithinSet d c → reading_statements t d ≡ Some e → SetsBehind (statements_read_set c t) (set_behind_statements c t) e
  reads_statements tree.Done d e c u h = (refl, under_same d e c u h)
  reads_statements (tree.Evaluate p a k) d e c u h =
      let s = parts (reading a d) (reading_statements k) e h in
      let one = reads a d s.between c u s.first in
      let two = reads_statements k s.between e (set_behind c a) one.1 s.second in
      (and_from (reads_set c a) (statements_read_set (set_behind c a) k) one.0 two.0, two.1)
  reads_statements (tree.Initialise p offset bytes items k) d e c u h =
      let s = parts (reading_items items d) (reading_statements k) e h in
      let one = reads_items items d s.between c u s.first in
      let two = reads_statements k s.between e (set_behind_items c items) one.1 s.second in
      (and_from (items_read_set c items) (statements_read_set (set_behind_items c items) k) one.0 two.0, two.1)
  reads_statements (tree.Print p xs pieces k) d e c u h =
      let s = parts (reading_all xs d) (reading_statements k) e h in
      let one = reads_all xs d s.between c u s.first in
      let two = reads_statements k s.between e (set_behind_all c xs) one.1 s.second in
      (and_from (all_read_set c xs) (statements_read_set (set_behind_all c xs) k) one.0 two.0, two.1)
  reads_statements (tree.If p a t v k) d e c u h =
      let all = parts (reading a d ⊳⊳ λ d. both_ways (reading_statements t d) (reading_statements v d)) (reading_statements k) e h in
      let s = parts (reading a d) (λ d. both_ways (reading_statements t d) (reading_statements v d)) all.between all.first in
      let one = reads a d s.between c u s.first in
      let x = parts (reading_statements t s.between) (λ y. reading_statements v s.between ⊳⊳ λ z. Some (meet y z)) all.between s.second in
      let two = reads_statements t s.between x.between (set_behind c a) one.1 x.first in
      let w = parts (reading_statements v s.between) (λ z. Some (meet x.between z)) all.between x.second in
      let three = reads_statements v s.between w.between (set_behind c a) one.1 w.first in
      let behind = both (set_behind_statements (set_behind c a) t) (set_behind_statements (set_behind c a) v) in
      let met = under_same (meet x.between w.between) all.between behind (under_both x.between w.between (set_behind_statements (set_behind c a) t) (set_behind_statements (set_behind c a) v) two.1 three.1) w.second in
      let rest = reads_statements k all.between e behind met all.second in (
        and_from (reads_set c a && (statements_read_set (set_behind c a) t && statements_read_set (set_behind c a) v)) (statements_read_set behind k)
            (and_from (reads_set c a) (statements_read_set (set_behind c a) t && statements_read_set (set_behind c a) v) one.0 (and_from (statements_read_set (set_behind c a) t) (statements_read_set (set_behind c a) v) two.0 three.0)) rest.0,
        rest.1,
      )
  reads_statements (tree.Loop p test body step k) d e c u h =
      let all = parts (aside (reading_some test d ⊳⊳ reading_statements body) d ⊳⊳ λ d. aside (reading_some step d) d) (reading_statements k) e h in
      let s = parts (aside (reading_some test d ⊳⊳ reading_statements body) d) (λ d. aside (reading_some step d) d) all.between all.first in
      let turn = aside_parts (reading_some test d ⊳⊳ reading_statements body) d s.between s.first in
      let x = parts (reading_some test d) (reading_statements body) turn.0 turn.1 in
      let one = reads_some test d x.between c u x.first in
      let two = reads_statements body x.between turn.0 (set_behind_some c test) one.1 x.second in
      let under = subst (λ z. IsWithinSet z c) (sym turn.2) u in
      let after = aside_parts (reading_some step s.between) s.between all.between s.second in
      let three = reads_some step s.between after.0 c under after.1 in
      let rest = reads_statements k all.between e c (subst (λ z. IsWithinSet z c) (sym after.2) under) all.second in (
        and_from (some_reads_set c test && (statements_read_set (set_behind_some c test) body && some_reads_set c step)) (statements_read_set c k)
            (and_from (some_reads_set c test) (statements_read_set (set_behind_some c test) body && some_reads_set c step) one.0 (and_from (statements_read_set (set_behind_some c test) body) (some_reads_set c step) two.0 three.0)) rest.0,
        rest.1,
      )
  reads_statements (tree.Do p body test k) d e c u h =
      let all = parts (aside (reading_statements body d) d ⊳⊳ λ d. aside (reading test d) d) (reading_statements k) e h in
      let s = parts (aside (reading_statements body d) d) (λ d. aside (reading test d) d) all.between all.first in
      let turn = aside_parts (reading_statements body d) d s.between s.first in
      let one = reads_statements body d turn.0 c u turn.1 in
      let under = subst (λ z. IsWithinSet z c) (sym turn.2) u in
      let after = aside_parts (reading test s.between) s.between all.between s.second in
      let two = reads test s.between after.0 c under after.1 in
      let rest = reads_statements k all.between e c (subst (λ z. IsWithinSet z c) (sym after.2) under) all.second in
      (and_from (statements_read_set c body && reads_set c test) (statements_read_set c k) (and_from (statements_read_set c body) (reads_set c test) one.0 two.0) rest.0, rest.1)
  reads_statements (tree.Switch p a arms k) d e c u h =
      let all = parts (reading a d ⊳⊳ reading_arms arms) (reading_statements k) e h in
      let s = parts (reading a d) (reading_arms arms) all.between all.first in
      let one = reads a d s.between c u s.first in
      let two = reads_arms arms s.between all.between (set_behind c a) one.1 s.second in
      let rest = reads_statements k all.between e (set_behind c a) (subst (λ z. IsWithinSet z (set_behind c a)) (sym two.1) one.1) all.second in
      (and_from (reads_set c a && arms_read_set (set_behind c a) arms) (statements_read_set (set_behind c a) k) (and_from (reads_set c a) (arms_read_set (set_behind c a) arms) one.0 two.0) rest.0, rest.1)
  reads_statements (tree.Break p k) d e c u h = reads_statements k (all_flags d) e all_set (under_all (all_flags d)) h
  reads_statements (tree.Continue p k) d e c u h = reads_statements k (all_flags d) e all_set (under_all (all_flags d)) h
  reads_statements (tree.Return p a k) d e c u h =
      let all = parts (reading_some a d ⊳⊳ λ d. Some (all_flags d)) (reading_statements k) e h in
      let s = parts (reading_some a d) (λ d. Some (all_flags d)) all.between all.first in
      let one = reads_some a d s.between c u s.first in
      let rest = reads_statements k all.between e all_set (under_all all.between) all.second in
      (and_from (some_reads_set c a) (statements_read_set all_set k) one.0 rest.0, rest.1)

  reads_arms : (arms : Arms) (d e : List Bool) (c : VariableSet) → IsWithinSet d c → reading_arms arms d ≡ Some e → (arms_read_set c arms ≡ true) × (e ≡ d)
  reads_arms tree.no_arms d e c u h = (refl, same_flags e d (sym h))
  reads_arms (tree.arm_then labels t rest) d e c u h =
      let s = parts (aside (reading_statements t d) d) (reading_arms rest) e h in
      let here = aside_parts (reading_statements t d) d s.between s.first in
      let one = reads_statements t d here.0 c u here.1 in
      let two = reads_arms rest s.between e c (subst (λ z. IsWithinSet z c) (sym here.2) u) s.second in
      (and_from (statements_read_set c t) (arms_read_set c rest) one.0 two.0, two.1 ∙ here.2)

-- ---- functions

entry_flags : (parameters v count w : ℕ) → flagged (flags_from parameters v count) w ≡ true → parameters_set parameters (v + w) ≡ true
entry_flags p v zero w h = absurd (false≢true (sym (none_is_set w) ∙ h))
entry_flags p v (suc count) zero h = let n : v + 0 ≡ v = omega arith in rw n h
entry_flags p v (suc count) (suc w) h = let n : v + suc w ≡ suc v + w = omega arith in rw n (entry_flags p (suc v) count w h)

is_there : (r : Flagged) → is_some r ≡ true → (d : List Bool) × (r ≡ Some d)
is_there None h = absurd (false≢true h)
is_there (Some d) h = (d, refl)

pub set_first : (f : TypedFunction) → is_reading_body f ≡ true → is_set_first (function_at (λ n. 0) f) ≡ true
set_first f h =
    let q = is_there (reading_statements (view_statements f.body) (first_flags (length f.parameters) f.variables)) h in
    (reads_statements (view_statements f.body) (first_flags (length f.parameters) f.variables) q.0 (parameters_set (length f.parameters)) (λ v g. (let e : 0 + v ≡ v = omega arith in subst (λ z. parameters_set (length f.parameters) z ≡ true) e (entry_flags (length f.parameters) 0 f.variables v g))) q.1).0
