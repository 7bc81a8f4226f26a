-- Steps of loops over flags, arms and statements.
use Rattle.std.proofs.Common.{◌≡◌, ℕ, suc, ◌+◌, ◌-◌, ◌<◌, ◌≤◌, Bool, ◌&&◌, List, [], ◌∷◌, ◌++◌, length, drop, get_or, Option, Some, refl, ap, sym, ◌∙◌, arith}
use Rattle.std.proofs.lemmas.List.{drop_all}
use Rattle.std.specs.Prelude.{nat_lt, nat_le, Box, Vec}
use Rattle.std.specs.declared.alloc.Global.{Global}
use Rattle.dae_base.specs.declared.Place.{Place}
use Rattle.dae_program.specs.declared.expressions.Expression.{Expression}
use Rattle.dae_program.specs.declared.statements.Arm.{Arm}
use Rattle.dae_program.specs.declared.statements.Statement.{Statement}
use Rattle.dae_program.specs.declared.statements.Statement.TheVariants as statement
use Rattle.dae_program.specs.Trees as tree
use Rattle.dae_program.specs.Views.{statement_then, view, view_some, view_statements, arms_of}
use Rattle.dae_program.proofs.LawsOfTrees.{arms_at, view_if, view_loop, view_do, view_switch}
use Rattle.dae_types_ready.specs.Reads.{◌⊳⊳◌, aside, both_ways, meet, flags_from, first_flags, reading, reading_some, reading_statements, reading_arms}

-- ---- flags

meet_none : (xs : List Bool) → meet xs [] ≡ []
meet_none [] = refl
meet_none (x ∷ xs) = refl

nothing_behind : (xs : List Bool) → xs ≡ xs ++ []
nothing_behind [] = refl
nothing_behind (x ∷ xs) = ap (λ k. x ∷ k) (nothing_behind xs)

pub meet_ends : (one other both : List Bool) (i : ℕ) → length other ≤ i → both ++ meet (drop i one) (drop i other) ≡ meet one other → both ≡ meet one other
meet_ends one other both i h g =
    nothing_behind both ∙ sym (ap (λ k. both ++ k) (ap (meet (drop i one)) (drop_all i other h) ∙ meet_none (drop i one))) ∙ g

behind_one : (xs : List Bool) (x : Bool) (ys : List Bool) → (xs ++ x ∷ []) ++ ys ≡ xs ++ x ∷ ys
behind_one [] x ys = refl
behind_one (z ∷ zs) x ys = ap (λ k. z ∷ k) (behind_one zs x ys)

pub flags_more : (p v n : ℕ) (set new : List Bool) (x : Bool) → v < n → new ≡ set ++ x ∷ [] → x ≡ (nat_lt 0 v && nat_le v p) → set ++ flags_from p v (n - v) ≡ first_flags p n → new ++ flags_from p (v + 1) (n - (v + 1)) ≡ first_flags p n
flags_more p v n set new x lt e g h =
    let more : n - v ≡ suc (n - (v + 1)) = omega (arith, lt) in
    let up : v + 1 ≡ suc v = omega arith in
    ap (λ z. z ++ flags_from p (v + 1) (n - (v + 1))) e ∙ behind_one set x (flags_from p (v + 1) (n - (v + 1))) ∙ ap (λ z. set ++ z ∷ flags_from p (v + 1) (n - (v + 1))) g
    ∙ ap (λ z. set ++ (nat_lt 0 v && nat_le v p) ∷ flags_from p z (n - (v + 1))) up ∙ sym (ap (λ z. set ++ flags_from p v z) more) ∙ h

-- ---- reading

pub arms_step : (xs : List Arm) (i : ℕ) (arm : Arm) (d turn : List Bool) → i < length xs → arm ≡ get_or xs i arm → reading_arms (arms_of (drop i xs)) d ≡ reading_arms (arms_of xs) d → reading_statements (view_statements arm.statements.items) d ≡ Some turn → reading_arms (arms_of (drop (i + 1) xs)) d ≡ reading_arms (arms_of xs) d
arms_step xs i arm d turn lt is h g =
    sym (ap (λ r. aside r d ⊳⊳ reading_arms (arms_of (drop (i + 1) xs))) g) ∙ sym (ap (λ a. reading_arms a d) (arms_at xs i arm lt is)) ∙ h

pub if_reads : (p : Place) (a : Box Expression Global) (s t : Vec Statement Global) (d b y z new : List Bool) → reading (view a.value) d ≡ Some b → reading_statements (view_statements s.items) b ≡ Some y → reading_statements (view_statements t.items) b ≡ Some z → new ≡ meet y z → (k : tree.Statements) → reading_statements (statement_then (statement.If p a s t) k) d ≡ reading_statements k new
if_reads p a s t d b y z new h g f e k =
    ap (λ ss. reading_statements ss d) (view_if p a s t k)
    ∙ ap (λ r. (r ⊳⊳ λ d. both_ways (reading_statements (view_statements s.items) d) (reading_statements (view_statements t.items) d)) ⊳⊳ reading_statements k) h
    ∙ ap (λ r. both_ways r (reading_statements (view_statements t.items) b) ⊳⊳ reading_statements k) g
    ∙ ap (λ r. both_ways (Some y) r ⊳⊳ reading_statements k) f ∙ ap (reading_statements k) (sym e)

pub loop_reads : (p : Place) (test : Option (Box Expression Global)) (s : Vec Statement Global) (step : Option (Box Expression Global)) (d b turn after : List Bool) → reading_some (view_some test) d ≡ Some b → reading_statements (view_statements s.items) b ≡ Some turn → reading_some (view_some step) d ≡ Some after → (k : tree.Statements) → reading_statements (statement_then (statement.Loop p test s step) k) d ≡ reading_statements k d
loop_reads p test s step d b turn after h g f k =
    ap (λ z. reading_statements z d) (view_loop p test s step k)
    ∙ ap (λ r. (aside (r ⊳⊳ reading_statements (view_statements s.items)) d ⊳⊳ λ d. aside (reading_some (view_some step) d) d) ⊳⊳ reading_statements k) h
    ∙ ap (λ r. (aside r d ⊳⊳ λ d. aside (reading_some (view_some step) d) d) ⊳⊳ reading_statements k) g
    ∙ ap (λ r. aside r d ⊳⊳ reading_statements k) f

pub do_reads : (p : Place) (s : Vec Statement Global) (test : Box Expression Global) (d turn after : List Bool) → reading_statements (view_statements s.items) d ≡ Some turn → reading (view test.value) d ≡ Some after → (k : tree.Statements) → reading_statements (statement_then (statement.Do p s test) k) d ≡ reading_statements k d
do_reads p s test d turn after g f k =
    ap (λ z. reading_statements z d) (view_do p s test k)
    ∙ ap (λ r. (aside r d ⊳⊳ λ d. aside (reading (view test.value) d) d) ⊳⊳ reading_statements k) g
    ∙ ap (λ r. aside r d ⊳⊳ reading_statements k) f

pub switch_reads : (p : Place) (a : Box Expression Global) (arms : Vec Arm Global) (d b new : List Bool) → reading (view a.value) d ≡ Some b → reading_arms (arms_of arms.items) b ≡ Some new → (k : tree.Statements) → reading_statements (statement_then (statement.Switch p a arms) k) d ≡ reading_statements k new
switch_reads p a arms d b new h g k =
    ap (λ z. reading_statements z d) (view_switch p a arms k)
    ∙ ap (λ r. (r ⊳⊳ reading_arms (arms_of arms.items)) ⊳⊳ reading_statements k) h ∙ ap (λ r. r ⊳⊳ reading_statements k) g
