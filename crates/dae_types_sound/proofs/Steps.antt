-- Steps of loops over statements and parameters.
use Rattle.std.proofs.Common.{◌≡◌, ℕ, zero, suc, ◌+◌, ◌-◌, ◌<◌, Bool, true, ◌&&◌, List, [], ◌∷◌, ◌++◌, length, drop, get_or, Option, Some, None, refl, ap, sym, ◌∙◌, arith}
use Rattle.std.specs.Prelude.{nat_eq, Box, Vec}
use Rattle.std.proofs.lemmas.Bool.Decides.{nat_tests}
use Rattle.dae_types_kinds.specs.declared.tables.Routine.{Routine}
use Rattle.dae_types_typed.specs.declared.files.FileParts.{FileParts}
use Rattle.dae_types_typed.specs.declared.files.TypedFunction.{TypedFunction}
use Rattle.dae_types_typed.specs.Sound.{routines_in}
use Rattle.dae_types_sound.specs.Declarations.{same_numbers}
use Rattle.dae_types_kinds.specs.declared.types.Shape.{Shape}
use Rattle.dae_types_kinds.specs.declared.types.Shape.TheVariants as shape
use Rattle.dae_types_kinds.specs.Tables.{Tables}
use Rattle.dae_types_kinds.specs.Types.{shape_of}
use Rattle.dae_types_plans.specs.Steps.{parameters_from}
use Rattle.dae_types_sound.specs.Names.{shorter, used_count, used_counts}
use Rattle.std.specs.List.{list_all}
use Rattle.std.specs.declared.alloc.Global.{Global}
use Rattle.dae_base.proofs.Laws.{and_along, and_nothing}
use Rattle.dae_base.specs.declared.Place.{Place}
use Rattle.dae_program.specs.declared.expressions.Expression.{Expression}
use Rattle.dae_program.specs.declared.statements.Arm.{Arm}
use Rattle.dae_program.specs.declared.statements.Statement.{Statement}
use Rattle.dae_program.specs.declared.statements.Statement.TheVariants as statement
use Rattle.dae_program.specs.Lawful.{is_byte, is_word}
use Rattle.dae_program.specs.Switches.{count_arms}
use Rattle.dae_program.specs.Trees as tree
use Rattle.dae_program.specs.Views.{row_then, statement_then, view, view_arms, view_expressions, view_settings, view_some, view_statements, arms_of}
use Rattle.dae_program.proofs.LawsOfTrees.{statements_at, view_if, view_loop, view_do, view_switch}
use Rattle.dae_types_sound.specs.declared.extents.FunctionExtent.{FunctionExtent}
use Rattle.dae_types_sound.specs.declared.extents.FileNames.{FileNames}
use Rattle.dae_types_sound.specs.declared.extents.Jumps.{Jumps}
use Rattle.dae_types_sound.specs.Fit.{is_fit, is_fit_some, is_fit_item, is_fit_aggregate, are_fit, are_fit_statements, are_fit_arms, loop_jumps, switch_jumps}

-- ---- statements

and_tail : (a c : Bool) → (a && c) ≡ ((a && true) && c)
and_tail a c = ap (λ b. b && c) (sym (and_nothing a))

fit_first : (n : FileNames) (x : FunctionExtent) (j : Jumps) (s : Statement) (k : tree.Statements) → are_fit_statements n x j (statement_then s k) ≡ (are_fit_statements n x j (statement_then s tree.Done) && are_fit_statements n x j k)
fit_first n x j (statement.Evaluate p e) k = and_tail (is_fit n x (view e.value)) (are_fit_statements n x j k)
fit_first n x j (statement.Initialise p offset size items) k = and_tail (is_fit_aggregate x offset size && list_all (is_fit_item n x) (view_settings items.items)) (are_fit_statements n x j k)
fit_first n x j (statement.Print p xs pieces) k = and_tail (are_fit n x (view_expressions xs.items) && list_all is_byte pieces.items) (are_fit_statements n x j k)
fit_first n x j (statement.If' p e b s c t) k = and_tail (is_fit n x (view e.value) && (are_fit_statements n x j (row_then s tree.Done) && are_fit_statements n x j (row_then t tree.Done))) (are_fit_statements n x j k)
fit_first n x j (statement.Loop' p test b body step) k = and_tail (is_fit_some n x (view_some test) && (are_fit_statements n x (loop_jumps j) (row_then body tree.Done) && is_fit_some n x (view_some step))) (are_fit_statements n x j k)
fit_first n x j (statement.Do' p b body test) k = and_tail (are_fit_statements n x (loop_jumps j) (row_then body tree.Done) && is_fit n x (view test.value)) (are_fit_statements n x j k)
fit_first n x j (statement.Switch' p e b arms) k = and_tail ((is_fit n x (view e.value) && is_word (count_arms (view_arms arms))) && are_fit_arms n x (switch_jumps j) (view_arms arms)) (are_fit_statements n x j k)
fit_first n x j (statement.Break p) k = and_tail (j.breaks) (are_fit_statements n x j k)
fit_first n x j (statement.Continue p) k = and_tail (j.continues) (are_fit_statements n x j k)
fit_first n x j (statement.Return p e) k = and_tail (j.returns && is_fit_some n x (view_some e)) (are_fit_statements n x j k)

pub statement_fit : (n : FileNames) (x : FunctionExtent) (j : Jumps) (xs : List Statement) (i : ℕ) (s : Statement) (b : Bool) → i < length xs → s ≡ get_or xs i s → are_fit_statements n x j (view_statements (drop i xs)) ≡ are_fit_statements n x j (view_statements xs) → b ≡ are_fit_statements n x j (statement_then s tree.Done) → (b && are_fit_statements n x j (view_statements (drop (i + 1) xs))) ≡ are_fit_statements n x j (view_statements xs)
statement_fit n x j xs i s b lt is h e =
    ap (λ c. c && are_fit_statements n x j (view_statements (drop (i + 1) xs))) e ∙ sym (fit_first n x j s (view_statements (drop (i + 1) xs))) ∙ sym (ap (are_fit_statements n x j) (statements_at xs i s lt is)) ∙ h

pub if_fit : (n : FileNames) (x : FunctionExtent) (j : Jumps) (p : Place) (a : Box Expression Global) (s t : Vec Statement Global) (u v w : Bool) → u ≡ is_fit n x (view a.value) → v ≡ are_fit_statements n x j (view_statements s.items) → w ≡ are_fit_statements n x j (view_statements t.items) → (u && (v && w)) ≡ are_fit_statements n x j (statement_then (statement.If p a s t) tree.Done)
if_fit n x j p a s t u v w d e f =
    ap (λ z. z && (v && w)) d ∙ ap (λ z. is_fit n x (view a.value) && (z && w)) e ∙ ap (λ z. is_fit n x (view a.value) && (are_fit_statements n x j (view_statements s.items) && z)) f
    ∙ sym (and_nothing (is_fit n x (view a.value) && (are_fit_statements n x j (view_statements s.items) && are_fit_statements n x j (view_statements t.items)))) ∙ sym (ap (are_fit_statements n x j) (view_if p a s t tree.Done))

pub loop_fit : (n : FileNames) (x : FunctionExtent) (j : Jumps) (p : Place) (test : Option (Box Expression Global)) (s : Vec Statement Global) (step : Option (Box Expression Global)) (u v w : Bool) → u ≡ is_fit_some n x (view_some test) → v ≡ are_fit_statements n x (loop_jumps j) (view_statements s.items) → w ≡ is_fit_some n x (view_some step) → (u && (v && w)) ≡ are_fit_statements n x j (statement_then (statement.Loop p test s step) tree.Done)
loop_fit n x j p test s step u v w d e f =
    ap (λ z. z && (v && w)) d ∙ ap (λ z. is_fit_some n x (view_some test) && (z && w)) e ∙ ap (λ z. is_fit_some n x (view_some test) && (are_fit_statements n x (loop_jumps j) (view_statements s.items) && z)) f
    ∙ sym (and_nothing (is_fit_some n x (view_some test) && (are_fit_statements n x (loop_jumps j) (view_statements s.items) && is_fit_some n x (view_some step)))) ∙ sym (ap (are_fit_statements n x j) (view_loop p test s step tree.Done))

pub do_fit : (n : FileNames) (x : FunctionExtent) (j : Jumps) (p : Place) (s : Vec Statement Global) (test : Box Expression Global) (u v : Bool) → u ≡ are_fit_statements n x (loop_jumps j) (view_statements s.items) → v ≡ is_fit n x (view test.value) → (u && (v && true)) ≡ are_fit_statements n x j (statement_then (statement.Do p s test) tree.Done)
do_fit n x j p s test u v d e =
    ap (λ z. u && z) (and_nothing v ∙ e) ∙ ap (λ z. z && is_fit n x (view test.value)) d
    ∙ sym (and_nothing (are_fit_statements n x (loop_jumps j) (view_statements s.items) && is_fit n x (view test.value))) ∙ sym (ap (are_fit_statements n x j) (view_do p s test tree.Done))

pub switch_fit : (n : FileNames) (x : FunctionExtent) (j : Jumps) (p : Place) (a : Box Expression Global) (arms : Vec Arm Global) (u v w : Bool) → u ≡ is_fit n x (view a.value) → v ≡ is_word (count_arms (arms_of arms.items)) → w ≡ are_fit_arms n x (switch_jumps j) (arms_of arms.items) → (u && (v && w)) ≡ are_fit_statements n x j (statement_then (statement.Switch p a arms) tree.Done)
switch_fit n x j p a arms u v w d e f =
    and_along u v w ∙ ap (λ z. (z && v) && w) d ∙ ap (λ z. (is_fit n x (view a.value) && z) && w) e ∙ ap (λ z. (is_fit n x (view a.value) && is_word (count_arms (arms_of arms.items))) && z) f
    ∙ sym (and_nothing ((is_fit n x (view a.value) && is_word (count_arms (arms_of arms.items))) && are_fit_arms n x (switch_jumps j) (arms_of arms.items))) ∙ sym (ap (are_fit_statements n x j) (view_switch p a arms tree.Done))

-- ---- lists of numbers

pub none_left : (fs : List TypedFunction) → nat_eq (length fs) 0 ≡ same_numbers (routines_in fs) []
none_left [] = refl
none_left (f ∷ fs) = grind (arith, nat_tests)

pub counts_on : (f : FileParts) (done : List (Option ℕ)) (xs : List Routine) (r n : ℕ) → r < length xs → used_counts f done n (drop r xs) ≡ used_counts f (done ++ used_count f n ∷ []) (n + 1) (drop (r + 1) xs)
counts_on f done [] r n h = absurd (omega arith)
counts_on f done (x ∷ xs) zero n h = let e : n + 1 ≡ suc n = omega arith in rw e refl
counts_on f done (x ∷ xs) (suc r) n h = let e : suc r + 1 ≡ suc (r + 1) = omega arith in rw e (counts_on f done xs r n (omega arith))

-- ---- lists of parameters

length_last : (xs : List ℕ) (x : ℕ) → length (xs ++ x ∷ []) ≡ suc (length xs)
length_last [] x = refl
length_last (y ∷ ys) x = ap suc (length_last ys x)

one_longer : (k : ℕ) (s : Tables) (x y : Shape) → shorter s x ≡ Some y → length (parameters_from (suc k) s x) ≡ suc (length (parameters_from k s y))
one_longer k s (shape.Parameter before t) y h =
    let e : shape_of s before ≡ y = cc in
    length_last (parameters_from k s (shape_of s before)) t ∙ ap (λ z. suc (length (parameters_from k s z))) e
one_longer k s x y h = absurd cc

none_longer : (k : ℕ) (s : Tables) (x : Shape) → shorter s x ≡ None → length (parameters_from (suc k) s x) ≡ 0
none_longer k s (shape.Parameter before t) h = absurd cc
none_longer k s x h = refl

pub count_more : (s : Tables) (x y : Shape) (n i total : ℕ) → i < n → shorter s x ≡ Some y → i + length (parameters_from (n - i) s x) ≡ total → (i + 1) + length (parameters_from (n - (i + 1)) s y) ≡ total
count_more s x y n i total lt h g =
    let more : n - i ≡ suc (n - (i + 1)) = omega (arith, lt) in
    let here : length (parameters_from (n - i) s x) ≡ suc (length (parameters_from (n - (i + 1)) s y)) = ap (λ k. length (parameters_from k s x)) more ∙ one_longer (n - (i + 1)) s x y h in
    omega (arith, here, g)

pub count_ends : (s : Tables) (x : Shape) (n i total : ℕ) → i < n → shorter s x ≡ None → i + length (parameters_from (n - i) s x) ≡ total → i ≡ total
count_ends s x n i total lt h g =
    let more : n - i ≡ suc (n - (i + 1)) = omega (arith, lt) in
    let here : length (parameters_from (n - i) s x) ≡ 0 = ap (λ k. length (parameters_from k s x)) more ∙ none_longer (n - (i + 1)) s x h in
    omega (arith, here, g)
