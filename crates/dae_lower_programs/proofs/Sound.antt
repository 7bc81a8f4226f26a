-- Parts of statements whose arms words number.
use Rattle.std.proofs.Common.{◌≡◌, ℕ, zero, suc, ◌<◌, ◌^◌, true, ◌&&◌, List, [], ◌∷◌, length, get_or, refl, ap, sym, subst, arith}
use Rattle.std.proofs.lemmas.Bool.{and_from, ltb-true}
use Rattle.std.specs.List.{list_all}
use Rattle.std.specs.Prelude.{Bool, Option}
use Rattle.dae_base.proofs.Laws.{and_first, and_second}
use Rattle.dae_base.specs.declared.Place.{Place}
use Rattle.dae_lower_programs.specs.Sound.{AreArmsSound, AreSound}
use Rattle.dae_program.specs.Lawful.{FunctionBounds, are_sound_arms, are_sound_statements, is_label_word, is_sound, is_sound_some, is_word}
use Rattle.dae_program.specs.Switches.{count_arms}
use Rattle.dae_program.specs.Trees as tree
use Rattle.dae_program.specs.Trees.{Expression, Statements}
use Rattle.dae_program.specs.Views.{arms_of, row_then, statement_then, view, view_some, view_statements}
use Rattle.dae_program.specs.declared.statements.Arm.{Arm}
use Rattle.dae_program.specs.declared.statements.Statement.{Statement}
use Rattle.dae_program.specs.declared.statements.Statement.TheVariants as statement

-- ---- a statement, and those behind it

-- of three, and of four
third : (a b c : Bool) → (a && (b && c)) ≡ true → (a && (b && true)) ≡ true × (c ≡ true)
third a b c h = (and_from a (b && true) (and_first a (b && c) h) (and_from b true (and_first b c (and_second a (b && c) h)) refl), and_second b c (and_second a (b && c) h))

fourth : (a b c d : Bool) → (a && (b && (c && d))) ≡ true → ((a && (b && (c && true))) ≡ true) × (d ≡ true)
fourth a b c d h =
    let g = third b c d (and_second a (b && (c && d)) h) in (and_from a (b && (c && true)) (and_first a (b && (c && d)) h) g.0, g.1)

second : (a b : Bool) → (a && b) ≡ true → ((a && true) ≡ true) × (b ≡ true)
second a b h = (and_from a true (and_first a b h) refl, and_second a b h)

split : (b : FunctionBounds) (s : Statement) (k : Statements) → are_sound_statements b (statement_then s k) ≡ true → (are_sound_statements b (statement_then s tree.Done) ≡ true) × (are_sound_statements b k ≡ true)
split b (statement.Evaluate p e) k h = second _ (are_sound_statements b k) h
split b (statement.Initialise p offset size items) k h = third _ _ (are_sound_statements b k) h
split b (statement.Print p xs pieces) k h = second _ (are_sound_statements b k) h
split b (statement.If' p e n s m t) k h = fourth (is_sound b (view e.value)) (are_sound_statements b (row_then s tree.Done)) (are_sound_statements b (row_then t tree.Done)) (are_sound_statements b k) h
split b (statement.Loop' p test n body step) k h = fourth (is_sound_some b (view_some test)) (are_sound_statements b (row_then body tree.Done)) (is_sound_some b (view_some step)) (are_sound_statements b k) h
split b (statement.Do' p n body test) k h = third _ _ (are_sound_statements b k) h
split b (statement.Switch' p e n arms) k h = third _ _ (are_sound_statements b k) h
split b (statement.Break p) k h = (refl, h)
split b (statement.Continue p) k h = (refl, h)
split b (statement.Return p e) k h = second _ (are_sound_statements b k) h

by_bounds : (b : FunctionBounds) (xs : List Statement) (i : ℕ) (s : Statement) → i < length xs → s ≡ get_or xs i s → are_sound_statements b (view_statements xs) ≡ true → are_sound_statements b (statement_then s tree.Done) ≡ true
by_bounds b [] i s lt is h = absurd (omega (arith, lt))
by_bounds b (x ∷ xs) zero s lt is h = subst (λ (y : Statement). are_sound_statements b (statement_then y tree.Done) ≡ true) (sym is) (split b x (view_statements xs) h).0
by_bounds b (x ∷ xs) (suc i) s lt is h = by_bounds b xs i s (omega (arith, lt)) is (split b x (view_statements xs) h).1

pub sound_at : (xs : List Statement) (i : ℕ) (s : Statement) → i < length xs → s ≡ get_or xs i s → AreSound (view_statements xs) → AreSound (statement_then s tree.Done)
sound_at xs i s lt is h = record { bounds = h.bounds; sound = by_bounds h.bounds xs i s lt is h.sound }

-- ---- parts

pub yes_sound : {p : Place} {e : Expression} {t u k : Statements} → AreSound (tree.If p e t u k) → AreSound t
yes_sound h = record { bounds = h.bounds; sound = and_first _ _ (and_second _ _ h.sound) }

pub no_sound : {p : Place} {e : Expression} {t u k : Statements} → AreSound (tree.If p e t u k) → AreSound u
no_sound h = record { bounds = h.bounds; sound = and_first _ _ (and_second _ _ (and_second _ _ h.sound)) }

pub turn_sound : {p : Place} {test step : Option Expression} {t k : Statements} → AreSound (tree.Loop p test t step k) → AreSound t
turn_sound h = record { bounds = h.bounds; sound = and_first _ _ (and_second _ _ h.sound) }

pub done_sound : {p : Place} {e : Expression} {t k : Statements} → AreSound (tree.Do p t e k) → AreSound t
done_sound h = record { bounds = h.bounds; sound = and_first _ _ h.sound }

pub arms_sound : {p : Place} {e : Expression} {arms : tree.Arms} {k : Statements} → AreSound (tree.Switch p e arms k) → AreArmsSound arms
arms_sound {p} {e} {arms} {k} h = record {
  few = ltb-true (count_arms arms) (2 ^ 32) (and_second (is_sound h.bounds e) _ (and_first (is_sound h.bounds e && is_word (count_arms arms)) _ h.sound));
  bounds = h.bounds;
  sound = and_first _ _ (and_second (is_sound h.bounds e && is_word (count_arms arms)) _ h.sound);
}

-- ---- arms

counted : (xs : List Arm) → count_arms (arms_of xs) ≡ length xs
counted [] = refl
counted (a ∷ xs) = ap suc (counted xs)

pub few_arms : (xs : List Arm) → AreArmsSound (arms_of xs) → length xs < 2 ^ 32
few_arms xs h = subst (λ (n : ℕ). n < 2 ^ 32) (counted xs) h.few

arm_by : (b : FunctionBounds) (xs : List Arm) (i : ℕ) (a : Arm) → i < length xs → a ≡ get_or xs i a → are_sound_arms b (arms_of xs) ≡ true → are_sound_statements b (view_statements a.statements.items) ≡ true
arm_by b [] i a lt is h = absurd (omega (arith, lt))
arm_by b (x ∷ xs) zero a lt is h = subst (λ (y : Arm). are_sound_statements b (view_statements y.statements.items) ≡ true) (sym is) (and_first _ _ (and_second (list_all is_label_word x.labels.items) _ h))
arm_by b (x ∷ xs) (suc i) a lt is h = arm_by b xs i a (omega (arith, lt)) is (and_second _ _ (and_second (list_all is_label_word x.labels.items) _ h))

pub arm_sound : (xs : List Arm) (i : ℕ) (a : Arm) → i < length xs → a ≡ get_or xs i a → AreArmsSound (arms_of xs) → AreSound (view_statements a.statements.items)
arm_sound xs i a lt is h = record { bounds = h.bounds; sound = arm_by h.bounds xs i a lt is h.sound }
