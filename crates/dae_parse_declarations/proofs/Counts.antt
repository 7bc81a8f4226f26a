-- How many tokens a file has up to a place, and which of its definitions is the first with too many.
use Rattle.std.proofs.Common.{◌≡◌, ℕ, ◌+◌, ◌-◌, Bool, true, false, List, [], ◌∷◌, ◌++◌, length, Option, Some, None, ltb, refl, sym, ap, ◌∙◌, arith}
use Rattle.std.specs.Prelude.{if◌then◌else◌}
use Rattle.dae_base.specs.declared.Place.{Place}
use Rattle.dae_tree.specs.Marks.{TokenMark}
use Rattle.dae_tree.specs.Statements.{spell_external}
use Rattle.dae_tree.specs.Trees.{Specifiers, Declarator, Declaration, Statements, External, Declared, Defined}
use Rattle.dae_tree.specs.Depth.{is_too_long, place_of_external, place_of_specifiers, first_too_long}
use Rattle.dae_parse_grammar.specs.FirstPlaces.{or_else}
use Rattle.dae_parse_grammar.specs.Machine.{onto}
use Rattle.dae_parse_grammar.specs.Taken.{externals_before}
use Rattle.dae_parse_grammar.proofs.Laws.{length_adds, onto_last}

pub externals_add : (xs : List External) (ts : List TokenMark) → length (externals_before xs ts) ≡ length (externals_before xs []) + length ts
externals_add [] ts = omega arith
externals_add (x ∷ xs) ts = omega (arith, externals_add xs (spell_external x ts), externals_add xs (spell_external x []), length_adds x ts)

-- what is left is taken from the whole
pub taken_of : (xs : List External) (ts : List TokenMark) (total : ℕ) → length (externals_before xs ts) ≡ total → total - length ts ≡ length (externals_before xs [])
taken_of xs ts total h = omega (arith, h, externals_add xs ts)

-- and what was taken before
pub length_of : (x : External) (xs : List External) (ts : List TokenMark) (total : ℕ) → length (externals_before (x ∷ xs) ts) ≡ total
    → total - length ts - length (externals_before xs []) ≡ length (spell_external x [])
length_of x xs ts total h = omega (arith, h, externals_add (x ∷ xs) ts, externals_add xs (spell_external x []))

-- ---- the first definition with too many tokens

abbrev pub alone : External → Option Place
alone x = if is_too_long x then Some (place_of_external x) else None

later_by : (is : Bool) (p : Place) (a b c : Option Place) → a ≡ or_else b c → (if is then Some p else a) ≡ or_else (if is then Some p else b) c
later_by true p a b c h = refl
later_by false p a b c h = h

later_too_long : (xs : List External) (x : External) → first_too_long (xs ++ x ∷ []) ≡ or_else (first_too_long xs) (alone x)
later_too_long [] x = refl
later_too_long (y ∷ xs) x = later_by (is_too_long y) (place_of_external y) (first_too_long (xs ++ x ∷ [])) (first_too_long xs) (alone x) (later_too_long xs x)

pub last_too_long : (xs : List External) (x : External) → first_too_long (onto (x ∷ xs) []) ≡ or_else (first_too_long (onto xs [])) (alone x)
last_too_long xs x = ap first_too_long (onto_last xs x) ∙ later_too_long (onto xs []) x

or_nothing : (p : Option Place) → p ≡ or_else p None
or_nothing None = refl
or_nothing (Some p) = refl

-- a declaration is not too long
pub declared_too_long : (xs : List External) (d : Declaration) (before : Option Place) → before ≡ first_too_long (onto xs []) → before ≡ first_too_long (onto (Declared d ∷ xs) [])
declared_too_long xs d before h = h ∙ or_nothing (first_too_long (onto xs [])) ∙ sym (last_too_long xs (Declared d))

by_cases : (before place : Option Place) → elim before [ None ↦ place | Some q ↦ Some q ] ≡ or_else before place
by_cases None place = refl
by_cases (Some q) place = refl

-- a definition may be
pub defined_too_long : (xs : List External) (ws : Specifiers) (d : Declarator) (p : Place) (ds : List Declaration) (ss : Statements) (before result place : Option Place) (n : ℕ) → before ≡ first_too_long (onto xs [])
    → n ≡ length (spell_external (Defined ws d p ds ss) []) → place ≡ Some (place_of_specifiers ws p) → result ≡ elim before [ None ↦ (if ltb 8192 n then place else None) | Some q ↦ Some q ]
    → result ≡ first_too_long (onto (Defined ws d p ds ss ∷ xs) [])
defined_too_long xs ws d p ds ss before result place n hb hn hp hr =
    hr ∙ by_cases before (if ltb 8192 n then place else None) ∙ ap (λ (b : Option Place). or_else b (if ltb 8192 n then place else None)) hb
    ∙ ap (λ (m : ℕ). or_else (first_too_long (onto xs [])) (if ltb 8192 m then place else None)) hn
    ∙ ap (λ (q : Option Place). or_else (first_too_long (onto xs [])) (if ltb 8192 (length (spell_external (Defined ws d p ds ss) [])) then q else None)) hp
    ∙ sym (last_too_long xs (Defined ws d p ds ss))
