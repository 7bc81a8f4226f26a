-- A part on top of a stack, the part at its bottom, and lists of one initialiser.
use Rattle.std.proofs.Common.{arith, ◌≡◌, ℕ, List, [], ◌∷◌, ◌++◌, Bool, true, false, length, nat_eq, refl, ap, ◌∙◌, Option, Some, slice_get, ◌&&◌}
use Rattle.std.proofs.lemmas.Bool.Decides.{nat_tests}
use Rattle.std.proofs.lemmas.Option.{same_Some}
use Rattle.dae_tree.specs.FileViews.{view_initialiser, views_initialisers}
use Rattle.dae_tree.specs.declared.statements.Initialiser.{Initialiser}
use Rattle.dae_types_file_plans.specs.Initialisers.{Unfilled, Once, Elements, Members, begun_in, is_literal, is_one, is_one_literal}
use Rattle.dae_types_fills.specs.declared.slots.Unfilled.{Unfilled as RestInMemory}
use Rattle.dae_types_fills.specs.Slots.{view_rest, stacked, view_stack}

stacked_push : (xs : List RestInMemory) (x : RestInMemory) (rest : List Unfilled) → stacked (xs ++ x ∷ []) rest ≡ view_rest x ∷ stacked xs rest
stacked_push [] x rest = refl
stacked_push (y ∷ xs) x rest = stacked_push xs x (view_rest y ∷ rest)

pub stack_push : (xs : List RestInMemory) (x : RestInMemory) → view_stack (xs ++ x ∷ []) ≡ view_rest x ∷ view_stack xs
stack_push xs x = stacked_push xs x []

-- parts above a stack that isn't empty don't count
begun_below : (x r : Unfilled) (rest : List Unfilled) (n : ℕ) → begun_in (x ∷ r ∷ rest) n ≡ begun_in (r ∷ rest) n
begun_below (Once o t) r rest n = refl
begun_below (Elements o t k count) r rest n = refl
begun_below (Members o k b) r rest n = refl

begun_stacked : (xs : List RestInMemory) (r : Unfilled) (rest : List Unfilled) (n : ℕ) → begun_in (stacked xs (r ∷ rest)) n ≡ begun_in (r ∷ rest) n
begun_stacked [] r rest n = refl
begun_stacked (x ∷ xs) r rest n = begun_stacked xs (view_rest x) (r ∷ rest) n ∙ begun_below (view_rest x) r rest n

-- what was begun in one part alone
abbrev begun_of : RestInMemory → ℕ → ℕ
begun_of x n = begun_in (view_rest x ∷ []) n

pub begun_at_the_bottom : (xs : List RestInMemory) (x : RestInMemory) (n : ℕ) → slice_get xs 0 ≡ Some x → begun_in (view_stack xs) n ≡ begun_of x n
begun_at_the_bottom [] x n h = absurd cc
begun_at_the_bottom (y ∷ xs) x n h = begun_stacked xs (view_rest y) [] n ∙ ap (λ z. begun_of z n) (same_Some y x h)

pub one_of_length : (xs : List Initialiser) → nat_eq (length xs) 1 ≡ is_one (views_initialisers xs)
one_of_length [] = refl
one_of_length (x ∷ []) = refl
one_of_length (x ∷ y ∷ xs) = grind (arith, nat_tests)

pub first_literal : (xs : List Initialiser) (x : Initialiser) → slice_get xs 0 ≡ Some x → is_one_literal (views_initialisers xs) ≡ is_one (views_initialisers xs) && is_literal (view_initialiser x)
first_literal [] x h = absurd cc
first_literal (y ∷ []) x h = ap (λ z. is_literal (view_initialiser z)) (same_Some y x h)
first_literal (y ∷ z ∷ xs) x h = refl
