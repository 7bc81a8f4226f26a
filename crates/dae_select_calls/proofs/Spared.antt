-- The registers that a call keeps are those of what it might change.
use Rattle.std.proofs.Common.{◌≡◌, ℕ, zero, suc, Bool, true, false, ◌&&◌, ◌||◌, List, [], ◌∷◌, refl, ap, sym, ◌∙◌, arith}
use Rattle.std.proofs.Math.Path.{fun_ext}
use Rattle.std.specs.Prelude.{nat_eq, not, if◌then◌else◌}
use Rattle.std.proofs.lemmas.Bool.Decides.{nat_tests}
use Rattle.dae_base.proofs.Laws.{and_false, and_nothing}
use Rattle.dae_ir.specs.Classes.{VariableSet}
use Rattle.dae_select_walks.specs.Agrees.{Plan}
use Rattle.dae_select_walks.specs.declared.Home.{Home}
use Rattle.dae_select_walks.specs.declared.Home.TheVariants.{Register, Slot}
use Rattle.dae_select_blocks.specs.Blocks.{is_register}
use Rattle.dae_select_blocks.specs.Code.{some_below, filtered, home_registers, registers_in, is_spared, unspared}

filtered_twice : (f g : ℕ → Bool) (rs : List ℕ) → filtered g (filtered f rs) ≡ filtered (λ r. f r && g r) rs
filtered_twice f g [] = refl
filtered_twice f g (r ∷ rs) = by (f r) (filtered_twice f g rs)
  where
    by : (b : Bool) → filtered g (filtered f rs) ≡ filtered (λ r. f r && g r) rs → filtered g (if b then r ∷ filtered f rs else filtered f rs) ≡ (if (b && g r) then r ∷ filtered (λ r. f r && g r) rs else filtered (λ r. f r && g r) rs)
    by true rest = ap (λ (xs : List ℕ). if g r then r ∷ xs else xs) rest
    by false rest = rest

-- ---- of one register

both_or : (a b c : Bool) → ((a || b) && c) ≡ (a && c) || (b && c)
both_or true b true = refl
both_or true true false = refl
both_or true false false = refl
both_or false b c = refl

one_unspared : (spared : ℕ → Bool) (r : ℕ) (b : Bool) (home : Home) → ((b && is_register r home) && not (spared r)) ≡ (b && not (is_spared spared home)) && is_register r home
one_unspared spared r false home = refl
one_unspared spared r true (Slot i) = refl
one_unspared spared r true (Register q) = by (nat_eq r q) refl
  where
    by : (t : Bool) → nat_eq r q ≡ t → (t && not (spared r)) ≡ (not (spared q) && t)
    by true e = let same : r ≡ q = grind (arith, nat_tests) in ap (λ (x : ℕ). not (spared x)) same ∙ sym (and_nothing (not (spared q)))
    by false e = sym (and_false (not (spared q)))

some_unspared : (spared : ℕ → Bool) (r n : ℕ) (live : VariableSet) (home : ℕ → Home) → (some_below n (λ v. live v && is_register r (home v)) && not (spared r)) ≡ some_below n (λ v. (live v && not (is_spared spared (home v))) && is_register r (home v))
some_unspared spared r zero live home = refl
some_unspared spared r (suc n) live home =
    both_or (live n && is_register r (home n)) (some_below n (λ v. live v && is_register r (home v))) (not (spared r))
    ∙ ap (λ (b : Bool). b || (some_below n (λ v. live v && is_register r (home v)) && not (spared r))) (one_unspared spared r (live n) (home n))
    ∙ ap (λ (b : Bool). ((live n && not (is_spared spared (home n))) && is_register r (home n)) || b) (some_unspared spared r n live home)

pub registers_unspared : (plan : Plan) (f g n : ℕ) (live : VariableSet) → filtered (λ r. not (plan.spares g r)) (registers_in (plan.home f) n live) ≡ registers_in (plan.home f) n (unspared plan f g live)
unfolding registers_in
registers_unspared plan f g n live =
    filtered_twice (λ r. some_below n (λ v. live v && is_register r (plan.home f v))) (λ r. not (plan.spares g r)) home_registers
    ∙ ap (λ (h : ℕ → Bool). filtered h home_registers) (fun_ext (λ r. some_unspared (plan.spares g) r n live (plan.home f)))
