-- The lists inside of a step are no deeper than it, which is why the walk ends.
use Rattle.std.proofs.Common.{◌≡◌, ℕ, zero, suc, ◌+◌, ◌*◌, ◌<◌, ◌≤◌, List, [], ◌∷◌, length, drop, get_or, sym, subst, arith}
use Rattle.std.specs.Prelude.{Vec}
use Rattle.std.specs.declared.alloc.Global.{Global}
use denote.Param.Weighed.{most, at_most}
use Rattle.dae_ir.proofs.stream.Step.TheLaws.{the_size}
use Rattle.dae_ir.specs.declared.stream.Mark.{Mark}
use Rattle.dae_ir.specs.declared.stream.Branch.{Branch}
use Rattle.dae_ir.specs.declared.stream.Step.{Step}
use Rattle.dae_ir.specs.declared.stream.Step.TheVariants as step
use Rattle.dae_ir.specs.declared.stream.Step.TheViews.{the_lemmas}

abbrev pub deepest : List Step → ℕ
deepest xs = most (λ (x : Step). the_size x) xs

pub first_in_if : (m : Mark) (t : Branch) (p q : Vec Step Global) (s : Step) → s ≡ step.If m t p q → deepest p.items < the_size s
first_in_if m t p q s e = grind (arith, the_lemmas)

pub second_in_if : (m : Mark) (t : Branch) (p q : Vec Step Global) (s : Step) → s ≡ step.If m t p q → deepest q.items < the_size s
second_in_if m t p q s e = grind (arith, the_lemmas)

pub first_in_loop : (m : Mark) (p q : Vec Step Global) (s : Step) → s ≡ step.Loop m p q → deepest p.items < the_size s
first_in_loop m p q s e = grind (arith, the_lemmas)

pub second_in_loop : (m : Mark) (p q : Vec Step Global) (s : Step) → s ≡ step.Loop m p q → deepest q.items < the_size s
second_in_loop m p q s e = grind (arith, the_lemmas)

-- the measures of the walk's two functions
pub list_below : (xs ys : List Step) (s : Step) → xs ≡ ys → deepest ys < the_size s → 2 * deepest xs + 1 < 2 * the_size s + 0
list_below xs ys s e lt = rw e (omega (arith, lt))

pub step_below : (xs : List Step) (i : ℕ) (s : Step) → i < length xs → s ≡ get_or xs i s → 2 * the_size s + 0 < 2 * deepest xs + 1
step_below xs i s lt e =
    let h : the_size s ≤ deepest xs = subst (λ (z : Step). the_size z ≤ deepest xs) (sym e) (at_most (λ (x : Step). the_size x) xs i s lt) in
    omega (arith, h)

-- what is left of a list is no deeper
pub drop_below : (xs : List Step) (n : ℕ) → deepest (drop n xs) ≤ deepest xs
drop_below [] zero = omega arith
drop_below [] (suc n) = omega arith
drop_below (x ∷ xs) zero = omega arith
drop_below (x ∷ xs) (suc n) = (let h = drop_below xs n in omega arith)

pub rest_below : (xs ys : List Step) (n : ℕ) (s : Step) → xs ≡ drop n ys → deepest ys < the_size s → 2 * deepest xs + 1 < 2 * the_size s + 0
rest_below xs ys n s e lt = (let h = drop_below ys n in rw e (omega (arith, lt, h)))
