-- The lists inside of a statement are no deeper than it, which is why the walk ends.
use Rattle.std.proofs.Common.{◌≡◌, ℕ, ◌+◌, ◌*◌, ◌<◌, List, length, get_or, arith, ap}
use Rattle.std.specs.Prelude.{Vec}
use Rattle.std.specs.declared.alloc.Global.{Global}
use denote.Param.Weighed.{most, at_most}
use Rattle.dae_base.specs.declared.Place.{Place}
use Rattle.dae_ir.proofs.form.Statement.TheLaws.{the_size}
use Rattle.dae_ir.specs.declared.form.Test.{Test}
use Rattle.dae_ir.specs.declared.form.Statement.{Statement}
use Rattle.dae_ir.specs.declared.form.Statement.TheVariants as statement
use Rattle.dae_ir.specs.declared.form.Statement.TheViews.{the_lemmas}

abbrev pub deepest : List Statement → ℕ
deepest xs = most (λ (x : Statement). the_size x) xs

pub first_in_if : (m : Place) (t : Test) (p q : Vec Statement Global) (s : Statement) → s ≡ statement.If m t p q → deepest p.items < the_size s
first_in_if m t p q s e = grind (arith, the_lemmas)

pub second_in_if : (m : Place) (t : Test) (p q : Vec Statement Global) (s : Statement) → s ≡ statement.If m t p q → deepest q.items < the_size s
second_in_if m t p q s e = grind (arith, the_lemmas)

pub first_in_loop : (m : Place) (p q : Vec Statement Global) (s : Statement) → s ≡ statement.Loop m p q → deepest p.items < the_size s
first_in_loop m p q s e = grind (arith, the_lemmas)

pub second_in_loop : (m : Place) (p q : Vec Statement Global) (s : Statement) → s ≡ statement.Loop m p q → deepest q.items < the_size s
second_in_loop m p q s e = grind (arith, the_lemmas)

-- the measures of the walk's two functions
pub list_below : (xs ys : List Statement) (s : Statement) → xs ≡ ys → deepest ys < the_size s → 2 * deepest xs + 1 < 2 * the_size s + 0
list_below xs ys s e lt = rw e (omega (arith, lt))

pub item_below : (xs : List Statement) (i : ℕ) (s : Statement) → i < length xs → s ≡ get_or xs i s → 2 * the_size s + 0 < 2 * deepest xs + 1
item_below xs i s lt e =
    let h = at_most (λ (x : Statement). the_size x) xs i s lt in
    let k = ap (λ (x : Statement). the_size x) e in
    omega (arith, h, k)
