-- Where 32 bits can't count what a report counts of a form, what bounds its code is beyond what an image can have.
use Rattle.std.proofs.Common.{◌≡◌, ◌^◌, ◌<◌, ◌≤◌, Bool, true, false, List, [], ◌∷◌, refl, arith}
use Rattle.std.specs.List.{list_all}
use Rattle.std.proofs.lemmas.Bool.Decides.{nat_tests}
use Rattle.dae_ir.specs.Code.{Done, Do, If, Loop}
use Rattle.dae_ir.specs.Form.{Form, form_of}
use Rattle.dae_ir.specs.Sizes.{form_size, item_weight}
use Rattle.dae_ir.specs.declared.form.Function.{Function}
use Rattle.dae_ir.specs.declared.form.Ir.{Ir}
use Rattle.dae_ir.specs.declared.form.Item.{Item}
use Rattle.dae_ir.specs.declared.form.Item.TheVariants.{Call}
use Rattle.dae_report.specs.Counting.{is_countable, parts_of_form}
use Rattle.dae_compile.specs.Generated.{words_of_form, words_of_functions}

heavy : (x : Item) → 1 ≤ item_weight x
heavy (Call v f xs) = omega arith
heavy x = omega arith

-- each item and each condition weighs at least 1
parts_weigh : (code : Form) → parts_of_form code ≤ form_size code
parts_weigh Done = omega arith
parts_weigh (Do mark x k) = let h = heavy x in let r = parts_weigh k in omega (arith, h, r)
parts_weigh (If mark test p q k) = let a = parts_weigh p in let b = parts_weigh q in let r = parts_weigh k in omega (arith, a, b, r)
parts_weigh (Loop mark body step k) = let a = parts_weigh body in let b = parts_weigh step in let r = parts_weigh k in omega (arith, a, b, r)

too_many : (fs : List Function) → list_all is_countable fs ≡ false → 2 ^ 25 < words_of_functions fs
too_many [] none = cc
too_many (f ∷ fs) none = by (is_countable f) refl (too_many fs)
  where
    by : (b : Bool) → is_countable f ≡ b → (list_all is_countable fs ≡ false → 2 ^ 25 < words_of_functions fs) → 2 ^ 25 < words_of_functions (f ∷ fs)
    by true is later = (let rest = later (rw is at none) in omega (arith, rest))
    by false is later =
        let most : 2 ^ 32 ≤ parts_of_form (form_of f.body) = grind (arith, nat_tests) in
        let weigh = parts_weigh (form_of f.body) in
        omega (arith, most, weigh)

pub uncounted : (ir : Ir) → list_all is_countable ir.functions ≡ false → 2 ^ 25 < words_of_form ir
uncounted ir none = let h = too_many ir.functions none in omega (arith, h)
