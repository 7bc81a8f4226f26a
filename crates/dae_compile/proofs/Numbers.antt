-- Words number the variables of a program's functions, where no definition is too long.
use Rattle.std.proofs.Common.{◌≡◌, ℕ, ◌+◌, ◌-◌, ◌*◌, ◌^◌, ◌<◌, ◌≤◌, Bool, true, false, nat_le, if◌then◌else◌, List, refl, sym, subst, arith}
use Rattle.std.proofs.lemmas.Bool.{leb-true}
use Rattle.std.specs.List.{AllByRecursion}
use Rattle.dae_base.proofs.Laws.{all_at}
use Rattle.dae_ir.specs.Code.{Done, Do, If, Loop, Each}
use Rattle.dae_ir.specs.Form.{Form}
use Rattle.dae_ir.specs.Scope.{ItemIn, TestIn}
use Rattle.dae_ir.specs.declared.form.Function.{Function as FormFunction}
use Rattle.dae_ir.specs.declared.form.Item.{Item}
use Rattle.dae_ir.specs.declared.form.Item.TheVariants.{Assign, Load, Store, Print, Expect, Break, Continue, Call, Return, Halt}
use Rattle.dae_tree.specs.Depth.{greatest_length}
use Rattle.dae_accept.specs.Origins.{IsOfFiles}
use Rattle.dae_lower_formed.specs.Formed.{form_variables, plain, FormsName}
use Rattle.dae_lower_formed.specs.Sizes.{most_made_in, most_made_of_slots, VariablesWithin}
use Rattle.dae_lower_maker.specs.Numbers.{late, late_in, late_item}
use Rattle.dae_lower_programs.specs.Functions.{HaveNumbers}
use Rattle.dae_program.specs.Views.{view_statements}
use Rattle.dae_program.specs.declared.program.Function.{Function}
use Rattle.dae_program.specs.declared.program.Program.{Program}
use Rattle.dae_sizes.specs.Promise.{DefinitionsAreShort, FunctionsAreWithin}

early : (v : ℕ) → v + 2 < 2 ^ 32 - 1 → late v ≡ 0
early v lt = by (nat_le (2 ^ 32 - 1) (v + 2)) refl where
  by : (b : Bool) → nat_le (2 ^ 32 - 1) (v + 2) ≡ b → ◌≡◌ {A = ℕ} (if b then 1 else 0) 0
  by true e = let le = leb-true (2 ^ 32 - 1) (v + 2) e in absurd (omega (arith, lt, le))
  by false e = refl

item_early : (functions : List FormFunction) (n : ℕ) (item : Item) → n + 2 < 2 ^ 32 - 1 → ItemIn functions n item → late_item item ≡ 0
item_early functions n (Assign v x) few h = let target = h.0 in let low = target.1 in early v (omega (arith, few, low))
item_early functions n (Load v kind x) few h = let target = h.0 in let low = target.1 in early v (omega (arith, few, low))
item_early functions n (Store width x y) few h = refl
item_early functions n (Print spelling x) few h = refl
item_early functions n (Expect check) few h = refl
item_early functions n Break few h = refl
item_early functions n Continue few h = refl
item_early functions n (Call v f xs) few h = let target = h.0 in let low = target.1 in early v (omega (arith, few, low))
item_early functions n (Return x) few h = refl
item_early functions n (Halt x) few h = refl

code_early : (functions : List FormFunction) (n : ℕ) (code : Form) → n + 2 < 2 ^ 32 - 1 → Each (ItemIn functions n) (TestIn n) code → late_in code ≡ 0
code_early functions n Done few h = refl
code_early functions n (Do p item k) few h = let one = item_early functions n item few h.0 in let rest = code_early functions n k few h.1 in omega (arith, one, rest)
code_early functions n (If p t a b k) few h = let yes = code_early functions n a few h.1 in let no = code_early functions n b few h.2 in let rest = code_early functions n k few h.3 in omega (arith, yes, no, rest)
code_early functions n (Loop p a b k) few h = let body = code_early functions n a few h.0 in let step = code_early functions n b few h.1 in let rest = code_early functions n k few h.2 in omega (arith, body, step, rest)

abbrev HasFewOwn : Function → Type 0
HasFewOwn f = 7 + (f.variables + (most_made_of_slots f.parameters + most_made_in (view_statements f.body))) ≤ 4 * greatest_length

pub have_numbers : FormsName → VariablesWithin → FunctionsAreWithin → DefinitionsAreShort → (texts : List (List ℕ)) (p : Program) → IsOfFiles texts p → HaveNumbers p p.functions
have_numbers names more within short texts p o k f e =
    let all = subst (AllByRecursion HasFewOwn) (sym o.functions) (within o.files o.typed greatest_length o.from (short o.files o.typed o.from)) in
    let few = all_at HasFewOwn p.functions k f all e in
    let most = more f.place (plain p f) f.variables in
    let named = names p p.lawful k f e in
    (omega (arith, few), code_early named.0 (form_variables f.place (plain p f) f.variables) _ (omega (arith, few, most)) named.1)
