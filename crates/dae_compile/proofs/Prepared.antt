-- How large the code is that passes from form to form make, beside the lowered form's. Each pass before the reuse of loads has its
-- link here, by its law.
use Rattle.std.proofs.Common.{◌≡◌, ℕ, ◌+◌, ◌-◌, ◌*◌, ◌^◌, ◌<◌, ◌≤◌, true, false, List, [], ◌∷◌, inl, inr, refl, ap, sym, subst, arith}
use Rattle.std.proofs.lemmas.Bool.{lt-ltb}
use Rattle.std.specs.List.{AllByRecursion, list_all}
use Rattle.dae_ir.specs.Code.{Done, Do, If, Loop}
use Rattle.dae_ir.specs.Classes.{VariableSet, Classes, classes_of, rows_behind}
use Rattle.dae_ir.specs.Form.{Form, form_of}
use Rattle.dae_ir.specs.Sizes.{bit, form_size, is_load_into, item_weight}
use Rattle.dae_ir.specs.declared.form.Function.{Function}
use Rattle.dae_ir.specs.declared.form.Ir.{Ir}
use Rattle.dae_ir.specs.declared.form.Item.{Item}
use Rattle.dae_ir.specs.declared.form.Item.TheVariants.{Assign, Load, Store, Print, Expect, Break, Continue, Call, Return, Halt}
use Rattle.dae_ir.specs.declared.stream.Class.{Class}
use Rattle.dae_ir_pair.specs.Sizes.{burden, item_burden}
use Rattle.dae_alias.specs.Forms.{AreReused, IsReusedFunction, is_reusable}
use Rattle.dae_alias.specs.Laws.{ReuseStaysSmall}
use Rattle.dae_alias.specs.Reuse.{loads_in as reuse_loads, reused}
use Rattle.dae_alias.specs.Stretches.{nothing}
use Rattle.dae_commons.specs.Commoned.{commoned_code}
use Rattle.dae_commons.specs.Forms.{AreCommonedFunctions, IsCommonedFunction}
use Rattle.dae_commons.specs.Laws.{CommoningKeepsCounts, CountsAlike}
use Rattle.dae_hoist.specs.Forms.{IsHoistedOrSame, addresses_in, first_addresses, AreHoistedFunctions}
use Rattle.dae_hoist.specs.Laws.{HoistingKeepsSizes}
use Rattle.dae_elide.specs.Forms.{IsElidedFunction, AreElidedFunctions, IsElisionOf, ElisionKeepsSizes}
use Rattle.dae_threads.specs.Forms.{IsThreadedFunction, AreThreadedFunctions, IsThreadingOf}
use Rattle.dae_threads.specs.Laws.{CountsHeavy, ThreadingAddsNothing}
use Rattle.dae_webs.specs.Current.{own_webs}
use Rattle.dae_webs.specs.Renamed.{renamed_code}
use Rattle.dae_webs.specs.Forms.{IsRenamedOrSame, AreRenamedFunctions, IsRenamingOf}
use Rattle.dae_webs.specs.Laws.{IsBlind, RenamingKeepsSizes}
use Rattle.dae_lower_formed.specs.Code.{loaded_burden, loads_in}
use Rattle.dae_compile.specs.Generated.{calls_of_form, is_call}
use Rattle.dae_compile.specs.Compiled.{LeavesNumbers}
use Rattle.dae_compile.specs.Passes.{HasSumsAtAccesses, IsWithoutCommons}
use Rattle.dae_compile.specs.Sizes.{AreSmallBy, IsSmallBy}

-- ---- what code weighs

item_weighs : (x : Item) → 28 * item_weight x + 42 * bit (is_call x) ≡ 14 * item_burden x
item_weighs (Call v f xs) = omega arith
item_weighs x = omega arith

weighs : (code : Form) → 28 * form_size code + 42 * calls_of_form code ≡ 14 * burden code
weighs Done = refl
weighs (Do mark x k) = let h = item_weighs x in let g = weighs k in omega (arith, h, g)
weighs (If mark test p q k) = let h = weighs p in let g = weighs q in let f = weighs k in omega (arith, h, g, f)
weighs (Loop mark body step k) = let h = weighs body in let g = weighs step in let f = weighs k in omega (arith, h, g, f)

-- the loads of code, counted in two ways
same_loads : (code : Form) → reuse_loads code ≡ loads_in code
same_loads Done = refl
same_loads (Do mark (Load v kind x) k) = let h = same_loads k in omega (arith, h)
same_loads (Do mark item k) = let h = same_loads k in omega (arith, h)
same_loads (If mark test p q k) = let h = same_loads p in let g = same_loads q in let f = same_loads k in omega (arith, h, g, f)
same_loads (Loop mark body step k) = let h = same_loads body in let g = same_loads step in let f = same_loads k in omega (arith, h, g, f)

-- code that is as large, and has as many calls and loads, weighs the same
same_weight : (c d : Form) → form_size c ≡ form_size d → calls_of_form c ≡ calls_of_form d → loads_in c ≡ loads_in d → loaded_burden c ≡ loaded_burden d
same_weight c d size calls loads = let w = weighs c in let z = weighs d in omega (arith, size, calls, loads, w, z)

-- ---- before loads are reused

-- a function that passes made of the lowered one: it weighs no more, has no more loads, and at most one variable more for every
-- second one beyond 9
pub record IsPrepared (f g : Function) : Type 0 where
  pub burden : loaded_burden (form_of g.body) ≤ loaded_burden (form_of f.body)
  pub loads : loads_in (form_of g.body) ≤ loads_in (form_of f.body)
  pub variables : 2 * g.variables ≤ 2 * f.variables + (f.variables - 9)

abbrev pub ArePrepared : List Function → List Function → Type 0
ArePrepared [] [] = Unit {0}
ArePrepared [] (g ∷ gs) = ⊥
ArePrepared (f ∷ fs) [] = ⊥
ArePrepared (f ∷ fs) (g ∷ gs) = IsPrepared f g × ArePrepared fs gs

abbrev pub WeighsNoMore : Function → Function → Type 0
WeighsNoMore f g = (loaded_burden (form_of g.body) ≤ loaded_burden (form_of f.body)) × (loads_in (form_of g.body) ≤ loads_in (form_of f.body))

no_heavier : (a b c d : ℕ) → (b ≡ a) × (d ≡ c) → (b ≤ a) × (d ≤ c)
no_heavier a b c d h = (let same = h.0 in let alike = h.1 in (omega (arith, same), omega (arith, alike)))

-- what is no larger than a prepared function, and has as many variables, is prepared too
prepared_by : (f g h : Function) → IsPrepared f g → WeighsNoMore g h → h.variables ≡ g.variables → IsPrepared f h
prepared_by f g h made weight same =
    let more = made.variables in
    let burden = made.burden in
    let loads = made.loads in
    let lighter = weight.0 in
    let fewer = weight.1 in
    record { burden = omega (arith, burden, lighter); loads = omega (arith, loads, fewer); variables = omega (arith, more, same) }

prepared_on : (f g h : Function) → IsPrepared f g → (loaded_burden (form_of h.body) ≡ loaded_burden (form_of g.body)) × (loads_in (form_of h.body) ≡ loads_in (form_of g.body)) → h.variables ≡ g.variables → IsPrepared f h
prepared_on f g h made weight same =
    prepared_by f g h made (no_heavier (loaded_burden (form_of g.body)) (loaded_burden (form_of h.body)) (loads_in (form_of g.body)) (loads_in (form_of h.body)) weight) same

-- ---- variables renamed by webs

call_blind : IsBlind (λ item. bit (is_call item))
call_blind o m (Assign v x) = refl
call_blind o m (Load v kind x) = refl
call_blind o m (Store width x y) = refl
call_blind o m (Print spelling x) = refl
call_blind o m (Expect check) = refl
call_blind o m Break = refl
call_blind o m Continue = refl
call_blind o m (Call v g xs) = refl
call_blind o m (Return x) = refl
call_blind o m (Halt x) = refl

load_blind : IsBlind (λ item. bit (is_load_into (λ v. true) item))
load_blind o m (Assign v x) = refl
load_blind o m (Load v kind x) = refl
load_blind o m (Store width x y) = refl
load_blind o m (Print spelling x) = refl
load_blind o m (Expect check) = refl
load_blind o m Break = refl
load_blind o m Continue = refl
load_blind o m (Call v g xs) = refl
load_blind o m (Return x) = refl
load_blind o m (Halt x) = refl

-- a function whose variables are renamed weighs the same, and has as many loads
renamed_weighs : RenamingKeepsSizes → (f g : Function) → IsRenamedOrSame f g
    → (loaded_burden (form_of g.body) ≡ loaded_burden (form_of f.body)) × (loads_in (form_of g.body) ≡ loads_in (form_of f.body))
renamed_weighs sizes f g (inl same) = (ap (λ (h : Function). loaded_burden (form_of h.body)) same, ap (λ (h : Function). loads_in (form_of h.body)) same)
renamed_weighs sizes f g (inr r) =
    let s = sizes r.starts 0 (own_webs 0 f.variables) (form_of f.body) in
    let calls = s.tallies (λ item. bit (is_call item)) (λ t. 0) call_blind (λ m t. refl) in
    let loads = s.tallies (λ item. bit (is_load_into (λ v. true) item)) (λ t. 0) load_blind (λ m t. refl) in
    let weight = same_weight (renamed_code r.starts 0 (own_webs 0 f.variables) (form_of f.body)) (form_of f.body) s.size calls loads in
    (subst (λ (c : Form). loaded_burden c ≡ loaded_burden (form_of f.body)) (sym r.body) weight, subst (λ (c : Form). loads_in c ≡ loads_in (form_of f.body)) (sym r.body) loads)

-- and at most every second variable beyond 9 more
renamed_variables : (f g : Function) → IsRenamedOrSame f g → 2 * g.variables ≤ 2 * f.variables + (f.variables - 9)
renamed_variables f g (inl same) = let e : g.variables ≡ f.variables = ap (λ (h : Function). h.variables) same in omega (arith, e)
renamed_variables f g (inr r) = r.most

pub renamed_prepared : RenamingKeepsSizes → (fs gs : List Function) → AreRenamedFunctions fs gs → ArePrepared fs gs
renamed_prepared sizes [] [] named = tt
renamed_prepared sizes [] (g ∷ gs) named = absurd named
renamed_prepared sizes (f ∷ fs) [] named = absurd named
renamed_prepared sizes (f ∷ fs) (g ∷ gs) named =
    let weight = no_heavier (loaded_burden (form_of f.body)) (loaded_burden (form_of g.body)) (loads_in (form_of f.body)) (loads_in (form_of g.body)) (renamed_weighs sizes f g named.0) in
    (record { burden = weight.0; loads = weight.1; variables = renamed_variables f g named.0 }, renamed_prepared sizes fs gs named.1)

-- ---- what doesn't change in loops before them

hoisted_weighs : HoistingKeepsSizes → (c d : VariableSet) (f g : Function) → IsHoistedOrSame c d f g
    → (loaded_burden (form_of g.body) ≡ loaded_burden (form_of f.body)) × (loads_in (form_of g.body) ≡ loads_in (form_of f.body))
hoisted_weighs sizes c d f g is =
    let s = sizes c d f g is in
    let calls = s.tallies (λ item. bit (is_call item)) (λ t. 0) (λ v x y. refl) in
    let loads = s.tallies (λ item. bit (is_load_into (λ v. true) item)) (λ t. 0) (λ v x y. refl) in
    (same_weight (form_of g.body) (form_of f.body) s.size calls loads, loads)

pub hoisted_prepared : HoistingKeepsSizes → (tables rows : List (List Class)) (fs gs hs : List Function) → ArePrepared fs gs → AreHoistedFunctions tables rows gs hs → ArePrepared fs hs
hoisted_prepared sizes tables [] [] [] [] made is = tt
hoisted_prepared sizes tables [] [] [] (h ∷ hs) made is = absurd is
hoisted_prepared sizes tables [] [] (g ∷ gs) hs made is = absurd made
hoisted_prepared sizes tables [] (f ∷ fs) [] hs made is = absurd made
hoisted_prepared sizes tables [] (f ∷ fs) (g ∷ gs) hs made is = absurd is
hoisted_prepared sizes tables (row ∷ rows) [] [] hs made is = absurd is
hoisted_prepared sizes tables (row ∷ rows) [] (g ∷ gs) hs made is = absurd made
hoisted_prepared sizes tables (row ∷ rows) (f ∷ fs) [] hs made is = absurd made
hoisted_prepared sizes tables (row ∷ rows) (f ∷ fs) (g ∷ gs) [] made is = absurd is
hoisted_prepared sizes tables (row ∷ rows) (f ∷ fs) (g ∷ gs) (h ∷ hs) made is =
    let one = sizes (first_addresses tables) (addresses_in row) g h is.0 in
    (prepared_on f g h made.0 (hoisted_weighs sizes (first_addresses tables) (addresses_in row) g h is.0) one.variables, hoisted_prepared sizes (rows_behind tables) rows fs gs hs made.1 is.1)

-- ---- without common subexpressions

calls_alike : (c : Classes) → CountsAlike c (λ item. bit (is_call item))
calls_alike c q (Assign v x) = refl
calls_alike c q (Load v kind x) = refl
calls_alike c q (Store width x y) = refl
calls_alike c q (Print spelling x) = refl
calls_alike c q (Expect check) = refl
calls_alike c q Break = refl
calls_alike c q Continue = refl
calls_alike c q (Call v g xs) = refl
calls_alike c q (Return x) = refl
calls_alike c q (Halt x) = refl

loads_alike : (c : Classes) → CountsAlike c (λ item. bit (is_load_into (λ v. true) item))
loads_alike c q (Assign v x) = refl
loads_alike c q (Load v kind x) = refl
loads_alike c q (Store width x y) = refl
loads_alike c q (Print spelling x) = refl
loads_alike c q (Expect check) = refl
loads_alike c q Break = refl
loads_alike c q Continue = refl
loads_alike c q (Call v g xs) = refl
loads_alike c q (Return x) = refl
loads_alike c q (Halt x) = refl

commoned_weighs : CommoningKeepsCounts → (c : Classes) (f g : Function) → IsCommonedFunction c f g
    → (loaded_burden (form_of g.body) ≡ loaded_burden (form_of f.body)) × (loads_in (form_of g.body) ≡ loads_in (form_of f.body))
commoned_weighs counts c f g h =
    let s = counts c [] (form_of f.body) in
    let calls = s.tallies (λ item. bit (is_call item)) (λ t. 0) (calls_alike c) (λ q t. refl) in
    let loads = s.tallies (λ item. bit (is_load_into (λ v. true) item)) (λ t. 0) (loads_alike c) (λ q t. refl) in
    let weight = same_weight (commoned_code c [] (form_of f.body)) (form_of f.body) s.size calls loads in
    (subst (λ (k : Form). loaded_burden k ≡ loaded_burden (form_of f.body)) (sym h.body) weight, subst (λ (k : Form). loads_in k ≡ loads_in (form_of f.body)) (sym h.body) loads)

pub commoned_prepared : CommoningKeepsCounts → (tables : List (List Class)) (fs gs hs : List Function) → ArePrepared fs gs → AreCommonedFunctions tables gs hs → ArePrepared fs hs
commoned_prepared counts tables [] [] [] made is = tt
commoned_prepared counts tables [] [] (h ∷ hs) made is = absurd is
commoned_prepared counts tables [] (g ∷ gs) hs made is = absurd made
commoned_prepared counts tables (f ∷ fs) [] hs made is = absurd made
commoned_prepared counts tables (f ∷ fs) (g ∷ gs) [] made is = absurd is
commoned_prepared counts tables (f ∷ fs) (g ∷ gs) (h ∷ hs) made is =
    let one = is.0 in
    (prepared_on f g h made.0 (commoned_weighs counts (classes_of tables 0) g h one) one.variables, commoned_prepared counts (rows_behind tables) fs gs hs made.1 is.1)

-- ---- without the checks that are known to pass

elided_weighs : ElisionKeepsSizes → (memory : ℕ) (f g : Function) → IsElidedFunction memory f g
    → (loaded_burden (form_of g.body) ≡ loaded_burden (form_of f.body)) × (loads_in (form_of g.body) ≡ loads_in (form_of f.body))
elided_weighs sizes memory f g is =
    let s = sizes memory f g is in
    let calls = s.tallies (λ item. bit (is_call item)) (λ t. 0) (λ width v. refl) in
    let loads = s.tallies (λ item. bit (is_load_into (λ v. true) item)) (λ t. 0) (λ width v. refl) in
    (same_weight (form_of g.body) (form_of f.body) s.size calls loads, loads)

pub elided_prepared : ElisionKeepsSizes → (memory : ℕ) (fs gs hs : List Function) → ArePrepared fs gs → AreElidedFunctions memory gs hs → ArePrepared fs hs
elided_prepared sizes memory [] [] [] made is = tt
elided_prepared sizes memory [] [] (h ∷ hs) made is = absurd is
elided_prepared sizes memory [] (g ∷ gs) hs made is = absurd made
elided_prepared sizes memory (f ∷ fs) [] hs made is = absurd made
elided_prepared sizes memory (f ∷ fs) (g ∷ gs) [] made is = absurd is
elided_prepared sizes memory (f ∷ fs) (g ∷ gs) (h ∷ hs) made is =
    let one = is.0 in
    (prepared_on f g h made.0 (elided_weighs sizes memory g h one) one.variables, elided_prepared sizes memory fs gs hs made.1 is.1)

-- ---- with conditions threaded

-- code that is no larger, and has no more calls and loads, weighs no more
less_weight : (c d : Form) → form_size c ≤ form_size d → calls_of_form c ≤ calls_of_form d → loads_in c ≤ loads_in d → loaded_burden c ≤ loaded_burden d
less_weight c d size calls loads = let w = weighs c in let z = weighs d in omega (arith, size, calls, loads, w, z)

calls_heavy : CountsHeavy (λ item. bit (is_call item))
calls_heavy (Assign v x) h = refl
calls_heavy (Load v kind x) h = refl
calls_heavy (Store width x y) h = refl
calls_heavy (Print spelling x) h = refl
calls_heavy (Expect check) h = refl
calls_heavy Break h = refl
calls_heavy Continue h = refl
calls_heavy (Call v g xs) h = absurd (let c : false ≡ true = h in cc)
calls_heavy (Return x) h = refl
calls_heavy (Halt x) h = refl

loads_heavy : CountsHeavy (λ item. bit (is_load_into (λ v. true) item))
loads_heavy (Assign v x) h = refl
loads_heavy (Load v kind x) h = absurd (let c : false ≡ true = h in cc)
loads_heavy (Store width x y) h = refl
loads_heavy (Print spelling x) h = refl
loads_heavy (Expect check) h = refl
loads_heavy Break h = refl
loads_heavy Continue h = refl
loads_heavy (Call v g xs) h = refl
loads_heavy (Return x) h = refl
loads_heavy (Halt x) h = refl

threaded_weighs : ThreadingAddsNothing → (f g : Function) → IsThreadedFunction f g → WeighsNoMore f g
threaded_weighs sizes f g is =
    let s = sizes f g is in
    let calls = s.tallies (λ item. bit (is_call item)) (λ t. 0) calls_heavy in
    let loads = s.tallies (λ item. bit (is_load_into (λ v. true) item)) (λ t. 0) loads_heavy in
    (less_weight (form_of g.body) (form_of f.body) s.size calls loads, loads)

pub threaded_prepared : ThreadingAddsNothing → (fs gs hs : List Function) → ArePrepared fs gs → AreThreadedFunctions gs hs → ArePrepared fs hs
threaded_prepared sizes [] [] [] made is = tt
threaded_prepared sizes [] [] (h ∷ hs) made is = absurd is
threaded_prepared sizes [] (g ∷ gs) hs made is = absurd made
threaded_prepared sizes (f ∷ fs) [] hs made is = absurd made
threaded_prepared sizes (f ∷ fs) (g ∷ gs) [] made is = absurd is
threaded_prepared sizes (f ∷ fs) (g ∷ gs) (h ∷ hs) made is =
    let one = is.0 in
    (prepared_by f g h made.0 (threaded_weighs sizes g h one) one.variables, threaded_prepared sizes fs gs hs made.1 is.1)

-- ---- with sums computed where accesses add them up

summed_prepared : CommoningKeepsCounts → (fs : List Function) (bare near : Ir) → ArePrepared fs bare.functions → HasSumsAtAccesses bare near → ArePrepared fs near.functions
summed_prepared commons fs bare near made (inl again) = commoned_prepared commons again.1.tables fs bare.functions near.functions made again.1.commoning.functions
summed_prepared commons fs bare near made (inr same) = subst (λ (z : Ir). ArePrepared fs z.functions) (sym same.1) made

-- ---- all passes before loads are reused

pub passes_prepared : (lowered named common bare near threaded : Ir) → RenamingKeepsSizes → HoistingKeepsSizes → CommoningKeepsCounts → ElisionKeepsSizes → ThreadingAddsNothing
    → IsRenamingOf lowered named → IsWithoutCommons named common → IsElisionOf common bare → HasSumsAtAccesses bare near → IsThreadingOf near threaded → ArePrepared lowered.functions threaded.functions
passes_prepared lowered named common bare near threaded webs hoists commons checks threads renamed without elided summed is =
    let mid = without.hoisted in
    let hoist = without.hoist in
    let made = without.commoning in
    let one = renamed_prepared webs lowered.functions named.functions renamed.functions in
    let two = hoisted_prepared hoists without.tables without.rows lowered.functions named.functions mid.functions one hoist.functions in
    let three = commoned_prepared commons without.rows lowered.functions mid.functions common.functions two made.functions in
    let four = elided_prepared checks common.memory lowered.functions common.functions bare.functions three elided.functions in
    let five = summed_prepared commons lowered.functions bare near four summed in
    threaded_prepared threads lowered.functions near.functions threaded.functions five is.functions

-- ---- loads reused

-- words number the variables of a prepared function, and one more for each load
reusable : (f g : Function) → IsPrepared f g → LeavesNumbers f → is_reusable g ≡ true
reusable f g is leaves =
    let same = same_loads (form_of g.body) in
    let loads = is.loads in
    let more = is.variables in
    let few : g.variables + reuse_loads (form_of g.body) < 2 ^ 32 = omega (arith, same, loads, more, leaves) in
    lt-ltb (g.variables + reuse_loads (form_of g.body)) (2 ^ 32) few

pub all_reusable : (fs gs : List Function) → ArePrepared fs gs → AllByRecursion LeavesNumbers fs → list_all is_reusable gs ≡ true
all_reusable [] [] made leave = refl
all_reusable [] (g ∷ gs) made leave = absurd made
all_reusable (f ∷ fs) [] made leave = refl
all_reusable (f ∷ fs) (g ∷ gs) made leave = rw (reusable f g made.0 leave.0) (all_reusable fs gs made.1 leave.1)

-- a function whose loads are reused has an item and a variable more for at most every second load
reused_small : ReuseStaysSmall → (f g : Function) → IsReusedFunction f g
    → (28 * form_size (form_of g.body) + 42 * calls_of_form (form_of g.body) ≤ 14 * loaded_burden (form_of f.body)) × (2 * g.variables ≤ 2 * f.variables + loads_in (form_of f.body))
reused_small small f g is =
    let s = small is.holders (form_of f.body) in
    let size = s.size in
    let half = s.half is.only in
    let calls : calls_of_form (reused is.holders nothing [] 0 (form_of f.body)) ≡ calls_of_form (form_of f.body) = s.others (λ item. bit (is_call item)) (λ t. 0) (λ v kind x. refl) (λ v u. refl) in
    let w = weighs (form_of f.body) in
    let l = same_loads (form_of f.body) in
    let more = is.variables in (
      subst (λ (c : Form). 28 * form_size c + 42 * calls_of_form c ≤ 14 * loaded_burden (form_of f.body)) (sym is.body) (omega (arith, size, half, calls, w, l)),
      omega (arith, half, l, more),
    )

final_small : ReuseStaysSmall → (f h g : Function) → IsPrepared f h → IsReusedFunction h g → IsSmallBy f g
final_small small f h g made is =
    let by = reused_small small h g is in
    let words = by.0 in
    let variables = by.1 in
    let more = made.variables in
    let burdens = made.burden in
    let loads = made.loads in
    record { words = omega (arith, words, burdens); variables = omega (arith, more, variables, loads) }

pub functions_small : ReuseStaysSmall → (fs hs gs : List Function) → ArePrepared fs hs → AreReused hs gs → AreSmallBy fs gs
functions_small small [] [] [] made is = tt
functions_small small [] [] (g ∷ gs) made is = absurd is
functions_small small [] (h ∷ hs) gs made is = absurd made
functions_small small (f ∷ fs) [] gs made is = absurd made
functions_small small (f ∷ fs) (h ∷ hs) [] made is = absurd is
functions_small small (f ∷ fs) (h ∷ hs) (g ∷ gs) made is = (final_small small f h g made.0 is.0, functions_small small fs hs gs made.1 is.1)
