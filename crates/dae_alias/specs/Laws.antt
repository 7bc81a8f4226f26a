-- What is proved of the reuse of loads.
use Rattle.std.specs.Prelude.{◌≡◌, ℕ, zero, suc, true, false, ◌+◌, ◌*◌, ◌^◌, ◌<◌, ◌≤◌, List, [], length, Option, Some, None, slice_get}
use Rattle.dae_meaning.specs.Worlds.{World}
use Rattle.dae_meaning.specs.Alike.{Alike}
use Rattle.dae_meaning.specs.Variables.{Env}
use Rattle.dae_ir.specs.Code.{Each}
use Rattle.dae_ir.specs.Form.{Form, Program, calls_of, all_loads}
use Rattle.dae_ir.specs.Rounds.{stays}
use Rattle.dae_ir.specs.SetFirst.{form_flow, IsSetFirst}
use Rattle.dae_ir.specs.Scope.{ItemIn, TestIn, TakesArguments, closes, never_returns}
use Rattle.dae_ir.specs.Classes.{VariableSet, Classes, AreAddressesClosed, AreLeast}
use Rattle.dae_ir.specs.Sizes.{own_loads, conditions_a, tally, form_size}
use Rattle.dae_base.specs.declared.LoadKind.{LoadKind}
use Rattle.dae_ir.specs.declared.form.Operand.{Operand}
use Rattle.dae_ir.specs.declared.form.Test.{Test}
use Rattle.dae_ir.specs.declared.form.Item.{Item}
use Rattle.dae_ir.specs.declared.form.Item.TheVariants.{Load}
use Rattle.dae_ir.specs.declared.form.Function.{Function}
use Rattle.dae_alias.specs.Stretches.{nothing, HasNoSecond}
use Rattle.dae_alias.specs.Reuse.{Holders, copy, loads_in, reused, is_repeated}

-- so many items and loads were counted
abbrev pub counted : ℕ → ℕ → World → World
counted i l w = record w { items = i; loads = l }

-- Two worlds that differ in counts alone: the second one has no more loads, and no more items but one for each load of the
-- first. The memory has at most 2^32 bytes.
pub data Cheaper : World → World → Type 0 where
  Costs : (w : World) (i l j k : ℕ) → length w.memory ≤ 2 ^ 32 → k ≤ l → j ≤ i + l
      → Cheaper (counted i l w) (counted j k w)

-- the variables below n hold the same
abbrev pub SameBelow : ℕ → Env → Env → Type 0
SameBelow n e f = (v : ℕ) → v < n → e v ≡ f v

abbrev pub SameResult : Env → Env → Type 0
SameResult e f = e 0 ≡ f 0

-- Of each function of q the code is that of p with its loads reused; n is how many variables the function has in p, and the
-- variables for loads are further ones, each for one load
pub record IsReused (functions : List Function) (h : ℕ → Holders) (n : ℕ → ℕ)
    (p q : Program) : Type 0 where
  pub body : (f : ℕ) → q.body f ≡ reused (h f) nothing [] 0 (p.body f)
  pub frame : (f : ℕ) → q.frame f ≡ p.frame f
  pub limit : q.limit ≡ p.limit
  pub some : (f : ℕ) → 0 < n f
  pub own : (f i u : ℕ) → h f i ≡ Some u → n f ≤ u
  pub apart : (f i j u : ℕ) → h f i ≡ Some u → h f j ≡ Some u → i ≡ j
  pub names : (f : ℕ) → Each (ItemIn functions (n f)) (TestIn (n f)) (p.body f)

-- Reuse keeps the meaning, under each bound on turns: it ends alike, with the same result, output and memory, the same number
-- of stores and no more loads. Nothing is said where the form goes astray.
abbrev pub ReuseKeepsMeaning : Type 0
ReuseKeepsMeaning =
    (functions : List Function) (h : ℕ → Holders) (own : ℕ → ℕ) (p q : Program)
    → IsReused functions h own p q →
    (n limit f : ℕ) (xs : List ℕ) (w u : World) → Cheaper w u →
    Alike SameResult Cheaper (calls_of p all_loads n limit f xs w)
    (calls_of q all_loads n limit f xs u)

-- where just the loads that are repeated have variables of their own
abbrev pub HasRepeated : Holders → Form → Type 0
HasRepeated h code = (i : ℕ) → is_repeated i nothing [] 0 code ≡ true → (u : ℕ) × (h i ≡ Some u)

-- no second load is left, where each that is repeated has a variable of its own
abbrev pub NoSecondIsLeft : Type 0
NoSecondIsLeft =
    (functions : List Function) (h : ℕ → Holders) (own : ℕ → ℕ) (p q : Program)
    → IsReused functions h own p q → (f : ℕ) → HasRepeated (h f) (p.body f) → HasNoSecond (q.body f)

-- a call gives fewer arguments than the function has variables
abbrev pub TakesFewer : List Function → (ℕ → ℕ) → Type 0
TakesFewer functions own =
    (g count : ℕ) → TakesArguments (slice_get functions g) count → count < own g

-- No function gets more loads into variables that lead to addresses, nor more conditions that A decides: by the least
-- classes no more than by any sets of the form before that keep what leads to addresses, and so by its least classes.
abbrev pub ReuseAddsNothing : Type 0
ReuseAddsNothing =
    (functions : List Function) (h : ℕ → Holders) (own : ℕ → ℕ) (p q : Program)
    → IsReused functions h own p q → TakesFewer functions own →
    (of of' : ℕ → Classes) → AreAddressesClosed p (λ g. (of g).s) → AreLeast q of' → (f : ℕ) →
    (own_loads (of' f) (q.body f) ≤ own_loads (of f) (p.body f))
    × (conditions_a (of' f) (q.body f) ≤ conditions_a (of f) (p.body f))

-- the functions' parameters are the same
abbrev pub KeepsParameters : List Function → List Function → Type 0
KeepsParameters fs gs =
    (length gs ≡ length fs)
    × ((g count : ℕ) → TakesArguments (slice_get fs g) count
    → TakesArguments (slice_get gs g) count)

-- each variable for a load is one of the n from own on
abbrev pub AreWithin : Holders → (own n : ℕ) → Type 0
AreWithin h own n = (i u : ℕ) → h i ≡ Some u → (own ≤ u) × (u < n)

-- what is well made stays so
abbrev pub ReuseKeepsScope : Type 0
ReuseKeepsScope =
    (fs gs : List Function) (h : Holders) (own n : ℕ) → KeepsParameters fs gs → 0 < own → own ≤ n
    → AreWithin h own n →
    (code : Form) → Each (ItemIn fs own) (TestIn own) code →
    Each (ItemIn gs n) (TestIn n) (reused h nothing [] 0 code)
    × (stays false (reused h nothing [] 0 code) ≡ stays false code) ×
    (closes (reused h nothing [] 0 code) ≡ closes code)
    × (never_returns (reused h nothing [] 0 code) ≡ never_returns code)

-- each variable is still set before it is read
abbrev pub ReuseKeepsOrder : Type 0
ReuseKeepsOrder =
    (h : Holders) (d : VariableSet) (code : Form) → IsSetFirst form_flow d code
    → IsSetFirst form_flow d (reused h nothing [] 0 code)

-- ---- sizes

-- the sum over the c numbers from l on
abbrev pub sum_from : (ℕ → ℕ) → ℕ → ℕ → ℕ
sum_from t l zero = 0
sum_from t l (suc c) = t l + sum_from t (suc l) c

abbrev pub one : Option ℕ → ℕ
one None = 0
one (Some u) = 1

-- how many of the code's loads have variables of their own
abbrev pub own_variables : Holders → Form → ℕ
own_variables h code = sum_from (λ i. one (h i)) 0 (loads_in code)

abbrev pub HasOnlyRepeated : Holders → Form → Type 0
HasOnlyRepeated h code = (i u : ℕ) → h i ≡ Some u → is_repeated i nothing [] 0 code ≡ true

-- The code is larger by an item for each of those; they are at most half of the loads, where only what is repeated has one. What
-- counts neither loads nor copies counts the same.
pub record StaysSmall (h : Holders) (code : Form) : Type 0 where
  pub size : form_size (reused h nothing [] 0 code) ≤ form_size code + own_variables h code
  pub half : HasOnlyRepeated h code → 2 * own_variables h code ≤ loads_in code
  pub others : (f : Item → ℕ) (g : Test → ℕ)
      → ((v : ℕ) (kind : LoadKind) (x : Operand) → f (Load v kind x) ≡ 0)
      → ((v u : ℕ) → f (copy v u) ≡ 0)
      → tally f g (reused h nothing [] 0 code) ≡ tally f g code

abbrev pub ReuseStaysSmall : Type 0
ReuseStaysSmall = (h : Holders) (code : Form) → StaysSmall h code
