-- Steps that don't ask for what is known before them: the same is told before them, whatever is known.
use Rattle.std.proofs.Common.{◌≡◌, ℕ, ◌+◌, ◌<◌, ◌≤◌, Bool, true, false, if◌then◌else◌, ltb, List, length, get_or, true≢false, refl, ap, sym, ◌∙◌, arith}
use Rattle.std.proofs.lemmas.Bool.Decides.{nat_tests}
use Rattle.dae_ir.specs.Streams.{Actions}
use Rattle.dae_ir.specs.declared.form.Check.TheVariants.{Place}
use Rattle.dae_ir.specs.declared.form.Operand.TheVariants.{Variable}
use Rattle.dae_ir.specs.declared.form.Value.TheVariants.{Same}
use Rattle.dae_ir.specs.declared.stream.Action.{Action}
use Rattle.dae_ir.specs.declared.stream.Action.TheVariants.{Set as Compute, Probe}
use Rattle.dae_ir.specs.declared.stream.Step.{Step, Act, If', Loop'}
use Rattle.dae_select_walks.specs.Facts.{Facts, need_of}
use Rattle.dae_select_walks.specs.declared.Need.{Need}
use Rattle.dae_select_facts.specs.Along.{IsBefore, asks, asks_for, has_lists, need_of_step}
use Rattle.dae_select_facts.proofs.Lists.{same_at}

-- ---- how many steps there are up to the last that asks

pub record AreAsked (steps : List Step) (asked n : ℕ) : Type 0 where
  pub within : asked ≤ n
  pub rest : (i : ℕ) (s : Step) → asked ≤ i → i < n → s ≡ get_or steps i s → asks s ≡ false

pub none_asked : (steps : List Step) → AreAsked steps 0 0
none_asked steps = record { within = omega arith; rest = λ i s le lt at. absurd (omega (arith, lt)) }

pub one_asked : (steps : List Step) (asked more n : ℕ) (s : Step) → n < length steps → s ≡ get_or steps n s → more ≡ (if asks s then n + 1 else asked) → AreAsked steps asked n → AreAsked steps more (n + 1)
one_asked steps asked more n s some is counted before = by (asks s) refl counted
  where
    last : (i : ℕ) (t : Step) → i ≡ n → t ≡ get_or steps i t → asks s ≡ false → asks t ≡ false
    last i t same at e =
        let step_is : s ≡ t = is ∙ same_at steps n s t some ∙ ap (λ (k : ℕ). get_or steps k t) (sym same) ∙ sym at in
        ap asks (sym step_is) ∙ e

    at_each : (i : ℕ) (t : Step) → asked ≤ i → i < n + 1 → t ≡ get_or steps i t → asks s ≡ false → (c : Bool) → ltb i n ≡ c → asks t ≡ false
    at_each i t le lt at e true x = (let inside : i < n = grind (arith, nat_tests) in before.rest i t le inside at)
    at_each i t le lt at e false x = last i t (grind (arith, nat_tests)) at e

    by : (b : Bool) → asks s ≡ b → more ≡ (if b then n + 1 else asked) → AreAsked steps more (n + 1)
    by true e now =
        let here : more ≡ n + 1 = now in
        record { within = omega arith; rest = λ i t le lt at. absurd (omega (arith, here, le, lt)) }
    by false e now =
        let here : more ≡ asked = now in
        let old : asked ≤ n = before.within in
        record { within = omega arith; rest = λ i t le lt at. at_each i t (omega (arith, here, le)) lt at e (ltb i n) refl }

-- ---- a step that doesn't ask

need_alike : (memory : ℕ) (f g : Facts) (a : Action) (k : Actions) → asks_for a ≡ false → need_of memory f a k ≡ need_of memory g a k
need_alike memory f g (Probe (Place width x)) k e = absurd (true≢false e)
need_alike memory f g (Compute v (Same (Variable u))) k e = refl
need_alike memory f g _ k e = refl

need_same : (memory : ℕ) (f g : Facts) (s : Step) (k : Actions) → asks s ≡ false → need_of_step memory f s k ≡ need_of_step memory g s k
need_same memory f g (Act m a) k e = need_alike memory f g a k e
need_same memory f g (If' m b i p j q) k e = absurd (true≢false e)
need_same memory f g (Loop' m i p j q) k e = absurd (true≢false e)

no_lists : (s : Step) → asks s ≡ false → has_lists s ≡ false
no_lists (Act m a) e = refl
no_lists (If' m b i p j q) e = e
no_lists (Loop' m i p j q) e = e

pub unasked_before : (memory : ℕ) (f g : Facts) (s : Step) (k : Actions) (n : Need) (told : Facts) → asks s ≡ false → IsBefore memory f s k n told → IsBefore memory g s k n told
unasked_before memory f g s k n told e h = record {
  need = h.need ∙ need_same memory f g s k e;
  known = λ lists. absurd (true≢false (sym lists ∙ no_lists s e));
}
