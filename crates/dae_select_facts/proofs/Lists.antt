-- Lists of facts, and what is known along a list of steps.
use Rattle.std.proofs.Common.{◌≡◌, ℕ, zero, suc, ◌+◌, ◌<◌, ltb, length-append, Bool, true, false, List, [], ◌∷◌, ◌++◌, length, drop, get_or, refl, ap, sym, subst, ◌∙◌, arith}
use Rattle.std.specs.Prelude.{Vec}
use Rattle.std.specs.declared.alloc.Global.{Global}
use Rattle.std.proofs.lemmas.List.{get_or_append_left}
use Rattle.std.proofs.Math.Seq.{get_or-append_seam}
use Rattle.std.proofs.lemmas.Bool.Decides.{nat_tests}
use Rattle.dae_ir.specs.Code.{Done}
use Rattle.dae_ir.specs.Streams.{Actions, actions_of, step_onto}
use Rattle.dae_ir.specs.declared.stream.Mark.{Mark}
use Rattle.dae_ir.specs.declared.stream.Branch.{Branch}
use Rattle.dae_ir.specs.declared.stream.Step.{Step}
use Rattle.dae_ir.specs.declared.stream.Step.TheVariants as step
use Rattle.dae_select_live.proofs.Laws.{onto_if, onto_loop}
use Rattle.dae_select_walks.specs.Facts.{Facts, facts_past_if, facts_past_loop}
use Rattle.dae_select_facts.specs.Knowns.{facts_by}
use Rattle.dae_select_facts.specs.Along.{facts_past, facts_after, facts_at, IsBefore, AreBefore}
use Rattle.dae_select_facts.specs.declared.along.Before.{Before}

pub past_if : (memory : ℕ) (facts : Facts) (s : Step) (m : Mark) (b : Branch) (p q : Vec Step Global) → s ≡ step.If m b p q → facts_after memory s facts ≡ facts_past_if b (actions_of p.items) (actions_of q.items) facts
past_if memory facts s m b p q is = ap (λ (c : Actions). facts_past memory c facts) (ap (λ (z : Step). step_onto z Done) is ∙ onto_if m b p q Done)

pub past_loop : (memory : ℕ) (facts : Facts) (s : Step) (m : Mark) (p q : Vec Step Global) → s ≡ step.Loop m p q → facts_after memory s facts ≡ facts_past_loop (actions_of p.items) (actions_of q.items) facts
past_loop memory facts s m p q is = ap (λ (c : Actions). facts_past memory c facts) (ap (λ (z : Step). step_onto z Done) is ∙ onto_loop m p q Done)

pub facts_next : (memory : ℕ) (known : Facts) (steps : List Step) (i : ℕ) (s : Step) → i < length steps → s ≡ get_or steps i s → facts_at memory known steps (suc i) ≡ facts_after memory s (facts_at memory known steps i)
facts_next memory known [] i s h is = absurd (omega arith)
facts_next memory known (x ∷ xs) zero s h is = sym (ap (λ (z : Step). facts_after memory z known) is)
facts_next memory known (x ∷ xs) (suc i) s h is = facts_next memory (facts_after memory x known) xs i s (omega arith) is

-- what stands in a list doesn't depend on what stands past its end
pub same_at : {X : Type 0} (xs : List X) (i : ℕ) (x y : X) → i < length xs → get_or xs i x ≡ get_or xs i y
same_at [] i x y lt = absurd (omega arith)
same_at (z ∷ zs) zero x y lt = refl
same_at (z ∷ zs) (suc i) x y lt = same_at zs i x y (omega arith)

-- the first n of a list are told
pub record BeforeFirst (memory : ℕ) (known : Facts) (steps : List Step) (all : List Before) (n : ℕ) : Type 0 where
  pub long : length all ≡ n
  pub each : (i : ℕ) (s : Step) (b : Before) → i < n → s ≡ get_or steps i s → b ≡ get_or all i b → IsBefore memory (facts_at memory known steps i) s (actions_of (drop (suc i) steps)) b.need (facts_by b.known)

pub none_before : (memory : ℕ) (known : Facts) (steps : List Step) (all : List Before) → all ≡ [] → BeforeFirst memory known steps all 0
none_before memory known steps all e = record { long = ap (λ (l : List Before). length l) e; each = λ i s b lt. absurd (omega (arith, lt)) }

pub all_told : (memory : ℕ) (known : Facts) (steps : List Step) (all : List Before) (n : ℕ) → n ≡ length steps → BeforeFirst memory known steps all n → AreBefore memory known steps all
all_told memory known steps all n e h = record { long = h.long ∙ e; each = λ i s b lt. h.each i s b (omega (arith, lt, e)) }

pub one_before : (memory : ℕ) (known : Facts) (steps : List Step) (all more : List Before) (n : ℕ) (s : Step) (b : Before) (rest : List Step) → n < length steps → s ≡ get_or steps n s → more ≡ all ++ b ∷ [] → rest ≡ drop (n + 1) steps
    → IsBefore memory (facts_at memory known steps n) s (actions_of rest) b.need (facts_by b.known) → BeforeFirst memory known steps all n → BeforeFirst memory known steps more (n + 1)
one_before memory known steps all more n s b rest some is e r told h =
    record {
      long = ap (λ (l : List Before). length l) e ∙ length-append all (b ∷ []) ∙ (let z = h.long in omega arith);
      each = λ i t d lt at' at''. by i t d lt at' at'' (ltb i n) refl;
    }
  where
    last : (i : ℕ) (t : Step) (d : Before) → i ≡ n → t ≡ get_or steps i t → d ≡ get_or more i d → IsBefore memory (facts_at memory known steps i) t (actions_of (drop (suc i) steps)) d.need (facts_by d.known)
    last i t d same at' at'' =
        let step_is : s ≡ t = is ∙ same_at steps n s t some ∙ ap (λ (k : ℕ). get_or steps k t) (sym same) ∙ sym at' in
        let place : i ≡ length all = same ∙ sym h.long in
        let told_is : d ≡ b = at'' ∙ ap (λ (l : List Before). get_or l i d) e ∙ ap (λ (k : ℕ). get_or (all ++ b ∷ []) k d) place ∙ get_or-append_seam all b [] d in
        let next : n + 1 ≡ suc i = omega (arith, same) in
        let list_is : rest ≡ drop (suc i) steps = r ∙ ap (λ (k : ℕ). drop k steps) next in
        let one = subst (λ (k : ℕ). IsBefore memory (facts_at memory known steps k) s (actions_of rest) b.need (facts_by b.known)) (sym same) told in
        let two = subst (λ (z : Step). IsBefore memory (facts_at memory known steps i) z (actions_of rest) b.need (facts_by b.known)) step_is one in
        let three = subst (λ (l : List Step). IsBefore memory (facts_at memory known steps i) t (actions_of l) b.need (facts_by b.known)) list_is two in
        subst (λ (x : Before). IsBefore memory (facts_at memory known steps i) t (actions_of (drop (suc i) steps)) x.need (facts_by x.known)) (sym told_is) three

    by : (i : ℕ) (t : Step) (d : Before) → i < n + 1 → t ≡ get_or steps i t → d ≡ get_or more i d → (c : Bool) → ltb i n ≡ c → IsBefore memory (facts_at memory known steps i) t (actions_of (drop (suc i) steps)) d.need (facts_by d.known)
    by i t d lt at' at'' true x = (let before : i < n = grind (arith, nat_tests) in h.each i t d before at' (at'' ∙ ap (λ (l : List Before). get_or l i d) e ∙ get_or_append_left all (b ∷ []) d i (let z = h.long in omega arith)))
    by i t d lt at' at'' false x = last i t d (grind (arith, nat_tests)) at' at''
