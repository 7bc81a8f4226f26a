-- The places of a step, before places that are seen.
use Rattle.std.proofs.Common.{◌≡◌, ℕ, ◌-◌, ◌+◌, ◌<◌, ◌≤◌, Bool, List, [], ◌∷◌, ◌++◌, length, drop, get_or, refl, ap, sym, ◌∙◌, subst, append_assoc, arith}
use Rattle.std.proofs.lemmas.List.{append-nil, drop_all}
use Rattle.std.specs.Prelude.{Vec}
use Rattle.std.specs.declared.alloc.Global.{Global}
use Rattle.dae_base.proofs.Laws.{drop_at}
use Rattle.dae_ir.specs.Code.{Do, If, Loop}
use Rattle.dae_ir.specs.Classes.{VariableSet}
use Rattle.dae_ir.specs.Streams.{Actions, actions_of, step_onto}
use Rattle.dae_ir.specs.declared.stream.Mark.{Mark}
use Rattle.dae_ir.specs.declared.stream.Action.{Action}
use Rattle.dae_ir.specs.declared.stream.Branch.{Branch}
use Rattle.dae_ir.specs.declared.stream.Step.{Step}
use Rattle.dae_ir.specs.declared.stream.Step.TheVariants as step
use Rattle.dae_select_walks.specs.Live.{LiveWays, ways, live, lives, before, sets, decided, with_all, turn, body_ways, step_ways, none, nowhere, parameters_of, function_lives}
use Rattle.dae_select_walks.proofs.LawsOfWalks.{turn_again}
use Rattle.dae_select_live.specs.Members.{member}
use Rattle.dae_select_live.proofs.Laws.{onto_if, onto_loop}
use Rattle.dae_regalloc.specs.declared.spans.Spans.{Spans}
use Rattle.dae_regalloc.specs.Seen.{AreSeen, ArePlacesOf, ArePlacesOfStep, SeesPlace}

-- one more place is seen
abbrev SeesOne : VariableSet → Spans → Spans → Type 0
SeesOne here old new = (places : List VariableSet) → AreSeen places old → AreSeen (here ∷ places) new

pub acted : (s : Step) (m : Mark) (a : Action) (leaves skips next : List ℕ) (old new : Spans) (early set : List ℕ) → s ≡ step.Act m a
    → ((n : VariableSet) → member early ≡ before a (member next) (ways n (member leaves) (member skips))) → member set ≡ member early → SeesPlace (with_all (member early) (sets a)) old new
    → ArePlacesOfStep s old next leaves skips new set
acted s m a leaves skips next old new early set is found same more b k n h =
    let x = ways n (member leaves) (member skips) in
    let lived : member early ≡ live (Do m a k) x = found n ∙ ap (λ (l : VariableSet). before a l x) h.live in
    let counted = more.count in
    let before' = h.count in
    rw is (record {
      seen = λ places sb. subst (λ (l : VariableSet). AreSeen (with_all l (sets a) ∷ (lives k x ++ places)) new) lived (more.seen (lives k x ++ places) (h.seen places sb));
      live = same ∙ lived;
      count = omega (arith, counted, before');
    })

pub branched : (s : Step) (m : Mark) (b : Branch) (p q : Vec Step Global) (leaves skips next : List ℕ) (old mid last new : Spans) (one other set : List ℕ) → s ≡ step.If m b p q
    → ArePlacesOf (actions_of q.items) (ways (member next) (member leaves) (member skips)) old mid other
    → ArePlacesOf (actions_of p.items) (ways (member next) (member leaves) (member skips)) mid last one
    → member set ≡ with_all (decided b) (with_all (member one) (member other)) → SeesOne (member set) last new → new.places ≡ last.places + 1
    → ArePlacesOfStep s old next leaves skips new set
branched s m b p q leaves skips next old mid last new one other set is second first both more counted base k n h =
    let x = ways n (member leaves) (member skips) in
    let P = actions_of p.items in let Q = actions_of q.items in
    let inner : LiveWays = ways (live k x) (member leaves) (member skips) in
    let second' = subst (λ (l : VariableSet). ArePlacesOf Q (ways l (member leaves) (member skips)) old mid other) h.live second in
    let first' = subst (λ (l : VariableSet). ArePlacesOf P (ways l (member leaves) (member skips)) mid last one) h.live first in
    let lived : member set ≡ live (If m b P Q k) x = rw (both, first'.live, second'.live) refl in
    let whole : step_onto s k ≡ If m b P Q k = ap (λ (z : Step). step_onto z k) is ∙ onto_if m b p q k in
    let c0 = h.count in let c1 = second.count in let c2 = first.count in
    rw whole (record {
      seen = λ places sb.
          let all : lives P inner ++ (lives Q inner ++ (lives k x ++ places)) ≡ (lives P inner ++ (lives Q inner ++ lives k x)) ++ places =
          sym (append_assoc (lives P inner) (lives Q inner ++ lives k x) places ∙ ap (λ (l : List VariableSet). lives P inner ++ l) (append_assoc (lives Q inner) (lives k x) places)) in
          let there = more _ (first'.seen _ (second'.seen (lives k x ++ places) (h.seen places sb))) in
          subst (λ (l : List VariableSet). AreSeen (live (If m b P Q k) x ∷ l) new) all (subst (λ (l : VariableSet). AreSeen (l ∷ (lives P inner ++ (lives Q inner ++ (lives k x ++ places)))) new) lived there);
      live = lived;
      count = omega (arith, c0, c1, c2, counted);
    })

pub looped : (s : Step) (m : Mark) (p q : Vec Step Global) (leaves skips next : List ℕ) (old mid last new : Spans) (turned again set : List ℕ) → s ≡ step.Loop m p q
    → member turned ≡ turn (actions_of p.items) (actions_of q.items) (member next)
    → ArePlacesOf (actions_of q.items) (ways (member turned) (member next) (member turned)) old mid again
    → ArePlacesOf (actions_of p.items) (ways (member again) (member next) (member again)) mid last set
    → SeesOne (member set) last new → new.places ≡ last.places + 1
    → ArePlacesOfStep s old next leaves skips new set
looped s m p q leaves skips next old mid last new turned again set is first step body more counted base k n h =
    let x = ways n (member leaves) (member skips) in
    let B = actions_of p.items in let S = actions_of q.items in let N : VariableSet = live k x in
    let T : member turned ≡ turn B S N = first ∙ ap (turn B S) h.live in
    let three : VariableSet → VariableSet → LiveWays = λ t u. ways t u t in
    let e1 : ways (member turned) (member next) (member turned) ≡ step_ways B S N = ap (λ (t : VariableSet). three t (member next)) T ∙ ap (λ (u : VariableSet). three (turn B S N) u) h.live in
    let step' = subst (λ (w : LiveWays). ArePlacesOf S w old mid again) e1 step in
    let e2 : ways (member again) (member next) (member again) ≡ body_ways B S N = ap (λ (t : VariableSet). three t (member next)) step'.live ∙ ap (λ (u : VariableSet). three (live S (step_ways B S N)) u) h.live in
    let body' = subst (λ (w : LiveWays). ArePlacesOf B w mid last set) e2 body in
    let LB = lives B (body_ways B S N) in let LS = lives S (step_ways B S N) in
    let lived : member set ≡ live (Loop m B S k) x = body'.live ∙ turn_again B S N in
    let whole : step_onto s k ≡ Loop m B S k = ap (λ (z : Step). step_onto z k) is ∙ onto_loop m p q k in
    let c0 = h.count in let c1 = step.count in let c2 = body.count in
    rw whole (record {
      seen = λ places sb.
          let all : LB ++ (LS ++ (lives k x ++ places)) ≡ (LB ++ (LS ++ lives k x)) ++ places =
          sym (append_assoc LB (LS ++ lives k x) places ∙ ap (λ (l : List VariableSet). LB ++ l) (append_assoc LS (lives k x) places)) in
          let there = more _ (body'.seen _ (step'.seen (lives k x ++ places) (h.seen places sb))) in
          subst (λ (l : List VariableSet). AreSeen (live (Loop m B S k) x ∷ l) new) all (subst (λ (l : VariableSet). AreSeen (l ∷ (LB ++ (LS ++ (lives k x ++ places)))) new) lived there);
      live = lived;
      count = omega (arith, c0, c1, c2, counted);
    })

-- ---- a list of steps

pub none_placed : (steps : List Step) (old : Spans) (next : List ℕ) (lv sk : VariableSet) → ArePlacesOf (actions_of (drop (length steps) steps)) (ways (member next) lv sk) old old next
none_placed steps old next lv sk =
    let none : drop (length steps) steps ≡ [] = drop_all (length steps) steps (omega arith) in
    rw none (record { seen = λ places seen. seen; live = refl; count = omega arith })

pub one_more : (steps : List Step) (j : ℕ) (s : Step) (leaves skips next : List ℕ) (base old new : Spans) (set : List ℕ) (n : VariableSet) → 0 < j → j ≤ length steps → s ≡ get_or steps (j - 1) s
    → ArePlacesOf (actions_of (drop j steps)) (ways n (member leaves) (member skips)) base old next
    → ArePlacesOfStep s old next leaves skips new set
    → ArePlacesOf (actions_of (drop (j - 1) steps)) (ways n (member leaves) (member skips)) base new set
one_more steps j s leaves skips next base old new set n some le is so_far h =
    let back : j - 1 + 1 ≡ j = omega arith in
    let here : drop (j - 1) steps ≡ s ∷ drop j steps = drop_at steps (j - 1) s (omega arith) is ∙ ap (λ (i : ℕ). s ∷ drop i steps) back in
    rw here (h base (actions_of (drop j steps)) n so_far)

-- the same of what is the same
pub moved : (n n' lv lv' sk sk' : List ℕ) (xs xs' : List Step) (old new : Spans) (set : List ℕ) → n ≡ n' → lv ≡ lv' → sk ≡ sk' → xs ≡ xs'
    → ArePlacesOf (actions_of xs) (ways (member n) (member lv) (member sk)) old new set → ArePlacesOf (actions_of xs') (ways (member n') (member lv') (member sk')) old new set
moved n n' lv lv' sk sk' xs xs' old new set a b c d h = rw (← a, ← b, ← c, ← d) h

-- a whole function
pub whole_placed : (old mid new : Spans) (parameters : ℕ) (c : Actions) (next lv sk set entry : List ℕ) → member next ≡ none → member lv ≡ none → member sk ≡ none
    → ArePlacesOf c (ways (member next) (member lv) (member sk)) old mid set → member entry ≡ with_all (member set) (parameters_of parameters) → SeesOne (member entry) mid new → AreSeen [] old
    → AreSeen (function_lives parameters c) new
whole_placed old mid new parameters c next lv sk set entry a b d h e more seen =
    let one = subst (λ (l : VariableSet). ArePlacesOf c (ways l (member lv) (member sk)) old mid set) a h in
    let two = subst (λ (l : VariableSet). ArePlacesOf c (ways none l (member sk)) old mid set) b one in
    let h' = subst (λ (l : VariableSet). ArePlacesOf c (ways none none l) old mid set) d two in
    let nothing = append-nil (lives c nowhere) in
    let same : member entry ≡ with_all (live c nowhere) (parameters_of parameters) = e ∙ ap (λ (l : VariableSet). with_all l (parameters_of parameters)) h'.live in
    subst (λ (l : VariableSet). AreSeen (l ∷ lives c nowhere) new) same (more (lives c nowhere) (subst (λ (l : List VariableSet). AreSeen l mid) nothing (h'.seen [] seen)))
