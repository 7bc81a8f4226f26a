-- The code of steps before other code.
use Rattle.std.proofs.Common.{◌≡◌, ℕ, zero, suc, Option, Some, None, ◌+◌, ◌-◌, ◌<◌, ◌≤◌, Bool, true, false, ◌&&◌, ◌||◌, List, ◌∷◌, length, drop, get_or, refl, ap, sym, subst, ◌∙◌, arith, length-append, []}
use Rattle.std.specs.Prelude.{Vec, slice_get, is_some, if◌then◌else◌}
use Rattle.std.proofs.lemmas.List.{drop_all}
use Rattle.std.specs.declared.alloc.Global.{Global}
use Rattle.dae_ir.specs.Code.{Done, Do, If, Loop}
use Rattle.dae_ir.specs.Classes.{VariableSet}
use Rattle.dae_ir.specs.Streams.{Actions, actions_of, step_onto}
use Rattle.dae_ir.specs.declared.stream.Mark.{Mark}
use Rattle.dae_ir.specs.declared.stream.Action.{Action}
use Rattle.dae_ir.specs.declared.stream.Branch.{Branch}
use Rattle.dae_ir.specs.declared.stream.Step.{Step, Act, If', Loop'}
use Rattle.dae_ir.specs.declared.stream.Step.TheVariants as step
use Rattle.dae_select_walks.specs.Facts.{Facts, unknown, facts_behind, facts_in_first, facts_in_second, facts_past_if, facts_at_turn, facts_at_step, facts_past_loop, need_of}
use Rattle.dae_select_walks.specs.declared.Need.{Need}
use Rattle.dae_select_walks.specs.Agrees.{Plan}
use Rattle.dae_select_walks.specs.declared.VariableStanding.{VariableStanding}
use Rattle.dae_select_walks.specs.declared.VariableStanding.TheVariants.{Settled}
use Rattle.dae_select_walks.specs.Live.{LiveWays, ways, live, before, decided, with_all, turn, body_ways, step_ways, none, nowhere}
use Rattle.dae_select_live.specs.Members.{member}
use Rattle.dae_select_live.proofs.Laws.{onto_if, onto_loop}
use Rattle.dae_select_blocks.proofs.LawsOfBlocks.{by_pairs}
use Rattle.dae_select_blocks.specs.Blocks.{jump_over, jump_back}
use Rattle.dae_select_blocks.specs.Code.{standing_behind, if_settled, pair_standing, block_code, branch_code, back_branch, leaves_first, is_near, has_bottom, does_nothing, past_code}
use Rattle.dae_select.specs.Grown.{Grown, no_code, glue, acting, in_front}
use Rattle.dae_select_facts.specs.Along.{facts_past, facts_after, need_of_step, has_lists, IsBefore}
use Rattle.dae_select.specs.declared.making.PlacedBranch.{PlacedBranch}
use Rattle.dae_select.specs.Growing.{first_test, bottom_of, IsNearTurn, words_behind, turned, facts_in_tail, marked_code, marked_tail, IsCodeOf, standing_after, standing_between, step_before, standing_before, IsTakenBy, IsTakenByStep, IsStepCode}
use Rattle.dae_select.proofs.InFront.{front_of_none, front_assoc, nothing_marked, marked_length}
use Rattle.dae_select.proofs.Counted.{onto_words}
use Rattle.dae_select_blocks.specs.Sizes.{most_words_in}
use Rattle.std.proofs.lemmas.Bool.Decides.{nat_tests}
use Rattle.dae_base.proofs.Laws.{drop_at}
use Rattle.dae_select.specs.declared.making.Exits.{Exits}

module _ (short : Bool) (plan : Plan) (variables : ℕ → ℕ) (f : ℕ) where
  -- so many words behind an action, and its exits
  longer : (rest base : Grown) (more : ℕ) → length (in_front rest base).code + more ≡ length rest.code + (length base.code + more)
  longer rest base more = (let e = length-append rest.code base.code in omega arith)

  pub acted : (exits : Exits) (need : Need) (told : Facts) (s : Step) (m : Mark) (a : Action) (first last : VariableStanding) (old : Grown) (next : List ℕ) (new : Grown) (set : List ℕ) → s ≡ step.Act m a
      → new ≡ in_front (acting m.place (block_code plan variables f need first a last (member next) (jump_over short (length old.code + exits.leaves)) (jump_over short (length old.code + exits.skips)))) old
      → ((n : VariableSet) → member set ≡ before a (member next) (ways n (member exits.leaves_live) (member exits.skips_live)))
      → IsStepCode short plan variables f need told first last exits s old next new set
  acted exits need told s m a first last old next new set is made lives known base k n test stood h0 =
      let x = ways n (member exits.leaves_live) (member exits.skips_live) in
      let later : Facts = facts_behind plan.memory a known in
      let h = subst (λ (z : Step). IsCodeOf short plan variables f last (facts_after plan.memory z known) base exits.leaves exits.skips x k old next) is h0 in
      let code : VariableStanding → Grown = λ g. marked_code short plan variables f g later k x (length base.code + exits.leaves) (length base.code + exits.skips) in
      let rest = code last in
      let block : VariableStanding → VariableSet → ℕ → ℕ → Grown = λ g l i j. acting m.place (block_code plan variables f (need_of plan.memory known a k) first a g l (jump_over short i) (jump_over short j)) in
      let to : length old.code + exits.leaves ≡ length rest.code + (length base.code + exits.leaves) = ap (λ (g : Grown). length g.code + exits.leaves) h.code ∙ longer rest base exits.leaves in
      let on : length old.code + exits.skips ≡ length rest.code + (length base.code + exits.skips) = ap (λ (g : Grown). length g.code + exits.skips) h.code ∙ longer rest base exits.skips in
      let here : VariableStanding → Grown = λ g. block g (live k x) (length (code g).code + (length base.code + exits.leaves)) (length (code g).code + (length base.code + exits.skips)) in
      let tested : need ≡ need_of plan.memory known a k = test.need ∙ ap (λ (z : Step). need_of_step plan.memory known z k) is in
      let inner : new ≡ in_front (in_front (here last) rest) base =
      made ∙ ap (λ (t : Need). in_front (acting m.place (block_code plan variables f t first a last (member next) (jump_over short (length old.code + exits.leaves)) (jump_over short (length old.code + exits.skips)))) old) tested ∙ ap (λ (l : VariableSet). in_front (block last l (length old.code + exits.leaves) (length old.code + exits.skips)) old) h.live
      ∙ ap (λ (l : ℕ). in_front (block last (live k x) l (length old.code + exits.skips)) old) to ∙ ap (λ (l : ℕ). in_front (block last (live k x) (length rest.code + (length base.code + exits.leaves)) l) old) on
      ∙ ap (λ (g : Grown). in_front (here last) g) h.code ∙ sym (front_assoc (here last) rest base) in
      let stands : last ≡ standing_behind a k x = stood ∙ ap (λ (z : Step). standing_after z k x) is in
      let lived : member set ≡ live (Do m a k) x = lives n ∙ ap (λ (l : VariableSet). before a l x) h.live in
      record {
        code = inner ∙ ap (λ (g : VariableStanding). in_front (in_front (here g) (code g)) base) stands ∙ sym (ap (λ (z : Step). in_front (marked_code short plan variables f first known (step_onto z k) x (length base.code + exits.leaves) (length base.code + exits.skips)) base) is);
        live = lived ∙ sym (ap (λ (z : Step). live (step_onto z k) x) is);
      }

  five : (t a j b r base : Grown) → in_front t (in_front a (in_front j (in_front b (in_front r base)))) ≡ in_front (in_front t (in_front a (in_front j (in_front b r)))) base
  five t a j b r base =
      sym (front_assoc t _ base ∙ ap (λ (g : Grown). in_front t g) (front_assoc a _ base ∙ ap (λ (g : Grown). in_front a g) (front_assoc j _ base
      ∙ ap (λ (g : Grown). in_front j g) (front_assoc b r base))))

  -- how far a branch leads
  led : (none : Bool) (all first past second old over : ℕ) → over ≡ second + old → all ≡ first + (past + over) → (none ≡ true → first + past ≡ 0) → all - (if none then old else over) ≡ (if none then second else first + past)
  led true all first past second old over is whole empty = (let no_words = empty refl in omega arith)
  led false all first past second old over is whole empty = omega arith

  pub branched : (exits : Exits) (need : Need) (told : Facts) (g g' : VariableStanding) (s : Step) (m : Mark) (b : Branch) (p q : Vec Step Global) (old : Grown) (next : List ℕ) (set one other : List ℕ) (c1 c2 c3 c4 : Grown) → s ≡ step.If m b p q
      → IsCodeOf short plan variables f Settled (facts_in_second b told) old exits.leaves exits.skips (ways (member next) (member exits.leaves_live) (member exits.skips_live)) (actions_of q.items) c1 other
      → c2 ≡ in_front (glue (past_code short (does_nothing (actions_of p.items) || does_nothing (actions_of q.items)) (length c1.code - length old.code))) c1
      → IsCodeOf short plan variables f Settled (facts_in_first b told) c2 exits.leaves exits.skips (ways (member next) (member exits.leaves_live) (member exits.skips_live)) (actions_of p.items) c3 one
      → c4 ≡ in_front (acting m.place (branch_code (plan.home f) short b (does_nothing (actions_of p.items)) (length c3.code - (if does_nothing (actions_of p.items) then length old.code else length c1.code)))) c3
      → member set ≡ with_all (decided b) (with_all (member one) (member other))
      → IsStepCode short plan variables f need told g g' exits s old next c4 set
  branched exits need told g g' s m b p q old next set one other c1 c2 c3 c4 is second0 e2 first0 e4 lives known base k n test stood h0 =
      let lv = exits.leaves in let sk = exits.skips in
      let x = ways n (member exits.leaves_live) (member exits.skips_live) in
      let P0 = actions_of p.items in let Q0 = actions_of q.items in
      let K = facts_past_if b P0 Q0 known in
      let same : told ≡ known = test.known (ap has_lists is) in
      let second = subst (λ (z : Facts). IsCodeOf short plan variables f Settled (facts_in_second b z) old lv sk (ways (member next) (member exits.leaves_live) (member exits.skips_live)) Q0 c1 other) same second0 in
      let first = subst (λ (z : Facts). IsCodeOf short plan variables f Settled (facts_in_first b z) c2 lv sk (ways (member next) (member exits.leaves_live) (member exits.skips_live)) P0 c3 one) same first0 in
      let past_is : facts_after plan.memory s known ≡ K = ap (λ (c : Actions). facts_past plan.memory c known) (ap (λ (z : Step). step_onto z Done) is ∙ onto_if m b p q Done) in
      let h = subst (λ (z : Facts). IsCodeOf short plan variables f Settled z base exits.leaves exits.skips x k old next) past_is
      (subst (λ (st : VariableStanding). IsCodeOf short plan variables f st (facts_after plan.memory s known) base exits.leaves exits.skips x k old next) (stood ∙ ap (λ (z : Step). standing_after z k x) is) h0) in
      let none = does_nothing (actions_of p.items) in let none' = none || does_nothing (actions_of q.items) in
      let rest = marked_code short plan variables f Settled K k x (length base.code + lv) (length base.code + sk) in
      let code : Facts → Actions → VariableSet → ℕ → ℕ → Grown = λ z c l. marked_code short plan variables f Settled z c (ways l (member exits.leaves_live) (member exits.skips_live)) in
      let past : ℕ → Grown = λ w. glue (past_code short none' w) in
      let test : ℕ → Grown = λ w. acting m.place (branch_code (plan.home f) short b none w) in
      let Z = facts_in_second b known in let Y = facts_in_first b known in
      let Q = code Z (actions_of q.items) (live k x) (length rest.code + (length base.code + lv)) (length rest.code + (length base.code + sk)) in
      let long : length old.code ≡ length rest.code + length base.code = ap (λ (g : Grown). length g.code) h.code ∙ length-append rest.code base.code in
      let q1 : length old.code + lv ≡ length rest.code + (length base.code + lv) = omega arith in
      let q2 : length old.code + sk ≡ length rest.code + (length base.code + sk) = omega arith in
      let is1 : c1 ≡ in_front Q old =
      second.code ∙ ap (λ (l : VariableSet). in_front (code Z (actions_of q.items) l (length old.code + lv) (length old.code + sk)) old) h.live
      ∙ ap (λ (l : ℕ). in_front (code Z (actions_of q.items) (live k x) l (length old.code + sk)) old) q1 ∙ ap (λ (l : ℕ). in_front (code Z (actions_of q.items) (live k x) (length rest.code + (length base.code + lv)) l) old) q2 in
      let long1 : length c1.code ≡ length Q.code + length old.code = ap (λ (g : Grown). length g.code) is1 ∙ length-append Q.code old.code in
      let n1 : length c1.code - length old.code ≡ length Q.code = omega arith in
      let J = past (length Q.code) in
      let is2 : c2 ≡ in_front J c1 = e2 ∙ ap (λ (l : ℕ). in_front (past l) c1) n1 in
      let long2 : length c2.code ≡ length J.code + length c1.code = ap (λ (g : Grown). length g.code) is2 ∙ length-append J.code c1.code in
      let far : ℕ = length J.code + length Q.code + length rest.code in
      let p1 : length c2.code + lv ≡ far + (length base.code + lv) = omega arith in
      let p2 : length c2.code + sk ≡ far + (length base.code + sk) = omega arith in
      let P = code Y (actions_of p.items) (live k x) (far + (length base.code + lv)) (far + (length base.code + sk)) in
      let is3 : c3 ≡ in_front P c2 =
      first.code ∙ ap (λ (l : VariableSet). in_front (code Y (actions_of p.items) l (length c2.code + lv) (length c2.code + sk)) c2) h.live
      ∙ ap (λ (l : ℕ). in_front (code Y (actions_of p.items) (live k x) l (length c2.code + sk)) c2) p1 ∙ ap (λ (l : ℕ). in_front (code Y (actions_of p.items) (live k x) (far + (length base.code + lv)) l) c2) p2 in
      let long3 : length c3.code ≡ length P.code + length c2.code = ap (λ (g : Grown). length g.code) is3 ∙ length-append P.code c2.code in
      let empty : none ≡ true → length P.code + length J.code ≡ 0 = λ e.
      (let a = nothing_marked short plan variables f Y (actions_of p.items) (ways (live k x) (member exits.leaves_live) (member exits.skips_live)) (far + (length base.code + lv)) (far + (length base.code + sk)) e in
      let b : length J.code ≡ 0 = rw e refl in omega arith) in
      let n = if none then length Q.code else length P.code + length J.code in
      let n3 : length c3.code - (if none then length old.code else length c1.code) ≡ n = led none (length c3.code) (length P.code) (length J.code) (length Q.code) (length old.code) (length c1.code) long1 (omega arith) empty in
      let all : c4 ≡ in_front (test n) (in_front P (in_front J (in_front Q (in_front rest base)))) =
      e4 ∙ ap (λ (l : ℕ). in_front (test l) c3) n3 ∙ ap (λ (g : Grown). in_front (test n) g) is3 ∙ ap (λ (g : Grown). in_front (test n) (in_front P g)) is2
      ∙ ap (λ (g : Grown). in_front (test n) (in_front P (in_front J g))) is1 ∙ ap (λ (g : Grown). in_front (test n) (in_front P (in_front J (in_front Q g)))) h.code in
      let whole : step_onto s k ≡ If m b (actions_of p.items) (actions_of q.items) k = ap (λ (z : Step). step_onto z k) is ∙ onto_if m b p q k in
      let lived : member set ≡ live (If m b (actions_of p.items) (actions_of q.items) k) x = rw (lives, first.live, second.live, h.live) refl in
      record {
        code = all ∙ five (test n) P J Q rest base ∙ sym (ap (λ (c : Actions). in_front (marked_code short plan variables f g known c x (length base.code + lv) (length base.code + sk)) base) whole);
        live = lived ∙ sym (ap (λ (c : Actions). live c x) whole);
      }

  four : (a b j r base : Grown) → in_front a (in_front b (in_front j (in_front r base))) ≡ in_front (in_front a (in_front b (in_front j r))) base
  four a b j r base = sym (front_assoc a _ base ∙ ap (λ (g : Grown). in_front a g) (front_assoc b _ base ∙ ap (λ (g : Grown). in_front b g) (front_assoc j r base)))

  -- in front of code in front of other code
  turned_assoc : (test : Option PlacedBranch) (a b r base : Grown) → turned (plan.home f) short test a b (in_front r base) ≡ in_front (turned (plan.home f) short test a b r) base
  turned_assoc None a b r base = four a b (glue (jump_back short (length a.code + length b.code))) r base
  turned_assoc (Some t) a b r base = (let n = length a.code + length b.code in five (glue (jump_over short n)) a b (acting t.place (back_branch (plan.home f) t.branch true n)) r base)

  -- what of a body stands before the step
  abbrev inner_of : Option PlacedBranch → Facts → Actions → LiveWays → ℕ → Grown
  inner_of test known body y l = if is_some test then marked_tail short plan variables f known body y l 0 else marked_code short plan variables f Settled known body y l 0

  inner_is : (known : Facts) (steps : List Step) (again : Actions) (test : Option PlacedBranch) (y : LiveWays) (l : ℕ) → test ≡ bottom_of (actions_of steps) again
      → marked_code short plan variables f Settled (facts_in_tail test (actions_of steps) known) (actions_of (drop (if is_some test then 1 else 0) steps)) y l 0 ≡ inner_of test known (actions_of steps) y l
  inner_is known steps again None y l e = refl
  inner_is known [] again (Some t) y l e = absurd cc
  inner_is known (Act m a ∷ steps) again (Some t) y l e = absurd cc
  inner_is known (If' m b i p j q ∷ steps) again (Some t) y l e = refl
  inner_is known (Loop' m i p j q ∷ steps) again (Some t) y l e = absurd cc

  some_is : (c : Bool) (o : Option PlacedBranch) (t : PlacedBranch) → Some t ≡ (if c then o else None) → c ≡ true
  some_is true o t e = refl
  some_is false o t e = absurd cc

  both_are : (b c : Bool) → (b && c) ≡ true → c ≡ true
  both_are true c e = e
  both_are false c e = absurd cc

  tail_short : (steps : List Step) → most_words_in (actions_of (drop 1 steps)) ≤ most_words_in (actions_of steps)
  tail_short [] = omega arith
  tail_short (s ∷ steps) = (let e = onto_words s (actions_of steps) in omega arith)

  pub near_turn : (test : Option PlacedBranch) (steps again : List Step) (tail : List Step) (l k : ℕ) (x y : LiveWays) (c1 c2 : Grown) (set other : List ℕ) (A T : Facts) → test ≡ bottom_of (actions_of steps) (actions_of again) → tail ≡ drop (if is_some test then 1 else 0) steps
      → IsCodeOf short plan variables f Settled A no_code l 0 x (actions_of again) c1 set → IsCodeOf short plan variables f Settled T no_code k 0 y (actions_of tail) c2 other → IsNearTurn test c2 c1
  near_turn None steps again tail l k x y c1 c2 set other A T below left one two = tt
  near_turn (Some t) steps again tail l k x y c1 c2 set other A T below left one two =
      let B = actions_of steps in let S = actions_of again in
      let is : is_near B S ≡ true = both_are (leaves_first B) (is_near B S) (some_is (has_bottom B S) (first_test B) t below) in
      let near : most_words_in B + most_words_in S < 900 = grind (arith, nat_tests) in
      let e1 = ap (λ (g : Grown). length g.code) (one.code ∙ front_of_none _) in
      let e2 = ap (λ (g : Grown). length g.code) (two.code ∙ front_of_none _) in
      let l1 = marked_length short plan variables f A S x (0 + l) 0 in
      let l2 = marked_length short plan variables f T (actions_of tail) y (0 + k) 0 in
      let shorter = tail_short steps in
      let same : most_words_in (actions_of tail) ≡ most_words_in (actions_of (drop 1 steps)) = ap (λ (z : List Step). most_words_in (actions_of z)) left in
      omega arith

  pub looped : (exits : Exits) (need : Need) (told : Facts) (g g' : VariableStanding) (s : Step) (m : Mark) (p q : Vec Step Global) (old : Grown) (next begins again set : List ℕ) (c1 c2 new : Grown) (test : Option PlacedBranch) (words : ℕ) (tail : List Step) → s ≡ step.Loop m p q
      → member begins ≡ turn (actions_of p.items) (actions_of q.items) (member next)
      → test ≡ bottom_of (actions_of p.items) (actions_of q.items) → words ≡ words_behind (plan.home f) short test → tail ≡ drop (if is_some test then 1 else 0) p.items
      → IsCodeOf short plan variables f Settled (facts_at_step plan.memory (actions_of p.items) (actions_of q.items) told) no_code words 0 (ways (member begins) (member next) (member begins)) (actions_of q.items) c1 again
      → IsCodeOf short plan variables f Settled (facts_in_tail test (actions_of p.items) (facts_at_turn plan.memory (actions_of p.items) (actions_of q.items) told)) no_code (length c1.code + words) 0 (ways (member again) (member next) (member again)) (actions_of tail) c2 set
      → new ≡ turned (plan.home f) short test c2 c1 old
      → IsStepCode short plan variables f need told g g' exits s old next new begins
  looped exits need told g g' s m p q old next begins again set c1 c2 new test words tail is first below count left step0 body0 made known base k n test_is stood h0 =
      let x = ways n (member exits.leaves_live) (member exits.skips_live) in
      let B0 = actions_of p.items in let S0 = actions_of q.items in
      let K = facts_past_loop B0 S0 known in let A = facts_at_step plan.memory B0 S0 known in let T0 = facts_at_turn plan.memory B0 S0 known in
      let F = facts_in_tail test B0 T0 in
      let same : told ≡ known = test_is.known (ap has_lists is) in
      let step = subst (λ (z : Facts). IsCodeOf short plan variables f Settled (facts_at_step plan.memory B0 S0 z) no_code words 0 (ways (member begins) (member next) (member begins)) S0 c1 again) same step0 in
      let body = subst (λ (z : Facts). IsCodeOf short plan variables f Settled (facts_in_tail test B0 (facts_at_turn plan.memory B0 S0 z)) no_code (length c1.code + words) 0 (ways (member again) (member next) (member again)) (actions_of tail) c2 set) same body0 in
      let past_is : facts_after plan.memory s known ≡ K = ap (λ (c : Actions). facts_past plan.memory c known) (ap (λ (z : Step). step_onto z Done) is ∙ onto_loop m p q Done) in
      let h = subst (λ (z : Facts). IsCodeOf short plan variables f Settled z base exits.leaves exits.skips x k old next) past_is
      (subst (λ (st : VariableStanding). IsCodeOf short plan variables f st (facts_after plan.memory s known) base exits.leaves exits.skips x k old next) (stood ∙ ap (λ (z : Step). standing_after z k x) is) h0) in
      let rest = marked_code short plan variables f Settled K k x (length base.code + exits.leaves) (length base.code + exits.skips) in
      let B = actions_of p.items in let S = actions_of q.items in let N : VariableSet = live k x in
      let W = words_behind (plan.home f) short test in
      let T : member begins ≡ turn B S N = first ∙ ap (turn B S) h.live in
      let steps : VariableSet → VariableSet → LiveWays = λ t u. ways t u t in
      let again_ways : ways (member begins) (member next) (member begins) ≡ step_ways B S N = ap (λ (t : VariableSet). steps t (member next)) T ∙ ap (λ (u : VariableSet). steps (turn B S N) u) h.live in
      let step_made = marked_code short plan variables f Settled A S (step_ways B S N) W 0 in
      let zero : 0 + words ≡ W = omega arith in
      let is1 : c1 ≡ step_made = step.code ∙ front_of_none _ ∙ ap (λ (l : ℕ). marked_code short plan variables f Settled A S (ways (member begins) (member next) (member begins)) l 0) zero ∙ ap (λ (y : LiveWays). marked_code short plan variables f Settled A S y W 0) again_ways in
      let step_live : member again ≡ live S (step_ways B S N) = step.live ∙ ap (live S) again_ways in
      let turn_ways : ways (member again) (member next) (member again) ≡ body_ways B S N = ap (λ (t : VariableSet). steps t (member next)) step_live ∙ ap (λ (u : VariableSet). steps (live S (step_ways B S N)) u) h.live in
      let to = length step_made.code + W in
      let body_made = inner_of test T0 B (body_ways B S N) to in
      let none : 0 + (length c1.code + words) ≡ to = ap (λ (g : Grown). 0 + (length g.code + words)) is1 ∙ omega arith in
      let is2 : c2 ≡ body_made = body.code ∙ front_of_none _ ∙ ap (λ (y : LiveWays). marked_code short plan variables f Settled F (actions_of tail) y (0 + (length c1.code + words)) 0) turn_ways ∙ ap (λ (l : ℕ). marked_code short plan variables f Settled F (actions_of tail) (body_ways B S N) l 0) none
      ∙ ap (λ (l : List Step). marked_code short plan variables f Settled F (actions_of l) (body_ways B S N) to 0) left ∙ inner_is T0 p.items S test (body_ways B S N) to below in
      let all : new ≡ turned (plan.home f) short test body_made step_made (in_front rest base) =
      made ∙ ap (λ (g : Grown). turned (plan.home f) short test g c1 old) is2 ∙ ap (λ (g : Grown). turned (plan.home f) short test body_made g old) is1 ∙ ap (λ (g : Grown). turned (plan.home f) short test body_made step_made g) h.code in
      let loop : Option PlacedBranch → Grown = λ o.
      (let step' = marked_code short plan variables f Settled A S (step_ways B S N) (words_behind (plan.home f) short o) 0 in turned (plan.home f) short o (inner_of o T0 B (body_ways B S N) (length step'.code + words_behind (plan.home f) short o)) step' rest) in
      let whole : step_onto s k ≡ Loop m B S k = ap (λ (z : Step). step_onto z k) is ∙ onto_loop m p q k in
      record {
        code = all ∙ turned_assoc test body_made step_made rest base ∙ ap (λ (o : Option PlacedBranch). in_front (loop o) base) below ∙ sym (ap (λ (c : Actions). in_front (marked_code short plan variables f g known c x (length base.code + exits.leaves) (length base.code + exits.skips)) base) whole);
        live = T ∙ sym (ap (λ (c : Actions). live c x) whole);
      }

  -- ---- a list of steps

  pub none_done : (g : VariableStanding) (known : Facts) (steps : List Step) (base : Grown) (leaves skips : ℕ) (next : List ℕ) (lv sk : VariableSet) → IsCodeOf short plan variables f g known base leaves skips (ways (member next) lv sk) (actions_of (drop (length steps) steps)) base next
  none_done g known steps base leaves skips next lv sk =
      let none : drop (length steps) steps ≡ [] = drop_all (length steps) steps (omega arith) in
      rw none (record { code = refl; live = refl })

  pub one_more : (exits : Exits) (known : Facts) (need : Need) (told : Facts) (steps : List Step) (j : ℕ) (s : Step) (base old : Grown) (next : List ℕ) (new : Grown) (set : List ℕ) (n : VariableSet) (g g' : VariableStanding) → 0 < j → j ≤ length steps → s ≡ get_or steps (j - 1) s
      → g' ≡ standing_after s (actions_of (drop j steps)) (ways n (member exits.leaves_live) (member exits.skips_live))
      → IsCodeOf short plan variables f g' (facts_after plan.memory s known) base exits.leaves exits.skips (ways n (member exits.leaves_live) (member exits.skips_live)) (actions_of (drop j steps)) old next
      → IsBefore plan.memory known s (actions_of (drop j steps)) need told → IsStepCode short plan variables f need told g g' exits s old next new set
      → IsCodeOf short plan variables f g known base exits.leaves exits.skips (ways n (member exits.leaves_live) (member exits.skips_live)) (actions_of (drop (j - 1) steps)) new set
  one_more exits known need told steps j s base old next new set n g g' some le is stood so_far test h =
      let back : j - 1 + 1 ≡ j = omega arith in
      let here : drop (j - 1) steps ≡ s ∷ drop j steps = drop_at steps (j - 1) s (omega arith) is ∙ ap (λ (i : ℕ). s ∷ drop i steps) back in
      rw here (h known base (actions_of (drop j steps)) n test stood so_far)

  -- the same of what is the same
  pub moved_code : (st : VariableStanding) (known known' : Facts) (base base' : Grown) (l l' k k' : ℕ) (n lv lv' sk sk' : List ℕ) (xs xs' : List Step) (new : Grown) (set : List ℕ) → known ≡ known' → base ≡ base' → l ≡ l' → k ≡ k' → lv ≡ lv' → sk ≡ sk' → xs ≡ xs'
      → IsCodeOf short plan variables f st known base l k (ways (member n) (member lv) (member sk)) (actions_of xs) new set → IsCodeOf short plan variables f st known' base' l' k' (ways (member n) (member lv') (member sk')) (actions_of xs') new set
  moved_code st known known' base base' l l' k k' n lv lv' sk sk' xs xs' new set z a b c d e g h = rw (← z, ← a, ← b, ← c, ← d, ← e, ← g) h

  -- a whole function's actions
  pub bare : (known : Facts) (old new : Grown) (next lv sk set : List ℕ) (c : Actions) → known ≡ unknown → old ≡ no_code → member next ≡ none → member lv ≡ none → member sk ≡ none
      → IsCodeOf short plan variables f Settled known old 0 0 (ways (member next) (member lv) (member sk)) c new set → (new ≡ marked_code short plan variables f Settled unknown c nowhere 0 0) × (member set ≡ live c nowhere)
  bare known old new next lv sk set c nothing a b d e h0 =
      let h = subst (λ (z : Facts). IsCodeOf short plan variables f Settled z old 0 0 (ways (member next) (member lv) (member sk)) c new set) nothing h0 in
      let one = subst (λ (o : Grown). IsCodeOf short plan variables f Settled unknown o 0 0 (ways (member next) (member lv) (member sk)) c new set) a h in
      let two = subst (λ (n : VariableSet). IsCodeOf short plan variables f Settled unknown no_code 0 0 (ways n (member lv) (member sk)) c new set) b one in
      let three = subst (λ (n : VariableSet). IsCodeOf short plan variables f Settled unknown no_code 0 0 (ways none n (member sk)) c new set) d two in
      let h' = subst (λ (n : VariableSet). IsCodeOf short plan variables f Settled unknown no_code 0 0 (ways none none n) c new set) e three in
      (h'.code ∙ front_of_none _, h'.live)

-- ---- how things stand

pub between_before : (o : Option Step) (s : Step) (k : Actions) (x : LiveWays) (g : VariableStanding) → g ≡ standing_after s k x → standing_between o s (live k x) g ≡ standing_before o (step_onto s k) x
between_before None s k x g e = refl
between_before (Some (Act m a)) (Act m' b) k x g e = ap (λ (st : VariableStanding). if_settled st (pair_standing a b (live k x))) e
between_before (Some (Act m a)) (If' m' b i p j q) k x g e = refl
between_before (Some (Act m a)) (Loop' m' i p j q) k x g e = refl
between_before (Some (If' m b i p j q)) s k x g e = refl
between_before (Some (Loop' m i p j q)) s k x g e = refl

-- what is done early reads once what is taken
taken_once : (a : Action) (k : Actions) (x : LiveWays) → IsTakenBy (standing_behind a k x) a
taken_once a k x =
    by_pairs (λ (a : Action) (k : Actions) (g : VariableStanding). IsTakenBy g a) x (λ a k. tt) (λ t y m b k e passes dead. tt) (λ v m d y k e once dead. once)
    (λ v m d y k e once dead. once) a k

pub taken_behind : (s : Step) (k : Actions) (x : LiveWays) (g : VariableStanding) → g ≡ standing_after s k x → IsTakenByStep g s
taken_behind (Act m a) k x g e = rw e (taken_once a k x)
taken_behind (If' m b i p j q) k x g e = tt
taken_behind (Loop' m i p j q) k x g e = tt

found : (steps : List Step) (i : ℕ) (s : Step) → i < length steps → s ≡ get_or steps i s → slice_get steps i ≡ Some s
found [] i s h is = absurd (omega arith)
found (x ∷ xs) zero s h is = ap Some (sym is)
found (x ∷ xs) (suc i) s h is = found xs i s (omega arith) is

pub before_is : (steps : List Step) (j : ℕ) (s : Step) → 0 < j → j ≤ length steps → s ≡ get_or steps (j - 1) s → step_before steps j ≡ Some s
before_is steps zero s some le is = absurd (omega arith)
before_is steps (suc i) s some le is = (let one : suc i - 1 ≡ i = omega arith in found steps i s (omega arith) (subst (λ (n : ℕ). s ≡ get_or steps n s) one is))

settled_end : (o : Option Step) (x : LiveWays) → Settled ≡ standing_before o Done x
settled_end None x = refl
settled_end (Some (Act m a)) x = refl
settled_end (Some (If' m b i p j q)) x = refl
settled_end (Some (Loop' m i p j q)) x = refl

pub stands_at_end : (steps : List Step) (o : Option Step) (x : LiveWays) → Settled ≡ standing_before o (actions_of (drop (length steps) steps)) x
stands_at_end steps o x = (let none : drop (length steps) steps ≡ [] = drop_all (length steps) steps (omega arith) in rw none (settled_end o x))

pub stands_before : (steps : List Step) (j : ℕ) (s : Step) (set : List ℕ) (x : LiveWays) (g g' : VariableStanding) → 0 < j → j ≤ length steps → s ≡ get_or steps (j - 1) s
    → g' ≡ standing_after s (actions_of (drop j steps)) x → member set ≡ live (actions_of (drop j steps)) x → g ≡ standing_between (step_before steps (j - 1)) s (member set) g'
    → g ≡ standing_before (step_before steps (j - 1)) (actions_of (drop (j - 1) steps)) x
stands_before steps j s set x g g' some le is stood lives e =
    let back : j - 1 + 1 ≡ j = omega arith in
    let here : drop (j - 1) steps ≡ s ∷ drop j steps = drop_at steps (j - 1) s (omega arith) is ∙ ap (λ (i : ℕ). s ∷ drop i steps) back in
    e ∙ ap (λ (l : VariableSet). standing_between (step_before steps (j - 1)) s l g') lives ∙ between_before (step_before steps (j - 1)) s (actions_of (drop j steps)) x g' stood
    ∙ sym (ap (λ (l : List Step). standing_before (step_before steps (j - 1)) (actions_of l) x) here)
