-- Jumps and branches: the processor goes on elsewhere, and agrees with the same moment.
use Rattle.std.proofs.Common.{◌≡◌, ℕ, ◌+◌, ◌-◌, ◌*◌, ◌/◌, ◌%◌, ◌^◌, ◌<◌, ◌≤◌, Bool, true, false, not, List, ◌∷◌, ◌++◌, length, refl, sym, ap, ◌∙◌, subst, arith, append-nil, append_assoc, length-append, []}
use Rattle.std.specs.Prelude.{zero, suc, nat_eq, nat_lt, int_lt, if◌then◌else◌, slice_get, Option, Some, None, ℤ, pos}
use Rattle.std.proofs.lemmas.Bool.Decides.{nat_tests}
use Rattle.dae_base.specs.Words.{plus, word, signed}
use Rattle.dae_base.specs.declared.Queue.{Queue}
use Rattle.dae_base.proofs.Laws.{plus_small}
use Rattle.dae_encode.specs.declared.QueueUse.{QueueUse}
use Rattle.dae_encode.specs.declared.QueueUse.TheVariants.{Nothing, Take as Takes}
use Rattle.dae_encode.specs.declared.Inst.{Inst}
use Rattle.dae_encode.specs.declared.Inst.TheVariants.{Auipc, Jal, Jalr}
use Rattle.dae_encode.specs.declared.InstructionForm.TheVariants.{Computes}
use Rattle.dae_encode.specs.Instructions.{flag, effect, branch}
use Rattle.dae_encode.specs.Spelling.{decode}
use Rattle.dae_encode.specs.Uses.{queue_use}
use Rattle.dae_encode.specs.Processor.{Processor}
use Rattle.dae_encode.proofs.Laws.{flag_small}
use Rattle.dae_ir.specs.Classes.{VariableSet}
use Rattle.dae_meaning.specs.Variables.{Env}
use Rattle.dae_meaning.specs.Operations.{compared}
use Rattle.dae_meaning.specs.declared.Comparison.{Comparison}
use Rattle.dae_meaning.specs.declared.Comparison.TheVariants.{Equal, NotEqual, LessSigned, AtLeastSigned, LessUnsigned, AtLeastUnsigned}
use Rattle.dae_ir.specs.Form.{value, holds}
use Rattle.dae_ir.specs.Deeds.{Went, Push, told_on, heard_on}
use Rattle.dae_ir.specs.declared.form.Operand.{Operand}
use Rattle.dae_ir.specs.declared.form.Test.{Test}
use Rattle.dae_select_walks.specs.Walks.{WalkSetting, Comes, Nears, Acts}
use Rattle.dae_select_walks.specs.Does.{Does, event}
use Rattle.dae_select_walks.specs.Live.{in_test}
use Rattle.dae_select_walks.specs.Homes.{Contents}
use Rattle.dae_select_walks.specs.Agrees.{Plan, Moment, Shows, Stands}
use Rattle.dae_select_walks.proofs.LawsOfWalks.{comes_here, nears_map, comes_map, comes_more, comes_then, acts_map}
use Rattle.dae_select_walks.specs.Layout.{CodeAt}
use Rattle.dae_select_walks.proofs.LawsOfWalks.{put, read, step}
use Rattle.dae_select_blocks.specs.Blocks.{upper, lower, source, fetch, near_offset, jump_by, jump_words, jump_over, jump_back, branch_inst, opposite, one_way, goes_by, goes_code, test_code, tell_number_code, against_zero, immediate_of, back_offset, goes_back}
use Rattle.dae_select_blocks.specs.Code.{told_by, branch_by, ahead_by}
use Rattle.dae_select_blocks.proofs.Runs.{runs_nothing, runs_push, code_take, code_drop}
use Rattle.dae_ir.specs.declared.stream.Branch.TheVariants.{Silent, Tells, Hears}
use Rattle.dae_select_blocks.specs.Fits.{Fits}
use Rattle.dae_select_blocks.proofs.Halves.{halves_to, near_ahead, near_back}
use Rattle.dae_select_blocks.proofs.Plain.{plain_computes, plain_read, put_nowhere, Computed, pushes_word}
use Rattle.dae_select_blocks.proofs.Agreement.{Ready, ready_like}
use Rattle.dae_select_blocks.proofs.Operands.{like_put}
use Rattle.dae_select_blocks.specs.Wanted.{IsNumber}
use Rattle.dae_select_blocks.proofs.Computing.{is_scratch, source_plain, runs_two, immediate_is, runs_compare_operands, runs_told_number}
use Rattle.dae_select_blocks.proofs.Uses.{pushes_flag, hears_message}

-- whether a branch goes ahead, which does so where its condition holds, or where it doesn't
abbrev pub goes_if : Bool → Bool → Bool
goes_if true b = b
goes_if false b = not b

twice : (b : Bool) → b ≡ not (not b)
twice true = refl
twice false = refl

branch_is : (relation : Comparison) (x y : ℕ) (offset : ℤ) → effect (branch_inst relation x y offset) ≡ branch x y offset (compared relation)
unfolding compared
branch_is Equal x y offset = refl
branch_is NotEqual x y offset = refl
branch_is LessSigned x y offset = refl
branch_is AtLeastSigned x y offset = refl
branch_is LessUnsigned x y offset = refl
branch_is AtLeastUnsigned x y offset = refl

opposite_compared : (relation : Comparison) (x y : ℕ) → compared (opposite relation) x y ≡ not (compared relation x y)
unfolding compared
opposite_compared Equal x y = refl
opposite_compared NotEqual x y = twice (nat_eq x y)
opposite_compared LessSigned x y = refl
opposite_compared AtLeastSigned x y = twice (int_lt (signed x) (signed y))
opposite_compared LessUnsigned x y = refl
opposite_compared AtLeastUnsigned x y = twice (nat_lt x y)

one_way_compared : (way : Bool) (relation : Comparison) (x y : ℕ) → compared (one_way way relation) x y ≡ goes_if way (compared relation x y)
one_way_compared true relation x y = refl
one_way_compared false relation x y = opposite_compared relation x y

differs : (x y : ℕ) → compared NotEqual x y ≡ not (nat_eq x y)
unfolding compared
differs x y = refl

-- ---- lengths

pub jump_long : (short : Bool) (n : ℕ) → length (jump_over short n) ≡ jump_words short
jump_long true n = refl
jump_long false n = refl

pub back_long : (short : Bool) (n : ℕ) → length (jump_back short n) ≡ jump_words short
back_long true n = refl
back_long false n = refl

pub words_few : (short : Bool) → jump_words short ≤ 2
words_few true = omega arith
words_few false = omega arith

by_some : (t short : Bool) (relation : Comparison) (x y n : ℕ) → 1 ≤ length (goes_by t short relation x y n)
by_some true short relation x y n = omega arith
by_some false short relation x y n = omega arith

goes_some : (short : Bool) (relation : Comparison) (x y n : ℕ) → 1 ≤ length (goes_code short relation x y n)
goes_some short relation x y n = by_some (nat_lt n 1000) short relation x y n

pub hears_some : (short way : Bool) (n : ℕ) → 1 ≤ length (goes_code short (one_way way NotEqual) 29 0 n)
hears_some short way n = goes_some short (one_way way NotEqual) 29 0 n

-- with so many instructions more behind it
nears_more : (s : WalkSetting) {n : ℕ} {p : Processor} {Q R : ℕ → Processor → Type 0} (k : ℕ) → ((l : ℕ) (q : Processor) → Q l q → R (l + k) q) → Nears s n p Q → Nears s (n + k) p R
nears_more s k f h = let short = h.short in record { last = h.last; steps = h.steps; quiet = h.quiet; left = h.left + k; short = (omega arith); holds = f h.left h.last h.holds }

module _ (s : WalkSetting) (plan : Plan) (variables : ℕ → ℕ) (fine : Fits s plan variables) where
  abbrev pub ready : {live : VariableSet} {m : Moment} {k : ℕ} {p : Processor} (h : Stands plan live m k p) → Ready plan live m h.contents
  ready h = record { zero = h.shows.zero; fits = h.shows.fits; small = h.shows.holds; agrees = h.agrees }

  -- by so many bytes from the first word, whatever the moment
  jumps_turn : {c : Contents} {k : ℕ} {p : Processor} (bytes k' : ℕ) → bytes < 2 ^ 32 → k < 2 ^ 29 → k' < 2 ^ 29 → plus (4 * k) bytes ≡ 4 * k' → CodeAt s.code k (jump_by bytes) → Shows plan.private c k p → (v : ℕ) × Acts s p (event Nothing v 0 []) (λ r. Comes s 1 r (λ q. (u : ℕ) × (u < 2 ^ 32) × Shows plan.private (put 5 u c) k' q))
  jumps_turn {c} {k} bytes k' fits small small' lands at h =
      let u : ℕ = plus (4 * k) (word (upper bytes)) in
      let first = step s plan.private (Auipc 5 (upper bytes)) 5 0 0 0 (k + 1) at.0 (λ pc x y. plus pc (word (upper bytes))) (λ pc x y. plus pc 4) Nothing h at.1 at.2 refl (plain_computes s.copies s.side 5 0 0 (omega arith) (omega arith) (omega arith)) (plus_small (4 * k) (word (upper bytes))) (omega arith) in
      let swap : plus (4 * k) (word (upper bytes)) ≡ plus (word (upper bytes)) (4 * k) = omega arith in
      let target : plus u (word (lower bytes)) ≡ 4 * k' = rw swap (halves_to bytes (4 * k) fits ∙ lands) in
      let to : plus u (word (lower bytes)) / 2 * 2 ≡ 4 * k' = rw target (omega arith) in
      let second = step s plan.private (Jalr 0 5 (lower bytes)) 0 5 0 0 k' at.3.0 (λ pc x y. plus pc 4) (λ pc x y. plus x (word (lower bytes)) / 2 * 2) Nothing first.holds at.3.1 at.3.2 refl (plain_computes s.copies s.side 0 5 0 (omega arith) (omega arith) (omega arith)) (plus_small (4 * (k + 1)) 4) to in
      (_, record { next = first.next; goes = first.goes; holds = comes_more s second.goes (comes_here s {n = 0} (u, plus_small (4 * k) (word (upper bytes)), rw (put_nowhere 0 (plus (4 * (k + 1)) 4) (put 5 u c) refl) at second.holds)) })

  turns_by : {live : VariableSet} {m : Moment} {k : ℕ} {p : Processor} (bytes k' : ℕ) → bytes < 2 ^ 32 → k < 2 ^ 29 → k' < 2 ^ 29 → plus (4 * k) bytes ≡ 4 * k' → CodeAt s.code k (jump_by bytes) → Stands plan live m k p → (v : ℕ) × Acts s p (event Nothing v 0 []) (λ r. Comes s 1 r (Stands plan live m k'))
  turns_by bytes k' fits small small' lands at h =
      let a = jumps_turn bytes k' fits small small' lands at h.shows in
      (a.0, acts_map s (λ r c. comes_map s 1 (omega arith) (λ q g. record { contents = put 5 g.0 h.contents; shows = g.2; agrees = (ready_like s plan variables fine 5 (is_scratch plan 5 (omega arith) (omega arith)) (like_put 5 g.0 h.contents g.1 h.shows.fits) (ready h)).agrees }) c) a.1)

  -- a JAL, whatever the moment
  jal_leads : {c : Contents} {k : ℕ} {p : Processor} (offset : ℤ) (k' : ℕ) → k < 2 ^ 29 → plus (4 * k) (word offset) ≡ 4 * k' → CodeAt s.code k (Jal 0 offset ∷ []) → Shows plan.private c k p → (v : ℕ) × Acts s p (event Nothing v 0 []) (Shows plan.private c k')
  jal_leads {c} {k} offset k' small lands at h =
      let one = step s plan.private (Jal 0 offset) 0 0 0 0 k' at.0 (λ pc x y. plus pc 4) (λ pc x y. plus pc (word offset)) Nothing h at.1 at.2 refl (plain_computes s.copies s.side 0 0 0 (omega arith) (omega arith) (omega arith)) (plus_small (4 * k) 4) lands in
      (plus (4 * k) 4, rw (put_nowhere 0 (plus (4 * k) 4) c refl) at one)

  turns_near : {live : VariableSet} {m : Moment} {k : ℕ} {p : Processor} (offset : ℤ) (k' : ℕ) → k < 2 ^ 29 → plus (4 * k) (word offset) ≡ 4 * k' → CodeAt s.code k (Jal 0 offset ∷ []) → Stands plan live m k p → (v : ℕ) × Acts s p (event Nothing v 0 []) (λ r. Comes s 1 r (Stands plan live m k'))
  turns_near offset k' small lands at h =
      let a = jal_leads offset k' small lands at h.shows in
      (a.0, acts_map s (λ r shows. comes_here s {n = 1} (record { contents = h.contents; shows = shows; agrees = h.agrees })) a.1)

  -- over n words behind the jump, and back by n words before it: a short jump reaches 2 ^ 18 words
  pub turns_over : {live : VariableSet} {m : Moment} {k : ℕ} {p : Processor} (short : Bool) (n : ℕ) → k + jump_words short + n < 2 ^ 29 → (short ≡ true → n + 1 < 2 ^ 18) → CodeAt s.code k (jump_over short n) → Stands plan live m k p →
      (v : ℕ) × Acts s p (event Nothing v 0 []) (λ r. Comes s 1 r (Stands plan live m (k + jump_words short + n)))
  turns_over {k = k} true n small reach at h =
      let near = near_ahead (n + 1) (reach refl) in
      let lands : plus (4 * k) (word (near_offset (4 * (n + 1)))) ≡ 4 * (k + 1 + n) = rw near (omega arith) in
      turns_near (near_offset (4 * (n + 1))) (k + 1 + n) (omega arith) lands at h
  turns_over {k = k} false n small reach at h = turns_by (4 * (n + 2)) (k + 2 + n) (omega arith) (omega arith) small (omega arith) at h

  pub turns_back : {live : VariableSet} {m : Moment} {p : Processor} (short : Bool) (k n : ℕ) → k + n < 2 ^ 29 → (short ≡ true → n ≤ 2 ^ 18) → CodeAt s.code (k + n) (jump_back short n) → Stands plan live m (k + n) p →
      (v : ℕ) × Acts s p (event Nothing v 0 []) (λ r. Comes s 1 r (Stands plan live m k))
  turns_back true k n small reach at h =
      let w : ℕ = (2 ^ 32 - 4 * n % 2 ^ 32) % 2 ^ 32 in
      let near : word (near_offset w) ≡ w = near_back n (reach refl) in
      let lands : plus (4 * (k + n)) (word (near_offset w)) ≡ 4 * k = rw near (omega arith) in
      turns_near (near_offset w) k (omega arith) lands at h
  turns_back false k n small reach at h = turns_by ((2 ^ 32 - 4 * n % 2 ^ 32) % 2 ^ 32) k (omega arith) small (omega arith) (omega arith) at h

  pub leads_over : {live : VariableSet} {m : Moment} {k : ℕ} {p : Processor} (short : Bool) (n : ℕ) → k + jump_words short + n < 2 ^ 29 → (short ≡ true → n + 1 < 2 ^ 18) → CodeAt s.code k (jump_over short n) → Stands plan live m k p →
      Comes s 2 p (Stands plan live m (k + jump_words short + n))
  leads_over short n small reach at h = let a = turns_over short n small reach at h in comes_more s a.1.goes a.1.holds

  -- less may be live
  pub stands_less : {live live' : VariableSet} {m : Moment} {k : ℕ} {p : Processor} → ((u : ℕ) → live' u ≡ true → live u ≡ true) → Stands plan live m k p → Stands plan live' m k p
  stands_less less h =
      let a = h.agrees in
      record { contents = h.contents; shows = h.shows; agrees = record { base = a.base; variables = λ v l. a.variables v (less v l); pointer = a.pointer; frame = a.frame; depth = a.depth; addresses = a.addresses; residents = a.residents; waiting = a.waiting; room = a.room; within = a.within } }

  pub moved : {live : VariableSet} {m : Moment} {a b a' b' : ℕ} {p : Processor} (t : Bool) → a ≡ a' → b ≡ b' → Stands plan live m (if t then a else b) p → Stands plan live m (if t then a' else b') p
  moved t e f h = rw (← e, ← f) h

  -- ---- the branch of two registers, where the second may also be the front of a queue: n words ahead of its code where
  -- b holds, and else behind its code

  branch_goes : {c : Contents} {k : ℕ} {p : Processor} (relation : Comparison) (x y given n w : ℕ) (u : QueueUse) (b : Bool) → k + 1 + n < 2 ^ 29 → n < 1000 → queue_use s.copies s.side (Computes 0 x y) ≡ Some u →
      compared relation (read c given x) (read c given y) ≡ b → slice_get s.code k ≡ Some w → decode w ≡ Some (branch_inst relation x y (pos (4 * (n + 1)))) → Shows plan.private c k p →
      Acts s p (event u 0 given []) (Shows plan.private c (if b then k + 1 + n else k + 1))
  branch_goes {c} {k} relation x y given n w u b small near legal is here decodes h =
      let one = step s plan.private (branch_inst relation x y (pos (4 * (n + 1)))) 0 x y given (if b then k + 1 + n else k + 1) w (λ pc x y. 0) (λ pc x y. plus pc (if compared relation x y then word (pos (4 * (n + 1))) else 4)) u h here decodes (branch_is relation x y (pos (4 * (n + 1)))) legal (omega arith) (rw is (lands b)) in
      rw (put_nowhere 0 0 c refl) at one
    where
      lands : (t : Bool) → plus (4 * k) (if t then word (pos (4 * (n + 1))) else 4) ≡ 4 * (if t then k + 1 + n else k + 1)
      lands true = omega arith
      lands false = omega arith

  by_goes : {live : VariableSet} {m : Moment} {k : ℕ} {p : Processor} (t short : Bool) (relation : Comparison) (x y given n : ℕ) (u : QueueUse) (b : Bool) → (t ≡ true → n < 1000) → k + length (goes_by t short relation x y n) + n < 2 ^ 29 → (short ≡ true → n + 1 < 2 ^ 18) →
      queue_use s.copies s.side (Computes 0 x y) ≡ Some u → (h : Stands plan live m k p) → compared relation (read h.contents given x) (read h.contents given y) ≡ b → CodeAt s.code k (goes_by t short relation x y n) →
      Acts s p (event u 0 given []) (λ q. Comes s 2 q (Stands plan live m (if b then k + length (goes_by t short relation x y n) + n else k + length (goes_by t short relation x y n))))
  by_goes {live} {m} {k} {p} true short relation x y given n u b near small reach legal h is at =
      acts_map s (λ q shows. comes_here s {n = 2} (record { contents = h.contents; shows = shows; agrees = h.agrees })) (branch_goes relation x y given n at.0 u b small (near refl) legal is at.1 at.2 h.shows)
  by_goes {live} {m} {k} {p} false short relation x y given n u true near small reach legal h is at =
      let long = jump_long short n in let some = words_few short in
      let other : compared (opposite relation) (read h.contents given x) (read h.contents given y) ≡ false = opposite_compared relation (read h.contents given x) (read h.contents given y) ∙ ap not is in
      let end : k + 1 + jump_words short + n ≡ k + length (goes_by false short relation x y n) + n = omega arith in
      acts_map s (λ q shows. subst (λ (j : ℕ). Comes s 2 q (Stands plan live m j)) end (leads_over short n (omega arith) reach at.3 (record { contents = h.contents; shows = shows; agrees = h.agrees })))
      (branch_goes (opposite relation) x y given (jump_words short) at.0 u false (omega arith) (omega arith) legal other at.1 at.2 h.shows)
  by_goes {live} {m} {k} {p} false short relation x y given n u false near small reach legal h is at =
      let long = jump_long short n in let some = words_few short in
      let other : compared (opposite relation) (read h.contents given x) (read h.contents given y) ≡ true = opposite_compared relation (read h.contents given x) (read h.contents given y) ∙ ap not is in
      let end : k + 1 + jump_words short ≡ k + length (goes_by false short relation x y n) = omega arith in
      acts_map s (λ q shows. comes_here s {n = 2} (record { contents = h.contents; shows = subst (λ (j : ℕ). Shows plan.private h.contents j q) end shows; agrees = h.agrees }))
      (branch_goes (opposite relation) x y given (jump_words short) at.0 u true (omega arith) (omega arith) legal other at.1 at.2 h.shows)

  -- ---- the three branches: n words ahead of the code, or behind its end

  -- the operands of a test are in their registers
  record Fetched (live : VariableSet) (m : Moment) (t : Test) (k : ℕ) (p : Processor) : Type 0 where
    pub contents : Contents
    pub shows : Shows plan.private contents k p
    pub ready : Ready plan live m contents
    pub left : contents.register (source (plan.home m.function) 5 t.left) ≡ value t.left m.env
    pub right : contents.register (source (plan.home m.function) 6 t.right) ≡ value t.right m.env

  abbrev operands : ℕ → Test → List Inst
  operands f t = fetch (plan.home f) 5 t.left ++ fetch (plan.home f) 6 t.right

  fetches : {live : VariableSet} {m : Moment} {k : ℕ} {p : Processor} (t : Test) → k + length (operands m.function t) < 2 ^ 29 → CodeAt s.code k (operands m.function t) → ((u : ℕ) → in_test t u ≡ true → live u ≡ true) → IsNumber t.left → IsNumber t.right →
      Stands plan live m k p → Comes s (length (operands m.function t)) p (Fetched live m t (k + length (operands m.function t)))
  fetches {live} {m} {k} {p} t small at reads left right h =
      let to : ℕ → Env → Processor → Type 0 = λ k env q. Fetched live m t k q in
      let run = runs_two s plan variables fine to {d = Went m.env} t.left t.right [] (ready h) (λ u e. reads u (grind (arith, nat_tests))) (λ u e. reads u (grind (arith, nat_tests))) left right
      (λ c1 h1 got got'. runs_nothing s plan.private to (λ j q shows. record { contents = c1; shows = shows; ready = h1; left = got; right = got' })) in
      (rw append-nil at run).from k small at p h.shows

  -- what goes on elsewhere, at far, where two registers compare so, and else behind its code; the second may also be the front
  -- of a queue
  abbrev pub GoesTo : (Comparison → ℕ → ℕ → List Inst) → ℕ → ℕ → Type 0
  GoesTo go k far =
      (relation : Comparison) (x y : ℕ) (live : VariableSet) (m : Moment) (p : Processor) (given : ℕ) (u : QueueUse) (b : Bool) → queue_use s.copies s.side (Computes 0 x y) ≡ Some u → (h : Stands plan live m k p) →
      compared relation (read h.contents given x) (read h.contents given y) ≡ b → CodeAt s.code k (go relation x y) → Acts s p (event u 0 given []) (λ q. Comes s 2 q (Stands plan live m (if b then far else k + length (go relation x y))))

  -- it is so many words long
  abbrev pub AllLong : (Comparison → ℕ → ℕ → List Inst) → ℕ → Type 0
  AllLong go n = (relation : Comparison) (x y : ℕ) → length (go relation x y) ≡ n

  abbrev pub GoesFrom : (Comparison → ℕ → ℕ → List Inst) → ℕ → ℕ → ℕ → Type 0
  GoesFrom go words end far = (k : ℕ) → k + words ≡ end → GoesTo go k far

  -- n words ahead of its end
  pub ahead_long : (short : Bool) (n : ℕ) → AllLong (ahead_by short n) (length (goes_code short NotEqual 29 0 n))
  ahead_long short n relation x y = by (nat_lt n 1000) where
    by : (t : Bool) → length (goes_by t short relation x y n) ≡ length (goes_by t short NotEqual 29 0 n)
    by true = refl
    by false = refl

  pub ahead_goes : (short : Bool) (n end : ℕ) → end + n < 2 ^ 29 → (short ≡ true → n + 1 < 2 ^ 18) → GoesFrom (ahead_by short n) (length (goes_code short NotEqual 29 0 n)) end (end + n)
  ahead_goes short n end small reach k is relation x y live m p given u b legal h compares at =
      let long = ahead_long short n relation x y in
      acts_map s (λ q c. comes_map s 2 (omega arith) (λ r g. moved b (omega arith) refl g) c) (by_goes (nat_lt n 1000) short relation x y given n u b (λ e. grind (arith, nat_tests)) (omega arith) reach legal h compares at)

  -- back to what stands n words before it
  pub back_long_all : (n : ℕ) → AllLong (goes_back n) 1
  back_long_all n relation x y = refl

  pub back_goes : (n end far : ℕ) → end < 2 ^ 29 → far + n + 1 ≡ end → GoesFrom (goes_back n) 1 end far
  back_goes n end far small from k is relation x y live m p given u b legal h compares at =
      let one = step s plan.private (branch_inst relation x y (back_offset n)) 0 x y given (if b then far else k + 1) at.0 (λ pc x y. 0) (λ pc x y. plus pc (if compared relation x y then word (back_offset n) else 4)) u h.shows at.1 at.2 (branch_is relation x y (back_offset n)) legal (omega arith) (rw compares (lands b n (omega arith))) in
      acts_map s (λ q shows. comes_here s {n = 2} (record { contents = h.contents; shows = rw (put_nowhere 0 0 h.contents refl) at shows; agrees = h.agrees })) one
    where
      lands : (t : Bool) (n : ℕ) → far + n ≡ k → plus (4 * k) (if t then word (back_offset n) else 4) ≡ 4 * (if t then far else k + 1)
      lands true zero e = omega arith
      lands true (suc n) e = omega arith
      lands false n e = omega arith

  pub silent_done : {live : VariableSet} {m : Moment} {k : ℕ} {p : Processor} (go : Comparison → ℕ → ℕ → List Inst) (words far : ℕ) (way : Bool) (t : Test) → AllLong go words → k + length (branch_by (plan.home m.function) go (Silent t) way) < 2 ^ 29 → GoesFrom go words (k + length (branch_by (plan.home m.function) go (Silent t) way)) far →
      CodeAt s.code k (branch_by (plan.home m.function) go (Silent t) way) → ((u : ℕ) → in_test t u ≡ true → live u ≡ true) → IsNumber t.left → IsNumber t.right → 1 ≤ words → Stands plan live m k p →
      Comes s (length (branch_by (plan.home m.function) go (Silent t) way) + 2) p (Stands plan live m (if goes_if way (holds t m.env) then far else k + length (branch_by (plan.home m.function) go (Silent t) way)))
  silent_done {live} {m} {k} {p} go words far way t alike small goes at reads left right some h =
      let x : ℕ = source (plan.home m.function) 5 t.left in let y : ℕ = source (plan.home m.function) 6 t.right in
      let to : ℕ → Env → Processor → Type 0 = λ k env q. Unit {0} in
      let low = source_plain s plan variables fine to m.function 5 t.left (omega arith) in let low' = source_plain s plan variables fine to m.function 6 t.right (omega arith) in
      let first : List Inst = operands m.function t in
      let last : List Inst = go (one_way way t.comparison) x y in
      let words' = alike (one_way way t.comparison) x y in
      let long = length-append first last in
      let whole : first ++ last ≡ branch_by (plan.home m.function) go (Silent t) way = append_assoc (fetch (plan.home m.function) 5 t.left) (fetch (plan.home m.function) 6 t.right) last in
      let same = ap length whole in
      let at' : CodeAt s.code k (first ++ last) = subst (λ (is : List Inst). CodeAt s.code k is) (sym whole) at in
      let here = code_take s.code k first last at' in
      let there = code_drop s.code k first last at' in
      let all = comes_then s (fetches t (omega arith) here reads left right h) (λ q d.
      let is : compared t.comparison (read d.contents 0 x) (read d.contents 0 y) ≡ holds t m.env = rw (plain_read d.contents 0 x low, plain_read d.contents 0 y low', d.left, d.right) refl in
      let is' = one_way_compared way t.comparison (read d.contents 0 x) (read d.contents 0 y) ∙ ap (goes_if way) is in
      let a = goes (k + length first) (omega arith) (one_way way t.comparison) x y live m q 0 Nothing (goes_if way (holds t m.env)) (plain_computes s.copies s.side 0 x y (omega arith) low low') (record { contents = d.contents; shows = d.shows; agrees = d.ready.agrees }) is' there in
      comes_more s a.goes a.holds) in
      comes_map s (length (branch_by (plan.home m.function) go (Silent t) way) + 2) (omega arith) (λ q g. moved (goes_if way (holds t m.env)) refl (omega arith) g) all

  -- a test is told, and two registers compare so where it holds
  record Told (live : VariableSet) (m : Moment) (relation : Comparison) (x y : ℕ) (b : Bool) (k : ℕ) (p : Processor) : Type 0 where
    pub contents : Contents
    pub shows : Shows plan.private contents k p
    pub ready : Ready plan live m contents
    pub decides : compared relation (contents.register x) (contents.register y) ≡ b

  -- behind what tells it, a branch on these registers
  told_goes : {live : VariableSet} {m : Moment} {p : Processor} {queue : Queue} {v : ℕ} (k : ℕ) (first : List Inst) (go : Comparison → ℕ → ℕ → List Inst) (words far : ℕ) (way : Bool) (relation : Comparison) (x y : ℕ) (b : Bool) → x < 28 → y < 28 → AllLong go words → 1 ≤ words → GoesFrom go words (k + length (first ++ go (one_way way relation) x y)) far →
      CodeAt s.code k (first ++ go (one_way way relation) x y) → Does s (length first) (Push queue v (Went m.env)) (λ env. Told live m relation x y b (k + length first)) p →
      Does s (length (first ++ go (one_way way relation) x y) + 2) (Push queue v (Went m.env)) (λ env. Stands plan live m (if goes_if way b then far else k + length (first ++ go (one_way way relation) x y))) p
  told_goes {live} {m} k first go words far way relation x y b low low' alike some goes at told =
      let last : List Inst = go (one_way way relation) x y in
      let words' = alike (one_way way relation) x y in
      let long = length-append first last in
      let there = code_drop s.code k first last at in (
        told.0,
        nears_map s {n = length first + 3} (omega arith) (λ l q h. h) (nears_more s 3 (λ l q a. acts_map s (λ r c. comes_then s c (λ o d.
            let is : compared relation (read d.contents 0 x) (read d.contents 0 y) ≡ b = rw (plain_read d.contents 0 x low, plain_read d.contents 0 y low') (d.decides) in
            let is' = one_way_compared way relation (read d.contents 0 x) (read d.contents 0 y) ∙ ap (goes_if way) is in
            let g = goes (k + length first) (omega arith) (one_way way relation) x y live m o 0 Nothing (goes_if way b) (plain_computes s.copies s.side 0 x y (omega arith) low low') (record { contents = d.contents; shows = d.shows; agrees = d.ready.agrees }) is' there in
            comes_map s 3 (omega arith) (λ e f. moved (goes_if way b) refl (omega arith) f) (comes_more s g.goes g.holds))) a) told.1),
      )

  -- its operands are still in their registers
  tells : {live : VariableSet} {m : Moment} {k : ℕ} {p : Processor} (t : Test) → immediate_of (plan.home m.function) t.comparison t.right ≡ None → k + length (test_code (plan.home m.function) 29 t) < 2 ^ 29 → CodeAt s.code k (test_code (plan.home m.function) 29 t) → ((u : ℕ) → in_test t u ≡ true → live u ≡ true) → IsNumber t.left → IsNumber t.right →
      Stands plan live m k p →
      Does s (length (test_code (plan.home m.function) 29 t)) (Push (told_on plan.by_a) (flag (holds t m.env)) (Went m.env)) (λ env. Told live m t.comparison (source (plan.home m.function) 5 t.left) (source (plan.home m.function) 6 t.right) (holds t m.env) (k + length (test_code (plan.home m.function) 29 t))) p
  tells {live} {m} {k} {p} t again small at reads left right h =
      let to : ℕ → Env → Processor → Type 0 = λ k env q. Told live m t.comparison (source (plan.home m.function) 5 t.left) (source (plan.home m.function) 6 t.right) (holds t m.env) k q in
      let b : ℕ = flag (holds t m.env) in let fits = flag_small (holds t m.env) in
      let run = runs_compare_operands s plan variables fine to {d = Push (told_on plan.by_a) b (Went m.env)} 29 t.comparison t.left t.right [] (ready h) (λ u e. reads u (grind (arith, nat_tests))) (λ u e. reads u (grind (arith, nat_tests))) left right (λ c1 i c.
      let legal = pushes_flag s.copies plan.by_a c.last.first c.last.second c.last.low c.last.low' in
      runs_push s plan.private to (pushes_word s plan.private to i 29 b (told_on plan.by_a) c.last refl (rw fine.side legal) fits) fits
      (runs_nothing s plan.private to (λ j q shows. record { contents = c1; shows = shows; ready = c.ready; decides = rw (c.left, c.right again) refl }))) in
      (rw append-nil at run).from k small at p h.shows

  -- its right operand is an immediate, and x7 is compared with 0
  abbrev tell_immediate : ℕ → Test → ℕ → List Inst
  tell_immediate f t j = fetch (plan.home f) 5 t.left ++ tell_number_code t.comparison (source (plan.home f) 5 t.left) j

  tells_immediate : {live : VariableSet} {m : Moment} {k : ℕ} {p : Processor} (t : Test) (j : ℕ) → immediate_of (plan.home m.function) t.comparison t.right ≡ Some j → k + length (tell_immediate m.function t j) < 2 ^ 29 → CodeAt s.code k (tell_immediate m.function t j) → ((u : ℕ) → in_test t u ≡ true → live u ≡ true) → IsNumber t.left → IsNumber t.right →
      Stands plan live m k p → Does s (length (tell_immediate m.function t j)) (Push (told_on plan.by_a) (flag (holds t m.env)) (Went m.env)) (λ env. Told live m (against_zero t.comparison) 7 0 (holds t m.env) (k + length (tell_immediate m.function t j))) p
  tells_immediate {live} {m} {k} {p} t j e small at reads left right h =
      let to : ℕ → Env → Processor → Type 0 = λ k env q. Told live m (against_zero t.comparison) 7 0 (holds t m.env) k q in
      let b : ℕ = flag (holds t m.env) in let fits = flag_small (holds t m.env) in
      let is = immediate_is (plan.home m.function) t.comparison t.right j e in
      let word' : j < 2 ^ 32 = subst IsNumber is.0 right in
      let same : compared t.comparison (value t.left m.env) j ≡ holds t m.env = ap (λ (y : Operand). compared t.comparison (value t.left m.env) (value y m.env)) (sym is.0) in
      let run = runs_told_number s plan variables fine to {d = Push (told_on plan.by_a) b (Went m.env)} t.comparison t.left j [] (ready h) (λ u e. reads u (grind (arith, nat_tests))) left word' is.1 is.2 (λ c1 i r last left.
      let last' : Computed i 29 b c1 = subst (λ (c : Bool). Computed i 29 (flag c) c1) same last in
      let legal = pushes_flag s.copies plan.by_a last'.first last'.second last'.low last'.low' in
      runs_push s plan.private to (pushes_word s plan.private to i 29 b (told_on plan.by_a) last' refl (rw fine.side legal) fits) fits
      (runs_nothing s plan.private to (λ j q shows. record { contents = c1; shows = shows; ready = r; decides = rw (r.zero) (left ∙ same) }))) in
      (rw append-nil at run).from k small at p h.shows

  pub tells_done : {live : VariableSet} {m : Moment} {k : ℕ} {p : Processor} (go : Comparison → ℕ → ℕ → List Inst) (words far : ℕ) (way : Bool) (t : Test) → AllLong go words → 1 ≤ words → k + length (branch_by (plan.home m.function) go (Tells t) way) < 2 ^ 29 → GoesFrom go words (k + length (branch_by (plan.home m.function) go (Tells t) way)) far →
      CodeAt s.code k (branch_by (plan.home m.function) go (Tells t) way) → ((u : ℕ) → in_test t u ≡ true → live u ≡ true) → IsNumber t.left → IsNumber t.right → Stands plan live m k p →
      Does s (length (branch_by (plan.home m.function) go (Tells t) way) + 2) (Push (told_on plan.by_a) (flag (holds t m.env)) (Went m.env)) (λ env. Stands plan live m (if goes_if way (holds t m.env) then far else k + length (branch_by (plan.home m.function) go (Tells t) way))) p
  tells_done {live} {m} {k} {p} go words far way t alike some small goes at reads left right h = by (immediate_of (plan.home m.function) t.comparison t.right) refl small goes at
    where
      Done' : List Inst → Type 0
      Done' is = Does s (length is + 2) (Push (told_on plan.by_a) (flag (holds t m.env)) (Went m.env)) (λ env. Stands plan live m (if goes_if way (holds t m.env) then far else k + length is)) p

      by : (o : Option ℕ) → immediate_of (plan.home m.function) t.comparison t.right ≡ o → k + length (told_by o (plan.home m.function) go t way) < 2 ^ 29 → GoesFrom go words (k + length (told_by o (plan.home m.function) go t way)) far → CodeAt s.code k (told_by o (plan.home m.function) go t way) → Done' (told_by o (plan.home m.function) go t way)
      by None e small goes at =
          let x : ℕ = source (plan.home m.function) 5 t.left in let y : ℕ = source (plan.home m.function) 6 t.right in
          let to : ℕ → Env → Processor → Type 0 = λ k env q. Unit {0} in
          let first : List Inst = test_code (plan.home m.function) 29 t in
          let last : List Inst = go (one_way way t.comparison) x y in
          let long = length-append first last in
          told_goes k first go words far way t.comparison x y (holds t m.env) (source_plain s plan variables fine to m.function 5 t.left (omega arith)) (source_plain s plan variables fine to m.function 6 t.right (omega arith)) alike some goes at
          (tells t e (omega arith) (code_take s.code k first last at) reads left right h)
      by (Some j) e small goes at =
          let first : List Inst = tell_immediate m.function t j in
          let last : List Inst = go (one_way way (against_zero t.comparison)) 7 0 in
          let whole : first ++ last ≡ told_by (Some j) (plan.home m.function) go t way = append_assoc (fetch (plan.home m.function) 5 t.left) (tell_number_code t.comparison (source (plan.home m.function) 5 t.left) j) last in
          let long = length-append first last in let same = ap length whole in
          let at' : CodeAt s.code k (first ++ last) = subst (λ (is : List Inst). CodeAt s.code k is) (sym whole) at in
          let goes' : GoesFrom go words (k + length (first ++ last)) far = subst (λ (is : List Inst). GoesFrom go words (k + length is) far) (sym whole) goes in
          subst Done' whole (told_goes k first go words far way (against_zero t.comparison) 7 0 (holds t m.env) (omega arith) (omega arith) alike some goes' at'
          (tells_immediate t j e (omega arith) (code_take s.code k first last at') reads left right h))

  pub hears_done : {live : VariableSet} {m : Moment} {k : ℕ} {p : Processor} (go : Comparison → ℕ → ℕ → List Inst) (words far : ℕ) (way : Bool) → AllLong go words → GoesFrom go words (k + length (branch_by (plan.home m.function) go Hears way)) far →
      CodeAt s.code k (branch_by (plan.home m.function) go Hears way) → Stands plan live m k p → (x : ℕ) →
      Acts s p (event (Takes (heard_on plan.by_a)) 0 x []) (λ r. Comes s 2 r (Stands plan live m (if goes_if way (not (nat_eq x 0)) then far else k + length (branch_by (plan.home m.function) go Hears way))))
  hears_done {live} {m} {k} {p} go words far way alike goes at h x =
      let zero = h.shows.zero in
      let is : compared NotEqual (read h.contents x 29) (read h.contents x 0) ≡ not (nat_eq x 0) = rw zero (differs x 0) in
      let is' = one_way_compared way NotEqual (read h.contents x 29) (read h.contents x 0) ∙ ap (goes_if way) is in
      let words' = alike (one_way way NotEqual) 29 0 in
      goes k (omega arith) (one_way way NotEqual) 29 0 live m p x (Takes (heard_on plan.by_a)) (goes_if way (not (nat_eq x 0))) (rw fine.side (hears_message s.copies plan.by_a)) h is' at
