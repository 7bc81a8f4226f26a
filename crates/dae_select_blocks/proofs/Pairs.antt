-- Two adjacent actions are done by one block: which pairs there are, what is live between the two, and that the block does both.
use Rattle.std.proofs.Common.{◌≡◌, ◌≢◌, ℕ, ◌+◌, ◌^◌, ◌<◌, ◌≤◌, Bool, true, false, not, ◌&&◌, ◌||◌, List, [], length, refl, sym, ◌∙◌, subst, arith}
use Rattle.std.specs.Prelude.{nat_lt, nat_eq, if◌then◌else◌, Some}
use Rattle.std.proofs.lemmas.Bool.Decides.{nat_tests}
use Rattle.std.proofs.lemmas.Bool.{eq-eqb, and_parts}
use Rattle.dae_base.specs.declared.Queue.{Queue}
use Rattle.dae_base.specs.declared.Queue.TheVariants.{Ld, Al, Sd}
use Rattle.dae_base.specs.declared.Side.TheVariants.{A, E}
use Rattle.dae_base.specs.declared.Width.{Width}
use Rattle.dae_base.specs.declared.LoadKind.{LoadKind}
use Rattle.dae_base.proofs.Laws.{and_not, or_true}
use Rattle.dae_encode.specs.declared.QueueUse.TheVariants.{Take as Takes}
use Rattle.dae_encode.specs.declared.InstructionForm.TheVariants.{Computes}
use Rattle.dae_encode.specs.Uses.{queue_use}
use Rattle.dae_encode.specs.declared.Inst.{Inst}
use Rattle.dae_encode.specs.Processor.{Processor}
use Rattle.dae_ir.specs.Code.{Done, Do, If, Loop}
use Rattle.dae_ir.specs.Classes.{VariableSet}
use Rattle.dae_ir.specs.Form.{Program, computed}
use Rattle.dae_ir.specs.Deeds.{Deed, Went, Take, Push, Reserve, Send, deed}
use Rattle.dae_ir.specs.Streams.{Actions}
use Rattle.dae_ir.specs.declared.form.Operand.TheVariants.{Variable, Number}
use Rattle.dae_ir.specs.declared.form.Value.{Value}
use Rattle.dae_ir.specs.declared.form.Value.TheVariants.{Same, Extended, Binary, Holds, FrameAddress}
use Rattle.dae_ir.specs.declared.stream.Mark.{Mark}
use Rattle.dae_ir.specs.declared.stream.Action.{Action}
use Rattle.dae_ir.specs.declared.stream.Action.TheVariants.{Set as Compute, Issue, Own, Receive, Address, Datum, Offer, Accept, Emit, Probe, Tell, Hear, Stop, Break, Continue, Call, Return}
use Rattle.dae_meaning.specs.Worlds.{World}
use Rattle.dae_meaning.specs.Variables.{Env, put}
use Rattle.dae_meaning.specs.declared.Operator.TheVariants.{Add as Plus}
use Rattle.dae_select_walks.specs.Walks.{WalkSetting, Comes}
use Rattle.dae_select_walks.specs.Does.{Does}
use Rattle.dae_select_walks.specs.Live.{LiveWays, with_all, in_value, sets, before, live}
use Rattle.dae_select_walks.specs.declared.Home.{Home}
use Rattle.dae_select_walks.specs.Homes.{Contents}
use Rattle.dae_select_walks.specs.Layout.{CodeAt}
use Rattle.dae_select_walks.specs.Facts.{Facts, Hold}
use Rattle.dae_select_walks.specs.Agrees.{Plan, Moment, Stands}
use Rattle.dae_select_walks.specs.declared.VariableStanding.{VariableStanding}
use Rattle.dae_select_walks.specs.declared.VariableStanding.TheVariants.{Settled, Early, Late}
use Rattle.dae_select_walks.specs.Compiled.{Exit, Exits, exit, with_env, IsWorldOf, At, ActionDone}
use Rattle.dae_select_walks.proofs.LawsOfWalks.{comes_here, comes_map, does_map}
use Rattle.dae_select_blocks.specs.Blocks.{is_immediate, take_code, value_code}
use Rattle.dae_select_blocks.specs.Code.{written_last, is_offset_sum, passes_on, reads_once, taken_standing, pair_standing, if_settled, standing_behind, late_code, early_code}
use Rattle.dae_select_blocks.specs.Fits.{Fits}
use Rattle.dae_select_blocks.specs.Wanted.{IsPlanOf, IsRight, AreNumbers}
use Rattle.dae_select_blocks.proofs.Jumps.{ready, stands_less}
use Rattle.dae_select_blocks.proofs.Runs.{Runs, runs_nothing}
use Rattle.dae_select_blocks.proofs.Uses.{pushes_datum_of, takes_own, issues, issues_own, gives_address}
use Rattle.dae_select_blocks.proofs.Sent.{send_value}
use Rattle.dae_select_blocks.proofs.Early.{ToNext, early_runs}
use Rattle.dae_select_blocks.proofs.Agreement.{Ready, few_variables}
use Rattle.dae_select_blocks.proofs.Actions.{ends, taken as taken_home}
use Rattle.dae_select_blocks.proofs.Reaching.{issues_there, gives_there}
use Rattle.dae_select_blocks.proofs.Simple.{Around, around, simple_done}

-- ---- which pairs there are

-- what an access through a variable is
pub record ForAccesses (P : Action → Type 0) (t : ℕ) : Type 0 where
  pub issue : (kind : LoadKind) → P (Issue kind (Variable t))
  pub own : (d : ℕ) (kind : LoadKind) → P (Own d kind (Variable t))
  pub address : (width : Width) → P (Address width (Variable t))

-- what moves a variable on sets another one to it, or sends it, or accesses memory there
pub passed_on : (P : Action → Type 0) (t : ℕ) (y : Value) (a : Action) → passes_on t y a ≡ true → ((s : ℕ) → P (Compute s (Same (Variable t)))) → (written_last y ≡ true → P (Datum (Variable t))) → (is_offset_sum y ≡ true → ForAccesses P t) → P a
passed_on P t y (Compute s (Same (Variable u))) e h g r = let same : t ≡ u = grind (arith, nat_tests) in subst (λ (n : ℕ). P (Compute s (Same (Variable n)))) same (h s)
passed_on P t y (Datum (Variable u)) e h g r =
    let two = and_parts (nat_eq u t) (written_last y) e in
    let first = two.0 in let same : t ≡ u = grind (arith, nat_tests) in subst (λ (n : ℕ). P (Datum (Variable n))) same (g two.1)
passed_on P t y (Issue kind (Variable u)) e h g r =
    let two = and_parts (nat_eq u t) (is_offset_sum y) e in
    let first = two.0 in let same : t ≡ u = grind (arith, nat_tests) in let all = r two.1 in subst (λ (n : ℕ). P (Issue kind (Variable n))) same (all.issue kind)
passed_on P t y (Own v kind (Variable u)) e h g r =
    let two = and_parts (nat_eq u t) (is_offset_sum y) e in
    let first = two.0 in let same : t ≡ u = grind (arith, nat_tests) in let all = r two.1 in subst (λ (n : ℕ). P (Own v kind (Variable n))) same (all.own v kind)
passed_on P t y (Address width (Variable u)) e h g r =
    let two = and_parts (nat_eq u t) (is_offset_sum y) e in
    let first = two.0 in let same : t ≡ u = grind (arith, nat_tests) in let all = r two.1 in subst (λ (n : ℕ). P (Address width (Variable n))) same (all.address width)
passed_on P t y (Compute s (Same (Number n))) e h g r = absurd cc
passed_on P t y (Compute s (Extended kind x)) e h g r = absurd cc
passed_on P t y (Compute s (Binary operator x z)) e h g r = absurd cc
passed_on P t y (Compute s (Holds test)) e h g r = absurd cc
passed_on P t y (Compute s (FrameAddress offset)) e h g r = absurd cc
passed_on P t y (Issue kind (Number n)) e h g r = absurd cc
passed_on P t y (Own v kind (Number n)) e h g r = absurd cc
passed_on P t y (Receive v) e h g r = absurd cc
passed_on P t y (Address width (Number n)) e h g r = absurd cc
passed_on P t y (Datum (Number n)) e h g r = absurd cc
passed_on P t y (Offer v) e h g r = absurd cc
passed_on P t y (Accept v) e h g r = absurd cc
passed_on P t y (Emit spelling x) e h g r = absurd cc
passed_on P t y (Probe check) e h g r = absurd cc
passed_on P t y (Tell x) e h g r = absurd cc
passed_on P t y (Hear only) e h g r = absurd cc
passed_on P t y (Stop x) e h g r = absurd cc
passed_on P t y Break e h g r = absurd cc
passed_on P t y Continue e h g r = absurd cc
passed_on P t y (Call v f xs) e h g r = absurd cc
passed_on P t y (Return x) e h g r = absurd cc

-- and the value is a sum that it can add up
pub offset_sum : (P : Value → Type 0) (y : Value) → is_offset_sum y ≡ true → ((v n : ℕ) → is_immediate n ≡ true → P (Binary Plus (Variable v) (Number n))) → P y
offset_sum P (Binary Plus (Variable v) (Number n)) e h = h v n e
offset_sum P _ e h = absurd cc

-- what holds of an action and the rest of its list where they are settled, and where the next action is in a pair with it,
-- holds however things stand between them
module _ (P : Action → Actions → VariableStanding → Type 0) (x : LiveWays)
    (settled : (a : Action) (k : Actions) → P a k Settled)
    (late : (t : ℕ) (y : Value) (m : Mark) (b : Action) (k : Actions) → standing_behind b k x ≡ Settled → passes_on t y b ≡ true → live k x t ≡ false → P (Compute t y) (Do m b k) (Late t y))
    (loaded : (v : ℕ) (m : Mark) (d : ℕ) (y : Value) (k : Actions) → standing_behind (Compute d y) k x ≡ Settled → reads_once v y ≡ true → (nat_eq v d || not (live k x v)) ≡ true → P (Receive v) (Do m (Compute d y) k) (Early d y))
    (copied : (v : ℕ) (m : Mark) (d : ℕ) (y : Value) (k : Actions) → standing_behind (Compute d y) k x ≡ Settled → reads_once v y ≡ true → (nat_eq v d || not (live k x v)) ≡ true → P (Accept v) (Do m (Compute d y) k) (Early d y)) where
  set_late : (t : ℕ) (y : Value) (m : Mark) (b : Action) (k : Actions) → standing_behind b k x ≡ Settled → (c : Bool) → (passes_on t y b && not (live k x t)) ≡ c → P (Compute t y) (Do m b k) (if c then Late t y else Settled)
  set_late t y m b k e true is = let two = and_not (passes_on t y b) (live k x t) is in late t y m b k e two.0 two.1
  set_late t y m b k e false is = settled (Compute t y) (Do m b k)

  taken : (a : Action) (v : ℕ) (m : Mark) (b : Action) (k : Actions) → ((d : ℕ) (y : Value) → b ≡ Compute d y → reads_once v y ≡ true → (nat_eq v d || not (live k x v)) ≡ true → P a (Do m b k) (Early d y)) → P a (Do m b k) (taken_standing v b (live k x))
  taken a v m (Compute d y) k early = by (reads_once v y && (nat_eq v d || not (live k x v))) refl
    where
      by : (c : Bool) → (reads_once v y && (nat_eq v d || not (live k x v))) ≡ c → P a (Do m (Compute d y) k) (if c then Early d y else Settled)
      by true is = let two = and_parts (reads_once v y) (nat_eq v d || not (live k x v)) is in early d y refl two.0 two.1
      by false is = settled a (Do m (Compute d y) k)
  taken a v m (Issue kind y) k early = settled a (Do m (Issue kind y) k)
  taken a v m (Own u kind y) k early = settled a (Do m (Own u kind y) k)
  taken a v m (Receive u) k early = settled a (Do m (Receive u) k)
  taken a v m (Address width y) k early = settled a (Do m (Address width y) k)
  taken a v m (Datum y) k early = settled a (Do m (Datum y) k)
  taken a v m (Offer u) k early = settled a (Do m (Offer u) k)
  taken a v m (Accept u) k early = settled a (Do m (Accept u) k)
  taken a v m (Emit spelling y) k early = settled a (Do m (Emit spelling y) k)
  taken a v m (Probe check) k early = settled a (Do m (Probe check) k)
  taken a v m (Tell y) k early = settled a (Do m (Tell y) k)
  taken a v m (Hear only) k early = settled a (Do m (Hear only) k)
  taken a v m (Stop y) k early = settled a (Do m (Stop y) k)
  taken a v m Break k early = settled a (Do m Break k)
  taken a v m Continue k early = settled a (Do m Continue k)
  taken a v m (Call u f xs) k early = settled a (Do m (Call u f xs) k)
  taken a v m (Return y) k early = settled a (Do m (Return y) k)

  in_pair : (a : Action) (m : Mark) (b : Action) (k : Actions) → standing_behind b k x ≡ Settled → P a (Do m b k) (pair_standing a b (live k x))
  in_pair (Compute t y) m b k e = set_late t y m b k e (passes_on t y b && not (live k x t)) refl
  in_pair (Issue kind y) m b k e = settled (Issue kind y) (Do m b k)
  in_pair (Own v kind y) m b k e = settled (Own v kind y) (Do m b k)
  in_pair (Receive v) m b k e = taken (Receive v) v m b k (λ d y same once dead. subst (λ (c : Action). standing_behind c k x ≡ Settled → P (Receive v) (Do m c k) (Early d y)) (sym same) (λ f. loaded v m d y k f once dead) e)
  in_pair (Address width y) m b k e = settled (Address width y) (Do m b k)
  in_pair (Datum y) m b k e = settled (Datum y) (Do m b k)
  in_pair (Offer v) m b k e = settled (Offer v) (Do m b k)
  in_pair (Accept v) m b k e = taken (Accept v) v m b k (λ d y same once dead. subst (λ (c : Action). standing_behind c k x ≡ Settled → P (Accept v) (Do m c k) (Early d y)) (sym same) (λ f. copied v m d y k f once dead) e)
  in_pair (Emit spelling y) m b k e = settled (Emit spelling y) (Do m b k)
  in_pair (Probe check) m b k e = settled (Probe check) (Do m b k)
  in_pair (Tell y) m b k e = settled (Tell y) (Do m b k)
  in_pair (Hear only) m b k e = settled (Hear only) (Do m b k)
  in_pair (Stop y) m b k e = settled (Stop y) (Do m b k)
  in_pair Break m b k e = settled Break (Do m b k)
  in_pair Continue m b k e = settled Continue (Do m b k)
  in_pair (Call v f xs) m b k e = settled (Call v f xs) (Do m b k)
  in_pair (Return y) m b k e = settled (Return y) (Do m b k)

  in_turn : (a : Action) (m : Mark) (b : Action) (k : Actions) (standing : VariableStanding) → standing_behind b k x ≡ standing → P a (Do m b k) (if_settled standing (pair_standing a b (live k x)))
  in_turn a m b k Settled e = in_pair a m b k e
  in_turn a m b k (Early v y) e = settled a (Do m b k)
  in_turn a m b k (Late v y) e = settled a (Do m b k)

  pub by_pairs : (a : Action) (k : Actions) → P a k (standing_behind a k x)
  by_pairs a Done = settled a Done
  by_pairs a (Do m b k) = in_turn a m b k (standing_behind b k x) refl
  by_pairs a (If m b p q k) = settled a (If m b p q k)
  by_pairs a (Loop m body step k) = settled a (Loop m body step k)

-- ---- what is live between the two

-- what is live of what the processor holds, before a list
abbrev pub live_held : VariableStanding → Actions → LiveWays → VariableSet
live_held (Early v y) (Do m a k) x = live k x
live_held (Late t y) code x = before (Compute t y) (live code x) x
live_held standing code x = live code x

-- where a list is entered
abbrev pub entered_at : VariableStanding → Actions → LiveWays → ℕ → Exit
entered_at standing code x here = record { word = here; live = live_held standing code x; standing = standing }

-- so a list is entered only where it begins with the second action of a pair
abbrev pub Suits : VariableStanding → Actions → LiveWays → Type 0
Suits Settled code x = Unit {0}
Suits (Late t y) (Do m a k) x = (passes_on t y a ≡ true) × (standing_behind a k x ≡ Settled) × (live k x t ≡ false)
Suits (Early v y) (Do m a k) x = (a ≡ Compute v y) × (standing_behind a k x ≡ Settled)
Suits standing code x = ⊥

-- and behind each action they are so
pub suits_behind : (a : Action) (k : Actions) (x : LiveWays) → Suits (standing_behind a k x) k x
suits_behind a k x = by_pairs (λ (a : Action) (k : Actions) (standing : VariableStanding). Suits standing k x) x (λ a k. tt) (λ t y m b k e passes dead. (passes, e, dead)) (λ v m d y k e once dead. (refl, e)) (λ v m d y k e once dead. (refl, e)) a k

-- numbers in a value that is still to be computed are words
abbrev pub AreLateNumbers : VariableStanding → Type 0
AreLateNumbers Settled = Unit {0}
AreLateNumbers (Early v y) = Unit {0}
AreLateNumbers (Late t y) = AreNumbers y

-- ---- the walks

-- where t isn't live, it doesn't matter that it is set
late_same : (t d v u : ℕ) (env : Env) (live' : VariableSet) → live' t ≡ false → live' u ≡ true → put true d v env u ≡ put true d (put true t v env t) (put true t v env) u
late_same t d v u env live' dead l = by (nat_eq u d) (nat_eq u t) refl
  where
    by : (b c : Bool) → nat_eq u t ≡ c → (if (true && b) then v else env u) ≡ (if (true && b) then put true t v env t else (if (true && c) then v else env u))
    by true c e = grind (arith, nat_tests)
    by false true e = let same : u ≡ t = grind (arith, nat_tests) in absurd (let bad : live' t ≡ true = subst (λ (n : ℕ). live' n ≡ true) same l in cc)
    by false false e = refl

unset : (t v u : ℕ) (env : Env) (live' : VariableSet) → live' t ≡ false → live' u ≡ true → env u ≡ put true t v env u
unset t v u env live' dead l = by (nat_eq u t) refl
  where
    by : (c : Bool) → nat_eq u t ≡ c → env u ≡ (if (true && c) then v else env u)
    by true e = let same : u ≡ t = grind (arith, nat_tests) in absurd (let bad : live' t ≡ true = subst (λ (n : ℕ). live' n ≡ true) same l in cc)
    by false e = refl

-- what is live before a variable is computed for nothing
pub dead_held : (v : ℕ) (y : Value) (live' : VariableSet) (w : LiveWays) (u : ℕ) → live' v ≡ false → live' u ≡ true → before (Compute v y) live' w u ≡ true
dead_held v y live' w u dead l = by (nat_eq u v) refl
  where
    by : (c : Bool) → nat_eq u v ≡ c → (in_value y u || (live' u && not c)) ≡ true
    by true e = let same : u ≡ v = grind (arith, nat_tests) in absurd (let bad : live' v ≡ true = subst (λ (n : ℕ). live' n ≡ true) same l in cc)
    by false e = rw l (or_true (in_value y u))

-- what is live round the block that does both
late_around : (home : ℕ → Home) (variables t d : ℕ) (y : Value) (live' : VariableSet) (x : LiveWays) → live' t ≡ false → IsRight home variables (with_all (before (Compute d (Same (Variable t))) live' x) (sets (Compute d (Same (Variable t))))) →
    Around home variables (Compute d y) (before (Compute t y) (before (Compute d (Same (Variable t))) live' x) x) live'
late_around home variables t d y live' x dead right =
    let r = around home variables (Compute d (Same (Variable t))) live' x (λ u. refl) right in
    record {
      reads = λ u e. rw e refl;
      stays = λ u l e. (let ne : nat_eq u t ≡ false = other u l (nat_eq u t) refl in rw (l, e, ne) (or_true (in_value y u)));
      apart = λ u v e. r.apart u v e;
      scope = λ v e. r.scope v e;
    }
  where
    other : (u : ℕ) → live' u ≡ true → (c : Bool) → nat_eq u t ≡ c → c ≡ false
    other u l true e = let same : u ≡ t = grind (arith, nat_tests) in absurd (let bad : live' t ≡ true = subst (λ (n : ℕ). live' n ≡ true) same l in cc)
    other u l false e = refl

sent_held : (y : Value) (t : ℕ) (live' : VariableSet) (w : LiveWays) (u : ℕ) → live' t ≡ false → live' u ≡ true → before (Compute t y) (before (Datum (Variable t)) live' w) w u ≡ true
sent_held y t live' w u dead l = by (nat_eq u t) refl
  where
    last : (b : Bool) → (b || ((false || (true && true)) && true)) ≡ true
    last true = refl
    last false = refl

    by : (c : Bool) → nat_eq u t ≡ c → (in_value y u || ((c || (live' u && true)) && not c)) ≡ true
    by true e = let same : u ≡ t = grind (arith, nat_tests) in absurd (let bad : live' t ≡ true = subst (λ (n : ℕ). live' n ≡ true) same l in cc)
    by false e = rw l (last (in_value y u))

-- what is live behind a load that goes to d
own_held : (y : Value) (kind : LoadKind) (t d : ℕ) (live' : VariableSet) (w : LiveWays) (u : ℕ) → live' t ≡ false → live' u ≡ true → nat_eq u d ≡ false → before (Compute t y) (before (Own d kind (Variable t)) live' w) w u ≡ true
own_held y kind t d live' w u dead l far = by (nat_eq u t) refl
  where
    last : (b : Bool) → (b || ((false || (true && true)) && true)) ≡ true
    last true = refl
    last false = refl

    by : (c : Bool) → nat_eq u t ≡ c → (in_value y u || ((c || (live' u && not (nat_eq u d))) && not c)) ≡ true
    by true e = let same : u ≡ t = grind (arith, nat_tests) in absurd (let bad : live' t ≡ true = subst (λ (n : ℕ). live' n ≡ true) same l in cc)
    by false e = rw (l, far) (last (in_value y u))

-- what is live behind a pair that takes a word
early_apart : (home : ℕ → Home) (variables v d : ℕ) (y : Value) (live' : VariableSet) (w : LiveWays) (u : ℕ) → (nat_eq v d || not (live' v)) ≡ true → IsRight home variables (with_all (before (Compute d y) live' w) (sets (Compute d y))) → live' u ≡ true → u ≢ d →
    (before (Receive v) (before (Compute d y) live' w) w u ≡ true) × (home u ≢ home d)
early_apart home variables v d y live' w u dead right l ne =
    let r = around home variables (Compute d y) live' w (λ u. refl) right in
    let not_d : nat_eq u d ≡ false = grind (arith, nat_tests) in
    let not_v : nat_eq u v ≡ false = other (nat_eq u v) refl in
    (rw (l, not_d, not_v) (and_either (in_value y u)), r.apart u d (grind (arith, nat_tests)) l ne)
  where
    and_either : (b : Bool) → ((b || true) && true) ≡ true
    and_either true = refl
    and_either false = refl

    other : (c : Bool) → nat_eq u v ≡ c → c ≡ false
    other true e =
        let same : u ≡ v = grind (arith, nat_tests) in
        let kept : live' v ≡ true = subst (λ (n : ℕ). live' n ≡ true) same l in
        let far : nat_eq v d ≡ false = grind (arith, nat_tests) in
        absurd (let bad : (false || not true) ≡ true = rw (far, kept) at dead in cc)
    other false e = refl

module _ (s : WalkSetting) (plan : Plan) (variables : ℕ → ℕ) (fine : Fits s plan variables) (program : Program) (is_plan : IsPlanOf program plan) (entries : ℕ → VariableSet) (most widest : ℕ) where
  -- only the variables that are live matter
  stands_like : {live' : VariableSet} {env env' : Env} (m : Moment) {k : ℕ} {p : Processor} → ((u : ℕ) → live' u ≡ true → env u ≡ env' u) → Stands plan live' (with_env env m) k p → Stands plan live' (with_env env' m) k p
  stands_like m same h =
      let a = h.agrees in
      record { contents = h.contents; shows = h.shows; agrees = record { base = a.base; variables = λ v l. a.variables v l ∙ same v l; pointer = a.pointer; frame = a.frame; depth = a.depth; addresses = a.addresses; residents = a.residents; waiting = a.waiting; room = a.room; within = record { depth = a.within.depth; frame = a.within.frame } } }

  -- the contents that agree with one moment agree with another one, where these are the words of its variables
  ready_as : {live live' : VariableSet} {c : Contents} (m : Moment) (env : Env) → ((u : ℕ) → live' u ≡ true → (live u ≡ true) × (env u ≡ m.env u)) → Ready plan live (with_env env m) c → Ready plan live' m c
  ready_as m env same h =
      let a = h.agrees in
      record {
        zero = h.zero;
        fits = h.fits;
        small = h.small;
        agrees = record { base = a.base; variables = λ v l. (let two = same v l in a.variables v two.0 ∙ two.1); pointer = a.pointer; frame = a.frame; depth = a.depth; addresses = a.addresses; residents = a.residents; waiting = a.waiting; room = a.room; within = record { depth = a.within.depth; frame = a.within.frame } };
      }

  -- a variable that isn't live needn't be computed
  pub dead_done : (f v : ℕ) (y : Value) (live live' : VariableSet) (known : Facts) (k : ℕ) → live' v ≡ false → ((u : ℕ) → live' u ≡ true → live u ≡ true) →
      (m : Moment) (o : World) (p : Processor) → At s plan program entries most widest f (exit k live) m p → IsWorldOf plan m o → Hold known m.env →
      Does s most (deed program plan.by_a (Compute v y) o m.env) (λ env. At s plan program entries most widest f (exit (k + 0) live') (with_env env m)) p
  dead_done f v y live live' known k dead less m o p h world facts =
      let here : k ≡ k + 0 = omega arith in
      comes_here s (h.0, stands_like {live' = live'} {env = m.env} m (λ u l. unset v (computed y o.frame m.env) u m.env live' dead l) (stands_less s plan variables fine less (subst (λ (j : ℕ). Stands plan live m j p) here h.1)))

  -- the first action of the pair has no code
  pub late_first : (f t : ℕ) (y : Value) (live' : VariableSet) (known : Facts) (x : Exits) (here : ℕ) → ActionDone s plan program entries most widest f known (Compute t y) (exit here live') (record { word = here + 0; live = live'; standing = Late t y }) x
  late_first f t y live' known x here m w p h world facts =
      let same : here ≡ here + 0 = omega arith in
      comes_here s (h.0, (m.env, rw world.frame refl, subst (λ (j : ℕ). Stands plan live' m j p) same h.1))

  -- and that of the second does both
  pub late_second : (f t d : ℕ) (y : Value) (live' : VariableSet) (known : Facts) (w : LiveWays) (x : Exits) (here : ℕ) → live' t ≡ false → AreNumbers y →
      IsRight (plan.home f) (variables f) (with_all (before (Compute d (Same (Variable t))) live' w) (sets (Compute d (Same (Variable t))))) →
      CodeAt s.code here (late_code (plan.home f) (Compute d (Same (Variable t))) y) → here + length (late_code (plan.home f) (Compute d (Same (Variable t))) y) < 2 ^ 29 → length (late_code (plan.home f) (Compute d (Same (Variable t))) y) ≤ most →
      ActionDone s plan program entries most widest f known (Compute d (Same (Variable t))) (record { word = here; live = before (Compute t y) (before (Compute d (Same (Variable t))) live' w) w; standing = Late t y })
      (exit (here + length (late_code (plan.home f) (Compute d (Same (Variable t))) y)) live') x
  late_second f t d y live' known w x here dead numbers right at small few m o p h world facts =
      let env : Env = h.1.0 in let is = h.1.1 in
      let code : List Inst = late_code (plan.home f) (Compute d (Same (Variable t))) y in
      let walk : Comes s most p (λ q. (m.function ≡ f) × Stands plan live' (with_env (put true d (computed y o.frame env) env) m) (here + length code) q) =
      simple_done s plan variables fine program is_plan entries most widest f (Compute d y) (before (Compute t y) (before (Compute d (Same (Variable t))) live' w) w) live' [] [] here tt numbers (late_around (plan.home f) (variables f) t d y live' w dead right) at small few
      (with_env env m) o p (h.0, h.1.2) (record { frame = world.frame; top = world.top; depth = world.depth; memory = world.memory }) in
      comes_map s most (omega arith) (λ q g. (g.0, stands_like m (λ u l. subst (λ (e : Env). put true d (computed y o.frame env) env u ≡ put true d (e t) e u) (sym is) (rw world.frame (late_same t d (computed y m.frame env) u env live' dead l))) g.1)) walk

  -- or sends it
  pub late_sent : (f t : ℕ) (y : Value) (live' : VariableSet) (known : Facts) (w : LiveWays) (x : Exits) (here : ℕ) → s.side ≡ E → written_last y ≡ true → live' t ≡ false → AreNumbers y →
      CodeAt s.code here (late_code (plan.home f) (Datum (Variable t)) y) → here + length (late_code (plan.home f) (Datum (Variable t)) y) < 2 ^ 29 → length (late_code (plan.home f) (Datum (Variable t)) y) ≤ most →
      ActionDone s plan program entries most widest f known (Datum (Variable t)) (record { word = here; live = before (Compute t y) (before (Datum (Variable t)) live' w) w; standing = Late t y })
      (exit (here + length (late_code (plan.home f) (Datum (Variable t)) y)) live') x
  late_sent f t y live' known w x here by_e last dead numbers at small few m o p h world facts =
      subst (λ (g : ℕ). CodeAt s.code here (value_code (plan.home g) 30 y) → here + length (value_code (plan.home g) 30 y) < 2 ^ 29 → length (value_code (plan.home g) 30 y) ≤ most →
      Does s most (Push Sd (m.env t) (Went m.env)) (λ e p. (m.function ≡ g) × Stands plan live' (with_env e m) (here + length (value_code (plan.home g) 30 y)) p) p) h.0
      (λ at small few.
      let env : Env = h.1.0 in let is = h.1.1 in
      let code : List Inst = value_code (plan.home m.function) 30 y in
      let held : VariableSet = before (Compute t y) (before (Datum (Variable t)) live' w) w in
      let to : ℕ → Env → Processor → Type 0 = λ k e p. Stands plan live' (with_env e m) k p in
      let run : Runs s plan.private to code h.1.2.contents (Push Sd (computed y m.frame env) (Went m.env)) =
      send_value s plan variables fine to 30 Sd refl (λ a b i j. rw by_e (pushes_datum_of s.copies a b i j)) {live = held} {m = with_env env m} y last (ready s plan variables fine h.1.2) (λ u e. rw e refl) numbers
      (λ c ok. runs_nothing s plan.private to (λ k p shows. stands_like {env = env} m (λ u l. subst (λ (e : Env). env u ≡ e u) (sym is) (unset t (computed y m.frame env) u env live' dead l))
      (stands_less s plan variables fine (λ u l. sent_held y t live' w u dead l) (record { contents = c; shows = shows; agrees = ok.agrees })))) in
      let word : computed y m.frame env ≡ m.env t = subst (λ (e : Env). computed y m.frame env ≡ e t) (sym is) (grind (arith, nat_tests)) in
      does_map s (to (here + length code)) (λ e p. (m.function ≡ m.function) × Stands plan live' (with_env e m) (here + length code) p) (length code) most few (λ e q g. (refl, g)) (Push Sd (m.env t) (Went m.env)) p
      (subst (λ (n : ℕ). Does s (length code) (Push Sd n (Went m.env)) (to (here + length code)) p) word (run.from here small at p h.1.2.shows)))
      at small few

  -- or accesses memory at a sum, and adds it up itself
  module _ (by_a : s.side ≡ A) (f t v n : ℕ) (fits : is_immediate n ≡ true) (number : n < 2 ^ 32) (live' : VariableSet) (dead : live' t ≡ false) (known : Facts) (w : LiveWays) (x : Exits) (here : ℕ) where
    abbrev total : Value
    total = Binary Plus (Variable v) (Number n)

    -- where the second action begins
    abbrev Between : Action → Exit
    Between a = record { word = here; live = before (Compute t total) (before a live' w) w; standing = Late t total }

    abbrev AccessDone : Action → Type 0
    AccessDone a =
        CodeAt s.code here (late_code (plan.home f) a total) → here + length (late_code (plan.home f) a total) < 2 ^ 29 → length (late_code (plan.home f) a total) ≤ most →
        ActionDone s plan program entries most widest f known a (Between a) (exit (here + length (late_code (plan.home f) a total)) live') x

    -- what the sum reads is live there
    reads_sum : (k : VariableSet) → before (Compute t total) k w v ≡ true
    reads_sum k = let own : nat_eq v v ≡ true = eq-eqb v v refl in rw own refl

    -- what is live behind the access was live before it, with the words of the moment
    same_word : (env : Env) (m : Moment) (u : ℕ) → m.env ≡ put true t (computed total m.frame env) env → live' u ≡ true → env u ≡ m.env u
    same_word env m u is l = subst (λ (e : Env). env u ≡ e u) (sym is) (unset t (computed total m.frame env) u env live' dead l)

    same_address : (env : Env) (m : Moment) → m.env ≡ put true t (computed total m.frame env) env → computed total m.frame env ≡ m.env t
    same_address env m is = subst (λ (e : Env). computed total m.frame env ≡ e t) (sym is) (grind (arith, nat_tests))

    pub late_issue : (kind : LoadKind) → AccessDone (Issue kind (Variable t))
    late_issue kind at small few m o p h world facts =
        subst (λ (g : ℕ). CodeAt s.code here (late_code (plan.home g) (Issue kind (Variable t)) total) → here + length (late_code (plan.home g) (Issue kind (Variable t)) total) < 2 ^ 29 → length (late_code (plan.home g) (Issue kind (Variable t)) total) ≤ most →
        Does s most (Reserve Ld kind (m.env t) (Went m.env)) (λ e p. (m.function ≡ g) × Stands plan live' (with_env e m) (here + length (late_code (plan.home g) (Issue kind (Variable t)) total)) p) p) h.0
        (λ at small few.
        let env : Env = h.1.0 in let is = h.1.1 in
        let code : List Inst = late_code (plan.home m.function) (Issue kind (Variable t)) total in
        let held : VariableSet = before (Compute t total) (before (Issue kind (Variable t)) live' w) w in
        let to : ℕ → Env → Processor → Type 0 = λ k e p. Stands plan live' (with_env e m) k p in
        let run : Runs s plan.private to code h.1.2.contents (Reserve Ld kind (computed total m.frame env) (Went m.env)) =
        issues_there s plan variables fine to {live = held} {m = with_env env m} kind 30 Ld v n [] (λ b i l. rw by_a (issues s.copies kind b i l)) (ready s plan variables fine h.1.2) (reads_sum (before (Issue kind (Variable t)) live' w)) fits number
        (λ c ok. ends s plan variables fine live' live' m m.env (ready_as {live = held} {live' = live'} m env (λ u l. (sent_held total t live' w u dead l, same_word env m u is l)) ok)) in
        does_map s (to (here + length code)) (λ e p. (m.function ≡ m.function) × Stands plan live' (with_env e m) (here + length code) p) (length code) most few (λ e q g. (refl, g)) (Reserve Ld kind (m.env t) (Went m.env)) p
        (subst (λ (a : ℕ). Does s (length code) (Reserve Ld kind a (Went m.env)) (to (here + length code)) p) (same_address env m is) (run.from here small at p h.1.2.shows)))
        at small few

    pub late_address : (width : Width) → AccessDone (Address width (Variable t))
    late_address width at small few m o p h world facts =
        subst (λ (g : ℕ). CodeAt s.code here (late_code (plan.home g) (Address width (Variable t)) total) → here + length (late_code (plan.home g) (Address width (Variable t)) total) < 2 ^ 29 → length (late_code (plan.home g) (Address width (Variable t)) total) ≤ most →
        Does s most (Send width (m.env t) (Went m.env)) (λ e p. (m.function ≡ g) × Stands plan live' (with_env e m) (here + length (late_code (plan.home g) (Address width (Variable t)) total)) p) p) h.0
        (λ at small few.
        let env : Env = h.1.0 in let is = h.1.1 in
        let code : List Inst = late_code (plan.home m.function) (Address width (Variable t)) total in
        let held : VariableSet = before (Compute t total) (before (Address width (Variable t)) live' w) w in
        let to : ℕ → Env → Processor → Type 0 = λ k e p. Stands plan live' (with_env e m) k p in
        let run : Runs s plan.private to code h.1.2.contents (Send width (computed total m.frame env) (Went m.env)) =
        gives_there s plan variables fine to {live = held} {m = with_env env m} width v n [] (λ b i l. rw by_a (gives_address s.copies width b i l)) (ready s plan variables fine h.1.2) (reads_sum (before (Address width (Variable t)) live' w)) fits number
        (λ c ok. ends s plan variables fine live' live' m m.env (ready_as {live = held} {live' = live'} m env (λ u l. (sent_held total t live' w u dead l, same_word env m u is l)) ok)) in
        does_map s (to (here + length code)) (λ e p. (m.function ≡ m.function) × Stands plan live' (with_env e m) (here + length code) p) (length code) most few (λ e q g. (refl, g)) (Send width (m.env t) (Went m.env)) p
        (subst (λ (a : ℕ). Does s (length code) (Send width a (Went m.env)) (to (here + length code)) p) (same_address env m is) (run.from here small at p h.1.2.shows)))
        at small few

    -- all that is live behind it but d, where the word goes
    abbrev but : ℕ → VariableSet
    but d u = live' u && not (nat_eq u d)

    but_held : (d u : ℕ) → but d u ≡ true → (live' u ≡ true) × (nat_eq u d ≡ false)
    but_held d u e = and_not (live' u) (nat_eq u d) e

    pub late_own : (d : ℕ) (kind : LoadKind) → IsRight (plan.home f) (variables f) (with_all (before (Own d kind (Variable t)) live' w) (sets (Own d kind (Variable t)))) → AccessDone (Own d kind (Variable t))
    late_own d kind right at small few m o p h world facts =
        subst (λ (g : ℕ). IsRight (plan.home g) (variables g) (with_all (before (Own d kind (Variable t)) live' w) (sets (Own d kind (Variable t)))) → CodeAt s.code here (late_code (plan.home g) (Own d kind (Variable t)) total) → here + length (late_code (plan.home g) (Own d kind (Variable t)) total) < 2 ^ 29 → length (late_code (plan.home g) (Own d kind (Variable t)) total) ≤ most →
        Does s most (Reserve Al kind (m.env t) (Take Al (λ z. Went (put true d z m.env)))) (λ e p. (m.function ≡ g) × Stands plan live' (with_env e m) (here + length (late_code (plan.home g) (Own d kind (Variable t)) total)) p) p) h.0
        (λ right at small few.
        let env : Env = h.1.0 in let is = h.1.1 in
        let code : List Inst = late_code (plan.home m.function) (Own d kind (Variable t)) total in
        let held : VariableSet = before (Compute t total) (before (Own d kind (Variable t)) live' w) w in
        let to : ℕ → Env → Processor → Type 0 = λ k e p. Stands plan live' (with_env e m) k p in
        let last : Deed = Take Al (λ z. Went (put true d z m.env)) in
        let r = around (plan.home m.function) (variables m.function) (Own d kind (Variable t)) live' w (λ u. refl) right in
        let own : nat_eq d d ≡ true = eq-eqb d d refl in
        let run : Runs s plan.private to code h.1.2.contents (Reserve Al kind (computed total m.frame env) last) =
        issues_there s plan variables fine to {live = held} {m = with_env env m} kind 31 Al v n (take_code 31 (plan.home m.function d)) (λ b i l. rw by_a (issues_own s.copies kind b i l)) (ready s plan variables fine h.1.2) (reads_sum (before (Own d kind (Variable t)) live' w)) fits number
        (λ c ok. taken_home s plan variables fine (but d) live' m d 31 Al refl (λ t l. rw by_a (takes_own s.copies t l))
        (ready_as {live = held} {live' = but d} m env (λ u l. (let two = but_held d u l in (own_held total kind t d live' w u dead two.0 two.1, same_word env m u is two.0))) ok)
        ((λ u l ne. (let far : nat_eq u d ≡ false = grind (arith, nat_tests) in (rw (l, far) refl, r.apart u d own l ne))), r.scope d own)) in
        does_map s (to (here + length code)) (λ e p. (m.function ≡ m.function) × Stands plan live' (with_env e m) (here + length code) p) (length code) most few (λ e q g. (refl, g)) (Reserve Al kind (m.env t) last) p
        (subst (λ (a : ℕ). Does s (length code) (Reserve Al kind a last) (to (here + length code)) p) (same_address env m is) (run.from here small at p h.1.2.shows)))
        right at small few

  -- the first action takes a word, and its block does both
  module _ (q : ℕ) (queue : Queue) (high : nat_lt q 28 ≡ false) (left : (t r : ℕ) → t < 28 → r < 28 → queue_use s.copies s.side (Computes t q r) ≡ Some (Takes queue)) (right : (t r : ℕ) → t < 28 → r < 28 → queue_use s.copies s.side (Computes t r q) ≡ Some (Takes queue)) where
    pub early_first : (f v d : ℕ) (y : Value) (live' : VariableSet) (w : LiveWays) (here : ℕ) → reads_once v y ≡ true → (nat_eq v d || not (live' v)) ≡ true → AreNumbers y → v < variables f → IsRight (plan.home f) (variables f) (with_all (before (Compute d y) live' w) (sets (Compute d y))) →
        CodeAt s.code here (early_code (plan.home f) q v d y) → here + length (early_code (plan.home f) q v d y) < 2 ^ 29 → length (early_code (plan.home f) q v d y) ≤ most →
        (m : Moment) (p : Processor) → At s plan program entries most widest f (exit here (before (Receive v) (before (Compute d y) live' w) w)) m p →
        Does s most (Take queue (λ z. Went (put true v z m.env))) (λ env. At s plan program entries most widest f (record { word = here + length (early_code (plan.home f) q v d y); live = live'; standing = Early d y }) (with_env env m)) p
    early_first f v d y live' w here once dead numbers own is_right at small few m p h =
        subst (λ (g : ℕ). v < variables g → IsRight (plan.home g) (variables g) (with_all (before (Compute d y) live' w) (sets (Compute d y))) → CodeAt s.code here (early_code (plan.home g) q v d y) → here + length (early_code (plan.home g) q v d y) < 2 ^ 29 → length (early_code (plan.home g) q v d y) ≤ most →
        Does s most (Take queue (λ z. Went (put true v z m.env))) (λ env p. (m.function ≡ g) × Stands plan live' (with_env (put true d (computed y m.frame env) env) m) (here + length (early_code (plan.home g) q v d y)) p) p) h.0
        (λ own is_right at small few.
        let h0 = ready s plan variables fine h.1 in
        let few' = few_variables s plan variables fine h0 in
        let scope : d < variables m.function = (around (plan.home m.function) (variables m.function) (Compute d y) live' w (λ u. refl) is_right).scope d (grind (arith, nat_tests)) in
        let run = early_runs s plan variables fine (before (Receive v) (before (Compute d y) live' w) w) live' m v d y q queue high left right h0 (omega arith) scope once dead numbers
        (λ u e ne. rw (e, ne) refl) (λ u l ne. early_apart (plan.home m.function) (variables m.function) v d y live' w u dead is_right l ne) in
        does_map s (ToNext s plan variables fine (before (Receive v) (before (Compute d y) live' w) w) live' m v d y (here + length (early_code (plan.home m.function) q v d y))) (λ env p. (m.function ≡ m.function) × Stands plan live' (with_env (put true d (computed y m.frame env) env) m) (here + length (early_code (plan.home m.function) q v d y)) p)
        (length (early_code (plan.home m.function) q v d y)) most few (λ env q t. (refl, t)) (Take queue (λ z. Went (put true v z m.env))) p
        (run.from here small at p h.1.shows))
        own is_right at small few

  -- the second action was done by the block of the first: now the processor holds the variables of the moment
  pub early_second : (f d : ℕ) (y : Value) (live' : VariableSet) (known : Facts) (x : Exits) (here : ℕ) → ActionDone s plan program entries most widest f known (Compute d y) (record { word = here; live = live'; standing = Early d y }) (exit (here + 0) live') x
  early_second f d y live' known x here m o p h world facts =
      let same : here ≡ here + 0 = omega arith in
      let done : Stands plan live' (with_env (put true d (computed y o.frame m.env) m.env) m) here p = rw world.frame h.1 in
      comes_here s (h.0, subst (λ (j : ℕ). Stands plan live' (with_env (put true d (computed y o.frame m.env) m.env) m) j p) same done)
