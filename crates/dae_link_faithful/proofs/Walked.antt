-- Walks of the single actions are walks of a side: what comes quietly has no use, and a deed has the uses that follow it.
use Rattle.std.proofs.Common.{◌≡◌, ℕ, suc, ◌+◌, ◌%◌, ◌≤◌, Bool, true, false, ◌||◌, List, [], ◌∷◌, refl, ap, ◌∙◌, subst, arith}
use Rattle.std.specs.Prelude.{Option, Some, None, not, nat_eq, nat_lt, if◌then◌else◌}
use Rattle.std.specs.List.{AllByRecursion}
use Rattle.std.proofs.lemmas.Bool.Decides.{nat_tests}
use Rattle.dae_base.specs.Words.{width_of, size}
use Rattle.dae_base.specs.declared.Width.{Width}
use Rattle.dae_encode.specs.declared.QueueUse.TheVariants.{Nothing}
use Rattle.dae_encode.specs.Processor.{Processor, is_within}
use Rattle.dae_machine.specs.Machine.{Setup}
use Rattle.dae_meaning.specs.Variables.{Env}
use Rattle.dae_meaning.specs.Operations.{misplaced}
use Rattle.dae_ir.specs.Programs.{side}
use Rattle.dae_ir.specs.Deeds.{Quit, Plainly, WithStatus, WithTrap, Deed, Went, Take, Push, Reserve, Send, Say, Halts}
use Rattle.dae_machine.specs.Uses.{Use, Takes, Pushes, Reserves, Sends, Says, access_of, said_by, given_by, Puts, PushesWord}
use Rattle.dae_machine_rounds.specs.Follows.{IsFit, DeedOutcome, Leaves, Quits, Follows, went, takes, pushes, reserves, sends, says, halts}
use Rattle.dae_machine.specs.Walks.{Goes, Walks, stays, quiet, makes}
use Rattle.dae_machine_rounds.specs.Sides.{halt_of}
use Rattle.dae_select_walks.specs.Walks.{WalkSetting, Happens, Quietly, Stays, Moves, quiet_event, Comes, Nears, Acts}
use Rattle.dae_link_faithful.specs.Made.{setting_of}
use Rattle.dae_select_walks.specs.Does.{Does, event, halt_of as halt_of'}

abbrev trap_of : Bool → Bool → Bool → Option ℕ
trap_of a b c = if not a then Some 3 else (if b || c then Some 2 else None)

good : (w : Width) (address room : ℕ) → misplaced w address room ≡ None → is_within 16 room w address ≡ true
unfolding misplaced
good w address room h = by (nat_eq (address % size w) 0) (nat_lt address 16) (nat_lt room (address + size w)) refl refl refl h
  where
    by : (a b c : Bool) → nat_eq (address % size w) 0 ≡ a → nat_lt address 16 ≡ b → nat_lt room (address + size w) ≡ c → trap_of a b c ≡ None → is_within 16 room w address ≡ true
    by true false false ea eb ec h = rw ea (grind (arith, nat_tests))
    by true true c ea eb ec h = absurd cc
    by true false true ea eb ec h = absurd cc
    by false b c ea eb ec h = absurd cc

same_halt : (q : Quit) → halt_of' q ≡ halt_of q
same_halt Plainly = refl
same_halt (WithStatus n) = refl
same_halt (WithTrap n) = refl

module _ (setup : Setup) (by_a : Bool) where
  abbrev pub s : WalkSetting
  s = setting_of setup by_a

  -- a walk with so many instructions at most, whose uses push words
  pub record Walks_to (least most : ℕ) (p : Processor) (uses : List Use) (Q : Processor → Type 0) : Type 0 where
    pub after : Processor
    pub steps : ℕ
    pub walks : Walks setup (side by_a) p uses steps after
    pub holds : Q after
    pub some : least ≤ steps
    pub few : steps ≤ most
    pub words : AllByRecursion PushesWord uses

  quietly : {p next : Processor} {put : ℕ} → Happens s p (quiet_event put) next → Goes setup (side by_a) p (Says []) next
  quietly {put = put} g = record { word = put; inst = g.inst; asks = g.asks; puts = tt; does = g.does }

  counted : {p last : Processor} {uses : List Use} {m n : ℕ} → m ≡ n → Walks setup (side by_a) p uses m last → Walks setup (side by_a) p uses n last
  counted {p} {last} {uses} e w = subst (λ (k : ℕ). Walks setup (side by_a) p uses k last) e w

  -- quiet instructions, and then a walk
  pub quiet_first : {p q last : Processor} {uses : List Use} {m n : ℕ} → Quietly s m p q → Walks setup (side by_a) q uses n last → Walks setup (side by_a) p uses (m + n) last
  quiet_first {n = n} Stays w = counted (omega arith) w
  quiet_first {n = n} (Moves {n = m} g gs) w = counted {m = suc (m + n)} (omega arith) (quiet (quietly g) (quiet_first gs w))

  pub comes_walks : {n k : ℕ} {least most : ℕ} {p : Processor} {uses : List Use} {Q R : Processor → Type 0} → Comes s n p Q → ((q : Processor) → Q q → Walks_to least k q uses R) → n + k ≤ most → Walks_to least most p uses R
  comes_walks c f l =
      let r = f c.last c.holds in let short = c.short in let few = r.few in let some = r.some in
      record { after = r.after; steps = c.steps + r.steps; walks = quiet_first c.quiet r.walks; holds = r.holds; some = omega arith; few = omega arith; words = r.words }

  pub here_walks : {p : Processor} {Q : Processor → Type 0} → Q p → Walks_to 0 0 p [] Q
  here_walks {p} h = record { after = p; steps = 0; walks = stays; holds = h; some = omega arith; few = omega arith; words = tt }

  pub walks_more : {a b c d : ℕ} {p : Processor} {uses : List Use} {Q : Processor → Type 0} → c ≤ a → b ≤ d → Walks_to a b p uses Q → Walks_to c d p uses Q
  walks_more l m r = let some = r.some in let few = r.few in record { after = r.after; steps = r.steps; walks = r.walks; holds = r.holds; some = omega arith; few = omega arith; words = r.words }

  pub just_comes : {n most : ℕ} {p : Processor} {Q R : Processor → Type 0} → Comes s n p Q → ((q : Processor) → Q q → R q) → n ≤ most → Walks_to 0 most p [] R
  just_comes {n} c f l = comes_walks {k = 0} c (λ q h. here_walks (f q h)) (omega arith)

  -- one instruction that makes a use
  pub use_walks : {k most : ℕ} {p : Processor} {uses : List Use} {Q R : Processor → Type 0} (u : Use) (put : ℕ) → Puts u put → PushesWord u → Acts s p (event (access_of u) put (given_by u) (said_by u)) Q → ((q : Processor) → Q q → Walks_to 0 k q uses R) → suc k ≤ most → Walks_to 0 most p (u ∷ uses) R
  use_walks u put same word a f l =
      let r = f a.next a.holds in let few = r.few in
      record { after = r.after; steps = suc r.steps; walks = makes (record { word = put; inst = a.goes.inst; asks = a.goes.asks; puts = same; does = a.goes.does }) r.walks; holds = r.holds; some = omega arith; few = omega arith; words = (word, r.words) }

  some_step : {p last : Processor} {u : Use} {uses : List Use} {n : ℕ} → Walks setup (side by_a) p (u ∷ uses) n last → 1 ≤ n
  some_step (quiet g w) = omega arith
  some_step (makes g w) = omega arith

  -- a use is an instruction
  pub used_walks : {least most : ℕ} {p : Processor} {u : Use} {uses : List Use} {Q : Processor → Type 0} → Walks_to least most p (u ∷ uses) Q → Walks_to 1 most p (u ∷ uses) Q
  used_walks r = record { after = r.after; steps = r.steps; walks = r.walks; holds = r.holds; some = some_step r.walks; few = r.few; words = r.words }

  -- one quiet instruction at least
  pub acts_walks : {put k most : ℕ} {p : Processor} {uses : List Use} {Q R : Processor → Type 0} → Acts s p (event Nothing put 0 []) Q → ((q : Processor) → Q q → Walks_to 0 k q uses R) → suc k ≤ most → Walks_to 1 most p uses R
  acts_walks {put} a f l =
      let r = f a.next a.holds in let few = r.few in
      record { after = r.after; steps = suc r.steps; walks = quiet (quietly {put = put} a.goes) r.walks; holds = r.holds; some = omega arith; few = omega arith; words = r.words }

  abbrev pub Ended : DeedOutcome → (Env → Processor → Type 0) → Processor → Type 0
  Ended (Leaves env) to p = to env p
  Ended (Quits quit) to p = p.halt ≡ Some (halt_of quit)

  pub nears_walks : {n most : ℕ} {p : Processor} {uses : List Use} {Q : ℕ → Processor → Type 0} {R : Processor → Type 0} → Nears s n p Q → ((l : ℕ) (q : Processor) → Q l q → Walks_to 0 (suc l) q uses R) → n ≤ most → Walks_to 0 most p uses R
  nears_walks c f l =
      let r = f c.left c.last c.holds in let short = c.short in let few = r.few in
      record { after = r.after; steps = c.steps + r.steps; walks = quiet_first c.quiet r.walks; holds = r.holds; some = omega arith; few = omega arith; words = r.words }

  -- a deed with the uses that follow it
  pub does_walks : {uses : List Use} {o : DeedOutcome} (n : ℕ) (to : Env → Processor → Type 0) (d : Deed) (p : Processor) → Does s n d to p → Follows d uses o → AllByRecursion (IsFit setup.memory) uses → Walks_to 0 n p uses (Ended o to)
  does_walks n to (Went env) p c went fit = just_comes c (λ q h. h) (omega arith)
  does_walks n to (Take queue go) p c (takes x follows) fit =
      nears_walks c (λ l q h. let a = h x fit.0 in use_walks {k = l} (Takes queue x) a.0 tt tt a.1 (λ r g. does_walks l to (go x) r g follows fit.1) (omega arith)) (omega arith)
  does_walks n to (Push queue x rest) p c (pushes follows) fit =
      nears_walks c.1 (λ l q a. use_walks {k = l} (Pushes queue x) x refl c.0 a (λ r g. does_walks l to rest r g follows fit.1) (omega arith)) (omega arith)
  does_walks n to (Reserve queue kind address rest) p c (reserves follows) fit =
      nears_walks (c (good (width_of kind) address setup.memory fit.0)) (λ l q a. use_walks {k = l} (Reserves queue kind address) address refl tt a (λ r g. does_walks l to rest r g follows fit.1) (omega arith)) (omega arith)
  does_walks n to (Send width address rest) p c (sends follows) fit =
      nears_walks (c (good width address setup.memory fit.0)) (λ l q a. use_walks {k = l} (Sends width address) address refl tt a (λ r g. does_walks l to rest r g follows fit.1) (omega arith)) (omega arith)
  does_walks n to (Say text rest) p c (says follows) fit =
      nears_walks c (λ l q a. use_walks {k = l} (Says text) 0 tt tt a (λ r g. does_walks l to rest r g follows fit.1) (omega arith)) (omega arith)
  does_walks n to (Halts quit) p c halts fit =
      nears_walks c (λ l q a. walks_more {a = 1} {b = 1} (omega arith) (omega arith) (acts_walks {k = 0} {most = 1} a (λ r g. here_walks {Q = λ (t : Processor). t.halt ≡ Some (halt_of quit)} (g ∙ ap Some (same_halt quit))) (omega arith))) (omega arith)
