-- Paths through code that don't set a variable, and those that read it before they set it. A path takes either branch of an
-- If and any number of turns of a Loop.
use Rattle.std.specs.Prelude.{◌≡◌, ℕ, Bool, true, false}
use Rattle.dae_ir.specs.Code.{Done, Do, If, Loop}
use Rattle.dae_meaning.specs.Results.{Way, Next, Leaves, Skips, Returns}
use Rattle.dae_ir.specs.Streams.{Actions}
use Rattle.dae_ir.specs.declared.stream.Mark.{Mark}
use Rattle.dae_ir.specs.declared.stream.Action.{Action}
use Rattle.dae_ir.specs.declared.stream.Action.TheVariants.{Stop, Break, Continue, Return}
use Rattle.dae_ir.specs.declared.stream.Branch.{Branch}
use Rattle.dae_select_walks.specs.Live.{LiveWays, reads, sets, decided}

-- where an action goes on
abbrev pub way_of : Action → Way
way_of Break = Leaves
way_of Continue = Skips
way_of (Stop x) = Returns
way_of (Return x) = Returns
way_of a = Next

-- from a turn's body to its step, and round
abbrev pub IsInner : Way → Type 0
IsInner Next = Unit {0}
IsInner Skips = Unit {0}
IsInner Leaves = ⊥
IsInner Returns = ⊥

abbrev pub IsOut : Way → Type 0
IsOut Leaves = Unit {0}
IsOut Skips = Unit {0}
IsOut Next = ⊥
IsOut Returns = ⊥

mutual
  -- some path leads to this way out of the code, and doesn't set u
  pub data Passes (u : ℕ) : Actions → Way → Type 0 where
    Ends : Passes u Done Next
    Goes : {m : Mark} {a : Action} {k : Actions} {way : Way} → way_of a ≡ Next → sets a u ≡ false → Passes u k way → Passes u (Do m a k) way
    Jumps : {m : Mark} {a : Action} {k : Actions} {way : Way} → way_of a ≡ way → IsOut way → Passes u (Do m a k) way
    First : {m : Mark} {b : Branch} {p q k : Actions} {way : Way} → Passes u p Next → Passes u k way → Passes u (If m b p q k) way
    Second : {m : Mark} {b : Branch} {p q k : Actions} {way : Way} → Passes u q Next → Passes u k way → Passes u (If m b p q k) way
    OutFirst : {m : Mark} {b : Branch} {p q k : Actions} {way : Way} → IsOut way → Passes u p way → Passes u (If m b p q k) way
    OutSecond : {m : Mark} {b : Branch} {p q k : Actions} {way : Way} → IsOut way → Passes u q way → Passes u (If m b p q k) way
    Turns : {m : Mark} {body step k : Actions} {way : Way} → Rounds u body step → Passes u k way → Passes u (Loop m body step k) way

  -- from the begin of a turn to behind the loop
  pub data Rounds (u : ℕ) : Actions → Actions → Type 0 where
    OutOfBody : {body step : Actions} → Passes u body Leaves → Rounds u body step
    OutOfStep : {body step : Actions} {way : Way} → IsInner way → Passes u body way → Passes u step Leaves → Rounds u body step
    Again : {body step : Actions} {way back : Way} → IsInner way → IsInner back → Passes u body way → Passes u step back → Rounds u body step → Rounds u body step

-- some path through the code reads u before it sets it
pub data Reads (u : ℕ) : Actions → Type 0 where
  Here : {m : Mark} {a : Action} {k : Actions} → reads a u ≡ true → Reads u (Do m a k)
  Later : {m : Mark} {a : Action} {k : Actions} → way_of a ≡ Next → sets a u ≡ false → Reads u k → Reads u (Do m a k)
  Decides : {m : Mark} {b : Branch} {p q k : Actions} → decided b u ≡ true → Reads u (If m b p q k)
  InFirst : {m : Mark} {b : Branch} {p q k : Actions} → Reads u p → Reads u (If m b p q k)
  InSecond : {m : Mark} {b : Branch} {p q k : Actions} → Reads u q → Reads u (If m b p q k)
  BehindFirst : {m : Mark} {b : Branch} {p q k : Actions} → Passes u p Next → Reads u k → Reads u (If m b p q k)
  BehindSecond : {m : Mark} {b : Branch} {p q k : Actions} → Passes u q Next → Reads u k → Reads u (If m b p q k)
  InBody : {m : Mark} {body step k : Actions} → Reads u body → Reads u (Loop m body step k)
  InStep : {m : Mark} {body step k : Actions} {way : Way} → IsInner way → Passes u body way → Reads u step → Reads u (Loop m body step k)
  NextTurn : {m : Mark} {body step k : Actions} {way back : Way} → IsInner way → IsInner back → Passes u body way → Passes u step back → Reads u (Loop m body step k) → Reads u (Loop m body step k)
  BehindLoop : {m : Mark} {body step k : Actions} → Rounds u body step → Reads u k → Reads u (Loop m body step k)

-- what is live at a way out
abbrev pub at_way : LiveWays → Way → ℕ → Bool
at_way x Next u = x.next u
at_way x Leaves u = x.leaves u
at_way x Skips u = x.skips u
at_way x Returns u = false

-- a path reads it in the code, or leads to where it is live
pub data IsLive (u : ℕ) (code : Actions) (x : LiveWays) : Type 0 where
  Inside : Reads u code → IsLive u code x
  Outside : (way : Way) → Passes u code way → at_way x way u ≡ true → IsLive u code x
