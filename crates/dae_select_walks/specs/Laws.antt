-- What is proved of liveness.
use Rattle.std.specs.Prelude.{◌≡◌, ℕ, true}
use Rattle.dae_ir.specs.Classes.{VariableSet}
use Rattle.dae_ir.specs.SetFirst.{IsSetFirst, stream_flow}
use Rattle.dae_ir.specs.Streams.{Actions}
use Rattle.dae_select_walks.specs.Live.{LiveWays, live, nowhere, turn, body_ways}
use Rattle.dae_select_walks.specs.Paths.{IsLive}

-- a variable is live exactly where some path reads it before it sets it, in the code or where it goes on
abbrev pub LiveHasPath : Type 0
LiveHasPath = (code : Actions) (x : LiveWays) (u : ℕ) → live code x u ≡ true → IsLive u code x

abbrev pub PathIsLive : Type 0
PathIsLive = (code : Actions) (x : LiveWays) (u : ℕ) → IsLive u code x → live code x u ≡ true

-- round a loop nothing more comes in
abbrev pub TurnsAgain : Type 0
TurnsAgain = (body step : Actions) (k : VariableSet) → live body (body_ways body step k) ≡ turn body step k

-- where each variable is set before it is read, only what was set before is live
abbrev pub LiveIsSet : Type 0
LiveIsSet = (code : Actions) (d : VariableSet) → IsSetFirst stream_flow d code → (u : ℕ) → live code nowhere u ≡ true → d u ≡ true
