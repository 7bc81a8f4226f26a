-- The uses of queues that a processor makes one after the other, each with its word.
use Rattle.std.specs.Prelude.{◌≡◌, ℕ, ◌<◌, ◌^◌, List, [], ◌∷◌, ◌++◌}
use Rattle.dae_base.specs.declared.Width.{Width}
use Rattle.dae_base.specs.declared.LoadKind.{LoadKind}
use Rattle.dae_base.specs.declared.Queue.{Queue}
use Rattle.dae_encode.specs.declared.QueueUse.{QueueUse}
use Rattle.dae_encode.specs.declared.QueueUse.TheVariants.{Nothing, Take, Push, Load, StoreAddress}

-- a word is taken, or pushed; a slot is reserved, or the address of a store is given; or something is printed
pub data Use : Type 0 where
  Takes : (queue : Queue) (word : ℕ) → Use
  Pushes : (queue : Queue) (word : ℕ) → Use
  Reserves : (queue : Queue) (kind : LoadKind) (address : ℕ) → Use
  Sends : (width : Width) (address : ℕ) → Use
  Says : (text : List ℕ) → Use

-- ---- the instruction that makes it: its access, the word that it puts in, the word that it gets, and what it prints

abbrev pub access_of : Use → QueueUse
access_of (Takes queue x) = Take queue
access_of (Pushes queue x) = Push queue
access_of (Reserves queue kind address) = Load queue kind
access_of (Sends width address) = StoreAddress width
access_of (Says text) = Nothing

abbrev pub put_by : Use → ℕ
put_by (Takes queue x) = 0
put_by (Pushes queue x) = x
put_by (Reserves queue kind address) = address
put_by (Sends width address) = address
put_by (Says text) = 0

-- a word that goes nowhere may be any
abbrev pub Puts : Use → ℕ → Type 0
Puts (Takes queue x) word = Unit {0}
Puts (Pushes queue x) word = word ≡ x
Puts (Reserves queue kind address) word = word ≡ address
Puts (Sends width address) word = word ≡ address
Puts (Says text) word = Unit {0}

abbrev pub given_by : Use → ℕ
given_by (Takes queue x) = x
given_by (Pushes queue x) = 0
given_by (Reserves queue kind address) = 0
given_by (Sends width address) = 0
given_by (Says text) = 0

abbrev pub said_by : Use → List ℕ
said_by (Takes queue x) = []
said_by (Pushes queue x) = []
said_by (Reserves queue kind address) = []
said_by (Sends width address) = []
said_by (Says text) = text

-- what the uses print, in a row
abbrev pub texts : List Use → List ℕ
texts [] = []
texts (u ∷ us) = said_by u ++ texts us

-- what is pushed is a word
abbrev pub PushesWord : Use → Type 0
PushesWord (Takes queue x) = Unit {0}
PushesWord (Pushes queue x) = x < 2 ^ 32
PushesWord (Reserves queue kind address) = Unit {0}
PushesWord (Sends width address) = Unit {0}
PushesWord (Says text) = Unit {0}
