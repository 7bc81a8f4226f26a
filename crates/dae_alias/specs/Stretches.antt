-- Symbolic addresses in a stretch, and its second loads. A stretch is a longest run of assignments, loads, checks and stores in
-- one list of statements. In it the symbolic address of an operand follows, back to the stretch's start, the assignments that
-- copy, that add or subtract a number, or that give an address in the frame. It ends at a number, at the frame, or at a variable
-- with the number of times that it was set since that start.
use Rattle.std.specs.Prelude.{◌≡◌, ℕ, ◌+◌, ◌-◌, ◌^◌, ◌≤◌, ◌<◌, Bool, false, ◌&&◌, ◌||◌, nat_eq, if◌then◌else◌, Option, Some, None}
use Rattle.dae_base.specs.Words.{plus, width_of}
use Rattle.dae_base.specs.declared.LoadKind.{LoadKind}
use Rattle.dae_ir.specs.Code.{Done, Do, If, Loop}
use Rattle.dae_ir.specs.Form.{Form}
use Rattle.dae_ir.specs.declared.form.Operand.{Operand}
use Rattle.dae_ir.specs.declared.form.Operand.TheVariants as operand
use Rattle.dae_ir.specs.declared.form.Value.{Value}
use Rattle.dae_ir.specs.declared.form.Value.TheVariants as val
use Rattle.dae_meaning.specs.declared.Operator.TheVariants.{Add, Subtract}
use Rattle.dae_ir.specs.declared.form.Item.{Item}
use Rattle.dae_ir.specs.declared.form.Item.TheVariants.{Assign, Load, Store, Print, Expect, Break, Continue, Call, Return, Halt}
use Rattle.dae_alias.specs.declared.addresses.Base.TheVariants.{Number, Frame, Variable}
use Rattle.dae_alias.specs.declared.addresses.SymAddr.{SymAddr}
use Rattle.dae_alias.specs.Addresses.{same_place, same_kind, are_apart}

-- what is known in a stretch: what each variable holds, and how often it was set
pub record KnownInStretch : Type 0 where
  pub value : ℕ → SymAddr
  pub times : ℕ → ℕ

-- at a stretch's start
abbrev pub nothing : KnownInStretch
nothing = record { value = λ v. record { base = Variable v 0; offset = 0 }; times = λ v. 0 }

abbrev pub symbol : KnownInStretch → Operand → SymAddr
symbol s (operand.Variable v) = s.value v
symbol s (operand.Number k) = record { base = Number; offset = k }

abbrev pub shifted : SymAddr → ℕ → SymAddr
shifted x k = record { base = x.base; offset = plus x.offset k }

-- of an assignment that can be followed
abbrev pub followed : KnownInStretch → Value → Option SymAddr
followed s (val.Same x) = Some (symbol s x)
followed s (val.Binary Add x (operand.Number k)) = Some (shifted (symbol s x) k)
followed s (val.Binary Add (operand.Number k) (operand.Variable v)) = Some (shifted (s.value v) k)
followed s (val.Binary Subtract x (operand.Number k)) = Some (shifted (symbol s x) (2 ^ 32 - k))
followed s (val.FrameAddress offset) = Some (record { base = Frame; offset = offset })
followed s x = None

-- what v holds from now on, where it isn't followed
abbrev pub renewed : KnownInStretch → ℕ → SymAddr
renewed s v = record { base = Variable v (s.times v + 1); offset = 0 }

abbrev pub given : KnownInStretch → ℕ → Option SymAddr → SymAddr
given s v None = renewed s v
given s v (Some x) = x

abbrev pub set : KnownInStretch → ℕ → Option SymAddr → KnownInStretch
set s v x = record {
  value = λ u. if nat_eq u v then given s v x else s.value u;
  times = λ u. if nat_eq u v then s.times u + 1 else s.times u;
}

-- a count of 64 bits has room for one more set of each variable
abbrev pub IsSetSeldom : KnownInStretch → Type 0
IsSetSeldom s = (v : ℕ) → s.times v + 1 < 2 ^ 64

-- each variable was set at most once more
abbrev pub IsSetOnceMore : KnownInStretch → KnownInStretch → Type 0
IsSetOnceMore s t = (v : ℕ) → t.times v ≤ s.times v + 1

-- behind an item; one that stands in no stretch ends it
abbrev pub after : KnownInStretch → Item → KnownInStretch
after s (Assign v x) = set s v (followed s x)
after s (Load v kind x) = set s v None
after s (Store width x y) = s
after s (Expect check) = s
after s (Print spelling x) = nothing
after s Break = nothing
after s Continue = nothing
after s (Call v f xs) = nothing
after s (Return x) = nothing
after s (Halt x) = nothing

-- ---- second loads

-- the rest of a stretch holds a load of this kind from this address, where each store before it is apart from the address
abbrev pub loads_again : LoadKind → SymAddr → KnownInStretch → Form → Bool
loads_again kind at s Done = false
loads_again kind at s (Do place (Assign v x) k) = loads_again kind at (after s (Assign v x)) k
loads_again kind at s (Do place (Load v kind' x) k) =
    (same_kind kind kind' && same_place at (symbol s x))
    || loads_again kind at (after s (Load v kind' x)) k
loads_again kind at s (Do place (Store width x y) k) =
    are_apart at (width_of kind) (symbol s x) width && loads_again kind at s k
loads_again kind at s (Do place (Expect check) k) = loads_again kind at s k
loads_again kind at s (Do place (Print spelling x) k) = false
loads_again kind at s (Do place Break k) = false
loads_again kind at s (Do place Continue k) = false
loads_again kind at s (Do place (Call v f xs) k) = false
loads_again kind at s (Do place (Return x) k) = false
loads_again kind at s (Do place (Halt x) k) = false
loads_again kind at s (If place test p q k) = false
loads_again kind at s (Loop place body step k) = false

abbrev pub is_first : KnownInStretch → Item → Form → Bool
is_first s (Load v kind x) k = loads_again kind (symbol s x) (after s (Load v kind x)) k
is_first s item k = false

-- some stretch holds two such loads, the rest of the first one from s on
abbrev pub has_second : KnownInStretch → Form → Bool
has_second s Done = false
has_second s (Do place item k) = is_first s item k || has_second (after s item) k
has_second s (If place test p q k) =
    has_second nothing p || (has_second nothing q || has_second nothing k)
has_second s (Loop place body step k) =
    has_second nothing body || (has_second nothing step || has_second nothing k)

-- no stretch of the code holds two loads of one kind from one symbolic address, where each store between them is apart from it
abbrev pub HasNoSecond : Form → Type 0
HasNoSecond code = has_second nothing code ≡ false
