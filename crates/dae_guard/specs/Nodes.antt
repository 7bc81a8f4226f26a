-- A node of the checker's walk: counters, ranges of registers, and what waits in the queues.
use Rattle.std.specs.Prelude.{ℕ, zero, suc, Bool, true, false, ◌&&◌, ◌||◌, nat_lt, nat_eq, is_none, if◌then◌else◌, List, [], ◌∷◌, Option, Some, None, slice_set, get_or, ◌==◌}
use Rattle.std.specs.List.{list_any}
use Rattle.dae_certificate.specs.declared.SideNode.{SideNode}
use Rattle.dae_guard.specs.Sets.{Cell}
use Rattle.dae_guard.specs.Sets.{Waiting}
use Rattle.dae_guard.specs.Sets.{Node}
use Rattle.dae_certificate.specs.declared.CertificateNode.{CertificateNode}
use Rattle.dae_ranges.specs.declared.Range.{Range}
use Rattle.dae_ranges.specs.Ranges.{single, any_word, within}

abbrev pub nothing_waits : Waiting
nothing_waits = record { ld = []; al = []; sa = []; sd = []; ab = []; eb = []; cq = [] }

-- ---- registers

-- the range of a register: any word where none is kept
abbrev pub range_at : List Range → ℕ → Range
range_at rs r = get_or rs r any_word

-- what a source reads, where an access gives this
abbrev pub source : List Range → Range → ℕ → Range
source rs taken r = if r == 0 then single 0 else (if nat_lt r 28 then range_at rs r else taken)

-- a register that holds a value of its own
abbrev pub is_plain : ℕ → Bool
is_plain r = nat_lt 0 r && nat_lt r 28

abbrev pub with_range : ℕ → Range → List Range → List Range
with_range r v rs = if is_plain r then slice_set rs r v else rs

-- ---- ends

abbrev pub is_nil : {X : Type 0} → List X → Bool
is_nil [] = true
is_nil (x ∷ xs) = false

abbrev pub all_filled : List Cell → Bool
all_filled [] = true
all_filled (c ∷ cs) = (if is_none c.value then false else true) && all_filled cs

-- both sides have halted, no store waits, and every slot is filled
abbrev pub is_final : Node → Bool
is_final n =
    is_none n.a.counter
    && (is_none n.e.counter
    && (is_nil n.waiting.sa
    && (is_nil n.waiting.sd && (all_filled n.waiting.ld && all_filled n.waiting.al))))

abbrev pub nothing_left : Waiting → Bool
nothing_left q =
    is_nil q.ld
    && (is_nil q.al
    && (is_nil q.sa && (is_nil q.sd && (is_nil q.ab && (is_nil q.eb && is_nil q.cq)))))

abbrev pub same_counter : Option ℕ → Option ℕ → Bool
same_counter None None = true
same_counter None (Some d) = false
same_counter (Some c) None = false
same_counter (Some c) (Some d) = nat_eq c d

-- the ranges of the registers below k, but for register 0, lie in the others
abbrev pub registers_within : ℕ → List Range → List Range → Bool
registers_within zero outer rs = true
registers_within (suc k) outer rs =
    (nat_eq k 0 || within (range_at outer k) (range_at rs k)) && registers_within k outer rs

abbrev pub side_within : SideNode → SideNode → Bool
side_within outer n =
    same_counter outer.counter n.counter && registers_within 28 outer.registers n.registers

abbrev pub covers : Node → CertificateNode → Bool
covers n k = side_within k.a n.a && side_within k.e n.e

abbrev pub is_covered : List CertificateNode → Node → Bool
is_covered certificate n = nothing_left n.waiting && list_any (covers n) certificate

abbrev pub known_node : CertificateNode → Node
known_node k = record { a = k.a; e = k.e; waiting = nothing_waits }
