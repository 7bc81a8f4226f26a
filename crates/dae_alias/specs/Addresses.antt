-- When two accesses move the same bytes, and when they share none, by their symbolic addresses. Addresses are words, and the
-- bytes of an access that passes the last one go on at 0.
use Rattle.std.specs.Prelude.{◌≡◌, ◌↔◌, ℕ, ◌+◌, ◌%◌, ◌^◌, ◌<◌, Bool, true, false, ◌&&◌, ◌||◌, nat_eq, nat_lt, if◌then◌else◌}
use Rattle.dae_base.specs.Words.{minus, size}
use Rattle.dae_base.specs.declared.Width.{Width}
use Rattle.dae_base.specs.declared.Width.TheVariants.{B1, B2, B4}
use Rattle.dae_base.specs.declared.LoadKind.{LoadKind}
use Rattle.dae_base.specs.declared.LoadKind.TheVariants.{I8, U8, I16, U16, I32}
use Rattle.dae_alias.specs.declared.addresses.Base.{Base}
use Rattle.dae_alias.specs.declared.addresses.Base.TheVariants.{Number, Frame, Variable}
use Rattle.dae_alias.specs.declared.addresses.SymAddr.{SymAddr}
use Rattle.dae_alias.specs.declared.addresses.Relation.{Relation}
use Rattle.dae_alias.specs.declared.addresses.Relation.TheVariants.{Same, Apart, Unknown}

abbrev pub same_base : Base → Base → Bool
same_base Number Number = true
same_base Frame Frame = true
same_base (Variable v j) (Variable w k) = nat_eq v w && nat_eq j k
same_base x y = false

-- base and offset agree
abbrev pub same_place : SymAddr → SymAddr → Bool
same_place x y = same_base x.base y.base && nat_eq x.offset y.offset

abbrev pub same_width : Width → Width → Bool
same_width B1 B1 = true
same_width B2 B2 = true
same_width B4 B4 = true
same_width x y = false

abbrev pub same_kind : LoadKind → LoadKind → Bool
same_kind I8 I8 = true
same_kind U8 U8 = true
same_kind I16 I16 = true
same_kind U16 U16 = true
same_kind I32 I32 = true
same_kind x y = false

-- the bytes from x on and those from y on, for words x and y: the one begins among the other's
abbrev pub ranges_meet : ℕ → Width → ℕ → Width → Bool
ranges_meet x wx y wy = nat_lt (minus y x) (size wx) || nat_lt (minus x y) (size wy)

abbrev pub relation : SymAddr → Width → SymAddr → Width → Relation
relation x wx y wy =
    if same_base x.base y.base then
    (if nat_eq x.offset y.offset && same_width wx wy then Same
    else (if ranges_meet x.offset wx y.offset wy then Unknown else Apart))
    else Unknown

abbrev pub are_apart : SymAddr → Width → SymAddr → Width → Bool
are_apart x wx y wy =
    same_base x.base y.base
    && (if nat_eq x.offset y.offset && same_width wx wy then false
    else (if ranges_meet x.offset wx y.offset wy then false else true))

-- the two accesses have a byte in common
pub record ShareByte (x : ℕ) (wx : Width) (y : ℕ) (wy : Width) : Type 0 where
  pub first : ℕ
  pub second : ℕ
  pub among : first < size wx
  pub among' : second < size wy
  pub same : (x + first) % 2 ^ 32 ≡ (y + second) % 2 ^ 32

-- the relation of two symbolic addresses whose offsets are words
pub record IsExactly (x : SymAddr) (wx : Width) (y : SymAddr) (wy : Width) : Type 0 where
  pub same : relation x wx y wy ≡ Same ↔ ((x ≡ y) × (wx ≡ wy))
  pub apart : relation x wx y wy ≡ Apart
      ↔ ((x.base ≡ y.base) × (ShareByte x.offset wx y.offset wy → ⊥))
  pub apart' : are_apart x wx y wy ≡ true ↔ (relation x wx y wy ≡ Apart)

-- It is `Same` exactly where base, offset and width agree, and `Apart` exactly where the bases agree and no byte is common.
abbrev pub RelationIsExact : Type 0
RelationIsExact =
    (x y : SymAddr) (wx wy : Width) → x.offset < 2 ^ 32 → y.offset < 2 ^ 32 → IsExactly x wx y wy
