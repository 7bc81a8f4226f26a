-- Where no rule is broken, what is written is what the text says.
use Rattle.std.proofs.Common.{◌≡◌, ℕ, Option, Some, None, Bool, true, false, not, ◌&&◌, if◌then◌else◌, refl}
use Rattle.dae_base.specs.declared.Place.{Place}
use Rattle.dae_types_kinds.specs.declared.tables.Entity.{Entity}
use Rattle.dae_types_kinds.specs.declared.tables.Entity.TheVariants as entity
use Rattle.dae_types_kinds.specs.declared.values.Known.{Known}
use Rattle.dae_types_kinds.specs.declared.values.Known.TheVariants as known
use Rattle.dae_types_kinds.specs.Tables.{Tables}
use Rattle.dae_types_kinds.specs.Types.{shape_of, is_integer, is_unsigned}
use Rattle.dae_types_kinds.specs.Values.{Typed, fits, is_constant, is_division, is_number, known_as}
use Rattle.dae_types_rules.specs.Sites.{AtConstant, AtCount, AtItem, AtName, AtTypeName}
use Rattle.dae_types_rules.specs.Settled.{IsNumber, NamesValue, NothingIsMadeUp}
use Rattle.dae_types_rules.specs.Table.{is_broken, is_size, is_structure_value}

-- the last of rules in a row isn't broken
last_of_two : (a b : Bool) → (if a then true else if b then true else false) ≡ false → b ≡ false
last_of_two true b h = absurd cc
last_of_two false true h = absurd cc
last_of_two false false h = refl

last_of_three : (a b c : Bool) → (if a then true else if b then true else if c then true else false) ≡ false → c ≡ false
last_of_three true b c h = absurd cc
last_of_three false b c h = last_of_two b c h

not_not : (b : Bool) → not b ≡ false → b ≡ true
not_not true h = refl
not_not false h = absurd cc

and_left : (a b : Bool) → a && not b ≡ false → a ≡ true → b ≡ true
and_left true b h e = not_not b h
and_left false b h e = absurd cc

known_number : (k : Known) → is_number k ≡ true → (w : ℕ) × (k ≡ known.Number w)
known_number (known.Number w) h = (w, refl)
known_number known.Nothing h = absurd cc
known_number known.Division h = absurd cc
known_number (known.Address o w) h = absurd cc
known_number known.NullPointer h = absurd cc

-- a size is a number
size_is_number : (u : Bool) (k : Known) → is_size u k ≡ true → (w : ℕ) × (k ≡ known.Number w)
size_is_number u (known.Number w) h = (w, refl)
size_is_number u known.Nothing h = absurd cc
size_is_number u known.Division h = absurd cc
size_is_number u (known.Address o w) h = absurd cc
size_is_number u known.NullPointer h = absurd cc

pub constant_is_number : (p : Place) (s : Tables) (x : Typed) → is_broken (AtConstant p s x) ≡ false → IsNumber x
constant_is_number p s x h = known_number x.known (not_not (is_number x.known) (last_of_three (not (is_integer (shape_of s x.type_id))) (is_division x.known) (not (is_number x.known)) h))

pub count_is_number : (p : Place) (s : Tables) (x : Typed) → is_broken (AtCount p s x) ≡ false → IsNumber x
count_is_number p s x h =
    let u = is_unsigned (shape_of s x.type_id) in
    size_is_number u x.known (not_not (is_size u x.known) (last_of_three (not (is_integer (shape_of s x.type_id))) (is_division x.known) (not (is_size u x.known)) h))

first_of_four : (a b c d : Bool) → (if a then true else if b then true else if c then true else if d then true else false) ≡ false → (a ≡ false) × (d ≡ false)
first_of_four true b c d h = absurd cc
first_of_four false true c d h = absurd cc
first_of_four false false c d h = (refl, last_of_two c d h)

pub item_is_constant : (p : Place) (s : Tables) (x : Typed) (t : ℕ) → is_broken (AtItem p s x t) ≡ false → is_constant (known_as (shape_of s x.type_id) (shape_of s t) x.known) ≡ true
item_is_constant p s x t h =
    let k = known_as (shape_of s x.type_id) (shape_of s t) x.known in
    let b = first_of_four (not (fits s x t)) (is_structure_value s x) (is_division x.known) (fits s x t && not (is_constant k)) h in
    and_left (fits s x t) (is_constant k) b.1 (not_not (fits s x t) b.0)

pub name_is_value : (p : Place) (found : Option Entity) → is_broken (AtName p found) ≡ false → NamesValue found
name_is_value p None h = cc
name_is_value p (Some (entity.Object n)) h = tt
name_is_value p (Some (entity.Local n)) h = tt
name_is_value p (Some (entity.Enumerator w)) h = tt
name_is_value p (Some (entity.Type t)) h = cc
name_is_value p (Some (entity.Function f)) h = cc

pub name_is_type : (p : Place) (found : Option Entity) → is_broken (AtTypeName p found) ≡ false → (t : ℕ) × (found ≡ Some (entity.Type t))
name_is_type p None h = absurd cc
name_is_type p (Some (entity.Object n)) h = absurd cc
name_is_type p (Some (entity.Local n)) h = absurd cc
name_is_type p (Some (entity.Enumerator w)) h = absurd cc
name_is_type p (Some (entity.Type t)) h = (t, refl)
name_is_type p (Some (entity.Function f)) h = absurd cc

pub settled : NothingIsMadeUp
settled = record { constants = constant_is_number; counts = count_is_number; items = item_is_constant; names = name_is_value; types = name_is_type }
