-- The form in which loads are reused. A load that later ones of its stretch repeat goes into a variable of its own, which is
-- copied to where the load went and to where the later ones would go.
use Rattle.std.specs.Prelude.{ℕ, suc, ◌+◌, Bool, true, false, not, ◌&&◌, ◌||◌, nat_eq, if◌then◌else◌, List, [], ◌∷◌, Option, Some, None}
use Rattle.dae_base.specs.Words.{width_of}
use Rattle.dae_base.specs.declared.LoadKind.{LoadKind}
use Rattle.dae_base.specs.declared.Place.{Place}
use Rattle.dae_base.specs.declared.Width.{Width}
use Rattle.dae_ir.specs.Code.{Done, Do, If, Loop}
use Rattle.dae_ir.specs.Form.{Form, all_items}
use Rattle.dae_ir.specs.Sizes.{tally}
use Rattle.dae_ir.specs.declared.form.Operand.{Operand}
use Rattle.dae_ir.specs.declared.form.Operand.TheVariants as operand
use Rattle.dae_ir.specs.declared.form.Value.TheVariants as val
use Rattle.dae_ir.specs.declared.form.Item.{Item}
use Rattle.dae_ir.specs.declared.form.Item.TheVariants.{Assign, Load, Store, Print, Expect, Break, Continue, Call, Return, Halt}
use Rattle.dae_alias.specs.declared.addresses.SymAddr.{SymAddr}
use Rattle.dae_alias.specs.declared.held.Held.{Held}
use Rattle.dae_alias.specs.Addresses.{same_place, same_kind, are_apart}
use Rattle.dae_alias.specs.Stretches.{KnownInStretch, nothing, symbol, renewed, set, after}

-- what is held for a load of this kind from this address
abbrev pub held_in : List Held → LoadKind → SymAddr → Option Held
held_in [] kind at = None
held_in (x ∷ xs) kind at =
    if same_kind x.kind kind && same_place x.at at then Some x else held_in xs kind at

-- behind a store
abbrev pub still_held : List Held → SymAddr → Width → List Held
still_held [] at width = []
still_held (x ∷ xs) at width =
    if are_apart x.at (width_of x.kind) at width then x ∷ still_held xs at width
    else still_held xs at width

-- the loads are numbered; this one goes into a variable of its own, or into none
abbrev pub Holders : Type 0
Holders = ℕ → Option ℕ

abbrev pub is_load : Item → Bool
is_load (Load v kind x) = true
is_load item = false

abbrev pub bit : Bool → ℕ
bit b = if b then 1 else 0

abbrev pub loads_in : Form → ℕ
loads_in code = tally (λ item. bit (is_load item)) (λ t. 0) code

abbrev pub has_no_load : Form → Bool
has_no_load code = all_items (λ item. not (is_load item)) code

abbrev pub copy : ℕ → ℕ → Item
copy v u = Assign v (val.Same (operand.Variable u))

-- ---- a load into v, of number l, where such a load is held or not

abbrev pub known_behind : KnownInStretch → ℕ → Option Held → KnownInStretch
known_behind s v None = set s v None
known_behind s v (Some e) = set s v (Some e.value)

abbrev pub held_behind : KnownInStretch → List Held → ℕ → ℕ → LoadKind → Operand → Option Held → List Held
held_behind s held l v kind x None =
    record { kind = kind; at = symbol s x; value = renewed s v; number = l } ∷ held
held_behind s held l v kind x (Some e) = held

-- the number of the load that it repeats, or else its own
abbrev pub number_of : Option Held → ℕ → ℕ
number_of None l = l
number_of (Some e) l = e.number

-- what it is turned into, before k, where that number's load has a variable of its own or not
abbrev pub turned : Place → ℕ → LoadKind → Operand → Option Held → Option ℕ → Form → Form
turned place v kind x None None k = Do place (Load v kind x) k
turned place v kind x (Some e) None k = Do place (Load v kind x) k
turned place v kind x None (Some u) k = Do place (Load u kind x) (Do place (copy v u) k)
turned place v kind x (Some e) (Some u) k = Do place (copy v u) k

-- ---- code, where l loads were met before it

abbrev pub reused : Holders → KnownInStretch → List Held → ℕ → Form → Form
reused h s held l Done = Done
reused h s held l (Do place (Assign v x) k) =
    Do place (Assign v x) (reused h (after s (Assign v x)) held l k)
reused h s held l (Do place (Load v kind x) k) =
    turned place v kind x (held_in held kind (symbol s x))
    (h (number_of (held_in held kind (symbol s x)) l))
    (reused h (known_behind s v (held_in held kind (symbol s x)))
    (held_behind s held l v kind x (held_in held kind (symbol s x))) (suc l) k)
reused h s held l (Do place (Store width x y) k) =
    Do place (Store width x y) (reused h s (still_held held (symbol s x) width) l k)
reused h s held l (Do place (Expect check) k) = Do place (Expect check) (reused h s held l k)
reused h s held l (Do place (Print spelling x) k) =
    Do place (Print spelling x) (reused h nothing [] l k)
reused h s held l (Do place Break k) = Do place Break (reused h nothing [] l k)
reused h s held l (Do place Continue k) = Do place Continue (reused h nothing [] l k)
reused h s held l (Do place (Call v f xs) k) = Do place (Call v f xs) (reused h nothing [] l k)
reused h s held l (Do place (Return x) k) = Do place (Return x) (reused h nothing [] l k)
reused h s held l (Do place (Halt x) k) = Do place (Halt x) (reused h nothing [] l k)
reused h s held l (If place test p q k) =
    If place test (reused h nothing [] l p) (reused h nothing [] (l + loads_in p) q)
    (reused h nothing [] (l + loads_in p + loads_in q) k)
reused h s held l (Loop place body step k) =
    Loop place (reused h nothing [] l body) (reused h nothing [] (l + loads_in body) step)
    (reused h nothing [] (l + loads_in body + loads_in step) k)

-- ---- which loads are repeated

abbrev pub repeats : ℕ → Option Held → Bool
repeats i None = false
repeats i (Some e) = nat_eq e.number i

-- load number i is repeated in the code
abbrev pub is_repeated : ℕ → KnownInStretch → List Held → ℕ → Form → Bool
is_repeated i s held l Done = false
is_repeated i s held l (Do place (Assign v x) k) = is_repeated i (after s (Assign v x)) held l k
is_repeated i s held l (Do place (Load v kind x) k) =
    repeats i (held_in held kind (symbol s x))
    || is_repeated i (known_behind s v (held_in held kind (symbol s x)))
    (held_behind s held l v kind x (held_in held kind (symbol s x))) (suc l) k
is_repeated i s held l (Do place (Store width x y) k) =
    is_repeated i s (still_held held (symbol s x) width) l k
is_repeated i s held l (Do place (Expect check) k) = is_repeated i s held l k
is_repeated i s held l (Do place (Print spelling x) k) = is_repeated i nothing [] l k
is_repeated i s held l (Do place Break k) = is_repeated i nothing [] l k
is_repeated i s held l (Do place Continue k) = is_repeated i nothing [] l k
is_repeated i s held l (Do place (Call v f xs) k) = is_repeated i nothing [] l k
is_repeated i s held l (Do place (Return x) k) = is_repeated i nothing [] l k
is_repeated i s held l (Do place (Halt x) k) = is_repeated i nothing [] l k
is_repeated i s held l (If place test p q k) =
    is_repeated i nothing [] l p
    || (is_repeated i nothing [] (l + loads_in p) q
    || is_repeated i nothing [] (l + loads_in p + loads_in q) k)
is_repeated i s held l (Loop place p q k) =
    is_repeated i nothing [] l p
    || (is_repeated i nothing [] (l + loads_in p) q
    || is_repeated i nothing [] (l + loads_in p + loads_in q) k)
