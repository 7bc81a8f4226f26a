-- A form's code in rounds: what the two processors do between one boundary and the next. A group is a maximal run of
-- assignments, loads and checks that A decides. It is closed after a store, a print or a check that E decides, which
-- belong to it; before each other statement; and before the load for E, or the copy, that would be one more than the cap.
-- A region is an If or a Loop that concerns one processor alone.
use Rattle.std.specs.Prelude.{ℕ, ◌+◌, Bool, true, false, not, ◌&&◌, ◌||◌, nat_eq, Option, Some, None, List, [], ◌∷◌, ◌++◌, if◌then◌else◌}
use Rattle.dae_base.specs.declared.Place.{Place}
use Rattle.dae_ir.specs.Code.{Code, Done, Do, If, Loop, every}
use Rattle.dae_ir.specs.Form.{Form}
use Rattle.dae_ir.specs.Classes.{Classes, has_check, is_by_a}
use Rattle.dae_ir.specs.declared.form.Operand.{Operand}
use Rattle.dae_ir.specs.declared.form.Test.{Test}
use Rattle.dae_ir.specs.declared.form.Item.{Item}
use Rattle.dae_ir.specs.declared.form.Item.TheVariants.{Assign, Load, Store, Print, Expect, Break, Continue, Call, Return, Halt}
use Rattle.dae_ir.specs.declared.stream.Part.{Part}
use Rattle.dae_ir.specs.declared.stream.Part.TheVariants.{Sets, Loads, Tests}
use Rattle.dae_ir.specs.declared.stream.Last.{Last}
use Rattle.dae_ir.specs.declared.stream.Last.TheVariants.{Nothing, Stores, Prints, Decides}

-- what stands between groups
pub data Jump : Type 0 where
  Breaks : Jump
  Continues : Jump
  Enters : (v f : ℕ) (xs : List Operand) → Jump
  Gives : (x : Operand) → Jump
  Halts : (x : Operand) → Jump

-- a group, a statement between groups, or a region of A or of E
pub data Round : Type 0 where
  Group : (g : List Part) (last : Last) → Round
  Alone : (jump : Jump) → Round
  Region : (by_a : Bool) (code : Form) → Round

-- a condition, and whether A decides it
pub record Decision : Type 0 where
  pub by_a : Bool
  pub test : Test

abbrev pub Rounds : Type 0
Rounds = Code Place Round Decision

abbrev pub decision : Classes → Test → Decision
decision c t = record { by_a = is_by_a c.s t; test = t }

-- where an item stands
pub data Stand : Type 0 where
  Joins : (part : Part) → Stand
  Closes : (last : Last) → Stand
  Separates : (jump : Jump) → Stand

abbrev pub stand : Classes → Place → Item → Stand
stand c place (Assign v x) = Joins (Sets place v x)
stand c place (Load v kind x) = Joins (Loads place v kind x)
stand c place (Store width x y) = Closes (Stores place width x y)
stand c place (Print spelling x) = Closes (Prints place spelling x)
stand c place (Expect check) = if has_check c.s check then Joins (Tests place check) else Closes (Decides place check)
stand c place Break = Separates Breaks
stand c place Continue = Separates Continues
stand c place (Call v f xs) = Separates (Enters v f xs)
stand c place (Return x) = Separates (Gives x)
stand c place (Halt x) = Separates (Halts x)

-- ---- groups

-- a load for E, and a copy for E
abbrev pub is_for_e : Classes → Part → Bool
is_for_e c (Sets place v x) = false
is_for_e c (Loads place v kind x) = not (c.s v) && c.needs v
is_for_e c (Tests place check) = false

abbrev pub is_copied : Classes → Part → Bool
is_copied c (Sets place v x) = c.s v && c.needs v
is_copied c (Loads place v kind x) = c.s v && c.needs v
is_copied c (Tests place check) = false

abbrev pub how_many : (Part → Bool) → List Part → ℕ
how_many f [] = 0
how_many f (p ∷ g) = (if f p then 1 else 0) + how_many f g

-- the group must be closed before the part
abbrev pub is_full : Classes → ℕ → List Part → Part → Bool
is_full c cap g p =
    (is_for_e c p && nat_eq (how_many (is_for_e c) g) cap) || (is_copied c p && nat_eq (how_many (is_copied c) g) cap)

abbrev pub place_of : Part → Place
place_of (Sets place v x) = place
place_of (Loads place v kind x) = place
place_of (Tests place check) = place

-- the group so far, if it isn't empty, and then k
abbrev pub closed : List Part → Rounds → Rounds
closed [] k = k
closed (p ∷ g) k = Do (place_of p) (Group (p ∷ g) Nothing) k

-- what an item does to the group so far, where r makes the rounds of what is behind it
abbrev pub placed : Classes → ℕ → List Part → Place → Stand → (List Part → Rounds) → Rounds
placed c cap g place (Joins p) r = if is_full c cap g p then closed g (r (p ∷ [])) else r (g ++ p ∷ [])
placed c cap g place (Closes last) r = Do place (Group g last) (r [])
placed c cap g place (Separates jump) r = closed g (Do place (Alone jump) (r []))

-- ---- regions

-- what may stand in a region of A: it sets nothing that E needs
abbrev pub is_a_item : Classes → Item → Bool
is_a_item c (Assign v x) = not (c.needs v)
is_a_item c (Load v kind x) = not (c.needs v)
is_a_item c Break = true
is_a_item c Continue = true
is_a_item c item = false

-- and in one of E: it sets nothing that A needs, and loads nothing
abbrev pub is_e_item : Classes → Item → Bool
is_e_item c (Assign v x) = not (c.s v)
is_e_item c (Load v kind x) = not (c.s v) && not (c.needs v)
is_e_item c (Print spelling x) = true
is_e_item c Break = true
is_e_item c Continue = true
is_e_item c item = false

abbrev pub is_jump : Item → Bool
is_jump Break = true
is_jump Continue = true
is_jump item = false

-- there is no Break or Continue of a loop outside
abbrev pub stays : Bool → Form → Bool
stays inside Done = true
stays inside (Do place item k) = (inside || not (is_jump item)) && stays inside k
stays inside (If place test p q k) = stays inside p && (stays inside q && stays inside k)
stays inside (Loop place body step k) = stays true body && (stays true step && stays inside k)

abbrev pub is_a_region : Classes → Form → Bool
is_a_region c code = every (is_a_item c) (is_by_a c.s) code && stays false code

abbrev pub is_e_region : Classes → Form → Bool
is_e_region c code = every (is_e_item c) (λ t. not (is_by_a c.s t)) code && stays false code

-- whose region it is, if it isn't inside another: where it could be either's, A's
abbrev pub region : Bool → Classes → Form → Option Bool
region outside c code =
    if outside && is_a_region c code then Some true
    else (if outside && is_e_region c code then Some false else None)

abbrev pub one_sided : Option Bool → Place → Form → Rounds → Rounds → Rounds
one_sided None place code k both = both
one_sided (Some by_a) place code k both = Do place (Region by_a code) k

-- ---- the rounds of code before which a group has begun, outside of regions or inside

abbrev pub rounds : Classes → ℕ → Bool → Form → List Part → Rounds
rounds c cap outside Done g = closed g Done
rounds c cap outside (Do place item k) g = placed c cap g place (stand c place item) (rounds c cap outside k)
rounds c cap outside (If place t p q k) g =
    closed g (one_sided (region outside c (If place t p q Done)) place (If place t p q Done) (rounds c cap outside k [])
    (If place (decision c t) (rounds c cap outside p []) (rounds c cap outside q []) (rounds c cap outside k [])))
rounds c cap outside (Loop place body step k) g =
    closed g (one_sided (region outside c (Loop place body step Done)) place (Loop place body step Done) (rounds c cap outside k [])
    (Loop place (rounds c cap outside body []) (rounds c cap outside step []) (rounds c cap outside k [])))
