-- Homes whose registers are taken from the other end are right where the others are.
use Rattle.std.proofs.Common.{◌≡◌, ◌≢◌, ℕ, zero, suc, ◌<◌, Bool, true, false, List, [], ◌∷◌, length, map, refl, ap, sym, subst, arith}
use Rattle.std.specs.Prelude.{if◌then◌else◌}
use Rattle.std.specs.List.{AllByRecursion}
use Rattle.std.proofs.lemmas.Bool.Decides.{nat_tests}
use Rattle.std.proofs.lemmas.List.{length-map}
use Rattle.dae_ir.specs.Classes.{VariableSet}
use Rattle.dae_ir.specs.Streams.{actions_of}
use Rattle.dae_ir.specs.declared.stream.StreamFunction.{StreamFunction}
use Rattle.dae_select_walks.specs.declared.Home.{Home}
use Rattle.dae_select_walks.specs.declared.Home.TheVariants.{Register, Slot}
use Rattle.dae_select_walks.specs.Homes.{is_home_register, IsHome, AreApart, home_in}
use Rattle.dae_select_walks.specs.Live.{function_lives}
use Rattle.dae_select_blocks.specs.Sizes.{is_leaf}
use Rattle.dae_regalloc.specs.Given.{IsRegister}
use Rattle.dae_regalloc.specs.Seen.{AreBelow}
use Rattle.dae_link.specs.Settled.{mirrored_register, mirrored_home, own_homes, AreHomesOf}

-- ---- a home

mirrored_right : (r : ℕ) → is_home_register r ≡ true → is_home_register (mirrored_register r) ≡ true
mirrored_right r h = grind (arith, nat_tests)

mirrored_apart : (q r : ℕ) → is_home_register q ≡ true → is_home_register r ≡ true → mirrored_register q ≡ mirrored_register r → q ≡ r
mirrored_apart q r a b e = grind (arith, nat_tests)

same_register : (q r : ℕ) → Register q ≡ Register r → q ≡ r
same_register q r e = cc

home_right : (n : ℕ) (h : Home) → IsHome n h → IsHome n (mirrored_home h)
home_right n (Register r) is = mirrored_right r is
home_right n (Slot i) is = is

home_apart : (n : ℕ) (g h : Home) → IsHome n g → IsHome n h → g ≢ h → mirrored_home g ≢ mirrored_home h
home_apart n (Register q) (Register r) a b ne = λ same. ne (ap (λ (i : ℕ). Register i) (mirrored_apart q r a b (same_register (mirrored_register q) (mirrored_register r) same)))
home_apart n (Register q) (Slot i) a b ne = λ same. (let no : Register (mirrored_register q) ≡ Slot i = same in cc)
home_apart n (Slot i) (Register r) a b ne = λ same. (let no : Slot i ≡ Register (mirrored_register r) = same in cc)
home_apart n (Slot i) (Slot j) a b ne = ne

-- ---- homes of a table

home_mirrored : (hs : List Home) (v : ℕ) → v < length hs → home_in (map mirrored_home hs) v ≡ mirrored_home (home_in hs v)
home_mirrored [] v lt = absurd (omega arith)
home_mirrored (h ∷ hs) zero lt = refl
home_mirrored (h ∷ hs) (suc v) lt = home_mirrored hs v (omega arith)

each_right : (n : ℕ) (hs : List Home) (v : ℕ) → IsHome n (home_in hs v) → IsHome n (home_in (map mirrored_home hs) v)
each_right n [] v is = is
each_right n (h ∷ hs) zero is = home_right n h is
each_right n (h ∷ hs) (suc v) is = each_right n hs v is

each_register : (hs : List Home) (v : ℕ) → IsRegister (home_in hs v) → IsRegister (home_in (map mirrored_home hs) v)
each_register [] v is = is
each_register (Register r ∷ hs) zero is = tt
each_register (Slot i ∷ hs) zero is = is
each_register (Register r ∷ hs) (suc v) is = each_register hs v is
each_register (Slot i ∷ hs) (suc v) is = each_register hs v is

-- ---- variables that are live at one place

module _ (hs : List Home) (each : (v : ℕ) → v < length hs → IsHome (length hs) (home_in hs v)) where
  place_apart : (lives : VariableSet) → AreBelow (length hs) lives → AreApart (home_in hs) lives → AreApart (home_in (map mirrored_home hs)) lives
  place_apart lives below apart = λ u v a b ne.
      let lu = below u a in let lv = below v b in
      rw (home_mirrored hs u lu, home_mirrored hs v lv) (home_apart (length hs) (home_in hs u) (home_in hs v) (each u lu) (each v lv) (apart u v a b ne))

  all_apart : (places : List VariableSet) → AllByRecursion (AreBelow (length hs)) places → AllByRecursion (AreApart (home_in hs)) places → AllByRecursion (AreApart (home_in (map mirrored_home hs))) places
  all_apart [] below apart = tt
  all_apart (lives ∷ rest) below apart = (place_apart lives below.0 apart.0, all_apart rest below.1 apart.1)

all_right : (f : StreamFunction) (hs : List Home) → AreHomesOf f hs → AreHomesOf f (map mirrored_home hs)
all_right f hs h =
    let places = function_lives f.parameters (actions_of f.body) in
    let same : length (map mirrored_home hs) ≡ length hs = length-map hs mirrored_home in
    record {
      homes = λ n. record {
        each = λ v lt. each_right n hs v ((h.homes n).each v lt);
        apart = all_apart hs (h.homes (length hs)).each places h.inside (h.homes n).apart;
      };
      inside = subst (λ (n : ℕ). AllByRecursion (AreBelow n) places) (sym same) h.inside;
      least = λ n below. (let few = h.least n below in omega arith);
      registers = λ few v. each_register hs v (h.registers few v);
    }

-- the homes of a function's variables are right
pub own_right : (f : StreamFunction) (hs : List Home) → AreHomesOf f hs → AreHomesOf f (own_homes f hs)
own_right f hs h = by (is_leaf (actions_of f.body))
  where
    by : (b : Bool) → AreHomesOf f (if b then map mirrored_home hs else hs)
    by true = all_right f hs h
    by false = h
