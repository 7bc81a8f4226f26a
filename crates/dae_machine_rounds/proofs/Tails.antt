-- What closes a group, on each side: addresses and messages of A; the message, data, prints and checks of E.
use Rattle.std.proofs.Common.{◌≡◌, ℕ, ◌+◌, ◌<◌, ◌≤◌, ◌^◌, Bool, true, false, nat_eq, List, [], ◌∷◌, ◌++◌, length, Some, None, if◌then◌else◌, refl, arith}
use Rattle.std.proofs.lemmas.Bool.{lt-ltb}
use Rattle.dae_base.specs.declared.Place.{Place}
use Rattle.dae_base.specs.declared.Queue.TheVariants.{Ab, Eb}
use Rattle.dae_queues.specs.declared.Slot.{Slot}
use Rattle.dae_queues.specs.declared.StoreAt.{StoreAt}
use Rattle.dae_core.specs.Queues.{Queues}
use Rattle.dae_machine.specs.Machine.{Setup}
use Rattle.dae_meaning.specs.Worlds.{World}
use Rattle.dae_ir.specs.Code.{Do}
use Rattle.dae_meaning.specs.Operations.{misplaced, spelled}
use Rattle.dae_meaning.specs.Variables.{Env}
use Rattle.dae_ir.specs.Form.{Program, value, fault}
use Rattle.dae_ir.specs.Streams.{Actions, mark, message, gives_address, hears_check, only_failure}
use Rattle.dae_ir.specs.Deeds.{Plainly, WithTrap, deed, Went, Halts, heard_code}
use Rattle.dae_ir.specs.declared.form.Operand.TheVariants.{Number}
use Rattle.dae_ir.specs.declared.form.Check.{Check}
use Rattle.dae_ir.specs.declared.stream.Mark.{Mark}
use Rattle.dae_ir.specs.declared.stream.Action.{Action}
use Rattle.dae_ir.specs.declared.stream.Action.TheVariants.{Datum, Emit, Probe, Tell, Hear}
use Rattle.dae_ir.specs.declared.stream.Part.{Part}
use Rattle.dae_ir.specs.declared.stream.Part.TheVariants.{Sets, Loads as Load', Tests}
use Rattle.dae_ir.specs.declared.stream.Last.{Last}
use Rattle.dae_ir.specs.declared.stream.Last.TheVariants.{Nothing, Stores, Prints, Decides}
use Rattle.dae_ir_pair.specs.Budget.{is_test, any_part, is_store}
use Rattle.dae_machine.specs.Uses.{Takes, Pushes}
use Rattle.dae_machine_rounds.specs.Follows.{Leaves, Quits, Follows, went, takes, pushes, sends, says, halts}
use Rattle.dae_machine_rounds.specs.Spots.{Behind, HeldCall, Spot, Arrives, Halted, point, spot, acts}
use Rattle.dae_machine.specs.Walks.{ends, grants}
use Rattle.dae_machine_rounds.proofs.Does.{Does, here, stops}
use Rattle.dae_machine_rounds.proofs.Both.{does_both, does_one}
use Rattle.dae_machine_rounds.proofs.Slots.{Counts, Loads, held, sending, waiting_slots}

-- a group has a message where it has a check that A decides
pub data IsMessage (n : ℕ) (x : Action) (k : Actions) : Bool → Actions → Type 0 where
  silent : IsMessage n x k false k
  told : (place : Place) → IsMessage n x k true (Do (mark place n) x k)

pub message_is : (n : ℕ) (x : Action) (g : List Part) (k : Actions) → IsMessage n x k (any_part is_test g) (message n x g k)
message_is n x [] k = silent
message_is n x (Sets place v y ∷ g) k = message_is n x g k
message_is n x (Load' place v kind y ∷ g) k = message_is n x g k
message_is n x (Tests place check ∷ g) k = told place

abbrev pub told_as : Bool → List ℕ
told_as true = 0 ∷ []
told_as false = []

-- A's queues behind its address, with the next store's number i
abbrev pub sends_all : Counts → ℕ → Loads → List StoreAt → List ℕ → List ℕ → Queues
sends_all c i ls sa ab cq = held (record c { ld_reserved = c.ld_reserved + length ls; issued = i }) (waiting_slots c.ld_reserved c.issued ls) sa [] ab [] cq

abbrev pub issued_by : Last → ℕ → ℕ
issued_by Nothing i = i
issued_by (Stores place width x y) i = i + 1
issued_by (Prints place spelling x) i = i
issued_by (Decides place check) i = i

abbrev pub addresses : Last → Env → ℕ → List StoreAt
addresses Nothing env i = []
addresses (Stores place width x y) env i = record { number = i; addr = value x env; width = width } ∷ []
addresses (Prints place spelling x) env i = []
addresses (Decides place check) env i = []

-- a word that is heard as this code halts with it
quits_with : (env : Env) (code heard : ℕ) → nat_eq code 0 ≡ false → heard ≡ code → Follows (if nat_eq code 0 then Went env else Halts (WithTrap heard)) [] (Quits (WithTrap code))
quits_with env code heard trap same = rw (trap, same) halts

-- the address of a store is good
abbrev pub IsPlaced : ℕ → Last → Env → Type 0
IsPlaced size Nothing env = Unit {0}
IsPlaced size (Stores place width x y) env = misplaced width (value x env) size ≡ None
IsPlaced size (Prints place spelling x) env = Unit {0}
IsPlaced size (Decides place check) env = Unit {0}

abbrev pub has_address : Last → ℕ
has_address Nothing = 0
has_address (Stores place width x y) = 1
has_address (Prints place spelling x) = 0
has_address (Decides place check) = 0

abbrev pub bit : Bool → ℕ
bit true = 1
bit false = 0

module _ (setup : Setup) (p : Program) (body : ℕ → Actions) (b : Behind) (calls : List HeldCall) where
  abbrev at_code : Actions → Env → World → Spot
  at_code code env u = spot (point code b) env u calls

  address_does : (m : List ℕ) (n : ℕ) (last : Last) (k : Actions) (env : Env) (u : World) (c : Counts) (ls : Loads) (cq : List ℕ) → length u.memory ≡ setup.memory → IsPlaced setup.memory last env → (is_store last ≡ true → 1 ≤ setup.depths.sa)
      → Does setup p true body m (has_address last) 0 0 (at_code (gives_address n last k) env u) (sending c ls [] [] cq) [] (Arrives (at_code k env u)) (sends_all c (issued_by last c.issued) ls (addresses last env c.issued) [] cq)
  address_does m n Nothing k env u c ls cq size good room = here
  address_does m n (Stores place width x y) k env u c ls cq size good room =
      let one = room refl in
      does_one (acts u refl size (sends went)) (grants {q = sending c ls [] [] cq} (lt-ltb 0 setup.depths.sa (omega arith)) refl ends) (good, tt)
  address_does m n (Prints place spelling x) k env u c ls cq size good room = here
  address_does m n (Decides place check) k env u c ls cq size good room = here

  tell_does : (m : List ℕ) (n : ℕ) (flag : Bool) (code k : Actions) → IsMessage n (Tell (Number 0)) k flag code → (env : Env) (u : World) (c : Counts) (i : ℕ) (ls : Loads) (sa : List StoreAt) (cq : List ℕ) → length u.memory ≡ setup.memory → (flag ≡ true → 1 ≤ setup.depths.ab)
      → Does setup p true body m (bit flag) 0 0 (at_code code env u) (sends_all c i ls sa [] cq) [] (Arrives (at_code k env u)) (sends_all c i ls sa (told_as flag) cq)
  tell_does m n flag code k silent env u c i ls sa cq size room = here
  tell_does m n flag code k (told place) env u c i ls sa cq size room =
      let one = room refl in
      does_one (acts u refl size (pushes went)) (grants {q = sends_all c i ls sa [] cq} (lt-ltb 0 setup.depths.ab (omega arith)) refl ends) (tt, tt)

  -- A's end of a group, up to the taking of E's message
  pub closes_a : (m : List ℕ) (n : ℕ) (g : List Part) (last : Last) (k : Actions) (env : Env) (u : World) (c : Counts) (ls : Loads) (cq : List ℕ) → length u.memory ≡ setup.memory → IsPlaced setup.memory last env → (is_store last ≡ true → 1 ≤ setup.depths.sa) → (any_part is_test g ≡ true → 1 ≤ setup.depths.ab)
      → Does setup p true body m (has_address last + bit (any_part is_test g)) (0 + 0) (0 + 0) (at_code (gives_address n last (message n (Tell (Number 0)) g k)) env u) (sending c ls [] [] cq) [] (Arrives (at_code k env u)) (sends_all c (issued_by last c.issued) ls (addresses last env c.issued) (told_as (any_part is_test g)) cq)
  closes_a m n g last k env u c ls cq size good sa ab =
      does_both (address_does m n last (message n (Tell (Number 0)) g k) env u c ls cq size good sa)
      (tell_does m n (any_part is_test g) (message n (Tell (Number 0)) g k) k (message_is n (Tell (Number 0)) g k) env u c (issued_by last c.issued) ls (addresses last env c.issued) cq size ab)

  -- A hears of E's check
  pub a_hears : (m : List ℕ) (n : ℕ) (place : Place) (check : Check) (k : Actions) (env : Env) (u : World) (c : Counts) (ld : List Slot) (ab cq : List ℕ) → length u.memory ≡ setup.memory
      → Does setup p true body m 1 0 0 (at_code (hears_check n (Decides place check) k) env u) (held c ld [] [] ab (0 ∷ []) cq) [] (Arrives (at_code k env u)) (held c ld [] [] ab [] cq)
  a_hears m n place check k env u c ld ab cq size =
      let follows : Follows (deed p true (Hear None) u env) (Takes Eb 0 ∷ []) (Leaves env) = takes 0 went in
      does_one (acts u refl size follows) (grants {q = held c ld [] [] ab (0 ∷ []) cq} refl refl ends) (omega arith, tt)

  pub a_hears_trap : (m : List ℕ) (n : ℕ) (place : Place) (check : Check) (k : Actions) (env : Env) (u : World) (c : Counts) (ld : List Slot) (ab cq : List ℕ) (code : ℕ) → length u.memory ≡ setup.memory → nat_eq code 0 ≡ false → code < 2 ^ 32
      → Does setup p true body m 1 0 0 (at_code (hears_check n (Decides place check) k) env u) (held c ld [] [] ab (code ∷ []) cq) [] (Halted Plainly) (held c ld [] [] ab [] cq)
  a_hears_trap m n place check k env u c ld ab cq code size trap word =
      let quits : Follows (if nat_eq code 0 then Went env else Halts Plainly) [] (Quits Plainly) = rw trap halts in
      let follows : Follows (deed p true (Hear None) u env) (Takes Eb code ∷ []) (Quits Plainly) = takes code quits in
      stops (acts u refl size follows) (grants {q = held c ld [] [] ab (code ∷ []) cq} refl refl ends) (word, tt)

  -- ---- E

  pub hear_does : (m : List ℕ) (n : ℕ) (g : List Part) (k : Actions) (env : Env) (u : World) (c : Counts) (ld : List Slot) (sa : List StoreAt) (cq : List ℕ) → length u.memory ≡ setup.memory
      → Does setup p false body m (bit (any_part is_test g)) 0 0 (at_code (message n (Hear (only_failure g)) g k) env u) (held c ld sa [] (told_as (any_part is_test g)) [] cq) [] (Arrives (at_code k env u)) (held c ld sa [] [] [] cq)
  hear_does m n g k env u c ld sa cq size = by (message_is n (Hear (only_failure g)) g k) where
    by : {flag : Bool} {code : Actions} → IsMessage n (Hear (only_failure g)) k flag code → Does setup p false body m (bit flag) 0 0 (at_code code env u) (held c ld sa [] (told_as flag) [] cq) [] (Arrives (at_code k env u)) (held c ld sa [] [] [] cq)
    by silent = here
    by (told place) =
        let follows : Follows (deed p false (Hear (only_failure g)) u env) (Takes Ab 0 ∷ []) (Leaves env) = takes 0 went in
        does_one (acts u refl size follows) (grants {q = held c ld sa [] (0 ∷ []) [] cq} refl refl ends) (omega arith, tt)

  pub hear_halts : (m : List ℕ) (n : ℕ) (g : List Part) (k : Actions) (env : Env) (u : World) (c : Counts) (ld : List Slot) (cq : List ℕ) (code : ℕ) → any_part is_test g ≡ true → length u.memory ≡ setup.memory → nat_eq code 0 ≡ false → code < 2 ^ 32 → heard_code (only_failure g) code ≡ code
      → Does setup p false body m 1 0 0 (at_code (message n (Hear (only_failure g)) g k) env u) (held c ld [] [] (code ∷ []) [] cq) [] (Halted (WithTrap code)) (held c ld [] [] [] [] cq)
  hear_halts m n g k env u c ld cq code has size trap word alone = by (message_is n (Hear (only_failure g)) g k) has where
    by : {flag : Bool} {at : Actions} → IsMessage n (Hear (only_failure g)) k flag at → flag ≡ true → Does setup p false body m 1 0 0 (at_code at env u) (held c ld [] [] (code ∷ []) [] cq) [] (Halted (WithTrap code)) (held c ld [] [] [] [] cq)
    by silent h = absurd (let e : false ≡ true = h in cc)
    by (told place) h =
        let quits = quits_with env code (heard_code (only_failure g) code) trap alone in
        let follows : Follows (deed p false (Hear (only_failure g)) u env) (Takes Ab code ∷ []) (Quits (WithTrap code)) = takes code quits in
        stops (acts u refl size follows) (grants {q = held c ld [] [] (code ∷ []) [] cq} refl refl ends) (word, tt)

  pub datum_does : (m : List ℕ) (at : Mark) (y : _) (k : Actions) (env : Env) (u : World) (c : Counts) (sa : List StoreAt) → length u.memory ≡ setup.memory → 1 ≤ setup.depths.sd
      → Does setup p false body m 1 0 0 (at_code (Do at (Datum y) k) env u) (held c [] sa [] [] [] []) [] (Arrives (at_code k env u)) (held c [] sa (value y env ∷ []) [] [] [])
  datum_does m at y k env u c sa size room =
      does_one (acts u refl size (pushes went)) (grants {q = held c [] sa [] [] [] []} (lt-ltb 0 setup.depths.sd (omega arith)) refl ends) (tt, tt)

  pub emit_does : (m : List ℕ) (at : Mark) (spelling : _) (x : _) (k : Actions) (env : Env) (u : World) (q : Queues) → length u.memory ≡ setup.memory
      → Does setup p false body m 1 0 0 (at_code (Do at (Emit spelling x) k) env u) q (spelled spelling (value x env) ++ []) (Arrives (at_code k env u)) q
  emit_does m at spelling x k env u q size = does_one (acts u refl size (says went)) (grants refl refl ends) (tt, tt)

  pub decide_does : (m : List ℕ) (at : Mark) (check : Check) (k : Actions) (env : Env) (u : World) (c : Counts) → length u.memory ≡ setup.memory → 1 ≤ setup.depths.eb → fault p check u env ≡ None
      → Does setup p false body m (1 + 1) (0 + 0) (0 + 0) (at_code (Do at (Probe check) (Do at (Tell (Number 0)) k)) env u) (held c [] [] [] [] [] []) [] (Arrives (at_code k env u)) (held c [] [] [] [] (0 ∷ []) [])
  decide_does m at check k env u c size room e =
      let follows : Follows (deed p false (Probe check) u env) [] (Leaves env) = rw e went in
      let follows' : Follows (deed p false (Tell (Number 0)) u env) (Pushes Eb 0 ∷ []) (Leaves env) = pushes went in
      does_both (does_one (acts u refl size follows) ends tt) (does_one (acts u refl size follows') (grants {q = held c [] [] [] [] [] []} (lt-ltb 0 setup.depths.eb (omega arith)) refl ends) (tt, tt))

  pub decide_halts : (m : List ℕ) (at : Mark) (check : Check) (k : Actions) (env : Env) (u : World) (c : Counts) (code : ℕ) → length u.memory ≡ setup.memory → 1 ≤ setup.depths.eb → fault p check u env ≡ Some code
      → Does setup p false body m 1 0 0 (at_code (Do at (Probe check) k) env u) (held c [] [] [] [] [] []) [] (Halted (WithTrap code)) (held c [] [] [] [] (code ∷ []) [])
  decide_halts m at check k env u c code size room e =
      let follows : Follows (deed p false (Probe check) u env) (Pushes Eb code ∷ []) (Quits (WithTrap code)) = rw e (pushes halts) in
      stops (acts u refl size follows) (grants {q = held c [] [] [] [] [] []} (lt-ltb 0 setup.depths.eb (omega arith)) refl ends) (tt, tt)
