-- Each region among a form's rounds is a branch or a loop that concerns one side alone.
use Rattle.std.proofs.Common.{◌≡◌, ℕ, Bool, true, false, not, ◌&&◌, List, [], ◌∷◌, ◌++◌, Option, Some, None, if◌then◌else◌, refl}
use Rattle.std.proofs.lemmas.Bool.{and_parts}
use Rattle.dae_base.specs.declared.Place.{Place}
use Rattle.dae_ir.specs.Code.{Done, Do, If, Loop, Each, every}
use Rattle.dae_ir.specs.Form.{Form}
use Rattle.dae_ir.specs.Classes.{Classes, is_by_a}
use Rattle.dae_ir.specs.Rounds.{Round, Group, Alone, Region, Rounds, Decision, Stand, Joins, Closes, Separates, stand, closed, placed, is_full, region, one_sided, is_a_region, is_e_region, is_a_item, is_e_item, stays, rounds}
use Rattle.dae_ir.specs.declared.form.Item.{Item}
use Rattle.dae_ir.specs.declared.form.Test.{Test}
use Rattle.dae_ir.specs.declared.stream.Part.{Part}
use Rattle.dae_machine_rounds.proofs.Sided.{IsBlock}

pub record IsOneSided (f : Item → Bool) (code : Form) : Type 0 where
  pub block : IsBlock code
  pub stays' : stays false code ≡ true
  pub items : Each (λ (item : Item). f item ≡ true) (λ (t : Test). Unit {0}) code

abbrev pub IsRegion : Classes → Round → Type 0
IsRegion c (Group g last) = Unit {0}
IsRegion c (Alone jump) = Unit {0}
IsRegion c (Region true code) = IsOneSided (is_a_item c) code
IsRegion c (Region false code) = IsOneSided (is_e_item c) code

every_item : (f : Item → Bool) (h : Test → Bool) (code : Form) → every f h code ≡ true → Each (λ (item : Item). f item ≡ true) (λ (t : Test). Unit {0}) code
every_item f h Done e = tt
every_item f h (Do place item k) e = let b = and_parts _ _ e in (b.0, every_item f h k b.1)
every_item f h (If place t x y k) e = let b = and_parts _ _ e in let b' = and_parts _ _ b.1 in let b'' = and_parts _ _ b'.1 in (tt, every_item f h x b'.0, every_item f h y b''.0, every_item f h k b''.1)
every_item f h (Loop place x y k) e = let b = and_parts _ _ e in let b' = and_parts _ _ b.1 in (every_item f h x b.0, every_item f h y b'.0, every_item f h k b'.1)

abbrev Chosen : Classes → Form → Option Bool → Type 0
Chosen c code None = Unit {0}
Chosen c code (Some by_a) = IsRegion c (Region by_a code)

module _ (c : Classes) (cap : ℕ) where
  abbrev pub AreOk : Rounds → Type 0
  AreOk r = Each (IsRegion c) (λ (d : Decision). Unit {0}) r

  chosen : (outside : Bool) (code : Form) → IsBlock code → Chosen c code (region outside c code)
  chosen outside code block = by (outside && is_a_region c code) refl (outside && is_e_region c code) refl where
    by : (a : Bool) → outside && is_a_region c code ≡ a → (e : Bool) → outside && is_e_region c code ≡ e → Chosen c code (if a then Some true else (if e then Some false else None))
    by true h e i = let b = and_parts _ _ (and_parts _ _ h).1 in record { block = block; stays' = b.1; items = every_item (is_a_item c) (is_by_a c.s) code b.0 }
    by false h true i = let b = and_parts _ _ (and_parts _ _ i).1 in record { block = block; stays' = b.1; items = every_item (is_e_item c) (λ t. not (is_by_a c.s t)) code b.0 }
    by false h false i = tt

  closed_ok : (g : List Part) (k : Rounds) → AreOk k → AreOk (closed g k)
  closed_ok [] k h = h
  closed_ok (q ∷ g) k h = (tt, h)

  sided_ok : (o : Option Bool) (place : Place) (code : Form) (k both : Rounds) → Chosen c code o → AreOk k → AreOk both → AreOk (one_sided o place code k both)
  sided_ok None place code k both h i j = j
  sided_ok (Some by_a) place code k both h i j = (h, i)

  if_ok : (b : Bool) (r s : Rounds) → AreOk r → AreOk s → AreOk (if b then r else s)
  if_ok true r s h i = h
  if_ok false r s h i = i

  placed_ok : (g : List Part) (place : Place) (s : Stand) (r : List Part → Rounds) → ((g : List Part) → AreOk (r g)) → AreOk (placed c cap g place s r)
  placed_ok g place (Joins q) r h = if_ok (is_full c cap g q) (closed g (r (q ∷ []))) (r (g ++ q ∷ [])) (closed_ok g (r (q ∷ [])) (h (q ∷ []))) (h (g ++ q ∷ []))
  placed_ok g place (Closes last) r h = (tt, h [])
  placed_ok g place (Separates jump) r h = closed_ok g (Do place (Alone jump) (r [])) (tt, h [])

  pub rounds_ok : (outside : Bool) (code : Form) (g : List Part) → AreOk (rounds c cap outside code g)
  rounds_ok outside Done g = closed_ok g Done tt
  rounds_ok outside (Do place item k) g = placed_ok g place (stand c place item) (rounds c cap outside k) (rounds_ok outside k)
  rounds_ok outside (If place t x y k) g =
      closed_ok g _ (sided_ok (region outside c (If place t x y Done)) place _ _ _ (chosen outside (If place t x y Done) tt) (rounds_ok outside k []) (tt, rounds_ok outside x [], rounds_ok outside y [], rounds_ok outside k []))
  rounds_ok outside (Loop place x y k) g =
      closed_ok g _ (sided_ok (region outside c (Loop place x y Done)) place _ _ _ (chosen outside (Loop place x y Done) tt) (rounds_ok outside k []) (rounds_ok outside x [], rounds_ok outside y [], rounds_ok outside k []))
