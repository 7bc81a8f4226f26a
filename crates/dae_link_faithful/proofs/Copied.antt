-- Where a group copies a variable, copies are allowed. A region copies nothing.
use Rattle.std.proofs.Common.{◌≡◌, ℕ, ◌≤◌, Bool, true, false, not, ◌&&◌, List, [], ◌∷◌, arith}
use Rattle.dae_base.proofs.Laws.{and_first}
use Rattle.dae_ir.specs.Code.{Code, Done, Do, If, Loop, Each}
use Rattle.dae_ir.specs.Classes.{VariableSet, Classes}
use Rattle.dae_ir.specs.Rounds.{Breaks, Continues, Enters, Gives, Halts, Round, Group, Alone, Region, Decision, Rounds, is_copied, how_many, is_a_item, is_e_item}
use Rattle.dae_ir.specs.declared.form.Item.{Item}
use Rattle.dae_ir.specs.declared.form.Item.TheVariants.{Assign, Load, Store, Print, Expect, Break as Leave, Continue as Skip, Call as Enter, Return as Give, Halt}
use Rattle.dae_ir.specs.declared.form.Test.{Test}
use Rattle.dae_ir.specs.declared.stream.Part.{Part}
use Rattle.dae_ir.specs.declared.stream.Part.TheVariants.{Sets, Loads, Tests}
use Rattle.dae_ir_pair.specs.Budget.{AtMost}
use Rattle.dae_machine_rounds.proofs.LawsOfRuns.{IsRegion}
use Rattle.dae_select_walks.specs.Agrees.{Plan}
use Rattle.dae_link_faithful.proofs.Wanted.{PartsWanted, ItemWanted, TestWanted, RoundWanted, DecisionWanted, RoundsWanted}

pub each_zip : {M L T : Type 0} (I I' J : L → Type 0) (K K' H : T → Type 0) → ((x : L) → I x → I' x → J x) → ((t : T) → K t → K' t → H t) → (code : Code M L T) → Each I K code → Each I' K' code → Each J H code
each_zip I I' J K K' H f g Done h i = tt
each_zip I I' J K K' H f g (Do m x k) h i = (f x h.0 i.0, each_zip I I' J K K' H f g k h.1 i.1)
each_zip I I' J K K' H f g (If m t p q k) h i = (g t h.0 i.0, each_zip I I' J K K' H f g p h.1 i.1, each_zip I I' J K K' H f g q h.2 i.2, each_zip I I' J K K' H f g k h.3 i.3)
each_zip I I' J K K' H f g (Loop m p q k) h i = (each_zip I I' J K K' H f g p h.0 i.0, each_zip I I' J K K' H f g q h.1 i.1, each_zip I I' J K K' H f g k h.2 i.2)

none_e : (s n : Bool) → not n ≡ true → (s && n) ≡ true → ⊥
none_e true true h e = (let z : false ≡ true = h in cc)
none_e true false h e = (let z : false ≡ true = e in cc)
none_e false n h e = (let z : false ≡ true = e in cc)

none_a : (s n : Bool) → not s ≡ true → (s && n) ≡ true → ⊥
none_a true n h e = (let z : false ≡ true = h in cc)
none_a false n h e = (let z : false ≡ true = e in cc)

module _ (plan : Plan) (copies : Bool) (entries : ℕ → VariableSet) (of : ℕ → Classes) (cap f cq : ℕ) (enough : 1 ≤ cq → copies ≡ true) where
  abbrev c : Classes
  c = of f

  parts_copied : (g : List Part) → PartsWanted plan true entries of cap f g → how_many (is_copied c) g ≤ cq → PartsWanted plan copies entries of cap f g
  parts_copied [] h few = tt
  parts_copied (Sets place v x ∷ g) h few = ((h.0.0, λ e. (let one = rw e at few in enough (omega (arith, one)))), parts_copied g h.1 (omega (arith, few)))
  parts_copied (Loads place v kind x ∷ g) h few = ((h.0.0, λ e. (let one = rw e at few in enough (omega (arith, one)))), parts_copied g h.1 (omega (arith, few)))
  parts_copied (Tests place check ∷ g) h few = (h.0, parts_copied g h.1 (omega (arith, few)))

  a_copied : (b : Bool) (item : Item) → ItemWanted plan true entries of cap f b item → is_a_item c item ≡ true → ItemWanted plan copies entries of cap f b item
  a_copied b (Assign v x) h e = (h.0, λ g. absurd (none_e (c.s v) (c.needs v) e g))
  a_copied b (Load v kind x) h e = (h.0, λ g. absurd (none_e (c.s v) (c.needs v) e g))
  a_copied b (Store width x y) h e = absurd cc
  a_copied b (Print spelling x) h e = absurd cc
  a_copied b (Expect check) h e = absurd cc
  a_copied b Leave h e = tt
  a_copied b Skip h e = tt
  a_copied b (Enter v g xs) h e = absurd cc
  a_copied b (Give x) h e = absurd cc
  a_copied b (Halt x) h e = absurd cc

  e_copied : (b : Bool) (item : Item) → ItemWanted plan true entries of cap f b item → is_e_item c item ≡ true → ItemWanted plan copies entries of cap f b item
  e_copied b (Assign v x) h e = (h.0, λ g. absurd (none_a (c.s v) (c.needs v) e g))
  e_copied b (Load v kind x) h e = (h.0, λ g. absurd (none_a (c.s v) (c.needs v) (and_first (not (c.s v)) (not (c.needs v)) e) g))
  e_copied b (Store width x y) h e = absurd cc
  e_copied b (Print spelling x) h e = h
  e_copied b (Expect check) h e = absurd cc
  e_copied b Leave h e = tt
  e_copied b Skip h e = tt
  e_copied b (Enter v g xs) h e = absurd cc
  e_copied b (Give x) h e = absurd cc
  e_copied b (Halt x) h e = absurd cc

  round_copied : (b : Bool) (r : Round) → RoundWanted plan true entries of cap f b r → AtMost (is_copied c) cq r × IsRegion c r → RoundWanted plan copies entries of cap f b r
  round_copied b (Group g last) h i = (parts_copied g h.0 i.0, h.1)
  round_copied b (Alone Breaks) h i = tt
  round_copied b (Alone Continues) h i = tt
  round_copied b (Alone (Enters v g xs)) h i = h
  round_copied b (Alone (Gives x)) h i = h
  round_copied b (Alone (Halts x)) h i = h
  round_copied b (Region true code) h i = each_zip (ItemWanted plan true entries of cap f b) (λ (j : Item). is_a_item c j ≡ true) (ItemWanted plan copies entries of cap f b) (TestWanted plan true entries of cap f) (λ (t : Test). Unit {0}) (TestWanted plan copies entries of cap f) (a_copied b) (λ t x y. x) code h i.1.items
  round_copied b (Region false code) h i = each_zip (ItemWanted plan true entries of cap f b) (λ (j : Item). is_e_item c j ≡ true) (ItemWanted plan copies entries of cap f b) (TestWanted plan true entries of cap f) (λ (t : Test). Unit {0}) (TestWanted plan copies entries of cap f) (e_copied b) (λ t x y. x) code h i.1.items

  pub rounds_copied : (b : Bool) (r : Rounds) → RoundsWanted plan true entries of cap f b r → Each (AtMost (is_copied c) cq) (λ (d : Decision). Unit {0}) r → Each (IsRegion c) (λ (d : Decision). Unit {0}) r → RoundsWanted plan copies entries of cap f b r
  rounds_copied b r h few ok =
      each_zip (RoundWanted plan true entries of cap f b) (λ (x : Round). AtMost (is_copied c) cq x × IsRegion c x) (RoundWanted plan copies entries of cap f b) (DecisionWanted plan true entries of cap f) (λ (d : Decision). Unit {0}) (DecisionWanted plan copies entries of cap f) (round_copied b) (λ d x y. x) r h
      (each_zip (AtMost (is_copied c) cq) (IsRegion c) (λ (x : Round). AtMost (is_copied c) cq x × IsRegion c x) (λ (d : Decision). Unit {0}) (λ (d : Decision). Unit {0}) (λ (d : Decision). Unit {0}) (λ x y z. (y, z)) (λ d x y. tt) r few ok)
