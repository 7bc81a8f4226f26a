-- What a granted move was: its request, whose access belongs to its side, and what it did.
use Rattle.std.proofs.Common.{◌≡◌, ℕ, true, ◌||◌, refl}
use Rattle.std.specs.Prelude.{Some, option_map}
use Rattle.dae_base.specs.declared.Side.{Side}
use Rattle.dae_base.specs.declared.Side.TheVariants.{A, E}
use Rattle.dae_base.specs.declared.Depths.{Depths}
use Rattle.dae_base.proofs.Laws.{and_true, if_some_is, map_some_is, or_true}
use Rattle.dae_encode.specs.declared.Inst.{Inst}
use Rattle.dae_encode.specs.declared.QueueUse.{QueueUse}
use Rattle.dae_encode.specs.declared.Request.{Request}
use Rattle.dae_encode.specs.declared.Request.TheVariants.{Halted, Faulty, Asks}
use Rattle.dae_encode.specs.Instructions.{form}
use Rattle.dae_encode.specs.Processor.{Processor, After, request, finish}
use Rattle.dae_encode.specs.Uses.{belongs}
use Rattle.dae_encode.proofs.Laws.{asks_own}
use Rattle.dae_core.specs.Queues.{Queues, possible, ready, peek, commit}
use Rattle.dae_machine.specs.Machine.{Setup, code, granted, move}
use Rattle.dae_machine.specs.Walks.{may_use}

-- an access of a side is one of A's or of E's
of_a_side : (side : Side) (u : QueueUse) → belongs side u ≡ true → (belongs A u || belongs E u) ≡ true
of_a_side A u h = rw h refl
of_a_side E u h = rw (h, or_true (belongs A u)) refl

pub ready_where : (d : Depths) (side : Side) (u : QueueUse) (q : Queues) → belongs side u ≡ true → possible d u q ≡ true → ready d u q ≡ true
ready_where d side u q h k = rw (of_a_side side u h, k) refl

pub ready_for : (d : Depths) (side : Side) (u : QueueUse) (q : Queues) → may_use d side u q ≡ true → ready d u q ≡ true
ready_for d side u q h = let both = and_true (belongs side u) (possible d u q) h in ready_where d side u q both.0 both.1

pub possible_where : (d : Depths) (u : QueueUse) (q : Queues) → ready d u q ≡ true → possible d u q ≡ true
possible_where d u q h = (and_true (belongs A u || belongs E u) (possible d u q) h).1

-- what an enabled move does
pub record Moved (d : Depths) (side : Side) (p : Processor) (q : Queues) (asked : Request) : Type 0 where
  pub use' : QueueUse
  pub word : ℕ
  pub inst : Inst
  pub result : After
  pub is : asked ≡ Asks use' word inst
  pub owns : belongs side use' ≡ true
  pub can : possible d use' q ≡ true
  pub does : finish side p use' inst (form inst) (peek use' q) ≡ Some result

abbrev AsksOwn : Side → Request → Type 0
AsksOwn side asked = (u : QueueUse) (w : ℕ) (i : Inst) → asked ≡ Asks u w i → belongs side u ≡ true

granted_was : (d : Depths) (side : Side) (p : Processor) (q : Queues) (asked : Request) (r : After × Queues) → AsksOwn side asked → granted d side p q asked ≡ Some r → (m : Moved d side p q asked) × ((m.result, commit m.use' m.word q) ≡ r)
granted_was d side p q Halted r own h = cc
granted_was d side p q (Faulty fault) r own h = cc
granted_was d side p q (Asks u w i) r own h =
    let parts = if_some_is (ready d u q) (option_map (λ (r : After). (r, commit u w q)) (finish side p u i (form i) (peek u q))) r h in
    let got = map_some_is (λ (r : After). (r, commit u w q)) (finish side p u i (form i) (peek u q)) r parts.1 in
    (record { use' = u; word = w; inst = i; result = got.0; is = refl; owns = own u w i refl; can = possible_where d u q parts.0; does = got.1 }, got.2)

abbrev pub MovedOf : Setup → Side → Processor → Queues → Type 0
MovedOf setup side p q = Moved setup.depths side p q (request setup.copies side (code setup side) setup.memory p)

pub move_was : (setup : Setup) (side : Side) (p : Processor) (q : Queues) (r : After × Queues) → move setup side p q ≡ Some r → (m : MovedOf setup side p q) × ((m.result, commit m.use' m.word q) ≡ r)
move_was setup side p q r h = granted_was setup.depths side p q (request setup.copies side (code setup side) setup.memory p) r (asks_own setup.copies side (code setup side) setup.memory p) h

-- the same move over queues that show it the same
pub granted_again : (d : Depths) (side : Side) (p : Processor) (q q' : Queues) (asked : Request) (m : Moved d side p q asked) → possible d m.use' q' ≡ true → peek m.use' q' ≡ peek m.use' q → granted d side p q' asked ≡ Some (m.result, commit m.use' m.word q')
granted_again d side p q q' asked m can same = rw (m.is, ready_where d side m.use' q' m.owns can, same, m.does) refl
