-- A fill beside a new slot and a new store address.
use Rattle.std.proofs.Common.{◌≡◌, ℕ, ◌<◌, ◌≤◌, false, List, [], ◌∷◌, ◌++◌, ap, ◌∙◌, arith}
use Rattle.std.specs.Prelude.{nat_lt}
use Rattle.std.proofs.lemmas.List.{map-append}
use Rattle.std.proofs.lemmas.Bool.Decides.{nat_tests}
use Rattle.dae_queues.specs.declared.Slot.{Slot}
use Rattle.dae_queues.specs.declared.StoreAt.{StoreAt}
use Rattle.dae_queues.specs.Lists.{is_waiting, give, with_value, bars}

-- a new slot is not the one that is filled
pub given_more : (n w : ℕ) (ss : List Slot) (new : Slot) → n < new.number → with_value n w (ss ++ new ∷ []) ≡ with_value n w ss ++ new ∷ []
given_more n w ss new lt =
    let no : is_waiting n new ≡ false = grind (arith, nat_tests) in
    map-append (give n w) ss (new ∷ []) ∙ ap (λ s. with_value n w ss ++ s ∷ []) (rw no)

pub newer_bars_not : (s : Slot) (a : StoreAt) → s.stamp ≤ a.number → bars s a ≡ false
newer_bars_not s a h = let no : nat_lt a.number s.stamp ≡ false = grind (arith, nat_tests) in rw no
