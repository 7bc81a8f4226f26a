-- A drain beside a new slot, a new store address, a new datum and a fill.
use Rattle.std.proofs.Common.{◌≡◌, ℕ, ◌<◌, Bool, true, false, List, [], ◌∷◌, ◌++◌, refl, ap, arith}
use Rattle.std.specs.Prelude.{Some, nat_le}
use Rattle.std.specs.List.{list_any}
use Rattle.std.proofs.lemmas.Bool.Decides.{nat_tests}
use Rattle.dae_base.specs.declared.LoadKind.{LoadKind}
use Rattle.dae_queues.specs.declared.Slot.{Slot}
use Rattle.dae_queues.specs.declared.StoreAt.{StoreAt}
use Rattle.dae_base.specs.Words.{width_of, overlap, stored}
use Rattle.dae_queues.specs.Lists.{rest, new_slot, is_waiting, bars, holds, next_store}
use Rattle.dae_base.proofs.Laws.{or_false}

abbrev pub drained_memory : StoreAt × ℕ → List ℕ → List ℕ
drained_memory s m = stored s.0.width s.0.addr s.1 m

pub next_more_sa : (as' : List StoreAt) (ws : List ℕ) (a : StoreAt) (s : StoreAt × ℕ) → next_store as' ws ≡ Some s → next_store (as' ++ a ∷ []) ws ≡ Some s
next_more_sa [] ws a s h = cc
next_more_sa (x ∷ as') [] a s h = cc
next_more_sa (x ∷ as') (w ∷ ws) a s h = h

pub rest_more_sa : (as' : List StoreAt) (ws : List ℕ) (a : StoreAt) (s : StoreAt × ℕ) → next_store as' ws ≡ Some s → rest (as' ++ a ∷ []) ≡ rest as' ++ a ∷ []
rest_more_sa [] ws a s h = cc
rest_more_sa (x ∷ as') ws a s h = refl

pub next_more_sd : (as' : List StoreAt) (ws : List ℕ) (w : ℕ) (s : StoreAt × ℕ) → next_store as' ws ≡ Some s → next_store as' (ws ++ w ∷ []) ≡ Some s
next_more_sd [] ws w s h = cc
next_more_sd (x ∷ as') [] w s h = cc
next_more_sd (x ∷ as') (v ∷ ws) w s h = h

pub rest_more_sd : (as' : List StoreAt) (ws : List ℕ) (w : ℕ) (s : StoreAt × ℕ) → next_store as' ws ≡ Some s → rest (ws ++ w ∷ []) ≡ rest ws ++ w ∷ []
rest_more_sd [] ws w s h = cc
rest_more_sd (x ∷ as') [] w s h = cc
rest_more_sd (x ∷ as') (v ∷ ws) w s h = refl

pub any_next : (p : StoreAt → Bool) (as' : List StoreAt) (ws : List ℕ) (s : StoreAt × ℕ) → next_store as' ws ≡ Some s → list_any p as' ≡ false → p s.0 ≡ false
any_next p [] ws s h k = cc
any_next p (x ∷ as') [] s h k = cc
any_next p (x ∷ as') (w ∷ ws) s h k = let both = or_false (p x) (list_any p as') k in let same : (x, w) ≡ s = cc in rw (← ap (λ z. z.0) same) both.0

pub newer_held_not : (a : StoreAt) (number issued addr : ℕ) (kind : LoadKind) → a.number < issued → holds a (new_slot number kind addr issued) ≡ false
newer_held_not a number issued addr kind h = let no : nat_le issued a.number ≡ false = grind (arith, nat_tests) in rw no

-- an enabled fill and an enabled drain share no byte
pub no_byte_shared : (n : ℕ) (slot : Slot) (a : StoreAt) → is_waiting n slot ≡ true → bars slot a ≡ false → holds a slot ≡ false → overlap a.addr a.width slot.addr (width_of slot.kind) ≡ false
no_byte_shared n slot a w b h = grind (arith, nat_tests)
