-- Lines one behind the other.
use Rattle.std.proofs.Common.{◌≡◌, ℕ, zero, suc, ◌+◌, ◌<◌, List, ◌∷◌, ◌++◌, map, length, drop, ap, sym, ◌∙◌, append_assoc, arith, []}
use Rattle.std.specs.Prelude.{Some, None, slice_get}
use Rattle.std.specs.List.{flat_map}
use Rattle.dae_queues.specs.declared.StoreAt.{StoreAt}
use Rattle.dae_machine.specs.declared.Entry.{Entry}
use Rattle.dae_machine.specs.Entries.{store_entry}
use Rattle.dae_debug.specs.Texts.{store_line}

abbrev pub line_of : StoreAt → List ℕ
line_of at = store_line at.addr at.width

-- the line of the store at a place, and those behind it
pub store_at : (stores : List StoreAt) (at : ℕ) (entry : Entry) → slice_get (map store_entry stores) at ≡ Some entry
    → flat_map line_of (drop at stores) ≡ store_line entry.addr entry.width ++ flat_map line_of (drop (at + 1) stores)
store_at [] at entry e = absurd (cc)
store_at (x ∷ xs) zero entry e =
    let same : store_entry x ≡ entry = cc in
    ap (λ (n : Entry). store_line n.addr n.width ++ flat_map line_of xs) same
store_at (x ∷ xs) (suc at) entry e =
    let add : suc (at + 1) ≡ suc at + 1 = omega arith in
    store_at xs at entry e ∙ ap (λ (n : ℕ). store_line entry.addr entry.width ++ flat_map line_of (drop n (x ∷ xs))) add

pub store_more : (stores : List StoreAt) (at : ℕ) (entry : Entry) (text next : List ℕ) → slice_get (map store_entry stores) at ≡ Some entry
    → text ++ flat_map line_of (drop at stores) ≡ flat_map line_of stores → next ≡ text ++ store_line entry.addr entry.width
    → next ++ flat_map line_of (drop (at + 1) stores) ≡ flat_map line_of stores
store_more stores at entry text next e so_far is =
    ap (λ (t : List ℕ). t ++ flat_map line_of (drop (at + 1) stores)) is
    ∙ append_assoc text (store_line entry.addr entry.width) (flat_map line_of (drop (at + 1) stores))
    ∙ ap (λ (t : List ℕ). text ++ t) (sym (store_at stores at entry e)) ∙ so_far

pub store_there : (stores : List StoreAt) (at : ℕ) → at < length stores → slice_get (map store_entry stores) at ≡ None → ⊥
store_there [] at lt e = absurd (omega arith)
store_there (x ∷ xs) zero lt e = cc
store_there (x ∷ xs) (suc at) lt e = store_there xs at (omega arith) e
