-- Values of digits.
use Rattle.std.proofs.Common.{◌≡◌, ℕ, ◌+◌, ◌*◌, ◌<◌, ◌≤◌, drop, get_or, length, List, [], ◌∷◌, None, refl, ap, arith}
use Rattle.std.proofs.Math.Nat.{le-mul_of_pos_right}
use Rattle.std.proofs.lemmas.Bool.{lt-leb}
use Rattle.std.proofs.lemmas.List.{drop_more}
use Rattle.dae_tree.specs.Constants.{digit, value_from, limited}

at_least : (base n : ℕ) → 0 < base → n ≤ n * base
at_least base n h = le-mul_of_pos_right n h

pub value_grows : (base n : ℕ) (ds : List ℕ) → 0 < base → n ≤ value_from base n ds
value_grows base n [] h = omega arith
value_grows base n (d ∷ ds) h = omega (arith, at_least base n h, value_grows base (n * base + digit d) ds h)

-- the digits from place i on give too much, where the next one does
pub too_much : (base n limit : ℕ) (ds : List ℕ) (i all : ℕ) → 0 < base → i < length ds → value_from base n (drop i ds) ≡ all
    → limit < n * base + digit (get_or ds i 0) → None ≡ limited limit all
too_much base n limit ds i all b h e more =
    let grown = value_grows base (n * base + digit (get_or ds i 0)) (drop (i + 1) ds) b in
    let next = ap (value_from base n) (drop_more ds i 0 h) in
    let above : limit < all = omega (arith, grown, more, e, next) in
    rw (lt-leb all limit above) refl
