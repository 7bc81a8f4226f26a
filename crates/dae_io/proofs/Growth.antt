-- What a sink or a writer has taken after several puts or writes.
use Rattle.std.proofs.Common.{◌≡◌, ℕ, ◌+◌, ◌-◌, ◌≤◌, List, ◌++◌, Option, None, Some, length, take, drop, min, ◌∙◌, ap, append_assoc, take_all, length-drop, arith}
use Rattle.std.specs.Io.KnownBytes.{Appends, Keeps}
use Rattle.std.proofs.lemmas.List.{take-append-le, take_min}
use Rattle.std.proofs.Math.Seq.{take-add, take-append-add}
use Rattle.dae_io.specs.Sinks.{AppendsPrefix}

pub Appends-then : (a b c : Option (List ℕ)) (xs ys : List ℕ) → Appends a b xs → Appends b c ys → Appends a c (xs ++ ys)
Appends-then None b c xs ys p q = tt
Appends-then (Some x) None c xs ys p q = absurd p
Appends-then (Some x) (Some y) None xs ys p q = absurd q
Appends-then (Some x) (Some y) (Some z) xs ys p q = q ∙ ap (λ w. w ++ ys) p ∙ append_assoc x xs ys

-- a piece, and then some first bytes of the next
pub AppendsPrefix-then : (a b c : Option (List ℕ)) (xs ys : List ℕ) → Appends a b xs → AppendsPrefix b c ys → AppendsPrefix a c (xs ++ ys)
AppendsPrefix-then a b c xs ys p q = (length xs + q.0, rw (take-append-add xs ys q.0) (Appends-then a b c xs (take q.0 ys) p q.1))

-- some first bytes of a piece are first bytes of more
pub AppendsPrefix-of_more : (a b : Option (List ℕ)) (xs ys : List ℕ) → AppendsPrefix a b xs → AppendsPrefix a b (xs ++ ys)
AppendsPrefix-of_more a b xs ys p =
    let inside : min p.0 (length xs) ≤ length xs = grind arith in
    (min p.0 (length xs), rw (take-append-le (min p.0 (length xs)) xs ys inside, take_min p.0 xs) p.1)

pub Appends-keeps : (a b c : Option (List ℕ)) (xs : List ℕ) → Appends a b xs → Keeps b c → Appends a c xs
Appends-keeps None b c xs p q = tt
Appends-keeps (Some x) None c xs p q = absurd p
Appends-keeps (Some x) (Some y) None xs p q = absurd q
Appends-keeps (Some x) (Some y) (Some z) xs p q = q ∙ p

-- some first bytes are written, and then some more
pub Appends-more : (a b c : Option (List ℕ)) (done count : ℕ) (bytes : List ℕ) → count ≤ length (take (length bytes - done) (drop done bytes)) → Appends a b (take done bytes) → Appends b c (take count (take (length bytes - done) (drop done bytes))) → done ≤ length bytes → (done + count ≤ length bytes) × Appends a c (take (done + count) bytes)
Appends-more a b c done count bytes few p q inside =
    let whole : take (length bytes - done) (drop done bytes) ≡ drop done bytes = take_all (length bytes - done) (drop done bytes) (omega (arith, length-drop done bytes)) in
    let few : count ≤ length (drop done bytes) = rw whole at few in
    let q : Appends b c (take count (drop done bytes)) = rw whole at q in (
      omega (arith, length-drop done bytes),
      rw (take-add done count bytes) (Appends-then a b c (take done bytes) (take count (drop done bytes)) p q),
    )
