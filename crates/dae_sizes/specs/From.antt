-- Lists that come from one another.
use Rattle.std.specs.Prelude.{◌⊎◌, List, [], ◌∷◌}

-- what is in the second list comes from what is in the first, at most one from each, in their order
abbrev pub AreFrom : {X Y : Type 0} → (X → Y → Type 0) → List X → List Y → Type 0
AreFrom R xs [] = Unit {0}
AreFrom R [] (y ∷ ys) = ⊥
AreFrom R (x ∷ xs) (y ∷ ys) = (R x y × AreFrom R xs ys) ⊎ AreFrom R xs (y ∷ ys)
