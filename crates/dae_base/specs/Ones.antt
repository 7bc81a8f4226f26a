-- The one value with a property.
use Rattle.std.specs.Prelude.{◌≡◌, Option, Some, IfSome}

-- the one value with a property, or None where no value has it
pub record IsTheOne {X : Type 0} (Has : X → Type 0) (found : Option X) : Type 0 where
  pub has : IfSome found Has
  pub only : (x : X) → Has x → found ≡ Some x
