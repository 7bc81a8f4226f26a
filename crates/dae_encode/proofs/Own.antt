-- The access that an instruction asks for belongs to its side.
use Rattle.std.proofs.Common.{◌≡◌, ℕ, Bool, true, IfSome, subst}
use Rattle.std.specs.Prelude.{Option, Some, None, ◌==◌, ◌%◌, ◌/◌, List, if◌then◌else◌, slice_get}
use Rattle.dae_base.specs.declared.Side.{Side}
use Rattle.dae_encode.specs.declared.QueueUse.{QueueUse}
use Rattle.dae_encode.specs.declared.Fault.{Fault}
use Rattle.dae_encode.specs.declared.Halt.{Halt}
use Rattle.dae_encode.specs.declared.Inst.{Inst}
use Rattle.dae_encode.specs.declared.Request.{Request}
use Rattle.dae_encode.specs.declared.Request.TheVariants.{Halted, Faulty, Asks}
use Rattle.dae_encode.specs.Instructions.{form}
use Rattle.dae_encode.specs.Spelling.{decode}
use Rattle.dae_encode.specs.Uses.{queue_use, belongs}
use Rattle.dae_encode.specs.Processor.{Processor, early_fault, put_word, if_no_fault, if_legal, decoded, fetched, unless_halted, request}
use Rattle.dae_encode.proofs.Legal.{own_use}

-- the access of a request, if it has one, belongs to the side
abbrev AsksOwn : Side → Request → Type 0
AsksOwn side Halted = Unit
AsksOwn side (Faulty fault) = Unit
AsksOwn side (Asks u w i) = belongs side u ≡ true

own_unless_fault : (side : Side) (f : Option Fault) (r : Request) → AsksOwn side r → AsksOwn side (if_no_fault f r)
own_unless_fault side None r h = h
own_unless_fault side (Some fault) r h = tt

own_if_legal : (side : Side) (o : Option QueueUse) (go : QueueUse → Request) → IfSome o (λ (u : QueueUse). belongs side u ≡ true) → ((u : QueueUse) → belongs side u ≡ true → AsksOwn side (go u)) → AsksOwn side (if_legal o go)
own_if_legal side None go h k = tt
own_if_legal side (Some u) go h k = k u h

own_decoded : (copies : Bool) (side : Side) (memory : ℕ) (p : Processor) (o : Option Inst) → AsksOwn side (decoded copies side memory p o)
own_decoded copies side memory p None = tt
own_decoded copies side memory p (Some i) =
    own_if_legal side (queue_use copies side (form i)) _ (own_use copies side (form i)) (λ u h. own_unless_fault side (early_fault side memory p u (form i)) (Asks u (put_word p u i (form i)) i) h)

own_fetched : (copies : Bool) (side : Side) (memory : ℕ) (p : Processor) (o : Option ℕ) → AsksOwn side (fetched copies side memory p o)
own_fetched copies side memory p None = tt
own_fetched copies side memory p (Some w) = own_decoded copies side memory p (decode w)

own_unless_halted : (side : Side) (o : Option Halt) (r : Request) → AsksOwn side r → AsksOwn side (unless_halted o r)
own_unless_halted side None r h = h
own_unless_halted side (Some halt) r h = tt

own_request : (copies : Bool) (side : Side) (code : List ℕ) (memory : ℕ) (p : Processor) → AsksOwn side (request copies side code memory p)
unfolding request
own_request copies side code memory p = own_unless_halted side p.halt _ (own_fetched copies side memory p (if p.counter % 4 == 0 then slice_get code (p.counter / 4) else None))

pub asks_own : (copies : Bool) (side : Side) (code : List ℕ) (memory : ℕ) (p : Processor) (u : QueueUse) (w : ℕ) (i : Inst) → request copies side code memory p ≡ Asks u w i → belongs side u ≡ true
asks_own copies side code memory p u w i h = subst (λ (r : Request). AsksOwn side r) h (own_request copies side code memory p)
