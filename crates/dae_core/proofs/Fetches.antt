-- What a processor asks is what the entry of its counter asks.
use Rattle.std.proofs.Common.{◌≡◌, ◌≢◌, ℕ, Bool, true, false, List, refl, ap, sym, ◌∙◌, arith}
use Rattle.std.proofs.lemmas.Bool.Decides.{nat_tests}
use Rattle.std.specs.Prelude.{Option, Some, None, is_some, ◌==◌, ◌%◌, ◌/◌, slice_get, option_map, option_and_then, if◌then◌else◌}
use Rattle.dae_base.specs.declared.Side.{Side}
use Rattle.dae_encode.specs.declared.QueueUse.{QueueUse}
use Rattle.dae_encode.specs.declared.Fault.TheVariants.{BadPc, Illegal}
use Rattle.dae_encode.specs.declared.Halt.{Halt}
use Rattle.dae_encode.specs.declared.Inst.{Inst}
use Rattle.dae_encode.specs.declared.Request.{Request}
use Rattle.dae_encode.specs.declared.Request.TheVariants.{Halted, Faulty, Asks}
use Rattle.dae_encode.specs.Instructions.{form}
use Rattle.dae_encode.specs.Spelling.{decode}
use Rattle.dae_encode.specs.Uses.{queue_use}
use Rattle.dae_encode.specs.Processor.{Processor, early_fault, put_word, if_no_fault, if_legal, decoded, fetched, unless_halted, request}
use Rattle.dae_core.specs.declared.code.Legal.{Legal}
use Rattle.dae_core.specs.Codes.{asked, legal_word}

-- what an entry of the code asks: there is none past the end
abbrev pub asked_at : Side → ℕ → Processor → Option (Option Legal) → Request
asked_at side memory p None = Faulty BadPc
asked_at side memory p (Some None) = Faulty Illegal
asked_at side memory p (Some (Some l)) = asked side memory p l

legal_is : (side : Side) (memory : ℕ) (p : Processor) (i : Inst) (o : Option QueueUse) → if_legal o (λ u. if_no_fault (early_fault side memory p u (form i)) (Asks u (put_word p u i (form i)) i)) ≡ asked_at side memory p (Some (option_map (λ u. record { inst = i; form = form i; access = u }) o))
legal_is side memory p i None = refl
legal_is side memory p i (Some u) = refl

decoded_is : (copies : Bool) (side : Side) (memory : ℕ) (p : Processor) (o : Option Inst) → decoded copies side memory p o ≡ asked_at side memory p (Some (option_and_then (λ i. option_map (λ u. record { inst = i; form = form i; access = u }) (queue_use copies side (form i))) o))
decoded_is copies side memory p None = refl
decoded_is copies side memory p (Some i) = legal_is side memory p i (queue_use copies side (form i))

fetched_is : (copies : Bool) (side : Side) (memory : ℕ) (p : Processor) (o : Option ℕ) → fetched copies side memory p o ≡ asked_at side memory p (option_map (legal_word copies side) o)
fetched_is copies side memory p None = refl
fetched_is copies side memory p (Some w) = decoded_is copies side memory p (decode w)

pub requested : (copies : Bool) (side : Side) (code : List ℕ) (memory : ℕ) (p : Processor) (e : Option (Option Legal)) → p.halt ≡ None → p.counter % 4 ≡ 0 → e ≡ option_map (legal_word copies side) (slice_get code (p.counter / 4)) → request copies side code memory p ≡ asked_at side memory p e
unfolding request
requested copies side code memory p e h z same =
    ap (λ (o : Option Halt). unless_halted o (fetched copies side memory p (if p.counter % 4 == 0 then slice_get code (p.counter / 4) else None))) h
    ∙ ap (λ (n : ℕ). fetched copies side memory p (if n == 0 then slice_get code (p.counter / 4) else None)) z
    ∙ fetched_is copies side memory p (slice_get code (p.counter / 4))
    ∙ ap (asked_at side memory p) (sym same)

not_zero : (n : ℕ) → n ≢ 0 → (n == 0) ≡ false
not_zero n h = grind (arith, nat_tests)

pub misplaced : (copies : Bool) (side : Side) (code : List ℕ) (memory : ℕ) (p : Processor) → p.halt ≡ None → p.counter % 4 ≢ 0 → request copies side code memory p ≡ Faulty BadPc
unfolding request
misplaced copies side code memory p h e =
    ap (λ (o : Option Halt). unless_halted o (fetched copies side memory p (if p.counter % 4 == 0 then slice_get code (p.counter / 4) else None))) h
    ∙ ap (λ (b : Bool). fetched copies side memory p (if b then slice_get code (p.counter / 4) else None)) (not_zero (p.counter % 4) e)

pub halted_asks : (copies : Bool) (side : Side) (code : List ℕ) (memory : ℕ) (p : Processor) → is_some p.halt ≡ true → request copies side code memory p ≡ Halted
unfolding request
halted_asks copies side code memory p h = by p.halt refl where
  by : (o : Option Halt) → p.halt ≡ o → unless_halted p.halt (fetched copies side memory p (if p.counter % 4 == 0 then slice_get code (p.counter / 4) else None)) ≡ Halted
  by None e = absurd (cc (h, e))
  by (Some halt) e = ap (λ (o : Option Halt). unless_halted o (fetched copies side memory p (if p.counter % 4 == 0 then slice_get code (p.counter / 4) else None))) e

-- the form of an entry is that of its instruction
form_by : (i : Inst) (o : Option QueueUse) (l : Legal) → option_map (λ u. record { inst = i; form = form i; access = u }) o ≡ Some l → l.form ≡ form l.inst
form_by i None l e = cc
form_by i (Some u) l e =
    let same : record { inst = i; form = form i; access = u } ≡ l = cc in rw (← same) refl

form_at : (copies : Bool) (side : Side) (o : Option Inst) (l : Legal) → option_and_then (λ i. option_map (λ u. record { inst = i; form = form i; access = u }) (queue_use copies side (form i))) o ≡ Some l → l.form ≡ form l.inst
form_at copies side None l e = cc
form_at copies side (Some i) l e = form_by i (queue_use copies side (form i)) l e

pub form_of_entry : (copies : Bool) (side : Side) (o : Option ℕ) (l : Legal) → option_map (legal_word copies side) o ≡ Some (Some l) → l.form ≡ form l.inst
form_of_entry copies side None l e = cc
form_of_entry copies side (Some w) l e = form_at copies side (decode w) l cc
