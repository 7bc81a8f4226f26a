-- A breakpoint and what is shown, by two numbers.
use Rattle.std.proofs.Common.{◌≡◌, ℕ, List, refl, ap, arith}
use Rattle.std.specs.Prelude.{Option, None, Some, option_map}
use Rattle.dae_base.specs.declared.Side.{Side}
use Rattle.dae_base.specs.declared.Side.TheVariants.{A}
use Rattle.dae_base.specs.Ones.{IsTheOne}
use Rattle.dae_debug_commands.specs.Commands.{SpellsBreakOn, SpellsPair, SpellsShown}

-- the values of one kind are made from those of another
pub by_parts : {X Y : Type 0} (Has : X → Type 0) (Spells : Y → Type 0) (make : X → Y) (found : Option X) → ((x : X) → Has x → Spells (make x))
    → ((y : Y) → Spells y → (x : X) × (y ≡ make x) × Has x) → IsTheOne Has found → IsTheOne Spells (option_map make found)
by_parts Has Spells make None made parts one = record {
  has = tt;
  only = λ y h. let p = parts y h in let e = one.only p.0 p.2 in absurd (cc);
}
by_parts Has Spells make (Some x) made parts one = record {
  has = made x one.has;
  only = λ y h. let p = parts y h in let e = one.only p.0 p.2 in let f = p.1 in cc;
}

pub break_on_read : (side : Side) (text : List ℕ) (found : Option (ℕ × ℕ)) → IsTheOne (SpellsPair 4294967295 0 4294967295 text) found
    → IsTheOne (SpellsBreakOn side text) (option_map (λ p. record { side = side; file = p.0; line = p.1 }) found)
break_on_read side text found = by_parts (SpellsPair 4294967295 0 4294967295 text) (SpellsBreakOn side text) (λ p. record { side = side; file = p.0; line = p.1 }) found
    (λ p h. let f = h.first in let g = h.second in (refl, h.text_is, omega (arith, f.most_is), omega (arith, g.most_is)))
    (λ at h. (
      (at.file, at.line),
      ap (λ (s : Side). record at { side = s }) h.0,
      record {
        text_is = h.1;
        first = record { least_is = omega arith; most_is = omega (arith, h.2) };
        second = record { least_is = omega arith; most_is = omega (arith, h.3) };
      },
    ))

pub shown_read : (text : List ℕ) (found : Option (ℕ × ℕ)) → IsTheOne (SpellsPair 4294967295 1 64 text) found
    → IsTheOne (SpellsShown text) (option_map (λ p. record { address = p.0; count = p.1 }) found)
shown_read text found = by_parts (SpellsPair 4294967295 1 64 text) (SpellsShown text) (λ p. record { address = p.0; count = p.1 }) found
    (λ p h. let f = h.first in (h.text_is, omega (arith, f.most_is), h.second))
    (λ s h. (
      (s.address, s.count),
      refl,
      record {
        text_is = h.0;
        first = record { least_is = omega arith; most_is = omega (arith, h.1) };
        second = h.2;
      },
    ))
