-- No group passes the cap.
use Rattle.std.proofs.Common.{◌≡◌, ℕ, ◌+◌, ◌<◌, ◌≤◌, Bool, true, false, ◌&&◌, nat_eq, List, [], ◌∷◌, ◌++◌, Option, Some, None, if◌then◌else◌, refl, arith}
use Rattle.std.proofs.lemmas.Bool.Decides.{nat_tests}
use Rattle.dae_base.proofs.Laws.{or_false}
use Rattle.dae_base.specs.declared.Place.{Place}
use Rattle.dae_ir.specs.Code.{Done, Do, If, Loop, Each}
use Rattle.dae_ir.specs.Form.{Form}
use Rattle.dae_ir.specs.Classes.{Classes}
use Rattle.dae_ir.specs.Rounds.{Rounds, Stand, Joins, Closes, Separates, stand, closed, is_for_e, is_copied, how_many, is_full, placed, region, one_sided, rounds}
use Rattle.dae_ir_pair.specs.Budget.{RoundFits}
use Rattle.dae_ir.specs.declared.stream.Part.{Part}

pub how_many_more : (f : Part → Bool) (g : List Part) (p : Part) → how_many f (g ++ p ∷ []) ≡ how_many f g + (if f p then 1 else 0)
how_many_more f [] p = omega (arith)
how_many_more f (q ∷ g) p = omega (arith, how_many_more f g p)

module _ (f : Part → Bool) (cap : ℕ) where
  one_fits : 0 < cap → (p : Part) → how_many f (p ∷ []) ≤ cap
  one_fits some p = by (f p) where
    by : (b : Bool) → (if b then 1 else 0) + 0 ≤ cap
    by true = omega (arith, some)
    by false = omega (arith, some)

  more_fits : (g : List Part) (p : Part) → how_many f g ≤ cap → f p && nat_eq (how_many f g) cap ≡ false → how_many f (g ++ p ∷ []) ≤ cap
  more_fits g p h full = rw (how_many_more f g p) (by (f p) (nat_eq (how_many f g) cap) refl full) where
    by : (b d : Bool) → nat_eq (how_many f g) cap ≡ d → b && d ≡ false → how_many f g + (if b then 1 else 0) ≤ cap
    by true true e k = absurd (let x : true ≡ false = k in cc)
    by true false e k = grind (arith, nat_tests)
    by false d e k = omega (arith, h)

module _ (c : Classes) (cap : ℕ) (some : 0 < cap) where
  abbrev Fits : List Part → Type 0
  Fits g = (how_many (is_for_e c) g ≤ cap) × (how_many (is_copied c) g ≤ cap)

  abbrev Fit : Rounds → Type 0
  Fit code = Each (RoundFits c cap) (λ d. Unit {0}) code

  pub no_parts : Fits []
  no_parts = (omega (arith), omega (arith))

  closed_fit : (g : List Part) → Fits g → (k : Rounds) → Fit k → Fit (closed g k)
  closed_fit [] h k f = f
  closed_fit (p ∷ g) h k f = (h, f)

  placed_fit : (place : Place) (st : Stand) (g : List Part) → Fits g → (r : List Part → Rounds) → ((g : List Part) → Fits g → Fit (r g)) → Fit (placed c cap g place st r)
  placed_fit place (Joins p) g h r f = by (is_full c cap g p) refl where
    by : (b : Bool) → is_full c cap g p ≡ b → Fit (if b then closed g (r (p ∷ [])) else r (g ++ p ∷ []))
    by true e = closed_fit g h (r (p ∷ [])) (f (p ∷ []) (one_fits (is_for_e c) cap some p, one_fits (is_copied c) cap some p))
    by false e =
        let o = or_false (is_for_e c p && nat_eq (how_many (is_for_e c) g) cap) (is_copied c p && nat_eq (how_many (is_copied c) g) cap) e in
        f (g ++ p ∷ []) (more_fits (is_for_e c) cap g p h.0 o.0, more_fits (is_copied c) cap g p h.1 o.1)
  placed_fit place (Closes last) g h r f = (h, f [] no_parts)
  placed_fit place (Separates jump) g h r f = closed_fit g h _ (tt, f [] no_parts)

  sided_fit : (o : Option Bool) (place : Place) (code : Form) (k both : Rounds) → Fit k → Fit both → Fit (one_sided o place code k both)
  sided_fit None place code k both f h = h
  sided_fit (Some d) place code k both f h = (tt, f)

  pub rounds_fit : (outside : Bool) (code : Form) (g : List Part) → Fits g → Fit (rounds c cap outside code g)
  rounds_fit outside Done g h = closed_fit g h Done tt
  rounds_fit outside (Do place item k) g h = placed_fit place (stand c place item) g h (rounds c cap outside k) (rounds_fit outside k)
  rounds_fit outside (If place t p q k) g h =
      closed_fit g h _ (sided_fit (region outside c (If place t p q Done)) place _ _ _ (rounds_fit outside k [] no_parts)
      (tt, rounds_fit outside p [] no_parts, rounds_fit outside q [] no_parts, rounds_fit outside k [] no_parts))
  rounds_fit outside (Loop place p q k) g h =
      closed_fit g h _ (sided_fit (region outside c (Loop place p q Done)) place _ _ _ (rounds_fit outside k [] no_parts)
      (rounds_fit outside p [] no_parts, rounds_fit outside q [] no_parts, rounds_fit outside k [] no_parts))
