-- The lines of a certificate, the bytes that spell each, and which line may stand behind others.
use Rattle.std.specs.Prelude.{◌≡◌, ℕ, suc, not, ◌≤◌, ◌<◌, ◌^◌, Bool, true, false, ◌&&◌, nat_lt, nat_eq, List, [], ◌∷◌, ◌++◌, Option, Some, None, codes, decimal}
use Rattle.dae_base.specs.declared.Side.{Side}
use Rattle.dae_base.specs.declared.Side.TheVariants.{A, E}
use Rattle.dae_ranges.specs.declared.Range.{Range}
use Rattle.dae_ranges.specs.Ranges.{highest}
use Rattle.dae_certificate.specs.declared.lines.NamedRange.{NamedRange}
use Rattle.dae_certificate.specs.declared.lines.CertificateLine.{CertificateLine}
use Rattle.dae_certificate.specs.declared.lines.CertificateLine.TheVariants.{Node, Register}

-- ---- their words

abbrev pub counter_text : Option ℕ → List ℕ
counter_text None = codes "halted"
counter_text (Some counter) = decimal counter

abbrev pub side_text : Side → List ℕ
side_text A = codes "a"
side_text E = codes "e"

-- the least word, the greatest and the step
abbrev pub range_words : Range → List (List ℕ)
range_words r = decimal r.lo ∷ (decimal (highest r) ∷ (decimal r.step ∷ []))

abbrev pub line_words : CertificateLine → List (List ℕ)
line_words (Node a e) = codes "node" ∷ (counter_text a ∷ (counter_text e ∷ []))
line_words (Register n) = side_text n.side ∷ (decimal n.register ∷ range_words n.range)

-- words with one blank between
abbrev pub spaced : List (List ℕ) → List ℕ
spaced [] = []
spaced (w ∷ []) = w
spaced (w ∷ (v ∷ ws)) = w ++ (32 ∷ spaced (v ∷ ws))

abbrev pub line_text : CertificateLine → List ℕ
line_text l = spaced (line_words l)

-- ---- their numbers

abbrev pub IsCounter : Option ℕ → Type 0
IsCounter None = Unit {0}
IsCounter (Some counter) = counter < 2 ^ 32

-- words, in steps
pub record IsRange (r : Range) : Type 0 where
  pub least : r.lo < 2 ^ 32
  pub greatest : highest r < 2 ^ 32
  pub steps : 0 < r.step
  pub step : r.step < 2 ^ 32

-- a register that holds a value of its own
pub record IsNamed (n : NamedRange) : Type 0 where
  pub first : 1 ≤ n.register
  pub last : n.register ≤ 27
  pub range : IsRange n.range

abbrev pub IsLine : CertificateLine → Type 0
IsLine (Node a e) = IsCounter a × IsCounter e
IsLine (Register n) = IsNamed n

-- ---- what bytes spell

abbrev pub SpellsWord : List ℕ → ℕ → Type 0
SpellsWord bytes n = (bytes ≡ decimal n) × (n < 2 ^ 32)

abbrev pub SpellsCounter : List ℕ → Option ℕ → Type 0
SpellsCounter bytes c = (bytes ≡ counter_text c) × IsCounter c

abbrev pub SpellsCounters : List ℕ → Option ℕ × Option ℕ → Type 0
SpellsCounters bytes x =
    (bytes ≡ spaced (counter_text x.0 ∷ (counter_text x.1 ∷ []))) × IsCounter x.0 × IsCounter x.1

abbrev pub SpellsEnds : List ℕ → Range → Type 0
SpellsEnds bytes r = (bytes ≡ spaced (range_words r)) × IsRange r

abbrev pub SpellsRange : Side → List ℕ → NamedRange → Type 0
SpellsRange side bytes n =
    (n.side ≡ side) × (bytes ≡ spaced (decimal n.register ∷ range_words n.range)) × IsNamed n

abbrev pub SpellsLine : List ℕ → CertificateLine → Type 0
SpellsLine bytes l = (bytes ≡ line_text l) × IsLine l

-- ---- which line may stand behind others, of which the last comes first

abbrev pub node_count : List CertificateLine → ℕ
node_count [] = 0
node_count (Node a e ∷ before) = suc (node_count before)
node_count (Register n ∷ before) = node_count before

abbrev pub is_side : Side → Side → Bool
is_side A A = true
is_side A E = false
is_side E A = false
is_side E E = true

-- there is a node, and no line behind the last one names the register
abbrev pub is_unnamed : Side → ℕ → List CertificateLine → Bool
is_unnamed side register [] = false
is_unnamed side register (Node a e ∷ before) = true
is_unnamed side register (Register n ∷ before) =
    not (is_side n.side side && nat_eq n.register register) && is_unnamed side register before

abbrev pub may_follow : List CertificateLine → CertificateLine → Bool
may_follow before (Node a e) = nat_lt (node_count before) 64
may_follow before (Register n) = is_unnamed n.side n.register before
