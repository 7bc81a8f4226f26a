-- What a text certifies: nodes at which nothing waits; or its first line that may not stand there.
use Rattle.std.specs.Prelude.{◌≡◌, ℕ, suc, true, ◌==◌, if◌then◌else◌, List, [], ◌∷◌, ◌++◌, length, map, reverse, replicate, slice_set, Option}
use Rattle.dae_base.specs.declared.Side.{Side}
use Rattle.dae_base.specs.declared.Side.TheVariants.{A, E}
use Rattle.dae_ranges.specs.declared.Range.{Range}
use Rattle.dae_ranges.specs.Ranges.{single, any_word}
use Rattle.dae_certificate.specs.declared.SideNode.{SideNode}
use Rattle.dae_certificate.specs.declared.CertificateNode.{CertificateNode}
use Rattle.dae_certificate.specs.declared.CertificateError.{CertificateError}
use Rattle.dae_certificate.specs.declared.CertificateError.TheVariants.{BadLine, Memory}
use Rattle.dae_certificate.specs.declared.lines.NamedRange.{NamedRange}
use Rattle.dae_certificate.specs.declared.lines.CertificateLine.{CertificateLine}
use Rattle.dae_certificate.specs.declared.lines.CertificateLine.TheVariants.{Node, Register}
use Rattle.dae_certificate.specs.Lines.{IsLine, SpellsLine, line_text, may_follow}

-- ---- lines of a text: each ends with a line feed, but that the last one need not

abbrev pub put_before : ℕ → List (List ℕ) → List (List ℕ)
put_before c [] = (c ∷ []) ∷ []
put_before c (line ∷ lines) = (c ∷ line) ∷ lines

abbrev pub text_lines : List ℕ → List (List ℕ)
text_lines [] = []
text_lines (c ∷ cs) = if c == 10 then [] ∷ text_lines cs else put_before c (text_lines cs)

-- ---- certificates

-- lines that may stand so, the last one first
abbrev pub AreLines : List CertificateLine → Type 0
AreLines [] = Unit {0}
AreLines (l ∷ before) = IsLine l × (may_follow before l ≡ true) × AreLines before

-- the text spells these lines, the last one first
pub record Spells (text : List ℕ) (lines : List CertificateLine) : Type 0 where
  pub are : AreLines lines
  pub spelled : text_lines text ≡ map line_text (reverse lines)

-- the line of this number, from 1 on, is the first that may not stand there
pub record IsBadLine (text : List ℕ) (number : ℕ) : Type 0 where
  pub before : List CertificateLine
  pub line : List ℕ
  pub behind : List (List ℕ)
  pub are : AreLines before
  pub count : number ≡ suc (length before)
  pub spelled : text_lines text ≡ map line_text (reverse before) ++ (line ∷ behind)
  pub bad : (l : CertificateLine) → SpellsLine line l → may_follow before l ≡ true → ⊥

-- ---- their nodes

-- a side whose registers may hold any word, but for register 0
abbrev pub open_side : Option ℕ → SideNode
open_side counter = record { counter = counter; registers = single 0 ∷ replicate 27 any_word }

abbrev pub open_node : Option ℕ → Option ℕ → CertificateNode
open_node a e = record { a = open_side a; e = open_side e }

abbrev pub with_register : ℕ → Range → SideNode → SideNode
with_register register range s = record s { registers = slice_set s.registers register range }

abbrev pub with_on : Side → ℕ → Range → CertificateNode → CertificateNode
with_on A register range k = record k { a = with_register register range k.a }
with_on E register range k = record k { e = with_register register range k.e }

abbrev pub with_named : NamedRange → CertificateNode → CertificateNode
with_named n k = with_on n.side n.register n.range k

abbrev pub with_last : {X : Type 0} → (X → X) → List X → List X
with_last f [] = []
with_last f (x ∷ []) = f x ∷ []
with_last f (x ∷ (y ∷ ys)) = x ∷ with_last f (y ∷ ys)

-- the nodes of lines, of which the last comes first: the line of a register belongs to the last
-- node before it
abbrev pub nodes_of : List CertificateLine → List CertificateNode
nodes_of [] = []
nodes_of (Node a e ∷ before) = nodes_of before ++ (open_node a e ∷ [])
nodes_of (Register n ∷ before) = with_last (with_named n) (nodes_of before)

-- the text certifies these nodes
pub record Certifies (text : List ℕ) (nodes : List CertificateNode) : Type 0 where
  pub lines : List CertificateLine
  pub spells : Spells text lines
  pub are_nodes : nodes ≡ nodes_of lines

-- why a text is not read
abbrev pub IsCause : List ℕ → CertificateError → Type 0
IsCause text (BadLine number) = IsBadLine text number
IsCause text Memory = Unit {0}
