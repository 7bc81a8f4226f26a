-- What a line says.
use Rattle.std.proofs.Common.{◌≡◌, ℕ, List, [], ◌∷◌, Option, Some, None, refl}
use Rattle.std.specs.Str.{IsAscii}
use Rattle.dae_asm_lines.specs.Tokens.{LineToken}
use Rattle.dae_asm_lines.specs.Items.{LineItem}
use Rattle.dae_asm_lines.specs.Reading.{first, end, item_of}
use Rattle.dae_asm_lines.specs.Lines.{IsLine, empty, says, spoken}
use Rattle.dae_asm_lines.proofs.Found.{found}
use Rattle.dae_asm_lines.proofs.Read.{read}

no_tokens : (ts : List LineToken) (u : Unit {0}) → end ts ≡ Some u → ts ≡ []
unfolding end
no_tokens [] u e = refl
no_tokens (t ∷ ts) u e = absurd cc

some_tokens : (ts : List LineToken) → end ts ≡ None → ts ≡ [] → ⊥
unfolding end
some_tokens [] e n = cc
some_tokens (t ∷ ts) e n = cc

from_nothing : (ts : List LineToken) (i : LineItem) → ts ≡ [] → item_of ts ≡ Some i → ⊥
unfolding item_of first
from_nothing ts i e f = let g = rw e at f in cc

pub nothing_said : (line : List ℕ) (u : Unit {0}) → IsAscii line → end (spoken line) ≡ Some u → IsLine line None
nothing_said line u ascii e = empty ascii (no_tokens (spoken line) u e)

pub item_said : (line : List ℕ) (i : LineItem) → IsAscii line → item_of (spoken line) ≡ Some i → IsLine line (Some i)
item_said line i ascii e = says i ascii (found (spoken line) i e)

pub none_said : (line : List ℕ) → end (spoken line) ≡ None → item_of (spoken line) ≡ None → (o : Option LineItem) → IsLine line o → ⊥
none_said line some none None (empty ascii e) = some_tokens (spoken line) some e
none_said line some none (Some i) (says j ascii s) = let one = read (spoken line) j s in cc

-- a line says one thing
pub one_line : (line : List ℕ) (o p : Option LineItem) → IsLine line o → IsLine line p → o ≡ p
one_line line None None (empty a e) (empty b f) = refl
one_line line None (Some j) (empty a e) (says i b s) = absurd (from_nothing (spoken line) i e (read (spoken line) i s))
one_line line (Some i) None (says j a s) (empty b e) = absurd (from_nothing (spoken line) j e (read (spoken line) j s))
one_line line (Some i) (Some j) (says x a s) (says y b t) = let one = read (spoken line) x s in let two = read (spoken line) y t in cc
