-- Operands that are a node over a part.
use Rattle.std.proofs.Common.{◌≡◌, ℕ, ◌∙◌}
use Rattle.std.specs.Prelude.{Result, Ok, Err, IfOk}
use Rattle.dae_base.specs.declared.Place.{Place}
use Rattle.dae_tree.specs.declared.expressions.Expression.{Expression}
use Rattle.dae_tree.specs.Trees as tree
use Rattle.dae_tree.specs.Views.{view}
use Rattle.dae_tree.specs.Depth.{place_of}
use Rattle.dae_tree.specs.Grammar.{level}
use Rattle.dae_parse_grammar.specs.FirstPlaces.{Places, firsts, over}
use Rattle.dae_parse_parts.specs.declared.reading.Read.{Read}
use Rattle.dae_parse_parts.specs.Shown.{Holds, Shows, IsMade, box_value}
use Rattle.dae_parse_parts.proofs.Laws.{shows_node}
use Rattle.dae_parse_nodes.specs.declared.values.ReadOperand.{ReadOperand}
use Rattle.dae_parse_nodes.specs.Parts.{ShowsOperand}

pub operand_shown : {T B E : Type 0} (vt : T → B) (ft : B → Places) (make : T → Expression → Type 0) (p : Place) (l : ℕ) (part : Read T) (result : Result ReadOperand E) (b : B) (e : tree.Expression)
    → Shows vt ft part b → ((f : Places) → Holds part f → IfOk result (λ r. Holds r.read (over p f) × IsMade make part.tree (box_value r.read.tree)))
    → IfOk result (λ r. (r.level ≡ l) × (r.place ≡ p)) → over p (ft b) ≡ firsts e → l ≡ level e → p ≡ place_of e
    → ((t : T) (n : Expression) → make t n → vt t ≡ b → view n ≡ e) → IfOk result (λ r. ShowsOperand r e)
operand_shown vt ft make p l part (Err x) b e h node beside same le pe step = tt
operand_shown vt ft make p l part (Ok r) b e h node beside same le pe step = record {
  read = shows_node vt ft view firsts make p part r.read b e h node same step;
  level = beside.0 ∙ le;
  place = beside.1 ∙ pe;
}
