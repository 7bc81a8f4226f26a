-- What had a number keeps it as more words and literals get theirs.
use Rattle.std.proofs.Common.{ℕ, List, All}
use Rattle.std.proofs.lemmas.List.Elements.{All-weaker}
use Rattle.dae_tree.specs.Literals.{values_of, inside}
use Rattle.dae_tree.specs.declared.pieces.PieceKind.{PieceKind}
use Rattle.dae_tree.specs.declared.pieces.PieceKind.TheVariants as kinds
use Rattle.dae_lex.specs.declared.numbers.WordNumbers.{WordNumbers}
use Rattle.dae_lex.specs.declared.numbers.NumberedPiece.{NumberedPiece}
use Rattle.dae_lex.specs.declared.macros.Macros.{Macros}
use Rattle.dae_lex.specs.declared.output.Meaning.{Meaning as Meant}
use Rattle.dae_lex.specs.declared.output.Meaning.TheVariants as meanings
use Rattle.dae_lex.specs.declared.output.Output.{Output}
use Rattle.dae_lex.specs.Numbers.{IsName, IsNumberedBy, IsNumbered, Keeps, AreDefined}
use Rattle.dae_lex.specs.Settling.{IsMeant, AreRead}

pub keeps_same : (w : WordNumbers) → Keeps w w
keeps_same w = record { words = λ n s h. h; literals = λ n bs h. h }

pub keeps_on : (u v w : WordNumbers) → Keeps u v → Keeps v w → Keeps u w
keeps_on u v w a b = record {
  words = λ n s h. b.words n s (a.words n s h);
  literals = λ n bs h. b.literals n bs (a.literals n bs h);
}

module _ (v w : WordNumbers) (keeps : Keeps v w) where
  numbered_by : (kind : PieceKind) (n : ℕ) (spelling : List ℕ) → IsNumberedBy kind v n spelling → IsNumberedBy kind w n spelling
  numbered_by kinds.Blank n s h = tt
  numbered_by kinds.LineEnd n s h = tt
  numbered_by kinds.Word n s h = keeps.words n s h
  numbered_by (kinds.Constant c) n s h = tt
  numbered_by kinds.Text n s h = keeps.literals n (values_of (inside s)) h
  numbered_by (kinds.Mark m) n s h = tt
  numbered_by kinds.Hash n s h = tt
  numbered_by (kinds.Late c) n s h = tt
  numbered_by (kinds.Faulty f) n s h = tt
  numbered_by (kinds.FaultyComment f) n s h = tt

  pub numbered_still : (ps : List NumberedPiece) → All (IsNumbered v) ps → All (IsNumbered w) ps
  numbered_still ps h = All-weaker (IsNumbered v) (IsNumbered w) (λ p k. numbered_by p.piece.kind p.number p.piece.spelling.now k) ps h

  meant_still : (m : Meant) → IsMeant v m → IsMeant w m
  meant_still (meanings.Keyword k) h = tt
  meant_still (meanings.Sign s) h = tt
  meant_still (meanings.Name n s) h = keeps.words n s.now h
  meant_still (meanings.Constant c) h = tt
  meant_still (meanings.Literal n s) h = keeps.literals n (values_of s.now) h

  pub read_still : (out : Output) → AreRead v out → AreRead w out
  read_still out h = All-weaker (λ t. IsMeant v t.meaning) (λ t. IsMeant w t.meaning) (λ t k. meant_still t.meaning k) out.tokens.items h

  pub defined_still : (m : Macros) → AreDefined v m → AreDefined w m
  defined_still m h =
      All-weaker (λ e. IsName v e.0 e.1.name.now × All (IsNumbered v) e.1.body.items) (λ e. IsName w e.0 e.1.name.now × All (IsNumbered w) e.1.body.items)
      (λ e k. (keeps.words e.0 e.1.name.now k.0, numbered_still e.1.body.items k.1)) m.bodies.entries h
