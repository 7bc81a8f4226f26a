-- The first part of a list, and the rest.
use Rattle.std.proofs.Common.{◌≡◌, ℕ, ◌+◌, ◌<◌, ◌≤◌, List, ◌∷◌, length, drop, get_or, Some, None, ap, ◌∙◌, []}
use Rattle.std.proofs.lemmas.List.{drop_all}
use Rattle.dae_base.proofs.Laws.{drop_at}
use Rattle.dae_base.specs.declared.Place.{Place}
use Rattle.dae_ir.specs.Code.{Do}
use Rattle.dae_ir.specs.declared.form.Item.TheVariants.{Assign, Break, Continue, Print, Return, Store}
use Rattle.dae_ir.specs.declared.form.Operand.{Operand}
use Rattle.dae_ir.specs.declared.form.Operand.TheVariants.{Variable, Number}
use Rattle.dae_ir.specs.declared.form.Value.TheVariants.{FrameAddress}
use Rattle.dae_lower.specs.Lowering.{Links, effect_of_some, emit, headed_loop, leave_unless, leave_unless_some, one, prints, settings, skip, statements, text_loop, ways, nowhere, zeros, ◌≫◌}
use Rattle.dae_lower_programs.proofs.Rows.{seam_one, seam_two}
use Rattle.dae_program.proofs.LawsOfTrees.{statements_at, statements_end}
use Rattle.dae_meaning.specs.declared.Spelling.TheVariants.{Byte}
use Rattle.dae_program.specs.declared.statements.FormatPiece.{FormatPiece}
use Rattle.dae_program.specs.declared.statements.FormatPiece.TheVariants as piece
use Rattle.dae_program.specs.declared.statements.Setting.{Setting}
use Rattle.dae_program.specs.declared.statements.Statement.{Statement}
use Rattle.dae_program.specs.declared.statements.Statement.TheVariants as statement
use Rattle.dae_program.specs.Printing.{argument}
use Rattle.dae_program.specs.Trees as tree
use Rattle.dae_program.specs.Views.{row_then, statement_then, view, view_settings, view_some, view_statements}

prints_first : (p : Place) (x : FormatPiece) (ps : List FormatPiece) (xs : List Operand) (n : ℕ) → prints p (x ∷ ps) xs n ≡ (prints p (x ∷ []) xs n ≫ λ u. prints p ps xs)
prints_first p (piece.Byte b) ps xs n = seam_one (emit (one p (Print Byte (Number b))) n) (prints p ps xs)
prints_first p (piece.Word spelling k) ps xs n = seam_one (emit (one p (Print spelling (argument (Number 0) xs k))) n) (prints p ps xs)
prints_first p (piece.String k) ps xs n = seam_one (text_loop p (argument (Number 0) xs k) n) (prints p ps xs)

pub prints_at : (p : Place) (ps : List FormatPiece) (xs : List Operand) (i : ℕ) (x : FormatPiece) → i < length ps → x ≡ get_or ps i x → (n : ℕ) → prints p (drop i ps) xs n ≡ (prints p (x ∷ []) xs n ≫ λ u. prints p (drop (i + 1) ps) xs)
prints_at p ps xs i x lt is n = ap (λ qs. prints p qs xs n) (drop_at ps i x lt is) ∙ prints_first p x (drop (i + 1) ps) xs n

pub prints_end : (p : Place) (ps : List FormatPiece) (xs : List Operand) (i : ℕ) → length ps ≤ i → prints p (drop i ps) xs ≡ skip
prints_end p ps xs i le = ap (λ qs. prints p qs xs) (drop_all i ps le)

settings_first : (l : Links) (p : Place) (v : ℕ) (x : Setting) (xs : List Setting) (n : ℕ) → settings l p v (view_settings (x ∷ xs)) n ≡ (settings l p v (view_settings (x ∷ [])) n ≫ λ u. settings l p v (view_settings xs))
settings_first l p v x xs n = seam_two ((ways l (view x.value)).value nowhere n) (λ y. emit (Do p (Assign v (FrameAddress x.offset)) (one p (Store x.width (Variable v) y)))) (settings l p v (view_settings xs))

pub settings_at : (l : Links) (p : Place) (v : ℕ) (xs : List Setting) (i : ℕ) (x : Setting) → i < length xs → x ≡ get_or xs i x → (n : ℕ) → settings l p v (view_settings (drop i xs)) n ≡ (settings l p v (view_settings (x ∷ [])) n ≫ λ u. settings l p v (view_settings (drop (i + 1) xs)))
settings_at l p v xs i x lt is n = ap (λ ys. settings l p v (view_settings ys) n) (drop_at xs i x lt is) ∙ settings_first l p v x (drop (i + 1) xs) n

pub settings_end : (l : Links) (p : Place) (v : ℕ) (xs : List Setting) (i : ℕ) → length xs ≤ i → settings l p v (view_settings (drop i xs)) ≡ skip
settings_end l p v xs i le = ap (λ ys. settings l p v (view_settings ys)) (drop_all i xs le)

statement_first : (l : Links) (s : Statement) (k : tree.Statements) (n : ℕ) → statements l (statement_then s k) n ≡ (statements l (statement_then s tree.Done) n ≫ λ u. statements l k)
statement_first l (statement.Evaluate p e) k n = seam_one _ (statements l k)
statement_first l (statement.Initialise p offset size items) k n = seam_one (emit (zeros p offset size n) (n + 2) ≫ λ x. settings l p n (view_settings items.items)) (statements l k)
statement_first l (statement.Print p xs pieces) k n = seam_one _ (statements l k)
statement_first l (statement.If' p e b s c t) k n = seam_one _ (statements l k)
statement_first l (statement.Loop' p test b body step) k n = seam_one (headed_loop p (λ o. leave_unless_some l p (view_some test) o ≫ λ x. statements l (row_then body tree.Done)) (effect_of_some l (view_some step)) n) (statements l k)
statement_first l (statement.Do' p b body test) k n = seam_one (headed_loop p (statements l (row_then body tree.Done)) (leave_unless l p (view test.value)) n) (statements l k)
statement_first l (statement.Switch' p e b arms) k n = seam_one _ (statements l k)
statement_first l (statement.Break p) k n = seam_one (emit (one p Break) n) (statements l k)
statement_first l (statement.Continue p) k n = seam_one (emit (one p Continue) n) (statements l k)
statement_first l (statement.Return p None) k n = seam_one (emit (one p (Return (Number 0))) n) (statements l k)
statement_first l (statement.Return p (Some e)) k n = seam_two ((ways l (view e.value)).value nowhere n) (λ x. emit (one p (Return x))) (statements l k)

pub made_at : (l : Links) (xs : List Statement) (i : ℕ) (x : Statement) → i < length xs → x ≡ get_or xs i x → (n : ℕ) → statements l (view_statements (drop i xs)) n ≡ (statements l (statement_then x tree.Done) n ≫ λ u. statements l (view_statements (drop (i + 1) xs)))
made_at l xs i x lt is n = ap (λ ss. statements l ss n) (statements_at xs i x lt is) ∙ statement_first l x (view_statements (drop (i + 1) xs)) n

pub made_end : (l : Links) (xs : List Statement) (i : ℕ) → length xs ≤ i → statements l (view_statements (drop i xs)) ≡ skip
made_end l xs i le = ap (statements l) (statements_end xs i le)
